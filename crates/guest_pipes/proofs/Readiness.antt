-- How many bytes a read or a write takes or puts if it finds that it can.
use Rattle.std.proofs.Common.{ℕ, ◌≡◌, ◌≤◌, Bool, true, false, not, ◌==◌, min, nat_lt, if◌then◌else◌, length, Option, Some, None, ap, ◌∙◌, arith}
use Rattle.guest_pipes.specs.declared.TheConstants.{ATOMIC_BYTES}
use Rattle.guest_pipes.specs.declared.ends.End.{End}
use Rattle.guest_pipes.specs.declared.ends.PipeEnd.{PipeEnd}
use Rattle.guest_pipes.specs.declared.ends.PipeEnd.TheVariants.{Reading, Writing}
use Rattle.guest_pipes.specs.declared.Ready.{Ready}
use Rattle.guest_pipes.specs.declared.Ready.TheVariants.{Now, Closed, Wait}
use Rattle.guest_pipes.specs.Pipes.{PipeMap, is_kind, is_open, end_of, end_at, kind_at, end_or_none, this_end, held, room, read_readiness, write_readiness, readiness}

kind_of : (o : Option End) (kind : PipeEnd) → (elim o as (λ _. Option PipeEnd) [ None ↦ None | Some e ↦ Some e.kind ]) ≡ Some kind → (end_or_none o).kind ≡ kind
kind_of None kind e = absurd (let no : ◌≡◌ {A = Option PipeEnd} None (Some kind) = e in cc)
kind_of (Some end) kind e = let is : Some end.kind ≡ Some kind = e in cc

pub kind_is : (number : ℕ) (kind : PipeEnd) (p : PipeMap) → kind_at number p ≡ Some kind → (this_end number p).kind ≡ kind
kind_is number kind p e = kind_of (end_at number p) kind e

taken_now : (b c : Bool) (m n : ℕ) → Now n ≡ (if b then Now m else if c then Wait else Closed) → n ≡ m
taken_now true c m n e = let is : Now n ≡ Now m = e in cc
taken_now false true m n e = absurd (let no : Now n ≡ Wait = e in cc)
taken_now false false m n e = absurd (let no : Now n ≡ Closed = e in cc)

put_now : (b c : Bool) (m n : ℕ) → Now n ≡ (if b then Closed else if c then Wait else Now m) → n ≡ m
put_now true c m n e = absurd (let no : Now n ≡ Closed = e in cc)
put_now false true m n e = absurd (let no : Now n ≡ Wait = e in cc)
put_now false false m n e = let is : Now n ≡ Now m = e in cc

by_kind : PipeEnd → ℕ → ℕ → PipeMap → Ready
by_kind kind number count p = if is_kind kind Reading then read_readiness number count p else write_readiness number count p

pub read_few : (number count n : ℕ) (p : PipeMap) → kind_at number p ≡ Some Reading → Now n ≡ readiness number count p → n ≤ length (held number p)
unfolding by_kind
read_few number count n p reads now =
    let is : Now n ≡ read_readiness number count p = now ∙ ap (λ (k : PipeEnd). by_kind k number count p) (kind_is number Reading p reads) in
    let least : n ≡ min count (length (held number p)) = taken_now (not (length (held number p) == 0)) (is_open (end_of (this_end number p).pipe Writing) p.ends) (min count (length (held number p))) n is in
    omega arith

pub record IsRoom (number count n : ℕ) (p : PipeMap) : Type 0 where
  pub fits : n ≤ room number p
  pub less : n ≤ count

pub write_few : (number count n : ℕ) (p : PipeMap) → kind_at number p ≡ Some Writing → Now n ≡ readiness number count p → IsRoom number count n p
unfolding by_kind
write_few number count n p writes now =
    let is : Now n ≡ write_readiness number count p = now ∙ ap (λ (k : PipeEnd). by_kind k number count p) (kind_is number Writing p writes) in
    let least : n ≡ min count (room number p) = put_now (not (is_open (end_of (this_end number p).pipe Reading) p.ends)) (nat_lt (room number p) (min count ATOMIC_BYTES)) (min count (room number p)) n is in
    record { fits = omega arith; less = omega arith }
