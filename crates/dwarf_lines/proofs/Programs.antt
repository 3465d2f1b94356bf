-- What a program's reading gives, and what its opcodes do, are the same.
use Rattle.std.proofs.Common.{◌≡◌, ℕ, zero, suc, ◌+◌, ◌<◌, Bool, true, false, not, List, [], ◌∷◌, ◌++◌, length, Result, Ok, Err, refl, sym, ap, subst, ◌∙◌, arith}
use Rattle.std.specs.List.{concat}
use Rattle.std.proofs.lemmas.List.{length-append}
use Rattle.leb_cursor.specs.Ahead.{Ahead, ◌>>=◌}
use Rattle.leb_cursor.proofs.Exact.{IsBytes, Consumes, ahead}
use Rattle.dwarf_lines.specs.declared.LineKind.{LineKind}
use Rattle.dwarf_lines.specs.declared.LineKind.TheVariants as kinds
use Rattle.dwarf_lines.specs.Registers.{Header, Operation, State, state_after, has_line, is_open}
use Rattle.dwarf_lines.specs.Spelling.{Spells, Goes}
use Rattle.dwarf_lines.specs.Reading.{check, operation, program}

-- the value of a step that did not fail
pub bind_ok : {A B E : Type 0} (r : Result A E) (f : A → Result B E) (y : B) → (r >>= f) ≡ Ok y → (x : A) × (r ≡ Ok x) × (f x ≡ Ok y)
bind_ok (Ok x) f y e = (x, refl, e)
bind_ok (Err d) f y e = absurd cc

pub wanted_ok : {X : Type 0} (holds : Bool) (kind : LineKind) (place : ℕ) (x y : X) → check holds kind place x ≡ Ok y → (holds ≡ true) × (x ≡ y)
wanted_ok true kind place x y e = (refl, cc)
wanted_ok false kind place x y e = absurd cc

not_true : (b : Bool) → not b ≡ true → b ≡ false
not_true true e = absurd cc
not_true false e = refl

module _ (h : Header)
    (takes : (a : Ahead) (op : Operation) (b : Ahead) → IsBytes a.bytes → operation h a ≡ Ok (op, b) → Consumes (Spells h op) a b)
    (begins : (op : Operation) (code : List ℕ) → Spells h op code → (o : ℕ) × (rest : List ℕ) × (code ≡ o ∷ rest))
  where
    shorter : (a b : Ahead) (op : Operation) → Consumes (Spells h op) a b → length b.bytes < length a.bytes
    shorter a b op c =
        let first = begins op c.code c.is in
        rw c.parts (omega (arith, length-append c.code b.bytes, ap (λ (x : List ℕ). length x) first.2))

    -- what is read is spelled so
    pub program_takes : (n : ℕ) (s t : State) (place : ℕ) (bytes : List ℕ) → IsBytes bytes → length bytes < n → program n h s (ahead place bytes) ≡ Ok t
        → (codes : List (List ℕ)) × (bytes ≡ concat codes) × Goes h codes s t × (is_open t.table.rows ≡ false)
    unfolding program
    program_takes zero s t place bytes fits lt e = absurd (omega arith)
    program_takes (suc n) s t place [] fits lt e =
        let w = wanted_ok (not (is_open s.table.rows)) kinds.Unended place s t e in
        ([], refl, sym w.1, subst (λ (x : State). is_open x.table.rows ≡ false) w.1 (not_true _ w.0))
    program_takes (suc n) s t place (b ∷ bs) fits lt e =
        let a : Ahead = ahead place (b ∷ bs) in
        let x = bind_ok (operation h a) (λ op. check (has_line h op.0 s) kinds.LineOut place (state_after h op.0 s) >>= λ next. program n h next op.1) t e in
        let op = x.0 in
        let y = bind_ok (check (has_line h op.0 s) kinds.LineOut place (state_after h op.0 s)) (λ next. program n h next op.1) t x.2 in
        let w = wanted_ok (has_line h op.0 s) kinds.LineOut place (state_after h op.0 s) y.0 y.1 in
        let c = takes a op.0 op.1 fits x.1 in
        let less = shorter a op.1 op.0 c in
        let more = program_takes n y.0 t op.1.place op.1.bytes c.rest (omega arith) y.2 in
        (c.code ∷ more.0, c.parts ∙ ap (λ (r : List ℕ). c.code ++ r) more.1, (op.0, c.is, w.0, subst (λ (x : State). Goes h more.0 x t) (sym w.1) more.2), more.3)

module _ (h : Header)
    (again : (op : Operation) (o : ℕ) (code rest : List ℕ) (place : ℕ) → Spells h op (o ∷ code) → operation h (ahead place ((o ∷ code) ++ rest)) ≡ Ok (op, ahead (place + suc (length code)) rest))
    (begins : (op : Operation) (code : List ℕ) → Spells h op code → (o : ℕ) × (rest : List ℕ) × (code ≡ o ∷ rest))
  where
    -- what is spelled so is read
    pub program_again : (n : ℕ) (codes : List (List ℕ)) (s t : State) (place : ℕ) → length (concat codes) < n → Goes h codes s t → is_open t.table.rows ≡ false
        → program n h s (ahead place (concat codes)) ≡ Ok t
    unfolding program
    program_again zero codes s t place lt goes closed = absurd (omega arith)
    program_again (suc n) [] s t place lt goes closed = rw (← goes, closed) refl
    program_again (suc n) (code ∷ codes) s t place lt goes closed =
        let op = goes.0 in
        let c = begins op code goes.1 in
        let spelled : Spells h op (c.0 ∷ c.1) = subst (Spells h op) c.2 goes.1 in
        let long : length (concat codes) < n = omega (arith, length-append code (concat codes), ap (λ (x : List ℕ). length x) c.2) in
        rw (c.2, again op c.0 c.1 (concat codes) place spelled, goes.2) (program_again n codes (state_after h op s) t (place + suc (length c.1)) long goes.3 closed)
