-- The labels of a line, one by one, and the statement after them.
use Rattle.std.proofs.Common.{◌≡◌, ◌≤◌, length, ℕ, List, [], ◌∷◌, drop, refl, Option, Some, None, option_map, Ok, ap, ◌∙◌, arith}
use Rattle.asm_tokens.specs.declared.line.TokenError.{TokenError}
use Rattle.asm_tokens.specs.declared.line.TokenError.TheVariants as errors
use Rattle.asm_tokens.specs.Tokens.{Read, ◌>>=◌, Placed}
use Rattle.rv_asm.specs.Statements.{Use}
use Rattle.rv_asm.specs.Assembled.{State, with_label, with_statement, label_in, take_tokens}
use Rattle.asm_tokens.specs.Views.{FailsLine}
use Rattle.rv_asm.specs.Views.{label_front}

module _ (line end : ℕ) where
  pick : (t c : Placed) (ts : List Placed) (s : State) → Option (List ℕ) → Read State
  pick t c ts s (Some name) = with_label name t.column s >>= λ more. take_tokens line end ts more
  pick t c ts s None = with_statement line end t (c ∷ ts) s

  two : (t c : Placed) (ts : List Placed) (s : State) → take_tokens line end (t ∷ c ∷ ts) s ≡ pick t c ts s (label_in t.token c.token)
  unfolding take_tokens pick
  two t c ts s = refl

  use_in : Placed → Option (List ℕ) → Option Use
  use_in t o = option_map (λ name. record { name = name; column = t.column }) o

  picked : (t c : Placed) (ts : List Placed) (s : State) (u : Use) (o : Option (List ℕ)) → use_in t o ≡ Some u → pick t c ts s o ≡ (with_label u.name u.column s >>= λ more. take_tokens line end ts more)
  unfolding pick use_in
  picked t c ts s u None e = absurd cc
  picked t c ts s u (Some name) e =
      let same : record { name = name; column = t.column } ≡ u = cc in
      ap (λ w. with_label w.name w.column s >>= λ more. take_tokens line end ts more) same

  -- a label, and what follows it
  pub over_label : (ts : List Placed) (u : Use) (s : State) → label_front ts ≡ Some u → take_tokens line end ts s ≡ (with_label u.name u.column s >>= λ more. take_tokens line end (drop 2 ts) more)
  unfolding use_in
  over_label [] u s e = absurd cc
  over_label (t ∷ []) u s e = absurd cc
  over_label (t ∷ c ∷ ts) u s e = two t c ts s ∙ picked t c ts s u (label_in t.token c.token) e

  not_picked : (t c : Placed) (ts : List Placed) (s : State) (o : Option (List ℕ)) → use_in t o ≡ None → pick t c ts s o ≡ with_statement line end t (c ∷ ts) s
  unfolding pick use_in
  not_picked t c ts s None e = refl
  not_picked t c ts s (Some name) e = absurd cc

  -- no label: a statement
  pub at_statement : (t : Placed) (ts : List Placed) (s : State) → label_front (t ∷ ts) ≡ None → take_tokens line end (t ∷ ts) s ≡ with_statement line end t ts s
  unfolding use_in take_tokens
  at_statement t [] s e = refl
  at_statement t (c ∷ ts) s e = two t c ts s ∙ not_picked t c ts s (label_in t.token c.token) e

  pub at_end : (s : State) → take_tokens line end [] s ≡ Ok s
  unfolding take_tokens
  at_end s = refl

pub two_left : (ts : List Placed) (u : Use) → label_front ts ≡ Some u → 2 ≤ length ts
two_left [] u e = absurd cc
two_left (t ∷ []) u e = absurd cc
two_left (t ∷ c ∷ ts) u e = omega arith

-- what fails at its first part fails as a whole
pub fails_then : {A B : Type 0} (e : TokenError) (read : Read A) (f : A → Read B) → FailsLine e read → FailsLine e (read >>= f)
fails_then errors.Memory read f h = tt
fails_then (errors.Fault kind column) read f h = ap (λ r. r >>= f) h

pub none_left : (line end : ℕ) (ts : List Placed) (s : State) → length ts ≡ 0 → take_tokens line end ts s ≡ Ok s
none_left line end [] s e = at_end line end s
none_left line end (t ∷ ts) s e = absurd (omega arith)
