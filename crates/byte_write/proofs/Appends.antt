-- Bytes that are appended one after another.
use Rattle.std.proofs.Common.{◌≡◌, ◌≢◌, ℕ, Bool, List, [], ◌∷◌, ◌++◌, length, sym, ap, ◌∙◌, append_assoc, ne_eqb, Result, Ok, Err, IfOk, if◌then◌else◌, arith}
use Rattle.std.specs.Prelude.{is_ok}
use Rattle.byte_write.specs.Numbers.{uleb}
use Rattle.byte_write.specs.Programs.{advance_pc, end_sequence, line_program, row, rows, set_address}

two : (out a b x y : List ℕ) → x ≡ out ++ a → y ≡ x ++ b → y ≡ out ++ (a ++ b)
two out a b x y first second = second ∙ ap (λ (xs : List ℕ). xs ++ b) first ∙ append_assoc out a b

pub three : (out a b c x y z : List ℕ) → x ≡ out ++ a → y ≡ x ++ b → z ≡ y ++ c → z ≡ out ++ (a ++ (b ++ c))
three out a b c x y z first second third =
    two out a (b ++ c) x z first (two x b c y z second third)

-- the last part is appended if its call succeeds
pub four : {T E : Type 0} (result : Result T E) (out a b c d x y z new : List ℕ) → x ≡ out ++ a → y ≡ x ++ b → z ≡ y ++ c → new ≡ (if is_ok result then z ++ d else z)
    → IfOk result (λ _. new ≡ out ++ (a ++ (b ++ (c ++ d))))
four (Ok v) out a b c d x y z new first second third last = three out a b (c ++ d) x y new first second (two y c d z new third last)
four (Err e) out a b c d x y z new first second third last = tt

pub advanced : {T E : Type 0} (result : Result T E) (words n : ℕ) (out x new : List ℕ) → words ≢ 0 → n ≡ words → x ≡ out ++ 2 ∷ [] → IfOk result (λ _. new ≡ x ++ uleb n)
    → IfOk result (λ _. new ≡ out ++ advance_pc words)
advanced (Ok v) words n out x new some same first second =
    two out (2 ∷ []) (uleb n) x new first second
    ∙ ap (λ (m : ℕ). out ++ 2 ∷ uleb m) same
    ∙ ap (λ (none : Bool). out ++ (if none then [] else 2 ∷ uleb words)) (sym (ne_eqb words 0 some))
advanced (Err e) words n out x new some same first second = tt

-- two numbers stand in the place of others
pub replaced : (front a b rest end v x y new : List ℕ) → v ≡ front → x ≡ v ++ (a ++ (b ++ [])) → y ≡ x ++ rest → new ≡ y ++ end → new ≡ front ++ (a ++ (b ++ (rest ++ end)))
replaced front a b rest end v x y new first second third last =
    let tail = rest ++ end in
    two x rest end y new third last
    ∙ ap (λ (xs : List ℕ). xs ++ tail) (second ∙ ap (λ (xs : List ℕ). xs ++ (a ++ (b ++ []))) first)
    ∙ append_assoc front (a ++ (b ++ [])) tail
    ∙ ap (λ (xs : List ℕ). front ++ xs) (append_assoc a (b ++ []) tail ∙ ap (λ (xs : List ℕ). a ++ xs) (append_assoc b [] tail))

-- ---- the program of some words

pub no_words : {T E : Type 0} (result : Result T E) (start : ℕ) (lines out x new : List ℕ) → length lines ≡ 0 → x ≡ out ++ set_address start → new ≡ (if is_ok result then x ++ end_sequence else x)
    → IfOk result (λ _. new ≡ out ++ line_program start lines)
no_words (Ok v) start [] out x new none first last = two out (set_address start) end_sequence x new first last
no_words (Ok v) start (l ∷ more) out x new none first last = absurd (omega arith)
no_words (Err e) start lines out x new none first last = tt

pub some_words : {T E : Type 0} (result : Result T E) (start l : ℕ) (lines more out x y new : List ℕ) → lines ≡ l ∷ more → x ≡ out ++ set_address start → y ≡ x ++ row 0 1 l → IfOk result (λ _. new ≡ y ++ rows 1 l more)
    → IfOk result (λ _. new ≡ out ++ line_program start lines)
some_words (Ok v) start l lines more out x y new are first second third =
    two out (set_address start ++ row 0 1 l) (rows 1 l more) y new (two out (set_address start) (row 0 1 l) x y first second) third
    ∙ ap (λ (ls : List ℕ). out ++ line_program start ls) (sym are)
some_words (Err e) start l lines more out x y new are first second third = tt
