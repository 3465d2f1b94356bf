-- The first line of some bytes, and the lines after it.
use Rattle.std.proofs.Common.{◌≡◌, ◌≤◌, length, ℕ, suc, ◌+◌, Bool, true, false, List, [], ◌∷◌, drop, take, refl, ap, ap₂, ◌∙◌, sym, arith, if◌then◌else◌, cond}
use Rattle.std.specs.Prelude.{not, ◌==◌}
use Rattle.std.specs.Str.{byte}
use Rattle.std.specs.List.{prefix_len}
use Rattle.std.proofs.lemmas.List.Folds.{length-prefix_len}
use Rattle.asm_tokens.specs.Tokens.{lines, with_byte_before}

-- n bytes are before the first newline
abbrev pub line_bytes : List ℕ → ℕ
line_bytes bs = prefix_len (λ b. not (b == byte "\n")) bs

step : (is_end : Bool) (b : ℕ) (rest : List ℕ) (n : ℕ) → lines rest ≡ take n rest ∷ lines (drop (n + 1) rest)
    → (if is_end then [] ∷ lines rest else with_byte_before b (lines rest)) ≡ take (cond (not is_end) (1 + n) 0) (b ∷ rest) ∷ lines (drop (cond (not is_end) (1 + n) 0 + 1) (b ∷ rest))
step true b rest n e = refl
step false b rest n e =
    let more : 1 + n ≡ suc n = omega arith in
    let behind : 1 + n + 1 ≡ suc (n + 1) = omega arith in
    ap (with_byte_before b) e ∙ ap₂ (λ k j. take k (b ∷ rest) ∷ lines (drop j (b ∷ rest))) (sym more) (sym behind)

pub first : (bs : List ℕ) → 1 ≤ length bs → lines bs ≡ take (line_bytes bs) bs ∷ lines (drop (line_bytes bs + 1) bs)
first [] some = absurd (omega arith)
first (b ∷ []) some = elim (b == byte "\n") as (λ t. (if t then [] ∷ [] else (b ∷ []) ∷ []) ≡ take (cond (not t) (1 + 0) 0) (b ∷ []) ∷ lines (drop (cond (not t) (1 + 0) 0 + 1) (b ∷ []))) [ true ↦ refl | false ↦ refl ]
first (b ∷ c ∷ bs) some = step (b == byte "\n") b (c ∷ bs) (line_bytes (c ∷ bs)) (first (c ∷ bs) (omega arith))

taken : (bs : List ℕ) (n : ℕ) → n ≡ line_bytes bs → length (take n bs) ≡ n
taken bs n e = ap (λ k. length (take k bs)) e ∙ length-prefix_len (λ b. not (b == byte "\n")) bs ∙ sym e

pub first_at : (bs : List ℕ) (n : ℕ) → 1 ≤ length bs → n ≡ line_bytes bs → lines bs ≡ take n bs ∷ lines (drop (length (take n bs) + 1) bs)
first_at bs n some e =
    first bs some
    ∙ ap (λ k. take k bs ∷ lines (drop (k + 1) bs)) (sym e)
    ∙ ap (λ k. take n bs ∷ lines (drop (k + 1) bs)) (sym (taken bs n e))
