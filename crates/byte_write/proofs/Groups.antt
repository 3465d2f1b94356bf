-- Groups of seven bits, written one after another.
use Rattle.std.proofs.Common.{◌≡◌, ◌≤◌, ◌<◌, ℕ, zero, suc, ◌+◌, ◌-◌, ◌/◌, ◌%◌, List, [], ◌∷◌, ◌++◌, ap, ◌∙◌, sym, arith, append_assoc}
use Rattle.byte_write.specs.Numbers.{groups}

groups_step : (j n : ℕ) → 2 ≤ j → groups j n ≡ (n % 128 + 128) ∷ groups (j - 1) (n / 128)
groups_step zero n some = absurd (omega arith)
groups_step (suc zero) n some = absurd (omega arith)
groups_step (suc (suc k)) n some =
    let one : suc k ≡ suc (suc k) - 1 = omega arith in
    ap (λ j. (n % 128 + 128) ∷ groups j (n / 128)) one

-- the loop's equation goes on over a group
pub over_group : (out : List ℕ) (count i n : ℕ) (all : List ℕ) → i < count → out ++ groups (count - i + 1) n ≡ all
    → (out ++ (n % 128 + 128) ∷ []) ++ groups (count - (i + 1) + 1) (n / 128) ≡ all
over_group out count i n all more kept =
    let less : count - i + 1 - 1 ≡ count - (i + 1) + 1 = omega arith in
    append_assoc out ((n % 128 + 128) ∷ []) (groups (count - (i + 1) + 1) (n / 128))
    ∙ ap (λ j. out ++ (n % 128 + 128) ∷ groups j (n / 128)) (sym less)
    ∙ ap (λ xs. out ++ xs) (sym (groups_step (count - i + 1) n (omega arith)))
    ∙ kept
