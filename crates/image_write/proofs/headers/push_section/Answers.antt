use Rattle.std.proofs.Common.{◌≡◌, ℕ, List, ◌++◌, ap, ◌∙◌, append_assoc, IfOk, Result, Ok, Err}
use Rattle.byte_write.specs.Numbers.{word, double}
use Rattle.image_write.specs.File.{section}
use Rattle.image_write.proofs.headers.push_section.Goals as goal

joined : {T E : Type 0} (result : Result T E) (out a b c x y new : List ℕ) → x ≡ out ++ a → y ≡ x ++ b → IfOk result (λ _. new ≡ y ++ c) → IfOk result (λ _. new ≡ out ++ (a ++ (b ++ c)))
joined (Ok v) out a b c x y new first second third =
    third
    ∙ ap (λ (xs : List ℕ). xs ++ c) (second ∙ ap (λ (xs : List ℕ). xs ++ b) first ∙ append_assoc out a b)
    ∙ append_assoc out (a ++ b) c
    ∙ ap (λ (xs : List ℕ). out ++ xs) (append_assoc a b c)
joined (Err e) out a b c x y new first second third = tt

pub returns : goal.returns
unfolding section word double
returns c =
    joined c.push_doubles.result c.args.out.now.items (word c.args.name) (word c.args.kind) _ _ _ _ c.in_ok-push_word.ensures c.in_ok-push_word-2.ensures c.push_doubles.ensures
