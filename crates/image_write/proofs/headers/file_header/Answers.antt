use Rattle.std.proofs.Common.{◌≡◌, ℕ, List, ◌++◌, ap, ◌∙◌}
use Rattle.byte_write.specs.Numbers.{half, word, double}
use Rattle.image_write.specs.File.{file_header}
use Rattle.image_write.proofs.headers.file_header.Goals as goal

five : (a b c d e v w x y z : List ℕ) → v ≡ a → w ≡ v ++ b → x ≡ w ++ c → y ≡ x ++ d → z ≡ y ++ e → z ≡ (((a ++ b) ++ c) ++ d) ++ e
five a b c d e v w x y z first second third fourth fifth =
    fifth
    ∙ ap (λ (xs : List ℕ). xs ++ e) fourth
    ∙ ap (λ (xs : List ℕ). (xs ++ d) ++ e) third
    ∙ ap (λ (xs : List ℕ). ((xs ++ c) ++ d) ++ e) second
    ∙ ap (λ (xs : List ℕ). (((xs ++ b) ++ c) ++ d) ++ e) first

pub returns : goal.returns
unfolding file_header half word double
returns c =
    five _ _ _ _ _ _ _ _ _ _ c.in_ok-out.ensures.items c.in_ok-push_places.ensures c.in_ok-extend_from_slice.ensures.items c.in_ok-push_half.ensures c.in_ok-extend_from_slice-2.ensures.items
