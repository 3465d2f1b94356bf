use Rattle.std.proofs.Common.{◌≡◌, ℕ, ◌+◌, List, [], ◌++◌, length, sym, ap, ◌∙◌, append_assoc}
use Rattle.byte_write.specs.Numbers.{half, word}
use Rattle.line_write.specs.Unit.{body, with_count}
use Rattle.line_write.proofs.Lengths.{length-body}
use Rattle.line_write.proofs.unit.Goals as goal

joined : (header program v w x y z : List ℕ) → v ≡ [] → w ≡ v ++ word (6 + length header + length program) → x ≡ w ++ half 4 → y ≡ x ++ with_count header → z ≡ y ++ program → z ≡ with_count (body header program)
joined header program v w x y z none first second third fourth =
    let count = word (6 + length header + length program) in
    fourth
    ∙ ap (λ (xs : List ℕ). xs ++ program) (third ∙ ap (λ (xs : List ℕ). xs ++ with_count header) (second ∙ ap (λ (xs : List ℕ). xs ++ half 4) (first ∙ ap (λ (xs : List ℕ). xs ++ count) none)))
    ∙ append_assoc (count ++ half 4) (with_count header) program
    ∙ append_assoc count (half 4) (with_count header ++ program)
    ∙ ap (λ (n : ℕ). word n ++ body header program) (sym (length-body header program))

pub returns : goal.returns
returns c =
    joined c.args.header.now c.args.program.now _ _ _ _ _ c.new-out.ensures.items c.in_ok-push_word.ensures c.in_ok-push_half.ensures c.in_ok-push_counted.ensures c.in_ok-extend_from_slice.ensures.items
