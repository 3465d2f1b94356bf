use Rattle.std.proofs.Common.{ℕ, [], ◌∷◌, ◌-◌, ◌++◌, ◌∙◌, ap}
use Rattle.byte_write.specs.Numbers.{leb}
use Rattle.byte_write.proofs.Appends.{three}
use Rattle.byte_write.proofs.sequence.push_line.Goals as goal

pub returns : goal.returns
returns c =
    let out = c.push_operation.new.out.items in
    three c.args.out.now.items (4 ∷ leb c.args.file) (3 ∷ leb (c.args.number - 1)) (1 ∷ []) _ _ _
    c.in_ok-push_operation.ensures
    (c.in_ok-push_operation-2.ensures ∙ ap (λ (n : ℕ). out ++ 3 ∷ leb (n - 1)) c.from.ensures)
    c.in_ok-push.ensures.items
