use Rattle.std.proofs.Common.{◌≡◌, ℕ, List, ◌++◌, ap, sym, subst, length, ◌<◌, ◌^◌, ◌∙◌}
use Rattle.image_write.specs.Unit.{unit_body, with_count}
use Rattle.image_write.proofs.Lengths.{body_small, unit_small}
use Rattle.image_write.proofs.unit.unit.Goals as goal

pub push_counted-requires : goal.push_counted-requires
push_counted-requires c = subst (λ xs. length xs < 2 ^ 32) (sym (c.as_slice.ensures.value ∙ c.in_ok-body.ensures)) (body_small c.args.lines.now c.args.name.now c.args.version c.requires.lines c.requires.name)

pub returns-clause-small : goal.returns-clause-small
returns-clause-small c =
    let body = c.as_slice.result.now in
    let is : c.push_counted.new.out.items ≡ with_count (unit_body c.args.lines.now c.args.name.now c.args.version) =
    c.in_ok-push_counted.ensures ∙ ap (λ (xs : List ℕ). xs ++ with_count body) c.new-out.ensures.items ∙ ap with_count (c.as_slice.ensures.value ∙ c.in_ok-body.ensures) in
    subst (λ xs. length xs < 2 ^ 33) (sym is) (unit_small c.args.lines.now c.args.name.now c.args.version c.requires.lines c.requires.name)
