use Rattle.std.proofs.Common.{◌||◌, Bool, nat_eq, sym, ap, ◌∙◌}
use Rattle.std.specs.List.{list_any}
use Rattle.timing_state.proofs.InLine.{in_parts}
use Rattle.timing_state.proofs.ready.Ready.contains.Goals as goal

pub returns-then-contains : goal.returns-then-contains
returns-then-contains c =
    c.if-contains.true
    ∙ ap (λ (b : Bool). b || list_any (λ y. nat_eq y c.args.hart.0) c.as_slices.result.1.now) (sym c.if-contains.true ∙ c.contains.ensures.value)
    ∙ in_parts c.args.hart.0 c.as_slices.result.0.now c.as_slices.result.1.now c.args.self.now (c.as_slices.ensures ∙ c.self.view_is)

pub returns-else-contains : goal.returns-else-contains
returns-else-contains c =
    c.contains-else-contains.ensures.value
    ∙ ap (λ (b : Bool). b || list_any (λ y. nat_eq y c.args.hart.0) c.as_slices.result.1.now) (sym c.if-contains.false ∙ c.contains.ensures.value)
    ∙ in_parts c.args.hart.0 c.as_slices.result.0.now c.as_slices.result.1.now c.args.self.now (c.as_slices.ensures ∙ c.self.view_is)
