use Rattle.std.proofs.Common.{◌++◌, [], ◌∷◌, sym, ap, ◌∙◌}
use Rattle.timing_state.proofs.Maps.{change_past}
use Rattle.timing_state.proofs.places.append_at.Goals as goal

pub returns-clause-items : goal.returns-clause-items
returns-clause-items g c =
    c.in-Ok.ensures.items
    ∙ ap (λ xs. xs ++ c.args.value ∷ []) c.extend.ensures.items
    ∙ sym (change_past c.args.fresh c.args.index c.args.value c.args.items.now.items c.requires.past)
