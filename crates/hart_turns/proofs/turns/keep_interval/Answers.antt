use Rattle.std.proofs.Common.{Option, ◌++◌, ap, sym, ◌∙◌, option_to_list}
use Rattle.hart_states.specs.declared.change.Interval.{Interval}
use Rattle.hart_turns.specs.Firsts.{held, with_item}
use Rattle.hart_turns.proofs.Holding.{holds_more}
use Rattle.hart_turns.proofs.turns.keep_interval.Goals as goal

pub returns-in-Some : goal.returns-in-Some
returns-in-Some c = λ room all is.
    c.add.ensures ∙ ap (with_item c.in-Some.interval) is ∙ holds_more all c.in-Some.interval room
    ∙ ap (λ (o : Option Interval). held room (all ++ option_to_list o)) (sym c.in-Some.is ∙ c.ended.ensures)
