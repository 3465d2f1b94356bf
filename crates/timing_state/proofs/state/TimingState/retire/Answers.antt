use Rattle.std.proofs.Common.{sym, ◌∙◌}
use Rattle.timing_state.specs.Held.{seats_of, turned}
use Rattle.timing_state.specs.Notes.{notes_of}
use Rattle.timing_steps.specs.State.{State}
use Rattle.timing_state.proofs.Kept.{kept, unkept}
use Rattle.timing_state.proofs.state.TimingState.retire.Goals as goal

pub returns-then-is_kept : goal.returns-then-is_kept
returns-then-is_kept c =
    let i = c.self.inside in
    let s : State = record { timing = i.timing; notes = notes_of i.notes; seats = seats_of i.seats } in
    let step = kept s c.args.retirement.now c.args.others.now c.args.self.now c.self.view_is (sym c.self.invariant.1 ∙ c.if-is_kept.true) (notes_of c.retire_in.new.notes) (turned c.retire_in.new.seats c.retire_in.result c.retire_in.new.others) c.retire_in.ensures.notes c.retire_in.ensures.turn in
    record { state = step.state; fate = step.turned_fate; others = step.turned_others }

pub returns : goal.returns
returns c =
    let i = c.self.inside in
    let s : State = record { timing = i.timing; notes = notes_of i.notes; seats = seats_of i.seats } in
    let step = unkept s c.args.retirement.now c.args.others.now c.args.self.now c.self.view_is (sym c.self.invariant.1 ∙ c.if-is_kept.false) in
    record { state = step.state; fate = step.turned_fate; others = step.turned_others }
