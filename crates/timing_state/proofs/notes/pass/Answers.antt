use Rattle.std.proofs.Common.{ap, sym, None, ◌∙◌}
use Rattle.timing_laws.specs.Noted.{Note, last_line, noted}
use Rattle.timing_steps.specs.State.{number_of}
use Rattle.timing_state.proofs.Noting.{held_low, held_note_of, put_noted}
use Rattle.timing_state.proofs.notes.pass.Goals as goal

pub set-requires : goal.set-requires
set-requires c = record { held = held_low c.args.hart.0 c.in-Some.before c.args.notes.now (sym c.in-Some.is ∙ c.get.ensures) }

pub returns-clause-notes : goal.returns-clause-notes
returns-clause-notes c =
    put_noted c.args.hart.0 c.args.line c.noted-after.result _ c.args.notes.now c.set.new.self
    (c.noted-after.ensures.note ∙ ap (λ (n : Note). noted (number_of c.args.line) n) (held_note_of c.args.hart.0 c.in-Some.before c.args.notes.now (sym c.in-Some.is ∙ c.get.ensures))) (c.set.ensures None)

pub returns-clause-last : goal.returns-clause-last
returns-clause-last c =
    c.noted-after.ensures.last
    ∙ ap (λ (n : Note). last_line (number_of c.args.line) n.last) (held_note_of c.args.hart.0 c.in-Some.before c.args.notes.now (sym c.in-Some.is ∙ c.get.ensures))
