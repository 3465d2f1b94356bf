use Rattle.std.proofs.Common.{ap, ◌∙◌}
use Rattle.timing_laws.specs.Noted.{Note, last_line, noted}
use Rattle.timing_steps.specs.State.{number_of}
use Rattle.timing_state.proofs.Noting.{put_noted}
use Rattle.timing_state.proofs.notes.pass_any.Goals as goal

pub returns-clause-notes : goal.returns-clause-notes
returns-clause-notes c =
    put_noted c.args.hart.0 c.args.line c.noted-after.result _ c.args.notes.now c.put.new.self
    (c.noted-after.ensures.note ∙ ap (λ (n : Note). noted (number_of c.args.line) n) c.note_of-before.ensures) c.put.ensures

pub returns-clause-last : goal.returns-clause-last
returns-clause-last c = c.noted-after.ensures.last ∙ ap (λ (n : Note). last_line (number_of c.args.line) n.last) c.note_of-before.ensures
