use Rattle.std.proofs.Common.{◌≡◌, None, map, drop}
use Rattle.coz_types.specs.declared.HartId.{HartId}
use Rattle.machines.specs.Places.{change_each}
use Rattle.timing_laws.specs.Noted.{made}
use Rattle.timing_steps.specs.State.{number_of}
use Rattle.timing_state.specs.Notes.{notes_of}
use Rattle.timing_state.proofs.notes.note_made.Given as goal

abbrev pub invariant-loop-i : goal.invariant-loop-i
invariant-loop-i l =
    change_each None (drop l.i (map (λ (hart : HartId). hart.0) l.harts)) (λ _. made (number_of l.last)) (notes_of l.notes)
    ≡ change_each None (map (λ (hart : HartId). hart.0) l.harts) (λ _. made (number_of l.last)) (notes_of l.initial.notes)
