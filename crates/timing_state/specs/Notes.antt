-- The notes that are held, as the laws write them.
use Rattle.std.specs.Prelude.{List, map, Option, option_map}
use Rattle.timing_steps.specs.State.{number_of}
use Rattle.timing_laws.specs.Noted.{Note}
use Rattle.timing_state.specs.declared.notes.Note.{Note as HeldNote}

abbrev pub note_as : HeldNote → Note
note_as note = record { last = number_of note.last; count = note.count }

abbrev pub held_note : Option HeldNote → Option Note
held_note note = option_map note_as note

abbrev pub notes_of : List (Option HeldNote) → List (Option Note)
notes_of notes = map held_note notes
