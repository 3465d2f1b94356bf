-- An instruction counts for one line, or for none: the one that, if selected, has it selected.
use Rattle.std.proofs.Common.{◌≡◌, ℕ, Bool, true, false, ◌||◌, ◌&&◌, ◌==◌, if◌then◌else◌, Option, Some, None, refl}
use Rattle.line_index.specs.Keys.{is_at}
use Rattle.timing_laws.specs.Noted.{note_of, is_charged, last_line}
use Rattle.timing_model.specs.Timing.{charges}
use Rattle.timed_guest.specs.Guest.{Timed, pc_of, line_at}
use Rattle.timed_guest.specs.Retire.{is_selected_by, line_counted}

-- its own line, whether it is charged, the last line, and the selected one
by_parts : (line : Option ℕ) (charged : Bool) (last : Option ℕ) (s : ℕ)
    → (is_at s line || (charged && is_charged line last (Some s))) ≡ is_at s (last_line line (if charged then last else None))
by_parts (Some j) charged last s = own (j == s) charged
  where
    own : (b c : Bool) → (b || (c && false)) ≡ b
    own true c = refl
    own false true = refl
    own false false = refl
by_parts None true (Some l) s = refl
by_parts None true None s = refl
by_parts None false last s = refl

pub counted_is : (t : Timed) (h s : ℕ) → is_selected_by (Some s) t h ≡ is_at s (line_counted t h)
counted_is t h s = by_parts (line_at t (pc_of t h)) (charges t.beside.timing.charge) (note_of t.beside.notes h).last s

none_by_parts : (line : Option ℕ) (charged : Bool) (last : Option ℕ) → (false || (charged && is_charged line last None)) ≡ false
none_by_parts (Some j) true last = refl
none_by_parts None true (Some l) = refl
none_by_parts None true None = refl
none_by_parts line false last = refl

-- with no selected line no instruction is selected
pub none_selected : (t : Timed) (h : ℕ) → is_selected_by None t h ≡ false
none_selected t h = none_by_parts (line_at t (pc_of t h)) (charges t.beside.timing.charge) (note_of t.beside.notes h).last
