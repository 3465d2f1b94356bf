-- What is printed: a text with a status.
use Rattle.std.specs.Prelude.{ℕ, List, [], flat_map, Bool, true, false, if◌then◌else◌}
use Rattle.coz_types.specs.declared.ending.Ending.{Ending}
use Rattle.coz_types.specs.declared.ending.Ending.TheVariants.{Exited}
use Rattle.coz_files.specs.Verdict.{Verdict}
use Rattle.profile_book.specs.Profile.{profile_text}
use Rattle.causal_curves.specs.Texts.{curve_text}
use Rattle.path_texts.specs.PathText.{written_path}
use Rattle.command_texts.specs.declared.printed.Printed.{Printed}
use Rattle.command_texts.specs.declared.printed.Text.{Text}
use Rattle.command_texts.specs.declared.printed.Text.TheVariants as texts

abbrev pub has_exited : Ending → Bool
has_exited (Exited code) = true
has_exited _ = false

abbrev pub ending_status : Ending → ℕ
ending_status ending = if has_exited ending then 0 else 1

-- of a run that came to this end, by its text
abbrev pub ended_verdict : Ending → List ℕ → Verdict
ended_verdict ending text = record { status = ending_status ending; text = text; line = [] }

-- the bytes that a text is
abbrev pub text_bytes : Text → List ℕ
text_bytes (texts.Bytes bytes) = bytes.items
text_bytes (texts.Profile profile) = profile_text profile
text_bytes (texts.Curves curves) = flat_map curve_text curves
text_bytes (texts.Path path index) = written_path path index

abbrev pub printed_verdict : Printed → Verdict
printed_verdict printed = record {
  status = printed.status;
  text = text_bytes printed.text;
  line = [];
}
