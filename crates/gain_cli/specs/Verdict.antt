-- What the arguments give, with the files that the paths hold: a status, a text for the output
-- and a line for the errors, after the program's name.
use Rattle.std.specs.Prelude.{◌≡◌, ℕ, List, ◌++◌, codes, nat_le, Option, None, Some, if◌then◌else◌}
use Rattle.coz_files.specs.Held.{Held}
pub use Rattle.program_load.specs.Verdict.{Verdict, refusal}
use Rattle.timing_model.specs.Timing.{usual}
use Rattle.timing_line.specs.Line.{timing_text}
use Rattle.gain_words.specs.declared.asked.GainRequest.{GainRequest}
use Rattle.gain_words.specs.Words.{gain_request}
use Rattle.run_inputs.specs.Verdict.{bytes_verdict}
use Rattle.coz_commands.specs.Verdict.{command_verdict, machine_verdict}

-- of a verdict that prints: its text comes after this one; a refusal is as it is
abbrev pub after_text : List ℕ → Verdict → Verdict
after_text text v = if nat_le v.status 1 then record v { text = text ++ v.text } else v

-- of the profile of a program on a machine, without the machine's line
abbrev pub profile_on : GainRequest → Held → Verdict
profile_on asked held =
    bytes_verdict asked.profile held (machine_verdict asked.timing asked.profile)

-- of a request: the profile comes after the line of its machine
abbrev pub gain_verdict : GainRequest → Held → Verdict
gain_verdict asked held = after_text (timing_text asked.timing) (profile_on asked held)

-- of what the words ask for
abbrev pub request_verdict : Option GainRequest → Held → Verdict
request_verdict None held = refusal 2 (codes "usage")
request_verdict (Some asked) held = gain_verdict asked held

abbrev pub verdict : List (List ℕ) → Held → Verdict
verdict words held = request_verdict (gain_request words) held

-- on the usual machine, what words come to is what the command `profile` comes to
abbrev pub UsualIsCoz : Type 0
UsualIsCoz =
    (words : List (List ℕ)) (asked : GainRequest) (held : Held)
    → gain_request words ≡ Some asked → asked.timing ≡ usual
    → verdict words held ≡ command_verdict asked.profile.command asked.profile held
