-- What the arguments give, with the files that the paths hold: a status, a text for the output
-- and a line for the errors, after the program's name.
use Rattle.std.specs.Prelude.{ℕ, List, codes, Option, None, Some}
use Rattle.coz_files.specs.Held.{Held}
use Rattle.coz_words.specs.declared.request.Request.{Request}
use Rattle.program_load.specs.Verdict.{Verdict, refusal}
use Rattle.coz_words.specs.Slow.{request_of}
use Rattle.coz_commands.specs.Verdict.{command_verdict}

-- of what the words ask for
abbrev pub request_verdict : Option Request → Held → Verdict
request_verdict None held = refusal 2 (codes "usage")
request_verdict (Some asked) held = command_verdict asked.command asked held

abbrev pub verdict : List (List ℕ) → Held → Verdict
verdict words held = request_verdict (request_of words) held
