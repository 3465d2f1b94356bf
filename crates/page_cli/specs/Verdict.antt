-- What the arguments give, with the files that the paths hold: a status, a text for the output
-- and a line for the errors, after the program's name.
use Rattle.std.specs.Prelude.{ℕ, List, [], codes, Option, Some, None, option_map, unwrap_or}
use Rattle.std.specs.List.{All}
use Rattle.coz_types.specs.Labels.{Text, path_of}
use Rattle.coz_files.specs.Held.{Held, file_at}
pub use Rattle.coz_files.specs.Verdict.{Verdict, bytes_of, refusal, text_verdict}
use Rattle.file_read.specs.Reading.{read_verdict}
use Rattle.profile_reader.specs.declared.TheConstants.{MAX_PROFILE}
use Rattle.profile_reader.specs.Grammar.{book_fault}
use Rattle.profile_reader.specs.Parsed.{parsed_profile}
use Rattle.profile_book.specs.declared.profile.Profile.{Profile as Book}
use Rattle.profile_reader.specs.declared.fault.BookFault.{BookFault}
use Rattle.profile_reader.specs.ItemNames.{book_line}
use Rattle.causal_curves.specs.declared.curve.Curve.{Curve}
use Rattle.timing_reader.specs.Reading.{timed_text}
use Rattle.page_words.specs.Words.{Request, request_in}
use Rattle.page_values.specs.Sources.{Answers, IsAnswer, source_in}
use Rattle.page_cli.specs.Page.{page_curves, page_text}

-- ---- the words

-- the path of the profile, if the words ask for a page
abbrev pub path_in : List Text → Option Text
path_in words = option_map (λ (asked : Request). asked.profile) (request_in words)

-- the folder of the source files, if the words name one
abbrev pub folder_of : Option Request → Option Text
folder_of None = None
folder_of (Some asked) = asked.source

-- ---- the profile

-- of the profile whose text it is, if the text has no fault
abbrev pub book_verdict : Request → Answers → Option BookFault → Book → Verdict
book_verdict asked answers None p = text_verdict (page_text asked answers p)
book_verdict asked answers (Some fault) p = refusal 12 (book_line fault)

abbrev pub profile_verdict : Request → Answers → Text → Verdict
profile_verdict asked answers bytes = book_verdict asked answers (book_fault bytes) (parsed_profile bytes)

-- of a file, in which the line of a machine may come first
abbrev pub file_verdict : Request → Answers → Text → Verdict
file_verdict asked answers bytes = profile_verdict asked answers (timed_text bytes).1

-- of the file of the path, which has at most 268,435,456 bytes
abbrev pub request_verdict : Option Request → Held → Answers → Verdict
request_verdict None held answers = refusal 2 (codes "usage")
request_verdict (Some asked) held answers =
    read_verdict MAX_PROFILE asked.profile (file_at held asked.profile)
    (file_verdict asked answers)

-- the verdict, if this is what the source files are; its status and line do not depend on them
abbrev pub verdict : List Text → Held → Answers → Verdict
verdict words held answers = request_verdict (request_in words) held answers

-- ---- the source files

-- the file of the path of each of these lines is the one below the folder, or has no bytes
-- because a read failed with a counted fault
abbrev pub AreSources : Held → Text → ℕ → ℕ → List Curve → Answers → Type 0
AreSources held folder before now curves answers =
    All (λ (c : Curve). IsAnswer (source_in held folder (path_of c.selected)) before now
    (answers (path_of c.selected))) curves

-- nothing is said if no folder is named
abbrev pub AreNamed : Option Text → Held → ℕ → ℕ → List Curve → Answers → Type 0
AreNamed None held before now curves answers = Unit {0}
AreNamed (Some folder) held before now curves answers =
    AreSources held folder before now curves answers

-- the profile that the bytes are the text of, after the line of a machine if they have one
abbrev pub book_of : Text → Book
book_of bytes = parsed_profile (timed_text bytes).1

-- the profile that the file of a path is the text of
abbrev pub book_at : Held → Text → Book
book_at held path = book_of (unwrap_or (file_at held path) [])

abbrev pub AreRead : Option Request → Held → ℕ → ℕ → Answers → Type 0
AreRead None held before now answers = Unit {0}
AreRead (Some asked) held before now answers =
    AreNamed asked.source held before now (page_curves asked.file (book_at held asked.profile))
    answers
