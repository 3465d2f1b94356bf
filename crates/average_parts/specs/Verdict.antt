-- The verdict of the arguments, with the files of their paths: a status, a text for the output
-- and a line for the errors, after the program's name.
use Rattle.std.specs.Prelude.{◌≡◌, List, [], ◌∷◌, ◌++◌, codes, get_or, Option, Some, None, Result, Ok, Err}
use Rattle.coz_types.specs.Labels.{Text}
use Rattle.coz_files.specs.Held.{Held, file_at}
pub use Rattle.coz_files.specs.Verdict.{Verdict, bytes_of, refusal, text_verdict}
use Rattle.file_read.specs.Reading.{file_in}
use Rattle.profile_book.specs.Profile.{IsProfile}
use Rattle.profile_book.specs.declared.profile.Profile.{Profile as Book}
use Rattle.profile_reader.specs.declared.TheConstants.{MAX_PROFILE}
use Rattle.profile_reader.specs.Grammar.{book_fault}
use Rattle.profile_reader.specs.Parsed.{parsed_profile}
use Rattle.profile_reader.specs.declared.fault.BookFault.{BookFault}
use Rattle.profile_reader.specs.ItemNames.{book_line}
use Rattle.timing_model.specs.declared.timing.Timing.{Timing}
use Rattle.timing_reader.specs.Reading.{timed_text}
use Rattle.average_curves.specs.Curves.{averages_of}
use Rattle.average_curves.specs.Texts.{averages_text}
use Rattle.average_parts.specs.declared.fault.UnlikeKind.{UnlikeKind}
use Rattle.average_parts.specs.declared.fault.UnlikeKind.TheVariants.{Timing as TimingKind, Seed, Budget, Points, Pairs}
use Rattle.average_parts.specs.declared.likeness.Unlike.{Unlike}
use Rattle.average_parts.specs.declared.part.Part.{Part}
use Rattle.average_parts.specs.Likeness.{averaged_of, unlike_part}
use Rattle.average_parts.specs.Words.{paths_in}

-- ---- a part

abbrev pub profile_line : Text → BookFault → Text
profile_line path fault = book_line fault ++ codes " in " ++ path

-- the profile of a machine whose text it is, if the text has no fault
abbrev pub book_in : Text → Timing → Option BookFault → Book → Result Part Verdict
book_in path t None p = Ok (record { timing = t; profile = p })
book_in path t (Some fault) p = Err (refusal 12 (profile_line path fault))

-- of a machine and the text after its line
abbrev pub timed_in : Text → Timing × Text → Result Part Verdict
timed_in path read = book_in path read.0 (book_fault read.1) (parsed_profile read.1)

abbrev pub book_of : Text → Result Text Verdict → Result Part Verdict
book_of path (Err refused) = Err refused
book_of path (Ok bytes) = timed_in path (timed_text bytes)

-- the profile in the file of a path, which has at most 268,435,456 bytes, and its machine
abbrev pub part_in : Text → Option Text → Result Part Verdict
part_in path file = book_of path (file_in MAX_PROFILE path file)

-- a part before others, if all are there
abbrev pub part_before : Result Part Verdict → Result (List Part) Verdict → Result (List Part) Verdict
part_before (Err refused) parts = Err refused
part_before (Ok part) (Err refused) = Err refused
part_before (Ok part) (Ok parts) = Ok (part ∷ parts)

-- the profiles in the files of these paths, or what is said of the first file that has none
abbrev pub parts_in : List Text → Held → Result (List Part) Verdict
parts_in [] held = Ok []
parts_in (path ∷ paths) held =
    part_before (part_in path (file_at held path)) (parts_in paths held)

-- ---- the averages

abbrev pub kind_text : UnlikeKind → Text
kind_text TimingKind = codes "Timing"
kind_text Seed = codes "Seed"
kind_text Budget = codes "Budget"
kind_text Points = codes "Points"
kind_text Pairs = codes "Pairs"

abbrev pub unlike_line : UnlikeKind → Text → Text
unlike_line kind path = codes "unlike: " ++ kind_text kind ++ codes " in " ++ path

-- the profile is within the ranges and orders of profiles
abbrev pub IsRightPart : Part → Type 0
IsRightPart part = IsProfile part.profile

-- the text of the averages of these profiles, if none is unlike those before it
abbrev pub averages_verdict : Option Unlike → List Text → List Part → Verdict
averages_verdict None paths parts = text_verdict (averages_text (averages_of (averaged_of parts)))
averages_verdict (Some unlike) paths parts =
    refusal 14 (unlike_line unlike.kind (get_or paths unlike.part []))

abbrev pub parts_verdict : List Text → List Part → Verdict
parts_verdict paths parts = averages_verdict (unlike_part parts) paths parts

-- ---- the words

abbrev pub IsPartsVerdict : List Text → Result (List Part) Verdict → Verdict → Type 0
IsPartsVerdict paths (Err refused) v = v ≡ refused
IsPartsVerdict paths (Ok parts) v = v ≡ parts_verdict paths parts

abbrev pub IsPathsVerdict : Option (List Text) → Held → Verdict → Type 0
IsPathsVerdict None held v = v ≡ refusal 2 (codes "usage")
IsPathsVerdict (Some paths) held v = IsPartsVerdict paths (parts_in paths held) v

-- the verdict of these words, over files with these contents
abbrev pub IsVerdict : List Text → Held → Verdict → Type 0
IsVerdict words held v = IsPathsVerdict (paths_in words) held v
