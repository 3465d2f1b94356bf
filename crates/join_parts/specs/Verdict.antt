-- The verdict of the arguments, with the files of their paths: a status, a text for the output
-- and a line for the errors, after the program's name.
use Rattle.std.specs.Prelude.{◌≡◌, ℕ, ◌⊎◌, Bool, true, false, List, [], ◌∷◌, ◌++◌, codes, get_or, map, Option, Some, None, Result, Ok, Err, if◌then◌else◌}
use Rattle.std.specs.List.{list_all}
use Rattle.coz_types.specs.Labels.{Text}
use Rattle.coz_types.specs.declared.ending.Ending.{Ending}
use Rattle.coz_types.specs.declared.ending.Ending.TheVariants.{Exited}
use Rattle.coz_types.specs.declared.record.Summary.{Summary}
use Rattle.coz_files.specs.Held.{Held, file_at}
pub use Rattle.coz_files.specs.Verdict.{Verdict, bytes_of, refusal}
use Rattle.file_read.specs.Reading.{file_in}
pub use Rattle.profile_book.specs.Profile.{profile_text}
use Rattle.profile_book.specs.Profile.{IsProfile}
use Rattle.profile_book.specs.declared.profile.Profile.{Profile as Book}
use Rattle.profile_reader.specs.declared.TheConstants.{MAX_PROFILE}
use Rattle.profile_reader.specs.Grammar.{book_fault}
use Rattle.profile_reader.specs.Parsed.{parsed_profile}
use Rattle.profile_reader.specs.declared.fault.BookFault.{BookFault}
use Rattle.profile_reader.specs.ItemNames.{book_line}
use Rattle.profile_join.specs.Parts.{IsJoin}
use Rattle.profile_join.specs.declared.fault.PartFault.{PartFault}
use Rattle.profile_join.specs.declared.fault.PartKind.{PartKind}
use Rattle.profile_join.specs.declared.fault.PartKind.TheVariants.{Budget, Points, Speedups, Baseline, Twice}
use Rattle.profile_join.specs.declared.fault.JoinError.TheVariants.{Unlike}
use Rattle.timing_model.specs.declared.timing.Timing.{Timing}
use Rattle.timing_line.specs.Line.{timing_text}
use Rattle.join_parts.specs.declared.part.Part.{Part}
use Rattle.timing_reader.specs.Reading.{timed_text}
use Rattle.join_parts.specs.Machines.{machine_of, unlike_part}
use Rattle.join_parts.specs.Words.{paths_in}

-- ---- a part

abbrev pub profile_line : Text → BookFault → Text
profile_line path fault = book_line fault ++ codes " in " ++ path

-- the profile of a machine whose text it is, if the text has no fault
abbrev pub book_in : Text → Timing → Option BookFault → Book → Result Part Verdict
book_in path t None p = Ok (record { timing = t; profile = p })
book_in path t (Some fault) p = Err (refusal 12 (profile_line path fault))

-- of a machine and the text after its line
abbrev pub timed_in : Text → Timing × Text → Result Part Verdict
timed_in path read = book_in path read.0 (book_fault read.1) (parsed_profile read.1)

abbrev pub book_of : Text → Result Text Verdict → Result Part Verdict
book_of path (Err refused) = Err refused
book_of path (Ok bytes) = timed_in path (timed_text bytes)

-- the profile in the file of a path, which has at most 268,435,456 bytes, and its machine
abbrev pub part_in : Text → Option Text → Result Part Verdict
part_in path file = book_of path (file_in MAX_PROFILE path file)

-- a part before others, if all are there
abbrev pub part_before : Result Part Verdict → Result (List Part) Verdict → Result (List Part) Verdict
part_before (Err refused) parts = Err refused
part_before (Ok part) (Err refused) = Err refused
part_before (Ok part) (Ok parts) = Ok (part ∷ parts)

-- the profiles in the files of these paths, or what is said of the first file that has none
abbrev pub parts_in : List Text → Held → Result (List Part) Verdict
parts_in [] held = Ok []
parts_in (path ∷ paths) held =
    part_before (part_in path (file_at held path)) (parts_in paths held)

-- ---- the joined profile

abbrev pub has_exited : Ending → Bool
has_exited (Exited code) = true
has_exited _ = false

-- 0 if each run exited, else 1
abbrev pub profile_status : Book → ℕ
profile_status p =
    if list_all (λ (s : Summary). has_exited s.outcome.ending) p.summaries then 0 else 1

-- of a profile of the usual machine
abbrev pub profile_verdict : Book → Verdict
profile_verdict p = record { status = profile_status p; text = profile_text p; line = [] }

-- of a profile of a machine, whose line comes first
abbrev pub timed_verdict : Timing → Book → Verdict
timed_verdict t p = record {
  status = profile_status p;
  text = timing_text t ++ profile_text p;
  line = [];
}

abbrev pub kind_text : PartKind → Text
kind_text Budget = codes "Budget"
kind_text Points = codes "Points"
kind_text Speedups = codes "Speedups"
kind_text Baseline = codes "Baseline"
kind_text (Twice label) = codes "Twice " ++ label

abbrev pub parts_line : PartKind → Text → Text
parts_line kind path = codes "parts: " ++ kind_text kind ++ codes " in " ++ path

-- the profiles of these paths are no parts of one: the status, and the path of the unlike part
abbrev pub unlike_verdict : List Text → PartFault → Verdict
unlike_verdict paths fault = refusal 14 (parts_line fault.kind (get_or paths fault.part []))

-- of the profile that these are parts of, all of this machine, or of their first fault
abbrev pub IsJoinVerdict : Timing → List Text → List Book → Verdict → Type 0
IsJoinVerdict t paths parts v =
    ((joined : Book) × IsJoin parts (Ok joined) × (v ≡ timed_verdict t joined))
    ⊎ ((fault : PartFault) × IsJoin parts (Err (Unlike fault)) × (v ≡ unlike_verdict paths fault))

-- ---- the machines

-- the profile is within the ranges and orders of profiles
abbrev pub IsRightPart : Part → Type 0
IsRightPart part = IsProfile part.profile

abbrev pub profiles_of : List Part → List Book
profiles_of parts = map (λ (p : Part). p.profile) parts

-- the profile of this path is of another machine than the first one
abbrev pub timing_fault_line : Text → Text
timing_fault_line path = codes "parts: Timing in " ++ path

-- of parts of which this is the first that is of another machine, if there is one
abbrev pub IsLikeVerdict : Option ℕ → List Text → List Part → Verdict → Type 0
IsLikeVerdict (Some place) paths parts v =
    v ≡ refusal 14 (timing_fault_line (get_or paths place []))
IsLikeVerdict None paths parts v = IsJoinVerdict (machine_of parts) paths (profiles_of parts) v

abbrev pub IsTimedVerdict : List Text → List Part → Verdict → Type 0
IsTimedVerdict paths parts v = IsLikeVerdict (unlike_part parts) paths parts v

-- ---- the words

abbrev pub IsPartsVerdict : List Text → Result (List Part) Verdict → Verdict → Type 0
IsPartsVerdict paths (Err refused) v = v ≡ refused
IsPartsVerdict paths (Ok parts) v = IsTimedVerdict paths parts v

abbrev pub IsPathsVerdict : Option (List Text) → Held → Verdict → Type 0
IsPathsVerdict None held v = v ≡ refusal 2 (codes "usage")
IsPathsVerdict (Some paths) held v = IsPartsVerdict paths (parts_in paths held) v

-- the verdict of these words, over files with these contents
abbrev pub IsVerdict : List Text → Held → Verdict → Type 0
IsVerdict words held v = IsPathsVerdict (paths_in words) held v
