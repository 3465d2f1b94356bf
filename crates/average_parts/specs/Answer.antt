-- What is known of an answer before it is written.
use Rattle.std.specs.Prelude.{◌≡◌, ℕ, ◌⊎◌, List, take, slice_get, Option, Some, None, IfSome, Result, Ok, Err, IfErr, IsErrAnd, IsSomeAnd}
use Rattle.coz_types.specs.Labels.{Text}
use Rattle.coz_files.specs.Faults.{Rose}
use Rattle.coz_files.specs.Held.{Held}
use Rattle.file_read.specs.declared.fault.FileFault.{FileFault}
use Rattle.file_read.specs.declared.fault.FileFault.TheVariants.{Usage, Read, Write}
use Rattle.file_read.specs.Faults.{file_status, file_line}
use Rattle.file_read.specs.Reading as reading
use Rattle.average_parts.specs.declared.fault.Fault.{Fault}
use Rattle.average_parts.specs.declared.table.Table.{Table}
use Rattle.average_parts.specs.declared.fault.Fault.TheVariants.{File, Profile, Unlike}
use Rattle.average_curves.specs.Texts.{averages_text}
use Rattle.average_parts.specs.Verdict.{Verdict, refusal, text_verdict, profile_line, unlike_line, parts_in, IsVerdict}

abbrev pub fault_status : Fault → ℕ
fault_status (File fault) = file_status fault
fault_status (Profile fault path) = 12
fault_status (Unlike kind path) = 14

-- the text of a fault, after the program's name
abbrev pub fault_line : Fault → Text
fault_line (File fault) = file_line fault
fault_line (Profile fault path) = profile_line path.now fault
fault_line (Unlike kind path) = unlike_line kind path.now

-- the fault, if it is one that each program may have
abbrev pub shared_fault : Fault → Option FileFault
shared_fault (File fault) = Some fault
shared_fault _ = None

abbrev pub fault_verdict : Fault → Verdict
fault_verdict fault = refusal (fault_status fault) (fault_line fault)

-- the result of a step, with the verdict of its fault
abbrev pub judged : {A B : Type 0} → (A → B) → Result A Fault → Result B Verdict
judged view (Ok value) = Ok (view value)
judged view (Err fault) = Err (fault_verdict fault)

-- the verdict of an answer
abbrev pub verdict_of : Result Table Fault → Verdict
verdict_of (Ok table) = text_verdict (averages_text table.averages)
verdict_of (Err fault) = fault_verdict fault

abbrev pub IsReadFault : Fault → Type 0
IsReadFault fault = IsSomeAnd (shared_fault fault) reading.IsReadFault

abbrev pub FailedToRead : {A : Type 0} → Result A Fault → Type 0
FailedToRead step = IsErrAnd step IsReadFault

abbrev pub IsMemoryFault : Fault → Type 0
IsMemoryFault fault = IsSomeAnd (shared_fault fault) reading.IsMemoryFault

abbrev pub IsMemory : {A : Type 0} → Result A Fault → Type 0
IsMemory step = IsErrAnd step IsMemoryFault

-- a step is the expected one, or a read that failed with a counted fault
abbrev pub Settles : {A B : Type 0} → (A → B) → Result B Verdict → ℕ → ℕ → Result A Fault → Type 0
Settles view expected before now step =
    (judged view step ≡ expected) ⊎ (FailedToRead step × Rose before now)

-- the path of a read that failed: each file before it holds a profile
pub record IsReadAt (paths : List Text) (told : Option Held) (path : Text) : Type 0 where
  pub place : ℕ
  pub at : slice_get paths place ≡ Some path
  pub before : IfSome told (λ held. IfErr (parts_in (take place paths) held) (λ _. ⊥))

-- the faults that the reading of a path's file may have
abbrev pub IsOfPath : Text → Fault → Type 0
IsOfPath path (File fault) = reading.IsOfPath path fault
IsOfPath path (Profile fault p) = p.now ≡ path
IsOfPath path _ = ⊥

-- the faults that the reading of the files of these paths may have
abbrev pub IsOfPaths : List Text → Option Held → Fault → Type 0
IsOfPaths paths told (File (Read path)) = IsReadAt paths told path.now
IsOfPaths paths told (File Usage) = ⊥
IsOfPaths paths told (File Write) = ⊥
IsOfPaths paths told _ = Unit {0}

-- which answers the words that name these paths, or none, may have
abbrev pub Suits : Option (List Text) → Option Held → Result Table Fault → Type 0
Suits None told (Err (File Usage)) = Unit {0}
Suits None told _ = ⊥
Suits (Some paths) told (Ok table) = Unit {0}
Suits (Some paths) told (Err fault) = IsOfPaths paths told fault

-- an answer is one of the verdict of the words, or that of a read that failed with a counted fault
abbrev pub IsSettled : List Text → Held → ℕ → ℕ → Result Table Fault → Type 0
IsSettled words held before now answer =
    IsVerdict words held (verdict_of answer) ⊎ (FailedToRead answer × Rose before now)
