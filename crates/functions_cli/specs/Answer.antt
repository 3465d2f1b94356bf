-- What is known of an answer before it is written.
use Rattle.std.specs.Prelude.{◌≡◌, ℕ, ◌⊎◌, List, Option, Some, None, Result, Ok, Err, IsErrAnd}
use Rattle.std.specs.Global.{Vec}
use Rattle.coz_types.specs.Labels.{Text}
use Rattle.coz_files.specs.Faults.{Rose}
use Rattle.coz_files.specs.Held.{Held}
use Rattle.file_read.specs.declared.fault.FileFault.{FileFault}
use Rattle.file_read.specs.declared.fault.FileFault.TheVariants.{Usage, Read, Write, Long, Memory}
use Rattle.program_load.specs.Answer as steps
use Rattle.program_load.specs.declared.fault.Fault.{Fault as StepFault}
use Rattle.program_load.specs.declared.fault.Fault.TheVariants.{File, NoLine}
use Rattle.line_regions.specs.declared.lines.Region.{Region as coded}
use Rattle.line_regions.specs.Regions.{Region, regions_of}
use Rattle.functions_cli.specs.declared.fault.Fault.{Fault}
use Rattle.functions_cli.specs.declared.fault.Fault.TheVariants.{Step, Functions}
use Rattle.functions_cli.specs.Words.{Request}
use Rattle.functions_cli.specs.Verdict.{Verdict, refusal, refusal_text, text_verdict, IsVerdict}

abbrev pub fault_status : Fault → ℕ
fault_status (Step fault) = steps.fault_status fault
fault_status (Functions refusal) = 14

-- the text of a fault, after the program's name
abbrev pub fault_line : Fault → Text
fault_line (Step fault) = steps.fault_line fault
fault_line (Functions refusal) = refusal_text refusal

-- the fault, if it is one that each program may have
abbrev pub shared_fault : Fault → Option FileFault
shared_fault (Step fault) = steps.shared_fault fault
shared_fault (Functions refusal) = None

abbrev pub fault_verdict : Fault → Verdict
fault_verdict fault = refusal (fault_status fault) (fault_line fault)

-- what is to be written, or why nothing is
abbrev pub Answer : Type 0
Answer = Result (Vec ℕ) Fault

abbrev pub verdict_of : Answer → Verdict
verdict_of (Ok file) = text_verdict file.items
verdict_of (Err fault) = fault_verdict fault

abbrev pub IsReadFault : Fault → Type 0
IsReadFault (Step fault) = steps.IsReadFault fault
IsReadFault (Functions refusal) = ⊥

abbrev pub FailedToRead : Answer → Type 0
FailedToRead answer = IsErrAnd answer IsReadFault

abbrev pub IsMemoryFault : Fault → Type 0
IsMemoryFault (Step fault) = steps.IsMemoryFault fault
IsMemoryFault (Functions refusal) = ⊥

abbrev pub IsMemory : Answer → Type 0
IsMemory answer = IsErrAnd answer IsMemoryFault

-- the faults of a program that has no such file
abbrev pub IsOfFunctions : Text → Fault → Type 0
IsOfFunctions target (Functions refusal) = Unit {0}
IsOfFunctions target (Step (File (Long path))) = path.now ≡ target
IsOfFunctions target (Step (File Memory)) = Unit {0}
IsOfFunctions target _ = ⊥

-- the faults that a request may have after the reading of its file
abbrev pub IsOfProgram : Request → Fault → Type 0
IsOfProgram request (Step (File Usage)) = ⊥
IsOfProgram request (Step (File (Read path))) = ⊥
IsOfProgram request (Step (File Write)) = ⊥
IsOfProgram request (Step (File (Long path))) = path.now ≡ request.target
IsOfProgram request _ = Unit {0}

-- the faults that a request may have
abbrev pub IsOfRequest : Request → Fault → Type 0
IsOfRequest request (Step (File (Read path))) = path.now ≡ request.target
IsOfRequest request fault = IsOfProgram request fault

-- the regions that are named, or the fault of the first piece that names none
abbrev pub AreRegions : Result (List Region) Text → Result (Vec coded) StepFault → Type 0
AreRegions named (Ok regions) = named ≡ Ok (regions_of regions.items)
AreRegions named (Err (NoLine piece)) = named ≡ Err piece.now
AreRegions named (Err (File Memory)) = Unit {0}
AreRegions named (Err _) = ⊥

-- which answers the words that make this request, or none, may have
abbrev pub Suits : Option Request → Answer → Type 0
Suits None (Err (Step (File Usage))) = Unit {0}
Suits None (Err (Step (File Memory))) = Unit {0}
Suits None _ = ⊥
Suits (Some request) (Ok file) = Unit {0}
Suits (Some request) (Err fault) = IsOfRequest request fault

-- an answer is one of the verdict of the words, or that of a read that failed with a counted fault
abbrev pub IsSettled : List Text → Held → ℕ → ℕ → Answer → Type 0
IsSettled words held before now answer =
    IsVerdict words held (verdict_of answer) ⊎ (FailedToRead answer × Rose before now)
