-- What is known of the answer of a step.
use Rattle.std.specs.Prelude.{ℕ, List, Option, None, Some, Result, IsErrAnd}
use Rattle.coz_files.specs.Verdict.{StepSettles, step_verdict}
use Rattle.file_read.specs.declared.fault.FileFault.{FileFault}
use Rattle.file_read.specs.Faults.{file_status, file_line}
use Rattle.file_read.specs.Reading as reading
use Rattle.program_load.specs.declared.fault.Fault.{Fault}
use Rattle.program_load.specs.declared.fault.Fault.TheVariants.{File, Program, Lines, NoLine, ManyPoints, ManyExperiments, Source, Profile}
use Rattle.program_load.specs.FaultLines.{program_line, table_line, source_line, no_line_line, points_line, plan_line, book_line}
use Rattle.program_load.specs.Verdict.{Verdict, refusal}

abbrev pub fault_status : Fault → ℕ
fault_status (File fault) = file_status fault
fault_status (Program fault) = 3
fault_status (Lines fault) = 4
fault_status (NoLine piece) = 7
fault_status (ManyPoints count) = 7
fault_status (ManyExperiments count) = 9
fault_status (Source fault) = 11
fault_status (Profile fault) = 12

-- the text of a fault, after the program's name
abbrev pub fault_line : Fault → List ℕ
fault_line (File fault) = file_line fault
fault_line (Program fault) = program_line fault
fault_line (Lines fault) = table_line fault
fault_line (NoLine piece) = no_line_line piece.now
fault_line (ManyPoints count) = points_line count
fault_line (ManyExperiments count) = plan_line count
fault_line (Source fault) = source_line fault
fault_line (Profile fault) = book_line fault

-- the fault, if it is one that each program may have
abbrev pub shared_fault : Fault → Option FileFault
shared_fault (File fault) = Some fault
shared_fault _ = None

abbrev pub fault_verdict : Fault → Verdict
fault_verdict fault = refusal (fault_status fault) (fault_line fault)

-- the verdict of a step that came to a value or a fault, and of what follows the value
abbrev pub verdict_after : {A : Type 0} → Result A Fault → (A → Verdict) → Verdict
verdict_after step next = step_verdict fault_verdict step next

abbrev pub IsReadFault : Fault → Type 0
IsReadFault (File fault) = reading.IsReadFault fault
IsReadFault _ = ⊥

abbrev pub FailedToRead : {A : Type 0} → Result A Fault → Type 0
FailedToRead step = IsErrAnd step IsReadFault

abbrev pub IsMemoryFault : Fault → Type 0
IsMemoryFault (File fault) = reading.IsMemoryFault fault
IsMemoryFault _ = ⊥

abbrev pub IsMemory : {A : Type 0} → Result A Fault → Type 0
IsMemory step = IsErrAnd step IsMemoryFault

-- a step, and what follows it, settles on this verdict
abbrev pub SettlesThen : {A : Type 0} → (A → Verdict) → Verdict → ℕ → ℕ → Result A Fault → Type 0
SettlesThen next verdict before now step =
    StepSettles fault_verdict IsReadFault next verdict before now step
