-- What is known of an answer before it is written.
use Rattle.std.specs.Prelude.{◌≡◌, ℕ, Option, Some, None, Result, Ok, Err, IfSome, IsErrAnd}
use Rattle.coz_types.specs.Labels.{Text}
use Rattle.coz_files.specs.Held.{Held}
use Rattle.coz_files.specs.Puts.{Puts}
use Rattle.coz_files.specs.declared.outside.PutAnswer.{PutAnswer}
use Rattle.coz_files.specs.Verdict.{StepSettles, step_verdict}
use Rattle.file_read.specs.declared.fault.FileFault.{FileFault}
use Rattle.file_read.specs.declared.fault.FileFault.TheVariants.{Usage, Read, Write, Long, Memory}
use Rattle.file_read.specs.Faults.{file_status, file_line}
use Rattle.file_read.specs.Reading as reading
use Rattle.failures.specs.declared.Failure.{Failure}
use Rattle.profile_reader.specs.ItemNames.{book_line}
use Rattle.profile_reader.specs.declared.fault.BookFault.{BookFault}
use Rattle.failures.specs.declared.Failure.TheVariants as book
use Rattle.page_cli.specs.declared.judge.Ranked.{Ranked}
use Rattle.page_cli.specs.declared.fault.Fault.{Fault}
use Rattle.page_cli.specs.declared.fault.Fault.TheVariants.{File, Profile}
use Rattle.page_words.specs.Words.{Request, asked_of}
use Rattle.page_values.specs.Sources.{Answers}
use Rattle.page_cli.specs.Page.{curves_page, view_for}
use Rattle.page_cli.specs.Verdict.{AreNamed, Verdict, text_verdict, refusal}

abbrev pub profile_fault : Failure BookFault → Fault
profile_fault (book.Fault fault) = Profile fault
profile_fault book.Memory = File Memory

abbrev pub fault_status : Fault → ℕ
fault_status (File fault) = file_status fault
fault_status (Profile fault) = 12

-- the text of a fault, after the program's name
abbrev pub fault_line : Fault → Text
fault_line (File fault) = file_line fault
fault_line (Profile fault) = book_line fault

-- the fault, if it is one that each program may have
abbrev pub shared_fault : Fault → Option FileFault
shared_fault (File fault) = Some fault
shared_fault (Profile fault) = None

abbrev pub fault_verdict : Fault → Verdict
fault_verdict fault = refusal (fault_status fault) (fault_line fault)

-- the verdict of a step that gave a value or a fault, and of what follows the value
abbrev pub verdict_after : {A : Type 0} → Result A Fault → (A → Verdict) → Verdict
verdict_after step next = step_verdict fault_verdict step next

-- a profile with its curves, or why there is no page
abbrev pub Answer : Type 0
Answer = Result Ranked Fault

-- the page with these source files
abbrev pub page_with : Answers → Ranked → Text
page_with answers r =
    curves_page (record { most = (asked_of r.asked).top; answers = answers })
    (asked_of r.asked) r.all r.profile r.curves r.harmful

-- the page, if this is what the source files are
abbrev pub ranked_page : Answers → Ranked → Text
ranked_page answers r =
    curves_page (view_for (asked_of r.asked) answers) (asked_of r.asked) r.all r.profile
    r.curves r.harmful

abbrev pub ranked_verdict : Answers → Ranked → Verdict
ranked_verdict answers r = text_verdict (ranked_page answers r)

-- the verdict of an answer
abbrev pub verdict_of : Answers → Answer → Verdict
verdict_of answers answer = verdict_after answer (ranked_verdict answers)

abbrev pub IsReadFault : Fault → Type 0
IsReadFault (File fault) = reading.IsReadFault fault
IsReadFault _ = ⊥

abbrev pub FailedToRead : {A : Type 0} → Result A Fault → Type 0
FailedToRead step = IsErrAnd step IsReadFault

abbrev pub IsMemoryFault : Fault → Type 0
IsMemoryFault (File fault) = reading.IsMemoryFault fault
IsMemoryFault _ = ⊥

abbrev pub IsMemory : {A : Type 0} → Result A Fault → Type 0
IsMemory step = IsErrAnd step IsMemoryFault

-- which answers this request, or none, may have
abbrev pub Suits : Option Request → Answer → Type 0
Suits None (Err (File Usage)) = Unit {0}
Suits None _ = ⊥
Suits (Some asked) (Err (File Usage)) = ⊥
Suits (Some asked) (Err (File Write)) = ⊥
Suits (Some asked) (Err (File (Read p))) = p.now ≡ asked.profile
Suits (Some asked) (Err (File (Long p))) = p.now ≡ asked.profile
Suits (Some asked) (Ok ranked) = asked_of ranked.asked ≡ asked
Suits (Some asked) _ = Unit {0}

-- an answer is this verdict's, or that of a read that failed with a counted fault
abbrev pub Settles : Answers → Verdict → ℕ → ℕ → Answer → Type 0
Settles answers verdict before now answer =
    StepSettles fault_verdict IsReadFault (ranked_verdict answers) verdict before now answer

-- a page of these curves is put, with source files that are what the reads gave
pub record IsShown {S : Type 0} (told : Option Held) (before now : ℕ) (holds : S → Option Text)
    (faults : S → ℕ) (old new : S) (r : Ranked) (answer : PutAnswer) : Type 0 where
  pub answers : Answers
  pub read : IfSome told (λ held.
      AreNamed (asked_of r.asked).source held before now r.curves answers)
  pub puts : Puts holds faults old new answer (ranked_page answers r)
