-- An answer of a request is what its words come to.
use Rattle.std.proofs.Common.{◌≡◌, ◌≢◌, ◌⊎◌, ℕ, ◌≤◌, List, Option, Some, None, IfSome, Result, Ok, Err, subst, inl, inr}
use Rattle.std.specs.Prelude.{IfNone}
use Rattle.coz_files.specs.Faults.{Rose}
use Rattle.coz_files.specs.Held.{Held}
use Rattle.coz_files.specs.Verdict.{Verdict}
use Rattle.coz_serve.specs.Serves.{FailedToRead, Judges, Program, answer_verdict}
use Rattle.coz_serve.specs.Serves as served
use Rattle.coz_serve.specs.Written.{refused_by, shown_by}
use Rattle.coz_words.specs.declared.request.Request.{Request}
use Rattle.file_read.specs.declared.fault.FileFault.TheVariants.{Usage, Read, Write}
use Rattle.program_load.specs.declared.fault.Fault.{Fault}
use Rattle.program_load.specs.declared.fault.Fault.TheVariants.{File}
use Rattle.program_load.specs.Answer.{fault_line, fault_status, shared_fault, IsMemory, IsReadFault, SettlesThen}
use Rattle.program_load.proofs.Shared.{is_shared, memory_shared, read_shared, shared_read}
use Rattle.run_inputs.specs.Answer.{IsOfRequest, Names}
use Rattle.run_inputs.proofs.Telling.{names_read, no_write}

no_usage : (asked : Request) (fault : Fault) → IsOfRequest asked fault → fault ≢ File Usage
no_usage asked fault of is = subst (IsOfRequest asked) is of

-- The words make this request, and come to its verdict.
module _ {A : Type 0} (p : Program) (status_of : A → ℕ) (text_of : A → List ℕ) (told : Option Held) (before now : ℕ) (asked : Request) (verdict_in : Held → Verdict)
    (makes : p.HasNone → ⊥) (names : (path : List ℕ) → Names (Some asked) path → p.Names path) (comes : (held : Held) (v : Verdict) → v ≡ verdict_in held → p.IsVerdict held v) where
  abbrev IsJudged : Result A Fault → Type 0
  IsJudged answer = Judges p (shown_by status_of text_of) (refused_by fault_status fault_line) shared_fault told before now answer

  abbrev SettlesIn : Option Held → Result A Fault → Type 0
  SettlesIn o answer = IfSome o (λ held. (IsMemory answer → ⊥) → SettlesThen (shown_by status_of text_of) (verdict_in held) before now answer)

  abbrev ComesIn : Option Held → Result A Fault → Type 0
  ComesIn o answer = IfSome o (λ held. (served.IsMemory shared_fault answer → ⊥) → p.IsVerdict held (answer_verdict (shown_by status_of text_of) (refused_by fault_status fault_line) answer) ⊎ (FailedToRead shared_fault answer × Rose before now))

  comes_in : (o : Option Held) (answer : Result A Fault) → SettlesIn o answer → ComesIn o answer
  comes_in None answer settled = tt
  comes_in (Some held) (Ok value) settled = λ other. elim (settled (λ no. no)) [ inl is ↦ inl (comes held _ is) | inr failed ↦ absurd failed.0 ]
  comes_in (Some held) (Err fault) settled = λ other. elim (settled (λ memory. other (memory_shared fault memory))) [ inl is ↦ inl (comes held _ is) | inr failed ↦ inr (read_shared fault failed.0, failed.1) ]

  pub ok_judged : (value : A) → status_of value ≤ p.last → SettlesIn told (Ok value) → now ≡ before → IsJudged (Ok value)
  ok_judged value low settled steady = record {
    usage = λ no. absurd no;
    no_request = λ none. absurd (makes none);
    named = tt;
    no_write = tt;
    low = low;
    verdict = comes_in told (Ok value) settled;
    read_fault_has_cause = λ no. absurd no;
    no_fault = λ _. steady;
  }

  pub fault_judged : (fault : Fault) → IsOfRequest asked fault → SettlesIn told (Err fault) → (IsReadFault fault → IfNone told (Rose before now)) → ((IsReadFault fault → ⊥) → now ≡ before) → IsJudged (Err fault)
  fault_judged fault of settled cause steady = record {
    usage = λ is. absurd (no_usage asked fault of (is_shared fault Usage is));
    no_request = λ none. absurd (makes none);
    named = λ path is. names path.now (names_read asked fault of path (is_shared fault (Read path) is));
    no_write = λ is. no_write asked fault of (is_shared fault Write is);
    low = tt;
    verdict = comes_in told (Err fault) settled;
    read_fault_has_cause = λ read. cause (shared_read fault read);
    no_fault = λ other. steady (λ read. other (read_shared fault read));
  }
