-- An answer is what the words come to.
use Rattle.std.proofs.Common.{◌≡◌, ◌≢◌, ◌⊎◌, ℕ, List, Option, Some, None, IfSome, Result, Ok, Err, refl, subst, arith, inl, inr}
use Rattle.std.specs.Prelude.{IfNone, IsSomeAnd}
use Rattle.std.specs.Global.{Vec}
use Rattle.coz_types.specs.Labels.{Text}
use Rattle.coz_files.specs.Faults.{Rose}
use Rattle.coz_files.specs.Held.{Held}
use Rattle.coz_serve.specs.Serves.{Judges}
use Rattle.coz_serve.specs.Serves as served
use Rattle.coz_serve.specs.Written.{refused_by, shown_by}
use Rattle.file_read.specs.declared.fault.FileFault.TheVariants.{Usage, Read, Write, Long, Memory}
use Rattle.program_load.specs.declared.fault.Fault.{Fault as StepFault}
use Rattle.program_load.specs.declared.fault.Fault.TheVariants.{File, Program, Lines, NoLine, ManyPoints, ManyExperiments, Source, Profile}
use Rattle.program_load.proofs.Shared as steps
use Rattle.program_load.proofs.Shared.{is_shared}
use Rattle.file_read.specs.Reading as reading
use Rattle.functions_cli.specs.declared.fault.Fault.{Fault}
use Rattle.functions_cli.specs.declared.fault.Fault.TheVariants.{Step, Functions}
use Rattle.functions_cli.specs.declared.written.Written.{Written}
use Rattle.functions_cli.specs.Words.{Request, request_in}
use Rattle.functions_cli.specs.Answer.{Answer, fault_line, fault_status, shared_fault, FailedToRead, IsMemory, IsMemoryFault, IsReadFault, IsSettled, Suits}
use Rattle.functions_cli.specs.Verdict.{IsVerdict}
use Rattle.functions_cli.specs.Program.{functions_program, written_status, written_text}

-- ---- which faults words may have

ok_apart : (r : Option Request) (file : Vec ℕ) → Suits r (Ok file) → r ≡ None → ⊥
ok_apart None file suits is = suits
ok_apart (Some r) file suits is = let no : ⊥ = cc in no

usage_none : (r : Option Request) (fault : Fault) → Suits r (Err fault) → shared_fault fault ≡ Some Usage → r ≡ None
usage_none None fault suits is = refl
usage_none (Some q) (Functions x) suits is = let no : ⊥ = cc in absurd no
usage_none (Some q) (Step f) suits is = let no : ⊥ = subst (λ (g : StepFault). Suits (Some q) (Err (Step g))) (is_shared f Usage is) suits in absurd no

none_usage : (r : Option Request) (fault : Fault) → Suits r (Err fault) → r ≡ None → (shared_fault fault ≡ Some Usage) ⊎ (shared_fault fault ≡ Some Memory)
none_usage (Some q) fault suits none = let no : ⊥ = cc in absurd no
none_usage None (Step (File Usage)) suits none = inl refl
none_usage None (Step (File (Read p))) suits none = absurd suits
none_usage None (Step (File Write)) suits none = absurd suits
none_usage None (Step (File (Long p))) suits none = absurd suits
none_usage None (Step (File Memory)) suits none = inr refl
none_usage None (Step (Program f)) suits none = absurd suits
none_usage None (Step (Lines f)) suits none = absurd suits
none_usage None (Step (NoLine p)) suits none = absurd suits
none_usage None (Step (ManyPoints m)) suits none = absurd suits
none_usage None (Step (ManyExperiments m)) suits none = absurd suits
none_usage None (Step (Source f)) suits none = absurd suits
none_usage None (Step (Profile f)) suits none = absurd suits
none_usage None (Functions x) suits none = absurd suits

named_of : (r : Option Request) (fault : Fault) → Suits r (Err fault) → (path : _) → shared_fault fault ≡ Some (Read path)
    → (q : Request) × (r ≡ Some q) × (path.now ≡ q.target)
named_of r (Functions x) suits path is = let no : ⊥ = cc in absurd no
named_of None (Step f) suits path is = let no : ⊥ = subst (λ (g : StepFault). Suits None (Err (Step g))) (is_shared f (Read path) is) suits in absurd no
named_of (Some q) (Step f) suits path is = (q, refl, subst (λ (g : StepFault). Suits (Some q) (Err (Step g))) (is_shared f (Read path) is) suits)

never_write : (r : Option Request) (fault : Fault) → Suits r (Err fault) → shared_fault fault ≢ Some Write
never_write r (Functions x) suits is = let no : ⊥ = cc in no
never_write None (Step f) suits is = subst (λ (g : StepFault). Suits None (Err (Step g))) (is_shared f Write is) suits
never_write (Some q) (Step f) suits is = subst (λ (g : StepFault). Suits (Some q) (Err (Step g))) (is_shared f Write is) suits

memory_shared : (fault : Fault) → IsMemoryFault fault → IsSomeAnd (shared_fault fault) reading.IsMemoryFault
memory_shared (Step f) is = steps.memory_shared f is
memory_shared (Functions x) is = absurd is

read_shared : (fault : Fault) → IsReadFault fault → IsSomeAnd (shared_fault fault) reading.IsReadFault
read_shared (Step f) is = steps.read_shared f is
read_shared (Functions x) is = absurd is

shared_read : (fault : Fault) → IsSomeAnd (shared_fault fault) reading.IsReadFault → IsReadFault fault
shared_read (Step f) is = steps.shared_read f is
shared_read (Functions x) is = absurd is

-- ---- answers

module _ (words : List Text) (told : Option Held) (before now : ℕ) where
  abbrev IsJudged : Result Written Fault → Type 0
  IsJudged answer = Judges (functions_program words) (shown_by written_status written_text) (refused_by fault_status fault_line) shared_fault told before now answer

  abbrev IsSettledIn : Answer → Type 0
  IsSettledIn answer = IfSome told (λ held. (IsMemory answer → ⊥) → IsSettled words held before now answer)

  pub written_judged : (written : Written) → Suits (request_in words) (Ok written.file) → IsSettledIn (Ok written.file)
      → ((FailedToRead (Ok written.file) → ⊥) → now ≡ before) → IsJudged (Ok written)
  written_judged written suits settled steady = record {
    usage = λ no. absurd no;
    no_request = λ none. ok_apart (request_in words) written.file suits none;
    named = tt;
    no_write = tt;
    low = omega arith;
    verdict = settled;
    read_fault_has_cause = λ no. absurd no;
    no_fault = steady;
  }

  comes_in : (o : Option Held) (fault : Fault) → IfSome o (λ held. (IsMemory (Err fault) → ⊥) → IsSettled words held before now (Err fault))
      → IfSome o (λ held. (served.IsMemory {A = Written} shared_fault (Err fault) → ⊥) → IsVerdict words held (refused_by fault_status fault_line fault) ⊎ (served.FailedToRead {A = Written} shared_fault (Err fault) × Rose before now))
  comes_in None fault settled = tt
  comes_in (Some held) fault settled = λ other. elim (settled (λ memory. other (memory_shared fault memory))) [ inl is ↦ inl is | inr failed ↦ inr (read_shared fault failed.0, failed.1) ]

  pub fault_judged : (fault : Fault) → Suits (request_in words) (Err fault) → IsSettledIn (Err fault)
      → (FailedToRead (Err fault) → IfNone told (Rose before now)) → ((FailedToRead (Err fault) → ⊥) → now ≡ before) → IsJudged (Err fault)
  fault_judged fault suits settled cause steady = record {
    usage = usage_none (request_in words) fault suits;
    no_request = none_usage (request_in words) fault suits;
    named = named_of (request_in words) fault suits;
    no_write = never_write (request_in words) fault suits;
    low = tt;
    verdict = comes_in told fault settled;
    read_fault_has_cause = λ read. cause (shared_read fault read);
    no_fault = λ other. steady (λ read. other (read_shared fault read));
  }
