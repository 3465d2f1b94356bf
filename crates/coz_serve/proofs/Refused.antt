-- What words that make no request, or for which there was no memory, come to.
use Rattle.std.proofs.Common.{◌≡◌, ◌⊎◌, ℕ, List, Option, Some, None, IfSome, Result, Ok, Err, subst, inl, inr}
use Rattle.std.specs.Prelude.{IsSomeAnd}
use Rattle.coz_files.specs.Faults.{Rose}
use Rattle.coz_files.specs.Held.{Held}
use Rattle.file_read.specs.declared.fault.FileFault.{FileFault}
use Rattle.file_read.specs.declared.fault.FileFault.TheVariants.{Usage, Memory}
use Rattle.file_read.specs.Reading.{IsMemoryFault, IsReadFault}
use Rattle.coz_serve.specs.Serves.{Program, Judges}
use Rattle.coz_serve.specs.Written.{refused_by, shown_by}
use Rattle.coz_serve.proofs.ByStatus.{memory_is}

module _ {A L : Type 0} (p : Program) (status_of : A → ℕ) (text_of : A → List ℕ) (fault_status : L → ℕ) (fault_line : L → List ℕ) (shared : L → Option FileFault) (told : Option Held) (before now : ℕ) where
  abbrev IsJudged : Result A L → Type 0
  IsJudged answer = Judges p (shown_by status_of text_of) (refused_by fault_status fault_line) shared told before now answer

  -- words that make no request
  pub none_judged : (fault : L) → p.HasNone → shared fault ≡ Some Usage → ((held : Held) → p.IsVerdict held (refused_by fault_status fault_line fault)) → now ≡ before
      → IsJudged (Err fault)
  none_judged fault none is verdict steady = record {
    usage = λ _. none;
    no_request = λ _. inl is;
    named = λ path other. let no : ⊥ = cc in absurd no;
    no_write = λ other. let no : ⊥ = cc in no;
    low = tt;
    verdict = known told;
    read_fault_has_cause = λ read. absurd (subst (λ (o : Option FileFault). IsSomeAnd o IsReadFault) is read);
    no_fault = λ _. steady;
  }
    where
      known : (o : Option Held) → IfSome o (λ held. (IsSomeAnd (shared fault) IsMemoryFault → ⊥) → p.IsVerdict held (refused_by fault_status fault_line fault) ⊎ (IsSomeAnd (shared fault) IsReadFault × Rose before now))
      known None = tt
      known (Some held) = λ _. inl (verdict held)

  -- words for which there was no memory
  pub memory_judged : (fault : L) → shared fault ≡ Some Memory → now ≡ before → IsJudged (Err fault)
  memory_judged fault is steady = record {
    usage = λ other. let no : ⊥ = cc in absurd no;
    no_request = λ _. inr is;
    named = λ path other. let no : ⊥ = cc in absurd no;
    no_write = λ other. let no : ⊥ = cc in no;
    low = tt;
    verdict = unknown told;
    read_fault_has_cause = λ read. absurd (subst (λ (o : Option FileFault). IsSomeAnd o IsReadFault) is read);
    no_fault = λ _. steady;
  }
    where
      unknown : (o : Option Held) → IfSome o (λ held. (IsSomeAnd (shared fault) IsMemoryFault → ⊥) → p.IsVerdict held (refused_by fault_status fault_line fault) ⊎ (IsSomeAnd (shared fault) IsReadFault × Rose before now))
      unknown None = tt
      unknown (Some held) = λ other. absurd (other (memory_is (shared fault) is))
