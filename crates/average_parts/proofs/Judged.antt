-- An answer is what the words come to.
use Rattle.std.proofs.Common.{◌≡◌, ◌≢◌, ℕ, List, Option, Some, None, IfSome, Result, Ok, Err, refl, subst, inl, arith}
use Rattle.std.specs.Prelude.{IfNone}
use Rattle.coz_types.specs.Labels.{Text}
use Rattle.coz_files.specs.Faults.{Rose}
use Rattle.coz_files.specs.Held.{Held}
use Rattle.coz_serve.specs.Serves.{Judges}
use Rattle.coz_serve.specs.Written.{refused_by, shown_by}
use Rattle.file_read.specs.declared.fault.FileFault.TheVariants.{Usage, Read, Write, Long, Memory}
use Rattle.average_parts.specs.declared.fault.Fault.{Fault}
use Rattle.average_parts.specs.declared.fault.Fault.TheVariants.{File, Profile, Unlike}
use Rattle.average_parts.specs.declared.table.Table.{Table}
use Rattle.average_parts.specs.Words.{paths_in}
use Rattle.average_parts.specs.Answer.{fault_line, fault_status, shared_fault, FailedToRead, IsMemory, IsReadAt, IsSettled, Suits}
use Rattle.average_parts.specs.Program.{average_program, table_status, table_text}

-- ---- which faults words may have

pub ok_apart : (paths : Option (List Text)) (told : Option Held) (p : Table) → Suits paths told (Ok p) → paths ≡ None → ⊥
ok_apart None told p suits is = suits
ok_apart (Some ps) told p suits is = let no : ⊥ = cc in no

usage_none : (paths : Option (List Text)) (told : Option Held) (fault : Fault) → Suits paths told (Err fault) → shared_fault fault ≡ Some Usage → paths ≡ None
usage_none None told fault suits is = refl
usage_none (Some ps) told (File Usage) suits is = absurd suits
usage_none (Some ps) told (File (Read q)) suits is = let no : ⊥ = cc in absurd no
usage_none (Some ps) told (File Write) suits is = let no : ⊥ = cc in absurd no
usage_none (Some ps) told (File (Long q)) suits is = let no : ⊥ = cc in absurd no
usage_none (Some ps) told (File Memory) suits is = let no : ⊥ = cc in absurd no
usage_none (Some ps) told (Profile fault q) suits is = let no : ⊥ = cc in absurd no
usage_none (Some ps) told (Unlike kind q) suits is = let no : ⊥ = cc in absurd no

pub none_usage : (paths : Option (List Text)) (told : Option Held) (fault : Fault) → Suits paths told (Err fault) → paths ≡ None → shared_fault fault ≡ Some Usage
none_usage (Some ps) told fault suits none = let no : ⊥ = cc in absurd no
none_usage None told (File Usage) suits none = refl
none_usage None told (File (Read q)) suits none = absurd suits
none_usage None told (File Write) suits none = absurd suits
none_usage None told (File (Long q)) suits none = absurd suits
none_usage None told (File Memory) suits none = absurd suits
none_usage None told (Profile fault q) suits none = absurd suits
none_usage None told (Unlike kind q) suits none = absurd suits

named_of : (paths : Option (List Text)) (told : Option Held) (fault : Fault) → Suits paths told (Err fault) → (path : _) → shared_fault fault ≡ Some (Read path)
    → (ps : List Text) × (paths ≡ Some ps) × IsReadAt ps told path.now
named_of None told (File (Read q)) suits path is = absurd suits
named_of (Some ps) told (File (Read q)) suits path is = let same : q ≡ path = cc in (ps, refl, subst (λ r. IsReadAt ps told r.now) same suits)
named_of paths told (File Usage) suits path is = let no : ⊥ = cc in absurd no
named_of paths told (File Write) suits path is = let no : ⊥ = cc in absurd no
named_of paths told (File (Long q)) suits path is = let no : ⊥ = cc in absurd no
named_of paths told (File Memory) suits path is = let no : ⊥ = cc in absurd no
named_of paths told (Profile fault q) suits path is = let no : ⊥ = cc in absurd no
named_of paths told (Unlike kind q) suits path is = let no : ⊥ = cc in absurd no

never_write : (paths : Option (List Text)) (told : Option Held) (fault : Fault) → Suits paths told (Err fault) → shared_fault fault ≢ Some Write
never_write None told (File Write) suits is = suits
never_write (Some ps) told (File Write) suits is = suits
never_write paths told (File Usage) suits is = let no : ⊥ = cc in no
never_write paths told (File (Read q)) suits is = let no : ⊥ = cc in no
never_write paths told (File (Long q)) suits is = let no : ⊥ = cc in no
never_write paths told (File Memory) suits is = let no : ⊥ = cc in no
never_write paths told (Profile fault q) suits is = let no : ⊥ = cc in no
never_write paths told (Unlike kind q) suits is = let no : ⊥ = cc in no

-- ---- answers

module _ (words : List Text) (told : Option Held) (before now : ℕ) where
  abbrev IsJudged : Result Table Fault → Type 0
  IsJudged answer = Judges (average_program words told) (shown_by table_status table_text) (refused_by fault_status fault_line) shared_fault told before now answer

  abbrev IsSettledIn : Result Table Fault → Type 0
  IsSettledIn answer = IfSome told (λ held. (IsMemory answer → ⊥) → IsSettled words held before now answer)

  pub table_judged : (table : Table) → Suits (paths_in words) told (Ok table) → IsSettledIn (Ok table)
      → ((FailedToRead {A = Table} (Ok table) → ⊥) → now ≡ before) → IsJudged (Ok table)
  table_judged table suits settled steady = record {
    usage = λ no. absurd no;
    no_request = λ none. ok_apart (paths_in words) told table suits none;
    named = tt;
    no_write = tt;
    low = omega arith;
    verdict = settled;
    read_fault_has_cause = λ no. absurd no;
    no_fault = steady;
  }

  pub fault_judged : (fault : Fault) → Suits (paths_in words) told (Err fault) → IsSettledIn (Err fault)
      → (FailedToRead {A = Table} (Err fault) → IfNone told (Rose before now)) → ((FailedToRead {A = Table} (Err fault) → ⊥) → now ≡ before) → IsJudged (Err fault)
  fault_judged fault suits settled cause steady = record {
    usage = usage_none (paths_in words) told fault suits;
    no_request = λ none. inl (none_usage (paths_in words) told fault suits none);
    named = named_of (paths_in words) told fault suits;
    no_write = never_write (paths_in words) told fault suits;
    low = tt;
    verdict = settled;
    read_fault_has_cause = cause;
    no_fault = steady;
  }
