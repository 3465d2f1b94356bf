-- An answer that is what the words come to is served.
use Rattle.std.proofs.Common.{◌≡◌, ◌≢◌, ◌⊎◌, ◌≤◌, ◌++◌, ℕ, List, Option, Some, None, IfSome, Result, Ok, Err, codes, refl, sym, ap, subst, ◌∙◌, arith, inl, inr}
use Rattle.std.specs.Prelude.{IfNone, IsErrAnd, IsSomeAnd}
use Rattle.std.specs.Io.KnownBytes.{Appends}
use Rattle.coz_files.specs.Faults.{Rose}
use Rattle.coz_files.specs.Held.{Held}
use Rattle.coz_files.specs.Puts.{AppendsPrefix, IsPut}
use Rattle.coz_files.specs.Verdict.{Verdict}
use Rattle.file_read.specs.declared.fault.FileFault.{FileFault}
use Rattle.file_read.specs.declared.fault.FileFault.TheVariants.{Usage, Memory}
use Rattle.file_read.specs.Reading.{IsMemoryFault, IsReadFault}
use Rattle.coz_serve.specs.Faults.{IsFault}
use Rattle.coz_serve.specs.Serves.{Program, HasVerdict, IsLine, Judges, Serves, line_of}
use Rattle.coz_serve.specs.Written.{IsWritten, refused_by, shown_by}
use Rattle.coz_serve.proofs.ByStatus.{two_up, is_usage, is_write, memory_line, is_read, usage_status, memory_status, read_status, memory_is, read_is}

-- what holds of the files that are known
by_held : (told : Option Held) (P Q : Held → Type 0) → ((held : Held) → P held → Q held) → IfSome told P → IfSome told Q
by_held None P Q f is = tt
by_held (Some held) P Q f is = f held is

module _ {A L O E : Type 0} (p : Program) (status_of : A → ℕ) (text_of : A → List ℕ) (fault_status : L → ℕ) (fault_line : L → List ℕ) (shared : L → Option FileFault)
    (told : Option Held) (before now : ℕ) (holds : O → Option (List ℕ)) (faults : O → ℕ) (old new : O) (err_holds : E → Option (List ℕ)) (err_faults : E → ℕ) (err_old err_new : E) (status : ℕ) where
  abbrev IsJudged : Result A L → Type 0
  IsJudged answer = Judges p (shown_by status_of text_of) (refused_by fault_status fault_line) shared told before now answer

  abbrev IsServed : Type 0
  IsServed = Serves p told before now holds faults old new err_holds err_faults err_old err_new status

  module _ (printed : A) (j : IsJudged (Ok printed)) where
    -- the words come to what is printed
    has : (held : Held) → ((⊥ → ⊥) → p.IsVerdict held (shown_by status_of text_of printed) ⊎ (⊥ × Rose before now)) → p.IsVerdict held (shown_by status_of text_of printed)
    has held is = elim (is (λ no. no)) [ inl of ↦ of | inr failed ↦ absurd failed.0 ]

    pub done_serves : p.last ≤ 1 → 10 ≤ p.greatest → status_of printed ≤ p.last → status ≡ status_of printed
        → Appends (holds old) (holds new) (text_of printed) → faults new ≡ faults old → err_new ≡ err_old → IsServed
    done_serves last great low is appends no_fault same = record {
      usage = λ two. absurd (omega (arith, two, last, low, is));
      no_request = λ none. absurd (j.no_request none);
      known = omega (arith, last, great, low, is);
      verdict = by_held told _ _ (λ held of _. (shown_by status_of text_of printed, has held of, is)) j.verdict;
      read = λ five. absurd (omega (arith, five, last, low, is));
      write = λ six. absurd (omega (arith, six, last, low, is));
      write_last = by_held told _ _ (λ held of six. absurd (omega (arith, six, last, low, is))) j.verdict;
      complete = by_held told _ _ (λ held of _ _ _. (shown_by status_of text_of printed, has held of, is)) j.verdict;
      text = by_held told _ _ (λ held of _. (shown_by status_of text_of printed, has held of, (is, appends))) j.verdict;
      prefix = by_held told _ _ (λ held of six. absurd (omega (arith, six, last, low, is))) j.verdict;
      nothing = λ high _. absurd (omega (arith, high, low, is));
      no_error_line = λ _. same;
      line = λ high. absurd (omega (arith, high, low, is));
      read_count = λ _. j.no_fault (λ no. no);
      write_count = λ _. no_fault;
    }

    write_line : status ≡ 6 → IsLine p status told before now (line_of p (codes "write"))
    write_line six = record {
      usage = λ is. absurd (omega (arith, is, six));
      write = λ _. refl;
      memory = λ is. absurd (omega (arith, is, six));
      read = λ is. absurd (omega (arith, is, six));
      absent = λ is. absurd (omega (arith, is, six));
      verdict = λ of. absurd (of.no_write six);
    }

    pub failed_serves : p.last ≤ 1 → 10 ≤ p.greatest → status_of printed ≤ p.last → status ≡ 6
        → AppendsPrefix (holds old) (holds new) (text_of printed) → Rose (faults old) (faults new)
        → IsPut err_holds err_faults err_old err_new (line_of p (codes "write") ++ codes "\n") → IsServed
    failed_serves last great low six prefix rose put = record {
      usage = λ two. absurd (omega (arith, two, six));
      no_request = λ none. absurd (j.no_request none);
      known = omega (arith, great, six);
      verdict = by_held told _ _ (λ held of by. absurd (by.no_write six)) j.verdict;
      read = λ five. absurd (omega (arith, five, six));
      write = λ _. rose;
      write_last = by_held told _ _ (λ held of _. (shown_by status_of text_of printed, has held of, low)) j.verdict;
      complete = by_held told _ _ (λ held of _ steady _. absurd (steady rose)) j.verdict;
      text = by_held told _ _ (λ held of done. absurd (omega (arith, done, last, six))) j.verdict;
      prefix = by_held told _ _ (λ held of _. (shown_by status_of text_of printed, has held of, prefix)) j.verdict;
      nothing = λ _ other. absurd (other six);
      no_error_line = λ done. absurd (omega (arith, done, last, six));
      line = λ _. (line_of p (codes "write"), write_line six, put);
      read_count = λ _. j.no_fault (λ no. no);
      write_count = λ other. absurd (other six);
    }

  module _ (fault : L) (law : IsFault p.greatest (shared fault) (fault_status fault) (fault_line fault)) (j : IsJudged (Err fault)) (is : status ≡ fault_status fault) where
    no_memory : status ≢ 10 → IsSomeAnd (shared fault) IsMemoryFault → ⊥
    no_memory other memory = other (is ∙ memory_status (fault_status fault) (fault_line fault) (shared fault) law.1 memory)

    -- the words come to the fault, or a read failed
    abbrev IsOf : Held → Type 0
    IsOf held = p.IsVerdict held (refused_by fault_status fault_line fault)

    cause : (o : Option Held) → status ≡ 5 → IfSome o (λ held. (IsSomeAnd (shared fault) IsMemoryFault → ⊥) → IsOf held ⊎ (IsSomeAnd (shared fault) IsReadFault × Rose before now)) → IfNone o (Rose before now)
        → (P : Verdict → Type 0) → P (refused_by fault_status fault_line fault) → Rose before now ⊎ IsSomeAnd o (λ held. HasVerdict p held P)
    cause None five of none P has = inl none
    cause (Some held) five of none P has =
        elim (of (no_memory (λ ten. omega (arith, five, ten)))) [ inl v ↦ inr (refused_by fault_status fault_line fault, v, has) | inr failed ↦ inl failed.1 ]

    read_cause : status ≡ 5 → IfNone told (Rose before now)
    read_cause five = let read = is_read (fault_status fault) (fault_line fault) (shared fault) law.1 (sym is ∙ five) in j.read_fault_has_cause (read_is (shared fault) read.0 read.1)

    line_is : IsLine p status told before now (line_of p (fault_line fault))
    line_is = record {
      usage = λ two. ap (line_of p) (is_usage (fault_status fault) (fault_line fault) (shared fault) law.1 (sym is ∙ two)).1;
      write = λ six. absurd (j.no_write (is_write (fault_status fault) (fault_line fault) (shared fault) law.1 (sym is ∙ six)));
      memory = λ ten. ap (line_of p) (memory_line (fault_status fault) (fault_line fault) (shared fault) law.1 (sym is ∙ ten));
      read = λ five.
          let read = is_read (fault_status fault) (fault_line fault) (shared fault) law.1 (sym is ∙ five) in
          (read.0.now, j.named read.0 read.1, ap (line_of p) read.2);
      absent = λ five. cause told five j.verdict (read_cause five) (λ v. line_of p (fault_line fault) ≡ line_of p v.line) refl;
      verdict = λ of. by_held told _ _ (λ held by.
          elim (by (no_memory of.no_memory)) [
            | inl v ↦ (refused_by fault_status fault_line fault, v, (is, refl))
            | inr failed ↦ absurd (of.no_read (is ∙ read_status (fault_status fault) (fault_line fault) (shared fault) law.1 failed.0))
          ]) j.verdict;
    }

    pub fault_serves : p.last ≤ 1 → holds new ≡ holds old → faults new ≡ faults old
        → IsPut err_holds err_faults err_old err_new (line_of p (fault_line fault) ++ codes "\n") → IsServed
    fault_serves last same no_fault put =
        let up = two_up (fault_status fault) (fault_line fault) (shared fault) law.1 in
        record {
          usage = λ two. j.usage (is_usage (fault_status fault) (fault_line fault) (shared fault) law.1 (sym is ∙ two)).0;
          no_request = λ none.
              elim (j.no_request none) [
                | inl usage ↦ inl (is ∙ usage_status (fault_status fault) (fault_line fault) (shared fault) law.1 usage)
                | inr memory ↦ inr (is ∙ memory_status (fault_status fault) (fault_line fault) (shared fault) law.1 (memory_is (shared fault) memory))
              ];
          known = omega (arith, is, law.0);
          verdict = by_held told _ _ (λ held by of.
              elim (by (no_memory of.no_memory)) [
                | inl v ↦ (refused_by fault_status fault_line fault, v, is)
                | inr failed ↦ absurd (of.no_read (is ∙ read_status (fault_status fault) (fault_line fault) (shared fault) law.1 failed.0))
              ]) j.verdict;
          read = λ five. cause told five j.verdict (read_cause five) (λ v. v.status ≡ 5) (sym is ∙ five);
          write = λ six. absurd (j.no_write (is_write (fault_status fault) (fault_line fault) (shared fault) law.1 (sym is ∙ six)));
          write_last = by_held told _ _ (λ held by six. absurd (j.no_write (is_write (fault_status fault) (fault_line fault) (shared fault) law.1 (sym is ∙ six)))) j.verdict;
          complete = by_held told _ _ (λ held by steady _ other.
              elim (by (no_memory other)) [
                | inl v ↦ (refused_by fault_status fault_line fault, v, is)
                | inr failed ↦ absurd (steady failed.1)
              ]) j.verdict;
          text = by_held told _ _ (λ held by done. absurd (omega (arith, done, last, up, is))) j.verdict;
          prefix = by_held told _ _ (λ held by six. absurd (j.no_write (is_write (fault_status fault) (fault_line fault) (shared fault) law.1 (sym is ∙ six)))) j.verdict;
          nothing = λ _ _. same;
          no_error_line = λ done. absurd (omega (arith, done, last, up, is));
          line = λ _. (line_of p (fault_line fault), line_is, put);
          read_count = λ other. j.no_fault (λ read. other (is ∙ read_status (fault_status fault) (fault_line fault) (shared fault) law.1 read));
          write_count = λ _. no_fault;
        }

  -- what is written of an answer that is what the words come to is what each program leaves
  pub serves : p.last ≤ 1 → ((f : L) → IsFault p.greatest (shared f) (fault_status f) (fault_line f)) → 10 ≤ p.greatest
      → (answer : Result A L) → IsJudged answer
      → IsWritten p.name holds faults old new err_holds err_faults err_old err_new status (shown_by status_of text_of) (refused_by fault_status fault_line) answer → IsServed
  serves last law great (Ok printed) j (inl done) = done_serves printed j last great j.low done.same_status done.appends done.no_fault done.no_error_line
  serves last law great (Ok printed) j (inr cut) = failed_serves printed j last great j.low cut.six cut.prefix cut.rose cut.line
  serves last law great (Err fault) j refused = fault_serves fault (law fault) j refused.same_status last (ap holds refused.same) (ap faults refused.same) refused.line

  -- an answer of words that make no request has the status of that
  pub refused_usage : ((f : L) → IsFault p.greatest (shared f) (fault_status f) (fault_line f)) → (answer : Result A L) → IsErrAnd answer (λ fault. shared fault ≡ Some Usage)
      → IsWritten p.name holds faults old new err_holds err_faults err_old err_new status (shown_by status_of text_of) (refused_by fault_status fault_line) answer → status ≡ 2
  refused_usage law (Ok printed) usage written = absurd usage
  refused_usage law (Err fault) usage written = written.same_status ∙ usage_status (fault_status fault) (fault_line fault) (shared fault) (law fault).1 usage
