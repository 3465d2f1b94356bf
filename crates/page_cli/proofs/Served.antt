-- What the top call leaves, by the answer that its words gave.
use Rattle.std.proofs.Common.{◌≡◌, ◌≢◌, ℕ, List, ◌++◌, Option, Some, None, IfSome, Ok, Err, refl, sym, ap, ◌∙◌, subst, arith, codes, inl, inr}
use Rattle.std.specs.Prelude.{option_map}
use Rattle.std.specs.Io.KnownBytes.{Appends}
use Rattle.coz_types.specs.Labels.{Text}
use Rattle.coz_files.specs.Held.{Held}
use Rattle.coz_files.specs.Puts.{AppendsPrefix}
use Rattle.coz_files.specs.declared.outside.PutAnswer.{PutAnswer}
use Rattle.coz_files.specs.declared.outside.PutAnswer.TheVariants.{Done, Failed}
use Rattle.file_read.specs.declared.fault.FileFault.TheVariants.{Usage, Read, Write, Long, Memory}
use Rattle.causal_curves.specs.declared.curve.Curve.{Curve}
use Rattle.page_words.specs.Words.{Request, asked_of, request_in}
use Rattle.page_values.specs.Sources.{Answers}
use Rattle.page_cli.specs.declared.judge.Ranked.{Ranked}
use Rattle.page_cli.specs.declared.fault.Fault.{Fault}
use Rattle.page_cli.specs.declared.fault.Fault.TheVariants.{File, Profile}
use Rattle.page_cli.specs.Page.{page_curves}
use Rattle.page_cli.specs.Verdict.{AreNamed, AreRead, Verdict, book_at, verdict}
use Rattle.page_cli.specs.Answer.{IsMemory, IsMemoryFault, IsReadFault, IsShown, Settles, Suits, fault_line, fault_status}
use Rattle.page_cli.specs.Serve.{IsLine, IsOfVerdict, Prints, PrintsPrefix}

-- ---- the page

are_read : (h : Held) (before now : ℕ) (answers : Answers) (asked : Option Request) (r : Ranked) → Suits asked (Ok r) → r.curves ≡ page_curves (asked_of r.asked).file (book_at h r.asked.profile.now)
    → AreNamed (asked_of r.asked).source h before now r.curves answers → AreRead asked h before now answers
are_read h before now answers None r suits curves named = absurd suits
are_read h before now answers (Some asked) r suits curves named =
    subst (λ (q : Request). AreNamed q.source h before now (page_curves q.file (book_at h q.profile)) answers) suits
    (subst (λ (cs : List Curve). AreNamed (asked_of r.asked).source h before now cs answers) curves named)

module _ (words : List Text) (before mid now : ℕ) (same : mid ≡ before) (r : Ranked) (suits : Suits (request_in words) (Ok r)) where
  abbrev IsSettled : Option Held → Type 0
  IsSettled held = IfSome held (λ h. (IsMemory {A = Ranked} (Ok r) → ⊥) → (answers : Answers) → Settles answers (verdict words h answers) before mid (Ok r))

  abbrev HasCurves : Option Held → Type 0
  HasCurves held = IfSome held (λ h. r.curves ≡ page_curves (asked_of r.asked).file (book_at h r.asked.profile.now))

  pub page_put : {S : Type 0} {holds : S → Option Text} {faults : S → ℕ} {old new : S} (held : Option Held) (answer : PutAnswer) (status : ℕ) → answer ≡ Done → IsSettled held → HasCurves held → IsShown held mid now holds faults old new r answer
      → IfSome held (λ h. status ≡ 0 → Prints words h before now (holds old) (holds new))
  page_put None answer status is settled curves shown = tt
  page_put {holds = holds} {old = old} {new = new} (Some h) answer status is settled curves shown = λ _. record {
    answers = shown.answers;
    read = are_read h before now shown.answers (request_in words) r suits curves (subst (λ (n : ℕ). AreNamed (asked_of r.asked).source h n now r.curves shown.answers) same shown.read);
    whole = elim (settled (λ no. no) shown.answers) [ inl page ↦ subst (λ (v : Verdict). Appends (holds old) (holds new) v.text) page (shown.puts.done is) | inr failed ↦ absurd failed.0 ];
  }

  pub page_torn : {S : Type 0} {holds : S → Option Text} {faults : S → ℕ} {old new : S} (held : Option Held) (answer : PutAnswer) (status : ℕ) → answer ≡ Failed → IsSettled held → HasCurves held → IsShown held mid now holds faults old new r answer
      → IfSome held (λ h. status ≡ 6 → PrintsPrefix words h before now (holds old) (holds new))
  page_torn None answer status is settled curves shown = tt
  page_torn {holds = holds} {old = old} {new = new} (Some h) answer status is settled curves shown = λ _. record {
    answers = shown.answers;
    read = are_read h before now shown.answers (request_in words) r suits curves (subst (λ (n : ℕ). AreNamed (asked_of r.asked).source h n now r.curves shown.answers) same shown.read);
    prefix = elim (settled (λ no. no) shown.answers) [ inl page ↦ subst (λ (v : Verdict). AppendsPrefix (holds old) (holds new) v.text) page (shown.puts.prefix is) | inr failed ↦ absurd failed.0 ];
  }

-- ---- a page that could not be written, and one without memory for its source files

pub failed_verdict : (words : List Text) (held : Option Held) (status : ℕ) → status ≡ 6 → IfSome held (λ h. IsOfVerdict status → (answers : Answers) → status ≡ (verdict words h answers).status)
failed_verdict words None status six = tt
failed_verdict words (Some h) status six = λ of. absurd (of.no_write six)

pub write_line : (status : ℕ) (words : List Text) (held : Option Held) → status ≡ 6 → IsLine status words held (codes "coz-page: write")
write_line status words held six = record {
  usage = λ is. absurd (omega (arith, is, six));
  write = λ is. refl;
  memory = λ is. absurd (omega (arith, is, six));
  read = λ is. absurd (omega (arith, is, six));
  verdict = λ of. absurd (of.no_write six);
}

pub memory_line : (status : ℕ) (words : List Text) (held : Option Held) → status ≡ 10 → IsLine status words held (codes "coz-page: memory")
memory_line status words held ten = record {
  usage = λ is. absurd (omega (arith, is, ten));
  write = λ is. absurd (omega (arith, is, ten));
  memory = λ is. refl;
  read = λ is. absurd (omega (arith, is, ten));
  verdict = λ of. absurd (of.no_memory ten);
}

-- ---- the line of a fault

no_memory : (fault : Fault) → fault_status fault ≢ 10 → IsMemoryFault fault → ⊥
no_memory (File Memory) other is = other refl
no_memory (File Usage) other is = is
no_memory (File (Read q)) other is = is
no_memory (File Write) other is = is
no_memory (File (Long q)) other is = is
no_memory (Profile f) other is = is

no_read : (fault : Fault) → fault_status fault ≢ 5 → IsReadFault fault → ⊥
no_read (File (Read q)) other is = other refl
no_read (File Memory) other is = is
no_read (File Usage) other is = is
no_read (File Write) other is = is
no_read (File (Long q)) other is = is
no_read (Profile f) other is = is

line_of : (fault : Fault) (n : ℕ) → fault_status fault ≡ n → (n ≡ 2 → codes "coz-page: " ++ fault_line fault ≡ codes "coz-page: usage") × (n ≡ 6 → codes "coz-page: " ++ fault_line fault ≡ codes "coz-page: write") × (n ≡ 10 → codes "coz-page: " ++ fault_line fault ≡ codes "coz-page: memory")
line_of (File Usage) n is = (λ e. refl, λ e. absurd (omega (arith, e, is)), λ e. absurd (omega (arith, e, is)))
line_of (File Write) n is = (λ e. absurd (omega (arith, e, is)), λ e. refl, λ e. absurd (omega (arith, e, is)))
line_of (File Memory) n is = (λ e. absurd (omega (arith, e, is)), λ e. absurd (omega (arith, e, is)), λ e. refl)
line_of (File (Read q)) n is = (λ e. absurd (omega (arith, e, is)), λ e. absurd (omega (arith, e, is)), λ e. absurd (omega (arith, e, is)))
line_of (File (Long q)) n is = (λ e. absurd (omega (arith, e, is)), λ e. absurd (omega (arith, e, is)), λ e. absurd (omega (arith, e, is)))
line_of (Profile f) n is = (λ e. absurd (omega (arith, e, is)), λ e. absurd (omega (arith, e, is)), λ e. absurd (omega (arith, e, is)))

path_of : (asked : Option Request) (fault : Fault) → fault_status fault ≡ 5 → Suits asked (Err fault)
    → (p : Text) × (option_map (λ (q : Request). q.profile) asked ≡ Some p) × (codes "coz-page: " ++ fault_line fault ≡ codes "coz-page: read: " ++ p)
path_of None (File (Read p)) five suits = absurd suits
path_of (Some asked) (File (Read p)) five suits = (asked.profile, refl, ap (λ (t : Text). codes "coz-page: read: " ++ t) suits)
path_of asked (File Usage) five suits = absurd (omega (arith, five))
path_of asked (File Write) five suits = absurd (omega (arith, five))
path_of asked (File Memory) five suits = absurd (omega (arith, five))
path_of asked (File (Long p)) five suits = absurd (omega (arith, five))
path_of asked (Profile f) five suits = absurd (omega (arith, five))

module _ (words : List Text) (faults now status : ℕ) (fault : Fault) (is : status ≡ fault_status fault) where
  abbrev IsSettledAt : Option Held → Type 0
  IsSettledAt held = IfSome held (λ h. (IsMemory {A = Ranked} (Err fault) → ⊥) → (answers : Answers) → Settles answers (verdict words h answers) faults now (Err fault))

  of_verdict : (held : Option Held) → IsSettledAt held → IsOfVerdict status → IfSome held (λ h. (answers : Answers) → codes "coz-page: " ++ fault_line fault ≡ codes "coz-page: " ++ (verdict words h answers).line)
  of_verdict None settled of = tt
  of_verdict (Some h) settled of = λ answers. elim (settled (no_memory fault (λ ten. of.no_memory (is ∙ ten))) answers) [
    | inl same ↦ ap (λ (v : Verdict). codes "coz-page: " ++ v.line) same
    | inr failed ↦ absurd (no_read fault (λ five. of.no_read (is ∙ five)) failed.0)
  ]

  pub fault_told : (held : Option Held) → Suits (request_in words) (Err fault) → IsSettledAt held → IsLine status words held (codes "coz-page: " ++ fault_line fault)
  fault_told held suits settled =
      let lines = line_of fault status (sym is) in
      record {
        usage = lines.0;
        write = lines.1;
        memory = lines.2;
        read = λ five. path_of (request_in words) fault (sym is ∙ five) suits;
        verdict = λ of. of_verdict held settled of;
      }
