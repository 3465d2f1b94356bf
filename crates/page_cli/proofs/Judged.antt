-- The curves of the profile that a file was read as.
use Rattle.std.proofs.Common.{◌≡◌, ◌⊎◌, inl, inr, ℕ, length, nat_lt, [], Bool, true, false, cond, Option, None, Some, Ok, Err, IfOk, IfSome, codes, ◌++◌, sym, ap, ◌∙◌, arith}
use Rattle.std.specs.Prelude.{unwrap_or}
use Rattle.coz_types.specs.Labels.{Text}
use Rattle.coz_files.specs.Faults.{Rose}
use Rattle.coz_files.specs.Held.{Held, file_at}
use Rattle.coz_files.specs.Verdict.{Verdict, refusal, step_verdict, text_verdict}
use Rattle.file_read.specs.Reading.{read_verdict}
use Rattle.profile_reader.specs.declared.TheConstants.{MAX_PROFILE}
use Rattle.page_words.specs.Words.{Request, asked_of}
use Rattle.page_cli.specs.Page.{page_curves}
use Rattle.page_cli.specs.Verdict.{book_at, book_of}
use Rattle.page_cli.specs.Answer.{Answer, Suits}

file_is : (most : ℕ) (path bytes : Text) (file : Option Text) → text_verdict bytes ≡ read_verdict most path file text_verdict → file ≡ Some bytes
file_is most path bytes None e = let s : 0 ≡ 5 = ap (λ (v : Verdict). v.status) e in absurd (omega (arith, s))
file_is most path bytes (Some b) e = by (nat_lt most (length b)) e
  where
    by : (long : Bool) → text_verdict bytes ≡ step_verdict (λ (v : Verdict). v) (cond long (Err (refusal 8 (codes "long: " ++ path))) (Ok b)) text_verdict → Some b ≡ Some bytes
    by true e = let s : 0 ≡ 8 = ap (λ (v : Verdict). v.status) e in absurd (omega (arith, s))
    by false e = ap Some (sym (ap (λ (v : Verdict). v.text) e))

pub curves_are : (known : Option Held) (asked : Request) (before now : ℕ) (bytes : Text) (result : Answer)
    → IfSome known (λ h. (⊥ → ⊥) → (next : Text → Verdict) → (next bytes ≡ read_verdict MAX_PROFILE asked.profile (file_at h asked.profile) next) ⊎ (⊥ × Rose before now))
    → Suits (Some asked) result → IfOk result (λ r. r.curves ≡ page_curves asked.file (book_of bytes))
    → IfSome known (λ h. IfOk result (λ r. r.curves ≡ page_curves (asked_of r.asked).file (book_at h r.asked.profile.now)))
curves_are None asked before now bytes result read suits ranked = tt
curves_are (Some h) asked before now bytes (Err fault) read suits ranked = tt
curves_are (Some h) asked before now bytes (Ok r) read suits ranked =
    let at : file_at h asked.profile ≡ Some bytes = elim (read (λ no. no) text_verdict) [ inl is ↦ file_is MAX_PROFILE asked.profile bytes (file_at h asked.profile) is | inr failed ↦ absurd failed.0 ] in
    ranked
    ∙ sym (ap (λ (f : Option Text). page_curves asked.file (book_of (unwrap_or f []))) at)
    ∙ sym (ap (λ (q : Request). page_curves q.file (book_at h q.profile)) suits)
