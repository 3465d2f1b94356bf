-- What is made of the bytes of a file settles what the words come to.
use Rattle.std.proofs.Common.{◌≡◌, ◌⊎◌, inl, inr, ℕ, List, Option, None, Some, IfSome, sym, ap, ◌∙◌}
use Rattle.coz_types.specs.Labels.{Text}
use Rattle.coz_files.specs.Faults.{Rose}
use Rattle.coz_files.specs.Held.{Held, file_at}
use Rattle.coz_files.specs.Verdict.{Verdict}
use Rattle.file_read.specs.Reading.{read_verdict}
use Rattle.profile_reader.specs.declared.TheConstants.{MAX_PROFILE}
use Rattle.page_words.specs.Words.{Request, request_in}
use Rattle.page_values.specs.Sources.{Answers}
use Rattle.page_cli.specs.Verdict.{file_verdict, request_verdict, verdict}
use Rattle.page_cli.specs.Answer.{Answer, IsMemory, Settles, verdict_of}

pub settled : (known : Option Held) (words : List Text) (asked : Request) (before now : ℕ) (bytes : Text) (result : Answer) → Some asked ≡ request_in words
    → IfSome known (λ h. (⊥ → ⊥) → (next : Text → Verdict) → (next bytes ≡ read_verdict MAX_PROFILE asked.profile (file_at h asked.profile) next) ⊎ (⊥ × Rose before now))
    → ((IsMemory result → ⊥) → (answers : Answers) → verdict_of answers result ≡ file_verdict asked answers bytes)
    → IfSome known (λ h. (IsMemory result → ⊥) → (answers : Answers) → Settles answers (verdict words h answers) before now result)
settled None words asked before now bytes result named read made = tt
settled (Some h) words asked before now bytes result named read made = λ other answers. elim (read (λ no. no) (file_verdict asked answers)) [
  | inl is ↦ inl (made other answers ∙ is ∙ ap (λ (q : Option Request). request_verdict q h answers) named)
  | inr failed ↦ absurd failed.0
]
