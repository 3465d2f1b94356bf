-- What a reading settles on with each continuation tells which bytes were read, or the refusal.
use Rattle.std.proofs.Common.{◌≡◌, ◌⊎◌, inl, inr, ℕ, ◌≤◌, List, length, nat_lt, Bool, true, false, cond, Option, None, Some, Result, Ok, Err, IfErr, codes, ◌++◌, ap, arith}
use Rattle.coz_files.specs.Faults.{Rose}
use Rattle.coz_files.specs.Verdict.{Verdict, refusal, step_verdict, text_verdict}
use Rattle.file_read.specs.declared.fault.FileFault.{FileFault}
use Rattle.file_read.specs.declared.fault.FileFault.TheVariants.{Usage, Read, Write, Long, Memory}
use Rattle.file_read.specs.Faults.{file_status, file_refusal}
use Rattle.file_read.specs.Reading.{file_in, read_verdict, FailedToRead, SettlesThen}

-- no fault has the status of a text
pub file_high : (fault : FileFault) → 2 ≤ file_status fault
file_high Usage = omega arith
file_high (Read path) = omega arith
file_high Write = omega arith
file_high (Long path) = omega arith
file_high Memory = omega arith

abbrev IsHigh : Result (List ℕ) Verdict → Type 0
IsHigh r = IfErr r (λ v. 2 ≤ v.status)

high_if : (long : Bool) (path file : List ℕ) → IsHigh (cond long (Err (refusal 8 (codes "long: " ++ path))) (Ok file))
high_if true path file = omega arith
high_if false path file = tt

high_in : (most : ℕ) (path : List ℕ) (file : Option (List ℕ)) → IsHigh (file_in most path file)
high_in most path None = omega arith
high_in most path (Some file) = high_if (nat_lt most (length file)) path file

module _ {A : Type 0} (bytes : A → List ℕ) where
  -- the bytes that were read, or the refusal
  abbrev pub told_of : Result A FileFault → Result (List ℕ) Verdict
  told_of (Ok file) = Ok (bytes file)
  told_of (Err fault) = Err (file_refusal fault)

  by_text : (step : Result A FileFault) (r : Result (List ℕ) Verdict) → IsHigh r
      → step_verdict file_refusal step (λ file. text_verdict (bytes file)) ≡ step_verdict (λ refused. refused) r text_verdict → told_of step ≡ r
  by_text (Ok file) (Ok found) high is = ap (λ (v : Verdict). Ok v.text) is
  by_text (Ok file) (Err refused) high is = let e : 0 ≡ refused.status = ap (λ (v : Verdict). v.status) is in absurd (omega (arith, e, high))
  by_text (Err fault) (Ok found) high is = let e : file_status fault ≡ 0 = ap (λ (v : Verdict). v.status) is in absurd (omega (arith, e, file_high fault))
  by_text (Err fault) (Err refused) high is = ap (λ (v : Verdict). Err v) is

  pub told_by : (most : ℕ) (path : List ℕ) (file : Option (List ℕ)) (before now : ℕ) (step : Result A FileFault)
      → ((next : List ℕ → Verdict) → SettlesThen (λ file. next (bytes file)) (read_verdict most path file next) before now step)
      → (told_of step ≡ file_in most path file) ⊎ (FailedToRead step × Rose before now)
  told_by most path file before now step settled = elim (settled text_verdict) [
    | inl is ↦ inl (by_text step (file_in most path file) (high_in most path file) is)
    | inr failed ↦ inr failed
  ]
