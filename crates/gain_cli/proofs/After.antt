-- A text that comes after the line of a machine.
use Rattle.std.proofs.Common.{◌≡◌, ◌≤◌, ℕ, List, [], ◌++◌, Bool, true, false, nat_le, if◌then◌else◌, Option, Some, None, IfSome, Ok, Err, refl, sym, ap, ◌∙◌, arith, inl, inr}
use Rattle.std.proofs.lemmas.Bool.{le-leb, leb-true}
use Rattle.coz_files.specs.Held.{Held}
use Rattle.command_texts.specs.declared.printed.Printed.{Printed}
use Rattle.command_texts.specs.Printed.{printed_verdict}
use Rattle.program_load.specs.Answer.{fault_verdict}
use Rattle.program_load.specs.declared.fault.Fault.{Fault}
use Rattle.run_inputs.proofs.Faults.{told_high}
use Rattle.coz_commands.specs.Answer as commands
use Rattle.timing_line.specs.Line.{timing_text}
use Rattle.timing_model.specs.declared.timing.Timing.{Timing}
use Rattle.gain_cli.specs.declared.gain.Gain.{Gain}
use Rattle.gain_cli.specs.Answer.{IsMemory, Settles, verdict_in}
use Rattle.gain_cli.specs.Verdict.{Verdict, after_text}

-- ---- by the status

after_low : (text : List ℕ) (v : Verdict) → v.status ≤ 1 → after_text text v ≡ record v { text = text ++ v.text }
after_low text v low = ap (λ (b : Bool). if b then record v { text = text ++ v.text } else v) (le-leb v.status 1 low)

after_high : (text : List ℕ) (v : Verdict) → 2 ≤ v.status → after_text text v ≡ v
after_high text v high = by (nat_le v.status 1) refl
  where
    by : (b : Bool) → nat_le v.status 1 ≡ b → (if b then record v { text = text ++ v.text } else v) ≡ v
    by true is = let low = leb-true v.status 1 is in absurd (omega (arith, low, high))
    by false is = refl

pub after_status : (text : List ℕ) (v : Verdict) → (after_text text v).status ≡ v.status
after_status text v = by (nat_le v.status 1)
  where
    by : (b : Bool) → (if b then record v { text = text ++ v.text } else v).status ≡ v.status
    by true = refl
    by false = refl

-- nothing comes before the text
pub after_nothing : (v : Verdict) → after_text [] v ≡ v
after_nothing v = by (nat_le v.status 1)
  where
    by : (b : Bool) → (if b then record v { text = [] ++ v.text } else v) ≡ v
    by true = refl
    by false = refl

pub after_written : (text : List ℕ) (v : Verdict) → v.status ≤ 1 → (after_text text v).text ≡ text ++ v.text
after_written text v low = ap (λ (w : Verdict). w.text) (after_low text v low)

-- ---- the answer of a request

pub printed_after : (timing : Timing) (profile : Printed) (v : Verdict) → profile.status ≤ 1 → printed_verdict profile ≡ v → verdict_in (record { timing = timing; profile = profile }) ≡ after_text (timing_text timing) v
printed_after timing profile v low is = sym (after_low (timing_text timing) (printed_verdict profile) low) ∙ ap (after_text (timing_text timing)) is

pub refused_after : (text : List ℕ) (fault : Fault) (v : Verdict) → fault_verdict fault ≡ v → fault_verdict fault ≡ after_text text v
refused_after text fault v is = sym (after_high text (fault_verdict fault) (told_high fault)) ∙ ap (after_text text) is

-- an answer of the profile
pub printed_settles : (timing : Timing) (profile : Printed) (v : Held → Verdict) (told : Option Held) (before now : ℕ) → profile.status ≤ 1
    → IfSome told (λ held. (commands.IsMemory {A = Printed} (Ok profile) → ⊥) → commands.Settles (v held) before now (Ok profile))
    → IfSome told (λ held. (IsMemory {A = Gain} (Ok (record { timing = timing; profile = profile })) → ⊥) → Settles (after_text (timing_text timing) (v held)) before now (Ok (record { timing = timing; profile = profile })))
printed_settles timing profile v None before now low settled = tt
printed_settles timing profile v (Some held) before now low settled = λ other.
    elim (settled (λ no. no)) [ inl is ↦ inl (printed_after timing profile (v held) low is) | inr failed ↦ absurd failed.0 ]

pub refused_settles : (text : List ℕ) (fault : Fault) (v : Held → Verdict) (told : Option Held) (before now : ℕ)
    → IfSome told (λ held. (commands.IsMemory {A = Printed} (Err fault) → ⊥) → commands.Settles (v held) before now (Err fault))
    → IfSome told (λ held. (IsMemory {A = Gain} (Err fault) → ⊥) → Settles (after_text text (v held)) before now (Err fault))
refused_settles text fault v None before now settled = tt
refused_settles text fault v (Some held) before now settled = λ other.
    elim (settled other) [ inl is ↦ inl (refused_after text fault (v held) is) | inr failed ↦ inr failed ]
