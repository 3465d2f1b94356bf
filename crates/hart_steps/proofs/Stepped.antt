-- The step of a hart, by what is fetched at its pc.
use Rattle.std.proofs.Common.{ℕ, ◌≡◌, Option, Some, None, sym, ap, ◌∙◌}
use Rattle.coz_types.specs.declared.ending.TrapCause.TheVariants.{Fetch, Illegal}
use Rattle.guest_memory.specs.Memory.{fetch}
use Rattle.rv_decode.specs.declared.Instr.{Instr}
use Rattle.rv_decode.specs.Instructions.{instruction_of}
use Rattle.rv_execute.specs.declared.hart.Step.TheVariants.{Fault}
use Rattle.rv_execute.specs.Execution.{Setting, execute}
use Rattle.hart_steps.specs.Words.{found, decoded}
use Rattle.hart_steps.specs.Steps.{step, stepped}

pub step-executed : (h : ℕ) (s : Setting) (w : ℕ) (i : Instr) → fetch s.memory s.hart.pc ≡ Some w → instruction_of w ≡ Some i → execute h i s ≡ step h s
step-executed h s w i e f =
    sym (ap (λ (o : Option ℕ). stepped h s (found o)) e ∙ ap (λ (o : Option Instr). stepped h s (decoded o)) f)

pub step-illegal : (h : ℕ) (s : Setting) (w : ℕ) → fetch s.memory s.hart.pc ≡ Some w → instruction_of w ≡ None → record { setting = s; step = Fault Illegal } ≡ step h s
step-illegal h s w e f =
    sym (ap (λ (o : Option ℕ). stepped h s (found o)) e ∙ ap (λ (o : Option Instr). stepped h s (decoded o)) f)

pub step-unfetched : (h : ℕ) (s : Setting) → fetch s.memory s.hart.pc ≡ None → record { setting = s; step = Fault Fetch } ≡ step h s
step-unfetched h s e = sym (ap (λ (o : Option ℕ). stepped h s (found o)) e)
