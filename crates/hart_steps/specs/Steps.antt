-- Steps of a hart: what its registers, the memory and the reservations are after each.
use Rattle.std.specs.Prelude.{ℕ, zero, suc, ◌≡◌, ◌+◌, ◌*◌, ◌<◌, true, Ok, Err, Result, option_and_then}
use Rattle.coz_types.specs.declared.ending.TrapCause.{TrapCause}
use Rattle.cost_table.specs.Costs.{cycles_of}
use Rattle.code_words.specs.Marks.{MarkMap, is_quiet_at}
use Rattle.guest_memory.specs.Memory.{fetch}
use Rattle.rv_decode.specs.declared.Instr.{Instr}
use Rattle.rv_decode.specs.Instructions.{instruction_of}
use Rattle.rv_execute.specs.declared.hart.Step.TheVariants.{Next, Fault}
use Rattle.rv_execute.specs.Execution.{Setting, Executed, execute}
use Rattle.hart_steps.specs.Words.{found}

-- what a hart does with what it found at its pc
abbrev pub stepped : ℕ → Setting → Result Instr TrapCause → Executed
stepped h s (Ok i) = execute h i s
stepped h s (Err cause) = record { setting = s; step = Fault cause }

-- a hart executes the instruction at its pc, if there is one
abbrev pub step : ℕ → Setting → Executed
step h s = stepped h s (found (fetch s.memory s.hart.pc))

-- the setting after n steps
abbrev pub after : ℕ → ℕ → Setting → Setting
after zero h s = s
after (suc n) h s = (step h (after n h s)).setting

-- the ticks of the instruction at the pc
abbrev pub ticks_of : Setting → ℕ
ticks_of s = 100 * cycles_of (option_and_then instruction_of (fetch s.memory s.hart.pc))

-- when the instruction after n steps is due, if the first one is due at a net moment
abbrev pub moment : ℕ → ℕ → Setting → ℕ → ℕ
moment zero h s net = net
moment (suc n) h s net = moment n h s net + ticks_of (after (suc n) h s)

-- a step at a net moment, after which the hart goes on to an instruction that has no mark and is
-- due before the limit
pub record IsQuiet (marks : MarkMap) (limit h : ℕ) (s : Setting) (net : ℕ) : Type 0 where
  pub goes : (step h s).step ≡ Next
  pub unmarked : is_quiet_at marks (step h s).setting.hart.pc ≡ true
  pub due : net + ticks_of (step h s).setting < limit

-- a step at a net moment, after which the hart goes on to an instruction that has no mark and is
-- due at the later moment
pub record GoesOn (marks : MarkMap) (h : ℕ) (s : Setting) (net later : ℕ) : Type 0 where
  pub goes : (step h s).step ≡ Next
  pub unmarked : is_quiet_at marks (step h s).setting.hart.pc ≡ true
  pub next : later ≡ net + ticks_of (step h s).setting
