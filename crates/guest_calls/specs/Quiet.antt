-- Steps of one hart after another, while no mark is reached and no other hart is due.
use Rattle.std.specs.Prelude.{ℕ, zero, suc, ◌≡◌, ◌+◌, ◌*◌, ◌<◌, true}
use Rattle.cost_table.specs.Costs.{cycles_of}
use Rattle.code_words.specs.Marks.{MarkMap, is_quiet_at}
use Rattle.rv_execute.specs.declared.hart.Step.TheVariants.{Next}
use Rattle.guest_calls.specs.Guest.{Guest, pc_of}
use Rattle.guest_calls.specs.Retire.{next_of, step}

-- the guest after n steps of a hart
abbrev pub after_steps : ℕ → Guest → ℕ → Guest
after_steps zero g h = g
after_steps (suc n) g h = (step (after_steps n g h) h).guest

-- the ticks of the instruction that a hart begins next
abbrev pub ticks_of : Guest → ℕ → ℕ
ticks_of g h = 100 * cycles_of (next_of g h)

-- when the instruction after n steps of a hart is due, if the first one is due at a net moment
abbrev pub moment_after : ℕ → Guest → ℕ → ℕ → ℕ
moment_after zero g h net = net
moment_after (suc n) g h net = moment_after n g h net + ticks_of (after_steps (suc n) g h) h

-- a step of a hart at a net moment, after which the hart goes on to an instruction that has no
-- mark and is due before the limit
pub record IsQuietStep (marks : MarkMap) (limit : ℕ) (g : Guest) (h net : ℕ) : Type 0 where
  pub goes : (step g h).step ≡ Next
  pub unmarked : is_quiet_at marks (pc_of (step g h).guest h) ≡ true
  pub due : net + ticks_of (step g h).guest h < limit

-- a step of a hart at a net moment, after which it goes on to an instruction that has no mark and
-- is due at the later moment
pub record GoesOnAt (marks : MarkMap) (g : Guest) (h net later : ℕ) : Type 0 where
  pub goes : (step g h).step ≡ Next
  pub unmarked : is_quiet_at marks (pc_of (step g h).guest h) ≡ true
  pub next : later ≡ net + ticks_of (step g h).guest h
