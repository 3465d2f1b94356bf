-- The harts of the delayed machine without their work, which accounts and pauses don't need.
use Rattle.std.specs.Prelude.{ℕ, zero, suc, Some, None}
use Rattle.machines.specs.Delayed.{Hart, tick_hart}

-- a hart with no work before it
abbrev pub without_work : Hart → Hart
without_work hart = elim (hart.load) [
  | None ↦ hart
  | Some l ↦ record hart { load = Some (record l { work = 0 }) }
]

-- a hart after n single ticks
abbrev pub hart_after_ticks : ℕ → Hart → Hart
hart_after_ticks zero hart = hart
hart_after_ticks (suc k) hart = tick_hart (hart_after_ticks k hart)
