-- The accounts and pauses of harts at a moment, as the delayed machine has them.
-- The work of a running hart is left out: it is 0 here.
use Rattle.std.specs.Prelude.{ℕ, ◌+◌, ◌-◌, List, map, replicate, slice_index_or, Some, None}
use Rattle.coz_types.specs.declared.record.Account.{Account as GivenAccount}
use Rattle.machines.specs.Places.{change, change_from}
use Rattle.machines.specs.Delayed.{Account, Hart, idle_hart, run, stop, credit, raise_hart, total}
use Rattle.delay_credits.specs.Ticks.{hart_after_ticks}

pub record Delays : Type 0 where
  -- the latest moment that was given
  pub latest : ℕ
  -- the global delay
  pub raised : ℕ
  -- by number, each hart as it is at that moment
  pub harts : List Hart

abbrev pub hart_at : Delays → ℕ → Hart
hart_at d h = slice_index_or d.harts h idle_hart

-- the ticks of pause that a hart has still before it
abbrev pub pause_of : Hart → ℕ
pause_of hart = elim (hart.load) [ None ↦ 0 | Some l ↦ l.pause ]

-- an account as the machine writes it
abbrev pub account_as : GivenAccount → Account
account_as a = record { own = a.own; paused = a.paused; credited = a.credited }

-- as it is at a later moment, after a tick of every hart for each tick that passed
abbrev pub at : ℕ → Delays → Delays
at now d =
    record {
      latest = now;
      raised = d.raised;
      harts = map (hart_after_ticks (now - d.latest)) d.harts;
    }

-- a hart runs from now on, with no pause
abbrev pub with_start : ℕ → ℕ → Delays → Delays
with_start h now d = record (at now d) { harts = change idle_hart h (run 0) (at now d).harts }

-- a hart waits or is gone from now on
abbrev pub with_stop : ℕ → ℕ → Delays → Delays
with_stop h now d = record (at now d) { harts = change idle_hart h stop (at now d).harts }

-- a hart raises the global delay
abbrev pub with_raise : ℕ → ℕ → ℕ → Delays → Delays
with_raise h ticks now d = record (at now d) {
  raised = d.raised + ticks;
  harts = change_from 0 (raise_hart ticks h) (at now d).harts;
}

-- a hart's total becomes that of another
abbrev pub with_credit : ℕ → ℕ → Delays → Delays
with_credit woken waker d = record d {
  harts = change idle_hart woken (credit (total (hart_at d waker).account)) d.harts;
}

-- `harts` harts before any moment was given
abbrev pub none_raised : ℕ → Delays
none_raised harts = record { latest = 0; raised = 0; harts = replicate harts idle_hart }
