-- What holds of a guest between retirements.
use Rattle.std.specs.Prelude.{ℕ, ◌≡◌, ◌≤◌, true, List, ◌++◌, length, get_or, map}
use Rattle.coz_types.specs.declared.TheConstants.{HARTS}
use Rattle.machines.specs.Places.{is_among, AllApart}
use Rattle.guest_futex.specs.Waiters.{Waiter}
use Rattle.guest_pipes.specs.declared.waiters.PipeWaiter.{PipeWaiter}
use Rattle.guest_calls.specs.declared.hart.Hart.{Hart}
use Rattle.guest_calls.specs.declared.hart.HartStatus.TheVariants.{Waiting}
use Rattle.guest_calls.specs.Guest.{Guest, no_hart}

-- the harts that wait at an address, and those that wait for a pipe
abbrev pub waiting_harts : List Waiter → List PipeWaiter → List ℕ
waiting_harts ws ps = map (λ w. w.hart) ws ++ map (λ w. w.hart.0) ps

-- each of these harts waits
abbrev pub AreWaiting : List Hart → List ℕ → Type 0
AreWaiting harts hs = (h : ℕ) → is_among h hs ≡ true → (get_or harts h no_hart).status ≡ Waiting

pub record IsOrderly (g : Guest) : Type 0 where
  pub few : length g.harts ≤ HARTS
  pub waiting : AreWaiting g.harts (waiting_harts g.waiters g.pipes.waiters)
  -- no hart waits twice
  pub apart : AllApart (waiting_harts g.waiters g.pipes.waiters)
