-- The instructions that a run of the delayed machine begins.
use Rattle.std.specs.Prelude.{ℕ, zero, suc, ◌++◌, Bool, List, map, if◌then◌else◌}
use Rattle.std.specs.List.{count_by, sum_by}
use Rattle.machines.specs.Guest.{Experiment, cost, enough}
use Rattle.machines.specs.Lead.{Before, before}

-- a hart begins its next instruction in this state of the guest
pub record Beginning (G : Type 0) : Type 0 where
  pub guest : G
  pub hart : ℕ

-- each hart that begins there
abbrev pub beginnings : {G : Type 0} → Before G → List (Beginning G)
beginnings b = map (λ h. record { guest = b.state.guest; hart = h }) b.harts

module _ {G : Type 0} (x : Experiment G) where
  -- from the first up to those after n retirements and wakes, in order
  unfoldable pub begun : ℕ → List (Beginning G)
  begun zero = beginnings (before x 0)
  begun (suc n) = begun n ++ beginnings (before x (suc n))

  -- those of the whole run, which has ended after twice as many retirements and wakes as its budget
  abbrev pub all_begun : List (Beginning G)
  all_begun = begun (enough x)

  -- how many of these instructions pass a test of the guest and the hart
  abbrev pub starts_among : (G → ℕ → Bool) → List (Beginning G) → ℕ
  starts_among test begun = count_by (λ b. test b.guest b.hart) begun

  -- the ticks of work of one that passes
  abbrev pub cost_if : (G → ℕ → Bool) → Beginning G → ℕ
  cost_if test b = if test b.guest b.hart then cost x b.guest b.hart else 0

  -- and of all those that pass
  abbrev pub cost_among : (G → ℕ → Bool) → List (Beginning G) → ℕ
  cost_among test begun = sum_by (cost_if test) begun
