-- Several moves of the engine in one call: quiet retirements, and then one event.
use Rattle.std.specs.Prelude.{◌≡◌, ℕ, zero, suc, ◌+◌, ◌≤◌, ◌<◌, ◌⊎◌, false, nat_le, length, [], Some, None}
use Rattle.machines.specs.declared.Fate.{Fate}
use Rattle.machines.specs.declared.Fate.TheVariants.{Goes}
use Rattle.hart_schedule.specs.Keys.{Keys, key_of, without_key}
use Rattle.progress_points.specs.Points.{point_of}
use Rattle.run_engine.specs.declared.choice.Setting.{Setting}
use Rattle.run_engine.specs.declared.engine.Event.{Event}
use Rattle.run_engine.specs.declared.engine.Engine.{Engine}
use Rattle.run_engine.specs.Engine.{IsSteady, IsOnMachine}
use Rattle.run_engine.specs.Advance.{IsRetired, IsAdvance}

-- in a setting this engine becomes that one as a hart retires quietly: it goes on, it alone
-- begins an instruction, which has not the selected line, no point is visited, and the run goes
-- on. Whatever the delay is, no visit is kept with it.
pub record IsQuiet (setting : Setting) (engine new : Engine) : Type 0 where
  pub hart : ℕ
  pub retired : (delay : ℕ) → IsRetired setting engine hart Goes delay new
  pub started : new.started ≡ []
  pub selected : new.selected ≡ []
  pub starts : new.starts ≡ engine.starts
  pub visits : new.visits ≡ engine.visits
  pub goes : new.ending ≡ None

-- it becomes that one as this many harts retire quietly, one after the other
abbrev pub AreQuiet : Setting → ℕ → Engine → Engine → Type 0
AreQuiet setting zero engine new = engine ≡ new
AreQuiet setting (suc n) engine new =
    (last : Engine) × AreQuiet setting n engine last × IsQuiet setting last new

-- several moves: some quiet retirements, and after them this event, which may be any
abbrev pub IsFarAdvance : Setting → Engine → Event → ℕ → Engine → Type 0
IsFarAdvance setting engine event delay new =
    (middle : Engine) × (n : ℕ) × AreQuiet setting n engine middle
    × IsAdvance setting middle event delay new

-- and if a hart retires to this fate with the last of them
abbrev pub IsFarRetired : Setting → Engine → ℕ → Fate → ℕ → Engine → Type 0
IsFarRetired setting engine hart fate delay new =
    (middle : Engine) × (n : ℕ) × AreQuiet setting n engine middle
    × IsRetired setting middle hart fate delay new

-- while a hart is due before this limit, each other hart is due after it
abbrev pub IsLimit : Keys → ℕ → ℕ → Type 0
IsLimit keys hart limit =
    (other key due : ℕ) → key_of (without_key hart keys) other ≡ Some key → due < limit
    → (due < key) ⊎ ((due ≡ key) × (hart ≤ other))

-- a hart that has this address may retire quietly so often, but for the last time: no point is
-- there, no limit is reached, and the budget is enough
pub record AllowsQuiet (setting : Setting) (engine : Engine) (address most : ℕ) : Type 0 where
  pub point : point_of setting.points.now address ≡ None
  pub output : nat_le setting.choice.output_limit (length engine.guest.guest.output) ≡ false
  pub visits : nat_le setting.choice.visit_limit (length engine.visits.kept) ≡ false
  pub budget : engine.retired + most ≤ setting.choice.budget

-- one quiet retirement or more, and the run goes on
pub record HasPassed (setting : Setting) (engine new : Engine) : Type 0 where
  pub count : ℕ
  pub quiet : AreQuiet setting count engine new
  pub steady : IsSteady new
  pub machine : IsOnMachine setting new
  pub more : engine.retired < new.retired
  pub few : new.retired ≤ setting.choice.budget
