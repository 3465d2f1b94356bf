-- The run that counts.
use Rattle.std.specs.Prelude.{◌≡◌, ℕ, ◌+◌, ◌*◌, ◌^◌, ◌≤◌, Bool, List, length, Some, None, is_none, All}
use Rattle.coz_types.specs.declared.LineId.{LineId}
use Rattle.coz_types.specs.declared.TheConstants.{HARTS}
use Rattle.coz_types.specs.declared.ending.Ending.{Ending}
use Rattle.coz_types.specs.declared.record.Visit.{Visit}
use Rattle.coz_types.specs.Image.{ImageParts}
use Rattle.timed_guest.specs.Guest.{Timed}
use Rattle.timed_guest.specs.Retire.{line_counted}
use Rattle.run_engine.specs.declared.choice.Choice.{Choice}
use Rattle.run_engine.specs.declared.choice.Setting.{Setting}
use Rattle.run_engine.specs.declared.engine.Engine.{Engine}
use Rattle.run_engine.specs.Engine.{IsEngineOf, events_of, most_ticks}
use Rattle.run_engine.specs.Run.{IsSetting, experiment_in}
use Rattle.run_engine.specs.Seen.{Seen}
use Rattle.virtual_run.specs.DelayedRun.{IsOfAHart}
use Rattle.run_counts.specs.Beginnings.{begun}
use Rattle.run_counts.specs.Counts.{Counts, place_in, is_on, AreCounts}

-- with no line selected, at speedup 0
abbrev pub plain_choice : Choice → Choice
plain_choice choice = record choice { selected = None; speedup = 0 }

-- with this line selected, at this speedup
abbrev pub selecting_line : {State : Type 0} → LineId → ℕ → Seen State → Seen State
selecting_line line speedup seen = record seen {
  choice = record seen.choice { selected = Some line; speedup = speedup };
}

-- the next instruction of a hart counts for the line at this position
abbrev pub on_line : ℕ → Timed → ℕ → Bool
on_line line t h = is_on line (line_counted t h)

-- it counts for none of this many lines
abbrev pub on_none : ℕ → Timed → ℕ → Bool
on_none count t h = is_none (place_in count (line_counted t h))

-- each was kept with no delay
abbrev pub AreUndelayed : List Visit → Type 0
AreUndelayed visits = All (λ visit. visit.delay ≡ 0) visits

-- the setting is within the limits and selects nothing, the fields stand for the state after as
-- many retirements and wakes as the engine counts, and the counts are those of what was begun
pub record IsCounting (image : ImageParts) (input : List ℕ) (setting : Setting)
    (engine : Engine) (c : Counts) : Type 0 where
  pub valid : IsSetting setting
  pub unselected : setting.choice.selected ≡ None
  pub no_speedup : setting.choice.speedup ≡ 0
  pub reached : IsEngineOf (experiment_in image input setting) engine
  pub undelayed : AreUndelayed engine.visits.kept
  pub soon : engine.time ≤ 10 ^ 17
  pub trap : (ending : Ending) → engine.ending ≡ Some ending → IsOfAHart ending
  pub few : c.begun ≤ HARTS * (events_of engine + 1)
  pub work : c.all ≤ most_ticks setting.timing * c.begun
  pub counts_are : AreCounts (experiment_in image input setting) line_counted
      (length setting.index.now.lines)
      (begun (experiment_in image input setting) (events_of engine)) c
