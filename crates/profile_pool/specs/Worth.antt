-- When a profile makes the run with no line selected before the runs of its lines.
use Rattle.std.specs.Prelude.{ℕ, ◌+◌, ◌/◌, ◌==◌, nat_lt, Bool, false, not, None, if◌then◌else◌}
use Rattle.coz_types.specs.declared.ending.Ending.{Ending}
use Rattle.coz_types.specs.declared.ending.Ending.TheVariants.{Exited}
use Rattle.guest_memory.specs.declared.Layout.{Layout}
use Rattle.machines.specs.Standing.{delayed_record}
use Rattle.run_engine.specs.Choices.{choice_of}
use Rattle.run_subject.specs.declared.Subject.{Subject}
use Rattle.run_subject.specs.Subjects.{experiment_on}
use Rattle.run_engine.specs.declared.choice.Choice.{Choice}
use Rattle.profile_pool.specs.declared.worth.TheConstants.{COSTS, SMALL_BRK, SMALL_MAP, SMALL_OUTPUT, SMALL_STACK}

abbrev pub is_success : Ending → Bool
is_success (Exited code) = code == 0
is_success _ = false

abbrev pub small : Layout
small = record { brk = SMALL_BRK; map = SMALL_MAP; stack = SMALL_STACK }

-- no line, this budget, little output and small regions
abbrev pub small_choice : ℕ → Choice
small_choice budget = record (choice_of None 0 budget) {
  output_limit = SMALL_OUTPUT;
  layout = small;
}

-- a run in small regions does not exit with code 0 within this many instructions
unfoldable pub is_long : Subject → ℕ → Bool
is_long s instructions =
    not (is_success (delayed_record (experiment_on s (small_choice instructions))).ending)

-- the instructions of a run which, made once for each of these lines, take more than the machine
-- for the run with no line selected
abbrev pub least_worth : ℕ → ℕ
least_worth lines = COSTS / lines + 1

-- there are two lines or more, and runs may be long and are
abbrev pub is_worth : Subject → ℕ → ℕ → Bool
is_worth s lines budget =
    if nat_lt lines 2 then false
    else if nat_lt budget (least_worth lines) then false
    else is_long s (least_worth lines)
