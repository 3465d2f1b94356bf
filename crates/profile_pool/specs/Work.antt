-- What the work of a claim is: the runs of a line of a plan.
use Rattle.std.specs.Prelude.{◌≡◌, ℕ, ◌<◌, ◌≤◌, ◌⊎◌, List, [], ◌∷◌, Some, IfSome, length, map, All}
use Rattle.std.specs.List.{slice_index_or}
use Rattle.coz_types.specs.declared.TheConstants.{MAX_BUDGET}
use Rattle.coz_types.specs.declared.record.Summary.{Summary}
use Rattle.experiment_plan.specs.declared.experiment.Experiment.{Experiment}
use Rattle.experiment_plan.specs.ByLine.{by_line}
use Rattle.profile_pool.specs.declared.work.Work.{Work}
use Rattle.machines.specs.Delayed.{unbegun}
use Rattle.run_engine.specs.Seen.{Seen, experiment_of}
use Rattle.run_engine.specs.Run.{IsMachine}
use Rattle.profile_pool.specs.Subjects.{summary_on}
use Rattle.profile_pool.specs.Made.{parts_made, made_for}
use Rattle.profile_pool.specs.declared.plain.Plain.{Plain}
use Rattle.profile_pool.specs.Plain.{starts_at, starts_in, IsPlain}

-- the summary of the run of a pair
abbrev pub summary_of_pair : Work → Experiment → Summary
summary_of_pair work pair =
    summary_on work.subject work.budget pair.line.0 pair.speedup

-- what the work of a claim gives: the summaries of the runs of the line at that place of the plan
abbrev pub work_at : Work → ℕ → List Summary
work_at work claim = map (summary_of_pair work) (slice_index_or (by_line work.plan.now) claim [])

-- what the runs ask for: lines of the program, a budget, a lead that stands where it was made,
-- and what the run with no line selected left, if it was made
pub record IsWork (work : Work) : Type 0 where
  pub lines : All (λ (pair : Experiment).
      pair.line.0 < length work.subject.index.now.lines) work.plan.now
  pub some_budget : 1 ≤ work.budget
  pub few : work.budget ≤ MAX_BUDGET
  pub machine : IsMachine work.subject.timing work.budget
  pub first : parts_made work.first.now ≡ made_for work (Some 0) 0
  pub unbegun : work.first.now.state
      ≡ record { state = unbegun (experiment_of work.first.now); harts = 0 ∷ [] }
  pub plain : IfSome work.plain.now (IsPlain work.subject work.budget)

-- a lead is one of the line at this position, unless that line is known not to start
abbrev pub IsLed : {State : Type 0} → Work → Seen State → ℕ → Type 0
IsLed work lead line =
    ¬ (starts_in work.plain.now line ≡ Some 0) → parts_made lead ≡ made_for work (Some line) 0

-- the run of a pair is the run with no line selected, which left this, but for its label, its
-- speedup and its starts
abbrev pub IsTakenFrom : Work → Plain → Experiment → Type 0
IsTakenFrom work plain pair =
    IsPlain work.subject work.budget plain
    × ((pair.speedup ≡ 0) ⊎ (starts_at plain pair.line.0 ≡ 0))
