-- What leads and machines were made with, and that they were made for the runs of a plan.
use Rattle.std.specs.Prelude.{◌≡◌, ℕ, Option, None}
use Rattle.run_engine.specs.Seen.{Seen}
use Rattle.virtual_run.specs.Lead.{arguments}
use Rattle.profile_pool.specs.declared.work.Runner.{Runner}
use Rattle.profile_pool.specs.declared.work.Work.{Work}
use Rattle.run_engine.specs.Choices.{choice_of}

-- all but the state
abbrev pub parts_made : {State : Type 0} → Seen State → Seen (Unit {0})
parts_made seen = record {
  image = seen.image;
  index = seen.index;
  points = seen.points;
  timing = seen.timing;
  input = seen.input;
  choice = seen.choice;
  state = tt;
}

-- for a run of a plan, with the line at this position selected, if one is, at this speedup
abbrev pub made_for : Work → Option ℕ → ℕ → Seen (Unit {0})
made_for work line speedup = record {
  image = work.subject.image.now;
  index = work.subject.index.now;
  points = work.subject.points.now;
  timing = work.subject.timing;
  input = work.subject.input.now;
  choice = choice_of line speedup work.budget;
  state = tt;
}

-- for runs of a plan, whatever line is selected at whatever speedup
abbrev pub IsFor : {State : Type 0} → Work → Seen State → Type 0
IsFor work seen = arguments seen ≡ made_for work None 0

abbrev pub AreFor : Work → Runner → Type 0
AreFor work runner = IsFor work runner.lead × IsFor work runner.machine
