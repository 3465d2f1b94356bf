use Rattle.std.proofs.Common.{◌≡◌, ◌*◌, ◌-◌}
use Rattle.run_engine.specs.Engine.{events_of}
use Rattle.run_counts.specs.Counts.{counts_of}
use Rattle.counted_run.specs.CountedRun.{IsCounting}
use Rattle.counted_run.proofs.counted.Counted.run.Given as goal

-- the state is one of the run, whose image, input and setting stay
abbrev pub invariant-loop-self : goal.invariant-loop-self
invariant-loop-self l =
    IsCounting l.self-inside.image.now l.self-inside.input.now l.self-inside.setting l.self-inside.engine (counts_of l.self-inside.tallies)
    × (l.self-inside.image.now ≡ l.initial.self-inside.image.now)
    × (l.self-inside.input.now ≡ l.initial.self-inside.input.now)
    × (l.self-inside.setting ≡ l.initial.self-inside.setting)

abbrev pub decreases-loop-self : goal.decreases-loop-self
decreases-loop-self l = 2 * l.self-inside.setting.choice.budget - events_of l.self-inside.engine
