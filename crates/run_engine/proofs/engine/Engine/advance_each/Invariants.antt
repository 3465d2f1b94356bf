use Rattle.std.proofs.Common.{ℕ, ◌-◌}
use Rattle.run_engine.specs.Engine.{IsSteady, IsOnMachine}
use Rattle.run_engine.specs.Far.{AreQuiet}
use Rattle.run_engine.proofs.engine.Engine.advance_each.Given as goal

-- quiet retirements so far
abbrev pub invariant-loop-fate : goal.invariant-loop-fate
invariant-loop-fate l = record {
  far : (n : ℕ) × AreQuiet l.marked n l.fn.self l.self;
  steady : IsSteady l.self;
  machine : IsOnMachine l.marked l.self;
}

abbrev pub decreases-loop-fate : goal.decreases-loop-fate
decreases-loop-fate l = l.marked.choice.budget - l.self.retired
