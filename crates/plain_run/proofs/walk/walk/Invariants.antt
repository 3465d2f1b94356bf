use Rattle.std.proofs.Common.{ℕ, ◌*◌, ◌-◌, List}
use Rattle.coz_types.specs.Image.{ImageParts}
use Rattle.run_engine.specs.Engine.{events_of, IsFirst}
use Rattle.plain_run.specs.Noting.{IsWalked}
use Rattle.plain_run.proofs.walk.walk.Given as goal

abbrev pub invariant-loop-engine : goal.invariant-loop-engine
invariant-loop-engine l = (image : ImageParts) (input : List ℕ) → IsFirst l.setting image input l.initial.engine
    → IsWalked image input l.setting l.engine l.waits

abbrev pub decreases-loop-engine : goal.decreases-loop-engine
decreases-loop-engine l = 2 * l.setting.choice.budget - events_of l.engine
