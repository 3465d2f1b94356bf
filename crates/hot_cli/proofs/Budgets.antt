-- The budget of a run.
use Rattle.std.proofs.Common.{◌≡◌, ◌≤◌, ◌^◌, ap, subst}
use Rattle.coz_words.specs.Request.{IsFit, greatest_budget, is_runner}
use Rattle.coz_words.specs.declared.command.Command.{Command}
use Rattle.coz_words.specs.declared.command.Command.TheVariants.{Run}
use Rattle.coz_words.specs.declared.request.Request.{Request}

pub run_budget : (request : Request) → IsFit request → request.command ≡ Run → (1 ≤ request.budget) × (request.budget ≤ 10 ^ 12)
run_budget request fit runs = (
  fit.some_budget (ap is_runner runs),
  subst (λ (c : Command). request.budget ≤ greatest_budget c) runs fit.budget,
)
