-- The budget, the workers and the machine of a request.
use Rattle.std.proofs.Common.{◌≡◌, ◌≤◌, ◌^◌, true, refl, ap, subst, sym, arith}
use Rattle.coz_words.specs.Request.{IsFit, has_option, is_runner, workers_name}
use Rattle.coz_words.specs.declared.command.Command.{Command}
use Rattle.coz_words.specs.declared.command.Command.TheVariants.{Profile}
use Rattle.coz_words.specs.declared.request.Request.{Request}
use Rattle.timing_model.specs.declared.timing.Timing.{Timing}
use Rattle.timing_model.specs.Timing.{IsTiming}
use Rattle.timing_steps.specs.declared.ticks.TheConstants.{MAX_TIMED_BUDGET}
use Rattle.run_engine.specs.Run.{IsMachine}

pub some_budget : (request : Request) → IsFit request → request.command ≡ Profile → 1 ≤ request.budget
some_budget request fit profile = fit.some_budget (ap is_runner profile)

pub some_workers : (request : Request) → IsFit request → request.command ≡ Profile → 1 ≤ request.workers
some_workers request fit profile = fit.some_workers (subst (λ (c : Command). has_option c workers_name ≡ true) (sym profile) refl)

pub few_in_all : (budget : _) → budget ≤ MAX_TIMED_BUDGET → budget ≤ 10 ^ 12
few_in_all budget few = omega (arith, few)

pub machine : (timing : Timing) (budget : _) → IsTiming timing → budget ≤ MAX_TIMED_BUDGET → IsMachine timing budget
machine timing budget is few = record { timing = is; long = λ long. absurd (omega (arith, long, few)) }
