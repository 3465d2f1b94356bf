use Rattle.std.proofs.Common.{◌≤◌, subst}
use Rattle.machines.specs.Guest.{Experiment, IsLawful}
use Rattle.machines.specs.Records.{IsShortened}
use Rattle.machines.specs.Standing.{delayed_record}
use Rattle.machines.proofs.Standing.{delayed_is, net_is}
use Rattle.machines.proofs.Headline.{headline}
use Rattle.timed_guest.specs.Runs.{with_costs, noting_of, slicing_of}
use Rattle.guest_timing.specs.Timed.{timed, KeepsTheLaw}
use Rattle.run_engine.specs.Run.{experiment, selected_line}
use Rattle.guest_calls.specs.Orderly.{IsOrderly}
use Rattle.timing_laws.specs.Noted.{noted_guest}
use Rattle.timing_laws.specs.Cores.{IsInLine}
use Rattle.timing_laws.proofs.Usual.{timed_lawful}
use Rattle.guest_timing.proofs.Lawful.{costed_lawful, costed_fresh}
use Rattle.guest_timing.proofs.timed_runs_keep_the_law.Goals as goal

-- a lawful run keeps the law
kept : {G : Type 0} (x : Experiment G) (Good : G → Type 0) → IsLawful x Good → 1 ≤ x.budget → KeepsTheLaw x
kept x Good law some = record {
  delayed = delayed_is x Good law some;
  shortened = subst (IsShortened x) (net_is x Good law some) (headline x Good law (delayed_record x) (delayed_is x Good law some));
  law = net_is x Good law some;
}

pub returns : goal.returns
returns c = λ t image position point input choice valid.
    let costed = with_costs t.costs (experiment image position point input choice) in
    let noting = noting_of t position (selected_line choice) in
    kept (timed t image position point input choice) (IsInLine (noted_guest noting costed.guest) (λ m. IsOrderly m.guest))
    (timed_lawful noting (slicing_of t) costed IsOrderly (costed_lawful image position point input choice valid.speedup t.costs) (costed_fresh image position point input choice valid.speedup t.costs))
    valid.some_budget
