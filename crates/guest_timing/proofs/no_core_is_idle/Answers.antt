use Rattle.timed_guest.specs.Runs.{with_costs, noting_of, slicing_of}
use Rattle.guest_timing.specs.Timed.{running_harts}
use Rattle.run_engine.specs.Run.{experiment, selected_line}
use Rattle.guest_calls.specs.Orderly.{IsOrderly}
use Rattle.timing_laws.proofs.Usual.{timed_tallied}
use Rattle.guest_timing.proofs.Lawful.{costed_lawful, costed_fresh, costed_counted}
use Rattle.guest_timing.proofs.no_core_is_idle.Goals as goal

pub returns : goal.returns
returns c = λ t some image position point input choice valid.
    timed_tallied (noting_of t position (selected_line choice)) (slicing_of t) (with_costs t.costs (experiment image position point input choice)) IsOrderly
    (costed_lawful image position point input choice valid.speedup t.costs) (costed_fresh image position point input choice valid.speedup t.costs)
    running_harts 256 (costed_counted image position point input choice valid.speedup t.costs) some
