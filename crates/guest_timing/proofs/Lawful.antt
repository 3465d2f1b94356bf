-- The guest with the costs of a machine is lawful, and its harts are numbered.
use Rattle.std.proofs.Common.{◌≡◌, ℕ, ◌≤◌, List, Option, ap, arith}
use Rattle.std.proofs.Math.Path.{fun_ext}
use Rattle.coz_types.specs.Image.{ImageParts}
use Rattle.machines.specs.Guest.{Experiment, IsLawful}
use Rattle.guest_calls.specs.Guest.{Guest}
use Rattle.guest_calls.specs.Retire.{next_of}
use Rattle.guest_calls.specs.Orderly.{IsOrderly}
use Rattle.guest_calls.proofs.Law.{others_idle, timed_low, running_awake}
use Rattle.run_engine.specs.declared.choice.Choice.{Choice}
use Rattle.run_engine.specs.Run.{experiment}
use Rattle.run_engine.proofs.Law.{lawful_run}
use Rattle.timing_laws.specs.Cores.{IsFresh, IsNumbered, IsCounted}
use Rattle.timing_laws.proofs.Counts.{runs_counted}
use Rattle.timing_model.specs.declared.costs.Costs.{Costs}
use Rattle.timing_model.specs.Timing.{cycles_in}
use Rattle.cost_table.specs.Costs.{cycles_of}
use Rattle.timed_guest.specs.Runs.{with_costs}
use Rattle.guest_timing.specs.Timed.{running_harts}
use Rattle.timed_guest.proofs.Sleepers.{sleepers_below}

module _ (image : ImageParts) (position point : ℕ → Option ℕ) (input : List ℕ) (choice : Choice) (small : choice.speedup ≤ 95) where
  abbrev x : Experiment Guest
  x = experiment image position point input choice

  -- the laws of a guest do not speak of costs
  pub costed_lawful : (costs : Costs) → IsLawful (with_costs costs x) IsOrderly
  costed_lawful costs =
      let law = lawful_run image position point input choice small in
      record {
        first_good = law.first_good;
        first_running = law.first_running;
        first_awake = law.first_awake;
        stays_good = law.stays_good;
        apart = law.apart;
        running = law.running;
        sleeps_later = law.sleeps_later;
        sleeps_one = law.sleeps_one;
        wakes_good = law.wakes_good;
        wakes = law.wakes;
        wakes_one = law.wakes_one;
        speedup_in_range = law.speedup_in_range;
      }

  pub costed_fresh : (costs : Costs) → IsFresh (with_costs costs x).guest IsOrderly
  costed_fresh costs = λ g h v k good runs among. others_idle g h v good runs k among

  pub costed_numbered : (costs : Costs) → IsNumbered (with_costs costs x).guest IsOrderly 256
  costed_numbered costs = record {
    some_limit = omega arith;
    low = λ g k good timed. (timed_low g k good timed).1;
    awake = λ g k good runs. running_awake g k runs;
    sleepers_are = λ g good. sleepers_below g.harts 256 good.few;
  }

  pub costed_counted : (costs : Costs) → IsCounted (with_costs costs x) IsOrderly running_harts 256
  costed_counted costs = runs_counted (with_costs costs x) IsOrderly 256 (costed_lawful costs) (costed_fresh costs) (costed_numbered costs)

  -- with the usual costs it is the guest itself
  pub same_costs : (costs : Costs) → ((i : _) → cycles_in costs i ≡ cycles_of i) → with_costs costs x ≡ x
  same_costs costs same =
      ap
      (λ (cycles : Guest → ℕ → ℕ). record x { guest = record (x.guest) { cycles = cycles } })
      (fun_ext (λ g. fun_ext (λ h. same (next_of g h))))
