-- A step of the state beside a step of its guest is a step of the guest on cores.
use Rattle.std.proofs.Common.{refl}
use Rattle.machines.specs.Guest.{Experiment}
use Rattle.timing_steps.specs.State.{StepsAreTheGuests}

pub steps : {G : Type 0} (x : Experiment G) → StepsAreTheGuests x
steps x = λ n w. record {
  first = refl;
  steps = λ g notes s. record {
    retires = λ h v. refl;
    wakes = λ h. refl;
    cycles = λ h. refl;
    selected = λ h. refl;
  };
}
