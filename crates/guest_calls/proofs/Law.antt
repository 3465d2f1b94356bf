-- The guest keeps the rules of a guest of the machines.
use Rattle.std.proofs.Common.{◌≡◌, ℕ, zero, suc, ◌<◌, ◌≤◌, ◌^◌, ◌==◌, Bool, true, false, ◌||◌, if◌then◌else◌, List, Option, refl, sym, ap, ◌∙◌, arith}
use Rattle.std.proofs.lemmas.List.{length-set}
use Rattle.std.proofs.lemmas.Bool.{eqb-true}
use Rattle.std.proofs.Math.Dec.{eqb-suc-zero}
use Rattle.coz_types.specs.declared.ending.Ending.TheVariants.{Trapped}
use Rattle.coz_types.specs.declared.ending.Trap.{Trap}
use Rattle.coz_types.specs.Image.{ImageParts}
use Rattle.machines.specs.declared.Fate.TheVariants.{Sleeps, Ends}
use Rattle.machines.specs.Places.{is_among}
use Rattle.machines.specs.Guest.{IsLawful}
use Rattle.guest_memory.specs.declared.Layout.{Layout}
use Rattle.guest_calls.specs.Guest.{Guest, making, is_running, hart_at, is_sleeping, is_sleeping_status, is_timed, sleepers, with_wake, first_guest}
use Rattle.guest_calls.specs.declared.hart.HartStatus.TheVariants.{Running}
use Rattle.guest_calls.specs.Calls.{call_of}
use Rattle.guest_calls.specs.Retire.{retire}
use Rattle.guest_calls.specs.Plug.{plug}
use Rattle.guest_calls.specs.Orderly.{IsOrderly}
pub use Rattle.guest_calls.proofs.Started.{running_low, timed_low}
use Rattle.guest_calls.proofs.Started.{waiting_of}
use Rattle.guest_pipes.specs.Pipes.{no_pipes}
use Rattle.guest_calls.proofs.Waiting.{waiting-elsewhere, others-moving}
use Rattle.guest_calls.proofs.RunningHarts.{made_timed, runs_awake, timed_put, asleep_less, status_at}
use Rattle.guest_calls.proofs.Retired.{call_started, retire_started}

-- the harts that a retirement makes or wakes neither ran nor slept before it
pub others_idle : (g : Guest) (h v : ℕ) → IsOrderly g → is_running g h ≡ true → (k : ℕ) → is_among k (retire g h v).others ≡ true → is_timed g k ≡ false
others_idle g h v good runs = (retire_started g h v good runs).idle

-- and have low numbers, even if the run ends
pub others_low : (g : Guest) (h v : ℕ) → IsOrderly g → is_running g h ≡ true → (k : ℕ) → is_among k (retire g h v).others ≡ true → k < 256
others_low g h v good runs = (retire_started g h v good runs).low

-- the moment of a wake is small
pub sleeps_few : (g : Guest) (h v : ℕ) → IsOrderly g → is_running g h ≡ true → (moment : ℕ) → (retire g h v).fate ≡ Sleeps moment → moment ≤ 10 ^ 16
sleeps_few g h v good runs moment is = (retire_started g h v good runs).fate.1 moment is

-- a running hart doesn't sleep
pub running_awake : (g : Guest) (h : ℕ) → is_running g h ≡ true → is_sleeping g h ≡ false
running_awake g h runs = runs_awake (status_at g.harts h) runs

-- a trap is that of the hart that retires
pub own_trap : (g : Guest) (h v : ℕ) → IsOrderly g → is_running g h ≡ true → (t : Trap) → (retire g h v).fate ≡ Ends (Trapped t) → t.hart.0 ≡ h
own_trap g h v good runs = (retire_started g h v good runs).trap

-- what a guest was made with stays
pub retire-made : (g : Guest) (h v : ℕ) → IsOrderly g → is_running g h ≡ true → making (retire g h v).guest ≡ making g
retire-made g h v good runs = (retire_started g h v good runs).made

pub call_of-made : (g : Guest) (h v : ℕ) → IsOrderly g → is_running g h ≡ true → making (call_of g h v).guest ≡ making g
call_of-made g h v good runs = (call_started g h v good runs).made

pub first_orderly : (image : ImageParts) (input : List ℕ) (output_limit : ℕ) (layout : Layout) → IsOrderly (first_guest image input output_limit layout)
unfolding first_guest no_pipes
first_orderly image input output_limit layout = record { few = omega arith; waiting = λ h among. absurd (let no : false ≡ true = among in cc); apart = tt }

-- hart 0 runs at first, and none sleeps
first_timed : (image : ImageParts) (input : List ℕ) (output_limit : ℕ) (layout : Layout) (k : ℕ) → is_timed (first_guest image input output_limit layout) k ≡ (k == 0)
unfolding first_guest
first_timed image input output_limit layout zero = refl
first_timed image input output_limit layout (suc k) = sym (eqb-suc-zero k)

first_asleep : (image : ImageParts) (input : List ℕ) (output_limit : ℕ) (layout : Layout) → sleepers (first_guest image input output_limit layout) ≡ 0
unfolding first_guest
first_asleep image input output_limit layout = refl

-- a hart that is woken is no waiter
pub wake_orderly : (g : Guest) (h : ℕ) → IsOrderly g → is_sleeping g h ≡ true → IsOrderly (with_wake h g)
wake_orderly g h good asleep = record {
  few = rw (length-set g.harts h (record (hart_at g h) { status = Running })) good.few;
  waiting =
      waiting-elsewhere g.harts h _ (waiting_of g)
      (others-moving g.harts h (waiting_of g) (λ waits. let never : false ≡ true = ap is_sleeping_status (sym waits) ∙ asleep in cc) good.waiting)
      good.waiting;
  apart = good.apart;
}

same_bit : (is before : Bool) → (is ≡ true → before ≡ true) → (if is then true else before) ≡ before
same_bit true before timed = sym (timed refl)
same_bit false before timed = refl

-- it ran or slept before, and runs then
wake_timed : (g : Guest) (h : ℕ) → IsOrderly g → is_sleeping g h ≡ true → (k : ℕ) → is_timed (with_wake h g) k ≡ is_timed g k
wake_timed g h good asleep k =
    let timed : is_timed g h ≡ true = ap (λ (b : Bool). b || is_running g h) asleep in
    timed_put g.harts h k _ (made_timed g.harts h timed) ∙ same_bit (k == h) (is_timed g k) (λ is. ap (is_timed g) (eqb-true k h is) ∙ timed)

pub lawful : (has_selected : ℕ → Bool) (point_at : ℕ → Option ℕ) (image : ImageParts) (input : List ℕ) (output_limit : ℕ) (layout : Layout) (speedup budget visit_limit : ℕ) → speedup ≤ 100
    → IsLawful
    (record {
      guest = plug has_selected point_at;
      first = first_guest image input output_limit layout;
      speedup = speedup;
      budget = budget;
      visit_limit = visit_limit;
      output_limit = output_limit;
    })
    IsOrderly
lawful has_selected point_at image input output_limit layout speedup budget visit_limit in_range = record {
  first_good = first_orderly image input output_limit layout;
  first_running = first_timed image input output_limit layout;
  first_awake = first_asleep image input output_limit layout;
  stays_good = λ g h v good runs. (retire_started g h v good runs).orderly;
  apart = λ g h v good runs. (retire_started g h v good runs).apart;
  running = λ g h v good runs. (retire_started g h v good runs).timed;
  sleeps_later = λ g h v good runs. (retire_started g h v good runs).fate.0;
  sleeps_one = λ g h v good runs. (retire_started g h v good runs).asleep;
  wakes_good = wake_orderly;
  wakes = wake_timed;
  wakes_one = λ g h good asleep. asleep_less g.harts h _ asleep refl;
  speedup_in_range = in_range;
}
