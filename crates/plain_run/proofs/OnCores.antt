-- What the engine's run says of its harts is what the guest on cores says of them.
use Rattle.std.proofs.Common.{◌≡◌, ℕ, zero, suc, ◌+◌, ◌-◌, ◌≤◌, ◌==◌, ◌||◌, nat_lt, not, Bool, true, false, if◌then◌else◌, List, [], length, refl, sym, ap, ap₂, ◌∙◌, Option, ⊎_elim, arith}
use Rattle.std.proofs.lemmas.Bool.{cases_Bool, eqb-true}
use Rattle.coz_types.specs.Image.{ImageParts}
use Rattle.line_index.specs.Index.{Index, position_at}
use Rattle.machines.specs.Guest.{Experiment, IsLawful, enough}
use Rattle.machines.specs.Places.{is_among}
use Rattle.machines.specs.Shortened.{Shortened, shortened}
use Rattle.guest_calls.specs.Guest.{Guest}
use Rattle.guest_calls.specs.Orderly.{IsOrderly}
use Rattle.timing_laws.specs.Noted.{Noted, Noting, noting, noted_guest}
use Rattle.timing_laws.specs.Cores.{Cores, Slicing, IsFresh, IsInLine, IsCounted, HasRoom}
use Rattle.timing_laws.proofs.FollowsShort.{shortened_follows}
use Rattle.timing_laws.proofs.Notes.{noted_lawful, noted_follows}
use Rattle.timing_laws.proofs.CoresRoom.{cores_follow}
use Rattle.timing_laws.proofs.Usual.{timed_lawful}
use Rattle.timing_model.specs.declared.timing.Timing.{Timing}
use Rattle.timing_model.specs.Timing.{charges}
use Rattle.timing_steps.specs.State.{keeps}
use Rattle.timed_guest.specs.Guest.{Timed}
use Rattle.timed_guest.specs.Runs.{Run, with_costs, noting_of, slicing_of}
use Rattle.timed_guest.proofs.Follow.{timed_alike, plain_alike}
use Rattle.run_engine.specs.declared.choice.Choice.{Choice}
use Rattle.run_engine.specs.Run.{IsChoice, experiment, timed_experiment, selected_line}
use Rattle.guest_timing.specs.Timed.{timed, running_harts}
use Rattle.guest_timing.proofs.Lawful.{costed_lawful, costed_fresh, costed_counted}
use Rattle.ready_ticks.specs.Ready.{Course, course, waited}
use Rattle.ready_ticks.proofs.Nobody.{never_ready}
use Rattle.plain_run.specs.PlainRun.{timed_course}
use Rattle.plain_run.specs.Laws.{IsOnCores}

waited_same : (c d : Course) → ((m : ℕ) → c.line m ≡ d.line m) → ((m : ℕ) → c.moment m ≡ d.moment m) → (hart n : ℕ) → waited c hart n ≡ waited d hart n
waited_same c d lines moments hart zero = refl
waited_same c d lines moments hart (suc n) =
    ap₂ (λ (a b : ℕ). a + b) (waited_same c d lines moments hart n)
    (ap₂ (λ (b : Bool) (m : ℕ). if b then m else 0) (ap (is_among hart) (lines n)) (ap₂ (λ (a b : ℕ). a - b) (moments (suc n)) (moments n)))

-- if nobody ever stands in line, no hart waits
none_waited : (c : Course) → ((m : ℕ) → c.line m ≡ []) → (hart n : ℕ) → waited c hart n ≡ 0
none_waited c none hart zero = refl
none_waited c none hart (suc n) =
    ap₂ (λ (a b : ℕ). a + b) (none_waited c none hart n) (ap (λ (l : List ℕ). if is_among hart l then c.moment (suc n) - c.moment n else 0) (none n))

parts : (few : Bool) (charged : Bool) (none : Bool) → (few || charged || not none) ≡ false → (few ≡ false) × (charged ≡ false) × (none ≡ true)
parts true charged none is = absurd (let no : true ≡ false = is in cc)
parts false true none is = absurd (let no : true ≡ false = is in cc)
parts false false true is = (refl, refl, refl)
parts false false false is = absurd (let no : true ≡ false = is in cc)

all_cores : (cores : ℕ) → nat_lt cores 256 ≡ false → 256 ≤ cores
all_cores cores e = grind arith

module _ (t : Timing) (image : ImageParts) (index : Index) (point : ℕ → Option ℕ) (input : List ℕ) (choice : Choice) (valid : IsChoice choice) where
  abbrev run : Run
  run = record { image = image; input = input; layout = choice.layout; selected = selected_line choice; point_at = point; speedup = choice.speedup; budget = choice.budget; visit_limit = choice.visit_limit; output_limit = choice.output_limit }

  abbrev x : Experiment Timed
  x = timed_experiment t image index point input choice

  abbrev y : Experiment (Cores (Noted Guest))
  y = timed t image (position_at index) point input choice

  small : choice.speedup ≤ 100
  small = let few : choice.speedup ≤ 95 = valid.speedup in omega (arith, few)

  kept : keeps t ≡ true → IsOnCores x y
  kept is =
      let alike = timed_alike t index run is small in
      record {
        ready = λ hart.
            waited_same (timed_course x) (course y) (λ m. ap (λ (s : Shortened Timed). s.guest.beside.seats.ready) (alike.shortened_run m))
            (λ m. ap (λ (s : Shortened Timed). s.time) (alike.shortened_run m)) hart (enough y);
        harts = ap (λ (s : Shortened Timed). length s.guest.guest.harts) (alike.shortened_run (enough y));
      }

  module _ (none : keeps t ≡ false) where
    abbrev notes : Noting Guest
    notes = noting_of t (position_at index) (selected_line choice)

    abbrev w : Slicing (Noted Guest)
    w = slicing_of t

    abbrev costed : Experiment Guest
    costed = with_costs t.costs (experiment image (position_at index) point input choice)

    each : (nat_lt t.cores 256 ≡ false) × (charges t.charge ≡ false) × ((t.seed == 0) ≡ true)
    each = parts (nat_lt t.cores 256) (charges t.charge) (t.seed == 0) none

    law : IsLawful costed IsOrderly
    law = costed_lawful image (position_at index) point input choice valid.speedup t.costs

    fresh : IsFresh costed.guest IsOrderly
    fresh = costed_fresh image (position_at index) point input choice valid.speedup t.costs

    counted : IsCounted costed IsOrderly running_harts 256
    counted = costed_counted image (position_at index) point input choice valid.speedup t.costs

    noted_counted : IsCounted (noting notes costed) (λ m. IsOrderly m.guest) (λ m. running_harts m.guest) 256
    noted_counted = record {
      first_one = counted.first_one;
      retires = λ m h v good runs goes. counted.retires m.guest h v good runs goes;
      wakes = λ m h good sleeps. counted.wakes m.guest h good sleeps;
      some = λ m h good runs. counted.some m.guest h good runs;
      within = λ m good. counted.within m.guest good;
    }

    enough_cores : 256 ≤ t.cores
    enough_cores = all_cores t.cores each.0

    -- the guest of each state is the same
    guest_same : (m : ℕ) → (shortened x m).guest.guest ≡ (shortened y m).guest.guest.guest
    guest_same m =
        ap (λ (s : Shortened Timed). s.guest.guest) ((plain_alike t index run none small).shortened_run m)
        ∙ ap (λ (s : Shortened Guest). s.guest)
        (shortened_follows (noting notes costed) costed (λ n. n.guest) (λ n. IsOrderly n.guest) (λ n. Unit {0}) (noted_follows notes costed IsOrderly (eqb-true t.seed 0 each.2) each.1) (noted_lawful notes costed IsOrderly law) m)
        ∙ ap (λ (s : Shortened (Noted Guest)). s.guest.guest)
        (shortened_follows y (noting notes costed) (λ c. c.guest) (IsInLine (noted_guest notes costed.guest) (λ n. IsOrderly n.guest)) (HasRoom (λ n. running_harts n.guest))
        (cores_follow w (noting notes costed) (λ n. IsOrderly n.guest) (noted_lawful notes costed IsOrderly law) (λ n. running_harts n.guest) 256 noted_counted enough_cores)
        (timed_lawful notes w costed IsOrderly law fresh) m)

    plain : IsOnCores x y
    plain = record {
      ready = λ hart.
          none_waited (timed_course x) (λ m. ap (λ (s : Shortened Timed). s.guest.beside.seats.ready) ((plain_alike t index run none small).shortened_run m)) hart (enough y)
          ∙ sym (never_ready notes w costed IsOrderly law fresh running_harts 256 counted enough_cores hart (enough y));
      harts = ap (λ (g : Guest). length g.harts) (guest_same (enough y));
    }

  pub on_cores_is : IsOnCores x y
  on_cores_is = ⊎_elim (λ (is : keeps t ≡ true). kept is) (λ (is : keeps t ≡ false). plain is) (cases_Bool (keeps t))
