-- On the usual machine a run has an account for each hart that was made.
use Rattle.std.proofs.Common.{◌≡◌, ℕ, ◌≤◌, Bool, ◌||◌, length, List, sym, ap, subst}
use Rattle.std.proofs.lemmas.List.{length-set}
use Rattle.coz_types.specs.Image.{ImageParts}
use Rattle.line_index.specs.Index.{Index}
use Rattle.machines.specs.Guest.{Retirement, IsLawful}
use Rattle.guest_calls.specs.Guest as guests
use Rattle.guest_calls.specs.Retire as own
use Rattle.guest_memory.specs.declared.Layout.{Layout}
use Rattle.timing_model.specs.declared.timing.Timing.{Timing}
use Rattle.timing_model.specs.Timing.{IsUsual}
use Rattle.timed_guest.specs.Guest.{Timed, first_guest, is_running}
use Rattle.timed_guest.specs.Orderly.{IsOrderly}
use Rattle.timed_guest.specs.Retire.{retire}
use Rattle.timed_guest.proofs.Alone.{guest_alone}
use Rattle.timed_guest.proofs.Law.{running_low, timed_low}
use Rattle.run_engine.specs.declared.choice.Setting.{Setting}
use Rattle.run_engine.specs.Run.{experiment_in}
use Rattle.run_engine.proofs.Law.{lawful_in}
use Rattle.run_engine.proofs.Grown.{retire_timing, wake_timing, first_timing}
use Rattle.virtual_run.proofs.CreditedPlaces.{places, IsCounted}
use Rattle.virtual_run.proofs.Made.{retire_grows, first_count}

-- orderly, and on the usual machine
pub record IsUsualGuest (t : Timed) : Type 0 where
  pub orderly : IsOrderly t
  pub usual : IsUsual t.beside.timing

first_harts : (image : ImageParts) (input : List ℕ) (output_limit : ℕ) (layout : Layout) (timing : Timing) (index : Index) → length (first_guest image input output_limit layout timing index).guest.harts ≡ 1
unfolding first_guest
first_harts image input output_limit layout timing index = first_count image input output_limit layout

grows : (t : Timed) (h v : ℕ) → IsUsualGuest t → length (retire t h v).guest.guest.harts ≡ places (retire t h v).others (length t.guest.harts)
grows t h v good =
    let r : Retirement guests.Guest = own.retire t.guest h v in
    subst (λ (q : Retirement Timed). length q.guest.guest.harts ≡ places q.others (length t.guest.harts)) (sym ((guest_alone t good.usual).retires h v)) (retire_grows t.guest h v good.orderly.guest)

module _ (image : ImageParts) (input : List ℕ) (setting : Setting) (small : setting.choice.speedup ≤ 95) (usual : IsUsual setting.timing) where
  pub usual_law : IsLawful (experiment_in image input setting) IsUsualGuest
  usual_law =
      let law = lawful_in image input setting small in
      record {
        first_good = record { orderly = law.first_good; usual = subst IsUsual (sym (first_timing image input setting.choice.output_limit setting.choice.layout setting.timing setting.index.now)) usual };
        first_running = law.first_running;
        first_awake = law.first_awake;
        stays_good = λ g h v good runs. record { orderly = law.stays_good g h v good.orderly runs; usual = subst IsUsual (sym (retire_timing g h v)) good.usual };
        apart = λ g h v good runs. law.apart g h v good.orderly runs;
        running = λ g h v good runs. law.running g h v good.orderly runs;
        sleeps_later = λ g h v good runs. law.sleeps_later g h v good.orderly runs;
        sleeps_one = λ g h v good runs. law.sleeps_one g h v good.orderly runs;
        wakes_good = λ g h good asleep. record { orderly = law.wakes_good g h good.orderly asleep; usual = subst IsUsual (sym (wake_timing g h)) good.usual };
        wakes = λ g h good asleep. law.wakes g h good.orderly asleep;
        wakes_one = λ g h good asleep. law.wakes_one g h good.orderly asleep;
        speedup_in_range = law.speedup_in_range;
      }

  pub usual_counted : IsCounted (experiment_in image input setting) IsUsualGuest (λ t. length t.guest.harts)
  usual_counted = record {
    first = first_harts image input setting.choice.output_limit setting.choice.layout setting.timing setting.index.now;
    made = λ g h good runs. (running_low g h good.orderly runs).0;
    grows = λ g h v good runs. grows g h v good;
    woken = λ g h good asleep. ((timed_low g h good.orderly (ap (λ (b : Bool). b || is_running g h) asleep)).0, length-set g.guest.harts h _);
  }
