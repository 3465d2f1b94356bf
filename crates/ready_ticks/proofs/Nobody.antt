-- With a core for each hart that may run, nobody stands in line.
use Rattle.std.proofs.Common.{◌≡◌, ℕ, zero, suc, ◌+◌, ◌-◌, ◌≤◌, Bool, true, false, if◌then◌else◌, [], refl, ap, ap₂, Option, Some, None, arith}
use Rattle.coz_types.specs.declared.ending.Ending.{Ending}
use Rattle.machines.specs.Guest.{Experiment, IsLawful}
use Rattle.machines.specs.Places.{is_among}
use Rattle.machines.specs.Shortened.{Shortened, next_turn, move_by, move, shortened}
use Rattle.timing_laws.specs.Noted.{Noted, Noting, noting, noted_guest}
use Rattle.timing_laws.specs.Cores.{Cores, Slicing, on_cores, IsFresh, IsInLine, IsCounted, HasRoom}
use Rattle.timing_laws.proofs.FollowsShort.{shortened_fits}
use Rattle.timing_laws.proofs.Notes.{noted_lawful}
use Rattle.timing_laws.proofs.CoresRoom.{cores_follow}
use Rattle.timing_laws.proofs.Usual.{timed_lawful}
use Rattle.ready_ticks.specs.Ready.{ready_ticks}

none_of : (b : Bool) (d : ℕ) → d ≡ 0 → (if b then d else 0) ≡ 0
none_of true d is = is
none_of false d is = refl

module _ {G : Type 0} (y : Experiment G) where
  -- a run that is over stays as it is
  stays : (s : Shortened G) (ending : Ending) → s.ending ≡ Some ending → move y s ≡ s
  unfolding move move_by
  stays s ending is = ap (λ o. move_by y o (next_turn s.dues) s) is

  pub same_time : (n : ℕ) (ending : Ending) → (shortened y n).ending ≡ Some ending → (shortened y (suc n)).time ≡ (shortened y n).time
  unfolding shortened
  same_time n ending is = ap (λ (s : Shortened G). s.time) (stays (shortened y n) ending is)

module _ {G : Type 0} (n : Noting G) (w : Slicing (Noted G)) (x : Experiment G) (Good : G → Type 0) (law : IsLawful x Good) (fresh : IsFresh x.guest Good) (count : G → ℕ) (limit : ℕ) (counted : IsCounted x Good count limit) (enough_cores : limit ≤ w.cores) where
  abbrev y : Experiment (Cores (Noted G))
  y = on_cores w (noting n x)

  noted_counted : IsCounted (noting n x) (λ m. Good m.guest) (λ m. count m.guest) limit
  noted_counted = record {
    first_one = counted.first_one;
    retires = λ m h v good runs goes. counted.retires m.guest h v good runs goes;
    wakes = λ m h good sleeps. counted.wakes m.guest h good sleeps;
    some = λ m h good runs. counted.some m.guest h good runs;
    within = λ m good. counted.within m.guest good;
  }

  nobody : (moves : ℕ) → (shortened y moves).ending ≡ None → (shortened y moves).guest.seats.ready ≡ []
  nobody moves none =
      ((shortened_fits y (noting n x) (λ c. c.guest) (IsInLine (noted_guest n x.guest) (λ m. Good m.guest)) (HasRoom (λ m. count m.guest))
      (cores_follow w (noting n x) (λ m. Good m.guest) (noted_lawful n x Good law) (λ m. count m.guest) limit noted_counted enough_cores) (timed_lawful n w x Good law fresh) moves).1 none).none_ready

  abbrev stretch : ℕ → ℕ → ℕ
  stretch hart moves = if is_among hart (shortened y moves).guest.seats.ready then (shortened y (suc moves)).time - (shortened y moves).time else 0

  no_stretch : (hart moves : ℕ) → stretch hart moves ≡ 0
  no_stretch hart moves = by (shortened y moves).ending refl
    where
      by : (o : Option Ending) → (shortened y moves).ending ≡ o → stretch hart moves ≡ 0
      by None is = ap (λ l. if is_among hart l then (shortened y (suc moves)).time - (shortened y moves).time else 0) (nobody moves is)
      by (Some ending) is = none_of (is_among hart (shortened y moves).guest.seats.ready) _ (let same = same_time y moves ending is in omega (arith, same))

  pub never_ready : (hart moves : ℕ) → ready_ticks y hart moves ≡ 0
  never_ready hart zero = refl
  never_ready hart (suc moves) = ap₂ (λ a b. a + b) (never_ready hart moves) (no_stretch hart moves)
