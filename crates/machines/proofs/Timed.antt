-- The harts with a load are those that run or sleep.
use Rattle.std.proofs.Common.{◌≡◌, ℕ, ap, ◌∙◌, refl, get_or, Option, Some, None, is_some}
use Rattle.machines.specs.Guest.{Experiment, is_timed, IsLawful}
use Rattle.machines.specs.Delayed.{Delayed, Hart, Account, Load, idle_hart, events, has_load, delayed}
use Rattle.machines.specs.Shortened.{Shortened, shortened}
use Rattle.machines.specs.Agreement.{Agrees, LoadAgrees, LoadsAreTimed}
use Rattle.machines.proofs.Short.{Lives}
use Rattle.machines.proofs.Runs.{Both, both}
use Rattle.machines.proofs.Ends.{goes_on_at}

same_some : (now delay : ℕ) (a : Account) (o : Option Load) (due : Option ℕ) → LoadAgrees now delay a o due → is_some due ≡ is_some o
same_some now delay a (Some l) (Some due) e = refl
same_some now delay a None None e = refl
same_some now delay a None (Some due) e = elim e [ ]
same_some now delay a (Some l) None e = elim e [ ]

module _ {G : Type 0} (x : Experiment G) (Good : G → Type 0) (law : IsLawful x Good) where
  timed_beside : (d : Delayed G) (s : Shortened G) → Agrees d s → Lives x Good s → (k : ℕ) → is_timed x.guest d.guest k ≡ has_load (get_or d.harts k idle_hart)
  timed_beside d s a lives k =
      let hart : Hart = get_or d.harts k idle_hart in
      ap (λ g. is_timed x.guest g k) a.guest ∙ lives.running k ∙ same_some d.now d.delay hart.account hart.load (get_or s.dues k None) (a.harts k)

  -- before each move, those of the delayed machine
  pub loads_timed : (n : ℕ) → LoadsAreTimed x.guest (delayed x n)
  loads_timed n goes = let b : Both x Good law (delayed x n) = both x Good law n in
      timed_beside (delayed x n) (shortened x (events (delayed x n))) b.agrees (b.lives goes)

  -- and after n moves those of the shortened one
  pub dues_timed : (n : ℕ) → (shortened x n).ending ≡ None → (k : ℕ) → is_timed x.guest (shortened x n).guest k ≡ is_some (get_or (shortened x n).dues k None)
  dues_timed n goes = (goes_on_at x Good law n goes).lives.running
