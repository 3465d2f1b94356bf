-- Harts 0 and 1 start at 0, and hart 0 raises 50 at 0: hart 1 has paused 20 at 20, and 50 at 80.
use Rattle.std.proofs.Common.{◌≡◌, refl}
use Rattle.delay_credits.specs.Delays.{Delays, none_raised, hart_at, pause_of, at, with_start, with_stop, with_raise, with_credit}

abbrev raised : Delays
raised = with_raise 0 50 0 (with_start 1 0 (with_start 0 0 (none_raised 2)))

account_at_20 : (hart_at (at 20 raised) 1).account ≡ record { own = 0; paused = 20; credited = 0 }
account_at_20 = refl

pause_at_20 : pause_of (hart_at (at 20 raised) 1) ≡ 30
pause_at_20 = refl

account_at_80 : (hart_at (at 80 raised) 1).account ≡ record { own = 0; paused = 50; credited = 0 }
account_at_80 = refl

pause_at_80 : pause_of (hart_at (at 80 raised) 1) ≡ 0
pause_at_80 = refl

own_at_80 : (hart_at (at 80 raised) 0).account ≡ record { own = 50; paused = 0; credited = 0 }
own_at_80 = refl

-- a hart that waits is credited with what was raised meanwhile, and has nothing to pay
credited : (hart_at (with_credit 1 0 (with_raise 0 7 90 (with_stop 1 80 raised))) 1).account ≡ record { own = 0; paused = 50; credited = 7 }
credited = refl
