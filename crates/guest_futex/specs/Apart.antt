-- What holds of the waiters of a queue.
use Rattle.std.specs.Prelude.{ℕ, ◌≢◌, ◌<◌, List, [], ◌∷◌}
use Rattle.coz_types.specs.declared.TheConstants.{HARTS}
use Rattle.guest_futex.specs.Waiters.{Waiter}

-- the hart isn't among them
abbrev pub AreOthers : ℕ → List Waiter → Type 0
AreOthers hart [] = Unit {0}
AreOthers hart (w ∷ ws) = (w.hart ≢ hart) × AreOthers hart ws

-- each is of another hart, of `HARTS`
abbrev pub AreApart : List Waiter → Type 0
AreApart [] = Unit {0}
AreApart (w ∷ ws) = (w.hart < HARTS) × AreOthers w.hart ws × AreApart ws
