-- What holds of pipes.
use Rattle.std.specs.Prelude.{◌≡◌, ◌≢◌, ℕ, ◌<◌, ◌≤◌, List, [], ◌∷◌, length, Option, Some, None, All}
use Rattle.coz_types.specs.declared.TheConstants.{HARTS}
use Rattle.guest_pipes.specs.declared.TheConstants.{NUMBERS, PIPES}
use Rattle.guest_pipes.specs.declared.ends.End.{End}
use Rattle.guest_pipes.specs.declared.waiters.PipeWaiter.{PipeWaiter}

abbrev pub IsSlot : Option End → Type 0
IsSlot None = Unit {0}
IsSlot (Some e) = e.pipe < PIPES

-- the hart isn't among them
abbrev pub AreOthers : ℕ → List PipeWaiter → Type 0
AreOthers hart [] = Unit {0}
AreOthers hart (w ∷ ws) = (w.hart.0 ≢ hart) × AreOthers hart ws

-- each is of another hart, of `HARTS`
abbrev pub AreApart : List PipeWaiter → Type 0
AreApart [] = Unit {0}
AreApart (w ∷ ws) = (w.hart.0 < HARTS) × AreOthers w.hart.0 ws × AreApart ws

pub record AreKept (ends : List (Option End)) (bytes : List (List ℕ)) (waiters : List PipeWaiter)
    (capacity : ℕ) : Type 0 where
  pub numbers : length ends ≡ NUMBERS
  pub slots : All IsSlot ends
  pub pipes : length bytes ≡ PIPES
  pub apart : AreApart waiters
  -- calls need no more room
  pub room : HARTS ≤ capacity
