-- What holds of reservations that are kept.
use Rattle.std.specs.Prelude.{ℕ, ◌≢◌, ◌<◌, List, [], ◌∷◌}
use Rattle.coz_types.specs.declared.TheConstants.{HARTS}

-- none of these is the hart's
abbrev pub AreOthers : ℕ → List (ℕ × ℕ) → Type 0
AreOthers hart [] = Unit {0}
AreOthers hart (e ∷ es) = (hart ≢ e.0) × AreOthers hart es

-- each is of another hart, of `HARTS`
abbrev pub AreApart : List (ℕ × ℕ) → Type 0
AreApart [] = Unit {0}
AreApart (e ∷ es) = (e.0 < HARTS) × AreOthers e.0 es × AreApart es
