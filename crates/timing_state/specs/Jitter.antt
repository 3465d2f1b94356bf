-- What is drawn once for each hart of a machine with jitter.
use Rattle.std.specs.Prelude.{◌≡◌, ℕ, ◌<◌, List, get_or}
use Rattle.timing_laws.specs.Noted.{splitmix}

-- the first n of these are the keys of the first harts
abbrev pub AreKeys : ℕ → ℕ → List ℕ → Type 0
AreKeys seed n keys = (h d : ℕ) → h < n → get_or keys h d ≡ splitmix seed h
