-- How harts begin their next instructions.
use Rattle.std.specs.Prelude.{◌≡◌, ℕ, suc, ◌+◌, ◌*◌, ◌^◌, ◌<◌, true, if◌then◌else◌, List, [], ◌∷◌, length, Some, None}
use Rattle.hart_schedule.specs.Keys.{Keys, key_of, with_key, without_key}
use Rattle.machines.specs.declared.Fate.{Fate}
use Rattle.machines.specs.declared.Fate.TheVariants.{Goes, Waits, Leaves, Sleeps, Ends}
use Rattle.machines.specs.Guest.{goes_on}
use Rattle.machines.specs.Places.{is_among, AllApart}
use Rattle.timed_guest.specs.Guest.{Timed, IsMade}

-- no moment of a run is later: an instruction that begins then is due before 2^56
abbrev pub last_moment : ℕ
last_moment = 7 * 10 ^ 16

-- the harts that a retirement of this fate starts: the retiring one if it goes on, and those
-- that it made or woke
abbrev pub started_by : ℕ → Fate → List ℕ → List ℕ
started_by hart fate others = if goes_on fate then hart ∷ others else others

-- the schedule once a hart has retired to this fate: it is in it no more, but if it sleeps it
-- is due at its wake
abbrev pub keys_at_rest : ℕ → Fate → Keys → Keys
keys_at_rest hart Goes keys = without_key hart keys
keys_at_rest hart Waits keys = without_key hart keys
keys_at_rest hart Leaves keys = without_key hart keys
keys_at_rest hart (Sleeps moment) keys = with_key hart moment (without_key hart keys)
keys_at_rest hart (Ends ending) keys = without_key hart keys

-- a hart was made, and isn't in the schedule
pub record IsIdle (g : Timed) (keys : Keys) (hart : ℕ) : Type 0 where
  pub made : IsMade g hart
  pub below : hart < length keys
  pub absent : key_of keys hart ≡ None

-- each of these harts is idle, and none comes twice
pub record AreIdle (g : Timed) (keys : Keys) (harts : List ℕ) : Type 0 where
  pub apart : AllApart harts
  pub idle : (hart : ℕ) → is_among hart harts ≡ true → IsIdle g keys hart

-- each of these harts is due as many ticks after a moment as its next instruction takes,
-- and each other hart as before
abbrev pub AreBegun : (ℕ → ℕ) → ℕ → List ℕ → Keys → Keys → Type 0
AreBegun ticks moment harts old new =
    (hart : ℕ) → key_of new hart
    ≡ (if is_among hart harts then Some (moment + ticks hart) else key_of old hart)

-- how many harts are in the schedule
abbrev pub many : Keys → ℕ
many [] = 0
many (None ∷ keys) = many keys
many (Some due ∷ keys) = suc (many keys)
