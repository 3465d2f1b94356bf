-- What a caller sees of the claims and their seats.
use Rattle.std.specs.Prelude.{◌≡◌, ℕ, ◌+◌, ◌<◌, ◌≤◌, Option, Some, None, [], ◌∷◌, ◌++◌, length, All}
use Rattle.experiment_claims.specs.declared.hand.Hand.{Hand}
use Rattle.experiment_claims.specs.declared.seats.Claims.{Claims}
use Rattle.experiment_claims.specs.declared.seats.ClaimSeat.{ClaimSeat}

-- the turns and the numbers of a seat
abbrev pub hand_of : ClaimSeat → Hand
hand_of s = s.seat.me.0

-- the seat is one of these claims
abbrev pub IsSeatOf : Claims → ClaimSeat → Type 0
IsSeatOf c s = s.seat.table_id ≡ c.table.shared.table_id

-- one draw: a turn is spent, and one number is put after those that the seat has, greater
-- than each of them and no less than how many they are. It is answered if it is below the bound.
pub record Draws (bound : ℕ) (old new : Hand) (answer : Option ℕ) : Type 0 where
  pub number : ℕ
  pub turn : new.turns + 1 ≡ old.turns
  pub numbers : new.numbers ≡ old.numbers ++ number ∷ []
  pub greater : All (λ x. x < number) old.numbers
  pub apart : length old.numbers ≤ number
  pub within : number < bound → answer ≡ Some number
  pub past : bound ≤ number → answer ≡ None

-- the numbers below it are claims
abbrev pub bound_of : Claims → ℕ
bound_of c = c.bound
