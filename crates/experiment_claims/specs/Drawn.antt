-- What the seats drew: the rule on the claim word and on the hands of all seats,
-- and what a draw tells.
use Rattle.std.specs.Prelude.{◌≡◌, ℕ, ◌+◌, ◌-◌, ◌^◌, ◌<◌, ◌≤◌, ◌==◌, nat_lt, cond, List, [], ◌∷◌, ◌++◌, length, slice_index, All}
use Rattle.std.specs.List.{count_by}
use Rattle.atomic_table.specs.Table.{State, Me, Step}
use Rattle.experiment_claims.specs.declared.hand.Hand.{Hand}

abbrev pub hand : ℕ → List ℕ → Hand
hand turns numbers = record { turns = turns; numbers = numbers }

-- the turns of all seats together, before any is spent
abbrev pub all_turns : ℕ
all_turns = 2 ^ 40

-- what the first seat has
abbrev pub first_hand : Hand
first_hand = hand all_turns []

-- how often the number x stands in the list
abbrev pub times : ℕ → List ℕ → ℕ
times x numbers = count_by (λ y. y == x) numbers

-- once for each number below n, and never for another
abbrev pub once_below : ℕ → ℕ → ℕ
once_below x n = cond (nat_lt x n) 1 0

-- the sum of f over the hands
abbrev pub total : (Hand → ℕ) → List Hand → ℕ
total f [] = 0
total f (h ∷ hs) = f h + total f hs

-- if the claim word is w: the turns of all seats and w are all turns, as many numbers were
-- drawn as w says, and the lists of all seats have each number below w once and no other
pub record Fits (w : ℕ) (hands : List Hand) : Type 0 where
  pub turns : total (λ h. h.turns) hands + w ≡ all_turns
  pub count : total (λ h. length h.numbers) hands ≡ w
  pub each : (x : ℕ) → total (λ h. times x h.numbers) hands ≡ once_below x w

-- the rule of the table, which has one word and no slot
abbrev pub Drawn : State (Unit {0}) Hand → Type 0
Drawn s = (length s.words ≡ 1) × Fits (slice_index s.words 0) s.views

-- what one step of a draw tells: the number that was found, which is greater
-- than all that the seat has
abbrev pub drew : Step (Unit {0}) → Me (Unit {0}) Hand → ℕ → Me (Unit {0}) Hand → Type 0
drew st m number m' =
    (number < all_turns)
    × (m'.0 ≡ hand (m.0.turns - 1) (m.0.numbers ++ number ∷ []))
    × (m'.1 ≡ m.1)
    × All (λ x. x < number) m.0.numbers
    × (length m.0.numbers ≤ number)

-- a hand with all turns, spent or not, has all that was drawn
abbrev pub owns_all : Hand → Type 0
owns_all h = h.turns + length h.numbers ≡ all_turns
