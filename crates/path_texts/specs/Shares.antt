-- Shares of a path while they are counted.
use Rattle.std.specs.Prelude.{◌≡◌, ℕ, ◌+◌, ◌==◌, nat_lt, List, length, get_or, sum_by, if◌then◌else◌, Option, Some, None, All}
use Rattle.path_chains.specs.declared.event.Event.{Event}
use Rattle.path_texts.specs.declared.shares.TheConstants.{KEPT_ADDRESSES}
use Rattle.path_texts.specs.declared.shares.Found.{Found}
use Rattle.path_chains.specs.declared.share.Share.{Share}
use Rattle.path_texts.specs.declared.shares.Sums.{Sums}
use Rattle.path_texts.specs.PathText.{slept_on}

-- the place of a line in the sums over `count` lines: code without a line comes after these, and
-- then any line that is not among them
abbrev pub place_in : ℕ → Option ℕ → ℕ
place_in count None = count
place_in count (Some line) = if nat_lt line count then line else count + 1

-- the work of the events whose addresses have this place
abbrev pub work_in : (ℕ → Option ℕ) → ℕ → ℕ → List Event → ℕ
work_in line_of count place path =
    sum_by (λ e. if place_in count (line_of e.address) == place then e.cost else 0) path

-- the sums are those of the events of a path, over `count` lines
pub record IsCounted (line_of : ℕ → Option ℕ) (count : ℕ) (path : List Event)
    (sums : Sums) : Type 0 where
  pub room : length sums.work.items ≡ count + 2
  pub each : (k : ℕ) → get_or sums.work.items k 0 ≡ work_in line_of count k path
  pub sleep : sums.sleep ≡ slept_on path

-- the place is that of the address
abbrev pub IsFound : (ℕ → Option ℕ) → ℕ → Found → Type 0
IsFound line_of count found = found.place ≡ place_in count (line_of found.address)

-- so are all that are kept
pub record AreKept (line_of : ℕ → Option ℕ) (count : ℕ) (found : List Found) : Type 0 where
  pub room : length found ≡ KEPT_ADDRESSES
  pub right : All (IsFound line_of count) found

-- what the line at a position has, of the ticks of each line
abbrev pub share_in : List ℕ → ℕ → Share
share_in lines k = record { line = k; ticks = get_or lines k 0 }
