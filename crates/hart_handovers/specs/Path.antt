-- The path back from the end of a run, by its hand-overs.
use Rattle.std.specs.Prelude.{◌≡◌, ℕ, zero, suc, ◌≤◌, ◌<◌, List, [], ◌∷◌, ◌++◌, length, if◌then◌else◌, ◌==◌, slice_index_or}
use Rattle.hart_handovers.specs.declared.handover.Handover.{Handover}
use Rattle.hart_handovers.specs.declared.handover.Way.TheVariants.{Start}
use Rattle.hart_handovers.specs.declared.path.Segment.{Segment}

-- what stands in place of a hand-over if there is none
abbrev pub no_handover : Handover
no_handover = record {
  moment = 0;
  slept = 0;
  hart = record { 0 = 0 };
  by = record { 0 = 0 };
  way = Start;
}

-- the hand-over of a number, in order of time
abbrev pub handover_at : List Handover → ℕ → Handover
handover_at list i = slice_index_or list i no_handover

-- from a hand-over to a moment
abbrev pub segment : Handover → ℕ → Segment
segment o to = record { hart = o.hart; from = o.moment; to = to; way = o.way; slept = o.slept }

-- the path to a hart at a moment, by the hand-overs below a number: the latest one to this hart
-- begins its last segment, and ends the path to the hart that it came from
abbrev pub back : List Handover → ℕ → ℕ → ℕ → List Segment
back list hart to zero = []
back list hart to (suc i) =
    if (handover_at list i).hart.0 == hart
    then back list (handover_at list i).by.0 (handover_at list i).moment i
    ++ segment (handover_at list i) to ∷ []
    else back list hart to i

-- one of those below a number is to this hart
abbrev pub IsBegun : List Handover → ℕ → ℕ → Type 0
IsBegun list hart n = (i : ℕ) × ((i < n) × ((handover_at list i).hart.0 ≡ hart))

-- those below a number are no later than a moment
abbrev pub ArePast : List Handover → ℕ → ℕ → Type 0
ArePast list moment n = (i : ℕ) → i < n → (handover_at list i).moment ≤ moment

-- the first is at 0, each later one comes from a hart that had been begun, and none is later than
-- the one after it
pub record Rooted (list : List Handover) : Type 0 where
  pub first : (handover_at list 0).moment ≡ 0
  pub begun : (i : ℕ) → 0 < i → i < length list → IsBegun list (handover_at list i).by.0 i
  pub rising : (i : ℕ) → i < length list → ArePast list (handover_at list i).moment i

-- segments lead from one moment to another, without gap or overlap
abbrev pub Tile : ℕ → ℕ → List Segment → Type 0
Tile u v [] = u ≡ v
Tile u v (s ∷ ss) = (s.from ≡ u) × ((s.from ≤ s.to) × Tile s.to v ss)
