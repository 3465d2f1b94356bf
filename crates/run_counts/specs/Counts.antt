-- What is counted, by line, of the instructions that a run begins.
use Rattle.std.specs.Prelude.{◌≡◌, ℕ, ◌+◌, ◌≤◌, ◌<◌, Bool, true, false, ◌==◌, List, length, replicate, slice_index_or, slice_set, if◌then◌else◌, nat_lt, Option, Some, None, is_none}
use Rattle.std.specs.List.{sum_by}
use Rattle.machines.specs.Guest.{Experiment, cost}
use Rattle.run_counts.specs.Beginnings.{Beginning, starts_among, cost_among}
use Rattle.run_counts.specs.declared.tallies.Tally.{Tally}
use Rattle.run_counts.specs.declared.tallies.Tallies.{Tallies}

abbrev pub no_tally : Tally
no_tally = record { starts = 0; cost = 0 }

abbrev pub tally_at : List Tally → ℕ → Tally
tally_at tallies line = slice_index_or tallies line no_tally

-- of each line; the work of code that has no line, and all work, in ticks; and how many
-- instructions in all
pub record Counts : Type 0 where
  pub lines : List Tally
  pub none : ℕ
  pub all : ℕ
  pub begun : ℕ

abbrev pub counts_of : Tallies → Counts
counts_of tallies = record {
  lines = tallies.lines.items;
  none = tallies.none;
  all = tallies.all;
  begun = tallies.begun;
}

abbrev pub no_counts : ℕ → Counts
no_counts count = record { lines = replicate count no_tally; none = 0; all = 0; begun = 0 }

-- the position, if it is one of this many
abbrev pub place_in : ℕ → Option ℕ → Option ℕ
place_in count None = None
place_in count (Some k) = if nat_lt k count then Some k else None

-- one more instruction of a line
abbrev pub with_start : ℕ → Tally → Tally
with_start cost t = record { starts = t.starts + 1; cost = t.cost + cost }

-- of the line at this place, or of none
abbrev pub with_one : Option ℕ → ℕ → Counts → Counts
with_one None cost c = record c {
  none = c.none + cost;
  all = c.all + cost;
  begun = c.begun + 1;
}
with_one (Some k) cost c = record c {
  lines = slice_set c.lines k (with_start cost (tally_at c.lines k));
  all = c.all + cost;
  begun = c.begun + 1;
}

-- no line has more than all lines together
pub record IsWithin (c : Counts) : Type 0 where
  pub starts : (k : ℕ) → (tally_at c.lines k).starts ≤ c.begun
  pub cost : (k : ℕ) → (tally_at c.lines k).cost ≤ c.all
  pub none : c.none ≤ c.all

-- the position is this one
abbrev pub is_on : ℕ → Option ℕ → Bool
is_on k None = false
is_on k (Some j) = j == k

-- `place` gives the position of the line of a hart's next instruction
module _ {G : Type 0} (x : Experiment G) (place : G → ℕ → Option ℕ) where
  -- it has the line at this position, or none of this many lines
  abbrev pub on_line : ℕ → G → ℕ → Bool
  on_line line g h = is_on line (place g h)

  abbrev pub on_none : ℕ → G → ℕ → Bool
  on_none count g h = is_none (place_in count (place g h))

  -- with the next instruction of a hart
  abbrev pub with_beginning : G → Counts → ℕ → Counts
  with_beginning g c h = with_one (place_in (length c.lines) (place g h)) (cost x g h) c

  -- these are the counts of these instructions, by this many lines
  pub record AreCounts (count : ℕ) (begun : List (Beginning G)) (c : Counts) : Type 0 where
    pub begun_are : c.begun ≡ length begun
    pub room : length c.lines ≡ count
    pub starts : (k : ℕ) → k < count
        → (tally_at c.lines k).starts ≡ starts_among x (on_line k) begun
    pub cost : (k : ℕ) → k < count
        → (tally_at c.lines k).cost ≡ cost_among x (on_line k) begun
    pub none : c.none ≡ cost_among x (on_none count) begun
    pub all : c.all ≡ cost_among x (λ g h. true) begun
    pub whole : sum_by (λ (t : Tally). t.cost) c.lines + c.none ≡ c.all
