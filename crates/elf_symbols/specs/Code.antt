-- The executable areas of a program, by their first addresses.
use Rattle.std.specs.Prelude.{◌≡◌, ◌≢◌, ℕ, ◌<◌, ◌≤◌, true, false, List, length, slice_index_or, Option, Some, All, AllPairs}
use Rattle.coz_types.specs.declared.TheConstants.{LOAD_END}
use Rattle.coz_types.specs.declared.image.Area.{Area}
use Rattle.coz_types.specs.Image.{AreApart, area_end}

-- an executable area from this address up to that one
pub record IsSpanOf (start end : ℕ) (area : Area) : Type 0 where
  pub executable : area.rights.execute ≡ true
  pub starts : area.start ≡ start
  pub ends : area_end area ≡ end

-- by the start of each executable area among the first of these, its end
pub record AreEnds (areas : List Area) (n : ℕ) (end_at : ℕ → Option ℕ) : Type 0 where
  pub each : (k : ℕ) (d : Area) → k < n → (slice_index_or areas k d).rights.execute ≡ true
      → end_at (slice_index_or areas k d).start ≡ Some (area_end (slice_index_or areas k d))
  pub only : (start end : ℕ) → end_at start ≡ Some end
      → (k : ℕ) × (area : Area) × (k < n) × (slice_index_or areas k area ≡ area)
      × IsSpanOf start end area

-- it has an address, and ends within the addresses of load areas
abbrev pub IsSpan : Area → Type 0
IsSpan area = (0 < area.size) × (area_end area ≤ LOAD_END)

-- areas of a program, with the ends of the executable ones by their starts
pub record IsCode (areas : List Area) (end_at : ℕ → Option ℕ) : Type 0 where
  pub spans : All IsSpan areas
  pub apart : AllPairs AreApart areas
  pub ends : AreEnds areas (length areas) end_at

-- an area with an address below the one and with the other
abbrev pub HasWithin : (ℕ → Option ℕ) → ℕ → ℕ → Type 0
HasWithin end_at low high =
    (start end : ℕ) × (end_at start ≡ Some end) × (start < high) × (low < end)

-- the end of the area stands at its start, if it is executable, and all else is as it was
pub record AddsEnd (area : Area) (old new : ℕ → Option ℕ) : Type 0 where
  pub here : area.rights.execute ≡ true → new area.start ≡ Some (area_end area)
  pub others : (q : ℕ) → q ≢ area.start → new q ≡ old q
  pub none : area.rights.execute ≡ false → (q : ℕ) → new q ≡ old q
