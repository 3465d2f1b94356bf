-- What holds of the fields of `Areas`.
use Rattle.std.specs.Prelude.{◌≡◌, ◌≤◌, ◌<◌, ◌+◌, ℕ, Bool, List, length, get_or}
use Rattle.std.specs.List.Sorted.{IsPermutation, IsNonDecreasingBy}
use Rattle.coz_types.specs.declared.image.Area.{Area}
use Rattle.guest_memory.specs.declared.Layout.{Layout}
use Rattle.guest_memory.specs.Regions.{IsLayout, page_of, brk_base, brk_end, map_base}
use Rattle.guest_areas.specs.Marks.{marked_pages}
use Rattle.guest_areas.specs.Space.{RegionMap}

-- the pages, by the fields
abbrev pub regions_of : List Area → Layout → ℕ → List Bool → RegionMap
regions_of areas layout break flags = record {
  areas = areas;
  layout = layout;
  break = break;
  mapped = marked_pages (page_of map_base) flags;
}

-- the load areas by their addresses, none reaching into the next
pub record AreSorted (areas sorted : List Area) : Type 0 where
  pub moved : IsPermutation areas sorted
  pub rising : IsNonDecreasingBy (λ (a : Area). page_of a.start) sorted
  pub apart : (i j : ℕ) (d : Area) → i < j → j < length sorted
      → page_of (get_or sorted i d).start + page_of (get_or sorted i d).size
      ≤ page_of (get_or sorted j d).start

-- the break is in its region or at its end, and each page of the map region has a flag
pub record IsKept (layout : Layout) (break : ℕ) (flags : List Bool) : Type 0 where
  pub valid : IsLayout layout
  pub low : brk_base ≤ break
  pub high : break ≤ brk_end layout
  pub each_page : length flags ≡ page_of layout.map

pub record AreKept (areas sorted : List Area) (layout : Layout) (break : ℕ)
    (flags : List Bool) : Type 0 where
  pub order : AreSorted areas sorted
  pub kept : IsKept layout break flags
