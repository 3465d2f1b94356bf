-- The spans of a memory: those of the load areas and of the three regions.
use Rattle.std.specs.Prelude.{ℕ, ◌≡◌, ◌≤◌, ◌<◌, List, [], ◌∷◌, ◌++◌, length, map, get_or}
use Rattle.coz_types.specs.declared.image.Area.{Area}
use Rattle.guest_memory.specs.declared.Layout.{Layout}
use Rattle.guest_memory.specs.declared.Span.{Span}
use Rattle.guest_memory.specs.Regions.{page_of, brk_base, map_base, stack_base, IsKnown}
use Rattle.guest_memory.specs.Spans.{IsLaid, numbers, IsPresent}

-- the pages of `size` bytes from an address on, before they have an index
abbrev pub span_of : ℕ → ℕ → Span
span_of start size = record { first = page_of start; count = page_of size; at = 0 }

abbrev pub area_span : Area → Span
area_span area = span_of area.start area.size

-- those of the regions, which rise
abbrev pub region_spans : Layout → List Span
region_spans layout =
    span_of brk_base layout.brk
    ∷ span_of map_base layout.map
    ∷ span_of (stack_base layout) layout.stack
    ∷ []

abbrev pub known_spans : List Area → Layout → List Span
known_spans areas layout = map area_span areas ++ region_spans layout

-- the spans have `total` pages, which are exactly the known ones
pub record AreWhole (areas : List Area) (layout : Layout) (total : ℕ) (spans : List Span)
    : Type 0 where
  pub laid : IsLaid 0 0 spans
  pub many : 3 ≤ length spans
  pub sum : length (numbers spans) ≡ total
  pub few : total ≤ 0x4000000
  pub low : (k : ℕ) → k < length (numbers spans) → get_or (numbers spans) k 0 < 0x4000000
  pub known : (page : ℕ) → IsKnown areas layout page → IsPresent page (numbers spans)
  pub only : (k : ℕ) → k < length (numbers spans)
      → IsKnown areas layout (get_or (numbers spans) k 0)
