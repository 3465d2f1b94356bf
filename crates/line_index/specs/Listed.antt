-- The lines of a table, where each begins and which one an address has, as functions.
use Rattle.std.specs.Prelude.{◌≡◌, ℕ, zero, suc, Bool, false, not, ◌&&◌, List, [], ◌∷◌, ◌++◌, map, filter, Option, Some, None, option_and_then, position}
use Rattle.std.specs.List.{filter_map}
use Rattle.std.specs.declared.cmp.Ordering.{Ordering}
use Rattle.std.specs.Ordering.{nat_cmp}
use Rattle.std.specs.FinMap.Entries.{by_order}
use Rattle.coz_types.specs.declared.image.Area.{Area}
use Rattle.dwarf_lines.specs.declared.Row.{Row}
use Rattle.dwarf_lines.specs.Registers.{Table}
use Rattle.line_index.specs.Lines.{Line, line_of, line_cmp, is_line_named}
use Rattle.line_index.specs.Index.{Index, position_at}

-- a list in order with one more element, unless it is there
abbrev pub with_element : {K : Type 0} → (K → K → Ordering) → K → List K → List K
with_element R x [] = x ∷ []
with_element R x (y ∷ ys) = by_order (R x y) (x ∷ y ∷ ys) (y ∷ ys) (y ∷ with_element R x ys)

-- the elements in order, each once
abbrev pub in_order : {K : Type 0} → (K → K → Ordering) → List K → List K
in_order R [] = []
in_order R (x ∷ xs) = with_element R x (in_order R xs)

-- where a row or an area starts: a line begins at no other address
abbrev pub bounds : Table → List Area → List ℕ
bounds table areas =
    map (λ (row : Row). row.address) table.rows ++ map (λ (area : Area). area.start) areas

-- the lines that some address has, in order
unfoldable pub lines_in : Table → List Area → List Line
lines_in table areas = in_order line_cmp (filter_map (line_of table areas) (bounds table areas))

abbrev pub is_same : Line → Option Line → Bool
is_same line None = false
is_same line (Some other) = is_line_named line.path line.number other

-- the address has the line, and the address before it has not
abbrev pub is_beginning : Table → List Area → Line → ℕ → Bool
is_beginning table areas line zero = is_same line (line_of table areas zero)
is_beginning table areas line (suc b) =
    is_same line (line_of table areas (suc b)) && not (is_same line (line_of table areas b))

-- the addresses at which the line begins, rising
unfoldable pub entries_in : Table → List Area → Line → List ℕ
entries_in table areas line =
    filter (is_beginning table areas line) (in_order nat_cmp (bounds table areas))

-- the position of the line of an address, if it has one
unfoldable pub position_in : Table → List Area → ℕ → Option ℕ
position_in table areas a =
    option_and_then (λ line. position (is_line_named line.path line.number) (lines_in table areas))
    (line_of table areas a)

-- the index holds what these give
pub record IsListed (table : Table) (areas : List Area) (index : Index) : Type 0 where
  pub lines : index.lines ≡ lines_in table areas
  pub entries : index.entries ≡ map (entries_in table areas) (lines_in table areas)
  pub positions : (a : ℕ) → position_at index a ≡ position_in table areas a
