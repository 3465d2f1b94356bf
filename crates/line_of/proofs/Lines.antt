-- The line of an address is one of the index's.
use Rattle.std.proofs.Common.{◌≡◌, ◌<◌, ℕ, List, Option, Some, None, length, slice_get, sym, ap, ◌∙◌}
use Rattle.std.specs.Prelude.{option_map}
use Rattle.std.proofs.lemmas.Option.{slice_get_within}
use Rattle.line_index.specs.Index.{Index, position_at}
use Rattle.line_index.specs.Lines.{Line}
use Rattle.coz_types.specs.declared.LineId.{LineId}

some_is : (lines : List Line) (k : ℕ) (o : Option Line) → ◌≡◌ {A = Option (Option Line)} (Some (slice_get lines k)) (option_map Some o) → k < length lines
some_is lines k None is = absurd (let no : ◌≡◌ {A = Option (Option Line)} (Some (slice_get lines k)) None = is in cc)
some_is lines k (Some l) is = slice_get_within lines k l (let same : slice_get lines k ≡ Some l = cc in same)

place_of : (o : Option ℕ) (line : LineId) → option_map (λ (k : ℕ). record { 0 = k }) o ≡ Some line → o ≡ Some line.0
place_of None line is = absurd (let no : ◌≡◌ {A = Option LineId} None (Some line) = is in cc)
place_of (Some k) line is = ap (λ (l : Option LineId). option_map (λ (x : LineId). x.0) l) is

-- the position of an address, if each position has the line of a table
pub is_below : (index : Index) (a : ℕ) (table_line : Option Line) (line : LineId) → option_map (slice_get index.lines) (position_at index a) ≡ option_map Some table_line
    → Some line ≡ option_map (λ (k : ℕ). record { 0 = k }) (position_at index a) → line.0 < length index.lines
is_below index a table_line line positions is =
    let there : position_at index a ≡ Some line.0 = place_of (position_at index a) line (sym is) in
    some_is index.lines line.0 table_line (ap (option_map (slice_get index.lines)) (sym there) ∙ positions)
