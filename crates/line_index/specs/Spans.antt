-- The addresses that rows cover, and those of executable areas.
use Rattle.std.specs.Prelude.{◌+◌, List, [], ◌∷◌, map, filter, unwrap_or}
use Rattle.coz_types.specs.declared.image.Area.{Area}
use Rattle.dwarf_lines.specs.declared.Row.{Row}
use Rattle.line_index.specs.declared.spans.Span.{Span}
use Rattle.line_index.specs.Lines.{next_address}

abbrev pub row_span : Row → List Row → Span
row_span row later = record {
  start = row.address;
  end = unwrap_or (next_address row.sequence later) row.address;
}

-- the span of each row
abbrev pub row_spans : List Row → List Span
row_spans [] = []
row_spans (row ∷ rows) = row_span row rows ∷ row_spans rows

abbrev pub area_span : Area → Span
area_span area = record { start = area.start; end = area.start + area.size }

-- the spans of the executable areas
abbrev pub code_spans : List Area → List Span
code_spans areas = map area_span (filter (λ (area : Area). area.rights.execute) areas)
