-- Regions, and lists of regions, as words name them.
use Rattle.std.specs.Prelude.{ℕ, Bool, ◌==◌, List, [], ◌∷◌, Option, Some, None, is_some, option_map, option_and_then, Result, Ok, Err, if◌then◌else◌}
use Rattle.std.specs.List.{list_all, before_last, after_last}
use Rattle.coz_types.specs.Labels.{Text}
use Rattle.coz_types.specs.declared.TheConstants.{MAX_LINE}
use Rattle.experiment_plan.specs.Lists.{is_line, line_parts, number_in, pieces}
use Rattle.line_index.specs.Lines.{Line}
use Rattle.line_regions.specs.Regions.{Region, region_found}

abbrev pub is_hyphen : ℕ → Bool
is_hyphen b = b == 45

-- the path and the number of a line, and a last number
abbrev pub region_to : Text → ℕ → Region
region_to line last =
    record { path = (line_parts line).0; first = (line_parts line).1; last = last }

-- the region of a line, `-` and a number from 1 to 2^32 - 1
abbrev pub region_in : Text → Option Region
region_in text =
    if is_line (before_last is_hyphen text)
    then option_map (region_to (before_last is_hyphen text))
    (number_in 1 MAX_LINE (after_last is_hyphen text))
    else None

-- one region or more, with a comma between
abbrev pub are_regions : Text → Bool
are_regions text = list_all (λ piece. is_some (region_in piece)) (pieces text)

-- ---- the regions of a program that a list names

-- the region of a piece with the whole path that it names, if a line of the program is in it
abbrev pub region_named : List Line → Text → Option Region
region_named lines piece = option_and_then (region_found lines) (region_in piece)

abbrev pub with_region : Region → Result (List Region) Text → Result (List Region) Text
with_region region (Ok regions) = Ok (region ∷ regions)
with_region region (Err piece) = Err piece

-- the regions of the pieces, or the first piece that names none
abbrev pub regions_of_pieces : List Line → List Text → Result (List Region) Text
regions_of_pieces lines [] = Ok []
regions_of_pieces lines (piece ∷ more) = elim (region_named lines piece) [
  | Some region ↦ with_region region (regions_of_pieces lines more)
  | None ↦ Err piece
]

-- the regions of a list, or none if there is no list
abbrev pub regions_named : List Line → Option Text → Result (List Region) Text
regions_named lines None = Ok []
regions_named lines (Some list) = regions_of_pieces lines (pieces list)
