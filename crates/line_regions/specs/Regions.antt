-- Regions: the lines of one path with the numbers of a range, which are one line.
use Rattle.std.specs.Prelude.{ℕ, Bool, ◌&&◌, nat_le, bytes_eq, List, ◌++◌, map, length, find, slice_get, Option, None, option_map, option_and_then, if◌then◌else◌}
use Rattle.std.specs.List.{filter_map, range_with_len}
use Rattle.coz_types.specs.Labels.{Text}
use Rattle.line_index.specs.Changes.{or_else}
use Rattle.line_index.specs.Index.{Index}
use Rattle.line_index.specs.Lines.{Line, ends_with}
use Rattle.line_regions.specs.declared.lines.Region.{Region as coded}
use Rattle.line_remap.specs.Marks.{Mark, has_zero, kept_marks, spelled_lines}

-- a path, and the numbers from one up to another
pub record Region : Type 0 where
  pub path : Text
  pub first : ℕ
  pub last : ℕ

-- a region without where its path lies in memory
abbrev pub region_of : coded → Region
region_of r = record { path = r.path.now; first = r.first; last = r.last }

abbrev pub regions_of : List coded → List Region
regions_of regions = map region_of regions

-- ---- the lines of a region

-- the line has one of the region's numbers
abbrev pub is_numbered : Region → Line → Bool
is_numbered region line = nat_le region.first line.number && nat_le line.number region.last

-- the line has the region's path and one of its numbers
abbrev pub is_in : Region → Line → Bool
is_in region line = bytes_eq line.path region.path && is_numbered region line

-- the line has a path that ends with a slash and the region's, and one of its numbers
abbrev pub is_below : Region → Line → Bool
is_below region line = ends_with line.path region.path && is_numbered region line

-- Among lines in order, the line by which a region is found: the first of its path and numbers,
-- else the first of its numbers with a path that ends with a slash and its path.
abbrev pub first_of : List Line → Region → Option Line
first_of lines region = or_else (find (is_in region) lines) (find (is_below region) lines)

-- the region with the whole path that its path names, if some line is in it
abbrev pub region_found : List Line → Region → Option Region
region_found lines region =
    option_map (λ (line : Line). record region { path = line.path }) (first_of lines region)

-- ---- the one line of a region

-- Of the line's path, and numbered as the first region begins that has the line. None has a line
-- in whose path a zero byte stands.
abbrev pub region_line : List Region → Line → Option Line
region_line regions line =
    if has_zero line.path then None
    else option_map (λ (region : Region). record line { number = region.first })
    (find (λ region. is_in region line) regions)

abbrev pub region_mark : List Line → List Region → ℕ → Option Mark
region_mark lines regions k =
    option_map (λ line. let m : Mark = record { position = k; line = line } in m)
    (option_and_then (region_line regions) (slice_get lines k))

-- for each line of some region, in order
abbrev pub region_marks : List Line → List Region → List Mark
region_marks lines regions =
    filter_map (region_mark lines regions) (range_with_len 0 (length lines))

-- ---- all lines that are chosen

-- those that are kept, by their positions, before those of the regions
abbrev pub chosen_marks : Index → List ℕ → List Region → List Mark
chosen_marks index kept regions =
    kept_marks index kept ++ region_marks (spelled_lines index) regions
