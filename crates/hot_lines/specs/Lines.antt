-- The lines of a program by what they cost, and their texts.
use Rattle.std.specs.Prelude.{ℕ, ◌*◌, ◌/◌, ◌==◌, nat_lt, Bool, List, [], ◌∷◌, ◌++◌, flat_map, if◌then◌else◌, codes}
use Rattle.std.specs.Ordering.{is_lt, nat_cmp}
use Rattle.coz_types.specs.Labels.{Text}
use Rattle.line_index.specs.Lines.{Line, label_at}
use Rattle.profile_book.specs.Pieces.{named}
use Rattle.profile_labels.specs.Sorted.{sorted_by}
use Rattle.hot_lines.specs.declared.lines.HotLine.{HotLine}

abbrev pub has_started : HotLine → Bool
has_started h = nat_lt 0 h.starts

abbrev pub costs_more : HotLine → HotLine → Bool
costs_more g h = is_lt (nat_cmp h.cost g.cost)

-- by falling cost, and those of one cost in the order that they had
abbrev pub rank : List HotLine → List HotLine
rank lines = sorted_by costs_more lines

-- ---- the texts

-- some work of all work in hundredths of a per cent, rounded down
abbrev pub share_of : ℕ → ℕ → ℕ
share_of all cost = if all == 0 then 0 else cost * 10000 / all

abbrev pub cost_text : ℕ → ℕ → Text
cost_text all cost =
    named (codes " cost ") cost ++ named (codes " share ") (share_of all cost) ++ codes "\n"

abbrev pub hot_line : List Line → ℕ → HotLine → Text
hot_line lines all h = (codes "line " ++ label_at lines h.line)
    ++ named (codes " starts ") h.starts ++ cost_text all h.cost

-- of code that has no line, if it has some work
abbrev pub none_line : ℕ → ℕ → Text
none_line all none = if none == 0 then [] else codes "none" ++ cost_text all none

-- some lines, the work of code that has none, and all work
abbrev pub lines_text : List Line → List HotLine → ℕ → ℕ → Text
lines_text lines hot none all = flat_map (hot_line lines all) hot ++ none_line all none

abbrev pub more_names : List Line → HotLine → Text
more_names lines h = codes "," ++ label_at lines h.line

-- with a comma between each two
abbrev pub joined_names : List Line → List HotLine → Text
joined_names lines [] = []
joined_names lines (h ∷ hot) = label_at lines h.line ++ flat_map (more_names lines) hot

-- on one line
abbrev pub names_text : List Line → List HotLine → Text
names_text lines hot = joined_names lines hot ++ codes "\n"
