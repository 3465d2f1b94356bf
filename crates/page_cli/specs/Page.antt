-- The page of a profile.
use Rattle.std.specs.Prelude.{ℕ, ◌-◌, Bool, ◌==◌, List, [], ◌∷◌, ◌++◌, length, get_or, min, flat_map, codes, decimal, not, nat_lt, ◌&&◌, Option, Some, None, if◌then◌else◌}
use Rattle.std.specs.List.{enumerate_from, filter, list_any}
use Rattle.std.specs.Option.{option_cmp}
use Rattle.std.specs.Ordering.{is_lt, nat_cmp, int_cmp, ordering_then}
use Rattle.std.specs.Str.{bytes_eq}
use Rattle.coz_types.specs.Labels.{Text, is_empty}
use Rattle.coz_types.specs.declared.record.Summary.{Summary}
use Rattle.profile_book.specs.declared.profile.Profile.{Profile}
use Rattle.profile_labels.specs.Groups.{groups_by}
use Rattle.causal_curves.specs.Curves.{curves_of, ranked_curves}
use Rattle.causal_curves.specs.declared.curve.Curve.{Curve}
use Rattle.causal_curves.specs.declared.curve.CurveStep.{CurveStep}
use Rattle.coz_files.specs.InMemory.{entries}
use Rattle.page_words.specs.Words.{Request}
use Rattle.page_values.specs.Sources.{Answers, look_up}
use Rattle.page_cli.specs.Lines.{is_of_file, label_text, line_beside}
use Rattle.page_cli.specs.declared.view.View.{View as Seen}
use Rattle.page_cli.specs.declared.frame.TheConstants.{HEAD, STYLE, LEAD, COLUMNS, PICTURE, NOTHING, LINES, FOOT}
use Rattle.page_values.specs.Labels.{html}
use Rattle.page_charts.specs.Values.{value_text, worst_text, cost_text, top_for, harm_top_for}
use Rattle.page_charts.specs.Charts.{chart_text, gain_text, items_text, is_notable, small_text}
use Rattle.page_values.specs.Harm.{worst_of}
use Rattle.page_values.specs.Ranks.{by_mean, folded, greatest_gain, listed, standing}
use Rattle.page_values.specs.Shapes.{is_rough, mean_of}
use Rattle.page_cli.specs.Harm.{harmful_curves}
use Rattle.page_values.specs.Cost.{cost_of}
use Rattle.page_cli.specs.Runs.{runs_text, visits_text}

-- ---- a progress point

-- what the tables show: how many lines at most, and what the source files are
pub record View : Type 0 where
  pub most : ℕ
  pub answers : Answers

abbrev pub view_of : Seen → View
view_of v = record { most = v.most; answers = look_up (entries v.sources.now) }

-- the text of a line, under its label
abbrev pub source_text : Text → Text
source_text line =
    if is_empty line then [] else codes "<br><code>" ++ html line ++ codes "</code>"

-- a mark on a line whose curve goes up and down
abbrev pub mark_text : Bool → Text
mark_text rough = if rough then codes "<br><small>goes up and down</small>" else []

-- the first cell of a line: its label, the mark, and its text
abbrev pub name_cell : Answers → Curve → Text
name_cell answers c =
    codes "<tr><td>" ++ label_text c.selected ++ mark_text (is_rough c)
    ++ source_text (line_beside answers c.selected)

-- a line of the table
abbrev pub row_text : ℕ → Answers → List Summary → Curve → Text
row_text top answers summaries c =
    name_cell answers c
    ++ codes "</td><td>" ++ cost_text (cost_of summaries c.selected)
    ++ codes "</td><td>" ++ value_text (mean_of c.steps)
    ++ codes "</td><td>" ++ value_text c.gain
    ++ codes "</td><td>" ++ worst_text (worst_of c.steps)
    ++ codes "</td><td>" ++ small_text top c ++ codes "</td></tr>\n"

-- a name, the gain and the shape of a curve: above its picture, and for readers of screens
abbrev pub caption_text : Text → Curve → Text
caption_text name c =
    codes "<figure><figcaption>" ++ label_text name ++ gain_text c
    ++ PICTURE.now ++ html name ++ gain_text c ++ codes "\">"

-- a large picture, with a name, and the values below it
abbrev pub figure_text : ℕ → Text → Curve → Text
figure_text top name c =
    caption_text name c ++ chart_text top c ++ items_text c.steps ++ codes "</figure>\n"

-- no large picture of a curve that is flat over this axis
abbrev pub figure_at : ℕ → Curve → Text
figure_at top c = if is_notable top c then figure_text top c.selected c else []

-- a line of the table of values
abbrev pub step_text : Text → CurveStep → Text
step_text label s =
    codes "<tr><td>" ++ label_text label ++ codes "</td><td>" ++ decimal s.speedup
    ++ codes "%</td><td>" ++ value_text s.value ++ codes "</td></tr>\n"

abbrev pub steps_text : Curve → Text
steps_text c = flat_map (step_text c.selected) c.steps

-- the value of each line at each speedup
abbrev pub values_text : List Curve → Text
values_text curves =
    codes "<details><summary>The values at each speedup</summary>\n"
    ++ codes "<table>\n<tr><th>Line</th><th>Faster by</th><th>Value</th></tr>\n"
    ++ flat_map steps_text curves ++ codes "</table>\n</details>\n"

-- how many lines there are, how many of them are shown, how many are folded, and how many of the
-- others are not shown
abbrev pub count_text : ℕ → ℕ → ℕ → Text
count_text most stands n =
    codes "</table>\n<p>Lines: " ++ decimal n
    ++ codes ". Shown: " ++ decimal (min most stands)
    ++ codes ". Folded: " ++ decimal (n - stands)
    ++ codes ". Not shown: " ++ decimal (stands - min most stands) ++ codes ".</p>\n"

-- the folded lines: their number, and a table of some that is closed at first
abbrev pub fold_text : ℕ → View → List Summary → ℕ → List Curve → Text
fold_text top view summaries n curves =
    codes "<details class=\"folded\"><summary>Lines under 0.2% at each speedup: " ++ decimal n
    ++ codes "</summary>\n<table class=\"folded\">\n" ++ COLUMNS.now
    ++ flat_map (row_text top view.answers summaries) curves ++ codes "</table>\n</details>\n"

-- nothing if no line is folded
abbrev pub folded_text : ℕ → View → List Summary → ℕ → List Curve → Text
folded_text top view summaries n curves =
    if n == 0 then [] else fold_text top view summaries n curves

-- the lines of a table, its end, their number, and those that are folded
abbrev pub rows_text : ℕ → View → List Summary → List Curve → Text
rows_text top view summaries curves =
    codes "\">\n" ++ COLUMNS.now
    ++ flat_map (row_text top view.answers summaries) (listed view.most curves)
    ++ count_text view.most (standing curves) (length curves)
    ++ folded_text top view summaries (length curves - standing curves) (folded view.most curves)

-- the large pictures of a table's lines, and their values
abbrev pub pictures_text : ℕ → ℕ → List Curve → Text
pictures_text top most curves =
    codes "<div class=\"charts\">\n"
    ++ flat_map (figure_at top) (listed most curves)
    ++ codes "</div>\n" ++ values_text (listed most curves) ++ codes "</details>\n"

abbrev pub point_name : List Text → List Curve → Text
point_name points [] = []
point_name points (c ∷ curves) = get_or points c.point []

-- above the greatest gain of these
abbrev pub top_of : List Curve → ℕ
top_of curves = top_for (greatest_gain curves)

-- over this axis the worst value of the first of these is not below the lower end,
-- unless it is below -25 per cent
abbrev pub harm_top : List Curve → ℕ
harm_top [] = 100
harm_top (c ∷ curves) = harm_top_for (worst_of c.steps)

abbrev pub point_number : List Curve → ℕ
point_number [] = 0
point_number (c ∷ curves) = c.point

-- the curves of one progress point
abbrev pub point_text : View → Profile → List Curve → Text
point_text view p curves =
    codes "<details name=\"point\" open><summary>Progress point "
    ++ label_text (point_name p.points curves) ++ codes "</summary>\n"
    ++ visits_text p.summaries (point_number curves)
    ++ codes "<table id=\"p" ++ decimal (point_number curves)
    ++ rows_text (top_of curves) view p.summaries curves
    ++ pictures_text (top_of curves) view.most curves

-- the lines that hurt one progress point
abbrev pub harm_text : View → Profile → List Curve → Text
harm_text view p curves =
    codes "<details open><summary>Lines that hurt, by their worst value: "
    ++ label_text (point_name p.points curves)
    ++ codes "</summary>\n<table id=\"h" ++ decimal (point_number curves)
    ++ rows_text (harm_top curves) view p.summaries curves
    ++ pictures_text (harm_top curves) view.most curves

-- ---- the lines at all progress points

abbrev pub have_one_point : Curve → Curve → Bool
have_one_point c d = c.point == d.point

-- the curves, cut where the point changes
abbrev pub by_point : List Curve → List (List Curve)
by_point curves = groups_by have_one_point curves

-- the other curve is of the same line, and it gains more, or as much at an earlier point
abbrev pub is_behind : Curve → Curve → Bool
is_behind c other =
    bytes_eq other.selected c.selected
    && is_lt (ordering_then (option_cmp int_cmp c.gain other.gain) (nat_cmp other.point c.point))

-- at the point of this curve its line gains most
abbrev pub leads : List Curve → Curve → Bool
leads curves c = not (list_any (is_behind c) curves)

-- a curve of the line that is not flat over this axis
abbrev pub is_notable_of : ℕ → Text → Curve → Bool
is_notable_of top label c = bytes_eq c.selected label && is_notable top c

-- a picture of the line at a point; nothing of another line
abbrev pub side_at : ℕ → List Text → Text → Curve → Text
side_at top points label c =
    if bytes_eq c.selected label then figure_text top (get_or points c.point []) c else []

-- the pictures of a line at all points, side by side
abbrev pub line_text : ℕ → List Text → List Curve → Text → Text
line_text top points curves label =
    codes "<details open><summary>" ++ label_text label
    ++ codes "</summary>\n<div class=\"charts\">\n"
    ++ flat_map (side_at top points label) curves ++ codes "</div>\n</details>\n"

-- a line is shown where it gains most, unless it is flat at all points
abbrev pub is_shown : ℕ → List Curve → Curve → Bool
is_shown top curves c = leads curves c && list_any (is_notable_of top c.selected) curves

abbrev pub line_at : ℕ → List Text → List Curve → Curve → Text
line_at top points curves c =
    if is_shown top curves c then line_text top points curves c.selected else []

-- of the lines that a point's table has, those that gain most at this point
abbrev pub lines_text : ℕ → List Text → List Curve → List Curve → Text
lines_text most points curves group =
    flat_map (line_at (top_of group) points curves) (listed most group)

abbrev pub all_lines_text : ℕ → List Text → List Curve → Text
all_lines_text most points curves =
    LINES.now ++ flat_map (lines_text most points curves) (by_point curves)
    ++ codes "</details>\n"

-- nothing if there is only one point, or no curve
abbrev pub sides_text : ℕ → List Text → List Curve → Text
sides_text most points curves =
    if nat_lt 1 (length points) && nat_lt 0 (length curves)
    then all_lines_text most points curves else []

-- ---- the head

-- the title of the page, or the name of the program without one
abbrev pub title_text : Option Text → Text
title_text None = codes "coz"
title_text (Some title) = html title

-- the title behind the heading
abbrev pub heading_text : Option Text → Text
heading_text None = []
heading_text (Some title) = codes ": " ++ html title

-- a link to another page
abbrev pub other_text : Text → Text
other_text path =
    codes "<p>Another page of this program: <a href=\"" ++ html path ++ codes "\">" ++ html path
    ++ codes "</a></p>\n"

-- nothing if no other page is named
abbrev pub beside_text : Option Text → Text
beside_text None = []
beside_text (Some path) = other_text path

-- the head of the page, up to what is said of the runs
abbrev pub head_text : Request → Text
head_text asked =
    HEAD.now ++ title_text asked.title ++ STYLE.now ++ heading_text asked.title ++ LEAD.now
    ++ beside_text asked.link

-- ---- the whole

-- a link to the table of a progress point
abbrev pub link_text : ℕ × Text → Text
link_text point =
    codes "<li><a href=\"#p" ++ decimal point.0 ++ codes "\">" ++ label_text point.1
    ++ codes "</a></li>\n"

abbrev pub name_text : Text → Text
name_text name = codes "<li>" ++ label_text name ++ codes "</li>\n"

-- a progress point to choose, or only its name if the page has no tables
abbrev pub choice_text : Bool → ℕ × Text → Text
choice_text tables point = if tables then link_text point else name_text point.1

-- each point has a table, unless there is no curve
abbrev pub has_tables : List Curve → Bool
has_tables curves = nat_lt 0 (length curves)

abbrev pub choices_text : Bool → List Text → Text
choices_text tables points =
    codes "<ul>\n" ++ flat_map (choice_text tables) (enumerate_from 0 points) ++ codes "</ul>\n"

-- what is said of a profile without curves
abbrev pub nothing_text : ℕ → Text
nothing_text all = if all == 0 then NOTHING.now else []

-- which lines the page is of, and how many of all curves are theirs
abbrev pub pattern_text : Text → ℕ → ℕ → Text
pattern_text pattern count all =
    codes "<p>Only lines of files whose path begins or ends with " ++ html pattern
    ++ codes ": " ++ decimal count ++ codes " of " ++ decimal all
    ++ codes " curves. Tables and axes are of these lines alone.</p>\n"

-- nothing if no pattern is given
abbrev pub chosen_text : Option Text → ℕ → ℕ → Text
chosen_text None count all = []
chosen_text (Some pattern) count all = pattern_text pattern count all

-- the page of a profile with these of all its curves, of which these hurt
abbrev pub curves_page : View → Request → ℕ → Profile → List Curve → List Curve → Text
curves_page view asked all p curves harmful =
    head_text asked ++ runs_text p ++ chosen_text asked.file (length curves) all
    ++ choices_text (has_tables curves) p.points
    ++ nothing_text all ++ flat_map (point_text view p) (by_point curves)
    ++ sides_text view.most p.points curves
    ++ flat_map (harm_text view p) (by_point harmful) ++ FOOT.now

-- the curves of the lines of these files
abbrev pub chosen_curves : Option Text → List Curve → List Curve
chosen_curves file curves = filter (λ (c : Curve). is_of_file file c.selected) curves

-- the curves of a profile that the page has, by their means; those that tie are by their gains
abbrev pub page_curves : Option Text → Profile → List Curve
page_curves file p = by_mean (chosen_curves file (ranked_curves (curves_of p)))

-- no source file is used unless a folder is named
abbrev pub used : Option Text → Answers → Answers
used None answers = λ path. []
used (Some folder) answers = answers

abbrev pub view_for : Request → Answers → View
view_for asked answers = record { most = asked.top; answers = used asked.source answers }

-- the page of a profile with these source files: the curves of the chosen lines by mean, and
-- those that hurt by their harm
unfoldable pub page_text : Request → Answers → Profile → Text
page_text asked answers p =
    curves_page (view_for asked answers) asked (length (ranked_curves (curves_of p))) p
    (page_curves asked.file p) (harmful_curves (page_curves asked.file p))
