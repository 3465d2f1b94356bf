-- The picture of a curve.
use Rattle.std.specs.Prelude.{ℕ, Bool, ◌||◌, List, [], ◌++◌, flat_map, codes, decimal, Option, Some, None, ℤ, if◌then◌else◌}
use Rattle.coz_types.specs.Labels.{Text}
use Rattle.causal_curves.specs.declared.curve.Curve.{Curve}
use Rattle.causal_curves.specs.declared.curve.CurveStep.{CurveStep}
use Rattle.page_charts.specs.declared.axes.TheConstants.{AXES, SMALL_AXES}
use Rattle.page_charts.specs.Values.{size_text, percent, value_text}
use Rattle.page_values.specs.Places.{height, is_cut, place_across, reaches}
use Rattle.page_values.specs.Harm.{worst_of}
use Rattle.page_values.specs.Shapes.{flat_from, is_rough}

abbrev pub place_text : ℕ → ℕ → ℤ → Text
place_text top speedup v =
    codes " " ++ decimal (place_across speedup) ++ codes "," ++ decimal (height top v)

-- the beginning of a dot; that of a value below the lower end has a class of its own
abbrev pub dot_start : Bool → Text
dot_start is_low = if is_low then codes "<circle class=\"low" else codes "<circle class=\"dot"

-- a dot, with its value when it is pointed at
abbrev pub dot_text : ℕ → ℕ → ℤ → Text
dot_text top speedup v =
    dot_start (is_cut top v)
    ++ codes "\" r=\"14\" cx=\"" ++ decimal (place_across speedup)
    ++ codes "\" cy=\"" ++ decimal (height top v)
    ++ codes "\"><title>line " ++ decimal speedup ++ codes "% faster: " ++ percent v
    ++ codes "</title></circle>"

-- nothing if the value is absent
abbrev pub at_value : (ℕ → ℤ → Text) → ℕ → Option ℤ → Text
at_value text speedup None = []
at_value text speedup (Some v) = text speedup v

abbrev pub place_at : ℕ → CurveStep → Text
place_at top s = at_value (place_text top) s.speedup s.value

abbrev pub dot_at : ℕ → CurveStep → Text
dot_at top s = at_value (dot_text top) s.speedup s.value

abbrev pub chart_text : ℕ → Curve → Text
chart_text top c =
    AXES.now ++ size_text top
    ++ codes "</text><polyline points=\"" ++ flat_map (place_at top) c.steps
    ++ codes "\"/>" ++ flat_map (dot_at top) c.steps ++ codes "</svg>"

-- the gain or the size of the worst value is at least a hundredth of the axis
abbrev pub is_notable : ℕ → Curve → Bool
is_notable top c = reaches top c.gain || reaches top (worst_of c.steps)

-- the picture in a row of a table
abbrev pub small_text : ℕ → Curve → Text
small_text top c = SMALL_AXES.now ++ flat_map (place_at top) c.steps ++ codes "\"/></svg>"

-- ---- in words

-- from which speedup on the curve stays at its gain, if from one before the greatest
abbrev pub flat_text : Option ℕ → Text
flat_text None = []
flat_text (Some speedup) = codes ", all of it by " ++ decimal speedup ++ codes "%"

abbrev pub rough_text : Bool → Text
rough_text rough = if rough then codes ", goes up and down" else []

-- the gain of a curve, and its shape
abbrev pub gain_text : Curve → Text
gain_text c =
    codes ": " ++ value_text c.gain ++ flat_text (flat_from c) ++ rough_text (is_rough c)

abbrev pub item_text : CurveStep → Text
item_text s =
    codes "<li>" ++ decimal s.speedup ++ codes "% faster: " ++ value_text s.value ++ codes "</li>"

-- the values of a curve, in a list that is closed at first
abbrev pub items_text : List CurveStep → Text
items_text steps =
    codes "<details><summary>Values</summary><ul>" ++ flat_map item_text steps
    ++ codes "</ul></details>"
