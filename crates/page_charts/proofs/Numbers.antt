-- The axes of the pictures, with each number that the places of values give.
use Rattle.std.proofs.Common.{◌≡◌, List, ◌++◌, refl}
use Rattle.std.specs.Prelude.{ℕ, codes, decimal, pos, negsuc}
use Rattle.std.specs.Fmt.{digits}
use Rattle.page_charts.specs.declared.axes.TheConstants.{AXES, SMALL_AXES}
use Rattle.page_values.specs.Places.{height, place_across}

-- the places of 0 and 100 per cent from the left
left : List ℕ
left = decimal (place_across 0)

right : List ℕ
right = decimal (place_across 100)

-- from above, the places of the upper end, of the middle of the upper half, of 0
-- and of the lower end, if the upper end is 100 per cent
upper : List ℕ
upper = decimal (height 10000 (pos 10000))

middle : List ℕ
middle = decimal (height 10000 (pos 5000))

zero_line : List ℕ
zero_line = decimal (height 10000 (pos 0))

lower : List ℕ
lower = decimal (height 10000 (negsuc 9999))

axes : AXES.now ≡
    codes "<path d=\"M" ++ left ++ codes " " ++ upper ++ codes "V" ++ lower
    ++ codes "M" ++ left ++ codes " " ++ upper ++ codes "H" ++ right
    ++ codes "M" ++ left ++ codes " " ++ middle ++ codes "H" ++ right ++ codes "\"/>"
    ++ codes "<path d=\"M" ++ left ++ codes " " ++ zero_line ++ codes "H" ++ right ++ codes "\" style=\"stroke:var(--ink)\"/>"
    ++ codes "<text x=\"" ++ left ++ codes "\" y=\"610\" text-anchor=\"middle\">0%</text>"
    ++ codes "<text x=\"740\" y=\"610\" text-anchor=\"middle\">line 50% faster</text>"
    ++ codes "<text x=\"1330\" y=\"610\" text-anchor=\"middle\">100%</text>"
    ++ codes "<text x=\"180\" y=\"453\" text-anchor=\"end\">0</text>"
    ++ codes "<text x=\"180\" y=\"53\" text-anchor=\"end\">"
unfolding left right upper middle zero_line lower digits
axes = refl

small_axes : SMALL_AXES.now ≡
    codes "<svg class=\"small\" aria-hidden=\"true\" viewBox=\"180 20 1180 540\">"
    ++ codes "<path d=\"M" ++ left ++ codes " " ++ zero_line ++ codes "H" ++ right
    ++ codes "\"/><polyline points=\""
unfolding left right zero_line digits
small_axes = refl
