-- Values in a page, and the axes over which they are drawn.
use Rattle.std.specs.Prelude.{ℕ, ◌*◌, ◌/◌, ◌%◌, nat_le, nat_lt, min, Bool, true, false, List, [], ◌∷◌, ◌++◌, codes, decimal, Option, Some, None, ℤ, pos, negsuc, nat_abs, if◌then◌else◌}
use Rattle.coz_types.specs.Labels.{Text}

-- ---- in per cent

-- n hundredths of a per cent
abbrev pub size_text : ℕ → Text
size_text n =
    decimal (n / 100) ++ codes "." ++ decimal (n / 10 % 10) ++ decimal (n % 10) ++ codes "%"

abbrev pub sign : ℤ → Text
sign (pos n) = []
sign (negsuc n) = codes "-"

abbrev pub percent : ℤ → Text
percent v = sign v ++ size_text (nat_abs v)

abbrev pub value_text : Option ℤ → Text
value_text None = codes "absent"
value_text (Some v) = percent v

-- the value is 0 or more
abbrev pub is_gain : Option ℤ → Bool
is_gain (Some (pos n)) = true
is_gain _ = false

-- a worst value is told only below 0
abbrev pub worst_text : Option ℤ → Text
worst_text v = if is_gain v then codes "none" else value_text v

-- over 100 per cent the starts ran on several threads at once
abbrev pub threads_text : ℕ → Text
threads_text n = if nat_lt 10000 n then codes "<br><small>several threads at once</small>" else []

abbrev pub cost_text : Option ℕ → Text
cost_text None = codes "absent"
cost_text (Some n) = size_text n ++ threads_text n

-- ---- the axes

-- the upper ends of axes of values below 100 per cent
abbrev pub tops : List ℕ
tops =
    100 ∷ 200 ∷ 300 ∷ 400 ∷ 500 ∷ 600 ∷ 800 ∷ 1000 ∷ 1500 ∷ 2000 ∷ 3000 ∷ 4000 ∷ 5000
    ∷ 6000 ∷ 8000 ∷ []

-- the first of these that the size doesn't pass, and 100 per cent for a greater one
abbrev pub first_above : ℕ → List ℕ → ℕ
first_above n [] = 10000
first_above n (top ∷ rest) = if nat_le n top then top else first_above n rest

abbrev pub top_above : ℕ → ℕ
top_above n = first_above n tops

-- the upper end of the axis of values, if this is the greatest gain
abbrev pub top_for : Option ℤ → ℕ
top_for (Some (pos n)) = top_above n
top_for _ = 100

-- the upper end of an axis of which the lower end, a quarter of it, has room for this value
abbrev pub harm_top_for : Option ℤ → ℕ
harm_top_for None = 100
harm_top_for (Some v) = top_above (4 * min (nat_abs v) 10000)
