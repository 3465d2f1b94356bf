-- Written paths and labels: how they are spelled, and the order of labels.
use Rattle.std.specs.Prelude.{ℕ, ◌+◌, ◌-◌, ◌*◌, ◌/◌, ◌%◌, Bool, not, ◌&&◌, ◌||◌, ◌==◌, nat_lt, nat_le, false, List, [], ◌∷◌, ◌++◌, length, flat_map, decimal, Option, Some, None, is_none, if◌then◌else◌}
use Rattle.std.specs.Str.{bytes_eq}
use Rattle.std.specs.Str.Parse.{digits_value}
use Rattle.std.specs.Cmp.Lexicographic.{slice_cmp}
use Rattle.std.specs.Ordering.{is_lt, nat_cmp, ordering_then}
use Rattle.coz_types.specs.declared.TheConstants.{MAX_LINE}

abbrev pub Text : Type 0
Text = List ℕ

abbrev pub is_empty : Text → Bool
is_empty text = length text == 0

-- ---- spellings of numbers

-- the text is the one spelling of a number up to a bound
abbrev pub is_decimal : ℕ → Text → Bool
is_decimal most text =
    bytes_eq text (decimal (digits_value 10 text)) && nat_le (digits_value 10 text) most

-- ---- written paths

abbrev pub hex_digit : ℕ → ℕ
hex_digit n = if nat_lt n 10 then 48 + n else 55 + n

-- a byte that a list of labels can't have as it is: one that doesn't print, a space, % or a comma
abbrev pub is_escaped : ℕ → Bool
is_escaped b = nat_lt b 0x21 || (nat_lt 0x7E b || (b == 37 || b == 44))

abbrev pub escape_of : ℕ → Text
escape_of b = if is_escaped b then 37 ∷ hex_digit (b / 16) ∷ hex_digit (b % 16) ∷ [] else b ∷ []

-- a path with its special bytes escaped
abbrev pub written : Text → Text
written path = flat_map escape_of path

-- an upper-case hexadecimal digit, and its value
abbrev pub is_hex_digit : ℕ → Bool
is_hex_digit b = (nat_le 48 b && nat_le b 57) || (nat_le 65 b && nat_le b 70)

abbrev pub hex_value : ℕ → ℕ
hex_value b = if nat_lt b 65 then b - 48 else b - 55

-- the state of a scan of a path: between two bytes, after a `%`, or after a `%`
-- and a digit of this value
abbrev pub Scan : Type 0
Scan = Option (Option ℕ)

-- the state after this byte; an escape is a `%` and the two digits of a byte
-- that has to be escaped
abbrev pub scan_step : Scan → ℕ → Option Scan
scan_step None b = if b == 37 then Some (Some None) else (if is_escaped b then None else Some None)
scan_step (Some None) b = if is_hex_digit b then Some (Some (Some (hex_value b))) else None
scan_step (Some (Some high)) b =
    if is_hex_digit b && is_escaped (16 * high + hex_value b) then Some None else None

abbrev pub is_scanned : Option Scan → Text → Bool
is_scanned None text = false
is_scanned (Some at) [] = is_none at
is_scanned (Some at) (b ∷ rest) = is_scanned (scan_step at b) rest

-- the text is the written form of a path
abbrev pub is_written : Text → Bool
is_written path = is_scanned (Some None) path

-- ---- labels

-- a written path, a colon and a number
abbrev pub label_of : Text → ℕ → Text
label_of path number = path ++ 58 ∷ decimal number

-- the bytes before the last colon and those after it, if there is one
abbrev pub parts_of : Text → Option (Text × Text)
parts_of [] = None
parts_of (b ∷ rest) = elim (parts_of rest) [
  | Some p ↦ Some (b ∷ p.0, p.1)
  | None ↦ if b == 58 then Some ([], rest) else None
]

-- the number of a line, or 0 if the text is no spelling of one
abbrev pub line_number : Text → ℕ
line_number text = if is_decimal MAX_LINE text then digits_value 10 text else 0

-- the written path and the number of a label
abbrev pub path_of : Text → Text
path_of label = elim (parts_of label) [ Some p ↦ p.0 | None ↦ label ]

abbrev pub number_of : Text → ℕ
number_of label = elim (parts_of label) [ Some p ↦ line_number p.1 | None ↦ 0 ]

-- a written path that isn't empty, a colon and the spelling of a number from 1 below 2^32
abbrev pub is_label : Text → Bool
is_label label = elim (parts_of label) [
  | Some p ↦ not (is_empty p.0) && (is_written p.0 && nat_lt 0 (line_number p.1))
  | None ↦ false
]

-- by the written path's bytes, then by number
abbrev pub label_before : Text → Text → Bool
label_before a b =
    is_lt (ordering_then (slice_cmp nat_cmp (path_of a) (path_of b))
    (nat_cmp (number_of a) (number_of b)))
