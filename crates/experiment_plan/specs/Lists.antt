-- Numbers, lines and lists of lines, as words name them.
use Rattle.std.specs.Prelude.{◌≡◌, ℕ, ◌+◌, Bool, not, ◌&&◌, ◌==◌, nat_lt, nat_le, List, [], ◌∷◌, ◌++◌, length, Option, Some, None, if◌then◌else◌, is_some}
use Rattle.std.specs.List.{list_all, before_last, after_last, slice_split}
use Rattle.std.specs.Str.Parse.{digits_value}
use Rattle.coz_types.specs.declared.TheConstants.{MAX_LINE}

abbrev pub Text : Type 0
Text = List ℕ

abbrev pub is_digit : ℕ → Bool
is_digit b = nat_le 48 b && nat_le b 57

-- 1 to 20 decimal digits
abbrev pub is_number : Text → Bool
is_number text = nat_lt 0 (length text) && nat_le (length text) 20 && list_all is_digit text

-- the number, if the text is one from `least` to `most`
abbrev pub number_in : ℕ → ℕ → Text → Option ℕ
number_in least most text =
    let n = digits_value 10 text in
    if is_number text && nat_le least n && nat_le n most then Some n else None

-- ---- a line: a path, `:` and a number

abbrev pub is_colon : ℕ → Bool
is_colon b = b == 58

abbrev pub is_comma : ℕ → Bool
is_comma b = b == 44

-- not empty, and with no comma
abbrev pub is_path : Text → Bool
is_path path = nat_lt 0 (length path) && list_all (λ b. not (is_comma b)) path

-- a path, the last `:`, and a number from 1 to 2^32 - 1
unfoldable pub is_line : Text → Bool
is_line text =
    is_path (before_last is_colon text)
    && is_some (number_in 1 MAX_LINE (after_last is_colon text))

-- the path of a line, and its number
unfoldable pub line_parts : Text → Text × ℕ
line_parts text = (before_last is_colon text, digits_value 10 (after_last is_colon text))

-- ---- a list: one line or more, with a comma between

-- the text, cut at each comma
unfoldable pub pieces : Text → List Text
pieces text = slice_split is_comma text

abbrev pub is_list : Text → Bool
is_list text = list_all is_line (pieces text)

-- the pieces of what is left of a list, if something is left
abbrev pub pieces_left : Option Text → List Text
pieces_left None = []
pieces_left (Some text) = pieces text

-- the text is the piece, and if something is left a comma and that
abbrev pub IsCut : Text → Text → Option Text → Type 0
IsCut text piece None = text ≡ piece
IsCut text piece (Some rest) = text ≡ piece ++ 44 ∷ rest

-- how long that is: less with each piece that is taken
abbrev pub length_left : Option Text → ℕ
length_left None = 0
length_left (Some text) = 1 + length text
