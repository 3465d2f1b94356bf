-- The paths that a command line names.
use Rattle.std.specs.Prelude.{ℕ, Bool, true, false, not, ◌&&◌, ◌==◌, nat_le, List, [], ◌∷◌, length, codes, Option, Some, None, if◌then◌else◌}
use Rattle.std.specs.List.{list_all}
use Rattle.std.specs.Str.{bytes_eq}
use Rattle.coz_types.specs.Labels.{Text, is_empty}
use Rattle.coz_types.specs.declared.TheConstants.{MAX_WORD}
use Rattle.average_values.specs.Values.{most_runs}

-- the word after which each word is a path
abbrev pub dashes : Text
dashes = codes "--"

-- no longer than one byte, or it doesn't begin with a hyphen
abbrev pub is_plain : Text → Bool
is_plain (c ∷ d ∷ rest) = not (c == 45)
is_plain word = true

abbrev pub has_no_zero : Text → Bool
has_no_zero word = list_all (λ (b : ℕ). not (b == 0)) word

-- it has a byte, no zero byte, and at most 131,072 bytes
abbrev pub is_path : Text → Bool
is_path word = not (is_empty word) && (has_no_zero word && nat_le (length word) MAX_WORD)

-- 1 to 1,000 paths
abbrev pub are_paths : List Text → Bool
are_paths [] = false
are_paths (word ∷ words) =
    nat_le (length (word ∷ words)) most_runs && list_all is_path (word ∷ words)

-- the words, if they are such paths
abbrev pub as_paths : List Text → Option (List Text)
as_paths words = if are_paths words then Some words else None

-- the paths: the words after a first word `--`, or all words if each is plain
abbrev pub paths_in : List Text → Option (List Text)
paths_in [] = None
paths_in (word ∷ words) =
    if bytes_eq word dashes then as_paths words
    else if list_all is_plain (word ∷ words) then as_paths (word ∷ words)
    else None
