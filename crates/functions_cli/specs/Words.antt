-- What the words ask for: a program, lines of it that keep their addresses, and regions of lines
-- that are one line each.
use Rattle.std.specs.Prelude.{ℕ, Bool, false, not, ◌&&◌, ◌==◌, nat_le, List, [], ◌∷◌, length, codes, Option, Some, None, option_and_then, if◌then◌else◌}
use Rattle.std.specs.List.{list_all}
use Rattle.std.specs.Option.{option_copied}
use Rattle.coz_types.specs.Labels.{Text, is_empty}
use Rattle.coz_types.specs.declared.TheConstants.{MAX_WORD}
use Rattle.experiment_plan.specs.Lists.{is_list}
use Rattle.coz_words.specs.Said.{Item}
use Rattle.coz_words.specs.Request.{is_of_options, is_once, none_or, target_of, value_of}
use Rattle.coz_words.specs.Slow.{items_in}
use Rattle.functions_cli.specs.declared.words.Asked.{Asked}
use Rattle.functions_cli.specs.Regions.{are_regions}

-- the path of the program, the list that names the kept lines, and that of the regions
pub record Request : Type 0 where
  pub target : Text
  pub keep : Option Text
  pub regions : Option Text

abbrev pub request_of : Asked → Request
request_of asked = record {
  target = asked.target.now;
  keep = option_copied asked.keep;
  regions = option_copied asked.regions;
}

abbrev pub has_no_zero : Text → Bool
has_no_zero word = list_all (λ (b : ℕ). not (b == 0)) word

abbrev pub has_hyphen : Text → Bool
has_hyphen [] = false
has_hyphen (b ∷ rest) = b == 45

-- it has a byte, no hyphen first, no zero byte, and at most 131,072 bytes
abbrev pub is_target : Text → Bool
is_target word =
    not (is_empty word) && (not (has_hyphen word) && (has_no_zero word && nat_le (length word) MAX_WORD))

abbrev pub keep_name : Text
keep_name = codes "keep"

abbrev pub regions_name : Text
regions_name = codes "regions"

abbrev pub option_names : List Text
option_names = keep_name ∷ regions_name ∷ []

-- the path is one, and so are the lists that came
abbrev pub request_with : Option Text → Option Text → Text → Option Request
request_with keep regions target =
    if is_target target && (none_or is_list keep && none_or are_regions regions)
    then Some (record { target = target; keep = keep; regions = regions })
    else None

-- each option came at most once, and so did the path
abbrev pub are_right : List Item → Bool
are_right items = list_all (is_of_options option_names) items && is_once items

abbrev pub request_of_items : List Item → Option Request
request_of_items items =
    if are_right items
    then option_and_then (request_with (value_of keep_name items) (value_of regions_name items)) (target_of items)
    else None

-- the request of the words after the program's name
unfoldable pub request_in : List Text → Option Request
request_in words = option_and_then request_of_items (items_in option_names None words)
