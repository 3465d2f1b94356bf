-- The texts that are the spelling of an ending within its ranges.
use Rattle.std.specs.Prelude.{◌-◌, Bool, ◌&&◌, ◌==◌, nat_le, false, List, [], ◌∷◌, drop, codes, if◌then◌else◌}
use Rattle.std.specs.List.{list_any, slice_split}
use Rattle.std.specs.Str.{bytes_eq}
use Rattle.std.specs.Str.Parse.{digits_value}
use Rattle.coz_types.specs.declared.TheConstants.{HARTS}
use Rattle.coz_types.specs.Labels.{Text, is_decimal}
use Rattle.coz_types.specs.Endings.{address_text}
use Rattle.coz_types.specs.Ranges.{last_word}

abbrev pub is_address : Text → Bool
is_address text =
    bytes_eq text (address_text (digits_value 16 (drop 2 text)))
    && nat_le (digits_value 16 (drop 2 text)) last_word

abbrev pub is_one_of : List Text → Text → Bool
is_one_of texts text = list_any (λ t. bytes_eq text t) texts

abbrev pub causes : List Text
causes = codes "fetch" ∷ codes "illegal" ∷ codes "misaligned" ∷ codes "access" ∷ codes "break" ∷ []

abbrev pub plain_endings : List Text
plain_endings =
    codes "stalled" ∷ codes "spent" ∷ codes "output-full" ∷ codes "visits-full" ∷ codes "clock" ∷ []

-- what stands between the colons of an ending's text
abbrev pub ending_parts : List Text → Bool
ending_parts (word ∷ []) = is_one_of plain_endings word
ending_parts (word ∷ n ∷ []) =
    if bytes_eq word (codes "exited") then is_decimal 255 n
    else (bytes_eq word (codes "unsupported") && is_decimal last_word n)
ending_parts (word ∷ cause ∷ hart ∷ pc ∷ []) =
    bytes_eq word (codes "trapped")
    && (is_one_of causes cause && (is_decimal (HARTS - 1) hart && is_address pc))
ending_parts _ = false

-- the text is the spelling of an ending
abbrev pub is_ending_text : Text → Bool
is_ending_text text = ending_parts (slice_split (λ b. b == 58) text)
