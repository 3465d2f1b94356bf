-- Profiles, their texts, and what is within the ranges and orders.
use Rattle.std.specs.Prelude.{◌≡◌, ◌≤◌, ℕ, ◌/◌, ◌%◌, Bool, ◌&&◌, ◌||◌, nat_lt, true, false, List, [], ◌∷◌, ◌++◌, length, flat_map, decimal, codes}
use Rattle.std.specs.List.{enumerate_from, list_all, AllByRecursion}
use Rattle.std.specs.Str.{bytes_eq}
use Rattle.std.specs.Fmt.{digits}
use Rattle.coz_types.specs.declared.TheConstants.{MAX_POINTS, MAX_NUMBER}
use Rattle.coz_types.specs.Labels.{Text, is_label, label_before}
use Rattle.coz_types.specs.Endings.{ending_text}
use Rattle.coz_types.specs.Ranges.{IsSummary}
use Rattle.coz_types.specs.declared.record.Summary.{Summary}
use Rattle.profile_book.specs.declared.profile.Profile.{Profile}

-- ---- the text

-- two lower-case hexadecimal digits for each byte
abbrev pub hex_text : List ℕ → Text
hex_text bytes = flat_map (λ b. digits 16 false (b / 16) ++ digits 16 false (b % 16)) bytes

-- a tab, the name and the value
abbrev pub field : Text → Text → Text
field name value = 9 ∷ (name ++ 61 ∷ value)

abbrev pub number_field : Text → ℕ → Text
number_field name n = field name (decimal n)

abbrev pub head_line : Profile → Text
head_line p =
    codes "coz-ticks" ++ field (codes "version") (codes "1")
    ++ number_field (codes "budget") p.budget
    ++ number_field (codes "points") (length p.points) ++ codes "\n"

abbrev pub point_line : ℕ × Text → Text
point_line p =
    codes "point" ++ number_field (codes "index") p.0 ++ field (codes "name") p.1 ++ codes "\n"

abbrev pub experiment_line : Summary → Text
experiment_line s =
    codes "experiment" ++ field (codes "selected") s.selected
    ++ number_field (codes "speedup") s.speedup
    ++ field (codes "end") (ending_text s.outcome.ending)
    ++ number_field (codes "time") s.outcome.time
    ++ number_field (codes "delay") s.outcome.delay
    ++ number_field (codes "retired") s.outcome.retired
    ++ number_field (codes "starts") s.outcome.starts ++ codes "\n"

abbrev pub output_line : Summary → Text
output_line s =
    codes "output" ++ number_field (codes "length") s.length
    ++ field (codes "sha256") (hex_text s.output.bytes) ++ codes "\n"

abbrev pub count_line : ℕ × ℕ → Text
count_line c =
    codes "throughput-point" ++ number_field (codes "index") c.0
    ++ number_field (codes "delta") c.1 ++ codes "\n"

abbrev pub visits_line : Summary → Text
visits_line s = codes "visits" ++ field (codes "sha256") (hex_text s.visits.bytes) ++ codes "\n"

abbrev pub block : Summary → Text
block s =
    experiment_line s ++ output_line s
    ++ flat_map count_line (enumerate_from 0 s.counts) ++ visits_line s

-- the text of a profile
unfoldable pub profile_text : Profile → Text
profile_text p =
    head_line p ++ flat_map point_line (enumerate_from 0 p.points) ++ flat_map block p.summaries

-- ---- ranges and orders

-- each comes before the next
abbrev pub is_rising : {A : Type 0} → (A → A → Bool) → List A → Bool
is_rising before [] = true
is_rising before (a ∷ []) = true
is_rising before (a ∷ b ∷ rest) = before a b && is_rising before (b ∷ rest)

-- by label, then by speedup
abbrev pub summary_before : Summary → Summary → Bool
summary_before s t =
    label_before s.selected t.selected
    || (bytes_eq s.selected t.selected && nat_lt s.speedup t.speedup)

-- the budget and the points, the summaries within their ranges, and all in their orders
pub record IsProfile (p : Profile) : Type 0 where
  pub budget : p.budget ≤ MAX_NUMBER
  pub points : length p.points ≤ MAX_POINTS
  pub names : list_all is_label p.points ≡ true
  pub names_rise : is_rising label_before p.points ≡ true
  pub summaries : AllByRecursion (IsSummary (length p.points)) p.summaries
  pub blocks_rise : is_rising summary_before p.summaries ≡ true

-- the profile's text
abbrev pub IsTextOf : Profile → Text → Type 0
IsTextOf p text = IsProfile p × (text ≡ profile_text p)
