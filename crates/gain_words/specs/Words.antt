-- The request of the words, computed word by word. `Grammar.antt` says what the words are.
use Rattle.std.specs.Prelude.{ℕ, List, [], ◌∷◌, ◌++◌, fold, codes, nat_le, Option, Some, None, if◌then◌else◌, find}
use Rattle.std.specs.Str.{bytes_eq}
use Rattle.coz_types.specs.Ranges.{last_word}
use Rattle.experiment_plan.specs.Lists.{number_in}
use Rattle.coz_words.specs.Answers.{bytes_of}
use Rattle.coz_words.specs.Said.{Text}
use Rattle.coz_words.specs.Slow.{request_of}
use Rattle.coz_words.specs.declared.command.Command.{Command}
use Rattle.coz_words.specs.declared.command.Command.TheVariants.{Profile}
use Rattle.coz_words.specs.declared.request.Request.{Request}
use Rattle.timing_model.specs.declared.costs.Costs.{Costs}
use Rattle.timing_model.specs.declared.timing.Charge.{Charge}
use Rattle.timing_model.specs.declared.timing.Charge.TheVariants.{Nobody, Last}
use Rattle.timing_model.specs.declared.timing.Timing.{Timing}
use Rattle.timing_model.specs.Timing.{usual}
use Rattle.timing_steps.specs.declared.ticks.TheConstants.{MAX_TIMED_BUDGET}
use Rattle.gain_words.specs.declared.asked.GainRequest.{GainRequest}
use Rattle.gain_words.specs.declared.scan.Scan.{Scan}
use Rattle.gain_words.specs.declared.setting.Setting.{Setting}
use Rattle.gain_words.specs.declared.setting.Setting.TheVariants as settings
use Rattle.gain_words.specs.declared.slot.Slot.{Slot}
use Rattle.gain_words.specs.declared.slot.Slot.TheVariants.{Absent}
use Rattle.gain_words.specs.Slots.{fill, value_or}
pub use Rattle.gain_words.specs.Costs.{is_equals, name_in, value_in, costs_in, ◌>>=◌}

-- ---- the options and their values

abbrev pub setting_word : Setting → Text
setting_word settings.Cores = codes "--cores"
setting_word settings.Slice = codes "--slice"
setting_word settings.Costs = codes "--costs"
setting_word settings.Charge = codes "--charge"
setting_word settings.Seed = codes "--seed"

abbrev pub all_settings : List Setting
all_settings =
    settings.Cores ∷ settings.Slice ∷ settings.Costs ∷ settings.Charge ∷ settings.Seed ∷ []

-- the option that a word names
abbrev pub setting_of : Text → Option Setting
setting_of word = find (λ setting. bytes_eq word (setting_word setting)) all_settings

abbrev pub cores_in : Text → Option ℕ
cores_in value = number_in 1 256 value

abbrev pub slice_in : Text → Option ℕ
slice_in value = number_in 1 1000000000 value

abbrev pub charge_in : Text → Option Charge
charge_in value =
    if bytes_eq value (codes "none") then Some Nobody
    else if bytes_eq value (codes "last") then Some Last
    else None

abbrev pub seed_in : Text → Option ℕ
seed_in value = number_in 0 last_word value

-- ---- words

-- what some words give: what each option of the machine has, the option whose value is to come,
-- and the words of `profile`
pub record Given : Type 0 where
  pub cores : Slot ℕ
  pub slice : Slot ℕ
  pub costs : Slot Costs
  pub charge : Slot Charge
  pub seed : Slot ℕ
  pub wanting : Option Setting
  pub rest : List Text

abbrev pub scanned : Scan → Given
scanned scan = record {
  cores = scan.cores;
  slice = scan.slice;
  costs = scan.costs;
  charge = scan.charge;
  seed = scan.seed;
  wanting = scan.wanting;
  rest = bytes_of scan.rest.items;
}

abbrev pub no_words : Given
no_words = record {
  cores = Absent;
  slice = Absent;
  costs = Absent;
  charge = Absent;
  seed = Absent;
  wanting = None;
  rest = codes "profile" ∷ [];
}

-- with the value of an option
abbrev pub with_value : Setting → Text → Given → Given
with_value settings.Cores value g = record g { cores = fill g.cores (cores_in value); wanting = None }
with_value settings.Slice value g = record g { slice = fill g.slice (slice_in value); wanting = None }
with_value settings.Costs value g = record g { costs = fill g.costs (costs_in value); wanting = None }
with_value settings.Charge value g =
    record g { charge = fill g.charge (charge_in value); wanting = None }
with_value settings.Seed value g = record g { seed = fill g.seed (seed_in value); wanting = None }

-- with a word of `profile`
abbrev pub with_other : Text → Given → Given
with_other word g = record g { rest = g.rest ++ word ∷ [] }

-- with an option of the machine, and its value if it is in the word
abbrev pub with_setting : Setting → Option Text → Given → Given
with_setting setting (Some value) g = with_value setting value g
with_setting setting None g = record g { wanting = Some setting }

-- with a word that is no value
abbrev pub free_word : Given → Text → Given
free_word g word = elim (setting_of (name_in word)) [
  | Some setting ↦ with_setting setting (value_in word) g
  | None ↦ with_other word g
]

abbrev pub scan_word : Given → Text → Given
scan_word g word = elim g.wanting [
  | Some setting ↦ with_value setting word g
  | None ↦ free_word g word
]

-- ---- the request

-- the machine, if each option is right
abbrev pub timing_of : Given → Option Timing
timing_of g =
    value_or g.cores usual.cores >>= λ cores.
    value_or g.slice usual.slice >>= λ slice.
    value_or g.costs usual.costs >>= λ costs.
    value_or g.charge usual.charge >>= λ charge.
    value_or g.seed usual.seed >>= λ seed.
    Some (record { cores = cores; slice = slice; costs = costs; charge = charge; seed = seed })

-- of `profile`, with a budget of at most 10^10 instructions
abbrev pub as_profile : Command → Request → Option Request
as_profile Profile profile = if nat_le profile.budget MAX_TIMED_BUDGET then Some profile else None
as_profile command profile = None

abbrev pub profile_in : List Text → Option Request
profile_in words = request_of words >>= λ profile. as_profile profile.command profile

-- the request, if no value is to come
abbrev pub gain_request_of : Given → Option GainRequest
gain_request_of g = elim g.wanting [
  | Some setting ↦ None
  | None ↦
      timing_of g >>= λ timing.
      profile_in g.rest >>= λ profile.
      Some (record { profile = profile; timing = timing })
]

-- the request of the words after the program's name
unfoldable pub gain_request : List Text → Option GainRequest
gain_request words = gain_request_of (fold scan_word no_words words)
