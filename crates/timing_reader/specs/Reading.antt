-- The machine that the first line of a text names, and the text after that line.
use Rattle.std.specs.Prelude.{◌≡◌, ℕ, ◌≤◌, Bool, true, false, ◌&&◌, nat_le, ◌++◌, take, drop, length, codes, Option, Some, None, option_and_then, unwrap_or, if◌then◌else◌}
use Rattle.std.specs.List.{prefix_len}
use Rattle.std.specs.Str.{bytes_eq}
use Rattle.std.specs.Str.Parse.{digits_value}
use Rattle.coz_types.specs.Labels.{Text, is_decimal}
use Rattle.coz_types.specs.Ranges.{last_word}
use Rattle.timing_model.specs.declared.costs.Costs.{Costs}
use Rattle.timing_model.specs.declared.timing.Charge.{Charge}
use Rattle.timing_model.specs.declared.timing.Charge.TheVariants.{Nobody, Last}
use Rattle.timing_model.specs.declared.timing.Timing.{Timing}
use Rattle.timing_model.specs.Timing.{usual, IsTiming}
use Rattle.timing_line.specs.Line.{is_usual, timing_text}

-- one value after the other, if all are there
infixr 20 ◌>>=◌
abbrev pub ◌>>=◌ : {A B : Type 0} → Option A → (A → Option B) → Option B
o >>= f = option_and_then f o

-- ---- numbers

abbrev pub is_digit : ℕ → Bool
is_digit b = nat_le 48 b && nat_le b 57

-- the digits that a text begins with
abbrev pub digits_of : Text → Text
digits_of text = take (prefix_len is_digit text) text

abbrev pub after_digits : Text → Text
after_digits text = drop (prefix_len is_digit text) text

-- the number that a text begins with, in its one decimal spelling, and the text after it
abbrev pub number : ℕ → ℕ → Text → Option (ℕ × Text)
number least most text =
    let n = digits_value 10 (digits_of text) in
    if is_decimal most (digits_of text) && nat_le least n then Some (n, after_digits text) else None

-- ---- names

abbrev pub begins : Text → Text → Bool
begins name text = bytes_eq (take (length name) text) name

-- the text after a name that it begins with
abbrev pub after : Text → Text → Option Text
after name text = if begins name text then Some (drop (length name) text) else None

abbrev pub named_number : Text → ℕ → ℕ → Text → Option (ℕ × Text)
named_number name least most text = after name text >>= λ rest. number least most rest

-- ---- the line

abbrev pub cost_after : Text → Text → Option (ℕ × Text)
cost_after name text = named_number name 1 10000 text

abbrev pub costs_after : Text → Option (Costs × Text)
costs_after text =
    cost_after (codes "\tcosts=") text >>= λ integer.
    cost_after (codes ",") integer.1 >>= λ jump.
    cost_after (codes ",") jump.1 >>= λ load.
    cost_after (codes ",") load.1 >>= λ multiply.
    cost_after (codes ",") multiply.1 >>= λ atomic.
    cost_after (codes ",") atomic.1 >>= λ divide.
    cost_after (codes ",") divide.1 >>= λ ecall.
    Some (
      record {
        integer = integer.0;
        jump = jump.0;
        load = load.0;
        multiply = multiply.0;
        atomic = atomic.0;
        divide = divide.0;
        ecall = ecall.0;
      },
      ecall.1,
    )

abbrev pub charge_after : Text → Option (Charge × Text)
charge_after text = elim (after (codes "\tcharge=none") text) [
  | Some rest ↦ Some (Nobody, rest)
  | None ↦ after (codes "\tcharge=last") text >>= λ rest. Some (Last, rest)
]

abbrev pub timing_after : Text → Option (Timing × Text)
timing_after text =
    named_number (codes "coz-timing\tversion=1\tcores=") 1 256 text >>= λ cores.
    named_number (codes "\tslice=") 1 1000000000 cores.1 >>= λ slice.
    costs_after slice.1 >>= λ costs.
    charge_after costs.1 >>= λ charge.
    named_number (codes "\tseed=") 0 last_word charge.1 >>= λ seed.
    after (codes "\n") seed.1 >>= λ rest.
    Some (
      record {
        cores = cores.0;
        slice = slice.0;
        costs = costs.0;
        charge = charge.0;
        seed = seed.0;
      },
      rest,
    )

-- the machine of a line, which isn't the usual one
abbrev pub unusual : Timing × Text → Option (Timing × Text)
unusual read = if is_usual read.0 then None else Some read

abbrev pub has_line : Text → Bool
has_line text = begins (codes "coz-timing") text

-- the machine of a text, and the text after its line; a text without one is of the usual machine
abbrev pub read_timing : Text → Option (Timing × Text)
read_timing text =
    if has_line text then option_and_then unusual (timing_after text) else Some (usual, text)

-- The machine of a text, and the text after its line. A text whose line is wrong is kept whole:
-- it is no profile's.
abbrev pub timed_text : Text → Timing × Text
timed_text text = unwrap_or (read_timing text) (usual, text)

-- The text is what is written of a machine, and this text. Of the usual machine nothing is written,
-- so that text has no line then.
pub record IsRead (text : Text) (t : Timing) (rest : Text) : Type 0 where
  pub whole : text ≡ timing_text t ++ rest
  pub within : IsTiming t
  pub seed : t.seed ≤ last_word
  pub plain : is_usual t ≡ true → has_line rest ≡ false
