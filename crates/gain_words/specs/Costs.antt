-- The value of `--costs`: pieces such as `ecall=1000`, with a comma between.
use Rattle.std.specs.Prelude.{ℕ, Bool, ◌==◌, List, [], ◌∷◌, codes, fold, Option, Some, None, option_and_then, if◌then◌else◌}
use Rattle.std.specs.List.{list_all, list_any, before_first, after_first}
use Rattle.std.specs.Str.{bytes_eq}
use Rattle.coz_words.specs.Said.{Text}
use Rattle.experiment_plan.specs.Lists.{number_in, pieces}
use Rattle.timing_model.specs.declared.costs.Class.{Class}
use Rattle.timing_model.specs.declared.costs.Class.TheVariants.{Integer, Jump, Load, Multiply, Atomic, Divide, Ecall}
use Rattle.timing_model.specs.declared.costs.Costs.{Costs}
use Rattle.timing_model.specs.Timing.{cost_of, usual_costs}
use Rattle.gain_words.specs.declared.slot.Slot.{Slot}
use Rattle.gain_words.specs.declared.slot.Slot.TheVariants.{Absent}
use Rattle.gain_words.specs.Slots.{fill, value_or}

-- ---- a name and its value, with `=` between

abbrev pub is_equals : ℕ → Bool
is_equals b = b == 61

abbrev pub name_in : Text → Text
name_in text = before_first is_equals text

abbrev pub value_in : Text → Option Text
value_in text = if list_any is_equals text then Some (after_first is_equals text) else None

-- ---- a piece

abbrev pub class_name : Class → Text
class_name Integer = codes "integer"
class_name Jump = codes "jump"
class_name Load = codes "load"
class_name Multiply = codes "multiply"
class_name Atomic = codes "atomic"
class_name Divide = codes "divide"
class_name Ecall = codes "ecall"

abbrev pub classes : List Class
classes = Integer ∷ Jump ∷ Load ∷ Multiply ∷ Atomic ∷ Divide ∷ Ecall ∷ []

abbrev pub is_class : Text → Bool
is_class name = list_any (λ class. bytes_eq name (class_name class)) classes

abbrev pub is_piece : Text → Bool
is_piece piece = is_class (name_in piece)

-- cycles, from 1 to 10,000
abbrev pub cycles_in : Text → Option ℕ
cycles_in value = number_in 1 10000 value

abbrev pub number_of : Option Text → Option ℕ
number_of value = option_and_then cycles_in value

-- ---- a class

-- what some pieces give the class, and one piece more
abbrev pub with_piece : Class → Slot ℕ → Text → Slot ℕ
with_piece class slot piece =
    if bytes_eq (name_in piece) (class_name class) then fill slot (number_of (value_in piece))
    else slot

-- the cost of the class: what the pieces give it, or the usual one
abbrev pub cost_in : List Text → Class → Option ℕ
cost_in texts class =
    value_or (fold (with_piece class) Absent texts) (cost_of usual_costs class)

-- ---- the list

infixr 20 ◌>>=◌
abbrev pub ◌>>=◌ : {A B : Type 0} → Option A → (A → Option B) → Option B
o >>= f = option_and_then f o

abbrev pub costs_of : (Class → Option ℕ) → Option Costs
costs_of cost =
    cost Integer >>= λ integer.
    cost Jump >>= λ jump.
    cost Load >>= λ load.
    cost Multiply >>= λ multiply.
    cost Atomic >>= λ atomic.
    cost Divide >>= λ divide.
    cost Ecall >>= λ ecall.
    Some (record {
      integer = integer;
      jump = jump;
      load = load;
      multiply = multiply;
      atomic = atomic;
      divide = divide;
      ecall = ecall;
    })

-- the costs, if each piece of the list names a class, and each class is right
abbrev pub costs_in : Text → Option Costs
costs_in list =
    if list_all is_piece (pieces list) then costs_of (cost_in (pieces list)) else None
