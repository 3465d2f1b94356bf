-- The machine of a request is within the limits.
use Rattle.std.proofs.Common.{◌≡◌, ℕ, ◌≤◌, Bool, true, false, ◌&&◌, nat_le, List, [], ◌∷◌, fold, Option, Some, None, refl, ap, subst, ◌∙◌, arith, if◌then◌else◌}
use Rattle.std.specs.Str.{bytes_eq}
use Rattle.std.specs.Str.Parse.{digits_value}
use Rattle.std.specs.List.{list_all}
use Rattle.std.proofs.lemmas.Bool.{leb-true}
use Rattle.coz_words.specs.Said.{Text}
use Rattle.coz_words.proofs.Agree.{both_true}
use Rattle.coz_words.proofs.Exact.{then_some, if_some}
use Rattle.experiment_plan.specs.Lists.{is_number, number_in, pieces}
use Rattle.timing_model.specs.declared.costs.Class.{Class}
use Rattle.timing_model.specs.declared.costs.Class.TheVariants.{Integer, Jump, Load, Multiply, Atomic, Divide, Ecall}
use Rattle.timing_model.specs.declared.costs.Costs.{Costs}
use Rattle.timing_model.specs.declared.timing.Timing.{Timing}
use Rattle.timing_model.specs.Timing.{usual, usual_costs, cost_of, IsCost, AreCosts, IsTiming}
use Rattle.timing_model.proofs.Usual.{usual_within}
use Rattle.gain_words.specs.declared.setting.Setting.{Setting}
use Rattle.gain_words.specs.declared.setting.Setting.TheVariants as settings
use Rattle.gain_words.specs.declared.slot.Slot.{Slot}
use Rattle.gain_words.specs.declared.slot.Slot.TheVariants.{Absent, Once, Wrong}
use Rattle.gain_words.specs.Slots.{fill, value_or}
use Rattle.gain_words.specs.Costs.{class_name, name_in, value_in, is_piece, number_of, cycles_in, with_piece, cost_in, costs_of, costs_in}
use Rattle.gain_words.specs.Words.{Given, no_words, scan_word, free_word, with_value, with_other, with_setting, setting_of, cores_in, slice_in, timing_of}

-- ---- slots

-- a value that the slot has, has this property
abbrev Holds : {A : Type 0} → (A → Type 0) → Slot A → Type 0
Holds P Absent = Unit {0}
Holds P (Once x) = P x
Holds P Wrong = Unit {0}

fill_holds : {A : Type 0} (P : A → Type 0) (slot : Slot A) (value : Option A) → ((x : A) → value ≡ Some x → P x) → Holds P (fill slot value)
fill_holds P Absent None right = tt
fill_holds P Absent (Some x) right = right x refl
fill_holds P (Once y) value right = tt
fill_holds P Wrong value right = tt

value_holds : {A : Type 0} (P : A → Type 0) (slot : Slot A) (default x : A) → Holds P slot → P default → value_or slot default ≡ Some x → P x
value_holds P Absent default x holds d e = let same : default ≡ x = cc in subst P same d
value_holds P (Once y) default x holds d e = let same : y ≡ x = cc in subst P same holds
value_holds P Wrong default x holds d e = absurd cc

in_range : (least most : ℕ) (text : Text) (n : ℕ) → number_in least most text ≡ Some n → (least ≤ n) × (n ≤ most)
in_range least most text n is =
    let value = digits_value 10 text in
    let test = if_some (is_number text && nat_le least value && nat_le value most) (Some value) n is in
    let outer = both_true (is_number text && nat_le least value) (nat_le value most) test.0 in
    let low = leb-true least value (both_true (is_number text) (nat_le least value) outer.0).1 in
    let high = leb-true value most outer.1 in
    let same : value ≡ n = cc (test.1) in
    (omega (arith, low, same), omega (arith, high, same))

-- ---- costs

number_fits : (value : Option Text) (n : ℕ) → number_of value ≡ Some n → IsCost n
number_fits value n e =
    let found = then_some value cycles_in n e in
    in_range 1 10000 found.0 n found.2

piece_holds : (class : Class) (slot : Slot ℕ) (piece : Text) → Holds IsCost slot → Holds IsCost (with_piece class slot piece)
piece_holds class slot piece holds = by (bytes_eq (name_in piece) (class_name class))
  where
    by : (b : Bool) → Holds IsCost (if b then fill slot (number_of (value_in piece)) else slot)
    by true = fill_holds IsCost slot (number_of (value_in piece)) (λ n e. number_fits (value_in piece) n e)
    by false = holds

pieces_hold : (class : Class) (texts : List Text) (slot : Slot ℕ) → Holds IsCost slot → Holds IsCost (fold (with_piece class) slot texts)
pieces_hold class [] slot holds = holds
pieces_hold class (text ∷ texts) slot holds = pieces_hold class texts (with_piece class slot text) (piece_holds class slot text holds)

cost_fits : (texts : List Text) (class : Class) (n : ℕ) → cost_in texts class ≡ Some n → IsCost n
cost_fits texts class n e =
    value_holds IsCost (fold (with_piece class) Absent texts) (cost_of usual_costs class) n (pieces_hold class texts Absent tt) (usual_within.costs class) e

-- the costs are those of the classes
pub costs_are : (cost : Class → Option ℕ) (costs : Costs) → costs_of cost ≡ Some costs → (class : Class) → cost class ≡ Some (cost_of costs class)
costs_are cost costs e =
    let integer = then_some (cost Integer) _ costs e in
    let jump = then_some (cost Jump) _ costs integer.2 in
    let load = then_some (cost Load) _ costs jump.2 in
    let multiply = then_some (cost Multiply) _ costs load.2 in
    let atomic = then_some (cost Atomic) _ costs multiply.2 in
    let divide = then_some (cost Divide) _ costs atomic.2 in
    let ecall = then_some (cost Ecall) _ costs divide.2 in
    let made : Costs = record { integer = integer.0; jump = jump.0; load = load.0; multiply = multiply.0; atomic = atomic.0; divide = divide.0; ecall = ecall.0 } in
    let some : Some made ≡ Some costs = ecall.2 in
    let same : made ≡ costs = cc in
    by made same integer.1 jump.1 load.1 multiply.1 atomic.1 divide.1 ecall.1
  where
    by : (made : Costs) → made ≡ costs → cost Integer ≡ Some made.integer → cost Jump ≡ Some made.jump → cost Load ≡ Some made.load → cost Multiply ≡ Some made.multiply
        → cost Atomic ≡ Some made.atomic → cost Divide ≡ Some made.divide → cost Ecall ≡ Some made.ecall → (class : Class) → cost class ≡ Some (cost_of costs class)
    by made same i j l m a d c Integer = i ∙ ap (λ (k : Costs). Some k.integer) same
    by made same i j l m a d c Jump = j ∙ ap (λ (k : Costs). Some k.jump) same
    by made same i j l m a d c Load = l ∙ ap (λ (k : Costs). Some k.load) same
    by made same i j l m a d c Multiply = m ∙ ap (λ (k : Costs). Some k.multiply) same
    by made same i j l m a d c Atomic = a ∙ ap (λ (k : Costs). Some k.atomic) same
    by made same i j l m a d c Divide = d ∙ ap (λ (k : Costs). Some k.divide) same
    by made same i j l m a d c Ecall = c ∙ ap (λ (k : Costs). Some k.ecall) same

costs_fit : (list : Text) (costs : Costs) → costs_in list ≡ Some costs → AreCosts costs
costs_fit list costs e class =
    let all = if_some (list_all is_piece (pieces list)) (costs_of (cost_in (pieces list))) costs e in
    cost_fits (pieces list) class (cost_of costs class) (costs_are (cost_in (pieces list)) costs all.1 class)

-- ---- a scan

abbrev IsCores : ℕ → Type 0
IsCores n = (1 ≤ n) × (n ≤ 256)

abbrev IsSlice : ℕ → Type 0
IsSlice n = (1 ≤ n) × (n ≤ 1000000000)

record IsRight (g : Given) : Type 0 where
  cores : Holds IsCores g.cores
  slice : Holds IsSlice g.slice
  costs : Holds AreCosts g.costs

value_right : (setting : Setting) (value : Text) (g : Given) → IsRight g → IsRight (with_value setting value g)
value_right settings.Cores value g right = record { cores = fill_holds IsCores g.cores (cores_in value) (λ n e. in_range 1 256 value n e); slice = right.slice; costs = right.costs }
value_right settings.Slice value g right = record { cores = right.cores; slice = fill_holds IsSlice g.slice (slice_in value) (λ n e. in_range 1 1000000000 value n e); costs = right.costs }
value_right settings.Costs value g right = record { cores = right.cores; slice = right.slice; costs = fill_holds AreCosts g.costs (costs_in value) (λ c e. costs_fit value c e) }
value_right settings.Charge value g right = record { cores = right.cores; slice = right.slice; costs = right.costs }
value_right settings.Seed value g right = record { cores = right.cores; slice = right.slice; costs = right.costs }

other_right : (word : Text) (g : Given) → IsRight g → IsRight (with_other word g)
other_right word g right = record { cores = right.cores; slice = right.slice; costs = right.costs }

setting_right : (setting : Setting) (value : Option Text) (g : Given) → IsRight g → IsRight (with_setting setting value g)
setting_right setting (Some value) g right = value_right setting value g right
setting_right setting None g right = record { cores = right.cores; slice = right.slice; costs = right.costs }

free_right : (g : Given) (word : Text) → IsRight g → IsRight (free_word g word)
free_right g word right = by (setting_of (name_in word))
  where
    by : (o : Option Setting) → IsRight (elim o [
      | Some setting ↦ with_setting setting (value_in word) g
      | None ↦ with_other word g
    ])
    by None = other_right word g right
    by (Some setting) = setting_right setting (value_in word) g right

word_right : (g : Given) (word : Text) → IsRight g → IsRight (scan_word g word)
word_right g word right = by g.wanting
  where
    by : (o : Option Setting) → IsRight (elim o [
      | Some setting ↦ with_value setting word g
      | None ↦ free_word g word
    ])
    by None = free_right g word right
    by (Some setting) = value_right setting word g right

all_right : (words : List Text) (g : Given) → IsRight g → IsRight (fold scan_word g words)
all_right [] g right = right
all_right (word ∷ words) g right = all_right words (scan_word g word) (word_right g word right)

-- ---- the machine

-- the machine is that of the options
pub record Machine (g : Given) (t : Timing) : Type 0 where
  pub cores : value_or g.cores usual.cores ≡ Some t.cores
  pub slice : value_or g.slice usual.slice ≡ Some t.slice
  pub costs : value_or g.costs usual.costs ≡ Some t.costs
  pub charge : value_or g.charge usual.charge ≡ Some t.charge
  pub seed : value_or g.seed usual.seed ≡ Some t.seed

pub machine : (g : Given) (t : Timing) → timing_of g ≡ Some t → Machine g t
machine g t e =
    let cores = then_some (value_or g.cores usual.cores) _ t e in
    let slice = then_some (value_or g.slice usual.slice) _ t cores.2 in
    let costs = then_some (value_or g.costs usual.costs) _ t slice.2 in
    let charge = then_some (value_or g.charge usual.charge) _ t costs.2 in
    let seed = then_some (value_or g.seed usual.seed) _ t charge.2 in
    let made : Timing = record { cores = cores.0; slice = slice.0; costs = costs.0; charge = charge.0; seed = seed.0 } in
    let some : Some made ≡ Some t = seed.2 in
    let same : made ≡ t = cc in
    record {
      cores = cores.1 ∙ ap (λ (u : Timing). Some u.cores) same;
      slice = slice.1 ∙ ap (λ (u : Timing). Some u.slice) same;
      costs = costs.1 ∙ ap (λ (u : Timing). Some u.costs) same;
      charge = charge.1 ∙ ap (λ (u : Timing). Some u.charge) same;
      seed = seed.1 ∙ ap (λ (u : Timing). Some u.seed) same;
    }

pub machine_is : (g : Given) (t : Timing) → Machine g t → timing_of g ≡ Some t
machine_is g t m = rw (m.cores, m.slice, m.costs, m.charge, m.seed) refl

machine_within : (g : Given) (t : Timing) → IsRight g → Machine g t → IsTiming t
machine_within g t right m =
    let cores = value_holds IsCores g.cores usual.cores t.cores right.cores (usual_within.some_core, usual_within.few_cores) m.cores in
    let slice = value_holds IsSlice g.slice usual.slice t.slice right.slice (usual_within.some_slice, usual_within.short_slice) m.slice in
    record {
      some_core = cores.0;
      few_cores = cores.1;
      some_slice = slice.0;
      short_slice = slice.1;
      costs = value_holds AreCosts g.costs usual.costs t.costs right.costs usual_within.costs m.costs;
    }

pub timing_within : (words : List Text) (t : Timing) → timing_of (fold scan_word no_words words) ≡ Some t → IsTiming t
timing_within words t e =
    let g : Given = fold scan_word no_words words in
    machine_within g t (all_right words no_words (record { cores = tt; slice = tt; costs = tt })) (machine g t e)
