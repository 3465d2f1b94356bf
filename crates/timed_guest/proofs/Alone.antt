-- The usual machine, on which the guest is as it is alone.
use Rattle.std.proofs.Common.{◌≡◌, ℕ, ◌*◌, ◌≤◌, ◌==◌, Bool, true, false, not, ◌&&◌, ◌||◌, nat_lt, if◌then◌else◌, pos, Option, Some, None, refl, sym, ap, ◌∙◌, subst, arith, eq-eqb, eqb-true}
use Rattle.std.specs.Prelude.{IsTrue, ◌↔◌}
use Rattle.std.proofs.lemmas.Bool.{and_parts}
use Rattle.rv_decode.specs.declared.Instr.{Instr}
use Rattle.rv_decode.specs.declared.Instr.TheVariants.{Load, Reg, Atomic, Fence, Ecall}
use Rattle.rv_decode.specs.declared.LoadOp.TheVariants.{Lb}
use Rattle.rv_decode.specs.declared.AtomicOp.TheVariants.{Lr}
use Rattle.rv_decode.specs.declared.RegOp.TheVariants.{Mul, Div}
use Rattle.cost_table.specs.Costs.{cycles_of}
use Rattle.guest_calls.specs.Guest as guests
use Rattle.timing_laws.specs.Noted.{is_doubled, is_charged, note_of}
use Rattle.timing_model.specs.declared.costs.Costs.{Costs}
use Rattle.timing_model.specs.declared.timing.Timing.{Timing}
use Rattle.timing_model.specs.Timing.{charges, cycles_in, IsUsual}
use Rattle.timing_steps.specs.State.{keeps}
use Rattle.timing_steps.specs.Ticks.{timed_cycles}
use Rattle.timed_guest.specs.Guest.{Timed, line_at, pc_of, is_in_line}
use Rattle.timed_guest.specs.Retire.{has_selected, next_of}
use Rattle.timed_guest.specs.Laws.{IsGuestAlone}
use Rattle.timed_guest.proofs.Steps.{retires_plain, wakes_plain, out_of_line}

-- such a machine keeps nothing
enough_cores : (cores : ℕ) → 256 ≤ cores → nat_lt cores 256 ≡ false
enough_cores cores few = grind arith

none_of : (a b c : Bool) → a ≡ false → b ≡ false → c ≡ true → ((a || b) || not c) ≡ false
none_of a b c e f g = grind arith

is_zero : (n : ℕ) → n ≡ 0 → (n == 0) ≡ true
is_zero n none = ap (λ (k : ℕ). k == 0) none

pub keeps_none : (t : Timing) → IsUsual t → keeps t ≡ false
keeps_none t usual = none_of (nat_lt t.cores 256) (charges t.charge) (t.seed == 0) (enough_cores t.cores usual.cores) usual.charge (is_zero t.seed usual.seed)

-- without a seed nothing is doubled
none_doubled : (seed h count : ℕ) → seed ≡ 0 → is_doubled seed h count ≡ false
unfolding is_doubled
none_doubled seed h count none = ap (λ s. is_doubled s h count) none

pub single_cycles : (costs : Costs) (seed h count : ℕ) (i : Option Instr) → seed ≡ 0 → timed_cycles costs seed h count i ≡ cycles_in costs i
single_cycles costs seed h count i none = ap (λ (b : Bool). if b then 2 * cycles_in costs i else cycles_in costs i) (none_doubled seed h count none)

or_none : (a : Bool) → (a || false) ≡ a
or_none true = refl
or_none false = refl

pub uncharged : (a b c : Bool) → b ≡ false → (a || (b && c)) ≡ a
uncharged a b c none = ap (λ (d : Bool). a || (d && c)) none ∙ or_none a

pub guest_alone : (t : Timed) → IsUsual t.beside.timing → IsGuestAlone t
guest_alone t usual =
    let none : keeps t.beside.timing ≡ false = keeps_none t.beside.timing usual in
    record {
      retires = λ h v. retires_plain t h v none;
      wakes = λ h. wakes_plain t h none;
      cycles = λ h. single_cycles t.beside.timing.costs t.beside.timing.seed h (note_of t.beside.notes h).count (next_of t h) usual.seed ∙ usual.costs (next_of t h);
      selected = λ selected h. uncharged (has_selected selected (line_at t) (pc_of t h)) (charges t.beside.timing.charge) (is_charged (line_at t (pc_of t h)) (note_of t.beside.notes h).last selected) usual.charge;
      running = λ good h. out_of_line (guests.is_running t.guest h) (is_in_line t h) (good.nobody none h);
      sleeping = λ good h. out_of_line (guests.is_sleeping t.guest h) (is_in_line t h) (good.nobody none h);
    }

-- costs that are the usual ones in each class
abbrev costs_by : ℕ → ℕ → ℕ → ℕ → ℕ → ℕ → ℕ → Costs
costs_by integer jump load multiply atomic divide ecall = record { integer = integer; jump = jump; load = load; multiply = multiply; atomic = atomic; divide = divide; ecall = ecall }

pub same_costs : (a b : Costs) → ((i : Option Instr) → cycles_in a i ≡ cycles_of i) → ((i : Option Instr) → cycles_in b i ≡ cycles_of i) → a ≡ b
same_costs a b p q =
    let each = λ (i : Option Instr). p i ∙ sym (q i) in
    ap (λ (n : ℕ). costs_by n a.jump a.load a.multiply a.atomic a.divide a.ecall) (each None)
    ∙ ap (λ (n : ℕ). costs_by b.integer n a.load a.multiply a.atomic a.divide a.ecall) (each (Some (Fence 0 0 0)))
    ∙ ap (λ (n : ℕ). costs_by b.integer b.jump n a.multiply a.atomic a.divide a.ecall) (each (Some (Load Lb 0 0 (pos 0))))
    ∙ ap (λ (n : ℕ). costs_by b.integer b.jump b.load n a.atomic a.divide a.ecall) (each (Some (Reg Mul 0 0 0)))
    ∙ ap (λ (n : ℕ). costs_by b.integer b.jump b.load b.multiply n a.divide a.ecall) (each (Some (Atomic Lr false false false 0 0 0)))
    ∙ ap (λ (n : ℕ). costs_by b.integer b.jump b.load b.multiply b.atomic n a.ecall) (each (Some (Reg Div 0 0 0)))
    ∙ ap (λ (n : ℕ). costs_by b.integer b.jump b.load b.multiply b.atomic b.divide n) (each (Some Ecall))

-- compared field by field
abbrev pub are_equal : Costs → Costs → Bool
are_equal a b = (a.integer == b.integer) && ((a.jump == b.jump) && ((a.load == b.load) && ((a.multiply == b.multiply) && ((a.atomic == b.atomic) && ((a.divide == b.divide) && (a.ecall == b.ecall))))))

equal_costs : (a b : Costs) → are_equal a b ≡ true → a ≡ b
equal_costs a b e =
    let integer = and_parts _ _ e in
    let jump = and_parts _ _ integer.1 in
    let load = and_parts _ _ jump.1 in
    let multiply = and_parts _ _ load.1 in
    let atomic = and_parts _ _ multiply.1 in
    let divide = and_parts _ _ atomic.1 in
    ap (λ (n : ℕ). costs_by n a.jump a.load a.multiply a.atomic a.divide a.ecall) (eqb-true a.integer b.integer integer.0)
    ∙ ap (λ (n : ℕ). costs_by b.integer n a.load a.multiply a.atomic a.divide a.ecall) (eqb-true a.jump b.jump jump.0)
    ∙ ap (λ (n : ℕ). costs_by b.integer b.jump n a.multiply a.atomic a.divide a.ecall) (eqb-true a.load b.load load.0)
    ∙ ap (λ (n : ℕ). costs_by b.integer b.jump b.load n a.atomic a.divide a.ecall) (eqb-true a.multiply b.multiply multiply.0)
    ∙ ap (λ (n : ℕ). costs_by b.integer b.jump b.load b.multiply n a.divide a.ecall) (eqb-true a.atomic b.atomic atomic.0)
    ∙ ap (λ (n : ℕ). costs_by b.integer b.jump b.load b.multiply b.atomic n a.ecall) (eqb-true a.divide b.divide divide.0)
    ∙ ap (λ (n : ℕ). costs_by b.integer b.jump b.load b.multiply b.atomic b.divide n) (eqb-true a.ecall b.ecall divide.1)

equal_self : (a : Costs) → are_equal a a ≡ true
equal_self a = rw (eq-eqb a.integer a.integer refl, eq-eqb a.jump a.jump refl, eq-eqb a.load a.load refl, eq-eqb a.multiply a.multiply refl, eq-eqb a.atomic a.atomic refl, eq-eqb a.divide a.divide refl, eq-eqb a.ecall a.ecall refl) refl

-- costs are the usual ones exactly if they equal usual ones
pub usual_by : (a b : Costs) (answer : Bool) → ((i : Option Instr) → cycles_in b i ≡ cycles_of i) → answer ≡ are_equal a b → IsTrue answer ↔ ((i : Option Instr) → cycles_in a i ≡ cycles_of i)
usual_by a b answer usual is = (
  λ yes i. ap (λ (d : Costs). cycles_in d i) (equal_costs a b (sym is ∙ yes)) ∙ usual i,
  λ all. is ∙ subst (λ (d : Costs). are_equal a d ≡ true) (same_costs a b all usual) (equal_self a),
)
