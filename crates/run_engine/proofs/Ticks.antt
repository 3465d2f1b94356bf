-- What the instructions of a machine take at most, and how late a run of it comes.
use Rattle.std.proofs.Common.{◌≡◌, ℕ, ◌+◌, ◌*◌, ◌-◌, ◌^◌, ◌≤◌, ◌<◌, Bool, true, false, if◌then◌else◌, ◌==◌, Option, Some, None, pos, refl, sym, ap, arith, mul-le-mul, mul_comm, add-mul, eqb-true, ◌⊎◌, inl, inr}
use Rattle.rv_decode.specs.declared.Instr.{Instr}
use Rattle.rv_decode.specs.declared.Instr.TheVariants.{Load, Reg, Atomic, Fence, Ecall}
use Rattle.rv_decode.specs.declared.LoadOp.TheVariants.{Lb}
use Rattle.rv_decode.specs.declared.AtomicOp.TheVariants.{Lr}
use Rattle.rv_decode.specs.declared.RegOp.TheVariants.{Mul, Div}
use Rattle.cost_table.specs.Costs.{cycles_of}
use Rattle.cost_table.proofs.ByOpcode.{few_cycles}
use Rattle.timing_laws.specs.Noted.{note_of, is_doubled}
use Rattle.timing_model.specs.declared.costs.Class.{Class}
use Rattle.timing_model.specs.declared.costs.Class.TheVariants as classes
use Rattle.timing_model.specs.declared.costs.Costs.{Costs}
use Rattle.timing_model.specs.declared.timing.Timing.{Timing}
use Rattle.timing_model.specs.Timing.{class_of, cost_of, cycles_in, IsTiming, IsUsual}
use Rattle.timing_steps.specs.Ticks.{timed_cycles, timed_ticks}
use Rattle.timed_guest.specs.Guest.{Timed}
use Rattle.timed_guest.specs.Retire.{next_of, cycles_of_next}
use Rattle.timed_guest.proofs.Alone.{single_cycles}
use Rattle.run_engine.specs.declared.choice.Setting.{Setting}
use Rattle.run_engine.specs.Begin.{last_moment}
use Rattle.run_engine.specs.Run.{IsMachine, is_selected_in, ticks_in}
use Rattle.run_engine.specs.Engine.{most_cost, most_ticks}

-- a class costs no more than the dearest
class_few : (costs : Costs) (class : Class) → cost_of costs class ≤ most_cost costs
class_few costs classes.Integer = omega arith
class_few costs classes.Jump = omega arith
class_few costs classes.Load = omega arith
class_few costs classes.Multiply = omega arith
class_few costs classes.Atomic = omega arith
class_few costs classes.Divide = omega arith
class_few costs classes.Ecall = omega arith

doubled_few : (b : Bool) (c : ℕ) → (if b then 2 * c else c) ≤ 2 * c
doubled_few true c = omega arith
doubled_few false c = omega arith

seeded_few : (costs : Costs) (seed h count : ℕ) (i : Option Instr) (most : ℕ) → cycles_in costs i ≤ most → (none : Bool) → (seed == 0) ≡ none
    → 100 * timed_cycles costs seed h count i ≤ (if none then 100 * most else 200 * most)
seeded_few costs seed h count i most few true e =
    let is : timed_cycles costs seed h count i ≡ cycles_in costs i = single_cycles costs seed h count i (eqb-true seed 0 e) in
    omega (arith, is, few)
seeded_few costs seed h count i most few false e =
    let more : timed_cycles costs seed h count i ≤ 2 * cycles_in costs i = doubled_few (is_doubled seed h count) (cycles_in costs i) in
    omega (arith, more, few)

-- the ticks of a hart's next instruction as a whole
pub whole_few : (t : Timed) (h : ℕ) → 100 * cycles_of_next t h ≤ most_ticks t.beside.timing
whole_few t h =
    let m = t.beside.timing in
    seeded_few m.costs m.seed h (note_of t.beside.notes h).count (next_of t h) (most_cost m.costs) (class_few m.costs (class_of (next_of t h))) (m.seed == 0) refl

less_of : (c r : ℕ) → r ≤ 100 → c * r ≤ 100 * c
less_of c r less = let fewer : c * r ≤ c * 100 = mul-le-mul (let same : c ≤ c = omega arith in same) less in let turned : c * 100 ≡ 100 * c = mul_comm c 100 in omega (arith, fewer, turned)

part_few : (b : Bool) (c s : ℕ) → timed_ticks c b s ≤ 100 * c
part_few true c s = let less : 100 - s ≤ 100 = omega arith in less_of c (100 - s) less
part_few false c s = omega arith

pub ticks_few : (setting : Setting) (t : Timed) (h : ℕ) → ticks_in setting t h ≤ most_ticks t.beside.timing
ticks_few setting t h =
    let part : ticks_in setting t h ≤ 100 * cycles_of_next t h = part_few (is_selected_in setting t h) (cycles_of_next t h) setting.choice.speedup in
    let whole : 100 * cycles_of_next t h ≤ most_ticks t.beside.timing = whole_few t h in
    omega (arith, part, whole)

-- on a machine of the timing model
seeded_small : (most : ℕ) (none : Bool) → most ≤ 10000 → (if none then 100 * most else 200 * most) ≤ 2000000
seeded_small most true few = omega arith
seeded_small most false few = omega arith

pub timed_small : (t : Timing) → IsTiming t → most_ticks t ≤ 2000000
timed_small t is =
    let few : most_cost t.costs ≤ 10000 =
    let a = (is.costs classes.Integer).1 in
    let b = (is.costs classes.Jump).1 in
    let c = (is.costs classes.Load).1 in
    let d = (is.costs classes.Multiply).1 in
    let e = (is.costs classes.Atomic).1 in
    let f = (is.costs classes.Divide).1 in
    let g = (is.costs classes.Ecall).1 in
    omega (arith, a, b, c, d, e, f, g) in
    seeded_small (most_cost t.costs) (t.seed == 0) few

-- and on the usual one
few_of : (costs : Costs) → ((i : Option Instr) → cycles_in costs i ≡ cycles_of i) → (i : Option Instr) → cycles_in costs i ≤ 40
few_of costs same i = let is = same i in let few = few_cycles i in omega (arith, is, few)

pub usual_small : (t : Timing) → IsUsual t → most_ticks t ≤ 4000
usual_small t usual =
    let few : most_cost t.costs ≤ 40 =
    let a = few_of t.costs usual.costs None in
    let b = few_of t.costs usual.costs (Some (Fence 0 0 0)) in
    let c = few_of t.costs usual.costs (Some (Load Lb 0 0 (pos 0))) in
    let d = few_of t.costs usual.costs (Some (Reg Mul 0 0 0)) in
    let e = few_of t.costs usual.costs (Some (Atomic Lr false false false 0 0 0)) in
    let f = few_of t.costs usual.costs (Some (Reg Div 0 0 0)) in
    let g = few_of t.costs usual.costs (Some Ecall) in
    omega (arith, a, b, c, d, e, f, g) in
    rw usual.seed (let four : 100 * most_cost t.costs ≤ 4000 = omega (arith, few) in four)

-- so many instructions of a machine take few ticks, or are few
pub machine_small : (t : Timing) (budget : ℕ) → IsMachine t budget → (most_ticks t ≤ 4000) ⊎ ((most_ticks t ≤ 2000000) × (budget ≤ 10 ^ 10))
machine_small t budget machine = go (cases_le budget)
  where
    cases_le : (n : ℕ) → (n ≤ 10 ^ 10) ⊎ (10 ^ 10 < n)
    cases_le n = grind arith

    go : (budget ≤ 10 ^ 10) ⊎ (10 ^ 10 < budget) → (most_ticks t ≤ 4000) ⊎ ((most_ticks t ≤ 2000000) × (budget ≤ 10 ^ 10))
    go (inl few) = inr (timed_small t machine.timing, few)
    go (inr long) = inl (usual_small t (machine.long long))

times_few : (m most n : ℕ) → m ≤ most → m * n ≤ most * n
times_few m most n few = mul-le-mul few (let same : n ≤ n = omega arith in same)

-- twice as many events as the budget has instructions, and some more
pub times_small : (t : Timing) (budget n : ℕ) → IsMachine t budget → budget ≤ 10 ^ 12 → n ≤ 2 * budget + 257 → most_ticks t * n ≤ 5 * 10 ^ 16
times_small t budget n machine long few = go (machine_small t budget machine)
  where
    go : (most_ticks t ≤ 4000) ⊎ ((most_ticks t ≤ 2000000) × (budget ≤ 10 ^ 10)) → most_ticks t * n ≤ 5 * 10 ^ 16
    go (inl small) = let all : most_ticks t * n ≤ 4000 * n = times_few (most_ticks t) 4000 n small in let most : 4000 * n ≤ 5 * 10 ^ 16 = omega (arith, long, few) in omega (arith, all, most)
    go (inr is) = let all : most_ticks t * n ≤ 2000000 * n = times_few (most_ticks t) 2000000 n is.0 in let most : 2000000 * n ≤ 5 * 10 ^ 16 = omega (arith, is.1, few) in omega (arith, all, most)

-- each event is due in time
pub in_time : (t : Timing) (budget n : ℕ) → IsMachine t budget → budget ≤ 10 ^ 12 → n ≤ 2 * budget → 10 ^ 16 + most_ticks t * (n + 1) ≤ last_moment
in_time t budget n machine long few =
    let all : most_ticks t * (n + 1) ≤ 5 * 10 ^ 16 = times_small t budget (n + 1) machine long (omega (arith, few)) in
    omega (arith, all)

-- one event more
pub one_later : (m n next : ℕ) → next ≡ n + 1 → 10 ^ 16 + m * (n + 1) + m ≡ 10 ^ 16 + m * (next + 1)
one_later m n next is =
    let parts : (n + 1 + 1) * m ≡ (n + 1) * m + 1 * m = add-mul (n + 1) 1 m in
    let left : m * (n + 1) ≡ (n + 1) * m = mul_comm m (n + 1) in
    let right : m * (n + 1 + 1) ≡ (n + 1 + 1) * m = mul_comm m (n + 1 + 1) in
    let sum : m * (n + 1) + m ≡ m * (n + 1 + 1) = omega (arith, parts, left, right) in
    let later : m * (n + 1 + 1) ≡ m * (next + 1) = ap (λ (k : ℕ). m * (k + 1)) (sym is) in
    omega (arith, sum, later)
