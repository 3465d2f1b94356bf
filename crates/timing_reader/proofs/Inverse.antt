-- The reader is the inverse of the writer.
use Rattle.std.proofs.Common.{◌≡◌, ◌↔◌, ℕ, ◌≤◌, Bool, true, false, not, ◌&&◌, ◌==◌, [], ◌++◌, codes, decimal, Option, Some, None, option_and_then, refl, sym, ap, ◌∙◌, subst, arith, append_assoc, if◌then◌else◌}
use Rattle.std.proofs.lemmas.Bool.{eqb-true}
use Rattle.coz_types.specs.Labels.{Text}
use Rattle.coz_types.specs.Ranges.{last_word}
use Rattle.timing_model.specs.declared.costs.Class.TheVariants as classes
use Rattle.timing_model.specs.declared.costs.Costs.{Costs}
use Rattle.timing_model.specs.declared.timing.Charge.{Charge}
use Rattle.timing_model.specs.declared.timing.Charge.TheVariants.{Nobody, Last}
use Rattle.timing_model.specs.declared.timing.Timing.{Timing}
use Rattle.timing_model.specs.Timing.{usual, usual_costs, charges, IsCost, AreCosts, IsTiming}
use Rattle.timing_model.proofs.Usual.{usual_within}
use Rattle.profile_book.specs.Profile.{field, number_field}
use Rattle.timing_line.specs.Line.{charge_name, next_cost, costs_text, timing_line, is_usual, are_usual}
use Rattle.timing_reader.specs.Reading.{after, named_number, cost_after, costs_after, charge_after, timing_after, unusual, has_line, read_timing, IsRead}
use Rattle.timing_reader.proofs.Numbers.{then_some, after_forth, after_back, named_forth, named_on, stops}

-- ---- what is written, with the text after it

abbrev number_with : Text → ℕ → Text → Text
number_with name n rest = name ++ (decimal n ++ rest)

abbrev costs_with : Costs → Text → Text
costs_with c rest =
    number_with (codes "\tcosts=") c.integer (number_with (codes ",") c.jump (number_with (codes ",") c.load (number_with (codes ",") c.multiply
    (number_with (codes ",") c.atomic (number_with (codes ",") c.divide (number_with (codes ",") c.ecall rest))))))

abbrev charge_with : Charge → Text → Text
charge_with Nobody rest = codes "\tcharge=none" ++ rest
charge_with Last rest = codes "\tcharge=last" ++ rest

abbrev line_with : Timing → Text → Text
line_with t rest =
    number_with (codes "coz-timing\tversion=1\tcores=") t.cores (number_with (codes "\tslice=") t.slice
    (costs_with t.costs (charge_with t.charge (number_with (codes "\tseed=") t.seed (codes "\n" ++ rest)))))

-- a name and a number after more
peel : (before name : Text) (n : ℕ) (rest : Text) → (before ++ (name ++ decimal n)) ++ rest ≡ before ++ number_with name n rest
peel before name n rest =
    append_assoc before (name ++ decimal n) rest ∙ ap (λ (t : Text). before ++ t) (append_assoc name (decimal n) rest)

abbrev to_integer : Costs → Text
to_integer c = number_field (codes "costs") c.integer

abbrev to_jump : Costs → Text
to_jump c = to_integer c ++ next_cost c.jump

abbrev to_load : Costs → Text
to_load c = to_jump c ++ next_cost c.load

abbrev to_multiply : Costs → Text
to_multiply c = to_load c ++ next_cost c.multiply

abbrev to_atomic : Costs → Text
to_atomic c = to_multiply c ++ next_cost c.atomic

abbrev to_divide : Costs → Text
to_divide c = to_atomic c ++ next_cost c.divide

costs_written : (c : Costs) (rest : Text) → costs_text c ++ rest ≡ costs_with c rest
costs_written c rest =
    peel (to_divide c) (codes ",") c.ecall rest
    ∙ peel (to_atomic c) (codes ",") c.divide _
    ∙ peel (to_multiply c) (codes ",") c.atomic _
    ∙ peel (to_load c) (codes ",") c.multiply _
    ∙ peel (to_jump c) (codes ",") c.load _
    ∙ peel (to_integer c) (codes ",") c.jump _
    ∙ append_assoc (codes "\tcosts=") (decimal c.integer) _

charge_written : (charge : Charge) (rest : Text) → field (codes "charge") (charge_name charge) ++ rest ≡ charge_with charge rest
charge_written Nobody rest = refl
charge_written Last rest = refl

abbrev to_version : Text
to_version = codes "coz-timing" ++ field (codes "version") (codes "1")

abbrev to_cores : Timing → Text
to_cores t = to_version ++ number_field (codes "cores") t.cores

abbrev to_slice : Timing → Text
to_slice t = to_cores t ++ number_field (codes "slice") t.slice

abbrev to_costs : Timing → Text
to_costs t = to_slice t ++ costs_text t.costs

abbrev to_charge : Timing → Text
to_charge t = to_costs t ++ field (codes "charge") (charge_name t.charge)

abbrev to_seed : Timing → Text
to_seed t = to_charge t ++ number_field (codes "seed") t.seed

written : (t : Timing) (rest : Text) → timing_line t ++ rest ≡ line_with t rest
written t rest =
    let end : Text = codes "\n" ++ rest in
    let seed : Text = number_with (codes "\tseed=") t.seed end in
    let charge : Text = charge_with t.charge seed in
    append_assoc (to_seed t) (codes "\n") rest
    ∙ peel (to_charge t) (codes "\tseed=") t.seed end
    ∙ append_assoc (to_costs t) (field (codes "charge") (charge_name t.charge)) seed
    ∙ ap (λ (s : Text). to_costs t ++ s) (charge_written t.charge seed)
    ∙ append_assoc (to_slice t) (costs_text t.costs) charge
    ∙ ap (λ (s : Text). to_slice t ++ s) (costs_written t.costs charge)
    ∙ peel (to_cores t) (codes "\tslice=") t.slice (costs_with t.costs charge)
    ∙ peel to_version (codes "\tcores=") t.cores (number_with (codes "\tslice=") t.slice (costs_with t.costs charge))

-- ---- the reader, value by value

abbrev after_ecall : ℕ → ℕ → ℕ → ℕ → ℕ → ℕ → ℕ × Text → Option (Costs × Text)
after_ecall i j l m a d e = Some (record { integer = i; jump = j; load = l; multiply = m; atomic = a; divide = d; ecall = e.0 }, e.1)

abbrev after_divide : ℕ → ℕ → ℕ → ℕ → ℕ → ℕ × Text → Option (Costs × Text)
after_divide i j l m a d = option_and_then (after_ecall i j l m a d.0) (cost_after (codes ",") d.1)

abbrev after_atomic : ℕ → ℕ → ℕ → ℕ → ℕ × Text → Option (Costs × Text)
after_atomic i j l m a = option_and_then (after_divide i j l m a.0) (cost_after (codes ",") a.1)

abbrev after_multiply : ℕ → ℕ → ℕ → ℕ × Text → Option (Costs × Text)
after_multiply i j l m = option_and_then (after_atomic i j l m.0) (cost_after (codes ",") m.1)

abbrev after_load : ℕ → ℕ → ℕ × Text → Option (Costs × Text)
after_load i j l = option_and_then (after_multiply i j l.0) (cost_after (codes ",") l.1)

abbrev after_jump : ℕ → ℕ × Text → Option (Costs × Text)
after_jump i j = option_and_then (after_load i j.0) (cost_after (codes ",") j.1)

abbrev after_integer : ℕ × Text → Option (Costs × Text)
after_integer i = option_and_then (after_jump i.0) (cost_after (codes ",") i.1)

abbrev after_end : Timing → Text → Option (Timing × Text)
after_end t rest = Some (t, rest)

abbrev after_seed : ℕ → ℕ → Costs → Charge → ℕ × Text → Option (Timing × Text)
after_seed cores slice costs charge seed =
    option_and_then (after_end (record { cores = cores; slice = slice; costs = costs; charge = charge; seed = seed.0 })) (after (codes "\n") seed.1)

abbrev after_charge : ℕ → ℕ → Costs → Charge × Text → Option (Timing × Text)
after_charge cores slice costs charge =
    option_and_then (after_seed cores slice costs charge.0) (named_number (codes "\tseed=") 0 last_word charge.1)

abbrev after_costs : ℕ → ℕ → Costs × Text → Option (Timing × Text)
after_costs cores slice costs = option_and_then (after_charge cores slice costs.0) (charge_after costs.1)

abbrev after_slice : ℕ → ℕ × Text → Option (Timing × Text)
after_slice cores slice = option_and_then (after_costs cores slice.0) (costs_after slice.1)

abbrev after_cores : ℕ × Text → Option (Timing × Text)
after_cores cores = option_and_then (after_slice cores.0) (named_number (codes "\tslice=") 1 1000000000 cores.1)

-- ---- from the writer to the reader

cost_back : (name : Text) (n : ℕ) (rest : Text) → IsCost n → stops rest ≡ true → cost_after name (number_with name n rest) ≡ Some (n, rest)
cost_back name n rest is e = named_on name 1 10000 n rest (omega arith) is.0 is.1 e

costs_back : (c : Costs) (rest : Text) → AreCosts c → stops rest ≡ true → costs_after (costs_with c rest) ≡ Some (c, rest)
costs_back c rest are e =
    let divide_on : Text = number_with (codes ",") c.ecall rest in
    let atomic_on : Text = number_with (codes ",") c.divide divide_on in
    let multiply_on : Text = number_with (codes ",") c.atomic atomic_on in
    let load_on : Text = number_with (codes ",") c.multiply multiply_on in
    let jump_on : Text = number_with (codes ",") c.load load_on in
    let integer_on : Text = number_with (codes ",") c.jump jump_on in
    let ecall = cost_back (codes ",") c.ecall rest (are classes.Ecall) e in
    let divide = cost_back (codes ",") c.divide divide_on (are classes.Divide) refl in
    let atomic = cost_back (codes ",") c.atomic atomic_on (are classes.Atomic) refl in
    let multiply = cost_back (codes ",") c.multiply multiply_on (are classes.Multiply) refl in
    let load = cost_back (codes ",") c.load load_on (are classes.Load) refl in
    let jump = cost_back (codes ",") c.jump jump_on (are classes.Jump) refl in
    let integer = cost_back (codes "\tcosts=") c.integer integer_on (are classes.Integer) refl in
    ap (λ o. option_and_then after_integer o) integer
    ∙ ap (λ o. option_and_then (after_jump c.integer) o) jump
    ∙ ap (λ o. option_and_then (after_load c.integer c.jump) o) load
    ∙ ap (λ o. option_and_then (after_multiply c.integer c.jump c.load) o) multiply
    ∙ ap (λ o. option_and_then (after_atomic c.integer c.jump c.load c.multiply) o) atomic
    ∙ ap (λ o. option_and_then (after_divide c.integer c.jump c.load c.multiply c.atomic) o) divide
    ∙ ap (λ o. option_and_then (after_ecall c.integer c.jump c.load c.multiply c.atomic c.divide) o) ecall

charge_stops : (charge : Charge) (rest : Text) → stops (charge_with charge rest) ≡ true
charge_stops Nobody rest = refl
charge_stops Last rest = refl

charge_back : (charge : Charge) (rest : Text) → charge_after (charge_with charge rest) ≡ Some (charge, rest)
charge_back Nobody rest = refl
charge_back Last rest = refl

line_back : (t : Timing) (rest : Text) → IsTiming t → t.seed ≤ last_word → timing_after (line_with t rest) ≡ Some (t, rest)
line_back t rest is small =
    let end : Text = codes "\n" ++ rest in
    let seed_on : Text = number_with (codes "\tseed=") t.seed end in
    let charge_on : Text = charge_with t.charge seed_on in
    let costs_on : Text = costs_with t.costs charge_on in
    let slice_on : Text = number_with (codes "\tslice=") t.slice costs_on in
    let cores = named_on (codes "coz-timing\tversion=1\tcores=") 1 256 t.cores slice_on (omega arith) is.some_core is.few_cores refl in
    let slice = named_on (codes "\tslice=") 1 1000000000 t.slice costs_on (omega arith) is.some_slice is.short_slice refl in
    let costs = costs_back t.costs charge_on is.costs (charge_stops t.charge seed_on) in
    let charge = charge_back t.charge seed_on in
    let seed = named_on (codes "\tseed=") 0 last_word t.seed end (omega arith) (omega arith) small refl in
    ap (λ o. option_and_then after_cores o) cores
    ∙ ap (λ o. option_and_then (after_slice t.cores) o) slice
    ∙ ap (λ o. option_and_then (after_costs t.cores t.slice) o) costs
    ∙ ap (λ o. option_and_then (after_charge t.cores t.slice t.costs) o) charge
    ∙ ap (λ o. option_and_then (after_seed t.cores t.slice t.costs t.charge) o) seed
    ∙ ap (λ o. option_and_then (after_end t) o) (after_back (codes "\n") rest)

-- ---- from the reader to the writer

record CostsRead (text : Text) (c : Costs) (rest : Text) : Type 0 where
  whole : text ≡ costs_with c rest
  within : AreCosts c

costs_whole : (c : Costs) (t i j l m a d e : Text) → t ≡ number_with (codes "\tcosts=") c.integer i → i ≡ number_with (codes ",") c.jump j → j ≡ number_with (codes ",") c.load l
    → l ≡ number_with (codes ",") c.multiply m → m ≡ number_with (codes ",") c.atomic a → a ≡ number_with (codes ",") c.divide d → d ≡ number_with (codes ",") c.ecall e → t ≡ costs_with c e
costs_whole c t i j l m a d e ti ij jl lm ma ad de =
    ti
    ∙ ap (λ (u : Text). number_with (codes "\tcosts=") c.integer u) (ij
    ∙ ap (λ (u : Text). number_with (codes ",") c.jump u) (jl
    ∙ ap (λ (u : Text). number_with (codes ",") c.load u) (lm
    ∙ ap (λ (u : Text). number_with (codes ",") c.multiply u) (ma
    ∙ ap (λ (u : Text). number_with (codes ",") c.atomic u) (ad
    ∙ ap (λ (u : Text). number_with (codes ",") c.divide u) de)))))

costs_forth : (text : Text) (x : Costs × Text) → costs_after text ≡ Some x → CostsRead text x.0 x.1
costs_forth text x e =
    let i = then_some (cost_after (codes "\tcosts=") text) after_integer x e in
    let j = then_some (cost_after (codes ",") i.0.1) (after_jump i.0.0) x i.2 in
    let l = then_some (cost_after (codes ",") j.0.1) (after_load i.0.0 j.0.0) x j.2 in
    let m = then_some (cost_after (codes ",") l.0.1) (after_multiply i.0.0 j.0.0 l.0.0) x l.2 in
    let a = then_some (cost_after (codes ",") m.0.1) (after_atomic i.0.0 j.0.0 l.0.0 m.0.0) x m.2 in
    let d = then_some (cost_after (codes ",") a.0.1) (after_divide i.0.0 j.0.0 l.0.0 m.0.0 a.0.0) x a.2 in
    let c = then_some (cost_after (codes ",") d.0.1) (after_ecall i.0.0 j.0.0 l.0.0 m.0.0 a.0.0 d.0.0) x d.2 in
    let ni = named_forth (codes "\tcosts=") 1 10000 text i.0 i.1 in
    let nj = named_forth (codes ",") 1 10000 i.0.1 j.0 j.1 in
    let nl = named_forth (codes ",") 1 10000 j.0.1 l.0 l.1 in
    let nm = named_forth (codes ",") 1 10000 l.0.1 m.0 m.1 in
    let na = named_forth (codes ",") 1 10000 m.0.1 a.0 a.1 in
    let nd = named_forth (codes ",") 1 10000 a.0.1 d.0 d.1 in
    let nc = named_forth (codes ",") 1 10000 d.0.1 c.0 c.1 in
    let made : Costs = record { integer = i.0.0; jump = j.0.0; load = l.0.0; multiply = m.0.0; atomic = a.0.0; divide = d.0.0; ecall = c.0.0 } in
    let some : Some (made, c.0.1) ≡ Some x = c.2 in
    let same : (made, c.0.1) ≡ x = cc in
    let whole : text ≡ costs_with made c.0.1 = costs_whole made text i.0.1 j.0.1 l.0.1 m.0.1 a.0.1 d.0.1 c.0.1 ni.whole nj.whole nl.whole nm.whole na.whole nd.whole nc.whole in
    let within : AreCosts made = made_within made (ni.low, ni.high) (nj.low, nj.high) (nl.low, nl.high) (nm.low, nm.high) (na.low, na.high) (nd.low, nd.high) (nc.low, nc.high) in
    subst (λ (y : Costs × Text). CostsRead text y.0 y.1) same (record { whole = whole; within = within })
  where
    made_within : (c : Costs) → IsCost c.integer → IsCost c.jump → IsCost c.load → IsCost c.multiply → IsCost c.atomic → IsCost c.divide → IsCost c.ecall → AreCosts c
    made_within c i j l m a d e classes.Integer = i
    made_within c i j l m a d e classes.Jump = j
    made_within c i j l m a d e classes.Load = l
    made_within c i j l m a d e classes.Multiply = m
    made_within c i j l m a d e classes.Atomic = a
    made_within c i j l m a d e classes.Divide = d
    made_within c i j l m a d e classes.Ecall = e

charge_forth : (text : Text) (x : Charge × Text) → charge_after text ≡ Some x → text ≡ charge_with x.0 x.1
charge_forth text x e = by (after (codes "\tcharge=none") text) refl e
  where
    by : (o : Option Text) → after (codes "\tcharge=none") text ≡ o
        → (elim o [ Some rest ↦ Some (Nobody, rest) | None ↦ option_and_then (λ rest. Some (Last, rest)) (after (codes "\tcharge=last") text) ]) ≡ Some x → text ≡ charge_with x.0 x.1
    by (Some rest) found is =
        let same : (Nobody, rest) ≡ x = cc in
        subst (λ (y : Charge × Text). text ≡ charge_with y.0 y.1) same (after_forth (codes "\tcharge=none") text rest found)
    by None none is =
        let found = then_some (after (codes "\tcharge=last") text) (λ rest. Some (Last, rest)) x is in
        let some : Some (Last, found.0) ≡ Some x = found.2 in
        let same : (Last, found.0) ≡ x = cc in
        subst (λ (y : Charge × Text). text ≡ charge_with y.0 y.1) same (after_forth (codes "\tcharge=last") text found.0 found.1)

record LineRead (text : Text) (t : Timing) (rest : Text) : Type 0 where
  whole : text ≡ timing_line t ++ rest
  within : IsTiming t
  seed : t.seed ≤ last_word

line_whole : (t : Timing) (text c s k h d rest : Text) → text ≡ number_with (codes "coz-timing\tversion=1\tcores=") t.cores c → c ≡ number_with (codes "\tslice=") t.slice s
    → s ≡ costs_with t.costs k → k ≡ charge_with t.charge h → h ≡ number_with (codes "\tseed=") t.seed d → d ≡ codes "\n" ++ rest → text ≡ line_with t rest
line_whole t text c s k h d rest tc cs sk kh hd dr =
    tc
    ∙ ap (λ (u : Text). number_with (codes "coz-timing\tversion=1\tcores=") t.cores u) (cs
    ∙ ap (λ (u : Text). number_with (codes "\tslice=") t.slice u) (sk
    ∙ ap (λ (u : Text). costs_with t.costs u) (kh
    ∙ ap (λ (u : Text). charge_with t.charge u) (hd
    ∙ ap (λ (u : Text). number_with (codes "\tseed=") t.seed u) dr))))

line_forth : (text : Text) (x : Timing × Text) → timing_after text ≡ Some x → LineRead text x.0 x.1
line_forth text x e =
    let c = then_some (named_number (codes "coz-timing\tversion=1\tcores=") 1 256 text) after_cores x e in
    let s = then_some (named_number (codes "\tslice=") 1 1000000000 c.0.1) (after_slice c.0.0) x c.2 in
    let k = then_some (costs_after s.0.1) (after_costs c.0.0 s.0.0) x s.2 in
    let h = then_some (charge_after k.0.1) (after_charge c.0.0 s.0.0 k.0.0) x k.2 in
    let d = then_some (named_number (codes "\tseed=") 0 last_word h.0.1) (after_seed c.0.0 s.0.0 k.0.0 h.0.0) x h.2 in
    let made : Timing = record { cores = c.0.0; slice = s.0.0; costs = k.0.0; charge = h.0.0; seed = d.0.0 } in
    let n = then_some (after (codes "\n") d.0.1) (after_end made) x d.2 in
    let rest : Text = n.0 in
    let some : Some (made, rest) ≡ Some x = n.2 in
    let same : (made, rest) ≡ x = cc in
    let nc = named_forth (codes "coz-timing\tversion=1\tcores=") 1 256 text c.0 c.1 in
    let ns = named_forth (codes "\tslice=") 1 1000000000 c.0.1 s.0 s.1 in
    let nk = costs_forth s.0.1 k.0 k.1 in
    let nd = named_forth (codes "\tseed=") 0 last_word h.0.1 d.0 d.1 in
    let whole : text ≡ line_with made rest =
    line_whole made text c.0.1 s.0.1 k.0.1 h.0.1 d.0.1 rest nc.whole ns.whole nk.whole (charge_forth k.0.1 h.0 h.1) nd.whole (after_forth (codes "\n") d.0.1 rest n.1) in
    subst (λ (y : Timing × Text). LineRead text y.0 y.1) same (record {
      whole = whole ∙ sym (written made rest);
      within = record { some_core = nc.low; few_cores = nc.high; some_slice = ns.low; short_slice = ns.high; costs = nk.within };
      seed = nd.high;
    })

-- ---- the law

not_usual : (t : Timing) (rest : Text) (x : Timing × Text) → unusual (t, rest) ≡ Some x → (is_usual t ≡ false) × ((t, rest) ≡ x)
not_usual t rest x e = by (is_usual t) refl e
  where
    by : (b : Bool) → is_usual t ≡ b → (if b then None else Some (t, rest)) ≡ Some x → (is_usual t ≡ false) × ((t, rest) ≡ x)
    by true is none = absurd cc
    by false is some = (is, cc)

reads : (text : Text) (x : Timing × Text) → read_timing text ≡ Some x → IsRead text x.0 x.1
reads text x e = by (has_line text) refl e
  where
    by : (b : Bool) → has_line text ≡ b → (if b then option_and_then unusual (timing_after text) else Some (usual, text)) ≡ Some x → IsRead text x.0 x.1
    by true has is =
        let found = then_some (timing_after text) unusual x is in
        let line = line_forth text found.0 found.1 in
        let other = not_usual found.0.0 found.0.1 x found.2 in
        subst (λ (y : Timing × Text). IsRead text y.0 y.1) other.1 (record {
          whole = line.whole ∙ sym (ap (λ (b : Bool). (if b then [] else timing_line found.0.0) ++ found.0.1) other.0);
          within = line.within;
          seed = line.seed;
          plain = λ us. absurd (let bad : true ≡ false = sym us ∙ other.0 in cc);
        })
    by false none is =
        let same : (usual, text) ≡ x = cc in
        subst (λ (y : Timing × Text). IsRead text y.0 y.1) same (record { whole = refl; within = usual_within; seed = omega arith; plain = λ us. none })

-- the machine is the usual one if each of its values is
both : (a b : Bool) → (a && b) ≡ true → (a ≡ true) × (b ≡ true)
both true b e = (refl, e)
both false b e = absurd cc

no_charge : (charge : Charge) → not (charges charge) ≡ true → charge ≡ Nobody
no_charge Nobody e = refl
no_charge Last e = absurd cc

costs_made : (c : Costs) → c.integer ≡ 1 → c.jump ≡ 2 → c.load ≡ 3 → c.multiply ≡ 3 → c.atomic ≡ 8 → c.divide ≡ 20 → c.ecall ≡ 40 → c ≡ usual_costs
costs_made c i j l m a d e =
    ap (λ n. record c { integer = n }) i ∙ ap (λ n. record c { integer = 1; jump = n }) j ∙ ap (λ n. record c { integer = 1; jump = 2; load = n }) l
    ∙ ap (λ n. record c { integer = 1; jump = 2; load = 3; multiply = n }) m ∙ ap (λ n. record c { integer = 1; jump = 2; load = 3; multiply = 3; atomic = n }) a
    ∙ ap (λ n. record c { integer = 1; jump = 2; load = 3; multiply = 3; atomic = 8; divide = n }) d ∙ ap (λ n. record usual_costs { ecall = n }) e

costs_are : (c : Costs) → are_usual c ≡ true → c ≡ usual_costs
costs_are c e =
    let v = both ((c.integer == 1 && c.jump == 2 && c.load == 3) && c.multiply == 3 && c.atomic == 8 && c.divide == 20) (c.ecall == 40) e in
    let w = both ((c.integer == 1 && c.jump == 2 && c.load == 3) && c.multiply == 3 && c.atomic == 8) (c.divide == 20) v.0 in
    let x = both ((c.integer == 1 && c.jump == 2 && c.load == 3) && c.multiply == 3) (c.atomic == 8) w.0 in
    let y = both (c.integer == 1 && c.jump == 2 && c.load == 3) (c.multiply == 3) x.0 in
    let z = both (c.integer == 1 && c.jump == 2) (c.load == 3) y.0 in
    let u = both (c.integer == 1) (c.jump == 2) z.0 in
    costs_made c (eqb-true c.integer 1 u.0) (eqb-true c.jump 2 u.1) (eqb-true c.load 3 z.1) (eqb-true c.multiply 3 y.1) (eqb-true c.atomic 8 x.1) (eqb-true c.divide 20 w.1) (eqb-true c.ecall 40 v.1)

usual_is : (t : Timing) → is_usual t ≡ true → t ≡ usual
usual_is t e =
    let a = both (t.cores == 256 && t.slice == 100000 && are_usual t.costs && not (charges t.charge)) (t.seed == 0) e in
    let b = both (t.cores == 256 && t.slice == 100000 && are_usual t.costs) (not (charges t.charge)) a.0 in
    let c = both (t.cores == 256 && t.slice == 100000) (are_usual t.costs) b.0 in
    let d = both (t.cores == 256) (t.slice == 100000) c.0 in
    made t (eqb-true t.cores 256 d.0) (eqb-true t.slice 100000 d.1) (costs_are t.costs c.1) (no_charge t.charge b.1) (eqb-true t.seed 0 a.1)
  where
    made : (t : Timing) → t.cores ≡ 256 → t.slice ≡ 100000 → t.costs ≡ usual_costs → t.charge ≡ Nobody → t.seed ≡ 0 → t ≡ usual
    made t cores slice costs charge seed =
        ap (λ n. record t { cores = n }) cores ∙ ap (λ n. record t { cores = 256; slice = n }) slice ∙ ap (λ k. record t { cores = 256; slice = 100000; costs = k }) costs
        ∙ ap (λ k. record t { cores = 256; slice = 100000; costs = usual_costs; charge = k }) charge ∙ ap (λ n. record usual { seed = n }) seed

read : (text : Text) (t : Timing) (rest : Text) → IsRead text t rest → read_timing text ≡ Some (t, rest)
read text t rest is = by (is_usual t) refl
  where
    by : (b : Bool) → is_usual t ≡ b → read_timing text ≡ Some (t, rest)
    by true us =
        let whole : text ≡ rest = is.whole ∙ ap (λ (b : Bool). (if b then [] else timing_line t) ++ rest) us in
        ap read_timing whole
        ∙ ap (λ (b : Bool). if b then option_and_then unusual (timing_after rest) else Some (usual, rest)) (is.plain us)
        ∙ ap (λ (u : Timing). Some (u, rest)) (sym (usual_is t us))
    by false other =
        let whole : text ≡ line_with t rest = is.whole ∙ ap (λ (b : Bool). (if b then [] else timing_line t) ++ rest) other ∙ written t rest in
        ap read_timing whole
        ∙ ap (λ o. option_and_then unusual o) (line_back t rest is.within is.seed)
        ∙ ap (λ (b : Bool). if b then None else Some (t, rest)) other

pub law : (text : Text) (t : Timing) (rest : Text) → (read_timing text ≡ Some (t, rest)) ↔ IsRead text t rest
law text t rest = (λ e. reads text (t, rest) e, read text t rest)

-- what is read is within the limits
pub read_within : (text : Text) (x : Timing × Text) → timing_after text ≡ Some x → IsTiming x.0
read_within text x e = (line_forth text x e).within
