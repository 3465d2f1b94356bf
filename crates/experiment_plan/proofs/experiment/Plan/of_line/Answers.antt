use Rattle.std.proofs.Common.{◌≡◌, ◌∙◌, ◌+◌, ◌*◌, ◌-◌, ℕ, take, drop, Some, ap, sym, subst, List, rules, arith}
use Rattle.experiment_plan.specs.declared.experiment.Experiment.{Experiment}
use Rattle.experiment_plan.specs.ByLine.{IsOfOneLine}
use Rattle.experiment_plan.specs.Pairs.{ArePlanned}
use Rattle.experiment_plan.proofs.Lines.{ends_within, line_is, one_line}
use Rattle.experiment_plan.proofs.experiment.Plan.of_line.Goals as goal

-- from the place of the line's first pair on, as many as a line has
same_cut : (k i : ℕ) (pairs : List Experiment) → take (i * k + k - i * k) (drop (i * k) pairs) ≡ take k (drop (i * k) pairs)
same_cut k i pairs = ap (λ n. take n (drop (i * k) pairs)) (omega arith)

pub overflow_mul-start : goal.overflow_mul-start
overflow_mul-start c =
    let within = ends_within c.self.inside.speedups c.self.inside.pairs.items c.args.claim c.self.invariant (search rules) in
    omega (arith, within.0, within.1)

pub overflow_add-result : goal.overflow_add-result
overflow_add-result c =
    let within = ends_within c.self.inside.speedups c.self.inside.pairs.items c.args.claim c.self.invariant (search rules) in
    omega (arith, within.0, within.1)

pub offset_bounds-deref-start : goal.offset_bounds-deref-start
offset_bounds-deref-start c =
    let within = ends_within c.self.inside.speedups c.self.inside.pairs.items c.args.claim c.self.invariant (search rules) in
    omega (arith, within.0, within.1)

pub slice_bounds-result-end : goal.slice_bounds-result-end
slice_bounds-result-end c =
    let within = ends_within c.self.inside.speedups c.self.inside.pairs.items c.args.claim c.self.invariant (search rules) in
    search (rules, within.0)

pub returns-clause-pairs : goal.returns-clause-pairs
returns-clause-pairs c =
    let k = c.self.inside.speedups in
    let i = c.args.claim in
    let are : ArePlanned k c.args.self.now = subst (ArePlanned k) (search rules) c.self.invariant in
    let same : c.args.self.now ≡ c.deref.result.now = search rules in
    line_is k c.args.self.now i are c.requires.claim
    ∙ ap Some (sym (same_cut k i c.args.self.now))
    ∙ ap (λ (pairs : List Experiment). Some (take (i * k + k - i * k) (drop (i * k) pairs))) same

pub returns-clause-one_line : goal.returns-clause-one_line
returns-clause-one_line c =
    let k = c.self.inside.speedups in
    let i = c.args.claim in
    let are : ArePlanned k c.args.self.now = subst (ArePlanned k) (search rules) c.self.invariant in
    let same : c.args.self.now ≡ c.deref.result.now = search rules in
    let is =
    sym (same_cut k i c.args.self.now) ∙ ap (λ (pairs : List Experiment). take (i * k + k - i * k) (drop (i * k) pairs)) same in
    subst IsOfOneLine is (one_line k c.args.self.now i are c.requires.claim)
