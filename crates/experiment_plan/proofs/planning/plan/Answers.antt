use Rattle.std.proofs.Common.{◌≤◌, ◌<◌, ℕ, List, ◌∷◌, All, length, sym, ap, ◌∙◌, subst, arith, rules}
use Rattle.std.specs.List.Sorted.{IsStrictlySortedBy}
use Rattle.experiment_plan.specs.declared.experiment.Experiment.{Experiment}
use Rattle.experiment_plan.specs.Selected.{rising_numbers}
use Rattle.experiment_plan.specs.Pairs.{pair_cmp, pairs_of}
use Rattle.experiment_plan.proofs.Rising.{rises, some_rise}
use Rattle.experiment_plan.proofs.Pairing.{few_speedups, plan_of, plan_length, sorted_pairs, lines_below, speedups_few}
use Rattle.experiment_plan.proofs.planning.plan.Goals as goal

pub pair_count-count-requires-clause-few : goal.pair_count-count-requires-clause-few
pair_count-count-requires-clause-few c = subst (λ (ps : List ℕ). length ps ≤ 96) (sym (c.deref.ensures.value ∙ c.in_ok-speedups.ensures)) (few_speedups c.args.speedups.now c.requires.speedups)

pub returns-then-count-gt-MAX_PAIRS-clause-plan : goal.returns-then-count-gt-MAX_PAIRS-clause-plan
returns-then-count-gt-MAX_PAIRS-clause-plan c = (
  plan_length c.args.lines.now c.args.speedups.now _ _ _ c.pair_count-count.ensures c.deref.ensures.value c.in_ok-speedups.ensures,
  search rules,
)

pub returns-clause-plan : goal.returns-clause-plan
returns-clause-plan c =
    let is = plan_of c.args.lines.now c.args.speedups.now _ _ _ c.in_ok-pairs.ensures c.deref-2.ensures.value c.in_ok-speedups.ensures in
    let count = plan_length c.args.lines.now c.args.speedups.now _ _ _ c.pair_count-count.ensures c.deref.ensures.value c.in_ok-speedups.ensures in
    let few : c.pair_count-count.result ≤ 100000 = search rules in
    (is, omega (arith, few, count, ap length is))

pub invariant_of-result : goal.invariant_of-result
invariant_of-result c =
    let is = plan_of c.args.lines.now c.args.speedups.now _ _ _ c.in_ok-pairs.ensures c.deref-2.ensures.value c.in_ok-speedups.ensures in
    let count = plan_length c.args.lines.now c.args.speedups.now _ _ _ c.pair_count-count.ensures c.deref.ensures.value c.in_ok-speedups.ensures in
    let most : c.pair_count-count.result ≤ 100000 = search rules in
    record {
      lines = c.args.lines.now;
      speedups = c.in_ok-speedups.speedups.items;
      all = c.in_ok-pairs.ensures ∙ ap (λ (ps : List ℕ). pairs_of c.args.lines.now ps) c.deref-2.ensures.value;
      rise = c.requires.rising;
      as_many = search rules;
      some = let some = some_rise 0 c.args.speedups.now in let same = ap length c.in_ok-speedups.ensures in search (rules, some, same);
      slow = subst (All (λ (pair : Experiment). pair.speedup ≤ 95)) (sym is) (speedups_few c.args.lines.now c.args.speedups.now c.requires.speedups);
      few = omega (arith, most, count, ap length is);
    }

pub returns-clause-in_order : goal.returns-clause-in_order
returns-clause-in_order c =
    let is = plan_of c.args.lines.now c.args.speedups.now _ _ _ c.in_ok-pairs.ensures c.deref-2.ensures.value c.in_ok-speedups.ensures in
    subst (IsStrictlySortedBy pair_cmp) (sym is) (sorted_pairs c.args.lines.now (rising_numbers (0 ∷ c.args.speedups.now)) c.requires.rising (rises (0 ∷ c.args.speedups.now)))

pub returns-clause-below : goal.returns-clause-below
returns-clause-below c =
    let is = plan_of c.args.lines.now c.args.speedups.now _ _ _ c.in_ok-pairs.ensures c.deref-2.ensures.value c.in_ok-speedups.ensures in
    λ count all. subst (All (λ (pair : Experiment). pair.line.0 < count)) (sym is) (lines_below count c.args.lines.now (rising_numbers (0 ∷ c.args.speedups.now)) all)

pub returns-clause-speedups : goal.returns-clause-speedups
returns-clause-speedups c =
    let is = plan_of c.args.lines.now c.args.speedups.now _ _ _ c.in_ok-pairs.ensures c.deref-2.ensures.value c.in_ok-speedups.ensures in
    subst (All (λ (pair : Experiment). pair.speedup ≤ 95)) (sym is) (speedups_few c.args.lines.now c.args.speedups.now c.requires.speedups)
