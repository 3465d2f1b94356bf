use Rattle.std.proofs.Common.{◌∙◌, ◌∷◌, ◌≤◌, ℕ, List, All, Option, Some, ap, ap₂, option_map, subst, sym}
use Rattle.std.proofs.lemmas.Result.{err_from_is_err_and}
use Rattle.coz_types.specs.declared.LineId.{LineId}
use Rattle.experiment_plan.specs.Selected.{id_of, ids, rising_numbers}
use Rattle.latency_points.specs.Moments.{numbers_of}
use Rattle.coz_commands.specs.Verdict.{Verdict}
use Rattle.coz_commands.specs.Answer.{fault_verdict}
use Rattle.coz_commands.specs.Latencies.{latency_printed, marked_verdict, net_at_each}
use Rattle.coz_commands.proofs.LatencySteps.{after_line, after_arrive, after_depart, after_points, few_rising, printed}
use Rattle.coz_commands.proofs.latency.asked_latency.Goals as goal

pub returns-in_err-line-clause-verdict : goal.returns-in_err-line-clause-verdict
returns-in_err-line-clause-verdict c =
    let gives = err_from_is_err_and c.from_residual.result c.from_residual.ensures.1 in
    rw (gives.1, gives.2)
    (λ other runs. after_line c.args.request.now c.args.index.now.lines runs (fault_verdict c.in_err-line.field-0.0) _ c.bytes_of.ensures c.in_err-line.ensures.verdict)

pub returns-in_err-arrive-clause-verdict : goal.returns-in_err-arrive-clause-verdict
returns-in_err-arrive-clause-verdict c =
    let gives = err_from_is_err_and c.from_residual-in_err-arrive.result c.from_residual-in_err-arrive.ensures.1 in
    rw (gives.1, gives.2)
    (λ other runs.
    after_arrive c.args.request.now c.args.index.now.lines runs (option_map id_of c.in_ok-line.line) _ c.bytes_of.ensures c.in_ok-line.ensures.verdict
    (fault_verdict c.in_err-arrive.field-0.0) _ c.bytes_of-2.ensures (c.in_err-arrive.ensures.verdict other))

pub returns-in_err-depart-clause-verdict : goal.returns-in_err-depart-clause-verdict
returns-in_err-depart-clause-verdict c =
    let gives = err_from_is_err_and c.from_residual-in_err-depart.result c.from_residual-in_err-depart.ensures.1 in
    rw (gives.1, gives.2)
    (λ other runs.
    after_depart c.args.request.now c.args.index.now.lines runs (option_map id_of c.in_ok-line.line) _ c.bytes_of.ensures c.in_ok-line.ensures.verdict
    (ids c.in_ok-arrive.arrive.items) _ c.bytes_of-2.ensures (c.in_ok-arrive.ensures.verdict (λ never. never))
    (fault_verdict c.in_err-depart.field-0.0) _ c.bytes_of-3.ensures (c.in_err-depart.ensures.verdict other))

pub returns-in_err-marked-clause-verdict : goal.returns-in_err-marked-clause-verdict
returns-in_err-marked-clause-verdict c =
    let gives = err_from_is_err_and c.from_residual-in_err-marked.result c.from_residual-in_err-marked.ensures.1 in
    rw (gives.1, gives.2)
    (λ other runs.
    let asked = c.args.request.now in
    let selected = option_map id_of c.in_ok-line.line in
    let next = printed asked c.args.index.now.lines runs selected in
    after_points asked c.args.index.now.lines runs selected _ c.bytes_of.ensures c.in_ok-line.ensures.verdict
    (ids c.in_ok-arrive.arrive.items) _ c.bytes_of-2.ensures (c.in_ok-arrive.ensures.verdict (λ never. never))
    (ids c.in_ok-depart.depart.items) _ c.bytes_of-3.ensures (c.in_ok-depart.ensures.verdict (λ never. never))
    (fault_verdict c.in_err-marked.field-0.0)
    (c.in_err-marked.ensures.verdict other next
    ∙ ap₂ (λ (ls ms : List LineId). marked_verdict (ids ls) (ids ms) next) c.deref.ensures.value c.deref-2.ensures.value))

pub returns-clause-verdict : goal.returns-clause-verdict
returns-clause-verdict c = λ _ runs.
    let asked = c.args.request.now in
    let selected = Some c.in-Some.selected.0 in
    let found = λ (next : Option ℕ → Verdict). ap (λ (line : Option LineId). next (option_map id_of line)) (sym c.in-Some.is) ∙ c.in_ok-line.ensures.verdict next in
    let marked = c.in_ok-marked.marked in
    let next = printed asked c.args.index.now.lines runs selected in
    ap (λ (speedups : List ℕ). latency_printed (numbers_of marked.arrive.items) (numbers_of marked.depart.items) (net_at_each runs selected asked.budget marked.points.lines) speedups)
    (c.in_ok-speedups.ensures ∙ ap (λ (speedups : List ℕ). rising_numbers (0 ∷ speedups)) c.as_slice.ensures)
    ∙ after_points asked c.args.index.now.lines runs selected _ c.bytes_of.ensures found
    (ids c.in_ok-arrive.arrive.items) _ c.bytes_of-2.ensures (c.in_ok-arrive.ensures.verdict (λ never. never))
    (ids c.in_ok-depart.depart.items) _ c.bytes_of-3.ensures (c.in_ok-depart.ensures.verdict (λ never. never))
    (next marked.points.lines (numbers_of marked.arrive.items) (numbers_of marked.depart.items))
    (c.in_ok-marked.ensures.verdict (λ never. never) next
    ∙ ap₂ (λ (ls ms : List LineId). marked_verdict (ids ls) (ids ms) next) c.deref.ensures.value c.deref-2.ensures.value)

pub returns-clause-small : goal.returns-clause-small
returns-clause-small c =
    let is = c.in_ok-speedups.ensures ∙ ap (λ (speedups : List ℕ). rising_numbers (0 ∷ speedups)) c.as_slice.ensures in
    subst (All (λ p. p ≤ 95)) (sym is) (few_rising c.args.request.now.speedups c.requires.fit.speedups)
