use Rattle.std.proofs.Common.{◌∙◌, ◌≡◌, ◌≤◌, ap, sym, subst, length, ℕ, List, Option, None, IfSome, MatchOption}
use Rattle.coz_types.specs.Ranges.{IsSummary}
use Rattle.coz_types.specs.declared.record.Outcome.{Outcome}
use Rattle.sha2.specs.Sha256.{sha256}
use Rattle.machines.specs.Records.{record_of}
use Rattle.run_engine.specs.Seen.{experiment_of}
use Rattle.virtual_run.specs.DelayedRun.{IsSmall}
use Rattle.profile_pool.proofs.Within.{is_within, IsWithin, summary_is}
use Rattle.profile_pool.proofs.Summing.{ending_is, few_visits, net_visits, ok_as, ok_so, outcome_is, summed}
use Rattle.profile_pool.proofs.summary.summarise.Goals as goal

pub returns-clause-summary : goal.returns-clause-summary
returns-clause-summary c = λ ending ended.
    let d = c.args.machine.now.state in
    let o = c.ended-outcome.result in
    let r = record_of (experiment_of c.args.machine.now) d ending in
    ok_as c.summary_of_run.result _ _
    (summed c.args.label.now c.args.speedup (length c.args.points.now.lines) r _ o _ _ _ _
    c.bytes.ensures
    (outcome_is d ending o (c.ended-outcome.ensures.same ∙ c.outcome.ensures.outcome) ended)
    (ap length c.output-output.ensures.bytes)
    (c.in_ok-digest.ensures ∙ ap sha256 c.output-output.ensures.bytes)
    c.count-points.ensures
    (net_visits c.visits-visits.result.now r c.visits-visits.ensures.visits))
    c.summary_of_run.ensures

pub returns-clause-ranges : goal.returns-clause-ranges
returns-clause-ranges c = λ labelled slow.
    let d = c.args.machine.now.state in
    let o = c.ended-outcome.result in
    let r = record_of (experiment_of c.args.machine.now) d o.ending in
    let points = length c.args.points.now.lines in
    let same = c.ended-outcome.ensures.same in
    let came = same ∙ c.outcome.ensures.outcome in
    let ended = ending_is d o came in
    let P : Option Outcome → Type 0 = λ it. IfSome it IsSmall in
    let Q : Option Outcome → Type 0 = λ it. MatchOption it (d.ending ≡ None) (λ o. o.delay ≤ o.time) in
    let R : List ℕ → Type 0 = λ bytes. length bytes ≤ 67108864 in
    let within = is_within o c.ended-outcome.ensures.ending (subst P (sym same) c.outcome.ensures.small) (subst Q (sym same) c.outcome.ensures.in_time) in
    ok_so c.summary_of_run.result _ (IsSummary points) (returns-clause-summary c o.ending ended)
    (summary_is c.args.label.now c.args.speedup points r
    (subst IsWithin (outcome_is d o.ending o came ended) within)
    (subst R c.output-output.ensures.bytes c.output-output.ensures.few)
    (few_visits c.visits-visits.result.now r (net_visits c.visits-visits.result.now r c.visits-visits.ensures.visits) c.visits-visits.ensures.few)
    labelled slow)
