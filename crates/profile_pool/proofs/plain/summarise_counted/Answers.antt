use Rattle.std.proofs.Common.{◌∙◌, ◌≡◌, ◌≤◌, ap, sym, subst, true, length, ℕ, ◌^◌, List, [], Option, IfSome, refl, arith}
use Rattle.coz_types.specs.Labels.{is_label}
use Rattle.coz_types.specs.Ranges.{IsSummary}
use Rattle.coz_types.specs.declared.record.Outcome.{Outcome}
use Rattle.coz_types.specs.declared.record.Summary.{Summary}
use Rattle.sha2.specs.Sha256.{sha256}
use Rattle.machines.specs.Records.{record_of}
use Rattle.run_engine.specs.Seen.{experiment_of}
use Rattle.virtual_run.specs.DelayedRun.{IsSmall}
use Rattle.run_summary.specs.Summaries.{relabelled}
use Rattle.profile_pool.proofs.Within.{is_within, IsWithin, summary_is}
use Rattle.profile_pool.proofs.Summing.{ending_is, few_visits, ok_as, ok_so, outcome_is, summed}
use Rattle.profile_pool.proofs.PlainRun.{relabels}
use Rattle.profile_pool.proofs.plain.summarise_counted.Goals as goal

pub returns-clause-summary : goal.returns-clause-summary
returns-clause-summary c = λ ending ended.
    let d = c.args.counted.now.state in
    let o = c.ended-outcome.result in
    ok_as c.summary_of_run.result _ _
    (summed [] 0 (length c.args.points.now.lines) (record_of (experiment_of c.args.counted.now) d ending) _ o _ _ _ _
    refl
    (outcome_is d ending o (c.ended-outcome.ensures.same ∙ c.outcome.ensures.outcome) ended)
    (ap length c.output-output.ensures.bytes)
    (c.digest_of_bytes-digest.ensures ∙ ap sha256 c.output-output.ensures.bytes)
    c.count-points.ensures
    c.visits-visits.ensures.visits)
    c.summary_of_run.ensures

pub returns-clause-ranges : goal.returns-clause-ranges
returns-clause-ranges c =
    let d = c.args.counted.now.state in
    let o = c.ended-outcome.result in
    let r = record_of (experiment_of c.args.counted.now) d o.ending in
    let points = length c.args.points.now.lines in
    let same = c.ended-outcome.ensures.same in
    let came = same ∙ c.outcome.ensures.outcome in
    let ended = ending_is d o came in
    let P : Option Outcome → Type 0 = λ it. IfSome it IsSmall in
    let Q : Option Outcome → Type 0 = λ it. IfSome it (λ o. o.delay ≡ 0) in
    let R : List ℕ → Type 0 = λ bytes. length bytes ≤ 67108864 in
    let none : o.delay ≡ 0 = subst Q (sym same) c.outcome.ensures.undelayed in
    let within = is_within o c.ended-outcome.ensures.ending (subst P (sym same) c.outcome.ensures.small) (omega (arith, none)) in
    let is = subst IsWithin (outcome_is d o.ending o came ended) within in
    let S : Summary → Type 0 =
    λ summary. (text : List ℕ) (speedup starts : ℕ) → is_label text ≡ true → speedup ≤ 95 → starts ≤ 10 ^ 17 → IsSummary points (relabelled text speedup starts summary) in
    ok_so c.summary_of_run.result _ S (returns-clause-summary c o.ending ended)
    (λ text speedup starts labelled slow few_starts.
    subst (IsSummary points) (sym (relabels text speedup points starts r))
    (summary_is text speedup points (record r { starts = starts })
    (record { ending = is.ending; time = is.time; delay = is.delay; retired = is.retired; starts = few_starts })
    (subst R c.output-output.ensures.bytes c.output-output.ensures.few)
    (few_visits c.visits-visits.result.now r c.visits-visits.ensures.visits c.visits-visits.ensures.few)
    labelled slow))
