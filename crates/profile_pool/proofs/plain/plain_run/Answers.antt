use Rattle.std.proofs.Common.{◌≡◌, ◌≤◌, ◌<◌, ◌^◌, ◌∙◌, ℕ, true, List, [], length, ap, sym}
use Rattle.coz_types.specs.Labels.{is_label}
use Rattle.coz_types.specs.Ranges.{IsSummary}
use Rattle.machines.specs.Guest.{Experiment}
use Rattle.machines.specs.Records.{Record, record_of}
use Rattle.machines.specs.Standing.{delayed_record}
use Rattle.timed_guest.specs.Guest.{Timed}
use Rattle.run_engine.specs.declared.choice.Choice.{Choice}
use Rattle.run_engine.specs.Seen.{Seen, experiment_of}
use Rattle.counted_run.specs.CountedRun.{plain_choice}
use Rattle.profile_pool.specs.declared.plain.Plain.{Plain}
use Rattle.profile_pool.specs.Made.{parts_made}
use Rattle.run_summary.specs.Summaries.{relabelled}
use Rattle.profile_pool.specs.Plain.{starts_at, SaysOf, IsPlain}
use Rattle.profile_pool.specs.Summaries.{summary_of}
use Rattle.profile_pool.proofs.PlainRun.{plain_parts, plain_is, all_ok}
use Rattle.profile_pool.proofs.plain.plain_run.Goals as goal

pub returns : goal.returns
returns c =
    let image = c.args.subject.now.image.now in
    let index = c.args.subject.now.index.now in
    let points = c.args.subject.now.points.now in
    let input = c.args.subject.now.input.now in
    let seen = c.run.new.self in
    let with_choice : Choice → Seen (Unit {0}) = λ choice. record { image = image; index = index; points = points; timing = c.args.subject.now.timing; input = input; choice = plain_choice choice; state = tt } in
    let made : parts_made seen ≡ plain_parts c.args.subject.now c.args.budget =
    ap parts_made c.run.ensures.rest ∙ ap parts_made c.in_ok-counted.ensures ∙ ap with_choice c.usual-choice.ensures.choice in
    let same : experiment_of seen ≡ experiment_of c.in_ok-counted.counted = ap experiment_of c.run.ensures.rest in
    let r : Record = record_of (experiment_of seen) seen.state c.run.result in
    let recorded : r ≡ delayed_record (experiment_of seen) =
    ap (λ (x : Experiment Timed). record_of x seen.state c.run.result) same ∙ c.run.ensures.record ∙ ap delayed_record (sym same) in
    let made_by = c.plain_in-plain.ensures in
    all_ok c.plain_in-plain.result
    (λ (plain : Plain). length plain.starts.items ≡ length index.lines)
    (λ (plain : Plain). (line : ℕ) → line < length index.lines → SaysOf seen line (starts_at plain line))
    (λ (plain : Plain). plain.summary ≡ summary_of [] 0 (length points.lines) r)
    (λ (plain : Plain). (text : List ℕ) (speedup starts : ℕ) → is_label text ≡ true → speedup ≤ 95 → starts ≤ 10 ^ 17 → IsSummary (length points.lines) (relabelled text speedup starts plain.summary))
    (IsPlain c.args.subject.now c.args.budget)
    made_by.many made_by.each (made_by.summary c.run.result c.run.ensures.ended) made_by.ranges
    (λ plain many each summary ranges. plain_is c.args.subject.now c.args.budget seen made plain r many each summary recorded ranges)
