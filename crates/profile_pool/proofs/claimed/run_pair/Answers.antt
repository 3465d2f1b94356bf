use Rattle.std.proofs.Common.{◌∙◌, ap, sym, length, map, [], Some}
use Rattle.std.proofs.lemmas.Option.{get_or_from_slice_get}
use Rattle.line_index.specs.Lines.{label}
use Rattle.machines.specs.Records.{record_of}
use Rattle.machines.specs.Standing.{delayed_record}
use Rattle.run_engine.specs.Seen.{Seen, experiment_of}
use Rattle.profile_pool.specs.Subjects.{summary_on}
use Rattle.profile_pool.specs.Made.{parts_made}
use Rattle.profile_pool.proofs.Summing.{summary_at}
use Rattle.profile_pool.proofs.Making.{for_any, forked}
use Rattle.profile_pool.proofs.claimed.run_pair.Goals as goal

pub fork-requires-clause-arguments : goal.fork-requires-clause-arguments
fork-requires-clause-arguments c =
    c.requires.machine ∙ sym (for_any c.args.work.now (Some c.args.pair.line.0) 0 c.args.lead.now c.requires.lead)

pub summarise-requires-clause-points : goal.summarise-requires-clause-points
summarise-requires-clause-points c =
    let work = c.args.work.now in
    let is = forked work c.args.pair.line.0 _ c.args.lead.now c.args.machine.now c.fork.new.machine _ c.requires.machine c.requires.lead c.fork.ensures.forked in
    ap (λ (seen : Seen (Unit {0})). seen.points) (ap parts_made c.run.ensures.rest ∙ is)

pub returns-clause-machine : goal.returns-clause-machine
returns-clause-machine c =
    let work = c.args.work.now in
    let is = forked work c.args.pair.line.0 _ c.args.lead.now c.args.machine.now c.fork.new.machine _ c.requires.machine c.requires.lead c.fork.ensures.forked in
    for_any work (Some c.args.pair.line.0) _ c.run.new.self (ap parts_made c.run.ensures.rest ∙ is)

pub returns-clause-summary : goal.returns-clause-summary
unfolding summary_on
returns-clause-summary c =
    let work = c.args.work.now in
    let pair = c.args.pair in
    let run = c.run in
    let points = work.subject.points.now in
    let is = forked work pair.line.0 _ c.args.lead.now c.args.machine.now c.fork.new.machine _ c.requires.machine c.requires.lead c.fork.ensures.forked in
    let recorded =
    ap (λ (seen : Seen (Unit {0})). record_of (experiment_of seen) run.new.self.state run.result) (ap parts_made run.ensures.rest)
    ∙ run.ensures.record
    ∙ ap (λ (seen : Seen (Unit {0})). delayed_record (experiment_of seen)) is in
    summary_at _ c.label.result.now pair.speedup (length points.lines) _ _ c.summarise.result
    (sym (get_or_from_slice_get (map label work.subject.index.now.lines) pair.line.0 c.label.result.now [] c.label.ensures.label))
    recorded
    (c.summarise.ensures.summary run.result run.ensures.ended)
