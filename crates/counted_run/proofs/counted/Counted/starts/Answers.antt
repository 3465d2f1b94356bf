use Rattle.std.proofs.Common.{◌∙◌, ◌^◌, ◌≤◌, sym, subst}
use Rattle.run_counts.specs.declared.tallies.Tally.{Tally}
use Rattle.counted_run.proofs.Counting.{starts_small}
use Rattle.run_counts.specs.Counts.{counts_of}
use Rattle.counted_run.proofs.Recorded.{read_seen, starts_seen, record_seen, same_seen_record, unstarted_seen}
use Rattle.counted_run.proofs.counted.Counted.starts.Goals as goal

pub returns-clause-begun : goal.returns-clause-begun
returns-clause-begun c =
    let m = c.self.inside in
    starts_seen m.image.now m.input.now m.setting m.engine (counts_of m.tallies) c.self.invariant c.args.self.now c.self.view_is c.args.line.0 c.index.result.now c.requires c.index.ensures

pub returns-clause-starts : goal.returns-clause-starts
returns-clause-starts c = λ over.
    let m = c.self.inside in
    starts_seen m.image.now m.input.now m.setting m.engine (counts_of m.tallies) c.self.invariant c.args.self.now c.self.view_is c.args.line.0 c.index.result.now c.requires c.index.ensures
    ∙ record_seen m.image.now m.input.now m.setting m.engine (counts_of m.tallies) c.self.invariant c.args.self.now c.self.view_is c.args.line over

pub returns-clause-same : goal.returns-clause-same
returns-clause-same c =
    let m = c.self.inside in
    same_seen_record m.image.now m.input.now m.setting m.engine (counts_of m.tallies) c.self.invariant c.args.self.now c.self.view_is c.args.line

pub returns-clause-unstarted : goal.returns-clause-unstarted
returns-clause-unstarted c = λ over none.
    let m = c.self.inside in
    unstarted_seen m.image.now m.input.now m.setting m.engine (counts_of m.tallies) c.self.invariant c.args.self.now c.self.view_is c.args.line over
    (sym (starts_seen m.image.now m.input.now m.setting m.engine (counts_of m.tallies) c.self.invariant c.args.self.now c.self.view_is c.args.line.0 c.index.result.now c.requires c.index.ensures) ∙ none)

pub returns-clause-small : goal.returns-clause-small
returns-clause-small c =
    let m = c.self.inside in
    subst (λ (t : Tally). t.starts ≤ 10 ^ 17)
    (sym (read_seen m.image.now m.input.now m.setting m.engine (counts_of m.tallies) c.self.invariant c.args.self.now c.self.view_is c.args.line.0 c.index.result.now c.requires c.index.ensures))
    (starts_small m.image.now m.input.now m.setting m.engine (counts_of m.tallies) c.self.invariant c.args.line.0)
