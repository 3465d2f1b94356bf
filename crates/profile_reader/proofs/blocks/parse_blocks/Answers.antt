use Rattle.std.proofs.Common.{◌≡◌, ◌++◌, ◌∷◌, [], None, ◌-◌, ◌∙◌, sym}
use Rattle.std.proofs.lemmas.Result.{err_from_is_err_and}
use Rattle.profile_reader.specs.Reading.{blocks_at}
use Rattle.profile_reader.specs.Standing.{ahead}
use Rattle.profile_reader.proofs.Turns.{block_goes_on, block_ends, blocks_end, blocks_done, last_in}
use Rattle.profile_reader.proofs.blocks.parse_blocks.Goals as goal

pub returns-then-is_done : goal.returns-then-is_done
returns-then-is_done c = blocks_end c.loop-turn.summaries.items (c.args.most - c.loop-turn.turn) c.args.points (last_in c.loop-turn.summaries.items) (ahead c.loop-turn.rest) (blocks_at c.args.most c.args.points None (ahead c.args.at)) (sym c.is_done.ensures ∙ c.if-is_done.true) c.loop-turn.invariant

pub returns-in_err-summary : goal.returns-in_err-summary
returns-in_err-summary c =
    let p = err_from_is_err_and c.from_residual.result c.from_residual.ensures.1 in
    let here = rw (c.last.ensures.value, c.deref.ensures.value) at c.in_err-summary.ensures in
    rw (p.1, p.2) (block_ends c.in_err-summary.field-0.0 c.loop-turn.summaries.items c.args.most c.loop-turn.turn c.args.points (last_in c.loop-turn.summaries.items) (ahead c.loop-turn.rest) (blocks_at c.args.most c.args.points None (ahead c.args.at)) c.loop-turn-test.true (sym c.is_done.ensures ∙ c.if-is_done.false) here c.loop-turn.invariant)

pub loop-turn-preserved : goal.loop-turn-preserved
loop-turn-preserved c =
    let e : c.push.new.self.items ≡ c.loop-turn.summaries.items ++ c.in_ok-summary.summary ∷ [] = c.in_ok-push.ensures.items in
    let here = rw (c.last.ensures.value, c.deref.ensures.value) at c.in_ok-summary.ensures in
    rw e (block_goes_on c.loop-turn.summaries.items c.args.most c.loop-turn.turn c.args.points (ahead c.loop-turn.rest) c.in_ok-summary.summary (ahead c.in_ok-summary.next) (blocks_at c.args.most c.args.points None (ahead c.args.at)) c.loop-turn-test.true (sym c.is_done.ensures ∙ c.if-is_done.false) here c.loop-turn.invariant)

pub returns : goal.returns
returns c = blocks_done c.loop-turn.summaries.items c.args.most c.loop-turn.turn c.args.points (last_in c.loop-turn.summaries.items) (ahead c.loop-turn.rest) (blocks_at c.args.most c.args.points None (ahead c.args.at)) c.loop-turn-test.false c.loop-turn.invariant
