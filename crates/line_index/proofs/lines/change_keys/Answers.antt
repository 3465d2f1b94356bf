use Rattle.std.proofs.Common.{All, arith, sym, subst}
use Rattle.line_index.specs.Keys.{IsNumbered}
use Rattle.line_index.proofs.Found.{keys_more, taken_few}
use Rattle.line_index.proofs.Labelled.{all_more}
use Rattle.line_index.proofs.lines.change_keys.Goals as goal

pub loop-change-preserved : goal.loop-change-preserved
loop-change-preserved c = (
  keys_more c.args.rows.now c.args.positions.now c.args.changes.now c.loop-change.change-index _ _ _ _ (omega arith) c.loop-change.invariant.0 c.key_at.ensures.key c.in_ok-push_some.ensures,
  subst (All IsNumbered) (sym c.in_ok-push_some.ensures) (all_more IsNumbered _ _ c.loop-change.invariant.1 c.key_at.ensures.numbered),
)

pub returns-clause-few : goal.returns-clause-few
returns-clause-few c = taken_few c.args.rows.now c.args.positions.now c.args.changes.now c.loop-change.change-index c.loop-change.keys.items c.loop-change.invariant.0
