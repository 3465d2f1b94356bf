use Rattle.std.proofs.Common.{sym, ◌∙◌}
use Rattle.run_engine.proofs.Law.{none_is}
use Rattle.plain_run.proofs.Starting.{all_low}
use Rattle.plain_run.proofs.note.note_retired.Goals as goal

pub follow-requires-clause-started : goal.follow-requires-clause-started
follow-requires-clause-started c =
    all_low c.started-started.result.now c.args.engine.now.started c.started-started.ensures
    (c.requires.low (sym c.ending.ensures ∙ none_is c.ending.result c.is_none.result c.is_none.ensures c.if-is_none.true))
