use Rattle.timing_state.proofs.Line.{low_at}
use Rattle.timing_state.proofs.Noting.{made_more}
use Rattle.timing_state.proofs.notes.note_made.Goals as goal

pub put-requires : goal.put-requires
put-requires c = record { low = low_at c.harts-harts.result.now c.args.others.now c.loop-i.i (record { 0 = 0 }) c.harts-harts.ensures c.requires.low c.loop-i-test.true }

pub loop-i-preserved : goal.loop-i-preserved
loop-i-preserved c = made_more c.harts-harts.result.now c.loop-i.i (record { 0 = 0 }) c.args.last c.made_note-note.result c.loop-i.notes c.put.new.self _ c.loop-i-test.true c.made_note-note.ensures c.put.ensures c.loop-i.invariant
