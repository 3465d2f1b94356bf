use Rattle.std.proofs.Common.{[], get_or}
use Rattle.std.proofs.lemmas.List.{get_or_default}
use Rattle.line_write.specs.Unit.{views}
use Rattle.line_remap.specs.declared.marks.Mark.{Mark}
use Rattle.line_remap.proofs.Adding.{adds_mark}
use Rattle.line_remap.proofs.runs.push_kept.Goals as goal

abbrev zero_mark : Mark
zero_mark = record { line = record { 0 = 0 }; location = record { path = record { ref_ptr = (0, 0); now = [] }; number = 0 } }

pub loop-mark-preserved : goal.loop-mark-preserved
loop-mark-preserved c =
    let marks = c.args.marks.now in
    let i = c.loop-mark.mark-index in
    let m : Mark = get_or marks i zero_mark in
    adds_mark c.args.index.now marks i m (views c.args.out.now.list.items) (views c.loop-mark.out.list.items) (views c.push_runs.new.out.list.items) c.loop-mark.invariant c.loop-mark-test.true
    (get_or_default marks i zero_mark m c.loop-mark-test.true) c.in_ok-push_runs.ensures
