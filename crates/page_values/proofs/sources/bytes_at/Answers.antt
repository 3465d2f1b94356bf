use Rattle.std.proofs.Common.{rules, refl, Some, ap, ◌∙◌}
use Rattle.page_values.proofs.Looked.{found_here, found_nowhere, still_ahead}
use Rattle.page_values.proofs.sources.bytes_at.Goals as goal

pub loop-file-init : goal.loop-file-init
loop-file-init c = refl

pub loop-file-preserved : goal.loop-file-preserved
loop-file-preserved c = still_ahead c.args.files.now c.args.path.now c.loop-file.file-index c.file-item.result c.loop-file-test.true c.file-item.is (search rules) c.loop-file.invariant

pub returns-then-eq : goal.returns-then-eq
returns-then-eq c =
    ap Some c.as_slice-then-eq.ensures.value
    ∙ found_here c.args.files.now c.args.path.now c.loop-file.file-index c.file-item.result c.loop-file-test.true c.file-item.is (search rules) c.loop-file.invariant

pub returns : goal.returns
returns c = found_nowhere c.args.files.now c.args.path.now c.loop-file.file-index c.loop-file-test.false c.loop-file.invariant
