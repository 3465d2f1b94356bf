use Rattle.std.proofs.Common.{rules, Bool, ◌==◌, refl}
use Rattle.coz_types.specs.declared.record.Summary.{Summary}
use Rattle.page_values.proofs.Finds.{found_here, found_nowhere, still_ahead}
use Rattle.page_cli.proofs.runs.plain_run.Goals as goal

abbrev is_plain : Summary → Bool
is_plain s = s.speedup == 0

pub loop-summary-init : goal.loop-summary-init
loop-summary-init c = refl

pub loop-summary-preserved : goal.loop-summary-preserved
loop-summary-preserved c = still_ahead is_plain c.args.summaries.now c.loop-summary.summary-index c.summary-item.result c.loop-summary-test.true c.summary-item.is (search rules) c.loop-summary.invariant

pub returns-then-summary-eq0 : goal.returns-then-summary-eq0
returns-then-summary-eq0 c = found_here is_plain c.args.summaries.now c.loop-summary.summary-index c.summary-item.result c.loop-summary-test.true c.summary-item.is (search rules) c.loop-summary.invariant

pub returns : goal.returns
returns c = found_nowhere is_plain c.args.summaries.now c.loop-summary.summary-index c.loop-summary-test.false c.loop-summary.invariant
