use Rattle.std.proofs.Common.{rules, get_or}
use Rattle.coz_files.proofs.GatheredLemmas.{gathers_nothing}
use Rattle.profile_book.proofs.Gathering.{line_more, lines_whole}
use Rattle.page_values.specs.Labels.{html_byte}
use Rattle.page_cli.proofs.label.put_bytes.Goals as goal

pub loop-byte-init : goal.loop-byte-init
loop-byte-init g c = gathers_nothing c.args.out.now c.args.to.now

pub loop-byte-preserved : goal.loop-byte-preserved
loop-byte-preserved g c =
    line_more html_byte c.args.bytes.now c.loop-byte.byte-index (get_or c.args.bytes.now c.loop-byte.byte-index 0) c.loop-byte-test.true (search rules) c.loop-byte.invariant c.put_byte.ensures

pub returns : goal.returns
returns g c = lines_whole html_byte c.args.bytes.now c.loop-byte.byte-index c.loop-byte-test.false c.loop-byte.invariant
