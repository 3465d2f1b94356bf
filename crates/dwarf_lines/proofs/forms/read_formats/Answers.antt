use Rattle.std.proofs.Common.{arith, rules}
use Rattle.dwarf_lines.proofs.ListedLoops.{formats_next, formats_fault, formats_end}
use Rattle.dwarf_lines.proofs.forms.read_formats.Goals as goal

pub returns-in_err-next : goal.returns-in_err-next
returns-in_err-next c =
    let fault = formats_fault c.args.count c.loop.counter c.loop.formats.items c.loop.cursor c.in_err-next.field-0.0 _ (omega arith) c.in_err-next.ensures c.loop.invariant in
    search rules

pub loop-preserved : goal.loop-preserved
loop-preserved c =
    let next = formats_next c.args.count c.loop.counter c.loop.formats.items c.in_ok-next.next c.loop.cursor c.read_format.new.cursor _ (omega arith) c.in_ok-next.ensures c.loop.invariant in
    rw (c.in_ok-push.ensures.items) next

pub returns : goal.returns
returns c = formats_end c.loop.formats.items c.args.count c.loop.counter c.loop.cursor _ (omega arith) c.loop.invariant
