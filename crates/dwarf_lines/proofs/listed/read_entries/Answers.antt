use Rattle.std.proofs.Common.{arith, rules}
use Rattle.std.proofs.lemmas.List.{map-append}
use Rattle.dwarf_lines.specs.Views.{entry_view, entries_view, strings_view}
use Rattle.dwarf_lines.proofs.ListedLoops.{entries_next, entries_fault, entries_end}
use Rattle.dwarf_lines.proofs.listed.read_entries.Goals as goal

pub returns-in_err-next : goal.returns-in_err-next
returns-in_err-next c =
    let fault = entries_fault (strings_view c.args.strings.now) c.args.formats.now c.args.count c.loop.counter (entries_view c.loop.entries.items) c.loop.cursor c.in_err-next.field-0.0 _ (omega arith) c.in_err-next.ensures c.loop.invariant in
    search rules

pub loop-preserved : goal.loop-preserved
loop-preserved c =
    let next = entries_next (strings_view c.args.strings.now) c.args.formats.now c.args.count c.loop.counter (entries_view c.loop.entries.items) (entry_view c.in_ok-next.next) c.loop.cursor c.read_entry.new.cursor _ (omega arith) c.in_ok-next.ensures c.loop.invariant in
    rw (c.in_ok-push.ensures.items, map-append) next

pub returns : goal.returns
returns c = entries_end (strings_view c.args.strings.now) c.args.formats.now (entries_view c.loop.entries.items) c.args.count c.loop.counter c.loop.cursor _ (omega arith) c.loop.invariant
