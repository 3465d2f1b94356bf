use Rattle.std.proofs.Common.{◌+◌, drop, ap, ◌∙◌, arith, rules}
use Rattle.dwarf_lines.specs.Names.{Entry}
use Rattle.dwarf_lines.specs.Views.{value_view, entry_view, strings_view}
use Rattle.dwarf_lines.proofs.ListedLoops.{rest_of, loop_next, loop_fault, loop_end}
use Rattle.dwarf_lines.proofs.listed.read_entry.Goals as goal

pub returns-in_err-value : goal.returns-in_err-value
returns-in_err-value c =
    let fault = loop_fault (strings_view c.args.strings.now) c.args.formats.now c.loop-i.i _ (entry_view c.loop-i.entry) c.loop-i.cursor c.in_err-value.field-0.0 _ (omega arith) c.in_err-value.ensures c.loop-i.invariant in
    search rules

pub loop-i-preserved : goal.loop-i-preserved
loop-i-preserved c =
    let next = loop_next (strings_view c.args.strings.now) c.args.formats.now c.loop-i.i _ (value_view c.in_ok-value.value) (entry_view c.loop-i.entry) c.loop-i.cursor c.read_value.new.cursor _ (omega arith) c.in_ok-value.ensures c.loop-i.invariant in
    ap (λ (e : Entry). rest_of (strings_view c.args.strings.now) (drop (c.loop-i.i + 1) c.args.formats.now) e c.read_value.new.cursor) c.with_value-entry.ensures ∙ next

pub returns : goal.returns
returns c = loop_end (strings_view c.args.strings.now) c.args.formats.now c.loop-i.i (entry_view c.loop-i.entry) c.loop-i.cursor _ (omega arith) c.loop-i.invariant
