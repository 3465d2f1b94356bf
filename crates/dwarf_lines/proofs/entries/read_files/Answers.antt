use Rattle.std.proofs.Common.{◌∙◌, sym, arith, rules}
use Rattle.std.proofs.lemmas.List.{map-append}
use Rattle.dwarf_lines.specs.Registers.{texts_view, files_view, file_view}
use Rattle.dwarf_lines.proofs.Shorter.{text_less, named_less}
use Rattle.dwarf_lines.proofs.Loops.{is_nothing, is_something, files_next, files_end, files_fault, named_fault}
use Rattle.dwarf_lines.proofs.entries.read_files.Goals as goal

pub returns-in_err-name : goal.returns-in_err-name
returns-in_err-name c =
    let fault = files_fault (texts_view c.args.directories.now) (files_view c.loop-files.files.items) c.loop-files.cursor c.in_err-name.field-0.0 _ c.in_err-name.ensures c.loop-files.invariant in
    search rules

pub returns-then-is_empty : goal.returns-then-is_empty
returns-then-is_empty c =
    files_end (texts_view c.args.directories.now) (files_view c.loop-files.files.items) c.in_ok-name.name.now c.loop-files.cursor c.text.new.cursor _ (is_nothing c.in_ok-name.name.now (sym c.is_empty.ensures ∙ c.if-is_empty.true)) c.in_ok-name.ensures c.loop-files.invariant

pub returns-in_err-file : goal.returns-in_err-file
returns-in_err-file c =
    let some = is_something c.in_ok-name.name.now (sym c.is_empty.ensures ∙ c.if-is_empty.false) in
    let fault = named_fault (texts_view c.args.directories.now) (files_view c.loop-files.files.items) c.in_ok-name.name.now c.loop-files.cursor c.text.new.cursor c.in_err-file.field-0.0 _ some c.in_ok-name.ensures c.in_err-file.ensures c.loop-files.invariant in
    search rules

pub loop-files-smaller : goal.loop-files-smaller
loop-files-smaller c =
    let text = text_less c.loop-files.cursor c.text.new.cursor c.in_ok-name.name.now c.in_ok-name.ensures in
    let rest = named_less (texts_view c.args.directories.now) c.in_ok-name.name.now c.text.new.cursor c.named.new.cursor _ c.in_ok-file.ensures in
    omega arith

pub loop-files-preserved : goal.loop-files-preserved
loop-files-preserved c =
    let some = is_something c.in_ok-name.name.now (sym c.is_empty.ensures ∙ c.if-is_empty.false) in
    let next = files_next (texts_view c.args.directories.now) (files_view c.loop-files.files.items) c.in_ok-name.name.now (file_view c.in_ok-file.file) c.loop-files.cursor c.text.new.cursor c.named.new.cursor _ some c.in_ok-name.ensures c.in_ok-file.ensures c.loop-files.invariant in
    rw (c.in_ok-push.ensures.items, map-append) next
