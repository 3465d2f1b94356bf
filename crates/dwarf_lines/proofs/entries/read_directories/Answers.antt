use Rattle.std.proofs.Common.{◌∙◌, sym, rules}
use Rattle.std.proofs.lemmas.List.{map-append}
use Rattle.dwarf_lines.specs.Registers.{texts_view}
use Rattle.dwarf_lines.proofs.Loops.{is_nothing, is_something, texts_next, texts_end, texts_fault}
use Rattle.dwarf_lines.proofs.entries.read_directories.Goals as goal

pub returns-in_err-directory : goal.returns-in_err-directory
returns-in_err-directory c =
    let fault = texts_fault (texts_view c.loop-directories.directories.items) c.loop-directories.cursor c.in_err-directory.field-0.0 _ c.in_err-directory.ensures c.loop-directories.invariant in
    search rules

pub returns-then-is_empty : goal.returns-then-is_empty
returns-then-is_empty c =
    texts_end (texts_view c.loop-directories.directories.items) c.in_ok-directory.directory.now c.loop-directories.cursor c.text.new.cursor _ (is_nothing c.in_ok-directory.directory.now (sym c.is_empty.ensures ∙ c.if-is_empty.true)) c.in_ok-directory.ensures c.loop-directories.invariant

pub loop-directories-preserved : goal.loop-directories-preserved
loop-directories-preserved c =
    let some = is_something c.in_ok-directory.directory.now (sym c.is_empty.ensures ∙ c.if-is_empty.false) in
    let next = texts_next (texts_view c.loop-directories.directories.items) c.in_ok-directory.directory.now c.loop-directories.cursor c.text.new.cursor _ some c.in_ok-directory.ensures c.loop-directories.invariant in
    rw (c.in_ok-push.ensures.items, map-append) next
