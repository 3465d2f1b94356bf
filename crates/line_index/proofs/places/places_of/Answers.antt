use Rattle.std.proofs.Common.{ℕ, Option, List, length, All, Contains, sym, ap, ◌∙◌, subst}
use Rattle.std.specs.Global.{Vec}
use Rattle.dwarf_lines.specs.Registers.{File, files_view}
use Rattle.line_index.specs.declared.entry.Entry.{Entry}
use Rattle.line_index.specs.Lines.{path}
use Rattle.line_index.specs.Keys.{ArePlaces, entries_view, texts}
use Rattle.line_index.proofs.Placing.{many_places}
use Rattle.line_index.proofs.places.places_of.Goals as goal

pub path_positions-requires-clause-each : goal.path_positions-requires-clause-each
path_positions-requires-clause-each c =
    subst (λ (paths : List (Vec ℕ)). All (λ (file : File). Contains (texts paths) (path file)) (entries_view c.deref-3.result.now)) (sym c.deref-2.ensures.value)
    (subst (λ (entries : List Entry). All (λ (file : File). Contains (texts c.in_ok-paths.paths.items) (path file)) (entries_view entries)) (c.deref.ensures.value ∙ sym c.deref-3.ensures.value) c.in_ok-paths.ensures.each)

pub file_positions-requires-clause-each : goal.file_positions-requires-clause-each
file_positions-requires-clause-each c =
    subst (λ (entries : List Entry). All (Contains (entries_view entries)) (files_view c.args.files.now)) (sym c.deref-4.ensures.value) c.in_ok-distinct.ensures.each

pub file_positions-requires-clause-as_many : goal.file_positions-requires-clause-as_many
file_positions-requires-clause-as_many c = ap length c.deref-5.ensures.value ∙ many_places c.deref-2.result.now c.in_ok-ranks.ranks.items c.deref-3.result.now c.in_ok-ranks.ensures ∙ ap length (c.deref-3.ensures.value ∙ sym c.deref-4.ensures.value)

pub returns-clause-placed : goal.returns-clause-placed
returns-clause-placed c =
    c.in_ok-positions.ensures c.in_ok-paths.paths.items
    (subst (λ (paths : List (Vec ℕ)). ArePlaces paths c.deref-5.result.now (entries_view c.deref-4.result.now)) c.deref-2.ensures.value
    (subst (λ (positions : List (Option ℕ)). ArePlaces c.deref-2.result.now positions (entries_view c.deref-4.result.now)) (sym c.deref-5.ensures.value)
    (subst (λ (entries : List Entry). ArePlaces c.deref-2.result.now c.in_ok-ranks.ranks.items (entries_view entries)) (c.deref-3.ensures.value ∙ sym c.deref-4.ensures.value) c.in_ok-ranks.ensures)))
