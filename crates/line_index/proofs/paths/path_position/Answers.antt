use Rattle.std.proofs.Common.{◌≡◌, ◌==◌, ℕ, List, length, false, ◌∙◌, sym, ap}
use Rattle.line_index.specs.Lines.{path}
use Rattle.line_index.proofs.Found.{path_not_missed, place_found}
use Rattle.line_index.specs.Keys.{entry_view}
use Rattle.line_index.proofs.paths.path_position.Goals as goal

pub returns-in-Ok : goal.returns-in-Ok
returns-in-Ok c =
    let some : (length c.in_ok-written.written.items == 0) ≡ false = ap (λ (text : List ℕ). length text == 0) (sym c.as_slice.ensures.value) ∙ sym c.is_empty.ensures ∙ c.if-is_empty.false in
    place_found c.args.paths.now c.in_ok-written.written (entry_view c.args.entry.now) c.in-Ok.at c.in_ok-written.ensures.path some c.in-Ok.ensures.bound c.in-Ok.ensures.ok

pub returns : goal.returns
returns c = absurd (path_not_missed c.args.paths.now c.in_ok-written.written (path (entry_view c.args.entry.now)) c.binary_search.result _ c.requires.in_order c.requires.one c.in_ok-written.ensures.path c.binary_search.ensures.position c.in-Err.is)
