use Rattle.std.proofs.Common.{◌≡◌, ℕ, All, true, take, map}
use Rattle.std.specs.Global.{Vec}
use Rattle.coz_types.specs.Labels.{is_written}
use Rattle.line_index.specs.Lines.{path}
use Rattle.line_index.specs.Keys.{entries_view, texts}
use Rattle.line_index.proofs.paths.written_paths.Given as goal

abbrev pub invariant-loop-entry : goal.invariant-loop-entry
invariant-loop-entry l = (texts l.paths.items ≡ map path (entries_view (take l.entry-index l.entries))) × All (λ (text : Vec ℕ). is_written text.items ≡ true) l.paths.items
