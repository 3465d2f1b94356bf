use Rattle.std.proofs.Common.{◌≡◌, ℕ, List, ◌∷◌, ◌++◌, Option, Some, ap, ap₂, sym, ◌∙◌}
use Rattle.std.specs.Global.{Vec}
use Rattle.coz_types.specs.Labels.{written}
use Rattle.line_index.specs.Lines.{Line}
use Rattle.line_write.specs.declared.Sequence.{Sequence}
use Rattle.line_write.specs.Lines.{line_of_sequence}
use Rattle.line_write.specs.Unit.{view}
use Rattle.line_remap.specs.declared.location.Location.{Location}
use Rattle.line_remap.specs.Locations.{lines_of}
use Rattle.function_sequences.specs.Labels.{labelled}
use Rattle.function_sequences.proofs.labels.function_sequence.Goals as goal

below_line : (name : List ℕ) (found : Option Location) (location : Location) (s : Sequence) (path : Vec ℕ) → found ≡ Some location → s.path ≡ path → s.number ≡ location.number → written path.items ≡ location.path.now ++ 47 ∷ written name
    → line_of_sequence (view s) ≡ labelled name (lines_of found)
below_line name found location s path is has_path has_number below =
    ap₂ (λ (p : List ℕ) (n : ℕ). let line : Line = record { path = p; number = n } in line) (ap (λ (v : Vec ℕ). written v.items) has_path ∙ below) has_number
    ∙ ap (λ (o : Option Location). labelled name (lines_of o)) (sym is)

pub returns-in_ok-path-in-Some-clause-line : goal.returns-in_ok-path-in-Some-clause-line
returns-in_ok-path-in-Some-clause-line c =
    below_line c.args.name.now c.args.location c.in-Some.location c.sequence_with.result c.in_ok-path-in-Some.path c.in-Some.is c.sequence_with.ensures.path c.sequence_with.ensures.number c.in_ok-path-in-Some.ensures.written
