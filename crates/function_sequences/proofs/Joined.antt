-- All sequences: those of marks before those of functions.
use Rattle.std.proofs.Common.{◌≡◌, List, [], ◌++◌, sym, ap, ◌∙◌, subst}
use Rattle.std.specs.Prelude.{All}
use Rattle.std.proofs.lemmas.List.Elements.{All-append}
use Rattle.coz_types.specs.Image.{ImageParts}
use Rattle.line_index.specs.Index.{Index}
use Rattle.line_write.specs.Unit.{IsWritable, Sequence}
use Rattle.line_remap.specs.Marks.{Mark}
use Rattle.line_remap.specs.Runs.{Adds, AreKept}
use Rattle.function_sequences.specs.Sequences.{AreFunctions, AreSequences, falling, functions_in, names_in}

pub joined : (image : ImageParts) (index : Index) (marks : List Mark) (first mid new : List Sequence) → first ≡ [] → Adds (AreKept index marks) first mid → Adds (AreFunctions index (names_in image.file) (falling (functions_in image))) mid new → AreSequences image index marks new
joined image index marks first mid new none kept own =
    (kept.more, own.more, own.whole ∙ ap (λ ss. ss ++ own.more) (kept.whole ∙ ap (λ ss. ss ++ kept.more) none), kept.are, own.are)

pub joined_writable : (Are Others : List Sequence → Type 0) (first mid new : List Sequence) → first ≡ [] → Adds Are first mid → Adds Others mid new → All IsWritable new
joined_writable Are Others first mid new none kept own =
    subst (λ ss. All IsWritable ss) (sym (own.whole ∙ ap (λ ss. ss ++ own.more) (kept.whole ∙ ap (λ ss. ss ++ kept.more) none)))
    (All-append IsWritable kept.more own.more kept.writable own.writable)
