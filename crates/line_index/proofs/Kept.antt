-- What an index keeps of its lines.
use Rattle.std.proofs.Common.{◌≡◌, ℕ, ◌<◌, List, map, length, slice_get, get_or, Some, sym, ap, ◌∙◌}
use Rattle.std.specs.Global.{Vec}
use Rattle.std.specs.Ordering.{nat_cmp}
use Rattle.std.specs.Cmp.Lexicographic.{slice_cmp}
use Rattle.std.specs.List.Sorted.{IsStrictlySortedBy}
use Rattle.std.proofs.lemmas.List.{length-map}
use Rattle.std.proofs.lemmas.Option.{slice_get_read}
use Rattle.std.proofs.lemmas.List.Elements.{recursion_from_All}
use Rattle.coz_types.specs.Labels.{Text}
use Rattle.line_index.specs.declared.LineIndex.TheInside.{Inside}
use Rattle.line_index.specs.Lines.{Line, label, line_cmp}
use Rattle.line_index.specs.Keys.{HasPath, texts}
use Rattle.line_index.specs.View.{IsWhole, index_view}
use Rattle.line_index.proofs.Order.{sorted_map, lines_in_order}

pub lines_kept : (inside : Inside) → IsWhole inside → IsStrictlySortedBy line_cmp (index_view inside).lines
lines_kept inside whole =
    lines_in_order (texts inside.paths.items) inside.lines.items
    (sorted_map (λ (path : Vec ℕ). path.items) (slice_cmp nat_cmp) inside.paths.items whole.paths_rise)
    (recursion_from_All (HasPath (texts inside.paths.items)) inside.lines.items whole.have_paths)
    whole.keys_rise

-- the label that is read is the line's
pub label_kept : (inside : Inside) (k : ℕ) (text : Text) → IsWhole inside → k < length (index_view inside).lines → text ≡ get_or inside.labels.items k text → slice_get (map label (index_view inside).lines) k ≡ Some text
label_kept inside k text whole within is =
    let lines : List Line = (index_view inside).lines in
    let many : length inside.labels.items ≡ length lines = ap length whole.labels ∙ length-map lines label in
    ap (λ labels. slice_get labels k) (sym whole.labels) ∙ slice_get_read inside.labels.items (length lines) k text (sym many) within is
