use Rattle.std.proofs.Common.{◌≡◌, ◌<◌, Some, map, slice_get, length, sym, subst}
use Rattle.line_index.specs.Lines.{label}
use Rattle.line_index.specs.Index.{Index}
use Rattle.line_index.specs.View.{index_view}
use Rattle.line_index.proofs.Kept.{lines_kept, label_kept}
use Rattle.line_index.proofs.Labelled.{right_label, labels_rise}
use Rattle.line_index.proofs.LineIndex.label.Goals as goal

pub returns-clause-right : goal.returns-clause-right
returns-clause-right c =
    let within = subst (λ (index : Index). c.args.line.0 < length index.lines) (sym c.self.view_is) c.requires in
    right_label (index_view c.self.inside).lines c.args.line.0 c.index.result.now c.self.invariant.right (label_kept c.self.inside c.args.line.0 c.index.result.now c.self.invariant within c.index.ensures)

pub returns-clause-rises : goal.returns-clause-rises
returns-clause-rises c =
    let within = subst (λ (index : Index). c.args.line.0 < length index.lines) (sym c.self.view_is) c.requires in
    λ earlier other lt e.
    labels_rise (index_view c.self.inside).lines earlier c.args.line.0 other c.index.result.now (lines_kept c.self.inside c.self.invariant) c.self.invariant.right lt
    (subst (λ (index : Index). slice_get (map label index.lines) earlier ≡ Some other) (sym c.self.view_is) e)
    (label_kept c.self.inside c.args.line.0 c.index.result.now c.self.invariant within c.index.ensures)
