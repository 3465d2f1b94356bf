use Rattle.std.proofs.Common.{◌≡◌, ℕ, ◌+◌, List, [], ◌∷◌, map, length, slice_get, Some, sym, ap, ap₂, subst, ◌∙◌, arith}
use Rattle.std.specs.Prelude.{All}
use Rattle.std.proofs.lemmas.List.{length-append, length-map, take_all}
use Rattle.std.proofs.lemmas.List.Elements.{All-push}
use Rattle.coz_types.specs.Labels.{Text, label_before}
use Rattle.line_index.specs.Lines.{Line, label}
use Rattle.line_remap.specs.declared.location.Location.{Location}
use Rattle.line_remap.specs.Locations.{line_of_location}
use Rattle.line_regions.specs.Lines.{IsSpelled, lines_at}
use Rattle.line_remap.specs.Marks.{has_zero, line_of_label}
use Rattle.line_regions.proofs.Spelling.{all_rise, lines_more, rise_more}
use Rattle.line_regions.proofs.lines.locations_of.Goals as goal

pub loop-line-preserved : goal.loop-line-preserved
loop-line-preserved c =
    let labels : List Text = map label c.args.index.now.lines in
    let text : Text = c.bytes.result.now in
    let location : Location = c.location_of.result in
    let locations : List Location = c.loop-line.locations.items in
    let new : List Location = c.push.new.self.items in
    let n = c.loop-line.line in
    let before = c.loop-line.invariant in
    let there : slice_get labels n ≡ Some text = c.label.ensures.label ∙ ap (λ (t : Text). Some t) (sym c.bytes.ensures) in
    let is : line_of_location location ≡ line_of_label text = ap₂ (λ (p : Text) (m : ℕ). let l : Line = record { path = p; number = m } in l) c.location_of.ensures.path c.location_of.ensures.number in
    let spelled : IsSpelled location = λ none. c.location_of.ensures.right (ap has_zero (sym c.location_of.ensures.path) ∙ none) in (
      lines_more labels n text locations new location there is c.in_ok-push.ensures.items before.0,
      rise_more labels n text there before.1 (λ earlier other less at. ap (label_before other) c.bytes.ensures ∙ c.label.ensures.rises earlier other less at),
      subst (λ (ps : List Location). All IsSpelled ps) (sym c.in_ok-push.ensures.items) (All-push IsSpelled locations location before.2 spelled),
      ap (λ (ps : List Location). length ps) c.in_ok-push.ensures.items ∙ length-append locations (location ∷ []) ∙ ap (λ (m : ℕ). m + 1) before.3,
    )

pub returns-clause-rising : goal.returns-clause-rising
returns-clause-rising c =
    let labels : List Text = map label c.args.index.now.lines in
    let n = c.loop-line.line in
    let whole : n ≡ length labels = omega (arith, c.loop-line-test.false, c.loop-line.auto, c.count-line-end.ensures, length-map c.args.index.now.lines label) in
    all_rise labels (lines_at c.loop-line.locations.items) n whole c.loop-line.invariant.1 (c.loop-line.invariant.0 ∙ ap (map line_of_label) (take_all n labels (omega (arith, whole))))
