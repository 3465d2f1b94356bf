use Rattle.std.proofs.Common.{◌-◌, ◌<◌, [], length, sym, arith, rules}
use Rattle.std.proofs.lemmas.List.{get_or-map, length-map}
use denote.Ref.{Bor}
use Rattle.coz_types.specs.Labels.{Text}
use Rattle.page_values.specs.Lines.{texts}
use Rattle.page_values.proofs.Placed.{none_seen, one_seen}
use Rattle.page_values.proofs.lines.LinePlaces.of.Goals as goal

pub loop-place-init : goal.loop-place-init
loop-place-init c =
    none_seen (texts c.args.labels.now) _ c.new-first.result c.in_ok-after.after.items (sym (length-map c.args.labels.now (λ (l : Bor Text). l.now))) c.new-first.ensures.empty (search rules)

pub loop-place-preserved : goal.loop-place-preserved
loop-place-preserved c =
    let labels = c.args.labels.now in
    let text : Bor Text → Text = λ l. l.now in
    let inside : c.loop-place.place - 1 < length labels = omega (arith, c.loop-place-test.true, c.loop-place.invariant.as_many, length-map labels text) in
    one_seen (texts labels) (c.loop-place.place - 1) c.loop-place.place (record { ref_ptr = (0, 0); now = _ }) c.loop-place.first c.insert.new.self c.loop-place.after.items c.in_ok-next.next (omega (arith, c.loop-place-test.true)) (omega (arith, inside, length-map labels text))
    (sym (get_or-map text labels (c.loop-place.place - 1) _ [] inside))
    c.in_ok-next.ensures.old c.in_ok-next.ensures.updates c.loop-place.invariant
