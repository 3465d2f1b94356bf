use Rattle.std.proofs.Common.{◌<◌, length, arith, ◌∙◌, refl}
use Rattle.std.proofs.lemmas.List.{length-set}
use Rattle.timed_guest.proofs.WordLines.{none_yet, one_line_more}
use Rattle.timed_guest.proofs.lines.fill.Goals as goal

pub loop-place-init : goal.loop-place-init
loop-place-init c = record { same = refl; each = none_yet c.args.index.now c.args.start c.args.words.now.items }

pub loop-place-preserved : goal.loop-place-preserved
loop-place-preserved c =
    let line = c.line_of.result in
    let inside : c.loop-place.place < length c.loop-place.words.items = omega (arith, c.loop-place-test.true, c.len-place-end.ensures, c.loop-place.invariant.same) in
    record {
      same = length-set c.loop-place.words.items c.loop-place.place line ∙ c.loop-place.invariant.same;
      each = one_line_more c.args.index.now c.args.start c.loop-place.place c.loop-place.words.items line c.loop-place.invariant.each inside c.line_of.ensures;
    }
