use Rattle.std.proofs.Common.{◌≡◌, ◌<◌, List, length, ap, subst, ◌∙◌, arith}
use Rattle.line_remap.specs.declared.location.Location.{Location}
use Rattle.line_regions.specs.Lines.{first_number, line_in, lines_at, number_at}
use Rattle.line_remap.specs.Marks.{marks_of}
use Rattle.line_regions.specs.Regions.{regions_of}
use Rattle.line_regions.proofs.Marking.{one_mark, some_number}
use Rattle.line_regions.proofs.lines.Lines.marks.Goals as goal

pub push_mark-requires-clause-numbered : goal.push_mark-requires-clause-numbered
push_mark-requires-clause-numbered c =
    let locations : List Location = c.deref.result.now in
    let k = c.loop-line.line in
    some_number c.args.regions.now c.requires (line_in (lines_at locations) k) c.number.result
    (c.number.ensures ∙ c.in_ok-claims.ensures.numbers k (omega (arith, c.loop-line-test.true, c.len-line-end.ensures, ap length c.deref.ensures.value)))

pub loop-line-preserved : goal.loop-line-preserved
loop-line-preserved c =
    let locations : List Location = c.self.inside.locations.items in
    let k = c.loop-line.line in
    let lt : k < length locations = omega (arith, c.loop-line-test.true, c.len-line-end.ensures) in
    let numbers : number_at c.in_ok-claims.claims k ≡ first_number (regions_of c.args.regions.now) (line_in (lines_at locations) k) =
    subst (λ (ps : List Location). k < length ps → number_at c.in_ok-claims.claims k ≡ first_number (regions_of c.args.regions.now) (line_in (lines_at ps) k)) c.deref.ensures.value (c.in_ok-claims.ensures.numbers k) lt in (
      one_mark locations (regions_of c.args.regions.now) k c.index.result.now c.number.result (marks_of c.loop-line.marks.items) (marks_of c.push_mark.new.marks.items) lt c.index.ensures (c.number.ensures ∙ numbers) c.loop-line.invariant.0 c.in_ok-push_mark.ensures.marks,
      c.in_ok-push_mark.ensures.right (length locations) lt c.loop-line.invariant.1,
    )
