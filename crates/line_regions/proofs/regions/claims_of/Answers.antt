use Rattle.std.proofs.Common.{[], get_or, ◌∙◌}
use Rattle.std.proofs.lemmas.List.{get_or_default}
use Rattle.line_regions.specs.declared.lines.Region.{Region}
use Rattle.line_regions.proofs.Marking.{one_region}
use Rattle.line_regions.proofs.regions.claims_of.Goals as goal

abbrev zero_region : Region
zero_region = record { path = record { ref_ptr = (0, 0); now = [] }; first = 0; last = 0 }

pub loop-region-preserved : goal.loop-region-preserved
loop-region-preserved c =
    let regions = c.args.regions.now in
    let i = c.loop-region.region-index in
    let r : Region = get_or regions i zero_region in (
      c.claim_all.ensures.as_many ∙ c.loop-region.invariant.0,
      one_region c.args.locations.now regions i r c.loop-region.claims c.claim_all.new.self c.span_of-span.result.start c.span_of-span.result.end c.loop-region-test.true (get_or_default regions i zero_region r c.loop-region-test.true)
          c.loop-region.invariant.1 c.span_of-span.ensures.span c.claim_all.ensures.within c.claim_all.ensures.others,
    )
