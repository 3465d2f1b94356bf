use Rattle.std.proofs.Common.{◌^◌, refl, arith}
use Rattle.line_regions.proofs.Found.{first_below_of, none_below}
use Rattle.line_regions.specs.Regions.{region_of}
use Rattle.line_regions.proofs.lines.first_below.Goals as goal

pub returns-then-stretch : goal.returns-then-stretch
returns-then-stretch c =
    none_below c.args.locations.now c.args.heads.now c.args.nodes.now (region_of c.args.region.now) c.stretch_of-stretch.result.start c.stretch_of-stretch.result.end c.requires.nodes c.stretch_of-stretch.ensures.stretch (omega (arith, c.if-stretch.true))

pub returns : goal.returns
returns c =
    first_below_of c.args.locations.now c.args.heads.now c.args.nodes.now (region_of c.args.region.now) _ c.stretch_of-stretch.result.start c.stretch_of-stretch.result.end c.requires.nodes c.stretch_of-stretch.ensures.stretch
    refl (omega (arith, c.if-stretch.false)) refl refl (2 ^ 32) c.first_within.result (omega (arith, c.requires.few)) c.first_within.ensures
