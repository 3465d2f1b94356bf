use Rattle.std.proofs.Common.{◌-◌, ◌<◌, arith}
use Rattle.line_regions.proofs.Heads.{alike_paths, same_paths}
use Rattle.line_regions.proofs.endings.is_head.Goals as goal

pub returns : goal.returns
returns c =
    let some : 0 < c.args.offset = omega (arith, c.if-offset-eq0.false) in (
      λ no. (some, same_paths c.args.locations.now (c.args.offset - 1) c.args.offset _ _ c.ne.result (omega (arith, c.requires)) c.requires c.ne.ensures no),
      λ h. alike_paths c.args.locations.now (c.args.offset - 1) c.args.offset _ _ c.ne.result (omega (arith, c.requires)) c.requires c.ne.ensures h.1,
    )
