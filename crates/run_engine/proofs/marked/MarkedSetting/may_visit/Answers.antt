use Rattle.std.proofs.Common.{◌≡◌, false, None, subst, sym, ◌∙◌}
use Rattle.progress_points.specs.Points.{point_of}
use Rattle.run_engine.specs.declared.choice.Setting.{Setting}
use Rattle.run_engine.proofs.marked.MarkedSetting.may_visit.Goals as goal

pub returns-in-Some : goal.returns-in-Some
returns-in-Some c =
    subst (λ (s : Setting). c.in-Some.mark.point ≡ false → point_of s.points.now c.args.address ≡ None) c.self.view_is
    (c.self.invariant.right c.args.address c.in-Some.mark (sym c.at.ensures ∙ c.in-Some.is)).point
