use Rattle.std.proofs.Common.{◌≡◌, ℕ, ◌^◌, length, Option, sym, subst, arith}
use Rattle.line_regions.specs.Lines.{IsFirst}
use Rattle.line_regions.specs.Tree.{IsHeld}
use Rattle.line_regions.proofs.Nodes.{one_step}
use Rattle.line_regions.proofs.tree.first_within.Goals as goal

pub loop-end-preserved : goal.loop-end-preserved
loop-end-preserved c =
    let nodes = c.args.nodes.now in
    let wanted = c.args.wanted.now in
    let step = c.step_before-step.result in (
      subst (λ (o : Option ℕ). IsFirst (2 ^ 32) (IsHeld nodes wanted step.start (length nodes)) o) (sym c.least-first.ensures)
          (one_step nodes wanted (2 ^ 32) step.start c.loop-end.end (length nodes) c.loop-end.first step.first (omega (arith, c.step_before-step.ensures.forward)) c.loop-end.invariant.1 c.loop-end.invariant.0 c.step_before-step.ensures.first),
      omega (arith, c.step_before-step.ensures.forward, c.loop-end.invariant.1),
    )

pub returns : goal.returns
returns c =
    let nodes = c.args.nodes.now in
    let whole : c.loop-end.end ≡ 0 = omega (arith, c.loop-end-test.false) in
    subst (λ (n : ℕ). IsFirst (2 ^ 32) (IsHeld nodes c.args.wanted.now n (length nodes)) c.loop-end.first) whole c.loop-end.invariant.0
