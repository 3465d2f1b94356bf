use Rattle.std.proofs.Common.{◌≡◌, ◌++◌, ℕ, List, [], ◌∷◌, length, reverse, ap, sym, subst, ◌∙◌, append-nil, arith}
use Rattle.hart_handovers.specs.declared.path.Segment.{Segment}
use Rattle.hart_handovers.specs.Path.{Tile, back}
use Rattle.hart_handovers.proofs.Tiling.{step_passed, step_taken, tiles}
use Rattle.hart_handovers.proofs.path.path_back.Goals as goal
use Rattle.hart_handovers.proofs.path.path_back.Goals.{After-reverse}

pub loop-left-init : goal.loop-left-init
loop-left-init c = (
  omega arith,
  sym (ap (λ (ss : List Segment). back c.args.handovers.now c.args.hart.0 c.args.end (length c.args.handovers.now) ++ reverse ss) c.new-path.ensures.items ∙ append-nil _),
)

pub loop-left-preserved-then-handover-carrier : goal.loop-left-preserved-then-handover-carrier
loop-left-preserved-then-handover-carrier c = (
  let few = c.loop-left.invariant.0 in omega (arith, few),
  c.loop-left.invariant.1
      ∙ step_taken c.args.handovers.now c.loop-left.carrier.0 c.loop-left.to c.loop-left.left c.loop-left.path.items c.push.new.self.items c.loop-left-test.true c.if-handover-carrier.true
      (c.in_ok-push.ensures.items ∙ ap (λ (s : Segment). c.loop-left.path.items ++ s ∷ []) c.carried.ensures),
)

pub loop-left-preserved : goal.loop-left-preserved
loop-left-preserved c = (
  let few = c.loop-left.invariant.0 in omega (arith, few),
  c.loop-left.invariant.1
      ∙ ap (λ (ss : List Segment). ss ++ reverse c.loop-left.path.items)
      (step_passed c.args.handovers.now c.loop-left.carrier.0 c.loop-left.to c.loop-left.left c.loop-left-test.true c.if-handover-carrier.false),
)

reached : (c : After-reverse) → c.reverse.new.self.items ≡ back c.args.handovers.now c.args.hart.0 c.args.end (length c.args.handovers.now)
reached c = c.reverse.ensures.items ∙ sym (c.loop-left.invariant.1 ∙ ap (λ (n : ℕ). back c.args.handovers.now c.loop-left.carrier.0 c.loop-left.to n ++ reverse c.loop-left.path.items) none)
  where
    none : c.loop-left.left ≡ 0
    none = let end = c.loop-left-test.false in omega (arith, end)

pub returns-clause-back : goal.returns-clause-back
returns-clause-back c = reached c

pub returns-clause-tile : goal.returns-clause-tile
returns-clause-tile c = λ rooted begun past.
    subst (Tile 0 c.args.end) (sym (reached c))
    (tiles c.args.handovers.now rooted (length c.args.handovers.now) (omega arith) c.args.hart.0 c.args.end begun past)
