use Rattle.std.proofs.Common.{ℕ, ◌<◌, length, List, [], ◌∷◌, ap, sym, subst, ◌∙◌, arith}
use Rattle.std.specs.Global.{Vec}
use Rattle.std.proofs.lemmas.List.{length-append}
use Rattle.line_regions.specs.Lines.{HasPathOf}
use Rattle.line_regions.proofs.Heads.{head_kept, head_pushed}
use Rattle.line_regions.proofs.endings.first_locations.Goals as goal
use Rattle.line_regions.proofs.endings.first_locations.Goals.{then-is_head+in_ok-push, else-is_head}

pub loop-offset-preserved : goal.loop-offset-preserved
loop-offset-preserved c = elim c.if-is_head.branch [
  | then-is_head+in_ok-push w ↦
      let made = ap (λ (v : Vec ℕ). v.items) w.list-is ∙ w.in_ok-push.ensures.items in (
        head_pushed c.args.locations.now c.loop-offset.list.items c.if-is_head.list.items c.loop-offset.offset c.loop-offset.invariant.0 made,
        omega (arith, ap (λ (list : List ℕ). length list) made, length-append c.loop-offset.list.items (c.loop-offset.offset ∷ []), c.loop-offset.invariant.1),
      )
  | else-is_head w ↦ (
    head_kept c.args.locations.now c.if-is_head.list.items c.loop-offset.offset
        (subst (λ (v : Vec ℕ). (k : ℕ) → k < c.loop-offset.offset → HasPathOf c.args.locations.now v.items k) (sym w.list-is) c.loop-offset.invariant.0) (c.is_head.ensures.0 w.if-is_head.false),
    omega (arith, ap (λ (v : Vec ℕ). length v.items) w.list-is, c.loop-offset.invariant.1),
  )
]
