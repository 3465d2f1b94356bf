use Rattle.std.proofs.Common.{◌%◌, [], ◌∷◌, inl, inr, ap, ◌∙◌, refl, arith}
use Rattle.work_gen.specs.Text.{line_saying, draw_of, next}
use Rattle.work_gen.proofs.BlockTexts.{turning_text, locking_text, below_four, looped, locked, drawn_is}
use Rattle.work_gen.proofs.kinds.drawn_block.Goals as goal
use Rattle.work_gen.proofs.kinds.drawn_block.Goals.{then-number-lt2, else-number-lt2}

pub returns : goal.returns
returns c =
    drawn_is c.args.state c.draw-after.result.1 c.draw-turned.result.1 _ _ c.draw-after.ensures.number (c.draw-turned.ensures.number ∙ ap (λ s. draw_of (next s)) c.draw-after.ensures.after)
    (elim (below_four (c.draw-after.result.1 % 4) (omega arith)) [
      | inl e ↦ rw e (record { text = λ i state after. turning_text (line_saying "mul t1, t1, t0") _ i; lines = λ i state. refl })
      | inr (inl e) ↦ rw e (record { text = λ i state after. turning_text (line_saying "div t1, t1, t0") _ i; lines = λ i state. refl })
      | inr (inr (inl e)) ↦ rw e (record { text = λ i state after. locking_text [] i; lines = λ i state. refl })
      | inr (inr (inr e)) ↦ rw e (record { text = λ i state after. locking_text (line_saying "div t3, t3, t0" ∷ []) i; lines = λ i state. refl })
    ])
    (λ i. elim c.if-number-lt2.branch [
      | then-number-lt2 w ↦ w.result-is ∙ c.draw-turned.ensures.after ∙ ap next c.draw-after.ensures.after ∙ looped _ i (next c.args.state) w.if-number-lt2.true
      | else-number-lt2 w ↦ w.result-is ∙ c.draw-after.ensures.after ∙ locked _ i (next c.args.state) w.if-number-lt2.false
    ])
