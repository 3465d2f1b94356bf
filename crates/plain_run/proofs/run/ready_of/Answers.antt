use Rattle.std.proofs.Common.{ℕ, List, [], ◌∷◌, ◌++◌, ◌∙◌, ap, ap₂, sym, arith}
use Rattle.std.proofs.lemmas.List.FromFn.{map-range_with_len_more}
use Rattle.ready_ticks.specs.Waits.{ticks_at, wait_of}
use Rattle.plain_run.proofs.run.ready_of.Goals as goal

pub loop-number-preserved : goal.loop-number-preserved
loop-number-preserved c =
    c.in_ok-push.ensures.items
    ∙ ap₂ (λ (xs : List ℕ) (t : ℕ). xs ++ t ∷ []) c.loop-number.invariant (c.ticks-ticks.ensures ∙ ap (λ (m : ℕ). ticks_at m (wait_of c.args.waits.now c.loop-number.number)) c.time.ensures)
    ∙ sym (map-range_with_len_more (λ hart. ticks_at c.args.engine.now.time (wait_of c.args.waits.now hart)) 0 c.loop-number.number c.loop-number.number (omega arith))
