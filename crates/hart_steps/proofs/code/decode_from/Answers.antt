use Rattle.std.proofs.Common.{◌≡◌, ◌+◌, ◌*◌, ◌<◌, length, arith, sym, ap, Some, ◌∙◌, ℕ}
use Rattle.std.proofs.lemmas.List.{length-set}
use Rattle.hart_steps.specs.Words.{IsWordAt}
use Rattle.hart_steps.proofs.Intact.{one_word_more}
use Rattle.hart_steps.proofs.code.decode_from.Goals as goal

pub loop-k-preserved : goal.loop-k-preserved
loop-k-preserved c =
    let w = c.decoded.result in
    let at : IsWordAt c.args.memory.now (c.args.start + 4 * c.loop-k.k) w = record { fetched = sym c.in-Ok.ensures ∙ ap (λ (raw : ℕ). Some raw) (sym c.decoded.ensures.raw); is = c.decoded.ensures.word } in
    let inside : c.loop-k.k < length c.loop-k.words.items = omega (arith, c.loop-k-test.true, c.len-k-end.ensures, c.loop-k.invariant.same) in
    record {
      same = length-set c.loop-k.words.items c.loop-k.k w ∙ c.loop-k.invariant.same;
      each = one_word_more c.args.memory.now c.args.start c.loop-k.k c.loop-k.words.items w c.loop-k.invariant.each inside at;
    }
