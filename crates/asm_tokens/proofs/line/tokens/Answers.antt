use Rattle.std.proofs.Common.{◌+◌, ◌-◌, length, map, drop, ap, sym, ◌∙◌, subst, arith}
use Rattle.std.proofs.lemmas.List.{map-append}
use Rattle.asm_tokens.specs.Tokens.{tokens, tokens_from}
use Rattle.asm_tokens.specs.Views.{front_of, token_of, placed_of, with_front, IsWithin}
use Rattle.asm_tokens.proofs.Skips.{over_blank, over_token, at_wrong}
use Rattle.asm_tokens.proofs.line.tokens.Goals as goal

pub loop-i-preserved-in-Blank : goal.loop-i-preserved-in-Blank
loop-i-preserved-in-Blank c =
    (omega (arith, c.loop-i-test.true), over_blank (map placed_of c.loop-i.out.items) c.loop-i.i c.args.line.now (sym c.in_ok-begins_at.ensures.value ∙ ap (front_of token_of) c.in-Blank.is) c.loop-i.invariant.1)

pub loop-i-preserved : goal.loop-i-preserved
loop-i-preserved c =
    let within = subst (λ f. IsWithin f (length c.args.line.now - c.loop-i.i)) c.in-Begins.is c.in_ok-begins_at.ensures.within in
    let pushed = ap (map placed_of) c.in_ok-push-in-Begins.ensures.items ∙ map-append placed_of c.loop-i.out.items _ in (
      omega (arith, within, c.loop-i-test.true),
      ap (λ xs. with_front xs (tokens_from (c.loop-i.i + c.in-Begins.bytes + 1) 0 (drop (c.loop-i.i + c.in-Begins.bytes) c.args.line.now))) pushed
          ∙ over_token (map placed_of c.loop-i.out.items) c.loop-i.i c.in-Begins.bytes c.args.line.now (token_of c.in-Begins.token) within.0 (sym c.in_ok-begins_at.ensures.value ∙ ap (front_of token_of) c.in-Begins.is) c.loop-i.invariant.1,
    )

pub returns-in-Wrong : goal.returns-in-Wrong
unfolding tokens
returns-in-Wrong c = at_wrong (map placed_of c.loop-i.out.items) c.loop-i.i c.args.line.now (omega (arith, c.loop-i-test.true)) (sym c.in_ok-begins_at.ensures.value ∙ ap (front_of token_of) c.in-Wrong.is) c.loop-i.invariant.1
