use Rattle.std.proofs.Common.{◌-◌, ◌/◌, arith, subst, sym}
use Rattle.hart_steps.specs.Code.{CodeMap, IsCodeOf, IsIntact}
use Rattle.hart_steps.proofs.Intact.{word_intact}
use Rattle.hart_steps.proofs.code.Code.word.Goals as goal

pub returns-then-place-self : goal.returns-then-place-self
returns-then-place-self c =
    let s = c.self.inside in
    let m = c.args.memory.now in
    let code : CodeMap = record { image = s.image.now; layout = s.layout; start = s.start; count = s.count } in
    word_intact code s.words.items m c.args.address ((c.args.address - s.start) / 4) c.index.result.now c.index.result.now
    c.self.invariant
    (subst (λ (x : CodeMap). IsCodeOf x m) (sym c.self.view_is) c.requires.of)
    (subst (λ (x : CodeMap). IsIntact x m) (sym c.self.view_is) c.requires.intact)
    c.if-place-self.true (omega (arith, c.if-address-self.false, c.if-apart-eq0.true)) c.index.ensures
