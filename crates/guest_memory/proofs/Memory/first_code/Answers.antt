use Rattle.std.proofs.Common.{◌+◌, ◌*◌, ◌<◌, ◌≤◌, true, length, get_or, subst, sym, refl, arith}
use Rattle.guest_memory.specs.declared.Span.{Span}
use Rattle.guest_memory.specs.Memory.{IsFirstFrom}
use Rattle.guest_memory.specs.Marks.{AreClean}
use Rattle.guest_memory.proofs.Laid.{stands}
use Rattle.guest_memory.proofs.Untouched.{first_from, first_low}
use Rattle.guest_memory.proofs.Memory.first_code.Goals as goal

pub is_clean-requires : goal.is_clean-requires
is_clean-requires c =
    let s = c.self.inside in
    let d = c.index-span.result.now in
    let t = stands 0 0 s.spans.items s.code d c.self.invariant.0.sound.laid c.self.invariant.1 in
    let within : (get_or s.spans.items s.code d).at + (get_or s.spans.items s.code d).count ≤ length s.pages.each.items = omega (arith, t.within, c.self.invariant.0.sound.each_page) in
    subst (λ (x : Span). x.at + x.count ≤ length s.pages.each.items) (sym c.index-span.ensures) within

pub overflow_mul-result : goal.overflow_mul-result
overflow_mul-result c =
    let s = c.self.inside in
    let d = c.index-span.result.now in
    let some = subst (λ (x : Span). 0 < x.count) c.index-span.ensures c.if-span-gt0.true in
    let low : d.first < 0x4000000 = subst (λ (x : Span). x.first < 0x4000000) (sym c.index-span.ensures) (first_low s.spans.items s.pages.each.items s.bytes s.code d c.self.invariant.0.sound c.self.invariant.1 some) in
    omega (arith, low)

pub overflow_mul-result-then-is_clean : goal.overflow_mul-result-then-is_clean
overflow_mul-result-then-is_clean c =
    let s = c.self.inside in
    let d = c.index-span.result.now in
    let t = stands 0 0 s.spans.items s.code d c.self.invariant.0.sound.laid c.self.invariant.1 in
    let few : (get_or s.spans.items s.code d).count ≤ 0x4000000 = omega (arith, t.within, c.self.invariant.0.sound.few) in
    let low : d.count ≤ 0x4000000 = subst (λ (x : Span). x.count ≤ 0x4000000) (sym c.index-span.ensures) few in
    omega (arith, low)

pub returns-then-is_clean : goal.returns-then-is_clean
returns-then-is_clean c =
    let s = c.self.inside in
    let d = c.index-span.result.now in
    let clean : AreClean d.at (d.at + d.count) true s.pages.each.items = c.if-is_clean.ensures refl in
    subst (λ (x : Span). IsFirstFrom (x.first * 4096) (x.count * 4096) c.args.self.now) (sym c.index-span.ensures)
    (first_from s.image.now s.layout s.spans.items s.pages.each.items s.bytes c.args.self.now s.code d c.self.invariant.0 c.self.view_is c.self.invariant.1
    (subst (λ (x : Span). AreClean x.at (x.at + x.count) true s.pages.each.items) c.index-span.ensures clean))
