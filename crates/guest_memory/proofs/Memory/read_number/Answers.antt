use Rattle.std.proofs.Common.{◌≡◌, ◌+◌, ◌/◌, ◌%◌, ◌≤◌, arith, sym, ap, refl, ◌∙◌}
use Rattle.guest_memory.specs.Memory.{MemoryMap, number_at}
use Rattle.guest_memory.specs.Right.{has_right}
use Rattle.guest_memory.proofs.Runs.{allowed_here, refused_here, none_has}
use Rattle.guest_memory.proofs.Shows.{rights-absent, rights-read, number-map_of}
use Rattle.guest_memory.proofs.Memory.read_number.Goals as goal

pub returns-in-None-clause-number : goal.returns-in-None-clause-number
returns-in-None-clause-number c =
    let s = c.self.inside in
    let lacks = rights-absent s.image.now s.layout s.spans.items s.pages.each.items s.bytes c.args.self.now (c.args.address / 4096) c.self.view_is (rw c.deref.ensures.value at c.in-None.ensures) in
    rw (refused_here (has_right c.args.right) c.args.self.now c.args.address c.args.size (omega arith) (ap (has_right c.args.right) lacks ∙ none_has c.args.right)) refl

pub returns-then-not-has-clause-number : goal.returns-then-not-has-clause-number
returns-then-not-has-clause-number c =
    let s = c.self.inside in
    let found = rw c.deref.ensures.value at c.in-Some.ensures in
    let has = rights-read s.image.now s.layout s.spans.items s.pages.each.items s.bytes c.args.self.now c.in-Some.index c.index.result.now (c.args.address / 4096) c.self.view_is c.self.invariant.0.sound found c.index.ensures in
    rw (refused_here (has_right c.args.right) c.args.self.now c.args.address c.args.size (omega arith) (ap (has_right c.args.right) has ∙ sym c.has.ensures ∙ c.if-not-has.true)) refl

pub returns-then-within-size-clause-number : goal.returns-then-within-size-clause-number
returns-then-within-size-clause-number c =
    let s = c.self.inside in
    let found = rw c.deref.ensures.value at c.in-Some.ensures in
    let has = rights-read s.image.now s.layout s.spans.items s.pages.each.items s.bytes c.args.self.now c.in-Some.index c.index.result.now (c.args.address / 4096) c.self.view_is c.self.invariant.0.sound found c.index.ensures in
    let fits : c.args.address % 4096 + c.args.size ≤ 4096 = omega arith in
    let number : number_at c.args.self.now c.args.address c.args.size ≡ c.number.result =
    ap (λ (m : MemoryMap). number_at m c.args.address c.args.size) (sym c.self.view_is)
    ∙ number-map_of s.image.now s.layout s.spans.items s.pages.each.items s.bytes c.in-Some.index c.args.address c.args.size c.self.invariant.0.sound found fits
    ∙ sym c.number.ensures.number in
    rw (allowed_here (has_right c.args.right) c.args.self.now c.args.address c.args.size fits (ap (has_right c.args.right) has ∙ sym c.has.ensures ∙ c.if-not-has.false), number) refl
