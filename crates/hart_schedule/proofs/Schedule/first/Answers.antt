use Rattle.std.proofs.Common.{◌≡◌, Some, ◌∙◌, sym, subst, ap, arith}
use Rattle.std.proofs.lemmas.List.{get_or_default}
use Rattle.hart_schedule.specs.Keys.{key_of, IsLeast}
use Rattle.hart_schedule.specs.Entry.{contender_of}
use Rattle.hart_schedule.specs.Heap.{keys_of}
use Rattle.hart_schedule.specs.declared.entry.Contender.{Contender}
use Rattle.hart_schedule.proofs.Root.{root_is_least}
use Rattle.hart_schedule.proofs.Schedule.first.Goals as goal

pub returns-else-self-eq0 : goal.returns-else-self-eq0
returns-else-self-eq0 c =
    let inside = c.self.inside in
    let keys = keys_of inside.entries.items inside.count in
    let all = c.self.invariant in
    let some = all.some in
    let room = all.room in
    let root = ap contender_of (get_or_default inside.entries.items 1 0 c.index.result.now (omega (arith, some, room)) ∙ sym c.index.ensures) ∙ sym c.contender_of.ensures in
    let least = root_is_least keys inside.entries.items inside.count all.heap (omega (arith, c.if-self-eq0.false)) in
    let has = (all.heap.seated.has 1 (omega arith) (omega (arith, c.if-self-eq0.false))).0 in
    rw (← c.self.view_is) (subst (λ (e : Contender). IsLeast keys e.hart.0 × (key_of keys e.hart.0 ≡ Some e.key)) root (least, has))
