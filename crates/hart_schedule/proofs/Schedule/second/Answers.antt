use Rattle.std.proofs.Common.{◌≡◌, ◌∙◌, ◌<◌, length, Some, sym, subst, ap, arith}
use Rattle.std.proofs.lemmas.List.{get_or_default}
use Rattle.hart_schedule.specs.Keys.{key_of, without_key, IsLeast}
use Rattle.hart_schedule.specs.Entry.{contender_of}
use Rattle.hart_schedule.specs.Heap.{at, keys_of}
use Rattle.hart_schedule.specs.Hole.{IsEarlierBelow}
use Rattle.hart_schedule.specs.declared.entry.Contender.{Contender}
use Rattle.hart_schedule.proofs.Calls.{last_slot}
use Rattle.hart_schedule.proofs.Second.{next_is, none_is, is_within}
use Rattle.hart_schedule.proofs.Schedule.second.Goals as goal

pub returns-then-self-lt2-clause-next : goal.returns-then-self-lt2-clause-next
returns-then-self-lt2-clause-next c first least =
    let inside = c.self.inside in
    rw (← c.self.view_is)
    (none_is (keys_of inside.entries.items inside.count) inside.entries.items inside.count c.self.invariant.heap c.if-self-lt2.true first (rw c.self.view_is least))

pub returns-else-self-lt2-clause-next : goal.returns-else-self-lt2-clause-next
returns-else-self-lt2-clause-next c first least =
    let inside = c.self.inside in
    let keys = keys_of inside.entries.items inside.count in
    let all = c.self.invariant in
    let found = subst (λ entries. IsEarlierBelow (at entries) inside.count 1 c.earlier_below.result) c.deref.ensures.value c.earlier_below.ensures in
    let last = last_slot keys inside.entries.items inside.count all in
    let lt : c.earlier_below.result < length inside.entries.items = omega (arith, last, is_within (at inside.entries.items) inside.count c.earlier_below.result found) in
    let is = ap contender_of (get_or_default inside.entries.items c.earlier_below.result 0 c.index.result.now lt ∙ sym c.index.ensures) ∙ sym c.contender_of.ensures in
    let next = next_is keys inside.entries.items inside.count c.earlier_below.result all.heap c.if-self-lt2.false found first (rw c.self.view_is least) in
    rw (← c.self.view_is) (subst (λ (e : Contender). IsLeast (without_key first keys) e.hart.0 × (key_of (without_key first keys) e.hart.0 ≡ Some e.key)) is next)
