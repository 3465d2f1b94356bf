use Rattle.std.proofs.Common.{◌∙◌, length, Some, set, ap, drop, arith}
use Rattle.hart_schedule.specs.Keys.{IsLeast}
use Rattle.hart_schedule.specs.Heap.{keys_of, IsSchedule}
use Rattle.hart_schedule.proofs.Calls.{below, change_key, another_key}
use Rattle.hart_schedule.proofs.Second.{is_first_slot}
use Rattle.hart_schedule.proofs.Told.{stored, shown}
use Rattle.hart_schedule.proofs.Schedule.rekey_first.Goals as goal

pub entry_of-requires-clause-hart : goal.entry_of-requires-clause-hart
entry_of-requires-clause-hart c =
    let few = c.self.invariant.few in
    let first : IsLeast (keys_of c.self.inside.entries.items c.self.inside.count) c.args.hart.0 = rw c.self.view_is c.requires.first in
    let lt = below (keys_of c.self.inside.entries.items c.self.inside.count) c.args.hart.0 first.key first.has in
    omega (arith, lt, few)

pub sink-requires-clause-high : goal.sink-requires-clause-high
sink-requires-clause-high c =
    let inside = c.self.inside in
    (is_first_slot (keys_of inside.entries.items inside.count) inside.entries.items inside.count c.args.hart.0 c.self.invariant.heap (rw c.self.view_is c.requires.first)).1

all : (c : goal.After-self-1) → IsSchedule (set (keys_of c.self.inside.entries.items c.self.inside.count) c.args.hart.0 (Some c.args.key)) c.sink.new.entries c.self.inside.count
all c =
    let inside = c.self.inside in
    let keys = keys_of inside.entries.items inside.count in
    change_key keys inside.entries.items c.sink.new.entries inside.count 1 c.args.hart.0 c.args.key c.self.invariant
    (is_first_slot keys inside.entries.items inside.count c.args.hart.0 c.self.invariant.heap (rw c.self.view_is c.requires.first))
    (c.sink.auto.entries ∙ ap length c.deref_mut.ensures.value)
    (λ keys hole. c.sink.ensures.heap keys (rw (c.deref_mut.ensures.value, c.entry_of.ensures) hole) (λ two. absurd (omega (arith, two))))

pub invariant_of-self : goal.invariant_of-self
invariant_of-self c =
    let inside = c.self.inside in
    stored (set (keys_of inside.entries.items inside.count) c.args.hart.0 (Some c.args.key)) inside.entries.len inside.count c.sink.new.entries (drop (length c.sink.new.entries) inside.entries.items)
    (c.sink.auto.entries ∙ c.deref_mut.ensures.len) (all c)

pub returns : goal.returns
returns c =
    let inside = c.self.inside in
    shown (set (keys_of inside.entries.items inside.count) c.args.hart.0 (Some c.args.key)) inside.entries.len inside.count c.sink.new.entries (drop (length c.sink.new.entries) inside.entries.items)
    (c.sink.auto.entries ∙ c.deref_mut.ensures.len) (all c)
    ∙ another_key (keys_of inside.entries.items inside.count) c.args.self.now c.args.hart.0 c.args.key c.self.view_is
