use Rattle.std.proofs.Common.{◌≡◌, ◌∙◌, length, Some, None, set, ap, drop}
use Rattle.hart_schedule.specs.Keys.{key_of, with_key}
use Rattle.hart_schedule.specs.Heap.{seat, keys_of, IsSchedule, IsSlotOf, AreOthers}
use Rattle.hart_schedule.proofs.Calls.{not_found, change_key, another_key}
use Rattle.hart_schedule.proofs.Told.{stored, shown, nothing_taken}
use Rattle.hart_schedule.proofs.Schedule.rekey_any.Goals as goal

all : (c : goal.After-self-1) → IsSchedule (set (keys_of c.self.inside.entries.items c.self.inside.count) c.args.hart.0 (Some c.args.key)) c.refill.new.entries c.self.inside.count
all c =
    let inside = c.self.inside in
    let is : IsSlotOf (seat inside.entries.items) inside.count c.args.hart.0 c.in-Some.slot = rw (← c.deref.ensures.value) c.in-Some.ensures in
    change_key (keys_of inside.entries.items inside.count) inside.entries.items c.refill.new.entries inside.count c.in-Some.slot c.args.hart.0 c.args.key c.self.invariant is
    (c.refill.auto.entries ∙ ap length c.deref_mut.ensures.value)
    (λ keys hole. c.refill.ensures.heap keys (rw (c.deref_mut.ensures.value, c.entry_of.ensures) hole))

pub invariant_of-self : goal.invariant_of-self
invariant_of-self c =
    let inside = c.self.inside in
    stored (set (keys_of inside.entries.items inside.count) c.args.hart.0 (Some c.args.key)) inside.entries.len inside.count c.refill.new.entries (drop (length c.refill.new.entries) inside.entries.items)
    (c.refill.auto.entries ∙ c.deref_mut.ensures.len) (all c)

pub returns-in-Some : goal.returns-in-Some
returns-in-Some c =
    let inside = c.self.inside in
    shown (set (keys_of inside.entries.items inside.count) c.args.hart.0 (Some c.args.key)) inside.entries.len inside.count c.refill.new.entries (drop (length c.refill.new.entries) inside.entries.items)
    (c.refill.auto.entries ∙ c.deref_mut.ensures.len) (all c)
    ∙ another_key (keys_of inside.entries.items inside.count) c.args.self.now c.args.hart.0 c.args.key c.self.view_is

pub returns-in-None : goal.returns-in-None
returns-in-None c =
    let inside = c.self.inside in
    let others : AreOthers (seat inside.entries.items) inside.count c.args.hart.0 = rw (← c.deref.ensures.value) c.in-None.ensures in
    let absent : key_of c.args.self.now c.args.hart.0 ≡ None = rw (← c.self.view_is) (not_found (keys_of inside.entries.items inside.count) inside.entries.items inside.count c.args.hart.0 c.self.invariant.heap others) in
    c.put.ensures ∙ ap (with_key c.args.hart.0 c.args.key) (nothing_taken c.args.self.now c.args.hart.0 absent)
