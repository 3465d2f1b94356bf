use Rattle.std.proofs.Common.{◌≡◌, ap, ◌∙◌, rules, true, false, Some, sym}
use Rattle.guest_memory.specs.Memory.{store, is_writable}
use Rattle.rv_execute.specs.Reservations.{without_touched}
use Rattle.rv_execute.specs.Execution.{setting, with_rd, atomic_size}
use Rattle.rv_execute.proofs.atomic.store_if.Goals as goal

pub returns-then-writable : goal.returns-then-writable
returns-then-writable c =
    let fails : c.args.reserved ≡ false = search rules in
    let may : is_writable c.args.memory.now c.args.target.address (atomic_size c.args.target.wide) ≡ true = search rules in
    rw (may, fails) (c.put.ensures _ _)

pub returns-in-Ok : goal.returns-in-Ok
returns-in-Ok c =
    let succeeds : c.args.reserved ≡ true = search rules in
    let stored : Some c.store.new.self ≡ store c.args.target.address (atomic_size c.args.target.wide) c.args.target.value c.args.memory.now = search (rules, c.in-Ok.ensures) in
    let ended : c.end_at.new.self ≡ without_touched c.args.target.address (atomic_size c.args.target.wide) c.args.reservations.now = search rules in
    rw (sym stored, succeeds)
    (c.put-in-Ok.ensures _ _ ∙ ap (λ r. with_rd c.args.target.rd 0 (setting c.args.hart.now c.store.new.self r)) ended)
