use Rattle.std.proofs.Common.{◌≡◌, ap, ◌∙◌, rules, true, Some, sym, ◌%◌, ◌==◌}
use Rattle.guest_memory.specs.Memory.{load, store}
use Rattle.rv_alu.specs.Operations.{stored_result}
use Rattle.rv_execute.specs.Reservations.{without_touched}
use Rattle.rv_execute.specs.Execution.{setting, with_rd, atomic_size, atomic_load_value}
use Rattle.rv_execute.proofs.atomic.exchange.Goals as goal

pub returns-in-Ok-store : goal.returns-in-Ok-store
returns-in-Ok-store c =
    let lies : (c.args.target.address % atomic_size c.args.target.wide == 0) ≡ true = search rules in
    let size : c.size_of-size.result ≡ atomic_size c.args.target.wide = c.size_of-size.ensures.size in
    let there : Some c.in-Ok.old ≡ load c.args.memory.now c.args.target.address (atomic_size c.args.target.wide) = search (rules, c.in-Ok.ensures) in
    let stored : Some c.store.new.self ≡ store c.args.target.address (atomic_size c.args.target.wide) (stored_result c.args.op c.args.target.wide c.in-Ok.old c.args.target.value) c.args.memory.now = search (rules, c.in-Ok-store.ensures) in
    let ended : c.end_at.new.self ≡ without_touched c.args.target.address (atomic_size c.args.target.wide) c.args.reservations.now = search rules in
    rw (lies, sym there, sym stored)
    (c.put.ensures _ _
    ∙ ap (λ n. with_rd c.args.target.rd n (setting c.args.hart.now c.store.new.self c.end_at.new.self)) c.load_value.ensures
    ∙ ap (λ r. with_rd c.args.target.rd (atomic_load_value c.args.target.wide c.in-Ok.old) (setting c.args.hart.now c.store.new.self r)) ended)
