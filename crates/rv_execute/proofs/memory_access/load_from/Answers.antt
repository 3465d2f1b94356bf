use Rattle.std.proofs.Common.{ap, ◌∙◌, ◌≡◌, Some, sym, rules}
use Rattle.guest_memory.specs.Memory.{load}
use Rattle.rv_execute.specs.Execution.{setting, with_rd, load_size}
use Rattle.rv_execute.proofs.memory_access.load_from.Goals as goal

pub returns-in-Ok : goal.returns-in-Ok
returns-in-Ok c r =
    let there : Some c.in-Ok.number ≡ load c.args.memory.now c.args.address (load_size c.args.op) = search (rules, c.in-Ok.ensures) in
    rw (sym there) (c.put.ensures c.args.memory.now r ∙ ap (λ n. with_rd c.args.rd n (setting c.args.hart.now c.args.memory.now r)) c.load_value.ensures)
