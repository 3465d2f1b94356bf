use Rattle.std.proofs.Common.{◌≡◌, ap, ◌∙◌, rules, true, Some, sym, ◌%◌, ◌==◌}
use Rattle.guest_memory.specs.Memory.{load}
use Rattle.rv_execute.specs.Execution.{setting, with_rd, atomic_size, atomic_load_value}
use Rattle.rv_execute.proofs.atomic.load_reserved.Goals as goal

pub returns-in-Ok : goal.returns-in-Ok
returns-in-Ok c =
    let lies : (c.args.target.address % atomic_size c.args.target.wide == 0) ≡ true = search rules in
    let there : Some c.in-Ok.value ≡ load c.args.memory.now c.args.target.address (atomic_size c.args.target.wide) = search (rules, c.in-Ok.ensures) in
    rw (lies, sym there)
    (c.put.ensures _ _
    ∙ ap (λ n. with_rd c.args.target.rd n (setting c.args.hart.now c.args.memory.now c.reserve.new.self)) c.load_value.ensures
    ∙ ap (λ r. with_rd c.args.target.rd (atomic_load_value c.args.target.wide c.in-Ok.value) (setting c.args.hart.now c.args.memory.now r)) c.reserve.ensures)
