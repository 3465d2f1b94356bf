use Rattle.std.proofs.Common.{◌≡◌, ℕ, ◌*◌, ◌≤◌, ap₂, arith}
use Rattle.timed_guest.specs.Retire.{cycles_of_next}
use Rattle.run_engine.specs.Engine.{most_ticks}
use Rattle.run_engine.proofs.Ticks.{whole_few}
use Rattle.virtual_run.proofs.Cuts.{raise_few}
use Rattle.virtual_run.proofs.accounts.raised_by.Goals as goal

pub returns-clause-few : goal.returns-clause-few
returns-clause-few c =
    let cycles : ℕ = cycles_of_next c.args.guest.now c.args.hart.0 in
    let part : cycles * c.args.speedup ≤ 100 * cycles = raise_few cycles c.args.speedup c.requires.speedup in
    let whole : 100 * cycles ≤ most_ticks c.args.guest.now.beside.timing = whole_few c.args.guest.now c.args.hart.0 in
    let same : c.next_cycles.result * c.from.result ≡ cycles * c.args.speedup = ap₂ (λ (m n : ℕ). m * n) c.next_cycles.ensures.cycles c.from.ensures in
    omega (arith, part, whole, same)
