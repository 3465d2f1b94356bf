use Rattle.std.proofs.Common.{ℕ, ◌+◌, ◌*◌, Bool, ap, ◌∙◌}
use Rattle.timing_laws.specs.Cores.{turned_by}
use Rattle.timing_state.specs.Held.{seats_of}
use Rattle.timing_state.proofs.state.retire_in.Goals as goal

pub returns-clause-turn : goal.returns-clause-turn
returns-clause-turn c =
    let r = c.args.retirement.now in
    let s = seats_of c.args.seats.now in
    let end : ℕ = r.moment + 100 * c.args.timing.slice in
    c.turn_by.ensures
    ∙ ap (λ (n : ℕ). turned_by n end r.hart.0 c.is_over.result c.args.others.now r.fate s) c.from.ensures
    ∙ ap (λ (b : Bool). turned_by c.args.timing.cores end r.hart.0 b c.args.others.now r.fate s) c.is_over.ensures
