use Rattle.std.proofs.Common.{◌≡◌, length, arith, ap, sym, ◌∙◌}
use Rattle.run_engine.specs.Visits.{Visits}
use Rattle.run_engine.proofs.visits.Visits.copy_from.Goals as goal

pub unreachable-requires : goal.unreachable-requires
unreachable-requires c =
    let same : c.self.inside.limit ≡ c.other.inside.limit = ap (λ (v : Visits). v.limit) c.self.view_is ∙ c.requires ∙ sym (ap (λ (v : Visits). v.limit) c.other.view_is) in
    let kept = c.other.invariant.2 in
    let given = ap length c.deref.ensures.value in
    let enough = c.self.invariant.0 in
    let room = c.clear.ensures.capacity in
    let none = c.clear.ensures.len in
    let full = c.in_default.ensures.full in
    omega arith
