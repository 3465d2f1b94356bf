use Rattle.std.proofs.Common.{◌≡◌, ℕ, false, refl, ap, ◌∙◌}
use Rattle.timing_laws.specs.Noted.{splitmix, is_doubled}
use Rattle.timing_model.proofs.jitter.is_doubled.Goals as goal

-- with no seed nothing costs twice
unseeded : (seed hart count : ℕ) → seed ≡ 0 → false ≡ is_doubled seed hart count
unfolding is_doubled
unseeded seed hart count none = rw none refl

pub returns-then-seed-eq0 : goal.returns-then-seed-eq0
returns-then-seed-eq0 c = unseeded c.args.seed c.args.hart c.args.count c.if-seed-eq0.true

pub returns : goal.returns
returns c = c.is_doubled_by.ensures c.args.seed c.args.hart c.if-seed-eq0.false (c.splitmix.ensures ∙ ap (splitmix c.args.seed) c.from.ensures)
