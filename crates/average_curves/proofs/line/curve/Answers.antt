use Rattle.std.proofs.Common.{◌≡◌, length, arith, ap, sym, subst, List, All}
use Rattle.profile_book.specs.declared.profile.Profile.{Profile}
use Rattle.average_curves.specs.Curves.{runs_of, seeds_in}
use Rattle.average_curves.proofs.Sound.{count_is}
use Rattle.average_curves.proofs.line.curve.Goals as goal

pub area-requires-clause-few : goal.area-requires-clause-few
area-requires-clause-few c =
    let many : length c.in_ok-steps.steps.items ≡ length c.args.runs.now = count_is _ c.args.start c.args.runs.now c.in_ok-steps.steps.items c.in_ok-steps.ensures.steps in
    omega (arith, many, ap length c.deref.ensures.value, c.requires.few)

pub area_error-requires-clause-long : goal.area_error-requires-clause-long
area_error-requires-clause-long c = λ k d lt.
    let many : length c.in_ok-steps.steps.items ≡ length c.args.runs.now = count_is _ c.args.start c.args.runs.now c.in_ok-steps.steps.items c.in_ok-steps.ensures.steps in
    let as_many = subst (λ (ps : List Profile). All (λ (p : Profile). length p.summaries ≡ length (runs_of (seeds_in c.args.averaged.now))) ps) (sym c.seeds_in-seeds.ensures) c.requires.sound.runs k d lt in
    omega (arith, many, ap length c.deref-2.ensures.value, c.requires.within, as_many)

pub area_error-requires-clause-few : goal.area_error-requires-clause-few
area_error-requires-clause-few c =
    let many : length c.in_ok-steps.steps.items ≡ length c.args.runs.now = count_is _ c.args.start c.args.runs.now c.in_ok-steps.steps.items c.in_ok-steps.ensures.steps in
    omega (arith, many, ap length c.deref-2.ensures.value, c.requires.few)

pub exactness_of-exact-requires-clause-short : goal.exactness_of-exact-requires-clause-short
exactness_of-exact-requires-clause-short c =
    let many : length c.in_ok-steps.steps.items ≡ length c.args.runs.now = count_is _ c.args.start c.args.runs.now c.in_ok-steps.steps.items c.in_ok-steps.ensures.steps in
    omega (arith, many, ap length c.deref-3.ensures.value, c.requires.short)
