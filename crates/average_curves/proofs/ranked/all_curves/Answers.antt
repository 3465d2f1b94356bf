use Rattle.std.proofs.Common.{rules, ◌≡◌, ◌<◌, ◌++◌, ℕ, length, get_or, ap, sym, subst, ◌∙◌, arith, refl, List}
use Rattle.std.specs.List.{AllByRecursion}
use Rattle.coz_types.specs.Labels.{Text}
use Rattle.coz_types.specs.declared.record.Summary.{Summary}
use Rattle.profile_labels.specs.Groups.{groups}
use Rattle.average_curves.specs.Curves.{curves_at, seeds_in, IsShort}
use Rattle.average_curves.proofs.Ranks.{points_more, points_whole}
use Rattle.average_curves.proofs.Sound.{sound_at, points_in, first_right, first_short, none_first, of_first}
use Rattle.average_curves.proofs.ranked.all_curves.Goals as goal

pub returns-then-is_empty : goal.returns-then-is_empty
returns-then-is_empty c = c.new-curves.ensures.items ∙ none_first c.args.averaged.now (seeds_in c.args.averaged.now) (search rules)

pub push_curves-requires-clause-sound : goal.push_curves-requires-clause-sound
push_curves-requires-clause-sound c =
    let a = c.args.averaged.now in
    let some : 0 < length (seeds_in a) = search rules in
    let lt : c.loop-point.point < length c.index-seeds-0.result.points = search rules in
    let is : c.index-seeds-0.result ≡ get_or (seeds_in a) 0 c.index-seeds-0.result = search rules in
    sound_at a c.loop-point.point c.requires (omega (arith, lt, ap length (points_in a.seeds a.profiles c.index-seeds-0.result some is)))

pub push_curves-requires-clause-short : goal.push_curves-requires-clause-short
push_curves-requires-clause-short c =
    let a = c.args.averaged.now in
    let some : 0 < length (seeds_in a) = search rules in
    let is : c.index-seeds-0.result ≡ get_or (seeds_in a) 0 c.index-seeds-0.result = search rules in
    subst (λ (runs : List Summary). AllByRecursion IsShort (groups runs)) (sym c.as_slice-in-loop-point.ensures)
    (first_short c.index-seeds-0.result (first_right a.seeds a.profiles c.index-seeds-0.result c.requires.right some is))

pub loop-point-preserved : goal.loop-point-preserved
loop-point-preserved c =
    let a = c.args.averaged.now in
    let first = c.index-seeds-0.result in
    points_more (λ (place : ℕ × Text). curves_at a first.summaries place.0) first.points c.loop-point.point c.loop-point.curves.items c.push_curves.new.into.items (curves_at a first.summaries c.loop-point.point)
    (λ t. refl) (search rules)
    (c.in_ok-push_curves.ensures ∙ ap (λ (xs : List Summary). c.loop-point.curves.items ++ curves_at a xs c.loop-point.point) c.as_slice-in-loop-point.ensures) c.loop-point.invariant

pub returns : goal.returns
returns c =
    let a = c.args.averaged.now in
    let first = c.index-seeds-0.result in
    let some : 0 < length (seeds_in a) = search rules in
    let is : first ≡ get_or (seeds_in a) 0 first = search rules in
    points_whole (λ (place : ℕ × Text). curves_at a first.summaries place.0) first.points c.loop-point.point c.loop-point.curves.items (search rules) c.loop-point.invariant ∙ of_first a (seeds_in a) first some is
