use Rattle.std.proofs.Common.{to_z, of_z, rules, arith, ◌≡◌, ◌+◌, ◌*◌, ◌≤◌, ℕ, length, pos, ap, ◌∙◌}
use Rattle.std.proofs.Common.{get_or}
use Rattle.std.specs.Int.{w128}
use Rattle.std.proofs.lemmas.Int.{to_z-of_z}
use Rattle.wide_numbers.specs.Wide.{number}
use Rattle.average_values.specs.Values.{deviation, most_deviation, most_runs}
use Rattle.average_values.proofs.Bounds.{squares_fit, squares_more, spread_more, spread_whole, deviation_most}
use Rattle.average_values.proofs.spread.spread.Goals as goal

pub plus-squares-requires : goal.plus-squares-requires
plus-squares-requires c =
    let square : number c.times.result ≡ c.deviation-far.result * c.deviation-far.result = c.times.ensures ∙ ap (λ (n : ℕ). n * c.deviation-far.result) c.new.ensures in
    let few : c.loop-value.value-index ≤ most_runs = omega (arith, c.requires.few, c.loop-value-test.true) in
    omega (arith, square, squares_fit (most_deviation (length c.args.values.now)) (number c.loop-value.squares) c.loop-value.value-index c.deviation-far.result (omega (arith, c.requires.few, c.loop-value-test.true)) (deviation_most _ c.requires.few) c.loop-value.invariant.small c.deviation-far.ensures.small)

pub loop-value-preserved : goal.loop-value-preserved
loop-value-preserved c =
    let square : number c.times.result ≡ c.deviation-far.result * c.deviation-far.result = c.times.ensures ∙ ap (λ (n : ℕ). n * c.deviation-far.result) c.new.ensures in
    let value = get_or c.args.values.now c.loop-value.value-index (pos 0) in
    record {
      squares = spread_more (length c.args.values.now) _ c.args.values.now c.loop-value.value-index (pos 0) c.deviation-far.result (number c.loop-value.squares) (number c.times.result) _ c.loop-value-test.true c.loop-value.invariant.squares (c.deviation-far.ensures.deviation ∙ ap (deviation (length c.args.values.now) (to_z w128 (of_z w128 c.total-sum.result))) (to_z-of_z w128 value (search rules))) square c.plus-squares.ensures;
      small = squares_more (most_deviation (length c.args.values.now)) (number c.loop-value.squares) c.loop-value.value-index c.deviation-far.result _ c.loop-value.invariant.small c.deviation-far.ensures.small (c.plus-squares.ensures ∙ ap (λ (n : ℕ). number c.loop-value.squares + n) square);
    }

pub returns-clause-spread : goal.returns-clause-spread
returns-clause-spread c = spread_whole c.args.values.now c.loop-value.value-index _ (length c.args.values.now) _ c.loop-value-test.false (search rules) (to_z-of_z w128 c.total-sum.result (search rules) ∙ c.total-sum.ensures.total) c.loop-value.invariant.squares
