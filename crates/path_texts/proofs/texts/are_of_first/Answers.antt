use Rattle.std.proofs.Common.{◌+◌, ◌≤◌, length, rules, arith}
use Rattle.path_texts.proofs.Fours.{four_more, four_of, of_first, rest_of}
use Rattle.path_texts.proofs.texts.are_of_first.Goals as goal

pub loop-number-init : goal.loop-number-init
loop-number-init c = (omega arith, λ k less. absurd (omega (arith, less)))

pub loop-number-preserved : goal.loop-number-preserved
loop-number-preserved c =
    let known = c.loop-number.invariant in
    let some : c.loop-number.number + 4 ≤ length c.args.events.now = search rules in
    (some, four_more c.args.events.now c.loop-number.number (c.are_four_of_first.ensures.0 (search rules)) known.1)

pub returns-then-not-are_four_of_first : goal.returns-then-not-are_four_of_first
returns-then-not-are_four_of_first c =
    let some : c.loop-number.number + 4 ≤ length c.args.events.now = search rules in
    (λ yes. search (rules, yes), λ all. let four = c.are_four_of_first.ensures.1 (four_of c.args.events.now c.loop-number.number some all) in search (rules, four))

pub returns : goal.returns
returns c = (
  λ yes. of_first c.args.events.now c.loop-number.number c.loop-number.invariant.1 (c.are_each_of_first.ensures.0 yes),
  λ all. c.are_each_of_first.ensures.1 (rest_of c.args.events.now c.loop-number.number all),
)
