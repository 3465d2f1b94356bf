use Rattle.std.proofs.Common.{arith, length-set, ◌∙◌}
use Rattle.coz_types.proofs.Hexadecimals.{digits_start, digits_last, digits_more, smaller}
use Rattle.coz_types.proofs.hexadecimal.fill.Goals as goal

pub loop-turn-init : goal.loop-turn-init
loop-turn-init c = record {
  some = λ lt. absurd (omega (arith, lt));
  small = omega (arith, c.ranges.number.fits);
  room = c.told-room;
  so_far = digits_start c.args.number c.args.room.now c.told-room;
}

pub returns-then-rest-eq0-clause-digits : goal.returns-then-rest-eq0-clause-digits
returns-then-rest-eq0-clause-digits c =
    let l = c.loop-turn.invariant in
    digits_last c.args.number c.loop-turn.turn c.loop-turn.rest c.lower_digit.result c.loop-turn.room c.loop-turn-test.true l.room c.if-rest-eq0.true c.lower_digit.ensures l.so_far

pub loop-turn-preserved : goal.loop-turn-preserved
loop-turn-preserved c =
    let l = c.loop-turn.invariant in
    record {
      some = λ _. omega (arith, c.if-rest-eq0.false);
      small = smaller c.loop-turn.turn c.loop-turn.rest c.loop-turn-test.true l.small;
      room = length-set c.loop-turn.room _ _ ∙ l.room;
      so_far = digits_more c.args.number c.loop-turn.turn c.loop-turn.rest c.lower_digit.result c.loop-turn.room c.loop-turn-test.true l.room c.if-rest-eq0.false c.lower_digit.ensures l.so_far;
    }
