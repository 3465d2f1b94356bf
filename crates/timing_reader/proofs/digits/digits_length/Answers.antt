use Rattle.std.proofs.Common.{rules, sym}
use Rattle.std.proofs.lemmas.List.Sums.{prefix_len_is}
use Rattle.timing_reader.specs.Reading.{is_digit}
use Rattle.timing_reader.proofs.digits.digits_length.Goals as goal

pub returns-else-is_digit-clause-length : goal.returns-else-is_digit-clause-length
returns-else-is_digit-clause-length c = sym (prefix_len_is is_digit c.args.text.now c.loop-offset.offset 0 c.loop-offset.invariant.0 c.loop-offset.invariant.1 (λ some. search rules))

pub returns-after-loop-offset-clause-length : goal.returns-after-loop-offset-clause-length
returns-after-loop-offset-clause-length c = sym (prefix_len_is is_digit c.args.text.now c.loop-offset.offset 0 c.loop-offset.invariant.0 c.loop-offset.invariant.1 (λ some. absurd (search rules)))
