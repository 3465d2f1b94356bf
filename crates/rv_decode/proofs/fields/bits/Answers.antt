use Rattle.std.proofs.Common.{◌≡◌, ◌<◌, ◌^◌, ◌*◌, ◌/◌, ◌%◌, arith}
use Rattle.std.proofs.lemmas.Nat.{and_mask, pow_below}
use Rattle.rv_decode.proofs.fields.bits.Goals as goal

pub returns-clause-part : goal.returns-clause-part
returns-clause-part c =
    let small : 2 ^ c.args.count < 2 ^ 32 = pow_below c.args.count 32 c.requires.count in
    let whole : 1 * 2 ^ c.args.count % 2 ^ 32 ≡ 2 ^ c.args.count = omega arith in
    rw whole (and_mask (c.args.word / 2 ^ c.args.low) c.args.count)
