use Rattle.std.proofs.Common.{rules, arith}
use Rattle.profile_reader.proofs.Scans.{digest_more, digest_long}
use Rattle.profile_reader.proofs.digests.digest_of.Goals as goal

pub loop-i-preserved : goal.loop-i-preserved
loop-i-preserved c = (digest_more c.loop-i.bytes c.args.text.now c.loop-i.i c.lower_value.result c.lower_value-in-loop-i.result (omega arith) c.loop-i.invariant.1 (digest_long _ (search rules)) c.loop-i.invariant.0 c.lower_value.ensures.value c.lower_value-in-loop-i.ensures.value, search rules)
