use Rattle.std.proofs.Common.{rules}
use Rattle.join_parts.specs.Answer.{verdict_of}
use Rattle.join_parts.specs.Verdict.{bytes_of}
use Rattle.join_parts.proofs.Machines.{profiles_right, first_is, one_machine}
use Rattle.join_parts.proofs.parts.joined.Goals as goal

pub joined_on-requires-clause-right : goal.joined_on-requires-clause-right
joined_on-requires-clause-right c = profiles_right c.args.parts.items c.in_ok-profiles-in-None.profiles.items c.in_ok-profiles-in-None.ensures c.requires.right

pub returns-clause-joined : goal.returns-clause-joined
returns-clause-joined c = λ other.
    one_machine (bytes_of c.args.paths.now) c.args.parts.items c.in_ok-profiles-in-None.profiles.items (c.index.result.now).timing (verdict_of c.joined_on.result) (search rules) c.in_ok-profiles-in-None.ensures (first_is c.args.parts.items c.index.result.now c.requires.some (search rules)) (c.joined_on.ensures.joined other)
