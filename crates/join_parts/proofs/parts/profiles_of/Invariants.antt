use Rattle.std.proofs.Common.{◌≡◌, ◌++◌}
use Rattle.join_parts.specs.Verdict.{profiles_of}
use Rattle.join_parts.proofs.parts.profiles_of.Given as goal

-- the profiles so far are those of the parts so far
abbrev pub invariant-loop-part : goal.invariant-loop-part
invariant-loop-part l =
    (l.profiles.items ≡ profiles_of l.yielded) × (l.yielded ++ l.part-iterator.rest.items ≡ l.initial.part-iterator.rest.items)
