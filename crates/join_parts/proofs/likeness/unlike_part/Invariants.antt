use Rattle.std.proofs.Common.{◌≡◌, drop}
use Rattle.join_parts.specs.Machines.{machine_of, unlike_from, unlike_part}
use Rattle.join_parts.proofs.likeness.unlike_part.Given as goal

-- no part so far is of another machine
abbrev pub invariant-loop-i : goal.invariant-loop-i
invariant-loop-i l = unlike_from (machine_of l.parts) l.i (drop l.i l.parts) ≡ unlike_part l.parts
