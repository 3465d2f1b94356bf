use Rattle.std.proofs.Common.{◌≡◌, take, All}
use Rattle.average_parts.specs.Likeness.{count_points, count_runs, first_full, unlike_part, IsLike}
use Rattle.average_parts.proofs.Alike.{unlike_later}
use Rattle.average_parts.proofs.likeness.unlike_part.Given as goal

-- no part so far is unlike those before it
abbrev pub invariant-loop-i : goal.invariant-loop-i
invariant-loop-i l = record {
  so_far : unlike_later l.parts l.i ≡ unlike_part l.parts;
  like : All (IsLike (count_points l.parts) (count_runs (first_full l.parts))) (take l.i l.parts);
}
