use Rattle.std.proofs.Common.{◌≡◌, All, IfSome, Ok, length, take}
use Rattle.average_parts.specs.Verdict.{bytes_of, parts_in, IsRightPart}
use Rattle.average_parts.proofs.parts.read_parts.Given as goal

abbrev pub invariant-loop-i : goal.invariant-loop-i
invariant-loop-i g l = record {
  same : g.F.Files.held l.files ≡ g.F.Files.held l.fn.files;
  no_fault : g.F.Files.faults l.files ≡ g.F.Files.faults l.fn.files;
  right : All IsRightPart l.parts.items;
  as_many : length l.parts.items ≡ l.i;
  so_far : IfSome (g.F.Files.held l.fn.files) (λ held. parts_in (take l.i (bytes_of l.paths)) held ≡ Ok l.parts.items);
}
