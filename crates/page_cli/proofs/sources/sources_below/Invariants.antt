use Rattle.std.proofs.Common.{◌≡◌, ◌≤◌, take}
use Rattle.coz_files.specs.InMemory.{entries}
use Rattle.page_cli.proofs.Reading.{Reading}
use Rattle.page_cli.proofs.sources.sources_below.Given as goal

abbrev pub invariant-loop-curve : goal.invariant-loop-curve
invariant-loop-curve g l = record {
  same : g.F.Files.held l.files ≡ g.F.Files.held l.fn.files;
  later : g.F.Files.faults l.fn.files ≤ g.F.Files.faults l.files;
  reading : Reading (g.F.Files.held l.fn.files) l.folder (g.F.Files.faults l.fn.files) (g.F.Files.faults l.files) (entries l.sources.items) (take l.curve-index l.curves);
}
