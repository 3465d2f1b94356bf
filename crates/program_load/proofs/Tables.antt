-- What was read of a section has no more rows, and no more files, than can be indexed.
use Rattle.std.proofs.Common.{◌≤◌, List, ℕ, length, Result, Ok, Err}
use Rattle.std.specs.Prelude.{IfOk}
use Rattle.failures.specs.declared.Failure.{Failure}
use Rattle.dwarf_lines.specs.declared.LineFault.{LineFault}
use Rattle.dwarf_lines.specs.declared.LineTable.{LineTable}
use Rattle.dwarf_lines.specs.Names.{Strings}
use Rattle.dwarf_lines.specs.Registers.{view}
use Rattle.dwarf_lines.specs.Reading.{reading}
use Rattle.failures.specs.Answers.{Gives}
use Rattle.dwarf_lines.proofs.Weights.{few_of_table}

pub few_rows : (strings : Strings) (section : List ℕ) (result : Result LineTable (Failure LineFault)) → Gives view result (reading strings section) → length section ≤ 33554432 → IfOk result (λ table. length table.rows ≤ 33554432)
few_rows strings section (Ok table) gives short = (few_of_table strings section table gives short).0
few_rows strings section (Err error) gives short = tt

pub few_files : (strings : Strings) (section : List ℕ) (result : Result LineTable (Failure LineFault)) → Gives view result (reading strings section) → length section ≤ 33554432 → IfOk result (λ table. length table.files ≤ 33554432)
few_files strings section (Ok table) gives short = (few_of_table strings section table gives short).1
few_files strings section (Err error) gives short = tt
