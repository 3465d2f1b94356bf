-- What a call of a reader promises follows from what it reads.
use Rattle.std.proofs.Common.{◌≡◌, ℕ, suc, ◌<◌, List, length, Result, Ok, Err, sym, ap, ◌∙◌}
use Rattle.leb_cursor.specs.Ahead.{Ahead}
use Rattle.failures.specs.declared.Failure.{Failure}
use Rattle.failures.specs.declared.Failure.TheVariants as errors
use Rattle.dwarf_lines.specs.declared.LineFault.{LineFault}
use Rattle.dwarf_lines.specs.declared.LineTable.{LineTable}
use Rattle.dwarf_lines.specs.Registers.{Table, view}
use Rattle.dwarf_lines.specs.Names.{Strings}
use Rattle.dwarf_lines.specs.Spelling.{IsTable}
use Rattle.dwarf_lines.specs.Reading.{unit, units, reading}
use Rattle.failures.specs.Answers.{Fails, Gives}
use Rattle.dwarf_lines.proofs.UnitsAgain.{reading_again}
use Rattle.dwarf_lines.proofs.Loops.{units_fault, units_end}

-- a unit that can't be read ends the section with its fault, or by running out of memory
pub unit_fails : (strings : Strings) (t : Table) (a : Ahead) (e : Failure LineFault) (total : Result Table LineFault) → 0 < length a.bytes → Fails e (unit strings t a) → units (suc (length a.bytes)) strings t a ≡ total → Fails e total
unit_fails strings t a errors.Memory total some fails so_far = tt
unit_fails strings t a (errors.Fault f) total some fails so_far = sym so_far ∙ units_fault strings t a f some fails

-- a table of the section is what is read, or memory ran out
pub only_table : (strings : Strings) (section : List ℕ) (result : Result LineTable (Failure LineFault)) → Gives view result (reading strings section) → (t : Table) → IsTable strings section t → Gives view result (Ok t)
only_table strings section (Ok u) gives t is = sym (reading_again strings section t is) ∙ gives
only_table strings section (Err errors.Memory) gives t is = tt
only_table strings section (Err (errors.Fault f)) gives t is = sym (reading_again strings section t is) ∙ gives

-- at the end of the section its table is whole
pub whole_table : (strings : Strings) (a : Ahead) (t u : Table) (total : Result Table LineFault) → length a.bytes ≡ 0 → units (suc (length a.bytes)) strings t a ≡ total → u ≡ t → total ≡ Ok u
whole_table strings a t u total none so_far same = sym so_far ∙ units_end strings t a none ∙ ap (λ (v : Table). Ok v) (sym same)
