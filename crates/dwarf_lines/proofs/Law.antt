-- Each section has exactly one table, or exactly one fault.
use Rattle.std.proofs.Common.{◌≡◌, ℕ, List, Result, Ok, Err, refl, sym, ◌∙◌, inl, inr}
use Rattle.dwarf_lines.specs.declared.LineFault.{LineFault}
use Rattle.dwarf_lines.specs.Registers.{Table}
use Rattle.dwarf_lines.specs.Names.{Strings}
use Rattle.dwarf_lines.specs.Spelling.{IsTable}
use Rattle.dwarf_lines.specs.Reading.{reading}
use Rattle.dwarf_lines.specs.Law.{HasOne}
use Rattle.leb_cursor.proofs.Exact.{IsBytes}
use Rattle.dwarf_lines.proofs.Units.{reading_takes}

-- what is left to prove: each table of a section is read
module _ (strings : Strings)
    (again : (section : List ℕ) (t : Table) → IsTable strings section t → reading strings section ≡ Ok t)
  where
    ok_is : (x y : Table) (r : Result Table LineFault) → r ≡ Ok x → r ≡ Ok y → x ≡ y
    ok_is x y r e f = cc

    by_reading : (section : List ℕ) (r : Result Table LineFault) → IsBytes section → reading strings section ≡ r → HasOne strings section
    by_reading section (Ok t) fits e = inl (t, reading_takes strings section t fits e, (λ u is. ok_is u t (reading strings section) (again section u is) e), rw e refl)
    by_reading section (Err f) fits e = inr (f, rw e refl, (λ t is. let no : Ok t ≡ Err f = sym (again section t is) ∙ e in absurd cc))

    pub one_or_other : (section : List ℕ) → IsBytes section → HasOne strings section
    one_or_other section fits = by_reading section (reading strings section) fits refl
