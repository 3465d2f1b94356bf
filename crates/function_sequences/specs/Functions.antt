-- The functions of a symbol table (ELF-64 Object File Format, version 1.5, "Symbol Table").
use Rattle.std.specs.Prelude.{ℕ, ◌%◌, Bool, not, ◌&&◌, ◌==◌, List, [], ◌∷◌, if◌then◌else◌}
use Rattle.std.specs.Ordering.{nat_cmp}
use Rattle.std.specs.BTreeMap.{insert_entry}
use Rattle.std.specs.List.{list_any}
use Rattle.coz_types.specs.declared.image.Area.{Area}
use Rattle.elf_symbols.specs.declared.symbols.Symbol.{Symbol}
use Rattle.elf_symbols.specs.Symbols.{ended, has_name, is_in_area, symbols}

-- a defined symbol of type STT_FUNC of some bytes within an executable area, at an instruction,
-- with a name
abbrev pub is_function : List Area → List ℕ → Symbol → Bool
is_function areas names s =
    s.kind == 2
    && (not (s.section == 0) && (not (s.size == 0) && (s.address % 4 == 0
    && (has_name names s && list_any (is_in_area s) areas))))

-- in place of another one at its address, if it is a function
abbrev pub with_function : List Area → List ℕ → Symbol → List (ℕ × Symbol) → List (ℕ × Symbol)
with_function areas names s found =
    if is_function areas names s then insert_entry nat_cmp found s.address s else found

-- by their addresses, rising: of several with one address the first counts
abbrev pub by_address : List Area → List ℕ → List Symbol → List (ℕ × Symbol)
by_address areas names [] = []
by_address areas names (s ∷ more) = with_function areas names s (by_address areas names more)

-- of a program's areas, of a symbol table and of the section that holds its names
unfoldable pub functions : List Area → List ℕ → List ℕ → List (ℕ × Symbol)
functions areas table names = by_address areas (ended names) (symbols table)
