-- Functions of a symbol table, and programs that are the same.
use Rattle.std.proofs.Common.{◌≡◌, ℕ, true, false, List, [], ◌∷◌, ◌++◌, refl}
use Rattle.std.specs.Prelude.{codes}
use Rattle.std.specs.Int.{w32, w64, to_le_bytes}
use Rattle.coz_types.specs.declared.image.Area.{Area}
use Rattle.elf_load.specs.Tables.{number}
use Rattle.elf_symbols.specs.declared.symbols.Symbol.{Symbol}
use Rattle.elf_symbols.specs.Symbols.{ended, name_of}
use Rattle.function_sequences.specs.Functions.{functions}

-- an entry in section 1
abbrev entry : ℕ → ℕ → ℕ → ℕ → List ℕ
entry name info address size = to_le_bytes w32 name ++ (info ∷ 0 ∷ 1 ∷ 0 ∷ to_le_bytes w64 address ++ to_le_bytes w64 size)

-- f, g, an object `o`, another name of g, a name that no zero byte ends
abbrev names : List ℕ
names = 0 ∷ codes "f" ++ (0 ∷ codes "g" ++ (0 ∷ codes "o" ++ (0 ∷ codes "tail")))

abbrev table : List ℕ
table = entry 3 18 0x10010 8 ++ (entry 1 18 0x10000 16 ++ (entry 5 17 0x10020 4 ++ (entry 5 18 0x10010 4 ++ (entry 7 18 0x10030 4 ++ (entry 1 18 0x10042 4 ++ (0 ∷ 0 ∷ []))))))

abbrev symbol : ℕ → ℕ → ℕ → Symbol
symbol name address size = record { name = name; kind = 2; section = 1; address = address; size = size }

-- an executable area
abbrev code : Area
code = record { start = 0x10000; size = 0x1000; rights = record { read = true; write = false; execute = true }; vaddr = 0x10000; offset = 0; filled = 0x1000 }

-- The first of two at 0x10010 counts. The object, the name without an end, and the address
-- between two instructions are no functions.
two_functions : functions (code ∷ []) table names ≡ (0x10000, symbol 1 0x10000 16) ∷ (0x10010, symbol 3 0x10010 8) ∷ []
unfolding functions number
two_functions = refl

name_of_g : name_of (ended names) (symbol 3 0x10010 8) ≡ codes "g"
name_of_g = refl

-- nor is what lies past the area's end
none_outside : functions (record code { size = 0 } ∷ []) table names ≡ []
unfolding functions number
none_outside = refl

none_ends : ended (codes "tail") ≡ []
none_ends = refl
