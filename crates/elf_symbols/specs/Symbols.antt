-- The entries of a symbol table (ELF-64 Object File Format, version 1.5, "Symbol Table").
use Rattle.std.specs.Prelude.{ℕ, ◌+◌, ◌/◌, ◌%◌, Bool, not, ◌&&◌, ◌==◌, nat_lt, nat_le, List, [], ◌∷◌, map, take_while, drop, length, slice_index, if◌then◌else◌}
use Rattle.std.specs.Int.{w16, w32, w64}
use Rattle.coz_types.specs.declared.image.Area.{Area}
use Rattle.elf_load.specs.Tables.{number, places}
use Rattle.elf_symbols.specs.declared.symbols.Symbol.{Symbol}

-- the entry at an offset
abbrev pub symbol_at : List ℕ → ℕ → Symbol
symbol_at table offset = record {
  name = number w32 table offset;
  kind = slice_index table (offset + 4) % 16;
  section = number w16 table (offset + 6);
  address = number w64 table (offset + 8);
  size = number w64 table (offset + 16);
}

-- the whole entries, of 24 bytes each
abbrev pub symbols : List ℕ → List Symbol
symbols table = map (symbol_at table) (places 0 24 (length table / 24))

-- ---- names

-- a byte before names that end
abbrev pub before_ended : ℕ → List ℕ → List ℕ
before_ended b [] = if b == 0 then b ∷ [] else []
before_ended b (c ∷ cs) = b ∷ c ∷ cs

-- the names that a zero byte ends: the bytes up to the last zero byte
abbrev pub ended : List ℕ → List ℕ
ended [] = []
ended (b ∷ bs) = before_ended b (ended bs)

-- its name begins among these names, and isn't empty
abbrev pub has_name : List ℕ → Symbol → Bool
has_name names s = nat_lt s.name (length names) && not (slice_index names s.name == 0)

-- the bytes up to the next zero byte
abbrev pub name_of : List ℕ → Symbol → List ℕ
name_of names s = take_while (λ b. not (b == 0)) (drop s.name names)

-- ---- areas

-- all bytes of the symbol lie in the area, whose words may be executed
abbrev pub is_in_area : Symbol → Area → Bool
is_in_area s area =
    area.rights.execute
    && (nat_le area.start s.address && nat_le (s.address + s.size) (area.start + area.size))
