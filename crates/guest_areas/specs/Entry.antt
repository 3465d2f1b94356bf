-- What a program finds at its entry: the stack of the System V ABI, with one argument
-- and an auxiliary vector.
use Rattle.std.specs.Prelude.{ℕ, ◌+◌, ◌-◌, List, [], ◌∷◌}
use Rattle.coz_types.specs.declared.TheConstants.{PAGE}
use Rattle.coz_types.specs.Image.{ImageParts}
use Rattle.guest_memory.specs.declared.Layout.{Layout}
use Rattle.guest_memory.specs.Regions.{brk_base, stack_top}
use Rattle.guest_memory.specs.Memory.{MemoryMap, with_bytes, with_number, first_memory}
use Rattle.guest_areas.specs.Space.{RegionMap, Space, space}

-- numbers of 8 bytes in a row
unfoldable pub with_numbers : ℕ → List ℕ → MemoryMap → MemoryMap
with_numbers address [] m = m
with_numbers address (n ∷ ns) m = with_numbers (address + 8) ns (with_number address 8 n m)

abbrev pub stack_pointer : ℕ
stack_pointer = stack_top - 176

-- the program's name, "prog"
abbrev pub name : List ℕ
name = 0x70 ∷ 0x72 ∷ 0x6F ∷ 0x67 ∷ []

-- one argument, no environment, and the auxiliary vector: the program headers with their size and
-- count, the size of a page, the entry, 16 bytes of zeros instead of random ones, and the end
abbrev pub entry_numbers : ImageParts → List ℕ
entry_numbers image =
    1 ∷ (stack_top - 32) ∷ 0
    ∷ 0
    ∷ 3 ∷ image.headers
    ∷ 4 ∷ 56
    ∷ 5 ∷ image.header_count
    ∷ 6 ∷ PAGE
    ∷ 9 ∷ image.entry
    ∷ 25 ∷ (stack_top - 16)
    ∷ 0 ∷ 0
    ∷ []

unfoldable pub with_entry : ImageParts → MemoryMap → MemoryMap
with_entry image m =
    with_numbers stack_pointer (entry_numbers image) (with_bytes (stack_top - 32) name m)

abbrev pub first_regions : ImageParts → Layout → RegionMap
first_regions image layout = record {
  areas = image.areas;
  layout = layout;
  break = brk_base;
  mapped = [];
}

-- nothing is mapped, the break is at its base, and the stack has what the entry wants
abbrev pub first_space : ImageParts → Layout → Space
first_space image layout =
    space (first_regions image layout) (with_entry image (first_memory image layout))
