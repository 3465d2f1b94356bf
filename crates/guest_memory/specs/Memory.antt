-- Memory: a byte at each address, and the rights of each page.
use Rattle.std.specs.Prelude.{◌≡◌, ◌⊎◌, ℕ, zero, suc, ◌+◌, ◌*◌, Bool, true, false, not, ◌&&◌, ◌||◌, if◌then◌else◌, nat_le, nat_lt, ◌==◌, ◌≤◌, ◌<◌, List, [], ◌∷◌, take, drop, fold, Option, Some, None, IsTrue}
use Rattle.std.specs.Int.{bytes_low_first}
use Rattle.coz_types.specs.declared.image.Rights.{Rights}
use Rattle.coz_types.specs.declared.image.Area.{Area}
use Rattle.guest_memory.specs.declared.Layout.{Layout}
use Rattle.coz_types.specs.Maps.{Map, value_or, entries_without}
use Rattle.coz_types.specs.Image.{ImageParts}
use Rattle.guest_memory.specs.Entries.{with_kept}
use Rattle.guest_memory.specs.Regions.{page_of, stack_base, IsKnown}

pub record MemoryMap : Type 0 where
  -- what it was made from: the image with the load areas, and the sizes of the other regions
  pub image : ImageParts
  pub layout : Layout
  -- the rights of each page that has any, by its number
  pub rights : Map Rights
  -- the byte at each address, if it isn't 0
  pub bytes : Map ℕ

abbrev pub no_rights : Rights
no_rights = record { read = false; write = false; execute = false }

abbrev pub read_and_write : Rights
read_and_write = record { read = true; write = true; execute = false }

abbrev pub is_any_right : Rights → Bool
is_any_right r = r.read || r.write || r.execute

abbrev pub is_any_byte : ℕ → Bool
is_any_byte b = not (b == 0)

abbrev pub byte_at : MemoryMap → ℕ → ℕ
byte_at m a = value_or 0 m.bytes a

abbrev pub rights_at : MemoryMap → ℕ → Rights
rights_at m a = value_or no_rights m.rights (page_of a)

abbrev pub with_byte : ℕ → ℕ → MemoryMap → MemoryMap
with_byte a b m = record m { bytes = with_kept is_any_byte a b m.bytes }

abbrev pub with_rights : ℕ → Rights → MemoryMap → MemoryMap
with_rights page r m = record m { rights = with_kept is_any_right page r m.rights }

-- n bytes from an address on have the right
abbrev pub is_allowed : (Rights → Bool) → MemoryMap → ℕ → ℕ → Bool
is_allowed right m a zero = true
is_allowed right m a (suc n) = elim (right (rights_at m a)) [
  | true ↦ is_allowed right m (a + 1) n
  | false ↦ false
]

abbrev pub is_readable : MemoryMap → ℕ → ℕ → Bool
is_readable m a n = is_allowed (λ r. r.read) m a n

abbrev pub is_writable : MemoryMap → ℕ → ℕ → Bool
is_writable m a n = is_allowed (λ r. r.write) m a n

abbrev pub is_executable : MemoryMap → ℕ → ℕ → Bool
is_executable m a n = is_allowed (λ r. r.execute) m a n

-- the number that n bytes write, the lowest first
abbrev pub number_at : MemoryMap → ℕ → ℕ → ℕ
number_at m a zero = 0
number_at m a (suc n) = byte_at m a + 256 * number_at m (a + 1) n

abbrev pub bytes_at : MemoryMap → ℕ → ℕ → List ℕ
bytes_at m a zero = []
bytes_at m a (suc n) = byte_at m a ∷ bytes_at m (a + 1) n

abbrev pub with_bytes : ℕ → List ℕ → MemoryMap → MemoryMap
with_bytes a [] m = m
with_bytes a (b ∷ bs) m = with_bytes (a + 1) bs (with_byte a b m)

-- the n lowest bytes of a number from an address on, the lowest first
abbrev pub with_number : ℕ → ℕ → ℕ → MemoryMap → MemoryMap
with_number a n value m = with_bytes a (bytes_low_first 0 n value) m

-- a page that the memory keeps: it is known, or may be written
abbrev pub IsHeld : MemoryMap → ℕ → Type 0
IsHeld m a = IsKnown m.image.areas m.layout (page_of a) ⊎ IsTrue (rights_at m a).write

-- the sizes of a load or a store
abbrev pub IsSize : ℕ → Type 0
IsSize n = (n ≡ 1) ⊎ (n ≡ 2) ⊎ (n ≡ 4) ⊎ (n ≡ 8)

-- None if some byte lacks the right
abbrev pub load : MemoryMap → ℕ → ℕ → Option ℕ
load m a size = if is_readable m a size then Some (number_at m a size) else None

abbrev pub store : ℕ → ℕ → ℕ → MemoryMap → Option MemoryMap
store a size value m = if is_writable m a size then Some (with_number a size value m) else None

abbrev pub fetch : MemoryMap → ℕ → Option ℕ
fetch m a = if is_executable m a 4 then Some (number_at m a 4) else None

-- n pages from `page` on have these rights
abbrev pub with_rights_from : ℕ → ℕ → Rights → MemoryMap → MemoryMap
with_rights_from page zero r m = m
with_rights_from page (suc n) r m = with_rights_from (page + 1) n r (with_rights page r m)

-- n pages from `page` on are zeros
abbrev pub with_zeros : ℕ → ℕ → MemoryMap → MemoryMap
with_zeros page n m = record m {
  bytes = entries_without (λ a. nat_le page (page_of a) && nat_lt (page_of a) (page + n)) m.bytes;
}

abbrev pub area_bytes : ImageParts → Area → List ℕ
area_bytes image area = take area.filled (drop area.offset image.file)

-- with a load area of an image
abbrev pub with_area : ImageParts → MemoryMap → Area → MemoryMap
with_area image m area =
    with_bytes area.vaddr (area_bytes image area)
    (with_rights_from (page_of area.start) (page_of area.size) area.rights m)

abbrev pub empty_memory : ImageParts → Layout → MemoryMap
empty_memory image layout = record { image = image; layout = layout; rights = []; bytes = [] }

-- the load areas of an image, and a stack of zeros
abbrev pub first_memory : ImageParts → Layout → MemoryMap
first_memory image layout =
    with_rights_from (page_of (stack_base layout)) (page_of layout.stack) read_and_write
    (fold (with_area image) (empty_memory image layout) image.areas)

-- so many bytes from an address on, and their rights, are as in the first memory
abbrev pub IsFirstFrom : ℕ → ℕ → MemoryMap → Type 0
IsFirstFrom start size m =
    (a : ℕ) → start ≤ a → a < start + size
    → (rights_at m a ≡ rights_at (first_memory m.image m.layout) a)
    × (byte_at m a ≡ byte_at (first_memory m.image m.layout) a)
