-- The address space of a guest, and the calls that change it (Linux: brk(2), mmap(2),
-- munmap(2), mprotect(2)).
use Rattle.std.specs.Prelude.{◌≡◌, ℕ, zero, suc, ◌+◌, ◌-◌, ◌*◌, ◌/◌, ◌%◌, Bool, true, false, not, ◌&&◌, ◌||◌, if◌then◌else◌, nat_le, nat_lt, ◌==◌, List, [], ◌∷◌, ◌++◌, filter, find, Option, Some, None, ℤ, pos}
use Rattle.std.specs.List.{list_any}
use Rattle.coz_types.specs.declared.image.Area.{Area}
use Rattle.coz_types.specs.declared.image.Rights.{Rights}
use Rattle.guest_memory.specs.declared.Layout.{Layout}
use Rattle.guest_memory.specs.Regions.{page_size, page_of, pages_for, brk_base, brk_end, map_base, map_end, stack_base}
use Rattle.guest_memory.specs.Memory.{MemoryMap, no_rights, read_and_write, with_rights_from, with_zeros}
use Rattle.guest_areas.specs.Answers.{no_memory, no_access, invalid_argument}

-- which pages a program has
pub record RegionMap : Type 0 where
  pub areas : List Area
  pub layout : Layout
  -- the first address that brk has not given
  pub break : ℕ
  -- the mapped pages of the map region, rising
  pub mapped : List ℕ

pub record Space : Type 0 where
  pub regions : RegionMap
  pub memory : MemoryMap

abbrev pub space : RegionMap → MemoryMap → Space
space regions memory = record { regions = regions; memory = memory }

-- the memory keeps the same load areas and the same layout
pub record SharesRegions (r : RegionMap) (m : MemoryMap) : Type 0 where
  pub areas : r.areas ≡ m.image.areas
  pub layout : r.layout ≡ m.layout

-- what a call answers, and the space after it
pub record Answered : Type 0 where
  pub answer : ℤ
  pub space : Space

-- it answers so, and nothing changes
abbrev pub refused_answer : ℤ → Space → Answered
refused_answer answer s = record { answer = answer; space = s }

-- a power of two is among those that the number is made of
abbrev pub has_power : ℕ → ℕ → Bool
has_power number power = number / power % 2 == 1

-- 1 is read and 2 is write, which gives read too
abbrev pub rights_of : ℕ → Rights
rights_of protection = record {
  read = has_power protection 1 || has_power protection 2;
  write = has_power protection 2;
  execute = false;
}

abbrev pub is_page_start : ℕ → Bool
is_page_start address = address % page_size == 0

-- `page` is one of the `count` pages from `first` on
abbrev pub is_in_run : ℕ → ℕ → ℕ → Bool
is_in_run first count page = nat_le first page && nat_lt page (first + count)

-- the `count` pages from `first` on
abbrev pub run : ℕ → ℕ → List ℕ
run first zero = []
run first (suc count) = first ∷ run (first + 1) count

-- each of the `count` pages from `first` on passes the test
abbrev pub is_each : (ℕ → Bool) → ℕ → ℕ → Bool
is_each test first zero = true
is_each test first (suc count) = elim (test first) [
  | true ↦ is_each test (first + 1) count
  | false ↦ false
]

abbrev pub is_free_run : RegionMap → ℕ → ℕ → Bool
is_free_run r first count = not (list_any (is_in_run first count) r.mapped)

-- the pages from which `count` pages lie in the map region, rising
abbrev pub starts : RegionMap → ℕ → List ℕ
starts r count = run (page_of map_base) (page_of r.layout.map + 1 - count)

-- the least page from which `count` pages of the map region are free
abbrev pub free_run : RegionMap → ℕ → Option ℕ
free_run r count = find (λ page. is_free_run r page count) (starts r count)

abbrev pub is_in_area : ℕ → Area → Bool
is_in_area page area = is_in_run (page_of area.start) (page_of area.size) page

-- the page is mapped, below the break, of the stack, or of a load area
abbrev pub is_known : RegionMap → ℕ → Bool
is_known r page =
    list_any (λ p. p == page) r.mapped
    || is_in_run (page_of brk_base) (pages_for r.break - page_of brk_base) page
    || is_in_run (page_of (stack_base r.layout)) (page_of r.layout.stack) page
    || list_any (is_in_area page) r.areas

-- the memory after the break has moved, in pages
abbrev pub memory_between : ℕ → ℕ → MemoryMap → MemoryMap
memory_between old new m =
    if nat_lt old new
    then with_zeros old (new - old) (with_rights_from old (new - old) read_and_write m)
    else with_rights_from new (old - new) no_rights m

-- brk: the break, if it may stand there; it answers with the break after it
unfoldable pub with_break : ℕ → Space → Space
with_break to s =
    if nat_le brk_base to && nat_le to (brk_end s.regions.layout)
    then space (record s.regions { break = to })
    (memory_between (pages_for s.regions.break) (pages_for to) s.memory)
    else s

abbrev pub with_run : ℕ → ℕ → ℕ → Space → Space
with_run first count protection s =
    space (record s.regions {
      mapped = filter (λ p. nat_lt p first) s.regions.mapped ++ run first count
          ++ filter (λ p. nat_lt first p) s.regions.mapped;
    })
    (with_zeros first count (with_rights_from first count (rights_of protection) s.memory))

-- mmap of `length` bytes
unfoldable pub map : ℕ → ℕ → Space → Answered
map length protection s =
    if length == 0 then refused_answer invalid_argument s
    else if has_power protection 4 then refused_answer no_access s
    else elim (free_run s.regions (pages_for length)) [
      | None ↦ refused_answer no_memory s
      | Some first ↦ record {
        answer = pos (first * page_size);
        space = with_run first (pages_for length) protection s;
      }
    ]

-- `length` bytes from an address on, in whole pages, are in the map region
abbrev pub is_in_map : Layout → ℕ → ℕ → Bool
is_in_map layout address length =
    nat_le map_base address && nat_le (address + pages_for length * page_size) (map_end layout)

abbrev pub without_run : ℕ → ℕ → Space → Space
without_run first count s =
    space
    (record s.regions { mapped = filter (λ p. not (is_in_run first count p)) s.regions.mapped })
    (with_rights_from first count no_rights s.memory)

-- munmap of `length` bytes from an address on
unfoldable pub unmap : ℕ → ℕ → Space → Answered
unmap address length s =
    if not (is_page_start address) || length == 0 || not (is_in_map s.regions.layout address length)
    then refused_answer invalid_argument s
    else record { answer = pos 0; space = without_run (page_of address) (pages_for length) s }

-- mprotect of `length` bytes from an address on
unfoldable pub protect : ℕ → ℕ → ℕ → Space → Answered
protect address length protection s =
    if not (is_page_start address) then refused_answer invalid_argument s
    else if length == 0 then refused_answer (pos 0) s
    else if has_power protection 4 then refused_answer no_access s
    else if not (is_each (is_known s.regions) (page_of address) (pages_for length))
    then refused_answer no_memory s
    else record {
      answer = pos 0;
      space = space s.regions
          (with_rights_from (page_of address) (pages_for length) (rights_of protection) s.memory);
    }
