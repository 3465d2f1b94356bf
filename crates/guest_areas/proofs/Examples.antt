-- Worked values of the calls, over the usual layout.
use Rattle.std.proofs.Common.{ℕ, ◌≡◌, ◌+◌, ◌-◌, ◌*◌, true, false, [], ◌∷◌, refl, Some}
use Rattle.std.specs.Prelude.{pos}
use Rattle.coz_types.specs.declared.image.Area.{Area}
use Rattle.coz_types.specs.Image.{ImageParts}
use Rattle.guest_memory.specs.Regions.{usual, brk_base, map_base}
use Rattle.guest_memory.specs.Memory.{empty_memory, load, is_writable}
use Rattle.guest_areas.specs.Answers.{no_memory, no_access, invalid_argument}
use Rattle.guest_areas.specs.Space.{Space, space, Answered, with_break, map, unmap, protect}
use Rattle.guest_areas.specs.Entry.{with_numbers, with_entry, stack_pointer, first_space}

abbrev area : Area
area = record { start = 0x10000; size = 4096; rights = record { read = true; write = false; execute = true }; vaddr = 0x10000; offset = 0; filled = 0 }

abbrev image : ImageParts
image = record { file = []; areas = area ∷ []; entry = 0x10000; headers = 0x10040; header_count = 2 }

abbrev start : Space
start = space (record { areas = area ∷ []; layout = usual; break = brk_base; mapped = [] }) (empty_memory image usual)

abbrev mapped : ℕ → Space → Space
mapped length s = (map length 3 s).space

-- the break may stand at the end of its region, and neither below its base nor above its end
at_the_end : (with_break (brk_base + 16 * 1048576) start).regions.break ≡ brk_base + 16 * 1048576
unfolding with_break
at_the_end = refl

above : with_break (brk_base + 16 * 1048576 + 1) start ≡ start
unfolding with_break
above = refl

below : with_break (brk_base - 1) start ≡ start
unfolding with_break
below = refl

-- a page that was below the break and is above it now has no rights
lowered : is_writable (with_break (brk_base + 1) (with_break (brk_base + 5000) start)).memory (brk_base + 4096) 1 ≡ false
unfolding with_break
lowered = refl

-- mappings take the lowest free run that is long enough
second : (map 8192 3 (mapped 4096 start)).answer ≡ pos (map_base + 4096)
unfolding map
second = refl

-- a page left between two is too short for two, and right for one
long : (map 8192 3 (unmap (map_base + 4096) 4096 (mapped 4096 (mapped 4096 (mapped 4096 start)))).space).answer ≡ pos (map_base + 3 * 4096)
unfolding map unmap
long = refl

short : (map 1 3 (unmap (map_base + 4096) 4096 (mapped 4096 (mapped 4096 (mapped 4096 start)))).space).answer ≡ pos (map_base + 4096)
unfolding map unmap
short = refl

no_bytes : (map 0 3 start).answer ≡ invalid_argument
unfolding map
no_bytes = refl

to_execute : (map 1 4 start).answer ≡ no_access
unfolding map
to_execute = refl

-- half of the range is outside of the region
half : (unmap (map_base + 48 * 1048576 - 4096) 8192 start).answer ≡ invalid_argument
unfolding unmap
half = refl

-- the second of the three pages is a hole
hole : protect map_base 12288 1 (unmap (map_base + 4096) 4096 (mapped 12288 start)).space ≡ (let a : Answered = record { answer = no_memory; space = (unmap (map_base + 4096) 4096 (mapped 12288 start)).space } in a)
unfolding map unmap protect
hole = refl

-- the address of the one argument, and its first byte
argument : load (first_space image usual).memory (stack_pointer + 8) 8 ≡ Some 0x3FFFFFFFE0
unfolding with_entry with_numbers
argument = refl

letter : load (first_space image usual).memory 0x3FFFFFFFE0 1 ≡ Some 0x70
unfolding with_entry with_numbers
letter = refl

-- the count of the program headers stands after its key
headers : load (first_space image usual).memory (stack_pointer + 72) 8 ≡ Some 2
unfolding with_entry with_numbers
headers = refl
