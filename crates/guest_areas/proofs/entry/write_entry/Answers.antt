use Rattle.std.proofs.Common.{ℕ, ◌-◌, List, [], ◌∷◌, lit≤, refl, ap, ◌∙◌}
use Rattle.guest_memory.specs.Regions.{stack_top}
use Rattle.guest_memory.specs.Memory.{MemoryMap, rights_at}
use Rattle.guest_areas.specs.Entry.{stack_pointer, with_entry, with_numbers, entry_numbers}
use Rattle.guest_areas.proofs.Lookups.{page_allowed}
use Rattle.guest_areas.proofs.entry.write_entry.Goals as goal

pub write_bytes-requires : goal.write_bytes-requires
write_bytes-requires c =
    page_allowed (λ r. r.write) c.args.memory.now c.args.memory.now stack_pointer 144 4 c.requires refl (lit≤ tt)

pub write_numbers-requires-clause-writable : goal.write_numbers-requires-clause-writable
write_numbers-requires-clause-writable c =
    ap (λ (m : MemoryMap). (rights_at m stack_pointer).write) c.write_bytes.ensures ∙ c.requires

-- the numbers with what the image gives
abbrev numbers_of : ℕ → ℕ → ℕ → List ℕ
numbers_of headers count entry =
    1 ∷ (stack_top - 32) ∷ 0 ∷ 0 ∷ 3 ∷ headers ∷ 4 ∷ 56 ∷ 5 ∷ count ∷ 6 ∷ 4096 ∷ 9 ∷ entry ∷ 25 ∷ (stack_top - 16) ∷ 0 ∷ 0 ∷ []

pub returns : goal.returns
unfolding with_entry
returns c =
    c.write_numbers.ensures
    ∙ ap (λ (h : ℕ). with_numbers stack_pointer (numbers_of h c.header_count.result c.entry.result) c.write_bytes.new.memory) c.headers.ensures
    ∙ ap (λ (n : ℕ). with_numbers stack_pointer (numbers_of c.args.image.now.headers n c.entry.result) c.write_bytes.new.memory) c.header_count.ensures
    ∙ ap (λ (e : ℕ). with_numbers stack_pointer (numbers_of c.args.image.now.headers c.args.image.now.header_count e) c.write_bytes.new.memory) c.entry.ensures.entry
    ∙ ap (λ (m : MemoryMap). with_numbers stack_pointer (entry_numbers c.args.image.now) m) c.write_bytes.ensures
