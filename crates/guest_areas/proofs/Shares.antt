-- No call changes the load areas, the layout or what the memory was made from.
use Rattle.std.proofs.Common.{ℕ, ◌≡◌, ◌+◌, ◌-◌, [], ◌∷◌, Bool, true, false, not, ◌&&◌, ◌||◌, cond, leb, ltb, eqb, List, refl, sym, ap, ◌∙◌, Option, Some, None}
use Rattle.std.specs.Prelude.{pos}
use Rattle.std.specs.Int.{bytes_low_first}
use Rattle.guest_memory.specs.Memory.{MemoryMap, no_rights, read_and_write, with_rights_from, with_zeros, with_number, with_bytes, first_memory}
use Rattle.guest_memory.specs.Regions.{page_of, pages_for, brk_base, brk_end, stack_top}
use Rattle.guest_memory.proofs.Runs.{same_regions-with_rights_from, same_regions-with_bytes, same_regions-first}
use Rattle.coz_types.specs.Image.{ImageParts}
use Rattle.guest_memory.specs.declared.Layout.{Layout}
use Rattle.guest_areas.specs.Entry.{with_numbers, stack_pointer, name, entry_numbers, with_entry, first_space}
use Rattle.guest_areas.specs.Answers.{no_memory, no_access, invalid_argument}
use Rattle.guest_areas.specs.Space.{Space, space, SharesRegions, Answered, refused_answer, has_power, rights_of, is_page_start, is_each, is_known, free_run, memory_between, with_break, map, is_in_map, without_run, unmap, protect}
use Rattle.guest_areas.proofs.Calls.{map_chosen}

-- the space keeps the load areas, the layout and the memory's image
pub record IsSteady (s after : Space) : Type 0 where
  pub areas : after.regions.areas ≡ s.regions.areas
  pub regions : after.regions.layout ≡ s.regions.layout
  pub image : after.memory.image ≡ s.memory.image
  pub layout : after.memory.layout ≡ s.memory.layout

either : {X : Type 0} (P : X → Type 0) (b : Bool) (x y : X) → P x → P y → P (cond b x y)
either P true x y p q = p
either P false x y p q = q

same : (s : Space) → IsSteady s s
same s = record { areas = refl; regions = refl; image = refl; layout = refl }

between_same : (m : MemoryMap) (old new : ℕ) → ((memory_between old new m).image ≡ m.image) × ((memory_between old new m).layout ≡ m.layout)
between_same m old new =
    let up = same_regions-with_rights_from m old (new - old) read_and_write in
    either (λ (x : MemoryMap). (x.image ≡ m.image) × (x.layout ≡ m.layout)) (ltb old new) (with_zeros old (new - old) (with_rights_from old (new - old) read_and_write m)) (with_rights_from new (old - new) no_rights m)
    (up.0, up.1)
    (same_regions-with_rights_from m new (old - new) no_rights)

pub with_break-steady : (to : ℕ) (s : Space) → IsSteady s (with_break to s)
unfolding with_break
with_break-steady to s =
    let new = between_same s.memory (pages_for s.regions.break) (pages_for to) in
    either (IsSteady s) (leb brk_base to && leb to (brk_end s.regions.layout)) (space (record s.regions { break = to }) (memory_between (pages_for s.regions.break) (pages_for to) s.memory)) s
    (record { areas = refl; regions = refl; image = new.0; layout = new.1 }) (same s)

chosen_steady : (length protection : ℕ) (s : Space) (o : Option ℕ) → IsSteady s (map_chosen length protection s o).space
chosen_steady length protection s None = same s
chosen_steady length protection s (Some first) =
    let new = same_regions-with_rights_from s.memory first (pages_for length) (rights_of protection) in record { areas = refl; regions = refl; image = new.0; layout = new.1 }

pub map-steady : (length protection : ℕ) (s : Space) → IsSteady s (map length protection s).space
unfolding map
map-steady length protection s =
    either (λ (a : Answered). IsSteady s a.space) (eqb length 0) (refused_answer invalid_argument s) (cond (has_power protection 4) (refused_answer no_access s) (map_chosen length protection s (free_run s.regions (pages_for length)))) (same s)
    (either (λ (a : Answered). IsSteady s a.space) (has_power protection 4) (refused_answer no_access s) (map_chosen length protection s (free_run s.regions (pages_for length))) (same s)
    (chosen_steady length protection s (free_run s.regions (pages_for length))))

pub unmap-steady : (address length : ℕ) (s : Space) → IsSteady s (unmap address length s).space
unfolding unmap
unmap-steady address length s =
    let new = same_regions-with_rights_from s.memory (page_of address) (pages_for length) no_rights in
    either (λ (a : Answered). IsSteady s a.space) (not (is_page_start address) || eqb length 0 || not (is_in_map s.regions.layout address length)) (refused_answer invalid_argument s)
    (record { answer = pos 0; space = without_run (page_of address) (pages_for length) s }) (same s) (record { areas = refl; regions = refl; image = new.0; layout = new.1 })

pub protect-steady : (address length protection : ℕ) (s : Space) → IsSteady s (protect address length protection s).space
unfolding protect
protect-steady address length protection s =
    let new = same_regions-with_rights_from s.memory (page_of address) (pages_for length) (rights_of protection) in
    let done : Answered = record { answer = pos 0; space = space s.regions (with_rights_from (page_of address) (pages_for length) (rights_of protection) s.memory) } in
    let unless_known : Answered = cond (not (is_each (is_known s.regions) (page_of address) (pages_for length))) (refused_answer no_memory s) done in
    let unless_execute : Answered = cond (has_power protection 4) (refused_answer no_access s) unless_known in
    let Keeps : Answered → Type 0 = λ a. IsSteady s a.space in
    either Keeps (not (is_page_start address)) (refused_answer invalid_argument s) (cond (eqb length 0) (refused_answer (pos 0) s) unless_execute) (same s)
    (either Keeps (eqb length 0) (refused_answer (pos 0) s) unless_execute (same s)
    (either Keeps (has_power protection 4) (refused_answer no_access s) unless_known (same s)
    (either Keeps (not (is_each (is_known s.regions) (page_of address) (pages_for length))) (refused_answer no_memory s) done (same s)
    (record { areas = refl; regions = refl; image = new.0; layout = new.1 }))))

still_shared : (s after : Space) → IsSteady s after → SharesRegions s.regions s.memory → SharesRegions after.regions after.memory
still_shared s after steady h = record {
  areas = steady.areas ∙ h.areas ∙ sym (ap (λ (i : ImageParts). i.areas) steady.image);
  layout = steady.regions ∙ h.layout ∙ sym steady.layout;
}

pub with_break-shares : (to : ℕ) (s : Space) → SharesRegions s.regions s.memory → SharesRegions (with_break to s).regions (with_break to s).memory
with_break-shares to s = still_shared s (with_break to s) (with_break-steady to s)

pub map-shares : (length protection : ℕ) (s : Space) → SharesRegions s.regions s.memory → SharesRegions (map length protection s).space.regions (map length protection s).space.memory
map-shares length protection s = still_shared s (map length protection s).space (map-steady length protection s)

pub unmap-shares : (address length : ℕ) (s : Space) → SharesRegions s.regions s.memory → SharesRegions (unmap address length s).space.regions (unmap address length s).space.memory
unmap-shares address length s = still_shared s (unmap address length s).space (unmap-steady address length s)

pub protect-shares : (address length protection : ℕ) (s : Space) → SharesRegions s.regions s.memory → SharesRegions (protect address length protection s).space.regions (protect address length protection s).space.memory
protect-shares address length protection s = still_shared s (protect address length protection s).space (protect-steady address length protection s)

same_regions-with_numbers : (m : MemoryMap) (a : ℕ) (ns : List ℕ) → ((with_numbers a ns m).image ≡ m.image) × ((with_numbers a ns m).layout ≡ m.layout)
unfolding with_numbers
same_regions-with_numbers m a [] = (refl, refl)
same_regions-with_numbers m a (n ∷ ns) =
    let rest = same_regions-with_numbers (with_number a 8 n m) (a + 8) ns in
    let here = same_regions-with_bytes m a (bytes_low_first 0 8 n) in
    (rest.0 ∙ here.0, rest.1 ∙ here.1)

-- the first space
pub first_space-shares : (image : ImageParts) (layout : Layout) → SharesRegions (first_space image layout).regions (first_space image layout).memory
unfolding with_entry
first_space-shares image layout =
    let numbers = same_regions-with_numbers (with_bytes (stack_top - 32) name (first_memory image layout)) stack_pointer (entry_numbers image) in
    let bytes = same_regions-with_bytes (first_memory image layout) (stack_top - 32) name in
    let base = same_regions-first image layout in
    record { areas = sym (ap (λ (i : ImageParts). i.areas) (numbers.0 ∙ bytes.0 ∙ base.0)); layout = sym (numbers.1 ∙ bytes.1 ∙ base.1) }

pub first_space-made : (image : ImageParts) (layout : Layout) → ((first_space image layout).memory.image ≡ image) × ((first_space image layout).memory.layout ≡ layout)
unfolding with_entry
first_space-made image layout =
    let numbers = same_regions-with_numbers (with_bytes (stack_top - 32) name (first_memory image layout)) stack_pointer (entry_numbers image) in
    let bytes = same_regions-with_bytes (first_memory image layout) (stack_top - 32) name in
    let base = same_regions-first image layout in
    (numbers.0 ∙ bytes.0 ∙ base.0, numbers.1 ∙ bytes.1 ∙ base.1)
