-- What each call answers, case by case.
use Rattle.std.proofs.Common.{ℕ, ◌≡◌, ◌-◌, ◌*◌, ◌%◌, ◌≤◌, ◌<◌, Bool, true, false, not, ◌&&◌, ◌||◌, leb, ltb, eqb, arith, refl, ap, ◌∙◌, Option, Some, None}
use Rattle.std.specs.Prelude.{pos, if◌then◌else◌}
use Rattle.std.proofs.lemmas.Bool.{cond-true, cond-false, and_from, leb-true, ltb-true, le-leb, lt-ltb, eq-eqb, ne_eqb, false_from_ne_true, and_parts}
use Rattle.guest_memory.specs.Regions.{page_size, page_of, pages_for, brk_base, brk_end}
use Rattle.guest_memory.specs.Memory.{MemoryMap, no_rights, read_and_write, with_rights_from, with_zeros}
use Rattle.guest_areas.specs.Answers.{no_memory, no_access, invalid_argument}
use Rattle.guest_areas.specs.Space.{Space, space, Answered, refused_answer, has_power, rights_of, is_page_start, is_each, free_run, is_known, memory_between, with_break, with_run, map, is_in_map, without_run, unmap, protect}

not_le : (a b : ℕ) → b < a → leb a b ≡ false
not_le a b h = false_from_ne_true (leb a b) (λ e. let l : a ≤ b = leb-true a b e in omega arith)

and_false_left : (a b : Bool) → a ≡ false → (a && b) ≡ false
and_false_left a b e = false_from_ne_true (a && b) (λ h. let p = and_parts a b h in let q : a ≡ true = p.0 in let no : ⊥ = cc in no)

and_false_right : (a b : Bool) → b ≡ false → (a && b) ≡ false
and_false_right a b e = false_from_ne_true (a && b) (λ h. let p = and_parts a b h in let q : b ≡ true = p.1 in let no : ⊥ = cc in no)

-- brk

pub with_break-low : (to : ℕ) (s : Space) → to < brk_base → with_break to s ≡ s
unfolding with_break
with_break-low to s h =
    cond-false (leb brk_base to && leb to (brk_end s.regions.layout))
    (space (record s.regions { break = to }) (memory_between (pages_for s.regions.break) (pages_for to) s.memory)) s
    (and_false_left (leb brk_base to) (leb to (brk_end s.regions.layout)) (not_le brk_base to h))

pub with_break-high : (to : ℕ) (s : Space) → brk_end s.regions.layout < to → with_break to s ≡ s
unfolding with_break
with_break-high to s h =
    cond-false (leb brk_base to && leb to (brk_end s.regions.layout))
    (space (record s.regions { break = to }) (memory_between (pages_for s.regions.break) (pages_for to) s.memory)) s
    (and_false_right (leb brk_base to) (leb to (brk_end s.regions.layout)) (not_le to (brk_end s.regions.layout) h))

within : (to : ℕ) (s : Space) → brk_base ≤ to → to ≤ brk_end s.regions.layout → with_break to s ≡ space (record s.regions { break = to }) (memory_between (pages_for s.regions.break) (pages_for to) s.memory)
unfolding with_break
within to s low high =
    cond-true (leb brk_base to && leb to (brk_end s.regions.layout))
    (space (record s.regions { break = to }) (memory_between (pages_for s.regions.break) (pages_for to) s.memory)) s
    (and_from (leb brk_base to) (leb to (brk_end s.regions.layout)) (le-leb brk_base to low) (le-leb to (brk_end s.regions.layout) high))

pub with_break-up : (to : ℕ) (s : Space) → brk_base ≤ to → to ≤ brk_end s.regions.layout → pages_for s.regions.break < pages_for to
    → with_break to s ≡ space (record s.regions { break = to }) (with_zeros (pages_for s.regions.break) (pages_for to - pages_for s.regions.break) (with_rights_from (pages_for s.regions.break) (pages_for to - pages_for s.regions.break) read_and_write s.memory))
with_break-up to s low high up =
    within to s low high
    ∙ ap (λ (m : MemoryMap). space (record s.regions { break = to }) m)
    (cond-true (ltb (pages_for s.regions.break) (pages_for to))
    (with_zeros (pages_for s.regions.break) (pages_for to - pages_for s.regions.break) (with_rights_from (pages_for s.regions.break) (pages_for to - pages_for s.regions.break) read_and_write s.memory))
    (with_rights_from (pages_for to) (pages_for s.regions.break - pages_for to) no_rights s.memory)
    (lt-ltb (pages_for s.regions.break) (pages_for to) up))

pub with_break-down : (to : ℕ) (s : Space) → brk_base ≤ to → to ≤ brk_end s.regions.layout → pages_for to ≤ pages_for s.regions.break
    → with_break to s ≡ space (record s.regions { break = to }) (with_rights_from (pages_for to) (pages_for s.regions.break - pages_for to) no_rights s.memory)
with_break-down to s low high down =
    within to s low high
    ∙ ap (λ (m : MemoryMap). space (record s.regions { break = to }) m)
    (cond-false (ltb (pages_for s.regions.break) (pages_for to))
    (with_zeros (pages_for s.regions.break) (pages_for to - pages_for s.regions.break) (with_rights_from (pages_for s.regions.break) (pages_for to - pages_for s.regions.break) read_and_write s.memory))
    (with_rights_from (pages_for to) (pages_for s.regions.break - pages_for to) no_rights s.memory)
    (false_from_ne_true (ltb (pages_for s.regions.break) (pages_for to)) (λ e. let l : pages_for s.regions.break < pages_for to = ltb-true (pages_for s.regions.break) (pages_for to) e in omega arith)))

-- mmap

abbrev pub map_chosen : ℕ → ℕ → Space → Option ℕ → Answered
map_chosen length protection s found = elim found [
  | None ↦ refused_answer no_memory s
  | Some first ↦ record { answer = pos (first * page_size); space = with_run first (pages_for length) protection s }
]

abbrev map_access : ℕ → ℕ → Space → Bool → Answered
map_access length protection s asks =
    if asks then refused_answer no_access s else map_chosen length protection s (free_run s.regions (pages_for length))

abbrev map_empty : ℕ → ℕ → Space → Bool → Answered
map_empty length protection s empty = if empty then refused_answer invalid_argument s else map_access length protection s (has_power protection 4)

map_is : (length protection : ℕ) (s : Space) → map length protection s ≡ map_empty length protection s (eqb length 0)
unfolding map
map_is length protection s = refl

pub map-empty : (length protection : ℕ) (s : Space) → length ≡ 0 → map length protection s ≡ refused_answer invalid_argument s
map-empty length protection s h =
    map_is length protection s ∙ ap (λ (b : Bool). map_empty length protection s b) (eq-eqb length 0 h)

pub map-execute : (length protection : ℕ) (s : Space) → (length ≡ 0 → ⊥) → has_power protection 4 ≡ true → map length protection s ≡ refused_answer no_access s
map-execute length protection s h x =
    map_is length protection s ∙ ap (λ (b : Bool). map_empty length protection s b) (ne_eqb length 0 h)
    ∙ ap (λ (b : Bool). map_access length protection s b) x

pub map-at : (length protection : ℕ) (s : Space) (found : Option ℕ) → (length ≡ 0 → ⊥) → has_power protection 4 ≡ false → free_run s.regions (pages_for length) ≡ found → map length protection s ≡ map_chosen length protection s found
map-at length protection s found h x e =
    map_is length protection s ∙ ap (λ (b : Bool). map_empty length protection s b) (ne_eqb length 0 h)
    ∙ ap (λ (b : Bool). map_access length protection s b) x
    ∙ ap (λ (o : Option ℕ). map_chosen length protection s o) e

-- munmap

pub unmap-refused : (address length : ℕ) (s : Space) → (not (is_page_start address) || eqb length 0 || not (is_in_map s.regions.layout address length)) ≡ true → unmap address length s ≡ refused_answer invalid_argument s
unfolding unmap
unmap-refused address length s h =
    cond-true (not (is_page_start address) || eqb length 0 || not (is_in_map s.regions.layout address length)) (refused_answer invalid_argument s)
    (record { answer = pos 0; space = without_run (page_of address) (pages_for length) s }) h

pub unmap-done : (address length : ℕ) (s : Space) → (not (is_page_start address) || eqb length 0 || not (is_in_map s.regions.layout address length)) ≡ false → unmap address length s ≡ record { answer = pos 0; space = without_run (page_of address) (pages_for length) s }
unfolding unmap
unmap-done address length s h =
    cond-false (not (is_page_start address) || eqb length 0 || not (is_in_map s.regions.layout address length)) (refused_answer invalid_argument s)
    (record { answer = pos 0; space = without_run (page_of address) (pages_for length) s }) h

-- mprotect

abbrev protect_known : ℕ → ℕ → ℕ → Space → Bool → Answered
protect_known address length protection s known =
    if not known then refused_answer no_memory s
    else record { answer = pos 0; space = space s.regions (with_rights_from (page_of address) (pages_for length) (rights_of protection) s.memory) }

abbrev protect_access : ℕ → ℕ → ℕ → Space → Bool → Answered
protect_access address length protection s asks =
    if asks then refused_answer no_access s
    else protect_known address length protection s (is_each (is_known s.regions) (page_of address) (pages_for length))

abbrev protect_empty : ℕ → ℕ → ℕ → Space → Bool → Answered
protect_empty address length protection s empty =
    if empty then refused_answer (pos 0) s else protect_access address length protection s (has_power protection 4)

abbrev protect_start : ℕ → ℕ → ℕ → Space → Bool → Answered
protect_start address length protection s starts =
    if not starts then refused_answer invalid_argument s else protect_empty address length protection s (eqb length 0)

protect_is : (address length protection : ℕ) (s : Space) → protect address length protection s ≡ protect_start address length protection s (is_page_start address)
unfolding protect
protect_is address length protection s = refl

pub protect-start : (address length protection : ℕ) (s : Space) → (address % 4096 ≡ 0 → ⊥) → protect address length protection s ≡ refused_answer invalid_argument s
protect-start address length protection s h =
    protect_is address length protection s ∙ ap (λ (b : Bool). protect_start address length protection s b) (ne_eqb (address % 4096) 0 h)

pub protect-empty : (address length protection : ℕ) (s : Space) → address % 4096 ≡ 0 → length ≡ 0 → protect address length protection s ≡ refused_answer (pos 0) s
protect-empty address length protection s a h =
    protect_is address length protection s ∙ ap (λ (b : Bool). protect_start address length protection s b) (eq-eqb (address % 4096) 0 a)
    ∙ ap (λ (b : Bool). protect_empty address length protection s b) (eq-eqb length 0 h)

pub protect-execute : (address length protection : ℕ) (s : Space) → address % 4096 ≡ 0 → (length ≡ 0 → ⊥) → has_power protection 4 ≡ true → protect address length protection s ≡ refused_answer no_access s
protect-execute address length protection s a h x =
    protect_is address length protection s ∙ ap (λ (b : Bool). protect_start address length protection s b) (eq-eqb (address % 4096) 0 a)
    ∙ ap (λ (b : Bool). protect_empty address length protection s b) (ne_eqb length 0 h)
    ∙ ap (λ (b : Bool). protect_access address length protection s b) x

pub protect-unknown : (address length protection : ℕ) (s : Space) → address % 4096 ≡ 0 → (length ≡ 0 → ⊥) → has_power protection 4 ≡ false → is_each (is_known s.regions) (page_of address) (pages_for length) ≡ false → protect address length protection s ≡ refused_answer no_memory s
protect-unknown address length protection s a h x k =
    protect_is address length protection s ∙ ap (λ (b : Bool). protect_start address length protection s b) (eq-eqb (address % 4096) 0 a)
    ∙ ap (λ (b : Bool). protect_empty address length protection s b) (ne_eqb length 0 h)
    ∙ ap (λ (b : Bool). protect_access address length protection s b) x
    ∙ ap (λ (b : Bool). protect_known address length protection s b) k

pub protect-done : (address length protection : ℕ) (s : Space) → address % 4096 ≡ 0 → (length ≡ 0 → ⊥) → has_power protection 4 ≡ false → is_each (is_known s.regions) (page_of address) (pages_for length) ≡ true
    → protect address length protection s ≡ record { answer = pos 0; space = space s.regions (with_rights_from (page_of address) (pages_for length) (rights_of protection) s.memory) }
protect-done address length protection s a h x k =
    protect_is address length protection s ∙ ap (λ (b : Bool). protect_start address length protection s b) (eq-eqb (address % 4096) 0 a)
    ∙ ap (λ (b : Bool). protect_empty address length protection s b) (ne_eqb length 0 h)
    ∙ ap (λ (b : Bool). protect_access address length protection s b) x
    ∙ ap (λ (b : Bool). protect_known address length protection s b) k
