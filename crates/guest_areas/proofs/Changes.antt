-- The space after each call, over the fields.
use Rattle.std.proofs.Common.{ℕ, ◌≡◌, ◌+◌, ◌-◌, ◌*◌, ◌/◌, ◌%◌, ◌≤◌, ◌<◌, Bool, true, false, not, ◌||◌, leb, ltb, eqb, List, ◌++◌, length, replicate, arith, refl, sym, ap, ◌∙◌, Some, Vec}
use Rattle.std.specs.Prelude.{pos}
use borrow.Rule.Slice.PartMut.{put_mid}
use Rattle.std.specs.List.{list_any, filter}
use Rattle.std.proofs.lemmas.Bool.{or_left, or_right, or_from, and_from, and_parts, le-leb, leb-true, eq-eqb, ne_eqb, false_from_ne_true}
use Rattle.std.specs.Vec.{with_items}
use Rattle.std.proofs.lemmas.List.{with_items_is, length-append, length-take, length-drop}
use Rattle.coz_types.specs.declared.image.Area.{Area}
use Rattle.guest_memory.specs.declared.Layout.{Layout}
use Rattle.guest_memory.specs.Regions.{page_of, pages_for, brk_base, brk_end, map_base, map_end, IsLayout}
use Rattle.guest_memory.specs.Memory.{MemoryMap, no_rights, read_and_write, with_rights_from, with_zeros}
use Rattle.guest_areas.specs.Answers.{invalid_argument}
use Rattle.guest_areas.specs.Marks.{marked_pages}
use Rattle.guest_areas.specs.Space.{Space, space, Answered, refused_answer, has_power, rights_of, is_page_start, is_in_run, free_run, run, with_break, map, is_in_map, unmap}
use Rattle.guest_areas.specs.Kept.{regions_of, IsKept}
use Rattle.guest_areas.proofs.MarkLemmas.{marked-taken, marked-left}
use Rattle.guest_areas.proofs.FreeRuns.{found_is, search_is}
use Rattle.guest_areas.proofs.Calls.{with_break-up, with_break-down, map-at, unmap-refused, unmap-done}

abbrev answered : ℕ → List Area → Layout → ℕ → List ℕ → MemoryMap → Answered
answered answer areas layout break mapped m =
    record { answer = pos answer; space = space (record { areas = areas; layout = layout; break = break; mapped = mapped }) m }

-- the first page of a run, back from its address
back : (page : ℕ) → page_of (page * 4096) ≡ page
back page = omega arith

pub moved_up : (areas : List Area) (layout : Layout) (break : ℕ) (flags : List Bool) (m now : MemoryMap) (to old new : ℕ) → brk_base ≤ to → to ≤ brk_end layout → old ≡ pages_for break → new ≡ pages_for to → old < new
    → now ≡ with_zeros (page_of (old * 4096)) (new - old) (with_rights_from (page_of (old * 4096)) (new - old) read_and_write m)
    → space (regions_of areas layout to flags) now ≡ with_break to (space (regions_of areas layout break flags) m)
moved_up areas layout break flags m now to old new low high is_old is_new up e =
    let last : space (regions_of areas layout to flags) now ≡ space (regions_of areas layout to flags) (with_zeros (pages_for break) (pages_for to - pages_for break) (with_rights_from (pages_for break) (pages_for to - pages_for break) read_and_write m)) =
    ap (λ (x : MemoryMap). space (regions_of areas layout to flags) x)
    (e ∙ ap (λ (p : ℕ). with_zeros p (new - old) (with_rights_from p (new - old) read_and_write m)) (back old ∙ is_old)
    ∙ ap (λ (n : ℕ). with_zeros (pages_for break) n (with_rights_from (pages_for break) n read_and_write m)) (let f : new - old ≡ pages_for to - pages_for break = omega arith in f)) in
    last ∙ sym (with_break-up to (space (regions_of areas layout break flags) m) low high (omega arith))

pub moved_down : (areas : List Area) (layout : Layout) (break : ℕ) (flags : List Bool) (m now : MemoryMap) (to old new : ℕ) → brk_base ≤ to → to ≤ brk_end layout → old ≡ pages_for break → new ≡ pages_for to → new ≤ old
    → now ≡ with_rights_from (page_of (new * 4096)) (old - new) no_rights m
    → space (regions_of areas layout to flags) now ≡ with_break to (space (regions_of areas layout break flags) m)
moved_down areas layout break flags m now to old new low high is_old is_new down e =
    let last : space (regions_of areas layout to flags) now ≡ space (regions_of areas layout to flags) (with_rights_from (pages_for to) (pages_for break - pages_for to) no_rights m) =
    ap (λ (x : MemoryMap). space (regions_of areas layout to flags) x)
    (e ∙ ap (λ (p : ℕ). with_rights_from p (old - new) no_rights m) (back new ∙ is_new)
    ∙ ap (λ (n : ℕ). with_rights_from (pages_for to) n no_rights m) (let f : old - new ≡ pages_for break - pages_for to = omega arith in f)) in
    last ∙ sym (with_break-down to (space (regions_of areas layout break flags) m) low high (omega arith))

not_false : (b : Bool) → not b ≡ true → b ≡ false
not_false true h = let no : ⊥ = cc in absurd no
not_false false h = refl

-- a run that is found is mapped
pub map_done : (areas : List Area) (layout : Layout) (break : ℕ) (flags filled : List Bool) (m now : MemoryMap) (len protection count index k : ℕ) → IsKept layout break flags → (len ≡ 0 → ⊥) → has_power protection 4 ≡ false → count ≡ pages_for len
    → free_run (regions_of areas layout break flags) count ≡ Some (34603008 + index) → k ≡ count → filled ≡ replicate k true
    → now ≡ with_zeros (page_of (141733920768 + index * 4096)) count (with_rights_from (page_of (141733920768 + index * 4096)) count (rights_of protection) m)
    → record { answer = pos (141733920768 + index * 4096); space = space (regions_of areas layout break (put_mid index k flags filled)) now } ≡ map len protection (space (regions_of areas layout break flags) m)
map_done areas layout break flags filled m now len protection count index k kept some safe is found size full e =
    let some_pages : 0 < count = omega arith in
    let at = found_is (regions_of areas layout break flags) count (page_of layout.map) 34603008 (34603008 + index)
    (search_is (regions_of areas layout break flags) count (page_of layout.map) 34603008 some_pages ∙ found) in
    let within : index + k ≤ length flags = omega (arith, at.within, kept.each_page) in
    let more : 0 < k = omega arith in
    let free : list_any (is_in_run (34603008 + index) k) (marked_pages 34603008 flags) ≡ false =
    ap (λ (n : ℕ). list_any (is_in_run (34603008 + index) n) (marked_pages 34603008 flags)) size ∙ not_false (list_any (is_in_run (34603008 + index) count) (marked_pages 34603008 flags)) at.free in
    let mapped : marked_pages 34603008 (put_mid index k flags filled) ≡ filter (λ p. ltb p (34603008 + index)) (marked_pages 34603008 flags) ++ run (34603008 + index) (pages_for len) ++ filter (λ p. ltb (34603008 + index) p) (marked_pages 34603008 flags) =
    ap (λ (fs : List Bool). marked_pages 34603008 (put_mid index k flags fs)) full ∙ marked-taken 34603008 index k flags more within free
    ∙ ap (λ (n : ℕ). filter (λ p. ltb p (34603008 + index)) (marked_pages 34603008 flags) ++ run (34603008 + index) n ++ filter (λ p. ltb (34603008 + index) p) (marked_pages 34603008 flags)) (size ∙ is) in
    let memory : now ≡ with_zeros (34603008 + index) (pages_for len) (with_rights_from (34603008 + index) (pages_for len) (rights_of protection) m) =
    e ∙ ap (λ (p : ℕ). with_zeros p count (with_rights_from p count (rights_of protection) m)) (let f : page_of (141733920768 + index * 4096) ≡ 34603008 + index = omega arith in f)
    ∙ ap (λ (n : ℕ). with_zeros (34603008 + index) n (with_rights_from (34603008 + index) n (rights_of protection) m)) is in
    ap (λ (a : ℕ). answered a areas layout break (marked_pages 34603008 (put_mid index k flags filled)) now) (let f : 141733920768 + index * 4096 ≡ (34603008 + index) * 4096 = omega arith in f)
    ∙ ap (λ (ps : List ℕ). answered ((34603008 + index) * 4096) areas layout break ps now) mapped
    ∙ ap (λ (x : MemoryMap). answered ((34603008 + index) * 4096) areas layout break
    (filter (λ p. ltb p (34603008 + index)) (marked_pages 34603008 flags) ++ run (34603008 + index) (pages_for len) ++ filter (λ p. ltb (34603008 + index) p) (marked_pages 34603008 flags)) x) memory
    ∙ sym (map-at len protection (space (regions_of areas layout break flags) m) (Some (34603008 + index)) some safe
    (ap (λ (n : ℕ). free_run (regions_of areas layout break flags) n) (sym is) ∙ found))

pub unmap_unaligned : (address len : ℕ) (s : Space) → (address % 4096 ≡ 0 → ⊥) → unmap address len s ≡ refused_answer invalid_argument s
unmap_unaligned address len s h =
    unmap-refused address len s
    (or_left (not (is_page_start address) || eqb len 0) (not (is_in_map s.regions.layout address len))
    (or_left (not (is_page_start address)) (eqb len 0) (ap not (ne_eqb (address % 4096) 0 h))))

pub unmap_empty : (address len : ℕ) (s : Space) → len ≡ 0 → unmap address len s ≡ refused_answer invalid_argument s
unmap_empty address len s h =
    unmap-refused address len s
    (or_left (not (is_page_start address) || eqb len 0) (not (is_in_map s.regions.layout address len))
    (or_right (not (is_page_start address)) (eqb len 0) (eq-eqb len 0 h)))

pub unmap_outside : (address len : ℕ) (s : Space) → is_in_map s.regions.layout address len ≡ false → unmap address len s ≡ refused_answer invalid_argument s
unmap_outside address len s h =
    unmap-refused address len s
    (or_right (not (is_page_start address) || eqb len 0) (not (is_in_map s.regions.layout address len)) (ap not h))

pub outside_below : (layout : Layout) (address len : ℕ) → address < map_base → is_in_map layout address len ≡ false
outside_below layout address len h =
    false_from_ne_true (is_in_map layout address len) (λ t.
    let p = and_parts (leb map_base address) (leb (address + pages_for len * 4096) (map_end layout)) t in
    let l : map_base ≤ address = leb-true map_base address p.0 in
    omega arith)

pub outside_above : (layout : Layout) (address len count : ℕ) → IsLayout layout → address % 4096 ≡ 0 → count ≡ pages_for len → (map_base + layout.map) / 4096 < address / 4096 + count → is_in_map layout address len ≡ false
outside_above layout address len count valid aligned is h =
    false_from_ne_true (is_in_map layout address len) (λ t.
    let p = and_parts (leb map_base address) (leb (address + pages_for len * 4096) (map_end layout)) t in
    let l : address + pages_for len * 4096 ≤ map_base + layout.map = leb-true (address + pages_for len * 4096) (map_end layout) p.1 in
    let whole = valid.whole_map in
    omega arith)

-- a run of the region is unmapped
pub unmap_done : (areas : List Area) (layout : Layout) (break : ℕ) (flags filled : List Bool) (m now : MemoryMap) (address len count index k : ℕ) → IsKept layout break flags → address % 4096 ≡ 0 → (len ≡ 0 → ⊥) → map_base ≤ address → count ≡ pages_for len
    → address / 4096 + count ≤ (map_base + layout.map) / 4096 → index ≡ address / 4096 - 34603008 → k ≡ count → filled ≡ replicate k false
    → now ≡ with_rights_from (page_of address) count no_rights m
    → record { answer = pos 0; space = space (regions_of areas layout break (put_mid index k flags filled)) now } ≡ unmap address len (space (regions_of areas layout break flags) m)
unmap_done areas layout break flags filled m now address len count index k kept aligned some low is high at size empty e =
    let valid = kept.valid.whole_map in
    let first : 34603008 + index ≡ page_of address = omega arith in
    let within : index + k ≤ length flags = omega (arith, kept.each_page) in
    let inside : is_in_map layout address len ≡ true =
    and_from (leb map_base address) (leb (address + pages_for len * 4096) (map_end layout)) (le-leb map_base address low) (le-leb (address + pages_for len * 4096) (map_end layout) (omega arith)) in
    let passes : (not (is_page_start address) || eqb len 0 || not (is_in_map layout address len)) ≡ false =
    or_from (not (is_page_start address) || eqb len 0) (not (is_in_map layout address len))
    (or_from (not (is_page_start address)) (eqb len 0) (ap not (eq-eqb (address % 4096) 0 aligned)) (ne_eqb len 0 some)) (ap not inside) in
    let mapped : marked_pages 34603008 (put_mid index k flags filled) ≡ filter (λ p. not (is_in_run (page_of address) (pages_for len) p)) (marked_pages 34603008 flags) =
    ap (λ (fs : List Bool). marked_pages 34603008 (put_mid index k flags fs)) empty ∙ marked-left 34603008 index k flags within
    ∙ ap (λ (q : ℕ). filter (λ p. not (is_in_run q k p)) (marked_pages 34603008 flags)) first
    ∙ ap (λ (n : ℕ). filter (λ p. not (is_in_run (page_of address) n p)) (marked_pages 34603008 flags)) (size ∙ is) in
    ap (λ (ps : List ℕ). answered 0 areas layout break ps now) mapped
    ∙ ap (λ (x : MemoryMap). answered 0 areas layout break (filter (λ p. not (is_in_run (page_of address) (pages_for len) p)) (marked_pages 34603008 flags)) x)
    (e ∙ ap (λ (n : ℕ). with_rights_from (page_of address) n no_rights m) is)
    ∙ sym (unmap-done address len (space (regions_of areas layout break flags) m) passes)

-- the flags after a part of them was filled
pub filled_flags : {Z : Type 0} (v : Vec Bool Z) (index k : ℕ) (was filled : List Bool) → was ≡ v.items → index + k ≤ length v.items → length filled ≡ k → (with_items v (put_mid index k was filled)).items ≡ put_mid index k v.items filled
filled_flags v index k was filled e h size =
    let new : put_mid index k was filled ≡ put_mid index k v.items filled = ap (λ (fs : List Bool). put_mid index k fs filled) e in
    let n : length (put_mid index k v.items filled) ≡ length v.items = simp (length-append, length-take, length-drop) (omega arith) in
    with_items_is v (put_mid index k was filled) (ap (λ (fs : List Bool). length fs) new ∙ n ∙ sym v.ok.0) ∙ new
