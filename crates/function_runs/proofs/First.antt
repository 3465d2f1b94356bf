-- Two images of the same program begin in the same state, but for the image and the load areas.
use Rattle.std.proofs.Common.{◌≡◌, ℕ, ◌+◌, ◌-◌, ◌==◌, Bool, true, false, ◌&&◌, ◌||◌, List, [], ◌∷◌, set, replicate, fold, refl, sym, ap, ap₂, ◌∙◌, if◌then◌else◌, eqb-true, eq-eqb}
use Rattle.std.specs.Prelude.{bytes_eq}
use Rattle.std.specs.Int.{bytes_low_first}
use Rattle.std.specs.List.{list_any}
use Rattle.std.proofs.lemmas.Bool.{and_parts, and_from}
use Rattle.std.proofs.lemmas.Slice.Eq.{bytes_eq-Decides}
use Rattle.coz_types.specs.Image.{ImageParts}
use Rattle.coz_types.specs.declared.image.Area.{Area}
use Rattle.coz_types.specs.declared.image.Rights.{Rights}
use Rattle.guest_memory.specs.declared.Layout.{Layout}
use Rattle.guest_memory.specs.Memory.{MemoryMap, area_bytes, empty_memory, first_memory, read_and_write, with_area, with_bytes, with_number, with_rights_from}
use Rattle.guest_memory.specs.Regions.{brk_base, page_of, stack_base, stack_top}
use Rattle.guest_areas.specs.Entry.{entry_numbers, name, stack_pointer, with_entry, with_numbers}
use Rattle.guest_areas.specs.Space.{is_in_area, is_in_run, space}
use Rattle.guest_pipes.specs.Pipes.{no_pipes}
use Rattle.guest_calls.specs.Guest.{first_guest, hart_from}
use Rattle.function_lines.specs.SameProgram.{are_same_areas, are_same_rights, bytes_in, is_same, is_same_area, is_same_image}
use Rattle.function_runs.proofs.Memory.{moved, moved_bytes, moved_rights}
use Rattle.function_runs.proofs.Calls.{moved_guest}

-- ---- areas

flag_one : (s t : Bool) → is_same s t ≡ true → s ≡ t
flag_one true true e = refl
flag_one true false e = absurd cc
flag_one false true e = absurd cc
flag_one false false e = refl

rights_one : (r s : Rights) → are_same_rights r s ≡ true → r ≡ s
rights_one r s e =
    let first = and_parts (is_same r.read s.read) (is_same r.write s.write && is_same r.execute s.execute) e in
    let rest = and_parts (is_same r.write s.write) (is_same r.execute s.execute) first.1 in
    let read = flag_one r.read s.read first.0 in
    let write = flag_one r.write s.write rest.0 in
    let execute = flag_one r.execute s.execute rest.1 in
    λ i. record { read = read i; write = write i; execute = execute i }

-- what two areas have in common
pub record AreAlike (file other : List ℕ) (a b : Area) : Type 0 where
  pub start : a.start ≡ b.start
  pub size : a.size ≡ b.size
  pub rights : a.rights ≡ b.rights
  pub vaddr : a.vaddr ≡ b.vaddr
  pub bytes : bytes_in file a ≡ bytes_in other b

pub alike : (file other : List ℕ) (a b : Area) → is_same_area file other a b ≡ true → AreAlike file other a b
alike file other a b e =
    let bytes = bytes_eq (bytes_in file a) (bytes_in other b) in
    let one = and_parts (a.start == b.start) (a.size == b.size && (are_same_rights a.rights b.rights && (a.vaddr == b.vaddr && (a.filled == b.filled && bytes)))) e in
    let two = and_parts (a.size == b.size) (are_same_rights a.rights b.rights && (a.vaddr == b.vaddr && (a.filled == b.filled && bytes))) one.1 in
    let three = and_parts (are_same_rights a.rights b.rights) (a.vaddr == b.vaddr && (a.filled == b.filled && bytes)) two.1 in
    let four = and_parts (a.vaddr == b.vaddr) (a.filled == b.filled && bytes) three.1 in
    let five = and_parts (a.filled == b.filled) bytes four.1 in
    record {
      start = eqb-true a.start b.start one.0;
      size = eqb-true a.size b.size two.0;
      rights = rights_one a.rights b.rights three.0;
      vaddr = eqb-true a.vaddr b.vaddr four.0;
      bytes = (bytes_eq-Decides (bytes_in file a) (bytes_in other b)).0 five.1;
    }

-- the same pages
abbrev pub are_same_pages : List Area → List Area → Bool
are_same_pages [] [] = true
are_same_pages [] (b ∷ bs) = false
are_same_pages (a ∷ xs) [] = false
are_same_pages (a ∷ xs) (b ∷ bs) = (a.start == b.start && a.size == b.size) && are_same_pages xs bs

same_run : (a b : Area) (page : ℕ) → a.start ≡ b.start → a.size ≡ b.size → is_in_area page b ≡ is_in_area page a
same_run a b page start size = sym (ap₂ (λ (x n : ℕ). is_in_run (page_of x) (page_of n) page) start size)

same_pages : (xs bs : List Area) (page : ℕ) → are_same_pages xs bs ≡ true → list_any (is_in_area page) bs ≡ list_any (is_in_area page) xs
same_pages [] [] page e = refl
same_pages [] (b ∷ bs) page e = absurd cc
same_pages (a ∷ xs) [] page e = absurd cc
same_pages (a ∷ xs) (b ∷ bs) page e =
    let parts = and_parts (a.start == b.start && a.size == b.size) (are_same_pages xs bs) e in
    let here = and_parts (a.start == b.start) (a.size == b.size) parts.0 in
    ap₂ (λ (s t : Bool). s || t) (same_run a b page (eqb-true a.start b.start here.0) (eqb-true a.size b.size here.1)) (same_pages xs bs page parts.1)

-- these areas in place of others of the same pages
abbrev pub in_place : List Area → List Area → List Area
in_place areas given = if are_same_pages given areas then areas else given

pub in_place_pages : (areas given : List Area) (page : ℕ) → list_any (is_in_area page) (in_place areas given) ≡ list_any (is_in_area page) given
in_place_pages areas given page = by (are_same_pages given areas) refl
  where
    by : (t : Bool) → are_same_pages given areas ≡ t → list_any (is_in_area page) (if t then areas else given) ≡ list_any (is_in_area page) given
    by true e = same_pages given areas page e
    by false e = refl

pages_of : (file other : List ℕ) (xs bs : List Area) → are_same_areas file other xs bs ≡ true → are_same_pages xs bs ≡ true
pages_of file other [] [] e = refl
pages_of file other [] (b ∷ bs) e = absurd cc
pages_of file other (a ∷ xs) [] e = absurd cc
pages_of file other (a ∷ xs) (b ∷ bs) e =
    let parts = and_parts (is_same_area file other a b) (are_same_areas file other xs bs) e in
    let is = alike file other a b parts.0 in
    and_from (a.start == b.start && a.size == b.size) (are_same_pages xs bs)
    (and_from (a.start == b.start) (a.size == b.size) (eq-eqb a.start b.start is.start) (eq-eqb a.size b.size is.size))
    (pages_of file other xs bs parts.1)

-- ---- an image of the same program

pub record IsSameImage (image parts : ImageParts) : Type 0 where
  pub entry : image.entry ≡ parts.entry
  pub headers : image.headers ≡ parts.headers
  pub header_count : image.header_count ≡ parts.header_count
  pub areas : are_same_areas image.file parts.file image.areas parts.areas ≡ true

pub same_image : (image parts : ImageParts) → is_same_image image parts ≡ true → IsSameImage image parts
same_image image parts e =
    let areas = are_same_areas image.file parts.file image.areas parts.areas in
    let one = and_parts (image.entry == parts.entry) (image.headers == parts.headers && (image.header_count == parts.header_count && areas)) e in
    let two = and_parts (image.headers == parts.headers) (image.header_count == parts.header_count && areas) one.1 in
    let three = and_parts (image.header_count == parts.header_count) areas two.1 in
    record {
      entry = eqb-true image.entry parts.entry one.0;
      headers = eqb-true image.headers parts.headers two.0;
      header_count = eqb-true image.header_count parts.header_count three.0;
      areas = three.1;
    }

module _ (image parts : ImageParts) (same : IsSameImage image parts) where
  -- ---- the first memory

  area_moved : (a b : Area) (m : MemoryMap) → is_same_area image.file parts.file a b ≡ true → moved parts (with_area image m a) ≡ with_area parts (moved parts m) b
  area_moved a b m e =
      let is = alike image.file parts.file a b e in
      let vaddr = is.vaddr in
      let bytes = is.bytes in
      let start = is.start in
      let size = is.size in
      let rights = is.rights in
      sym (moved_bytes parts a.vaddr (area_bytes image a) (with_rights_from (page_of a.start) (page_of a.size) a.rights m))
      ∙ ap (with_bytes a.vaddr (area_bytes image a)) (sym (moved_rights parts (page_of a.start) (page_of a.size) a.rights m))
      ∙ (λ i. with_bytes (vaddr i) (bytes i) (with_rights_from (page_of (start i)) (page_of (size i)) (rights i) (moved parts m)))

  areas_moved : (xs bs : List Area) (m : MemoryMap) → are_same_areas image.file parts.file xs bs ≡ true → moved parts (fold (with_area image) m xs) ≡ fold (with_area parts) (moved parts m) bs
  areas_moved [] [] m e = refl
  areas_moved [] (b ∷ bs) m e = absurd cc
  areas_moved (a ∷ xs) [] m e = absurd cc
  areas_moved (a ∷ xs) (b ∷ bs) m e =
      let is = and_parts (is_same_area image.file parts.file a b) (are_same_areas image.file parts.file xs bs) e in
      areas_moved xs bs (with_area image m a) is.1
      ∙ ap (λ (x : MemoryMap). fold (with_area parts) x bs) (area_moved a b m is.0)

  memory_moved : (layout : Layout) → moved parts (first_memory image layout) ≡ first_memory parts layout
  memory_moved layout =
      sym (moved_rights parts (page_of (stack_base layout)) (page_of layout.stack) read_and_write (fold (with_area image) (empty_memory image layout) image.areas))
      ∙ ap (with_rights_from (page_of (stack_base layout)) (page_of layout.stack) read_and_write) (areas_moved image.areas parts.areas (empty_memory image layout) same.areas)

  -- ---- the entry

  numbers_moved : (address : ℕ) (ns : List ℕ) (m : MemoryMap) → with_numbers address ns (moved parts m) ≡ moved parts (with_numbers address ns m)
  unfolding with_numbers
  numbers_moved address [] m = refl
  numbers_moved address (n ∷ ns) m =
      ap (with_numbers (address + 8) ns) (number_moved address n m)
      ∙ numbers_moved (address + 8) ns (with_number address 8 n m)
    where
      number_moved : (a k : ℕ) (x : MemoryMap) → with_number a 8 k (moved parts x) ≡ moved parts (with_number a 8 k x)
      number_moved a k x = moved_bytes parts a (bytes_low_first 0 8 k) x

  same_numbers : entry_numbers image ≡ entry_numbers parts
  same_numbers =
      let entry = same.entry in
      let headers = same.headers in
      let count = same.header_count in
      λ i. entry_numbers (record image { entry = entry i; headers = headers i; header_count = count i })

  entry_moved : (layout : Layout) → moved parts (with_entry image (first_memory image layout)) ≡ with_entry parts (first_memory parts layout)
  unfolding with_entry
  entry_moved layout =
      sym (numbers_moved stack_pointer (entry_numbers image) (with_bytes (stack_top - 32) name (first_memory image layout)))
      ∙ ap (with_numbers stack_pointer (entry_numbers image)) (sym (moved_bytes parts (stack_top - 32) name (first_memory image layout)))
      ∙ ap₂ (λ (ns : List ℕ) (m : MemoryMap). with_numbers stack_pointer ns (with_bytes (stack_top - 32) name m)) same_numbers (memory_moved layout)

  -- ---- the first guest

  areas_in_place : in_place parts.areas image.areas ≡ parts.areas
  areas_in_place = ap (λ (t : Bool). if t then parts.areas else image.areas) (pages_of image.file parts.file image.areas parts.areas same.areas)

  pub first_moved : (input : List ℕ) (limit : ℕ) (layout : Layout) → moved_guest parts (in_place parts.areas) (in_place_pages parts.areas) (first_guest image input limit layout) ≡ first_guest parts input limit layout
  unfolding first_guest
  first_moved input limit layout =
      let entry = same.entry in
      let areas = areas_in_place in
      let memory = entry_moved layout in
      λ i. record {
        harts = hart_from (record { registers = set (replicate 32 0) 2 stack_pointer; pc = entry i }) 0 ∷ [];
        space = space (record { areas = areas i; layout = layout; break = brk_base; mapped = [] }) (memory i);
        reservations = [];
        waiters = [];
        pipes = no_pipes;
        input = input;
        whole_input = input;
        output = [];
        output_limit = limit;
      }
