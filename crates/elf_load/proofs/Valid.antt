-- A file without a fault has a valid image.
use Rattle.std.proofs.Common.{◌≡◌, ◌≢◌, ℕ, zero, suc, ◌+◌, ◌-◌, ◌*◌, min, ◌%◌, ◌<◌, ◌≤◌, ◌⊎◌, inl, inr, Bool, true, false, not, ◌&&◌, ◌||◌, cond, List, [], ◌∷◌, ◌++◌, map, filter, length, get_or, fold, Option, Some, None, option_map, find, refl, subst, arith, nat_lt, nat_le, ◌==◌, All, eqb, ne_eqb}
use Rattle.std.specs.Prelude.{Any, sum_by, IsTrue}
use Rattle.std.specs.List.{AllByRecursion, list_any}
use Rattle.std.proofs.lemmas.Bool.{cases_Bool, ltb-false, ltb-true, leb-true, eqb-true, eqb-false}
use Rattle.std.proofs.lemmas.List.Elements.{All-from_recursion}
use Rattle.coz_types.specs.declared.image.Area.{Area}
use Rattle.coz_types.specs.Image.{IsAreaOf, IsImage, AreApart, IsExecutableAt}
use Rattle.elf_load.specs.declared.ElfKind.{ElfKind}
use Rattle.elf_load.specs.declared.tables.Segment.{Segment}
use Rattle.elf_load.specs.Tables.{is_load, is_area, is_executable, is_writable, first_page, end_page, pages, share_page, has_address, has_place, runs_past, segments, load_areas, entry}
use Rattle.elf_load.specs.Faults.{entry_row, first_segment, first_after, first_row, table_rows}
use Rattle.elf_load.specs.Loaded.{area_of, image}
use Rattle.elf_load.proofs.Rows.{rows_none, row_false, in_file}
use Rattle.elf_load.proofs.AreaLemmas.{total, summed, shares}

pub entry_none : (kind : ElfKind) (found : Option ℕ) → entry_row kind found ≡ None → found ≡ None
entry_none kind None e = refl
entry_none kind (Some p) e = absurd cc

-- ---- entries of which none passes a test

chosen : (b : Bool) (s : Segment) (o : Option Segment) → option_map (λ (t : Segment). t.place) (cond b (Some s) o) ≡ None → (b ≡ false) × (option_map (λ (t : Segment). t.place) o ≡ None)
chosen true s o e = absurd cc
chosen false s o e = (refl, e)

none_passes : (test : Segment → Bool) (ss : List Segment) → first_segment test ss ≡ None → AllByRecursion (λ s. test s ≡ false) ss
none_passes test [] e = tt
none_passes test (s ∷ ss) e =
    let c = chosen (test s) s (find test ss) e in
    (c.0, none_passes test ss c.1)

or_false : (a b : Bool) → (a || b) ≡ false → (a ≡ false) × (b ≡ false)
or_false true b e = absurd cc
or_false false b e = (refl, e)

none_any : (test : Segment → Bool) (ss : List Segment) → list_any test ss ≡ false → AllByRecursion (λ s. test s ≡ false) ss
none_any test [] e = tt
none_any test (s ∷ ss) e =
    let both = or_false (test s) (list_any test ss) e in
    (both.0, none_any test ss both.1)

-- the test fails of each beside the ones before it
abbrev FailsAfter : (List Segment → Segment → Bool) → List Segment → List Segment → Type 0
FailsAfter test earlier [] = Unit {0}
FailsAfter test earlier (s ∷ ss) = (test earlier s ≡ false) × FailsAfter test (s ∷ earlier) ss

chosen_after : (b : Bool) (p : ℕ) (o : Option ℕ) → cond b (Some p) o ≡ None → (b ≡ false) × (o ≡ None)
chosen_after true p o e = absurd cc
chosen_after false p o e = (refl, e)

none_after : (test : List Segment → Segment → Bool) (earlier ss : List Segment) → first_after test earlier ss ≡ None → FailsAfter test earlier ss
none_after test earlier [] e = tt
none_after test earlier (s ∷ ss) e =
    let c = chosen_after (test earlier s) s.place (first_after test (s ∷ earlier) ss) e in
    (c.0, none_after test (s ∷ earlier) ss c.1)

-- ---- all areas have few pages together

few_pages : (earlier ss : List Segment) → FailsAfter (λ earlier s. nat_lt 0x4000000 (4096 * sum_by pages (s ∷ earlier))) earlier ss → 4096 * total earlier ≤ 0x4000000 → 4096 * (total earlier + total ss) ≤ 0x4000000
few_pages earlier [] fails so_far = omega arith
few_pages earlier (s ∷ ss) fails so_far =
    let few : 4096 * sum_by pages (s ∷ earlier) ≤ 0x4000000 = ltb-false _ _ fails.0 in
    let sum : sum_by pages (s ∷ earlier) ≡ total (s ∷ earlier) = summed (s ∷ earlier) in
    omega (arith, few_pages (s ∷ earlier) ss fails.1 (omega arith))

sizes : (file : List ℕ) (ss : List Segment) (n : ℕ) → fold (λ (a : ℕ) (area : Area). a + area.size) n (map (area_of file) ss) ≡ n + 4096 * total ss
sizes file [] n = omega arith
sizes file (s ∷ ss) n = omega (arith, sizes file ss (n + 4096 * pages s))

-- ---- no two areas share a page

and_false : (a b : Bool) → (a && b) ≡ false → (a ≡ false) ⊎ (b ≡ false)
and_false true b e = inr e
and_false false b e = inl refl

-- not turned round
ordered : (s : Segment) → first_page s ≤ end_page s
ordered s = omega arith

apart : (file : List ℕ) (e s : Segment) → share_page s e ≡ false → AreApart (area_of file e) (area_of file s)
apart file e s shared =
    elim (and_false (nat_lt (first_page s) (end_page e)) (nat_lt (first_page e) (end_page s)) shared) [
      | inl far ↦ let le : end_page e ≤ first_page s = ltb-false _ _ far in inl (omega (arith, ordered e, ordered s))
      | inr far ↦ let le : end_page s ≤ first_page e = ltb-false _ _ far in inr (omega (arith, ordered e, ordered s))
    ]

at_middle : (front back : List Segment) (e s : Segment) → AllByRecursion (λ t. share_page s t ≡ false) (front ++ e ∷ back) → share_page s e ≡ false
at_middle [] back e s all = all.0
at_middle (f ∷ front) back e s all = at_middle front back e s all.1

-- an entry among the earlier ones is apart from each later one
each_later : (file : List ℕ) (front back : List Segment) (e : Segment) (ss : List Segment) → FailsAfter shares (front ++ e ∷ back) ss → AllByRecursion (λ (area : Area). AreApart (area_of file e) area) (map (area_of file) ss)
each_later file front back e [] fails = tt
each_later file front back e (s ∷ ss) fails = (apart file e s (at_middle front back e s (none_any (share_page s) (front ++ e ∷ back) fails.0)), each_later file (s ∷ front) back e ss fails.1)

-- R holds of each element and each later one
abbrev PairsByRecursion : (Area → Area → Type 0) → List Area → Type 0
PairsByRecursion R [] = Unit {0}
PairsByRecursion R (x ∷ xs) = AllByRecursion (R x) xs × PairsByRecursion R xs

all_pairs : (file : List ℕ) (earlier ss : List Segment) → FailsAfter shares earlier ss → PairsByRecursion AreApart (map (area_of file) ss)
all_pairs file earlier [] fails = tt
all_pairs file earlier (s ∷ ss) fails = (each_later file [] earlier s ss fails.1, all_pairs file (s ∷ earlier) ss fails.1)

at_index : (P : Area → Type 0) (xs : List Area) (j : ℕ) (d : Area) → AllByRecursion P xs → j < length xs → P (get_or xs j d)
at_index P [] j d all lt = absurd (omega arith)
at_index P (x ∷ xs) zero d all lt = all.0
at_index P (x ∷ xs) (suc j) d all lt = at_index P xs j d all.1 (omega arith)

pairs_at : (R : Area → Area → Type 0) (xs : List Area) (i j : ℕ) (d : Area) → PairsByRecursion R xs → i < j → j < length xs → R (get_or xs i d) (get_or xs j d)
pairs_at R [] i j d pairs lt below = absurd (omega arith)
pairs_at R (x ∷ xs) i zero d pairs lt below = absurd (omega arith)
pairs_at R (x ∷ xs) zero (suc j) d pairs lt below = at_index (R x) xs j d pairs.0 (omega arith)
pairs_at R (x ∷ xs) (suc i) (suc j) d pairs lt below = pairs_at R xs i j d pairs.1 (omega arith) (omega arith)

-- ---- each area is one

-- what the rows say of a program header
record IsFine (file : List ℕ) (s : Segment) : Type 0 where
  in_file : (is_load s && runs_past file s.offset s.filesz) ≡ false
  in_memory : (is_load s && nat_lt s.memsz s.filesz) ≡ false
  not_both : (is_load s && is_writable s && is_executable s) ≡ false

true_and : (a b : Bool) → a ≡ true → (a && b) ≡ false → b ≡ false
true_and true b is e = e
true_and false b is e = absurd cc

is_both : (a b : Bool) → (a && b) ≡ true → (a ≡ true) × (b ≡ true)
is_both true b e = (refl, e)
is_both false b e = absurd cc

not_is : (b : Bool) → not b ≡ true → b ≡ false
not_is true e = absurd cc
not_is false e = refl

not_both_is : (w x : Bool) → (w && x) ≡ false → IsTrue w → IsTrue x → ⊥
not_both_is true true e w x = absurd cc
not_both_is true false e w x = cc
not_both_is false x e w y = cc

drop_first : (a b c : Bool) → a ≡ true → (a && b && c) ≡ false → (b && c) ≡ false
drop_first true b c is e = e
drop_first false b c is e = absurd cc

some_bytes : (n : ℕ) → n ≢ 0 → 0 < n
some_bytes zero e = absurd (e refl)
some_bytes (suc n) e = omega arith

to_page_end : (s : Segment) → s.vaddr + s.memsz ≤ 4096 * end_page s
to_page_end s = omega arith

-- what the bytes of the file need: the offset of none is taken for the file's end at most
bytes_in : (file : List ℕ) (offset size : ℕ) → (size ≡ 0) ⊎ (offset + size ≤ length file) → min offset (length file) + size ≤ length file
bytes_in file offset size (inl none) = omega arith
bytes_in file offset size (inr fits) = omega arith

area_fine : (file : List ℕ) (s : Segment) → IsFine file s → is_area s ≡ true → (nat_lt (4096 * first_page s) 0x1000 || nat_lt 0x2000000000 (4096 * end_page s)) ≡ false → IsAreaOf file (area_of file s)
area_fine file s fine area placed =
    let both = is_both (is_load s) (not (s.memsz == 0)) area in
    let range = or_false (nat_lt (4096 * first_page s) 0x1000) (nat_lt 0x2000000000 (4096 * end_page s)) placed in
    let low : 0x1000 ≤ 4096 * first_page s = ltb-false _ _ range.0 in
    let high : 4096 * end_page s ≤ 0x2000000000 = ltb-false _ _ range.1 in
    let some : s.memsz ≢ 0 = eqb-false s.memsz 0 (not_is _ both.1) in
    let filled : s.filesz ≤ s.memsz = ltb-false _ _ (true_and (is_load s) (nat_lt s.memsz s.filesz) both.0 fine.in_memory) in
    let inside : min s.offset (length file) + s.filesz ≤ length file = bytes_in file s.offset s.filesz (in_file file s.offset s.filesz (true_and (is_load s) (runs_past file s.offset s.filesz) both.0 fine.in_file)) in
    record {
      whole_start = omega arith;
      whole_size = omega arith;
      low = low;
      high = omega (arith, ordered s);
      fill_starts = omega arith;
      fill_starts_within = omega (arith, ordered s, to_page_end s, some_bytes s.memsz some);
      fill_ends = omega (arith, ordered s, to_page_end s);
      in_file = inside;
      no_write_execute = not_both_is (is_writable s) (is_executable s) (drop_first (is_load s) (is_writable s) (is_executable s) both.0 fine.not_both);
    }

areas_fine : (file : List ℕ) (ss : List Segment) → AllByRecursion (λ s. IsFine file s × (is_area s ≡ true)) ss
    → AllByRecursion (λ s. (nat_lt (4096 * first_page s) 0x1000 || nat_lt 0x2000000000 (4096 * end_page s)) ≡ false) ss → AllByRecursion (IsAreaOf file) (map (area_of file) ss)
areas_fine file [] fine placed = tt
areas_fine file (s ∷ ss) fine placed = (area_fine file s fine.0.0 fine.0.1 placed.0, areas_fine file ss fine.1 placed.1)

fine_areas : (file : List ℕ) (ss : List Segment)
    → AllByRecursion (λ s. (is_load s && runs_past file s.offset s.filesz) ≡ false) ss
    → AllByRecursion (λ s. (is_load s && nat_lt s.memsz s.filesz) ≡ false) ss
    → AllByRecursion (λ s. (is_load s && is_writable s && is_executable s) ≡ false) ss
    → AllByRecursion (λ s. IsFine file s × (is_area s ≡ true)) (filter is_area ss)
fine_areas file [] a b c = tt
fine_areas file (s ∷ ss) a b c =
    let rest = fine_areas file ss a.1 b.1 c.1 in
    let fine : IsFine file s = record { in_file = a.0; in_memory = b.0; not_both = c.0 } in
    elim (cases_Bool (is_area s)) [
      | inl area ↦ rw area ((fine, area), rest)
      | inr out ↦ rw out rest
    ]

-- ---- the entry

abbrev enters : ℕ → Segment → Bool
enters a s = is_load s && is_executable s && has_address a s

not_false : (b : Bool) → not b ≡ false → b ≡ true
not_false true e = refl
not_false false e = absurd cc

below_some : (a v m : ℕ) → v ≤ a → a < v + m → eqb m 0 ≡ false
below_some a v zero low high = absurd (omega arith)
below_some a v (suc m) low high = ne_eqb (suc m) 0 (λ e. omega arith)

-- an executable PT_LOAD that has the address is an area, and the address is in it
executable_at : (file : List ℕ) (a : ℕ) (s : Segment) → enters a s ≡ true → (is_area s ≡ true) × IsExecutableAt a (area_of file s)
executable_at file a s e =
    let both = is_both (is_load s && is_executable s) (has_address a s) e in
    let kind = is_both (is_load s) (is_executable s) both.0 in
    let there = is_both (nat_le s.vaddr a) (nat_lt a (s.vaddr + s.memsz)) both.1 in
    let low : s.vaddr ≤ a = leb-true _ _ there.0 in
    let high : a < s.vaddr + s.memsz = ltb-true _ _ there.1 in
    (rw (kind.0, below_some a s.vaddr s.memsz low high) refl, (kind.1, omega arith, omega (arith, ordered s, to_page_end s)))

entered_by : (file : List ℕ) (a : ℕ) (ss : List Segment) → list_any (enters a) ss ≡ true → Any (IsExecutableAt a) (map (area_of file) (filter is_area ss))
entered_by file a [] e = absurd cc
entered_by file a (s ∷ ss) e =
    elim (cases_Bool (enters a s)) [
      | inl found ↦ let x = executable_at file a s found in rw x.0 (0, area_of file s, omega arith, refl, x.1)
      | inr other ↦
          let later : list_any (enters a) ss ≡ true = subst (λ (b : Bool). (b || list_any (enters a) ss) ≡ true) other e in
          let rest = entered_by file a ss later in
          elim (cases_Bool (is_area s)) [
            | inl area ↦ rw area (suc rest.0, rest.1, omega (arith, rest.2), rest.3, rest.4)
            | inr out ↦ rw out rest
          ]
    ]

-- ---- the image

-- what the rows on the tables say if none holds
pub record NoRow (file : List ℕ) : Type 0 where
  pub in_file : AllByRecursion (λ s. (is_load s && runs_past file s.offset s.filesz) ≡ false) (segments file)
  pub in_memory : AllByRecursion (λ s. (is_load s && nat_lt s.memsz s.filesz) ≡ false) (segments file)
  pub placed : AllByRecursion (λ s. (nat_lt (4096 * first_page s) 0x1000 || nat_lt 0x2000000000 (4096 * end_page s)) ≡ false) (load_areas file)
  pub not_both : AllByRecursion (λ s. (is_load s && is_writable s && is_executable s) ≡ false) (segments file)
  pub alone : FailsAfter shares [] (load_areas file)
  pub few : FailsAfter (λ earlier s. nat_lt 0x4000000 (4096 * sum_by pages (s ∷ earlier))) [] (load_areas file)
  pub right : (entry file % 4 == 0 && list_any (enters (entry file)) (segments file)) ≡ true

pub no_row : (file : List ℕ) → first_row (table_rows file) ≡ None → NoRow file
no_row file e =
    let t = rows_none (table_rows file) e in
    let u = t.1.1.1 in
    record {
      in_file = none_passes (λ s. is_load s && runs_past file s.offset s.filesz) (segments file) (entry_none _ _ t.0);
      in_memory = none_passes (λ s. is_load s && nat_lt s.memsz s.filesz) (segments file) (entry_none _ _ u.1.0);
      placed = none_passes (λ s. nat_lt (4096 * first_page s) 0x1000 || nat_lt 0x2000000000 (4096 * end_page s)) (load_areas file) (entry_none _ _ u.1.1.0);
      not_both = none_passes (λ s. is_load s && is_writable s && is_executable s) (segments file) (entry_none _ _ u.1.1.1.0);
      alone = none_after shares [] (load_areas file) (entry_none _ _ u.1.1.1.1.0);
      few = none_after (λ earlier s. nat_lt 0x4000000 (4096 * sum_by pages (s ∷ earlier))) [] (load_areas file) (entry_none _ _ u.1.1.1.1.1.0);
      right = not_false _ (row_false _ _ 24 u.1.1.1.1.1.1.0);
    }

-- a file without a fault on its tables has a valid image
pub valid : (file : List ℕ) → first_row (table_rows file) ≡ None → IsImage (image file)
unfolding image
valid file e =
    let rows = no_row file e in
    let right = is_both (entry file % 4 == 0) (list_any (enters (entry file)) (segments file)) rows.right in
    record {
      each = All-from_recursion _ _ (areas_fine file (load_areas file) (fine_areas file (segments file) rows.in_file rows.in_memory rows.not_both) rows.placed);
      apart = λ i j d lt below. pairs_at AreApart (map (area_of file) (load_areas file)) i j d (all_pairs file [] (load_areas file) rows.alone) lt below;
      together = omega (arith, sizes file (load_areas file) 0, few_pages [] (load_areas file) rows.few (omega arith));
      aligned = eqb-true _ _ right.0;
      entered = entered_by file (entry file) (segments file) right.1;
    }

-- ---- where the areas end

low_end : (s : Segment) → (nat_lt (4096 * first_page s) 0x1000 || nat_lt 0x2000000000 (4096 * end_page s)) ≡ false → 4096 * end_page s ≤ 0x2000000000
low_end s placed = ltb-false _ _ (or_false (nat_lt (4096 * first_page s) 0x1000) (nat_lt 0x2000000000 (4096 * end_page s)) placed).1

ends : (ss : List Segment) → AllByRecursion (λ s. (nat_lt (4096 * first_page s) 0x1000 || nat_lt 0x2000000000 (4096 * end_page s)) ≡ false) ss → AllByRecursion (λ s. 4096 * end_page s ≤ 0x2000000000) ss
ends [] placed = tt
ends (s ∷ ss) placed = (low_end s placed.0, ends ss placed.1)

pub areas_end : (file : List ℕ) → first_row (table_rows file) ≡ None → All (λ s. 4096 * end_page s ≤ 0x2000000000) (load_areas file)
areas_end file e = All-from_recursion _ _ (ends (load_areas file) (no_row file e).placed)

-- the memory of a PT_LOAD with bytes in the file ends there too
abbrev pub EndsLow : Segment → Type 0
EndsLow s = is_load s ≡ true → 0 < s.filesz → s.vaddr + s.filesz ≤ 0x2000000000

loaded_end : (s : Segment) → (is_load s && nat_lt s.memsz s.filesz) ≡ false → (is_area s ≡ true → 4096 * end_page s ≤ 0x2000000000) → EndsLow s
loaded_end s in_memory placed load some =
    let filled : s.filesz ≤ s.memsz = ltb-false _ _ (true_and (is_load s) (nat_lt s.memsz s.filesz) load in_memory) in
    let area : is_area s ≡ true = rw (load, ne_eqb s.memsz 0 (λ e. omega arith)) refl in
    let low : 4096 * end_page s ≤ 0x2000000000 = placed area in
    omega (arith, to_page_end s)

loaded_ends : (ss : List Segment) → AllByRecursion (λ s. (is_load s && nat_lt s.memsz s.filesz) ≡ false) ss
    → AllByRecursion (λ s. (nat_lt (4096 * first_page s) 0x1000 || nat_lt 0x2000000000 (4096 * end_page s)) ≡ false) (filter is_area ss) → AllByRecursion EndsLow ss
loaded_ends [] in_memory placed = tt
loaded_ends (s ∷ ss) in_memory placed =
    elim (cases_Bool (is_area s)) [
      | inl area ↦
          let both = rw area at placed in
          (loaded_end s in_memory.0 (λ e. low_end s both.0), loaded_ends ss in_memory.1 both.1)
      | inr out ↦
          let rest = rw out at placed in
          (loaded_end s in_memory.0 (λ e. absurd cc), loaded_ends ss in_memory.1 rest)
    ]

found_has : (P : Segment → Type 0) (test : Segment → Bool) (ss : List Segment) (s : Segment) → AllByRecursion P ss → find test ss ≡ Some s → P s × (test s ≡ true)
found_has P test [] s all e = absurd cc
found_has P test (x ∷ ss) s all e =
    elim (cases_Bool (test x)) [
      | inl here ↦
          let found : Some x ≡ Some s = rw here at e in
          let same : x ≡ s = cc in
          subst (λ (y : Segment). P y × (test y ≡ true)) same (all.0, here)
      | inr other ↦ found_has P test ss s all.1 (rw other at e)
    ]

-- the first PT_LOAD whose bytes hold a place: what the address there is below
pub holder_ends : (file : List ℕ) (place : ℕ) (s : Segment) → first_row (table_rows file) ≡ None → find (λ s. is_load s && has_place place s) (segments file) ≡ Some s → (s.offset ≤ place) × (s.vaddr + (place - s.offset) ≤ 0x2000000000)
holder_ends file place s e found =
    let rows = no_row file e in
    let has = found_has EndsLow (λ s. is_load s && has_place place s) (segments file) s (loaded_ends (segments file) rows.in_memory rows.placed) found in
    let both = is_both (is_load s) (has_place place s) has.1 in
    let there = is_both (nat_le s.offset place) (nat_lt place (s.offset + s.filesz)) both.1 in
    let low : s.offset ≤ place = leb-true _ _ there.0 in
    let high : place < s.offset + s.filesz = ltb-true _ _ there.1 in
    let end : s.vaddr + s.filesz ≤ 0x2000000000 = has.0 both.0 (omega arith) in
    (low, omega arith)
