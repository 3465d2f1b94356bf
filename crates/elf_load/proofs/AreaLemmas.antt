-- A walk over areas that looks back at the earlier ones.
use Rattle.std.proofs.Common.{◌≡◌, ℕ, zero, suc, ◌+◌, ◌*◌, ◌/◌, ◌<◌, Bool, true, false, not, ◌&&◌, cond, List, [], ◌∷◌, reverse, take, drop, length, get_or, Some, refl, sym, ap, ◌∙◌, arith, nat_lt, fold, ◌==◌}
use Rattle.std.specs.Prelude.{sum_by}
use Rattle.std.specs.List.{list_any}
use Rattle.std.proofs.lemmas.List.{reverse-append, take_more, drop_more}
use Rattle.elf_load.specs.declared.tables.Segment.{Segment}
use Rattle.elf_load.specs.Tables.{first_page, end_page, pages, share_page, is_area, is_load}
use Rattle.elf_load.specs.Faults.{first_after}

-- the first n, the last of them first
abbrev pub earlier : ℕ → List Segment → List Segment
earlier n ss = reverse (take n ss)

-- the test of the row on shared pages
abbrev pub shares : List Segment → Segment → Bool
shares before s = list_any (share_page s) before

-- the test of the row on too much memory
abbrev pub exceeds : List Segment → Segment → Bool
exceeds before s = nat_lt 0x4000000 (4096 * sum_by pages (s ∷ before))

pub earlier_more : (n : ℕ) (ss : List Segment) (d : Segment) → n < length ss → earlier (n + 1) ss ≡ get_or ss n d ∷ earlier n ss
earlier_more n ss d lt = ap (λ (xs : List Segment). reverse xs) (take_more ss n d lt) ∙ reverse-append (take n ss) (get_or ss n d ∷ [])

-- the test at one more area
pub here : (test : List Segment → Segment → Bool) (n : ℕ) (ss : List Segment) (d : Segment) → n < length ss → first_after test (earlier n ss) (drop n ss) ≡ cond (test (earlier n ss) (get_or ss n d)) (Some (get_or ss n d).place) (first_after test (get_or ss n d ∷ earlier n ss) (drop (n + 1) ss))
here test n ss d lt = ap (λ (rest : List Segment). first_after test (earlier n ss) rest) (drop_more ss n d lt)

pub found_here : (test : List Segment → Segment → Bool) (n : ℕ) (ss : List Segment) (d : Segment) → n < length ss → test (earlier n ss) (get_or ss n d) ≡ true → first_after test (earlier n ss) (drop n ss) ≡ Some (get_or ss n d).place
found_here test n ss d lt holds = here test n ss d lt ∙ rw holds refl

pub passed_here : (test : List Segment → Segment → Bool) (n : ℕ) (ss : List Segment) (d : Segment) → n < length ss → test (earlier n ss) (get_or ss n d) ≡ false → first_after test (earlier (n + 1) ss) (drop (n + 1) ss) ≡ first_after test (earlier n ss) (drop n ss)
passed_here test n ss d lt fails =
    ap (λ (before : List Segment). first_after test before (drop (n + 1) ss)) (earlier_more n ss d lt) ∙ sym (here test n ss d lt ∙ rw fails refl)

-- a load area has a page
pub is_wide : (s : Segment) → is_area s ≡ true → first_page s < end_page s
is_wide s is = some_bytes (is_load s) s.memsz is where
  some_bytes : (load : Bool) (m : ℕ) → (load && not (m == 0)) ≡ true → s.vaddr / 4096 < (s.vaddr + m + 4095) / 4096
  some_bytes false m e = absurd cc
  some_bytes true zero e = absurd cc
  some_bytes true (suc m) e = omega arith

-- ---- all areas together

abbrev pub total : List Segment → ℕ
total [] = 0
total (s ∷ ss) = pages s + total ss

folded : (ss : List Segment) (n : ℕ) → fold (λ a s. a + pages s) n ss ≡ n + total ss
folded [] n = omega arith
folded (s ∷ ss) n = omega (arith, folded ss (n + pages s))

pub summed : (ss : List Segment) → sum_by pages ss ≡ total ss
summed ss =
    let whole : sum_by pages ss ≡ 0 + total ss = folded ss 0 in
    omega arith
