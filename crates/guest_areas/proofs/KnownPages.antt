-- The pages that a program has lie in the regions of its memory.
use Rattle.std.proofs.Common.{ℕ, zero, suc, ◌≡◌, ◌+◌, ◌-◌, ◌≤◌, ◌<◌, Bool, true, false, ◌||◌, leb, ltb, eqb, List, [], ◌∷◌, length, get_or, arith, sym, ap, ◌∙◌, subst, ⊎_elim, ◌⊎◌, inl, inr}
use Rattle.std.specs.List.{list_any}
use Rattle.std.proofs.lemmas.Bool.{cases_Bool, cases_order, or_cases, and_parts, leb-true, ltb-true, eqb-true}
use Rattle.std.proofs.lemmas.List.Folds.{Any-from_list_any, list_any_none, list_any_at}
use Rattle.std.proofs.lemmas.List.Sorted.{list_any-IsPermutation}
use Rattle.std.proofs.lemmas.List.{get_or_default}
use Rattle.guest_areas.proofs.MarkLemmas.{out_of_run}
use Rattle.coz_types.specs.declared.image.Area.{Area}
use Rattle.guest_memory.specs.declared.Layout.{Layout}
use Rattle.guest_memory.specs.Memory.{MemoryMap}
use Rattle.guest_memory.specs.Regions.{page_of, pages_for, brk_base, map_base, stack_base, IsInRun, IsKnown}
use Rattle.guest_areas.specs.Marks.{marked_pages}
use Rattle.guest_areas.specs.Space.{RegionMap, SharesRegions, is_in_run, is_in_area, is_each, is_known}
use Rattle.guest_areas.specs.Kept.{regions_of, IsKept, AreSorted}

-- a marked page that passes has its index among the flags
pub list_any-marked_from : (p : ℕ → Bool) (b : ℕ) (fs : List Bool) → list_any p (marked_pages b fs) ≡ true → (k : ℕ) × (k < length fs) × (p (b + k) ≡ true)
list_any-marked_from p b [] h = let no : ⊥ = cc in absurd no
list_any-marked_from p b (true ∷ fs) h =
    ⊎_elim
    (λ (t : p b ≡ true). (0, omega arith, ap p (let e : b + 0 ≡ b = omega arith in e) ∙ t))
    (λ (t : list_any p (marked_pages (b + 1) fs) ≡ true).
    let r = list_any-marked_from p (b + 1) fs t in
    (suc r.0, omega (arith, r.1), ap p (let e : b + suc r.0 ≡ b + 1 + r.0 = omega arith in e) ∙ r.2))
    (or_cases (p b) (list_any p (marked_pages (b + 1) fs)) h)
list_any-marked_from p b (false ∷ fs) h =
    let r = list_any-marked_from p (b + 1) fs h in
    (suc r.0, omega (arith, r.1), ap p (let e : b + suc r.0 ≡ b + 1 + r.0 = omega arith in e) ∙ r.2)

pub run_parts : (first n q : ℕ) → is_in_run first n q ≡ true → IsInRun first n q
run_parts first n q h =
    let p = and_parts (leb first q) (ltb q (first + n)) h in (leb-true first q p.0, ltb-true q (first + n) p.1)

pub known_page : (areas : List Area) (layout : Layout) (break : ℕ) (flags : List Bool) (page : ℕ) → IsKept layout break flags → is_known (regions_of areas layout break flags) page ≡ true → IsKnown areas layout page
known_page areas layout break flags page kept h =
    ⊎_elim
    (λ (o : (list_any (λ p. eqb p page) (marked_pages (page_of map_base) flags) || is_in_run (page_of brk_base) (pages_for break - page_of brk_base) page || is_in_run (page_of (stack_base layout)) (page_of layout.stack) page) ≡ true).
    ⊎_elim
    (λ (q : (list_any (λ p. eqb p page) (marked_pages (page_of map_base) flags) || is_in_run (page_of brk_base) (pages_for break - page_of brk_base) page) ≡ true).
    ⊎_elim
    (λ (t : list_any (λ p. eqb p page) (marked_pages (page_of map_base) flags) ≡ true).
    let r = list_any-marked_from (λ p. eqb p page) (page_of map_base) flags t in
    let same : page_of map_base + r.0 ≡ page = eqb-true (page_of map_base + r.0) page r.2 in
    inr (inr (inl (omega arith, omega (arith, r.1, kept.each_page)))))
    (λ (t : is_in_run (page_of brk_base) (pages_for break - page_of brk_base) page ≡ true).
    let r = run_parts (page_of brk_base) (pages_for break - page_of brk_base) page t in
    let high : page < page_of brk_base + (pages_for break - page_of brk_base) = r.1 in
    let low = kept.low in
    let end = kept.high in
    let whole = kept.valid.whole_brk in
    inr (inl (r.0, omega arith)))
    (or_cases (list_any (λ p. eqb p page) (marked_pages (page_of map_base) flags)) (is_in_run (page_of brk_base) (pages_for break - page_of brk_base) page) q))
    (λ (t : is_in_run (page_of (stack_base layout)) (page_of layout.stack) page ≡ true).
    inr (inr (inr (run_parts (page_of (stack_base layout)) (page_of layout.stack) page t))))
    (or_cases (list_any (λ p. eqb p page) (marked_pages (page_of map_base) flags) || is_in_run (page_of brk_base) (pages_for break - page_of brk_base) page) (is_in_run (page_of (stack_base layout)) (page_of layout.stack) page) o))
    (λ (t : list_any (is_in_area page) areas ≡ true).
    let a = Any-from_list_any (is_in_area page) areas t in
    inl (a.0, a.1, a.2, a.3, run_parts (page_of a.1.start) (page_of a.1.size) page a.4))
    (or_cases (list_any (λ p. eqb p page) (marked_pages (page_of map_base) flags) || is_in_run (page_of brk_base) (pages_for break - page_of brk_base) page || is_in_run (page_of (stack_base layout)) (page_of layout.stack) page) (list_any (is_in_area page) areas) h)

abbrev each_from : (ℕ → Bool) → ℕ → ℕ → Bool → Bool
each_from test first n here = elim here [ true ↦ is_each test (first + 1) n | false ↦ false ]

pub each_at : (test : ℕ → Bool) (first n q : ℕ) → is_each test first n ≡ true → first ≤ q → q < first + n → test q ≡ true
each_at test first zero q h from below = absurd (omega arith)
each_at test first (suc n) q h from below =
    ⊎_elim
    (λ (t : test first ≡ true).
    ⊎_elim
    (λ (s : first ≡ q). ap test (sym s) ∙ t)
    (λ (o : (first < q) ⊎ (q < first)).
    each_at test (first + 1) n q (sym (ap (λ (b : Bool). each_from test first n b) t) ∙ h) (omega arith) (omega arith))
    (cases_order first q))
    (λ (f : test first ≡ false).
    let no : false ≡ true = sym (ap (λ (b : Bool). each_from test first n b) f) ∙ h in let none : ⊥ = cc in absurd none)
    (cases_Bool (test first))

pub each_more : (test : ℕ → Bool) (first n m : ℕ) → n ≡ suc m → test first ≡ true → is_each test first n ≡ is_each test (first + 1) m
each_more test first n m e t =
    ap (λ (k : ℕ). is_each test first k) e ∙ ap (λ (b : Bool). each_from test first m b) t

pub each_not : (test : ℕ → Bool) (first n m : ℕ) → n ≡ suc m → test first ≡ false → is_each test first n ≡ false
each_not test first n m e f =
    ap (λ (k : ℕ). is_each test first k) e ∙ ap (λ (b : Bool). each_from test first m b) f

-- the pages that the areas know are known to the memory
pub shared : (r : RegionMap) (m : MemoryMap) (page : ℕ) → SharesRegions r m → IsKnown r.areas r.layout page → IsKnown m.image.areas m.layout page
shared r m page shares known =
    subst (λ (xs : List Area). IsKnown xs m.layout page) shares.areas (subst (λ (l : Layout). IsKnown r.areas l page) shares.layout known)

out_of_area : (page : ℕ) (area : Area) → (page_of area.start ≤ page → page < page_of area.start + page_of area.size → ⊥) → is_in_area page area ≡ false
out_of_area page area h = out_of_run (page_of area.start) (page_of area.size) page h

-- a page below the first of the sorted areas
pub below_areas : (page : ℕ) (areas sorted : List Area) → AreSorted areas sorted → ((k : ℕ) (d : Area) → k < length sorted → page < page_of (get_or sorted k d).start) → list_any (is_in_area page) areas ≡ false
below_areas page areas sorted s above =
    list_any-IsPermutation (is_in_area page) areas sorted s.moved
    ∙ list_any_none (is_in_area page) sorted (λ k d h. out_of_area page (get_or sorted k d) (λ from below. let l = above k d h in omega arith))

-- only the last area that starts at the page or before it may have the page
pub last_area : (page : ℕ) (areas sorted : List Area) (n : ℕ) (last : Area) → AreSorted areas sorted → n < length sorted → last ≡ get_or sorted n last
    → page_of last.start ≤ page → ((k : ℕ) (d : Area) → n < k → k < length sorted → page < page_of (get_or sorted k d).start)
    → is_in_area page last ≡ list_any (is_in_area page) areas
last_area page areas sorted n last s h e from above =
    ⊎_elim
    (λ (t : is_in_area page last ≡ true).
    t ∙ sym (list_any_at (is_in_area page) sorted n last h (ap (λ (a : Area). is_in_area page a) (sym e) ∙ t)) ∙ sym (list_any-IsPermutation (is_in_area page) areas sorted s.moved))
    (λ (f : is_in_area page last ≡ false).
    f ∙ sym (list_any_none (is_in_area page) sorted (λ k d below.
    ⊎_elim
    (λ (same : k ≡ n).
    ap (λ (a : Area). is_in_area page a) (ap (λ (i : ℕ). get_or sorted i d) same ∙ get_or_default sorted n d last h ∙ sym e) ∙ f)
    (λ (o : (k < n) ⊎ (n < k)).
    out_of_area page (get_or sorted k d)
    (⊎_elim
    (λ (l : k < n). λ low high.
    let next = s.apart k n d l h in
    let here : page_of (get_or sorted n d).start ≡ page_of last.start = ap (λ (a : Area). page_of a.start) (get_or_default sorted n d last h ∙ sym e) in
    omega arith)
    (λ (l : n < k). λ low high. let up = above k d l below in omega arith)
    o))
    (cases_order k n)))
    ∙ sym (list_any-IsPermutation (is_in_area page) areas sorted s.moved))
    (cases_Bool (is_in_area page last))
