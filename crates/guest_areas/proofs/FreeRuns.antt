-- The search for the lowest free run.
use Rattle.std.proofs.Common.{ℕ, zero, suc, ◌≡◌, ◌+◌, ◌-◌, ◌≤◌, ◌<◌, Bool, true, false, not, cond, nat_le, leb, ltb, List, length, get_or, find, arith, refl, sym, ap, ◌∙◌, ◌⊎◌, ⊎_elim, inl, inr, Option, Some, None}
use Rattle.std.specs.List.{list_any}
use Rattle.std.proofs.lemmas.Bool.{cases_Bool, and_parts, leb-true, ltb-true, le-leb, cases_lt, false_from_ne_true}
use Rattle.guest_areas.specs.Marks.{marked_pages}
use Rattle.guest_areas.specs.Space.{RegionMap, is_in_run, is_free_run, run}
use Rattle.guest_areas.proofs.MarkLemmas.{list_any-marked_at, list_any-marked_none, in_run}

-- the search from a page on, if n are left of the region
abbrev pub free_run_from : RegionMap → ℕ → ℕ → ℕ → Option ℕ
free_run_from r count zero page = None
free_run_from r count (suc left) page =
    elim (nat_le count (suc left)) [
      | true ↦ elim (is_free_run r page count) [ true ↦ Some page | false ↦ free_run_from r count left (page + 1) ]
      | false ↦ None
    ]

-- what one step of the search answers
abbrev chosen : Bool → Bool → ℕ → Option ℕ → Option ℕ
chosen enough free page rest = elim enough [ true ↦ elim free [ true ↦ Some page | false ↦ rest ] | false ↦ None ]

abbrev from_step : RegionMap → ℕ → ℕ → ℕ → Bool → Bool → Option ℕ
from_step r count left page enough free = chosen enough free page (free_run_from r count left (page + 1))

too_few : (count left : ℕ) → left < count → leb count left ≡ false
too_few count left h = false_from_ne_true (leb count left) (λ e. let l : count ≤ left = leb-true count left e in omega arith)

pub none_short : (r : RegionMap) (count left page : ℕ) → left < count → free_run_from r count left page ≡ None
none_short r count zero page h = refl
none_short r count (suc left) page h =
    ap (λ (b : Bool). from_step r count left page b (is_free_run r page count)) (too_few count (suc left) h)

found_step : (r : RegionMap) (count left page : ℕ) → leb count (suc left) ≡ true → is_free_run r page count ≡ true → free_run_from r count (suc left) page ≡ Some page
found_step r count left page enough free =
    ap (λ (b : Bool). from_step r count left page b (is_free_run r page count)) enough
    ∙ ap (λ (b : Bool). from_step r count left page true b) free

passed_step : (r : RegionMap) (count left page : ℕ) → leb count (suc left) ≡ true → is_free_run r page count ≡ false → free_run_from r count (suc left) page ≡ free_run_from r count left (page + 1)
passed_step r count left page enough taken =
    ap (λ (b : Bool). from_step r count left page b (is_free_run r page count)) enough
    ∙ ap (λ (b : Bool). from_step r count left page true b) taken

cases_le : (a b : ℕ) → (a ≤ b) ⊎ (b < a)
cases_le a b = ⊎_elim (λ (l : b < a). inr l) (λ (l : a ≤ b). inl l) (cases_lt b a)

chosen_first : (free : Bool) (page : ℕ) (rest : Option ℕ) → chosen true free page rest ≡ cond free (Some page) rest
chosen_first true page rest = refl
chosen_first false page rest = refl

-- the search finds the least page
pub search_is : (r : RegionMap) (count left page : ℕ) → 0 < count → free_run_from r count left page ≡ find (λ p. is_free_run r p count) (run page (left + 1 - count))
search_is r count zero page some =
    ap (λ (n : ℕ). find (λ p. is_free_run r p count) (run page n)) (let e : 0 ≡ 0 + 1 - count = omega arith in e)
search_is r count (suc left) page some =
    ⊎_elim
    (λ (l : count ≤ suc left).
    ap (λ (b : Bool). from_step r count left page b (is_free_run r page count)) (le-leb count (suc left) l)
    ∙ ap (chosen true (is_free_run r page count) page) (search_is r count left (page + 1) some)
    ∙ chosen_first (is_free_run r page count) page (find (λ p. is_free_run r p count) (run (page + 1) (left + 1 - count)))
    ∙ ap (λ (n : ℕ). find (λ p. is_free_run r p count) (run page n)) (let e : suc (left + 1 - count) ≡ suc left + 1 - count = omega arith in e))
    (λ (l : suc left < count).
    none_short r count (suc left) page l
    ∙ ap (λ (n : ℕ). find (λ p. is_free_run r p count) (run page n)) (let e : 0 ≡ suc left + 1 - count = omega arith in e))
    (cases_le count (suc left))

pub found : (r : RegionMap) (count left page : ℕ) → 0 < count → count ≤ left → is_free_run r page count ≡ true → free_run_from r count left page ≡ Some page
found r count zero page some h free = absurd (omega arith)
found r count (suc left) page some h free =
    found_step r count left page (le-leb count (suc left) h) free

-- runs that are not free are passed
pub passed : (r : RegionMap) (count left page m : ℕ) → m ≤ left → ((c : ℕ) → page ≤ c → c < page + m → is_free_run r c count ≡ false) → free_run_from r count left page ≡ free_run_from r count (left - m) (page + m)
passed r count left page zero h blocked =
    ap (λ (n : ℕ). free_run_from r count n page) (let e : left ≡ left - 0 = omega arith in e)
    ∙ ap (λ (q : ℕ). free_run_from r count (left - 0) q) (let e : page ≡ page + 0 = omega arith in e)
passed r count zero page (suc m) h blocked = absurd (omega arith)
passed r count (suc left) page (suc m) h blocked =
    ⊎_elim
    (λ (l : count ≤ suc left).
    passed_step r count left page (le-leb count (suc left) l) (blocked page (omega arith) (omega arith))
    ∙ passed r count left (page + 1) m (omega arith) (λ c from below. blocked c (omega arith) (omega arith))
    ∙ ap (λ (n : ℕ). free_run_from r count n (page + 1 + m)) (let e : left - m ≡ suc left - suc m = omega arith in e)
    ∙ ap (λ (q : ℕ). free_run_from r count (suc left - suc m) q) (let e : page + 1 + m ≡ page + suc m = omega arith in e))
    (λ (l : suc left < count).
    none_short r count (suc left) page l ∙ sym (none_short r count (suc left - suc m) (page + suc m) (omega arith)))
    (cases_le count (suc left))

-- what a found run is
pub record IsFound (r : RegionMap) (count left page p : ℕ) : Type 0 where
  pub from : page ≤ p
  pub within : p + count ≤ page + left
  pub free : is_free_run r p count ≡ true

pub found_is : (r : RegionMap) (count left page p : ℕ) → free_run_from r count left page ≡ Some p → IsFound r count left page p
found_is r count zero page p e = let no : ⊥ = cc in absurd no
found_is r count (suc left) page p e =
    ⊎_elim
    (λ (l : count ≤ suc left).
    let enough : leb count (suc left) ≡ true = le-leb count (suc left) l in
    ⊎_elim
    (λ (t : is_free_run r page count ≡ true).
    let here : Some page ≡ Some p =
    sym (found_step r count left page enough t) ∙ e in
    let same : page ≡ p = cc in
    record { from = omega arith; within = omega arith; free = ap (λ (q : ℕ). is_free_run r q count) (sym same) ∙ t })
    (λ (f : is_free_run r page count ≡ false).
    let rest : free_run_from r count left (page + 1) ≡ Some p = sym (passed_step r count left page enough f) ∙ e in
    let later = found_is r count left (page + 1) p rest in
    record { from = omega (arith, later.from); within = omega (arith, later.within); free = later.free })
    (cases_Bool (is_free_run r page count)))
    (λ (l : suc left < count). let none : None ≡ Some p = sym (none_short r count (suc left) page l) ∙ e in let no : ⊥ = cc in absurd no)
    (cases_le count (suc left))

-- a marked page in a run
pub not_free : (r : RegionMap) (b : ℕ) (fs : List Bool) (first count k : ℕ) → r.mapped ≡ marked_pages b fs → k < length fs → get_or fs k false ≡ true → first ≤ b + k → b + k < first + count → is_free_run r first count ≡ false
not_free r b fs first count k e h m from below =
    ap (λ (ps : List ℕ). not (list_any (is_in_run first count) ps)) e
    ∙ ap not (list_any-marked_at (is_in_run first count) b fs k h m (in_run first count (b + k) from below))

-- no marked page in a run
pub is_free : (r : RegionMap) (b : ℕ) (fs : List Bool) (first count : ℕ) → r.mapped ≡ marked_pages b fs → ((k : ℕ) → k < length fs → first ≤ b + k → b + k < first + count → get_or fs k false ≡ false) → is_free_run r first count ≡ true
is_free r b fs first count e h =
    ap (λ (ps : List ℕ). not (list_any (is_in_run first count) ps)) e
    ∙ ap not (list_any-marked_none (is_in_run first count) b fs (λ k l t.
    let p = and_parts (leb first (b + k)) (ltb (b + k) (first + count)) t in
    h k l (leb-true first (b + k) p.0) (ltb-true (b + k) (first + count) p.1)))

-- the search after a mapped page
pub search_taken : (r : RegionMap) (base count index free : ℕ) (fs : List Bool) → r.mapped ≡ marked_pages base fs → free < count → free ≤ index → index < length fs → get_or fs index false ≡ true
    → free_run_from r count (length fs - (index - free)) (base + (index - free)) ≡ free_run_from r count (length fs - (index + 1)) (base + (index + 1))
search_taken r base count index free fs e short back h taken =
    passed r count (length fs - (index - free)) (base + (index - free)) (free + 1) (omega arith)
    (λ c from below. not_free r base fs c count index e h taken (omega arith) (omega arith))
    ∙ ap (λ (n : ℕ). free_run_from r count n (base + (index - free) + (free + 1))) (let f : length fs - (index - free) - (free + 1) ≡ length fs - (index + 1) = omega arith in f)
    ∙ ap (λ (q : ℕ). free_run_from r count (length fs - (index + 1)) q) (let f : base + (index - free) + (free + 1) ≡ base + (index + 1) = omega arith in f)

-- the search at a run that is long enough
pub search_found : (r : RegionMap) (base count index free : ℕ) (fs : List Bool) → r.mapped ≡ marked_pages base fs → free + 1 ≡ count → free ≤ index → index < length fs
    → ((k : ℕ) → index - free ≤ k → k < index → get_or fs k false ≡ false) → get_or fs index false ≡ false
    → free_run_from r count (length fs - (index - free)) (base + (index - free)) ≡ Some (base + (index - free))
search_found r base count index free fs e long back h open_ here =
    found r count (length fs - (index - free)) (base + (index - free)) (omega arith) (omega arith)
    (is_free r base fs (base + (index - free)) count e (λ k l from below.
    ⊎_elim (λ (s : k < index). open_ k (omega arith) s)
    (λ (s : index ≤ k). ap (λ (i : ℕ). get_or fs i false) (let f : k ≡ index = omega arith in f) ∙ here)
    (cases_lt k index)))
