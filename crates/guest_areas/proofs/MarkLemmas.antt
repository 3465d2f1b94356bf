-- The pages that flags mark, over parts of the flags.
use Rattle.std.proofs.Common.{ℕ, zero, suc, ◌≡◌, ◌+◌, ◌≤◌, ◌<◌, Bool, true, false, not, leb, ltb, eqb, List, [], ◌∷◌, ◌++◌, length, take, drop, get_or, replicate, arith, refl, sym, ap, ◌∙◌, ⊎_elim, ◌⊎◌}
use borrow.Rule.Slice.PartMut.{put_mid}
use Rattle.std.specs.List.{list_any, filter}
use Rattle.std.proofs.lemmas.Bool.{cases_Bool, cond-true, cond-false, both_ways, or_left, or_right, or_from, or_parts, and_parts, and_from, leb-true, ltb-true, le-leb, lt-ltb, false_from_ne_true, eq-eqb, eqb-true}
use Rattle.std.proofs.lemmas.List.{append_assoc, take-append-drop, length-take, length-drop, length-replicate}
use Rattle.std.proofs.lemmas.List.Elements.{filter-append}
use Rattle.std.proofs.lemmas.List.Folds.{list_any-append}
use Rattle.guest_areas.specs.Marks.{marked_pages}
use Rattle.guest_areas.specs.Space.{is_in_run, run}

pub marked-append : (b : ℕ) (xs ys : List Bool) → marked_pages b (xs ++ ys) ≡ marked_pages b xs ++ marked_pages (b + length xs) ys
marked-append b [] ys = ap (λ (q : ℕ). marked_pages q ys) (let e : b ≡ b + 0 = omega arith in e)
marked-append b (true ∷ xs) ys =
    ap (λ (ps : List ℕ). b ∷ ps)
    (marked-append (b + 1) xs ys ∙ ap (λ (q : ℕ). marked_pages (b + 1) xs ++ marked_pages q ys) (let e : b + 1 + length xs ≡ b + suc (length xs) = omega arith in e))
marked-append b (false ∷ xs) ys =
    marked-append (b + 1) xs ys ∙ ap (λ (q : ℕ). marked_pages (b + 1) xs ++ marked_pages q ys) (let e : b + 1 + length xs ≡ b + suc (length xs) = omega arith in e)

pub marked-true : (b n : ℕ) → marked_pages b (replicate n true) ≡ run b n
marked-true b zero = refl
marked-true b (suc n) = ap (λ (ps : List ℕ). b ∷ ps) (marked-true (b + 1) n)

pub marked-false : (b n : ℕ) → marked_pages b (replicate n false) ≡ []
marked-false b zero = refl
marked-false b (suc n) = marked-false (b + 1) n

-- a page that is marked and passes
pub list_any-marked_at : (p : ℕ → Bool) (b : ℕ) (fs : List Bool) (k : ℕ) → k < length fs → get_or fs k false ≡ true → p (b + k) ≡ true → list_any p (marked_pages b fs) ≡ true
list_any-marked_at p b [] k h m t = absurd (omega arith)
list_any-marked_at p b (true ∷ fs) zero h m t =
    or_left (p b) (list_any p (marked_pages (b + 1) fs)) (ap p (let e : b ≡ b + 0 = omega arith in e) ∙ t)
list_any-marked_at p b (true ∷ fs) (suc k) h m t =
    or_right (p b) (list_any p (marked_pages (b + 1) fs))
    (list_any-marked_at p (b + 1) fs k (omega arith) m (ap p (let e : b + 1 + k ≡ b + suc k = omega arith in e) ∙ t))
list_any-marked_at p b (false ∷ fs) zero h m t = let no : ⊥ = cc in absurd no
list_any-marked_at p b (false ∷ fs) (suc k) h m t =
    list_any-marked_at p (b + 1) fs k (omega arith) m (ap p (let e : b + 1 + k ≡ b + suc k = omega arith in e) ∙ t)

-- no page that passes is marked
pub list_any-marked_none : (p : ℕ → Bool) (b : ℕ) (fs : List Bool) → ((k : ℕ) → k < length fs → p (b + k) ≡ true → get_or fs k false ≡ false) → list_any p (marked_pages b fs) ≡ false
list_any-marked_none p b [] h = refl
list_any-marked_none p b (true ∷ fs) h =
    or_from (p b) (list_any p (marked_pages (b + 1) fs))
    (false_from_ne_true (p b) (λ t.
    let e : true ≡ false = h 0 (omega arith) (ap p (let f : b + 0 ≡ b = omega arith in f) ∙ t) in
    let no : ⊥ = cc in no))
    (list_any-marked_none p (b + 1) fs (λ k l t. h (suc k) (omega arith) (ap p (let f : b + suc k ≡ b + 1 + k = omega arith in f) ∙ t)))
list_any-marked_none p b (false ∷ fs) h =
    list_any-marked_none p (b + 1) fs (λ k l t. h (suc k) (omega arith) (ap p (let f : b + suc k ≡ b + 1 + k = omega arith in f) ∙ t))

-- if each page passes and no marked one does, none is marked
pub marked_empty : (p : ℕ → Bool) (b : ℕ) (fs : List Bool) → ((k : ℕ) → k < length fs → p (b + k) ≡ true) → list_any p (marked_pages b fs) ≡ false → marked_pages b fs ≡ []
marked_empty p b [] h e = refl
marked_empty p b (true ∷ fs) h e =
    absurd (both_ways (p b) (or_parts (p b) (list_any p (marked_pages (b + 1) fs)) e).0 (ap p (let f : b ≡ b + 0 = omega arith in f) ∙ h 0 (omega arith)))
marked_empty p b (false ∷ fs) h e =
    marked_empty p (b + 1) fs (λ k l. ap p (let f : b + 1 + k ≡ b + suc k = omega arith in f) ∙ h (suc k) (omega arith)) e

pub filter-marked_all : (p : ℕ → Bool) (b : ℕ) (fs : List Bool) → ((k : ℕ) → k < length fs → p (b + k) ≡ true) → filter p (marked_pages b fs) ≡ marked_pages b fs
filter-marked_all p b [] h = refl
filter-marked_all p b (true ∷ fs) h =
    cond-true (p b) (b ∷ filter p (marked_pages (b + 1) fs)) (filter p (marked_pages (b + 1) fs)) (ap p (let f : b ≡ b + 0 = omega arith in f) ∙ h 0 (omega arith))
    ∙ ap (λ (ps : List ℕ). b ∷ ps) (filter-marked_all p (b + 1) fs (λ k l. ap p (let f : b + 1 + k ≡ b + suc k = omega arith in f) ∙ h (suc k) (omega arith)))
filter-marked_all p b (false ∷ fs) h =
    filter-marked_all p (b + 1) fs (λ k l. ap p (let f : b + 1 + k ≡ b + suc k = omega arith in f) ∙ h (suc k) (omega arith))

pub filter-marked_none : (p : ℕ → Bool) (b : ℕ) (fs : List Bool) → ((k : ℕ) → k < length fs → p (b + k) ≡ false) → filter p (marked_pages b fs) ≡ []
filter-marked_none p b [] h = refl
filter-marked_none p b (true ∷ fs) h =
    cond-false (p b) (b ∷ filter p (marked_pages (b + 1) fs)) (filter p (marked_pages (b + 1) fs)) (ap p (let f : b ≡ b + 0 = omega arith in f) ∙ h 0 (omega arith))
    ∙ filter-marked_none p (b + 1) fs (λ k l. ap p (let f : b + 1 + k ≡ b + suc k = omega arith in f) ∙ h (suc k) (omega arith))
filter-marked_none p b (false ∷ fs) h =
    filter-marked_none p (b + 1) fs (λ k l. ap p (let f : b + 1 + k ≡ b + suc k = omega arith in f) ∙ h (suc k) (omega arith))

-- the pages before a part of the flags, in it and after it
pub marked-parts : (b i k : ℕ) (fs ys : List Bool) → i ≤ length fs → length ys ≡ k → marked_pages b (put_mid i k fs ys) ≡ marked_pages b (take i fs) ++ (marked_pages (b + i) ys ++ marked_pages (b + (i + k)) (drop k (drop i fs)))
marked-parts b i k fs ys h e =
    let n : length (take i fs) ≡ i = omega (arith, length-take i fs) in
    marked-append b (take i fs) (ys ++ drop k (drop i fs))
    ∙ ap (λ (ps : List ℕ). marked_pages b (take i fs) ++ ps)
    (ap (λ (q : ℕ). marked_pages (b + q) (ys ++ drop k (drop i fs))) n ∙ marked-append (b + i) ys (drop k (drop i fs))
    ∙ ap (λ (q : ℕ). marked_pages (b + i) ys ++ marked_pages q (drop k (drop i fs))) (let f : b + i + length ys ≡ b + (i + k) = omega arith in f))

whole : (b i k : ℕ) (fs : List Bool) → i + k ≤ length fs → marked_pages b fs ≡ marked_pages b (take i fs) ++ (marked_pages (b + i) (take k (drop i fs)) ++ marked_pages (b + (i + k)) (drop k (drop i fs)))
whole b i k fs h =
    ap (λ (xs : List Bool). marked_pages b xs) (sym (take-append-drop i fs) ∙ ap (λ (xs : List Bool). take i fs ++ xs) (sym (take-append-drop k (drop i fs))))
    ∙ marked-parts b i k fs (take k (drop i fs)) (omega arith) (omega (arith, length-take k (drop i fs), length-drop i fs))

pub in_run : (first n q : ℕ) → first ≤ q → q < first + n → is_in_run first n q ≡ true
in_run first n q a b = and_from (leb first q) (ltb q (first + n)) (le-leb first q a) (lt-ltb q (first + n) b)

pub out_of_run : (first n q : ℕ) → (first ≤ q → q < first + n → ⊥) → is_in_run first n q ≡ false
out_of_run first n q h =
    false_from_ne_true (is_in_run first n q) (λ e.
    let p = and_parts (leb first q) (ltb q (first + n)) e in h (leb-true first q p.0) (ltb-true q (first + n) p.1))

not_below : (a b : ℕ) → b ≤ a → ltb a b ≡ false
not_below a b h = false_from_ne_true (ltb a b) (λ e. let l : a < b = ltb-true a b e in omega arith)

filter-three : (p : ℕ → Bool) (xs ys zs : List ℕ) → filter p (xs ++ (ys ++ zs)) ≡ filter p xs ++ (filter p ys ++ filter p zs)
filter-three p xs ys zs = filter-append p xs (ys ++ zs) ∙ ap (λ (ps : List ℕ). filter p xs ++ ps) (filter-append p ys zs)

append_none : (xs : List ℕ) → xs ++ [] ≡ xs
append_none [] = refl
append_none (x ∷ xs) = ap (λ (ys : List ℕ). x ∷ ys) (append_none xs)

-- a free run is taken
pub marked-taken : (b i k : ℕ) (fs : List Bool) → 0 < k → i + k ≤ length fs → list_any (is_in_run (b + i) k) (marked_pages b fs) ≡ false
    → marked_pages b (put_mid i k fs (replicate k true)) ≡ filter (λ p. ltb p (b + i)) (marked_pages b fs) ++ run (b + i) k ++ filter (λ p. ltb (b + i) p) (marked_pages b fs)
marked-taken b i k fs some h free =
    let split = whole b i k fs h in
    let n : length (take i fs) ≡ i = omega (arith, length-take i fs) in
    let m : length (take k (drop i fs)) ≡ k = omega (arith, length-take k (drop i fs), length-drop i fs) in
    let parts = or_parts (list_any (is_in_run (b + i) k) (marked_pages b (take i fs))) (list_any (is_in_run (b + i) k) (marked_pages (b + i) (take k (drop i fs)) ++ marked_pages (b + (i + k)) (drop k (drop i fs))))
    (sym (list_any-append (is_in_run (b + i) k) (marked_pages b (take i fs)) (marked_pages (b + i) (take k (drop i fs)) ++ marked_pages (b + (i + k)) (drop k (drop i fs))))
    ∙ ap (λ (ps : List ℕ). list_any (is_in_run (b + i) k) ps) (sym split) ∙ free) in
    let inner = or_parts (list_any (is_in_run (b + i) k) (marked_pages (b + i) (take k (drop i fs)))) (list_any (is_in_run (b + i) k) (marked_pages (b + (i + k)) (drop k (drop i fs))))
    (sym (list_any-append (is_in_run (b + i) k) (marked_pages (b + i) (take k (drop i fs))) (marked_pages (b + (i + k)) (drop k (drop i fs)))) ∙ parts.1) in
    let empty : marked_pages (b + i) (take k (drop i fs)) ≡ [] =
    marked_empty (is_in_run (b + i) k) (b + i) (take k (drop i fs)) (λ j l. in_run (b + i) k (b + i + j) (omega arith) (omega arith)) inner.0 in
    let lower : filter (λ p. ltb p (b + i)) (marked_pages b fs) ≡ marked_pages b (take i fs) =
    ap (λ (ps : List ℕ). filter (λ p. ltb p (b + i)) ps) split
    ∙ filter-three (λ p. ltb p (b + i)) (marked_pages b (take i fs)) (marked_pages (b + i) (take k (drop i fs))) (marked_pages (b + (i + k)) (drop k (drop i fs)))
    ∙ ap (λ (ps : List ℕ). ps ++ (filter (λ p. ltb p (b + i)) (marked_pages (b + i) (take k (drop i fs))) ++ filter (λ p. ltb p (b + i)) (marked_pages (b + (i + k)) (drop k (drop i fs)))))
    (filter-marked_all (λ p. ltb p (b + i)) b (take i fs) (λ j l. lt-ltb (b + j) (b + i) (omega arith)))
    ∙ ap (λ (ps : List ℕ). marked_pages b (take i fs) ++ (ps ++ filter (λ p. ltb p (b + i)) (marked_pages (b + (i + k)) (drop k (drop i fs)))))
    (filter-marked_none (λ p. ltb p (b + i)) (b + i) (take k (drop i fs)) (λ j l. not_below (b + i + j) (b + i) (omega arith)))
    ∙ ap (λ (ps : List ℕ). marked_pages b (take i fs) ++ ps)
    (filter-marked_none (λ p. ltb p (b + i)) (b + (i + k)) (drop k (drop i fs)) (λ j l. not_below (b + (i + k) + j) (b + i) (omega arith)))
    ∙ append_none (marked_pages b (take i fs)) in
    let upper : filter (λ p. ltb (b + i) p) (marked_pages b fs) ≡ marked_pages (b + (i + k)) (drop k (drop i fs)) =
    ap (λ (ps : List ℕ). filter (λ p. ltb (b + i) p) ps) split
    ∙ filter-three (λ p. ltb (b + i) p) (marked_pages b (take i fs)) (marked_pages (b + i) (take k (drop i fs))) (marked_pages (b + (i + k)) (drop k (drop i fs)))
    ∙ ap (λ (ps : List ℕ). ps ++ (filter (λ p. ltb (b + i) p) (marked_pages (b + i) (take k (drop i fs))) ++ filter (λ p. ltb (b + i) p) (marked_pages (b + (i + k)) (drop k (drop i fs)))))
    (filter-marked_none (λ p. ltb (b + i) p) b (take i fs) (λ j l. not_below (b + i) (b + j) (omega arith)))
    ∙ ap (λ (ps : List ℕ). filter (λ p. ltb (b + i) p) ps ++ filter (λ p. ltb (b + i) p) (marked_pages (b + (i + k)) (drop k (drop i fs)))) empty
    ∙ filter-marked_all (λ p. ltb (b + i) p) (b + (i + k)) (drop k (drop i fs)) (λ j l. lt-ltb (b + i) (b + (i + k) + j) (omega arith)) in
    marked-parts b i k fs (replicate k true) (omega arith) (length-replicate k true)
    ∙ ap (λ (ps : List ℕ). marked_pages b (take i fs) ++ (ps ++ marked_pages (b + (i + k)) (drop k (drop i fs)))) (marked-true (b + i) k)
    ∙ sym (append_assoc (marked_pages b (take i fs)) (run (b + i) k) (marked_pages (b + (i + k)) (drop k (drop i fs))))
    ∙ ap (λ (ps : List ℕ). ps ++ run (b + i) k ++ marked_pages (b + (i + k)) (drop k (drop i fs))) (sym lower)
    ∙ ap (λ (ps : List ℕ). filter (λ p. ltb p (b + i)) (marked_pages b fs) ++ run (b + i) k ++ ps) (sym upper)

-- a run is left
pub marked-left : (b i k : ℕ) (fs : List Bool) → i + k ≤ length fs → marked_pages b (put_mid i k fs (replicate k false)) ≡ filter (λ p. not (is_in_run (b + i) k p)) (marked_pages b fs)
marked-left b i k fs h =
    let split = whole b i k fs h in
    let n : length (take i fs) ≡ i = omega (arith, length-take i fs) in
    let m : length (take k (drop i fs)) ≡ k = omega (arith, length-take k (drop i fs), length-drop i fs) in
    let kept : filter (λ p. not (is_in_run (b + i) k p)) (marked_pages b fs) ≡ marked_pages b (take i fs) ++ ([] ++ marked_pages (b + (i + k)) (drop k (drop i fs))) =
    ap (λ (ps : List ℕ). filter (λ p. not (is_in_run (b + i) k p)) ps) split
    ∙ filter-three (λ p. not (is_in_run (b + i) k p)) (marked_pages b (take i fs)) (marked_pages (b + i) (take k (drop i fs))) (marked_pages (b + (i + k)) (drop k (drop i fs)))
    ∙ ap (λ (ps : List ℕ). ps ++ (filter (λ p. not (is_in_run (b + i) k p)) (marked_pages (b + i) (take k (drop i fs))) ++ filter (λ p. not (is_in_run (b + i) k p)) (marked_pages (b + (i + k)) (drop k (drop i fs)))))
    (filter-marked_all (λ p. not (is_in_run (b + i) k p)) b (take i fs) (λ j l. ap not (out_of_run (b + i) k (b + j) (λ x y. omega arith))))
    ∙ ap (λ (ps : List ℕ). marked_pages b (take i fs) ++ (ps ++ filter (λ p. not (is_in_run (b + i) k p)) (marked_pages (b + (i + k)) (drop k (drop i fs)))))
    (filter-marked_none (λ p. not (is_in_run (b + i) k p)) (b + i) (take k (drop i fs)) (λ j l. ap not (in_run (b + i) k (b + i + j) (omega arith) (omega arith))))
    ∙ ap (λ (ps : List ℕ). marked_pages b (take i fs) ++ ps)
    (filter-marked_all (λ p. not (is_in_run (b + i) k p)) (b + (i + k)) (drop k (drop i fs)) (λ j l. ap not (out_of_run (b + i) k (b + (i + k) + j) (λ x y. omega arith)))) in
    marked-parts b i k fs (replicate k false) (omega arith) (length-replicate k false)
    ∙ ap (λ (ps : List ℕ). marked_pages b (take i fs) ++ (ps ++ marked_pages (b + (i + k)) (drop k (drop i fs)))) (marked-false (b + i) k)
    ∙ sym kept

-- whether a page is marked
pub marked_page : (b k page : ℕ) (fs : List Bool) → b + k ≡ page → k < length fs → get_or fs k false ≡ list_any (λ p. eqb p page) (marked_pages b fs)
marked_page b k page fs e h =
    ⊎_elim
    (λ (t : get_or fs k false ≡ true). t ∙ sym (list_any-marked_at (λ p. eqb p page) b fs k h t (eq-eqb (b + k) page e)))
    (λ (f : get_or fs k false ≡ false). f ∙ sym (list_any-marked_none (λ p. eqb p page) b fs (λ j l t.
    let same : b + j ≡ page = eqb-true (b + j) page t in
    ap (λ (i : ℕ). get_or fs i false) (let s : j ≡ k = omega arith in s) ∙ f)))
    (cases_Bool (get_or fs k false))

pub marked_no_page : (b page : ℕ) (fs : List Bool) → (page < b) ⊎ (b + length fs ≤ page) → list_any (λ p. eqb p page) (marked_pages b fs) ≡ false
marked_no_page b page fs o =
    list_any-marked_none (λ p. eqb p page) b fs (λ j l t.
    let same : b + j ≡ page = eqb-true (b + j) page t in
    absurd (⊎_elim (λ (s : page < b). let no : ⊥ = omega arith in no) (λ (s : b + length fs ≤ page). let no : ⊥ = omega arith in no) o))
