-- Steps of the loops that mark where lines begin and end.
use Rattle.std.proofs.Common.{rules, ◌≡◌, ℕ, zero, suc, ◌+◌, ◌≤◌, ◌<◌, ⊎_elim, Bool, true, false, not, ◌&&◌, List, [], ◌∷◌, ◌++◌, map, length, drop, Option, Some, None, cond, get_or, refl, sym, ap, ap₂, ◌∙◌, arith, append_assoc, All, IfSome, IfOk, Result, Ok, Err}
use Rattle.std.specs.List.{filter}
use Rattle.std.proofs.lemmas.Bool.{cases_lt, eq-eqb}
use Rattle.std.proofs.lemmas.Bool.Decides.{nat_tests}
use Rattle.std.proofs.lemmas.List.{append-nil, drop_more, get_or-map, get_or_past, length-map}
use Rattle.std.proofs.lemmas.Option.{slice_get-get_or}
use Rattle.std.proofs.lemmas.List.Elements.{All-cons, All-head, All-tail}
use Rattle.coz_types.specs.declared.LineId.{LineId}
use Rattle.line_index.specs.declared.changes.Change.{Change}
use Rattle.line_index.specs.declared.changes.LineChange.{LineChange}
use Rattle.line_index.specs.declared.lists.Mark.{Mark}
use Rattle.line_index.specs.Changes.{place_of, change_of, changes_of}
use Rattle.line_index.specs.Keys.{is_at, starts, IsBelow, AreStarts}
use Rattle.line_index.specs.Lists.{is_of, addresses_of}
use Rattle.line_index.specs.Turns.{is_different, turns}

nothing_ahead : (cs : List Change) (i : ℕ) → length cs ≤ i → drop i cs ≡ []
nothing_ahead [] zero le = refl
nothing_ahead [] (suc i) le = refl
nothing_ahead (c ∷ cs) zero le = absurd (omega arith)
nothing_ahead (c ∷ cs) (suc i) le = nothing_ahead cs i (omega arith)

-- a change of lines is the change that it is seen as
line_change_at : (cs : List LineChange) (i : ℕ) (d : LineChange) → i < length cs → get_or (changes_of cs) i (change_of d) ≡ change_of (get_or cs i d)
line_change_at cs i d lt = get_or-map change_of cs i d (change_of d) lt

-- what is marked for each line, and what is still ahead
abbrev pub IsMarked : (ℕ → Option ℕ → List Change → List ℕ) → List LineChange → List Mark → Option LineId → ℕ → Type 0
IsMarked f cs marks before i = (k : ℕ) → addresses_of k marks ++ f k (place_of before) (drop i (changes_of cs)) ≡ f k None (changes_of cs)

module _ (f : ℕ → Option ℕ → List Change → List ℕ) (g : ℕ → Option ℕ → Change → List ℕ) (steps : (k : ℕ) (before : Option ℕ) (c : Change) (cs : List Change) → f k before (c ∷ cs) ≡ g k before c ++ f k c.position cs) (ends : (k : ℕ) (before : Option ℕ) → f k before [] ≡ []) where
  -- one change is marked
  marked : (cs : List LineChange) (marks after : List Mark) (before : Option LineId) (i : ℕ) (d : LineChange) → i < length cs → ((k : ℕ) → addresses_of k after ≡ addresses_of k marks ++ g k (place_of before) (change_of (get_or cs i d)))
      → IsMarked f cs marks before i → IsMarked f cs after (get_or cs i d).line (i + 1)
  marked cs marks after before i d lt added so_far k =
      let c : Change = change_of (get_or cs i d) in
      let rest : List Change = drop (i + 1) (changes_of cs) in
      let front : drop i (changes_of cs) ≡ c ∷ rest = drop_more (changes_of cs) i (change_of d) (omega (arith, length-map cs change_of)) ∙ ap (λ (x : Change). x ∷ rest) (line_change_at cs i d lt) in
      ap (λ xs. xs ++ f k c.position rest) (added k)
      ∙ append_assoc (addresses_of k marks) (g k (place_of before) c) (f k c.position rest)
      ∙ ap (λ xs. addresses_of k marks ++ xs) (sym (ap (f k (place_of before)) front ∙ steps k (place_of before) c rest))
      ∙ so_far k

  -- and all are
  all_marked : (cs : List LineChange) (marks : List Mark) (before : Option LineId) (i : ℕ) → length cs ≤ i → IsMarked f cs marks before i → (k : ℕ) → addresses_of k marks ≡ f k None (changes_of cs)
  all_marked cs marks before i le so_far k =
      let none : f k (place_of before) (drop i (changes_of cs)) ≡ [] = ap (f k (place_of before)) (nothing_ahead (changes_of cs) i (omega (arith, length-map cs change_of))) ∙ ends k (place_of before) in
      sym (append-nil (addresses_of k marks)) ∙ ap (λ xs. addresses_of k marks ++ xs) (sym none) ∙ so_far k

abbrev start : ℕ → Option ℕ → Change → List ℕ
start k before c = cond (is_at k c.position && not (is_at k before)) (c.address ∷ []) []

pub start_marked : (cs : List LineChange) (marks after : List Mark) (before : Option LineId) (i : ℕ) (d : LineChange) → i < length cs
    → ((k : ℕ) → addresses_of k after ≡ addresses_of k marks ++ cond (is_at k (place_of (get_or cs i d).line) && not (is_at k (place_of before))) ((get_or cs i d).address ∷ []) [])
    → IsMarked starts cs marks before i → IsMarked starts cs after (get_or cs i d).line (i + 1)
start_marked cs marks after before i d lt added so_far = marked starts start (λ k before c cs. refl) (λ k before. refl) cs marks after before i d lt added so_far

pub starts_marked : (cs : List LineChange) (marks : List Mark) (before : Option LineId) (i : ℕ) → length cs ≤ i → IsMarked starts cs marks before i → (k : ℕ) → addresses_of k marks ≡ starts k None (changes_of cs)
starts_marked cs marks before i le so_far = all_marked starts start (λ k before c cs. refl) (λ k before. refl) cs marks before i le so_far

abbrev turn : ℕ → Option ℕ → Change → List ℕ
turn k before c = cond (is_different (is_at k before) (is_at k c.position)) (c.address ∷ []) []

pub turn_marked : (cs : List LineChange) (marks after : List Mark) (before : Option LineId) (i : ℕ) (d : LineChange) → i < length cs
    → ((k : ℕ) → addresses_of k after ≡ addresses_of k marks ++ cond (is_different (is_at k (place_of before)) (is_at k (place_of (get_or cs i d).line))) ((get_or cs i d).address ∷ []) [])
    → IsMarked turns cs marks before i → IsMarked turns cs after (get_or cs i d).line (i + 1)
turn_marked cs marks after before i d lt added so_far = marked turns turn (λ k before c cs. refl) (λ k before. refl) cs marks after before i d lt added so_far

pub turns_marked : (cs : List LineChange) (marks : List Mark) (before : Option LineId) (i : ℕ) → length cs ≤ i → IsMarked turns cs marks before i → (k : ℕ) → addresses_of k marks ≡ turns k None (changes_of cs)
turns_marked cs marks before i le so_far = all_marked turns turn (λ k before c cs. refl) (λ k before. refl) cs marks before i le so_far

-- ---- no line past the last is marked

not_at : (count k : ℕ) (p : Option ℕ) → IfSome p (λ j. j < count) → count ≤ k → is_at k p ≡ false
not_at count k None below le = refl
not_at count k (Some j) below le = let lt : j < count = below in grind (arith, nat_tests)

starts_past : (count k : ℕ) (x : Option ℕ) (cs : List Change) → All (IsBelow count) cs → count ≤ k → starts k x cs ≡ []
starts_past count k x [] all le = refl
starts_past count k x (c ∷ cs) all le =
    ap (λ t. cond (t && not (is_at k x)) (c.address ∷ []) [] ++ starts k c.position cs) (not_at count k c.position (All-head (IsBelow count) c cs all) le)
    ∙ starts_past count k c.position cs (All-tail (IsBelow count) c cs all) le

turns_past : (count k : ℕ) (x : Option ℕ) (cs : List Change) → All (IsBelow count) cs → IfSome x (λ j. j < count) → count ≤ k → turns k x cs ≡ []
turns_past count k x [] all below le = refl
turns_past count k x (c ∷ cs) all below le =
    let here : IsBelow count c = All-head (IsBelow count) c cs all in
    ap₂ (λ s t. cond (is_different s t) (c.address ∷ []) [] ++ turns k c.position cs) (not_at count k x below le) (not_at count k c.position here le)
    ∙ turns_past count k c.position cs (All-tail (IsBelow count) c cs all) here le

of_head : (k : ℕ) (m : Mark) (ms : List Mark) (t : Bool) → is_of k m ≡ t → addresses_of k (m ∷ ms) ≡ cond t (m.address ∷ addresses_of k ms) (addresses_of k ms)
of_head k m ms true e = ap (λ (t : Bool). map (λ (mark : Mark). mark.address) (cond t (m ∷ filter (is_of k) ms) (filter (is_of k) ms))) e
of_head k m ms false e = ap (λ (t : Bool). map (λ (mark : Mark). mark.address) (cond t (m ∷ filter (is_of k) ms) (filter (is_of k) ms))) e

marks_below : (count : ℕ) (marks : List Mark) → ((k : ℕ) → count ≤ k → addresses_of k marks ≡ []) → All (λ (mark : Mark). mark.line < count) marks
marks_below count [] none = search rules
marks_below count (m ∷ ms) none =
    let below : m.line < count =
    ⊎_elim (λ lt. lt) (λ le. let no : m.address ∷ addresses_of m.line ms ≡ [] = sym (of_head m.line m ms true (eq-eqb m.line m.line refl)) ∙ none m.line le in absurd (omega (arith, ap {B = ℕ} length no))) (cases_lt m.line count) in
    All-cons (λ (mark : Mark). mark.line < count) m ms below
    (marks_below count ms (λ k le. let differs : is_of k m ≡ false = grind (arith, nat_tests) in sym (of_head k m ms false differs) ∙ none k le))

pub starts_below : (count : ℕ) (cs : List Change) (marks : List Mark) → All (IsBelow count) cs → ((k : ℕ) → addresses_of k marks ≡ starts k None cs) → All (λ (mark : Mark). mark.line < count) marks
starts_below count cs marks all each = marks_below count marks (λ k le. each k ∙ starts_past count k None cs all le)

pub turns_below : (count : ℕ) (cs : List Change) (marks : List Mark) → All (IsBelow count) cs → ((k : ℕ) → addresses_of k marks ≡ turns k None cs) → All (λ (mark : Mark). mark.line < count) marks
turns_below count cs marks all each = marks_below count marks (λ k le. each k ∙ turns_past count k None cs all tt le)

-- the lists of all lines, and nothing for others
turns_all : (count : ℕ) (cs : List Change) (lists : List (List ℕ)) → All (IsBelow count) cs → length lists ≡ count → ((k : ℕ) → k < count → get_or lists k [] ≡ turns k None cs) → (k : ℕ) → get_or lists k [] ≡ turns k None cs
turns_all count cs lists all many each k =
    ⊎_elim (λ lt. each k lt) (λ le. get_or_past lists k [] (omega (arith, many)) ∙ sym (turns_past count k None cs all tt le)) (cases_lt k count)

if_both : {X E : Type 0} (r : Result X E) (P Q S : X → Type 0) → ((x : X) → P x → Q x → S x) → IfOk r P → IfOk r Q → IfOk r S
if_both (Ok x) P Q S f p q = f x p q
if_both (Err e) P Q S f p q = tt

pub entries_made : {E : Type 0} (r : Result (List (List ℕ)) E) (count : ℕ) (cs : List Change) (marks : List Mark) → ((k : ℕ) → addresses_of k marks ≡ starts k None cs)
    → IfOk r (λ (lists : List (List ℕ)). length lists ≡ count) → IfOk r (λ (lists : List (List ℕ)). (k : ℕ) → k < count → get_or lists k [] ≡ addresses_of k marks) → IfOk r (λ (lists : List (List ℕ)). AreStarts count cs lists)
entries_made r count cs marks marked many each =
    if_both r (λ (lists : List (List ℕ)). length lists ≡ count) (λ (lists : List (List ℕ)). (k : ℕ) → k < count → get_or lists k [] ≡ addresses_of k marks) (λ (lists : List (List ℕ)). AreStarts count cs lists)
    (λ lists size lists_are. record { as_many = size; each = λ k lt. slice_get-get_or lists k [] (omega (arith, size)) ∙ ap (λ (list : List ℕ). Some list) (lists_are k lt ∙ marked k) })
    many each

pub turns_made : {E : Type 0} (r : Result (List (List ℕ)) E) (count : ℕ) (cs : List Change) (marks : List Mark) → All (IsBelow count) cs → ((k : ℕ) → addresses_of k marks ≡ turns k None cs)
    → IfOk r (λ (lists : List (List ℕ)). length lists ≡ count) → IfOk r (λ (lists : List (List ℕ)). (k : ℕ) → k < count → get_or lists k [] ≡ addresses_of k marks) → IfOk r (λ (lists : List (List ℕ)). (k : ℕ) → get_or lists k [] ≡ turns k None cs)
turns_made r count cs marks below marked many each =
    if_both r (λ (lists : List (List ℕ)). length lists ≡ count) (λ (lists : List (List ℕ)). (k : ℕ) → k < count → get_or lists k [] ≡ addresses_of k marks) (λ (lists : List (List ℕ)). (k : ℕ) → get_or lists k [] ≡ turns k None cs)
    (λ lists size lists_are. turns_all count cs lists below size (λ k lt. lists_are k lt ∙ marked k))
    many each
