-- The least line of some that stand between two places.
use Rattle.std.proofs.Common.{◌≡◌, ℕ, zero, suc, ◌+◌, ◌*◌, ◌<◌, ◌≤◌, ◌⊎◌, inl, inr, ⊎_elim, Bool, true, false, List, [], ◌∷◌, ◌++◌, length, get_or, Option, Some, None, cond, nat_le, refl, sym, ap, ◌∙◌, subst, arith}
use Rattle.std.proofs.lemmas.Bool.{cases_lt}
use Rattle.std.proofs.lemmas.Bool.Decides.{nat_tests}
use Rattle.std.proofs.lemmas.List.{get_or-map}
use Rattle.line_index.specs.declared.endings.Ending.{Ending}
use Rattle.line_index.specs.declared.blocks.TheConstants.{BLOCK}
use Rattle.line_index.specs.Changes.{least}
use Rattle.line_index.specs.Endings.{IsBetween, IsLeast, lines_of}

lesser_by : (x y : ℕ) (t : Bool) → nat_le x y ≡ t → (k : ℕ) → cond t (Some x) (Some y) ≡ Some k → ((x ≡ k) × (x ≤ y)) ⊎ ((y ≡ k) × (y ≤ x))
lesser_by x y true is k e = let same : x ≡ k = cc in inl (same, grind (arith, nat_tests))
lesser_by x y false is k e = let same : y ≡ k = cc in inr (same, grind (arith, nat_tests))

lesser_is : (x y : ℕ) (t : Bool) → nat_le x y ≡ t → (k : ℕ) × (cond t (Some x) (Some y) ≡ Some k) × (k ≤ x) × (k ≤ y)
lesser_is x y true is = (x, refl, omega arith, grind (arith, nat_tests))
lesser_is x y false is = (y, refl, grind (arith, nat_tests), omega arith)

-- of some and others it is the lesser of both
least_of_both : (P Q R : ℕ → Type 0) (one other : Option ℕ) → IsLeast P one → IsLeast Q other → ((p : ℕ) → P p → R p) → ((p : ℕ) → Q p → R p) → ((p : ℕ) → R p → P p ⊎ Q p) → IsLeast R (least one other)
least_of_both P Q R None other one two left right split = record {
  there = λ k e. right k (two.there k e);
  first = λ j h. ⊎_elim
      (λ p. let found = one.first j p in let is = found.1 in let no : ⊥ = cc in absurd no)
      (λ q. two.first j q)
      (split j h);
}
least_of_both P Q R (Some x) None one two left right split = record {
  there = λ k e. left k (one.there k e);
  first = λ j h. ⊎_elim
      (λ p. one.first j p)
      (λ q. let found = two.first j q in let is = found.1 in let no : ⊥ = cc in absurd no)
      (split j h);
}
least_of_both P Q R (Some x) (Some y) one two left right split = record {
  there = λ k e. ⊎_elim
      (λ h. left k (one.there k (ap (λ n. Some n) h.0)))
      (λ h. right k (two.there k (ap (λ n. Some n) h.0)))
      (lesser_by x y (nat_le x y) refl k e);
  first = λ j h.
      let lesser = lesser_is x y (nat_le x y) refl in (
        lesser.0,
        lesser.1,
        ⊎_elim
            (λ p. let found = one.first j p in let is = found.1 in let same : x ≡ found.0 = cc in omega (arith, same, found.2, lesser.2))
            (λ q. let found = two.first j q in let is = found.1 in let same : y ≡ found.0 = cc in omega (arith, same, found.2, lesser.3))
            (split j h),
      );
}

-- ---- between two places

pub none_between : (list : List Ending) (start end : ℕ) → end ≤ start → IsLeast (IsBetween list start end) None
none_between list start end le = record {
  there = λ k e. let no : ⊥ = cc in absurd no;
  first = λ j h. absurd (omega (arith, h.1, h.2, le));
}

one_line : (x : ℕ) → IsLeast (λ j. x ≡ j) (Some x)
one_line x = record {
  there = λ k e. let same : x ≡ k = cc in same;
  first = λ j e. (x, refl, omega (arith, e));
}

-- with one more place
pub one_further : (list : List Ending) (start at : ℕ) (line : Option ℕ) (d : Ending) → start ≤ at → at < length list → IsLeast (IsBetween list start at) line → IsLeast (IsBetween list start (at + 1)) (least line (Some (get_or list at d).line))
one_further list start at line d le lt so_far =
    let read : get_or (lines_of list) at 0 ≡ (get_or list at d).line = get_or-map (λ (one : Ending). one.line) list at d 0 lt in
    least_of_both (IsBetween list start at) (λ j. (get_or list at d).line ≡ j) (IsBetween list start (at + 1)) line (Some (get_or list at d).line) so_far (one_line (get_or list at d).line)
    (λ p h. (h.0, h.1, omega (arith, h.2), h.3))
    (λ p e. (at, le, omega arith, read ∙ e))
    (λ p h. ⊎_elim
    (λ less. inl (h.0, h.1, less, h.3))
    (λ ge. let same : h.0 ≡ at = omega (arith, ge, h.2) in inr (sym read ∙ ap (λ k. get_or (lines_of list) k 0) (sym same) ∙ h.3))
    (cases_lt h.0 at))

-- with some more places
pub some_further : (list : List Ending) (start at end : ℕ) (line first : Option ℕ) → start ≤ at → at ≤ end → IsLeast (IsBetween list start at) line → IsLeast (IsBetween list at end) first → IsLeast (IsBetween list start end) (least line first)
some_further list start at end line first le more so_far block =
    least_of_both (IsBetween list start at) (IsBetween list at end) (IsBetween list start end) line first so_far block
    (λ p h. (h.0, h.1, omega (arith, h.2, more), h.3))
    (λ p h. (h.0, omega (arith, h.1, le), h.2, h.3))
    (λ p h. ⊎_elim (λ less. inl (h.0, h.1, less, h.3)) (λ ge. inr (h.0, ge, h.2, h.3)) (cases_lt h.0 at))

-- how far a walk from one place up to another has come
pub record Reached (list : List Ending) (start end at : ℕ) (line : Option ℕ) : Type 0 where
  pub above : start ≤ at
  pub inside : (at ≤ end) ⊎ (at ≡ start)
  pub so_far : IsLeast (IsBetween list start at) line

pub nothing_reached : (list : List Ending) (start end : ℕ) → Reached list start end start None
nothing_reached list start end = record {
  above = omega arith;
  inside = inr refl;
  so_far = none_between list start start (omega arith);
}

pub one_reached : (list : List Ending) (start end at : ℕ) (line : Option ℕ) (d : Ending) → at < end → end ≤ length list → Reached list start end at line → Reached list start end (at + 1) (least line (Some (get_or list at d).line))
one_reached list start end at line d lt bound before = record {
  above = omega (arith, before.above);
  inside = inl (omega (arith, lt));
  so_far = one_further list start at line d before.above (omega (arith, lt, bound)) before.so_far;
}

pub block_reached : (list : List Ending) (start end at more : ℕ) (line first : Option ℕ) → at + more ≤ end → IsLeast (IsBetween list at (at + more)) first → Reached list start end at line → Reached list start end (at + more) (least line first)
block_reached list start end at more line first le block before = record {
  above = omega (arith, before.above);
  inside = inl le;
  so_far = some_further list start at (at + more) line first before.above (omega arith) before.so_far block;
}

at_end : (list : List Ending) (start end at : ℕ) (line : Option ℕ) → end ≤ at → (at ≤ end) ⊎ (at ≡ start) → IsLeast (IsBetween list start at) line → IsLeast (IsBetween list start end) line
at_end list start end at line ge (inl le) so_far = let same : at ≡ end = omega (arith, ge, le) in subst (λ n. IsLeast (IsBetween list start n) line) same so_far
at_end list start end at line ge (inr same) so_far = record {
  there = λ k e. let h = so_far.there k e in absurd (omega (arith, h.1, h.2, same));
  first = λ j h. absurd (omega (arith, h.1, h.2, ge, same));
}

-- and all of them
pub all_reached : (list : List Ending) (start end at : ℕ) (line : Option ℕ) → end ≤ at → Reached list start end at line → IsLeast (IsBetween list start end) line
all_reached list start end at line ge before = at_end list start end at line ge before.inside before.so_far

-- ---- blocks

-- one more block
pub blocks_more : (list : List Ending) (firsts : List (Option ℕ)) (n : ℕ) (first : Option ℕ) → length firsts ≡ n
    → ((block : ℕ) → block < n → IsLeast (IsBetween list (block * BLOCK) (block * BLOCK + BLOCK)) (get_or firsts block None))
    → IsLeast (IsBetween list (n * BLOCK) (n * BLOCK + BLOCK)) first
    → (block : ℕ) → block < n + 1 → IsLeast (IsBetween list (block * BLOCK) (block * BLOCK + BLOCK)) (get_or (firsts ++ first ∷ []) block None)
blocks_more list firsts n first many each here block lt =
    ⊎_elim
    (λ less. subst (IsLeast (IsBetween list (block * BLOCK) (block * BLOCK + BLOCK))) (sym (in_front firsts block first (omega (arith, less, many)))) (each block less))
    (λ ge.
    let same : n ≡ block = omega (arith, lt, ge) in
    subst (λ b. IsLeast (IsBetween list (b * BLOCK) (b * BLOCK + BLOCK)) (get_or (firsts ++ first ∷ []) b None)) same
    (subst (λ (line : Option ℕ). IsLeast (IsBetween list (n * BLOCK) (n * BLOCK + BLOCK)) line) (sym (at_last firsts n first many)) here))
    (cases_lt block n)
  where
    in_front : (firsts : List (Option ℕ)) (block : ℕ) (first : Option ℕ) → block < length firsts → get_or (firsts ++ first ∷ []) block None ≡ get_or firsts block None
    in_front [] block first lt = absurd (omega arith)
    in_front (x ∷ firsts) zero first lt = refl
    in_front (x ∷ firsts) (suc block) first lt = in_front firsts block first (omega arith)

    at_last : (firsts : List (Option ℕ)) (n : ℕ) (first : Option ℕ) → length firsts ≡ n → get_or (firsts ++ first ∷ []) n None ≡ first
    at_last [] zero first e = refl
    at_last [] (suc n) first e = absurd (omega (arith, e))
    at_last (x ∷ firsts) zero first e = absurd (omega (arith, e))
    at_last (x ∷ firsts) (suc n) first e = at_last firsts n first (omega (arith, e))
