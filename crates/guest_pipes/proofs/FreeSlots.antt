-- The lowest free number, and the lowest pipe that isn't in use.
use Rattle.std.proofs.Common.{ℕ, ◌≡◌, ◌≤◌, ◌<◌, ◌+◌, Bool, true, false, not, ◌&&◌, List, [], ◌∷◌, length, get_or, Option, Some, None, is_none, count_by, cond, sym, ap, subst, ◌∙◌, arith, leb-true}
use Rattle.std.specs.List.{position_or_len, range_with_len}
use Rattle.std.proofs.lemmas.List.Sums.{position_or_len_is, passes_at_first, sum_by-set}
use Rattle.std.proofs.lemmas.List.FromFn.{length-range_with_len, get_or-range_with_len}
use Rattle.guest_pipes.specs.declared.ends.End.{End}
use Rattle.guest_pipes.specs.Pipes.{PipeMap, is_used, free_pipe, free_slot, with_end, can_make}

not_false : (b : Bool) → b ≡ true → not b ≡ false
not_false b e = ap not e

not_true : (b : Bool) → b ≡ false → not b ≡ true
not_true b e = ap not e

lowest : (p : ℕ → Bool) (n i : ℕ) → i ≤ n → ((k : ℕ) → k < i → p k ≡ false) → (i < n → p i ≡ true) → position_or_len p (range_with_len 0 n) ≡ i
lowest p n i within before at =
    position_or_len_is p (range_with_len 0 n) i 0 (let l = length-range_with_len 0 n in omega arith)
    (λ k below. ap p (get_or-range_with_len 0 n k 0 (omega arith) ∙ (let e : 0 + k ≡ k = omega arith in e)) ∙ before k below)
    (λ below. let l = length-range_with_len 0 n in let less : i < n = omega arith in ap p (get_or-range_with_len 0 n i 0 less ∙ (let e : 0 + i ≡ i = omega arith in e)) ∙ at less)

pub free_pipe-is : (ends : List (Option End)) (i : ℕ) → i ≤ 64 → ((k : ℕ) → k < i → is_used ends k ≡ true) → (i < 64 → is_used ends i ≡ false) → i ≡ free_pipe ends
unfolding free_pipe
free_pipe-is ends i within before at =
    sym (lowest (λ pipe. not (is_used ends pipe)) 64 i within (λ k below. not_false (is_used ends k) (before k below)) (λ below. not_true (is_used ends i) (at below)))

pub free_slot-is : (ends : List (Option End)) (i : ℕ) → i ≤ length ends → ((k : ℕ) → k < i → is_none (get_or ends k None) ≡ false) → (i < length ends → is_none (get_or ends i None) ≡ true) → i ≡ free_slot ends
free_slot-is ends i within before at = sym (position_or_len_is is_none ends i None within before at)

pub some_free : (ends : List (Option End)) → 1 ≤ count_by is_none ends → free_slot ends < length ends
some_free [] some = absurd (omega arith)
some_free (None ∷ xs) some = omega arith
some_free (Some e ∷ xs) some = let rest : free_slot xs < length xs = some_free xs (omega arith) in omega arith

-- one fewer is free once an end is opened
pub one_less : (ends : List (Option End)) (e : End) → free_slot ends < length ends → count_by is_none (with_end e ends) + 1 ≡ count_by is_none ends
one_less ends e within =
    let one : count_by is_none (with_end e ends) + cond (is_none (get_or ends (free_slot ends) None)) 1 0 ≡ count_by is_none ends + 0 = sum_by-set (λ (x : Option End). cond (is_none x) 1 0) ends (free_slot ends) (Some e) None within in
    let here : cond (is_none (get_or ends (free_slot ends) None)) 1 0 ≡ 1 = ap (λ (b : Bool). cond b 1 0) (passes_at_first is_none ends None within) in
    let both : count_by is_none (with_end e ends) + 1 ≡ count_by is_none ends + 0 = subst (λ (n : ℕ). count_by is_none (with_end e ends) + n ≡ count_by is_none ends + 0) here one in
    omega arith

right_one : (a b : Bool) → (a && b) ≡ true → b ≡ true
right_one true b e = e
right_one false b e = absurd (let no : false ≡ true = e in cc)

pub two_free : (p : PipeMap) → can_make p ≡ true → 2 ≤ count_by is_none p.ends
two_free p e = leb-true 2 (count_by is_none p.ends) (right_one _ _ e)
