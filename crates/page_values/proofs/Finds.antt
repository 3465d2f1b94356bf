-- A search through a list, one element after the other.
use Rattle.std.proofs.Common.{◌≡◌, ℕ, suc, ◌+◌, ◌<◌, ◌≤◌, Bool, true, false, cond, List, length, drop, get_or, find, Some, None, sym, ap, ◌∙◌, drop-cons, arith}
use Rattle.std.proofs.lemmas.List.{drop_all}

module _ {X : Type 0} (p : X → Bool) (xs : List X) (i : ℕ) where
  -- what is found in the rest is found in the whole
  abbrev pub IsAhead : Type 0
  IsAhead = find p (drop i xs) ≡ find p xs

  next : (x : X) → i < length xs → x ≡ get_or xs i x → find p (drop i xs) ≡ cond (p x) (Some x) (find p (drop (i + 1) xs))
  next x lt at =
      let after : suc i ≡ i + 1 = omega arith in
      ap (find p) (drop-cons xs i x lt)
      ∙ ap (λ (k : ℕ). cond (p (get_or xs i x)) (Some (get_or xs i x)) (find p (drop k xs))) after
      ∙ ap (λ (y : X). cond (p y) (Some y) (find p (drop (i + 1) xs))) (sym at)

  pub found_here : (x : X) → i < length xs → x ≡ get_or xs i x → p x ≡ true → IsAhead → Some x ≡ find p xs
  found_here x lt at is ahead = sym (ap (λ (b : Bool). cond b (Some x) (find p (drop (i + 1) xs))) is) ∙ sym (next x lt at) ∙ ahead

  pub still_ahead : (x : X) → i < length xs → x ≡ get_or xs i x → p x ≡ false → IsAhead → find p (drop (i + 1) xs) ≡ find p xs
  still_ahead x lt at is ahead = sym (ap (λ (b : Bool). cond b (Some x) (find p (drop (i + 1) xs))) is) ∙ sym (next x lt at) ∙ ahead

  pub found_nowhere : length xs ≤ i → IsAhead → None ≡ find p xs
  found_nowhere le ahead = sym (ap (find p) (drop_all i xs le)) ∙ ahead
