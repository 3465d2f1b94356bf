-- The first items of a list, with one more.
use Rattle.std.proofs.Common.{◌≡◌, ℕ, zero, suc, ◌≤◌, ◌<◌, Bool, true, false, if◌then◌else◌, List, [], ◌∷◌, ◌++◌, length, take, slice_get, refl, sym, ap, ap₂, ◌∙◌, Option, Some, unwrap_or, nat_lt, ltb-true, ltb-false, arith, ◌⊎◌, inl, inr}
use Rattle.std.proofs.lemmas.List.{take_all, take-append-le, length-take-le}
use Rattle.std.proofs.lemmas.Option.{slice_get_past}
use Rattle.hart_turns.specs.Firsts.{Held, held, with_item}

one_longer : {T : Type 0} (xs : List T) (x : T) → length (xs ++ x ∷ []) ≡ suc (length xs)
one_longer [] x = refl
one_longer (y ∷ xs) x = ap suc (one_longer xs x)

-- the first that is left out
left_out : {T : Type 0} (xs : List T) (x : T) (room : ℕ) → room ≤ length xs → Some (unwrap_or (slice_get xs room) x) ≡ slice_get (xs ++ x ∷ []) room
left_out [] x zero full = refl
left_out [] x (suc room) full = absurd (omega (arith, full))
left_out (y ∷ xs) x zero full = refl
left_out (y ∷ xs) x (suc room) full = left_out xs x room (omega (arith, full))

module _ {T : Type 0} (all : List T) (x : T) (room : ℕ) where
  abbrev made_of : (is : List T) (o : Option T) → Held T
  made_of is o = record { items = is; room = room; left_out = o }

  with_room : length all < room → record (held room all) { items = take room all ++ x ∷ [] } ≡ held room (all ++ x ∷ [])
  with_room some =
      let longer = one_longer all x in
      let kept : take room all ++ x ∷ [] ≡ take room (all ++ x ∷ []) =
      ap (λ (is : List T). is ++ x ∷ []) (take_all room all (omega (arith, some))) ∙ sym (take_all room (all ++ x ∷ []) (omega (arith, some, longer))) in
      let none : slice_get all room ≡ slice_get (all ++ x ∷ []) room =
      slice_get_past all room (omega (arith, some)) ∙ sym (slice_get_past (all ++ x ∷ []) room (omega (arith, some, longer))) in
      ap₂ made_of kept none

  without : room ≤ length all → record (held room all) { left_out = Some (unwrap_or (slice_get all room) x) } ≡ held room (all ++ x ∷ [])
  without full = ap₂ made_of (sym (take-append-le room all (x ∷ []) full)) (left_out all x room full)

  short : length (take room all) < room → (length all < room) ⊎ (room ≤ length all) → length all < room
  short less (inl is) = is
  short less (inr full) = let all_of = length-take-le room all full in absurd (omega (arith, less, all_of))

  long : room ≤ length (take room all) → (length all < room) ⊎ (room ≤ length all) → room ≤ length all
  long more (inl is) = let same = ap length (take_all room all (omega (arith, is))) in absurd (omega (arith, more, same, is))
  long more (inr full) = full

  either : (b : Bool) → nat_lt (length all) room ≡ b → (length all < room) ⊎ (room ≤ length all)
  either true e = inl (ltb-true _ _ e)
  either false e = inr (ltb-false _ _ e)

  pub holds_more : with_item x (held room all) ≡ held room (all ++ x ∷ [])
  holds_more = by (nat_lt (length (take room all)) room) refl
    where
      by : (b : Bool) → nat_lt (length (take room all)) room ≡ b
          → (if b then record (held room all) { items = take room all ++ x ∷ [] } else record (held room all) { left_out = Some (unwrap_or (slice_get all room) x) }) ≡ held room (all ++ x ∷ [])
      by true e = with_room (short (ltb-true _ _ e) (either (nat_lt (length all) room) refl))
      by false e = without (long (ltb-false _ _ e) (either (nat_lt (length all) room) refl))
