-- The hart whose turn it is is due no later than the others.
use Rattle.std.proofs.Common.{◌≡◌, ℕ, zero, suc, ◌≤◌, Bool, true, false, if◌then◌else◌, List, [], ◌∷◌, get_or, refl, arith, nat_le, Option, Some, None}
use Rattle.std.proofs.lemmas.Bool.{leb-true, leb-false}
use Rattle.machines.specs.Shortened.{Turn, before_others, next_turn}

le_of : (a b : ℕ) → Some a ≡ Some b → a ≡ b
le_of a b e = cc

least_split : (d : ℕ) (u t : Turn) (ds : List (Option ℕ)) → ((k v : ℕ) → get_or ds k None ≡ Some v → u.due ≤ v) → (b : Bool) → nat_le d u.due ≡ b → Some (if b then record { hart = 0; due = d } else record { hart = suc u.hart; due = u.due }) ≡ Some t
    → (k v : ℕ) → get_or (Some d ∷ ds) k None ≡ Some v → t.due ≤ v
least_split d u t ds below true le e zero v has = let same : d ≡ t.due = cc in let there = le_of d v has in omega arith
least_split d u t ds below true le e (suc k) v has = let same : d ≡ t.due = cc in let few = leb-true d u.due le in let more = below k v has in omega arith
least_split d u t ds below false le e zero v has = let same : u.due ≡ t.due = cc in let less = leb-false d u.due le in let there = le_of d v has in omega arith
least_split d u t ds below false le e (suc k) v has = let same : u.due ≡ t.due = cc in let more = below k v has in omega arith

least_step : (due : Option ℕ) (ds : List (Option ℕ)) (o : Option Turn) (t : Turn) → ((u : Turn) → o ≡ Some u → (k v : ℕ) → get_or ds k None ≡ Some v → u.due ≤ v) → (o ≡ None → (k v : ℕ) → get_or ds k None ≡ Some v → ⊥)
    → before_others due o ≡ Some t → (k v : ℕ) → get_or (due ∷ ds) k None ≡ Some v → t.due ≤ v
least_step None ds None t below none e k v has = cc
least_step None ds (Some u) t below none e zero v has = cc
least_step None ds (Some u) t below none e (suc k) v has = let same : u.due ≡ t.due = cc in let more = below u refl k v has in omega arith
least_step (Some d) ds None t below none e zero v has = let same : d ≡ t.due = cc in let there = le_of d v has in omega arith
least_step (Some d) ds None t below none e (suc k) v has = absurd (none refl k v has)
least_step (Some d) ds (Some u) t below none e k v has = least_split d u t ds (below u refl) (nat_le d u.due) refl e k v has

none_step : (due : Option ℕ) (o : Option Turn) → before_others due o ≡ None → (due ≡ None) × (o ≡ None)
none_step None None e = (refl, refl)
none_step None (Some t) e = absurd cc
none_step (Some due) None e = absurd cc
none_step (Some due) (Some t) e = absurd cc

none_has : (ds : List (Option ℕ)) → next_turn ds ≡ None → (k v : ℕ) → get_or ds k None ≡ Some v → ⊥
none_has [] e k v has = cc
none_has (due ∷ ds) e zero v has = let none = (none_step due (next_turn ds) e).0 in cc
none_has (due ∷ ds) e (suc k) v has = none_has ds (none_step due (next_turn ds) e).1 k v has

pub turn_least : (ds : List (Option ℕ)) (t : Turn) → next_turn ds ≡ Some t → (k v : ℕ) → get_or ds k None ≡ Some v → t.due ≤ v
turn_least [] t e = λ k v has. cc
turn_least (due ∷ ds) t e = least_step due ds (next_turn ds) t (λ u s. turn_least ds u s) (λ none. none_has ds none) e
