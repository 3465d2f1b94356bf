-- Of each path one location.
use Rattle.std.proofs.Common.{◌≡◌, ℕ, ◌+◌, ◌-◌, ◌<◌, ◌≤◌, ⊎_elim, Bool, true, false, not, get_or, List, [], ◌∷◌, ◌++◌, length, refl, sym, ap, ◌∙◌, subst, arith}
use Rattle.std.specs.Prelude.{bytes_eq}
use Rattle.std.proofs.lemmas.Bool.{cases_lt}
use Rattle.std.proofs.lemmas.List.{get_or-map}
use Rattle.std.proofs.lemmas.Slice.Eq.{bytes_eq-Decides}
use Rattle.std.proofs.lemmas.List.Elements.{Contains-append_left, Contains-push}
use Rattle.line_remap.specs.declared.location.Location.{Location}
use Rattle.line_regions.specs.Lines.{HasPathOf, path_at}

-- one more location that is a head
pub head_pushed : (locations : List Location) (list new : List ℕ) (n : ℕ) → ((k : ℕ) → k < n → HasPathOf locations list k) → new ≡ list ++ n ∷ [] → (k : ℕ) → k < n + 1 → HasPathOf locations new k
head_pushed locations list new n before made k lt = subst (λ (heads : List ℕ). HasPathOf locations heads k) (sym made) (⊎_elim old here (cases_lt k n))
  where
    old : k < n → HasPathOf locations (list ++ n ∷ []) k
    old less = let one = before k less in (one.0, Contains-append_left list (n ∷ []) one.0 one.1, one.2)

    here : n ≤ k → HasPathOf locations (list ++ n ∷ []) k
    here le = let same : n ≡ k = omega arith in (n, Contains-push list n, ap (path_at locations) same)

-- one more location with the path of the location before it
pub head_kept : (locations : List Location) (list : List ℕ) (n : ℕ) → ((k : ℕ) → k < n → HasPathOf locations list k) → (0 < n) × (path_at locations (n - 1) ≡ path_at locations n) → (k : ℕ) → k < n + 1 → HasPathOf locations list k
head_kept locations list n so_far (some, same) k lt = ⊎_elim (so_far k) here (cases_lt k n)
  where
    here : n ≤ k → HasPathOf locations list k
    here le =
        let one = so_far (n - 1) (omega (arith, some)) in
        let at : n ≡ k = omega (arith, lt, le) in
        (one.0, one.1, one.2 ∙ same ∙ ap (path_at locations) at)

at_path : (locations : List Location) (k : ℕ) (d : Location) → k < length locations → path_at locations k ≡ (get_or locations k d).path.now
at_path locations k d lt = get_or-map (λ (location : Location). location.path.now) locations k d [] lt

-- two locations whose paths do not differ
pub same_paths : (locations : List Location) (i j : ℕ) (d e : Location) (differ : Bool) → i < length locations → j < length locations → differ ≡ not (bytes_eq (get_or locations i d).path.now (get_or locations j e).path.now) → differ ≡ false → path_at locations i ≡ path_at locations j
same_paths locations i j d e differ lt lt' is equal =
    at_path locations i d lt
    ∙ (bytes_eq-Decides (get_or locations i d).path.now (get_or locations j e).path.now).0 (true_from (bytes_eq (get_or locations i d).path.now (get_or locations j e).path.now) (sym is ∙ equal))
    ∙ sym (at_path locations j e lt')
  where
    true_from : (t : Bool) → not t ≡ false → t ≡ true
    true_from true e = refl
    true_from false e = absurd cc

-- and two with the same path
pub alike_paths : (locations : List Location) (i j : ℕ) (d e : Location) (differ : Bool) → i < length locations → j < length locations → differ ≡ not (bytes_eq (get_or locations i d).path.now (get_or locations j e).path.now) → path_at locations i ≡ path_at locations j → differ ≡ false
alike_paths locations i j d e differ lt lt' is same =
    is ∙ ap not ((bytes_eq-Decides (get_or locations i d).path.now (get_or locations j e).path.now).1 (sym (at_path locations i d lt) ∙ same ∙ at_path locations j e lt'))
