-- The part that a fault names is one of the parts.
use Rattle.std.proofs.Common.{◌≡◌, ℕ, suc, ◌+◌, ◌<◌, inl, inr, ⊎_elim, Bool, true, false, if◌then◌else◌, List, [], ◌∷◌, map, length, Option, Some, None, option_map, Result, Err, refl, ap, subst, arith}
use Rattle.std.proofs.lemmas.List.Sorted.{IsPermutation-sym}
use Rattle.profile_book.specs.declared.profile.Profile.{Profile}
use Rattle.profile_join.specs.Order.{are_alike}
use Rattle.profile_join.specs.Parts.{tag, tagged, first_alike, in_order, twice, twice_at, IsPartFault, IsJoin}
use Rattle.profile_join.specs.declared.fault.PartFault.{PartFault}
use Rattle.profile_join.specs.declared.fault.JoinError.{JoinError}
use Rattle.profile_join.specs.declared.fault.JoinError.TheVariants.{Unlike}
use Rattle.profile_join.specs.declared.tagged.Tagged.{Tagged}
use Rattle.profile_join.proofs.Among.{Among, among_moved, among_either, among_mapped}
use Rattle.profile_join.proofs.InOrder.{sorted_moved}

found_among : (ts : List Tagged) (t : Tagged) → first_alike ts ≡ Some t → Among t ts
found_among [] t e = absurd cc
found_among (a ∷ []) t e = absurd cc
found_among (a ∷ b ∷ rest) t e = by (are_alike a b) e (found_among (b ∷ rest) t)
  where
    by : (c : Bool) → (if c then Some b else first_alike (b ∷ rest)) ≡ Some t → (first_alike (b ∷ rest) ≡ Some t → Among t (b ∷ rest)) → Among t (a ∷ b ∷ rest)
    by true e more = let same : b ≡ t = cc in inr (inl same)
    by false e more = inr (more e)

numbered_below : (n : ℕ) (parts : List Profile) (t : Tagged) → Among t (tagged n parts) → t.part < n + length parts
numbered_below n [] t h = absurd h
numbered_below n (p ∷ parts) t h = ⊎_elim here (λ m. there (numbered_below (suc n) parts t m)) (among_either t (map (tag n) p.summaries) (tagged (suc n) parts) h)
  where
    here : Among t (map (tag n) p.summaries) → t.part < n + length (p ∷ parts)
    here m =
        let of = among_mapped (tag n) t p.summaries m in
        let is : n ≡ t.part = ap (λ (u : Tagged). u.part) of.2 in
        omega (arith, is)

    there : t.part < suc n + length parts → t.part < n + length (p ∷ parts)
    there more = omega (arith, more)

twice_within : (parts : List Profile) (o : Option Tagged) (fault : PartFault) → first_alike (in_order parts) ≡ o → option_map twice_at o ≡ Some fault → fault.part < length parts
unfolding in_order
twice_within parts None fault found e = absurd cc
twice_within parts (Some t) fault found e =
    let same : twice_at t ≡ fault = cc in
    let among = found_among (in_order parts) t found in
    let below = numbered_below 0 parts t (among_moved (in_order parts) (tagged 0 parts) t (IsPermutation-sym (tagged 0 parts) (in_order parts) (sorted_moved (tagged 0 parts))) among) in
    let here : t.part < length parts = omega (arith, below) in
    subst (λ (f : PartFault). f.part < length parts) same here

fault_within : (parts : List Profile) (fault : PartFault) → IsPartFault parts (Some fault) → fault.part < length parts
unfolding twice
fault_within parts fault (inl unlike) = unlike.2
fault_within parts fault (inr both) = twice_within parts (first_alike (in_order parts)) fault refl both.1

pub within : (parts : List Profile) (result : Result Profile JoinError) → IsJoin parts result → (fault : PartFault) → result ≡ Err (Unlike fault) → fault.part < length parts
within parts result is fault e = fault_within parts fault (subst (IsJoin parts) e is)
