-- Profiles of lists of lines are joined exactly if no line is in two lists.
use Rattle.std.proofs.Common.{◌≡◌, ℕ, ◌<◌, inl, inr, List, [], ◌∷◌, map, get_or, All, Option, Some, None, option_map, Result, Ok, Err, refl, sym, ap, subst, ◌∙◌, arith}
use Rattle.std.specs.List.{AllByRecursion}
use Rattle.std.specs.List.Sorted.{IsStrictlySortedBy}
use Rattle.std.specs.Ordering.{nat_cmp}
use Rattle.std.proofs.lemmas.List.Elements.{recursion_from_All}
use Rattle.coz_types.specs.Labels.{Text}
use Rattle.coz_types.specs.declared.record.Summary.{Summary}
use Rattle.profile_book.specs.declared.profile.Profile.{Profile}
use Rattle.profile_join.specs.Parts.{IsKind, IsUnlike, IsJoin, head_of, first_alike, in_order, twice, twice_at}
use Rattle.profile_join.specs.declared.fault.PartFault.{PartFault}
use Rattle.profile_join.specs.declared.fault.PartKind.TheVariants.{Budget, Points, Speedups, Baseline, Twice}
use Rattle.profile_join.specs.declared.fault.JoinError.{JoinError}
use Rattle.profile_join.specs.declared.fault.JoinError.TheVariants.{Unlike, Memory}
use Rattle.profile_join.specs.declared.tagged.Tagged.{Tagged}
use Rattle.profile_shards.specs.Shards.{AreBlocks, AreLines, AreTogether, profile_at, IsTwice, IsShardsJoin, ShardsJoin}
use Rattle.profile_shards.proofs.Held.{Right}
use Rattle.profile_shards.proofs.Twice.{first_is_twice, none_is_twice}
use Rattle.profile_shards.proofs.Fine.{fine}
use Rattle.profile_shards.proofs.Whole.{joined_is}

right_of : (count : ℕ) (lines : List ℕ) → AreLines count lines → Right count lines
right_of count lines are = record { rise = are.rise; below = recursion_from_All (λ line. line < count) lines are.below }

rights_of : (count : ℕ) (lists : List (List ℕ)) → AllByRecursion (AreLines count) lists → AllByRecursion (Right count) lists
rights_of count [] all = tt
rights_of count (lines ∷ lists) all = (right_of count lines all.0, rights_of count lists all.1)

-- a part that has nothing unlike has no kind
no_kind : (parts : List Profile) (p : Profile) (fault : PartFault) → IsKind (head_of parts) p None → IsKind (head_of parts) p (Some fault.kind) → ⊥
no_kind parts p fault fine is = by fault.kind is
  where
    by : (k : _) → IsKind (head_of parts) p (Some k) → ⊥
    by Budget is = is fine.0
    by Points is = is.1 fine.1
    by Speedups is = is.2 fine.2
    by Baseline is = is.3 fine.3
    by (Twice label) is = is

not_unlike : (parts : List Profile) (fault : PartFault) → All (λ (p : Profile). IsKind (head_of parts) p None) parts → IsUnlike (head_of parts) parts (Some fault) → ⊥
not_unlike parts fault fine is =
    let d : Profile = record { budget = 0; points = []; summaries = [] } in
    no_kind parts (get_or parts fault.part d) fault (fine fault.part d is.2) (is.1 d)

told : (o : Option Tagged) (fault : PartFault) → option_map twice_at o ≡ Some fault → (t : Tagged) × (o ≡ Some t) × (twice_at t ≡ fault)
told None fault e = absurd cc
told (Some t) fault e = let same : twice_at t ≡ fault = cc in (t, refl, same)

untold : (o : Option Tagged) → option_map twice_at o ≡ None → o ≡ None
untold None e = refl
untold (Some t) e = absurd cc

module _ {count : ℕ} {label : ℕ → Text} {block : ℕ → ℕ → Summary} (are : AreBlocks count label block) (budget : ℕ) (points : List Text) (q : ℕ) (ps : List ℕ) (rising : IsStrictlySortedBy nat_cmp (q ∷ ps)) (list : List ℕ) (more : List (List ℕ)) (right : AllByRecursion (Right count) (list ∷ more)) (whole : List ℕ) (together : AreTogether count (list ∷ more) whole) where
  abbrev lists : List (List ℕ)
  lists = list ∷ more

  abbrev parts : List Profile
  parts = map (profile_at budget points block (q ∷ ps)) lists

  abbrev all_lines : Profile
  all_lines = profile_at budget points block (q ∷ ps) whole

  law : (result : Result Profile JoinError) → IsJoin parts result → IsShardsJoin lists all_lines label result
  unfolding twice
  law (Ok joined) is = (
    none_is_twice are budget points (q ∷ ps) rising lists right q (inl refl) (untold (first_alike (in_order parts)) is.0.1),
    joined_is are (q ∷ ps) rising budget points list more whole (right_of count whole together.lines) together joined is.1,
  )
  law (Err (Unlike fault)) (inl unlike) = absurd (not_unlike parts fault (fine are q ps budget points list more right) unlike)
  law (Err (Unlike fault)) (inr both) =
      let of = told (first_alike (in_order parts)) fault both.1 in
      let first = first_is_twice are budget points (q ∷ ps) rising lists right of.0 of.1 in (
        first.0,
        subst (λ n. IsTwice lists first.0 n) (ap (λ (f : PartFault). f.part) of.2) first.1,
        ap (λ (f : PartFault). f.kind) (sym of.2) ∙ ap Twice first.2,
      )
  law (Err Memory) is = tt

pub shards_join : ShardsJoin
shards_join count label block are budget points [] lists whole none rising some lines together result is = absurd (none refl)
shards_join count label block are budget points (q ∷ ps) [] whole none rising some lines together result is = absurd (omega (arith, some))
shards_join count label block are budget points (q ∷ ps) (list ∷ more) whole none rising some lines together result is =
    law are budget points q ps rising list more (rights_of count (list ∷ more) (recursion_from_All (AreLines count) (list ∷ more) lines)) whole together result is
