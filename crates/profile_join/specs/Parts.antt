-- When profiles are parts of one, and the one that they are parts of.
use Rattle.std.specs.Prelude.{◌≡◌, ℕ, suc, ◌<◌, ◌⊎◌, Bool, ◌==◌, option_map, List, [], ◌∷◌, ◌++◌, map, flat_map, find, get_or, take, length, Option, Some, None, Result, Ok, Err, if◌then◌else◌, All}
use Rattle.std.specs.List.{HoldsAt}
use Rattle.std.specs.List.Sorted.{IsPermutation}
use Rattle.coz_types.specs.Labels.{Text}
use Rattle.coz_types.specs.declared.record.Summary.{Summary}
use Rattle.profile_book.specs.declared.profile.Profile.{Profile}
use Rattle.profile_book.specs.Profile.{IsProfile}
use Rattle.profile_labels.specs.Groups.{groups}
use Rattle.profile_labels.specs.Sorted.{sorted_by}
use Rattle.profile_join.specs.Order.{tag_before, are_alike}
use Rattle.profile_join.specs.declared.fault.PartFault.{PartFault}
use Rattle.profile_join.specs.declared.fault.PartKind.{PartKind}
use Rattle.profile_join.specs.declared.fault.PartKind.TheVariants.{Budget, Points, Speedups, Baseline, Twice}
use Rattle.profile_join.specs.declared.fault.JoinError.{JoinError}
use Rattle.profile_join.specs.declared.fault.JoinError.TheVariants.{Unlike, Memory}
use Rattle.profile_join.specs.declared.tagged.NumberedPart.{NumberedPart}
use Rattle.profile_join.specs.declared.tagged.Tagged.{Tagged}

-- ---- parts that are unlike

abbrev pub speedups_in : List Summary → List ℕ
speedups_in summaries = map (λ (s : Summary). s.speedup) summaries

-- the blocks of the first label of the first part that has one
abbrev pub first_group : List Profile → List Summary
first_group [] = []
first_group (p ∷ parts) = elim (groups p.summaries) [
  | [] ↦ first_group parts
  | group ∷ rest ↦ group
]

-- all blocks, part by part
abbrev pub blocks_of : List Profile → List Summary
blocks_of parts = flat_map (λ (p : Profile). p.summaries) parts

abbrev pub is_baseline : Summary → Bool
is_baseline s = s.speedup == 0

-- what a block says but for its label and its starts
abbrev pub unlabelled : Summary → Summary
unlabelled s = record s { selected = []; outcome = record s.outcome { starts = 0 } }

-- a block at speedup 0 came out as the first one, if there is one
abbrev pub CameAs : Option Summary → Summary → Type 0
CameAs None s = Unit {0}
CameAs (Some first) s = s.speedup ≡ 0 → unlabelled s ≡ unlabelled first

-- what parts are compared with: the first part's budget and points, the speedups of the first
-- label, and the first block at speedup 0
pub record Head : Type 0 where
  pub budget : ℕ
  pub points : List Text
  pub speedups : List ℕ
  pub first : Option Summary

abbrev pub head_of : List Profile → Head
head_of parts = record {
  budget = (get_or parts 0 (record { budget = 0; points = []; summaries = [] })).budget;
  points = (get_or parts 0 (record { budget = 0; points = []; summaries = [] })).points;
  speedups = speedups_in (first_group parts);
  first = find is_baseline (blocks_of parts);
}

abbrev pub AreTimes : List ℕ → List Summary → Type 0
AreTimes speedups summaries = All (λ (group : List Summary). speedups_in group ≡ speedups) (groups summaries)

abbrev pub AllCameAs : Option Summary → List Summary → Type 0
AllCameAs first summaries = All (CameAs first) summaries

-- what a part has unlike, if something is
abbrev pub IsKind : Head → Profile → Option PartKind → Type 0
IsKind head p None =
    (p.budget ≡ head.budget) × (p.points ≡ head.points) × AreTimes head.speedups p.summaries
    × AllCameAs head.first p.summaries
IsKind head p (Some Budget) = p.budget ≡ head.budget → ⊥
IsKind head p (Some Points) = (p.budget ≡ head.budget) × (p.points ≡ head.points → ⊥)
IsKind head p (Some Speedups) =
    (p.budget ≡ head.budget) × (p.points ≡ head.points)
    × (AreTimes head.speedups p.summaries → ⊥)
IsKind head p (Some Baseline) =
    (p.budget ≡ head.budget) × (p.points ≡ head.points) × AreTimes head.speedups p.summaries
    × (AllCameAs head.first p.summaries → ⊥)
IsKind head p (Some (Twice label)) = ⊥

-- the first part that has something unlike, if one has
abbrev pub IsUnlike : Head → List Profile → Option PartFault → Type 0
IsUnlike head parts None = All (λ (p : Profile). IsKind head p None) parts
IsUnlike head parts (Some fault) =
    All (λ (p : Profile). IsKind head p None) (take fault.part parts)
    × HoldsAt (λ (p : Profile). IsKind head p (Some fault.kind)) parts fault.part
    × (fault.part < length parts)

-- ---- a label that stands in two parts

abbrev pub tag : ℕ → Summary → Tagged
tag n s = record { part = n; summary = s }

-- the blocks of these parts, which are numbered from n on
abbrev pub tagged : ℕ → List Profile → List Tagged
tagged n [] = []
tagged n (p ∷ parts) = map (tag n) p.summaries ++ tagged (suc n) parts

-- the blocks of parts, which are numbered from n on
abbrev pub numbered : ℕ → List Profile → List NumberedPart
numbered n [] = []
numbered n (p ∷ parts) =
    record { number = n; summaries = p.summaries } ∷ numbered (suc n) parts

abbrev pub tags_of : NumberedPart → List Tagged
tags_of part = map (tag part.number) part.summaries

-- all blocks by label and speedup, those of one label and speedup by part
unfoldable pub in_order : List Profile → List Tagged
in_order parts = sorted_by tag_before (tagged 0 parts)

-- the first that is of the label and the speedup of the one before it
abbrev pub first_alike : List Tagged → Option Tagged
first_alike [] = None
first_alike (a ∷ []) = None
first_alike (a ∷ b ∷ rest) = if are_alike a b then Some b else first_alike (b ∷ rest)

abbrev pub twice_at : Tagged → PartFault
twice_at t = record { kind = Twice t.summary.selected; part = t.part }

unfoldable pub twice : List Profile → Option PartFault
twice parts = option_map twice_at (first_alike (in_order parts))

-- ---- the answer

-- the fault of these parts, if they have one: the first that is unlike, else a label that is twice
abbrev pub IsPartFault : List Profile → Option PartFault → Type 0
IsPartFault parts None = IsUnlike (head_of parts) parts None × (twice parts ≡ None)
IsPartFault parts (Some fault) =
    IsUnlike (head_of parts) parts (Some fault)
    ⊎ (IsUnlike (head_of parts) parts None × (twice parts ≡ Some fault))

-- the profile that these are parts of: the budget and the points are each part's, and the
-- blocks are those of all parts, in their order
pub record IsJoined (parts : List Profile) (joined : Profile) : Type 0 where
  pub budget : All (λ (p : Profile). p.budget ≡ joined.budget) parts
  pub points : All (λ (p : Profile). p.points ≡ joined.points) parts
  pub right : IsProfile joined
  pub blocks : IsPermutation (blocks_of parts) joined.summaries

-- a fault exactly if there is one
abbrev pub IsJoin : List Profile → Result Profile JoinError → Type 0
IsJoin parts (Ok joined) = IsPartFault parts None × IsJoined parts joined
IsJoin parts (Err (Unlike fault)) = IsPartFault parts (Some fault)
IsJoin parts (Err Memory) = Unit {0}
