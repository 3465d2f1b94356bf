-- Which profiles can be averaged together, and what each of them is for.
use Rattle.std.specs.Prelude.{◌≡◌, ℕ, ◌+◌, Bool, true, false, not, ◌&&◌, ◌||◌, ◌==◌, nat_lt, List, [], ◌∷◌, ◌++◌, length, map, take, find, Option, Some, None, if◌then◌else◌}
use Rattle.std.specs.List.{list_any, filter}
use Rattle.std.specs.Str.{bytes_eq}
use Rattle.coz_types.specs.Labels.{Text}
use Rattle.coz_types.specs.declared.record.Summary.{Summary}
use Rattle.profile_book.specs.declared.profile.Profile.{Profile}
use Rattle.timing_model.specs.declared.costs.Costs.{Costs}
use Rattle.timing_model.specs.declared.timing.Charge.{Charge}
use Rattle.timing_model.specs.declared.timing.Charge.TheVariants.{Nobody, Last}
use Rattle.timing_model.specs.declared.timing.Timing.{Timing}
use Rattle.average_curves.specs.declared.averaged.Averaged.{Averaged}
use Rattle.average_parts.specs.declared.part.Part.{Part}
use Rattle.average_parts.specs.declared.fault.UnlikeKind.{UnlikeKind}
use Rattle.average_parts.specs.declared.fault.UnlikeKind.TheVariants.{Timing as TimingKind, Seed, Budget, Points, Pairs}
use Rattle.average_parts.specs.declared.likeness.Unlike.{Unlike}

-- ---- machines, points and pairs

abbrev pub are_like : Costs → Costs → Bool
are_like a b =
    (a.integer == b.integer && a.jump == b.jump && a.load == b.load)
    && a.multiply == b.multiply && a.atomic == b.atomic && a.divide == b.divide
    && a.ecall == b.ecall

abbrev pub charge_like : Charge → Charge → Bool
charge_like Nobody Nobody = true
charge_like Last Last = true
charge_like _ _ = false

-- the machines are the same but for their seeds
abbrev pub machines_like : Timing → Timing → Bool
machines_like a b =
    a.cores == b.cores && a.slice == b.slice && are_like a.costs b.costs
    && charge_like a.charge b.charge

-- the lists are as long, and each two elements at one position are the same
abbrev pub same_list : {A : Type 0} → (A → A → Bool) → List A → List A → Bool
same_list same [] [] = true
same_list same (a ∷ rest) (b ∷ others) = same a b && same_list same rest others
same_list same _ _ = false

abbrev pub same_points : List Text → List Text → Bool
same_points a b = same_list bytes_eq a b

-- of the same line and speedup
abbrev pub same_pair : Summary → Summary → Bool
same_pair s t = bytes_eq s.selected t.selected && s.speedup == t.speedup

abbrev pub same_pairs : List Summary → List Summary → Bool
same_pairs a b = same_list same_pair a b

-- ---- likeness

-- a run has a speedup over 0
abbrev pub is_full : Profile → Bool
is_full p = list_any (λ (s : Summary). not (s.speedup == 0)) p.summaries

abbrev pub is_full_part : Part → Bool
is_full_part part = is_full part.profile

abbrev pub first_full : List Part → Option Part
first_full parts = find is_full_part parts

abbrev pub seed_among : ℕ → List Part → Bool
seed_among seed parts = list_any (λ (part : Part). part.timing.seed == seed) parts

-- A profile with a speedup over 0, and that of the exact schedule, has the lines and speedups of
-- the first one that has a speedup over 0.
abbrev pub pairs_like : Option Part → Part → Bool
pairs_like None part = not (is_full_part part)
pairs_like (Some full) part =
    if is_full_part part || part.timing.seed == 0
    then same_pairs part.profile.summaries full.profile.summaries
    else true

-- in what a profile is unlike the first one and those before it
abbrev pub kind_of : Part → Option Part → List Part → Part → Option UnlikeKind
kind_of first full before part =
    if not (machines_like first.timing part.timing) then Some TimingKind
    else if seed_among part.timing.seed before then Some Seed
    else if not (part.profile.budget == first.profile.budget) then Some Budget
    else if not (same_points part.profile.points first.profile.points) then Some Points
    else if not (pairs_like full part) then Some Pairs
    else None

abbrev pub unlike_at : ℕ → Option UnlikeKind → Option Unlike → Option Unlike
unlike_at place (Some kind) later = Some (record { kind = kind; part = place })
unlike_at place None later = later

-- the first of the profiles from this position on that is unlike those before it
abbrev pub unlike_from : Part → List Part → ℕ → List Part → Option Unlike
unlike_from first all place [] = None
unlike_from first all place (part ∷ parts) =
    unlike_at place (kind_of first (first_full all) (take place all) part)
    (unlike_from first all (place + 1) parts)

-- the first profile that is unlike those before it
abbrev pub unlike_part : List Part → Option Unlike
unlike_part [] = None
unlike_part (part ∷ parts) = unlike_from part (part ∷ parts) 0 (part ∷ parts)

-- ---- what the profiles are for

-- there is more than one
abbrev pub are_several : List Part → Bool
are_several parts = nat_lt 1 (length parts)

-- of the exact schedule, if there are several
abbrev pub is_exact : Bool → Part → Bool
is_exact several part = several && part.timing.seed == 0

abbrev pub is_seed : Bool → Part → Bool
is_seed several part = not (is_exact several part) && is_full_part part

abbrev pub is_base : Bool → Part → Bool
is_base several part = not (is_exact several part) && not (is_full_part part)

abbrev pub profile_in : Part → Profile
profile_in part = part.profile

abbrev pub seeds_of : Bool → List Part → List Profile
seeds_of several parts = map profile_in (filter (is_seed several) parts)

abbrev pub bases_of : Bool → List Part → List Profile
bases_of several parts = map profile_in (filter (is_base several) parts)

abbrev pub last_of : List Profile → Option Profile
last_of [] = None
last_of (p ∷ []) = Some p
last_of (p ∷ q ∷ profiles) = last_of (q ∷ profiles)

-- the one of the exact schedule; profiles that are alike have one at most
abbrev pub exact_of : Bool → List Part → Option Profile
exact_of several parts = last_of (map profile_in (filter (is_exact several) parts))

-- what is averaged
abbrev pub averaged_of : List Part → Averaged
averaged_of parts = record {
  profiles = seeds_of (are_several parts) parts ++ bases_of (are_several parts) parts;
  seeds = length (seeds_of (are_several parts) parts);
  exact = exact_of (are_several parts) parts;
}

-- ---- sizes

abbrev pub count_points : List Part → ℕ
count_points [] = 0
count_points (part ∷ parts) = length part.profile.points

abbrev pub count_runs : Option Part → ℕ
count_runs None = 0
count_runs (Some part) = length part.profile.summaries

-- it has n points, and m runs if one of them has a speedup over 0
pub record IsLike (n m : ℕ) (part : Part) : Type 0 where
  pub points : length part.profile.points ≡ n
  pub runs : is_full_part part ≡ true → length part.profile.summaries ≡ m
