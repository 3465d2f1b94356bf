-- What is averaged of profiles that are alike.
use Rattle.std.proofs.Common.{◌≡◌, ℕ, ◌+◌, ◌<◌, ◌≤◌, Bool, true, false, not, ◌&&◌, cond, List, [], ◌∷◌, ◌++◌, length, length-append, map, take, slice_index_or, Some, IfSome, All, refl, sym, ap, ap₂, subst, ◌∙◌, arith}
use Rattle.std.specs.List.{filter}
use Rattle.std.proofs.lemmas.Bool.{and_parts}
use Rattle.std.proofs.lemmas.List.{length-map, take_at}
use Rattle.std.proofs.lemmas.List.Elements.{All-append, All-filter, All-map, All-from_recursion, recursion_from_All}
use Rattle.std.specs.List.{AllByRecursion}
use Rattle.profile_book.specs.Profile.{IsProfile}
use Rattle.profile_book.specs.declared.profile.Profile.{Profile}
use Rattle.average_values.specs.Values.{most_runs}
use Rattle.average_curves.specs.Curves.{points_of, runs_of, IsAveraged}
use Rattle.average_parts.specs.declared.part.Part.{Part}
use Rattle.average_parts.specs.Verdict.{IsRightPart}
use Rattle.average_parts.specs.Likeness.{are_several, averaged_of, bases_of, exact_of, is_base, is_exact, is_full_part, is_seed, last_of, profile_in, seeds_of, IsLike}

-- ---- one more profile

module _ (f : Part → Bool) where
  abbrev pub chosen_by : List Part → List Profile
  chosen_by parts = map profile_in (filter f parts)

  -- ---- lists

  kept : (x : Part) (xs : List Part) → f x ≡ true → filter f (x ∷ xs) ≡ x ∷ filter f xs
  kept x xs e = ap (λ (b : Bool). cond b (x ∷ filter f xs) (filter f xs)) e

  left_out : (x : Part) (xs : List Part) → f x ≡ false → filter f (x ∷ xs) ≡ filter f xs
  left_out x xs e = ap (λ (b : Bool). cond b (x ∷ filter f xs) (filter f xs)) e

  pub more : (xs : List Part) (x : Part) → f x ≡ true → chosen_by (xs ++ x ∷ []) ≡ chosen_by xs ++ x.profile ∷ []
  more [] x e = ap (map profile_in) (kept x [] e)
  more (y ∷ xs) x e = by (f y) refl (more xs x e)
    where
      by : (b : Bool) → f y ≡ b → chosen_by (xs ++ x ∷ []) ≡ chosen_by xs ++ x.profile ∷ [] → chosen_by (y ∷ xs ++ x ∷ []) ≡ chosen_by (y ∷ xs) ++ x.profile ∷ []
      by true d so = ap (map profile_in) (kept y (xs ++ x ∷ []) d) ∙ ap (λ (ps : List Profile). y.profile ∷ ps) so ∙ sym (ap (λ (ps : List Part). map profile_in ps ++ x.profile ∷ []) (kept y xs d))
      by false d so = ap (map profile_in) (left_out y (xs ++ x ∷ []) d) ∙ so ∙ sym (ap (λ (ps : List Part). map profile_in ps ++ x.profile ∷ []) (left_out y xs d))

  pub none_more : (xs : List Part) (x : Part) → f x ≡ false → chosen_by (xs ++ x ∷ []) ≡ chosen_by xs
  none_more [] x e = ap (map profile_in) (left_out x [] e)
  none_more (y ∷ xs) x e = by (f y) refl (none_more xs x e)
    where
      by : (b : Bool) → f y ≡ b → chosen_by (xs ++ x ∷ []) ≡ chosen_by xs → chosen_by (y ∷ xs ++ x ∷ []) ≡ chosen_by (y ∷ xs)
      by true d so = ap (map profile_in) (kept y (xs ++ x ∷ []) d) ∙ ap (λ (ps : List Profile). y.profile ∷ ps) so ∙ sym (ap (map profile_in) (kept y xs d))
      by false d so = ap (map profile_in) (left_out y (xs ++ x ∷ []) d) ∙ so ∙ sym (ap (map profile_in) (left_out y xs d))

  -- what holds of parts holds of those that are chosen
  pub all_chosen : (P : Profile → Type 0) (parts : List Part) → All (λ (part : Part). P part.profile) parts → All P (chosen_by parts)
  all_chosen P parts all = All-map P profile_in (filter f parts) (All-filter f (λ (part : Part). P part.profile) parts all)

  -- of those that pass the test
  pub all_passed : (P : Profile → Type 0) (parts : List Part) → All (λ (part : Part). f part ≡ true → P part.profile) parts → All P (chosen_by parts)
  all_passed P parts all = All-from_recursion P (chosen_by parts) (by parts (recursion_from_All (λ (part : Part). f part ≡ true → P part.profile) parts all))
    where
      by : (ps : List Part) → AllByRecursion (λ (part : Part). f part ≡ true → P part.profile) ps → AllByRecursion P (chosen_by ps)
      by [] all = tt
      by (x ∷ ps) all = or (f x) refl (by ps all.1)
        where
          or : (b : Bool) → f x ≡ b → AllByRecursion P (chosen_by ps) → AllByRecursion P (chosen_by (x ∷ ps))
          or true e rest = subst (λ (qs : List Part). AllByRecursion P (map profile_in qs)) (sym (kept x ps e)) (all.0 e, rest)
          or false e rest = subst (λ (qs : List Part). AllByRecursion P (map profile_in qs)) (sym (left_out x ps e)) rest

-- the last is the one that comes last
pub last_is : (ps : List Profile) (p : Profile) → last_of (ps ++ p ∷ []) ≡ Some p
last_is [] p = refl
last_is (q ∷ []) p = refl
last_is (q ∷ r ∷ ps) p = last_is (r ∷ ps) p

pub exact_more : (several : Bool) (xs : List Part) (x : Part) → is_exact several x ≡ true → exact_of several (xs ++ x ∷ []) ≡ Some x.profile
exact_more several xs x e = ap last_of (more (is_exact several) xs x e) ∙ last_is (chosen_by (is_exact several) xs) x.profile

-- ---- one more, by what it is for

module _ (several : Bool) (xs : List Part) (x : Part) where
  pub exact_seeds : is_exact several x ≡ true → seeds_of several (xs ++ x ∷ []) ≡ seeds_of several xs
  exact_seeds e = none_more (is_seed several) xs x (ap (λ (b : Bool). not b && is_full_part x) e)

  pub exact_bases : is_exact several x ≡ true → bases_of several (xs ++ x ∷ []) ≡ bases_of several xs
  exact_bases e = none_more (is_base several) xs x (ap (λ (b : Bool). not b && not (is_full_part x)) e)

  pub other_exact : is_exact several x ≡ false → exact_of several (xs ++ x ∷ []) ≡ exact_of several xs
  other_exact e = ap last_of (none_more (is_exact several) xs x e)

  pub seed_seeds : is_exact several x ≡ false → is_full_part x ≡ true → seeds_of several (xs ++ x ∷ []) ≡ seeds_of several xs ++ x.profile ∷ []
  seed_seeds e f = more (is_seed several) xs x (ap₂ (λ (b c : Bool). not b && c) e f)

  pub seed_bases : is_exact several x ≡ false → is_full_part x ≡ true → bases_of several (xs ++ x ∷ []) ≡ bases_of several xs
  seed_bases e f = none_more (is_base several) xs x (ap₂ (λ (b c : Bool). not b && not c) e f)

  pub base_seeds : is_exact several x ≡ false → is_full_part x ≡ false → seeds_of several (xs ++ x ∷ []) ≡ seeds_of several xs
  base_seeds e f = none_more (is_seed several) xs x (ap₂ (λ (b c : Bool). not b && c) e f)

  pub base_bases : is_exact several x ≡ false → is_full_part x ≡ false → bases_of several (xs ++ x ∷ []) ≡ bases_of several xs ++ x.profile ∷ []
  base_bases e f = more (is_base several) xs x (ap₂ (λ (b c : Bool). not b && not c) e f)

last_all : (P : Profile → Type 0) (ps : List Profile) → AllByRecursion P ps → IfSome (last_of ps) P
last_all P [] all = tt
last_all P (p ∷ []) all = all.0
last_all P (p ∷ q ∷ ps) all = last_all P (q ∷ ps) all.1

-- ---- sizes

part_of : (b c : Bool) (l m n : ℕ) (xs ys : List Part) (x : Part) → length xs + length ys ≤ n → length (cond (not b && c) (x ∷ xs) xs) + length (cond (not b && not c) (x ∷ ys) ys) ≤ n + 1
part_of true c l m n xs ys x le = omega (arith, le)
part_of false true l m n xs ys x le = omega (arith, le)
part_of false false l m n xs ys x le = omega (arith, le)

few_chosen : (several : Bool) (parts : List Part) → length (filter (is_seed several) parts) + length (filter (is_base several) parts) ≤ length parts
few_chosen several [] = omega arith
few_chosen several (x ∷ parts) =
    let le : length (filter (is_seed several) (x ∷ parts)) + length (filter (is_base several) (x ∷ parts)) ≤ length parts + 1 = part_of (is_exact several x) (is_full_part x) 0 0 (length parts) (filter (is_seed several) parts) (filter (is_base several) parts) x (few_chosen several parts) in
    omega (arith, le)

-- as many as the first
as_first : {X : Type 0} (f : Profile → List X) (first : List Profile → List X) → ((p : Profile) (ps : List Profile) → first (p ∷ ps) ≡ f p) → (n : ℕ) (ps : List Profile) → All (λ (p : Profile). length (f p) ≡ n) ps → All (λ (p : Profile). length (f p) ≡ length (first ps)) ps
as_first f first is n [] all = λ k d lt. absurd (omega (arith, lt))
as_first f first is n (q ∷ ps) all = λ k d lt. all k d lt ∙ sym (ap length (is q ps) ∙ all 0 q (omega arith))

first_count : (n : ℕ) (ps : List Profile) → All (λ (p : Profile). length p.points ≡ n) ps → 0 < length ps → n ≡ length (points_of ps)
first_count n [] all some = absurd (omega (arith, some))
first_count n (p ∷ ps) all some = sym (all 0 p (omega arith))

-- ---- what is averaged

module _ (parts : List Part) (n m : ℕ) (right : All IsRightPart parts) (like : All (IsLike n m) parts) where
  abbrev several : Bool
  several = are_several parts

  abbrev seeds : List Profile
  seeds = seeds_of several parts

  abbrev bases : List Profile
  bases = bases_of several parts

  both : (P : Profile → Type 0) → All (λ (part : Part). P part.profile) parts → All P (seeds ++ bases)
  both P all = All-append P seeds bases (all_chosen (is_seed several) P parts all) (all_chosen (is_base several) P parts all)

  points_alike : All (λ (part : Part). length part.profile.points ≡ n) parts
  points_alike = λ k d lt. (like k d lt).points

  exact_alike : (P : Profile → Type 0) → All (λ (part : Part). P part.profile) parts → IfSome (exact_of several parts) P
  exact_alike P all = last_all P (chosen_by (is_exact several) parts) (recursion_from_All P (chosen_by (is_exact several) parts) (all_chosen (is_exact several) P parts all))

  runs_alike : All (λ (p : Profile). length p.summaries ≡ m) seeds
  runs_alike = all_passed (is_seed several) (λ (p : Profile). length p.summaries ≡ m) parts (λ k d lt e. (like k d lt).runs (and_parts (not (is_exact several (slice_index_or parts k d))) (is_full_part (slice_index_or parts k d)) e).1)

  first_seeds : take (length seeds) (seeds ++ bases) ≡ seeds
  first_seeds = take_at seeds bases (length seeds) refl

  pub averaged_sound : length parts ≤ most_runs → IsAveraged (averaged_of parts)
  averaged_sound few =
      let points = both (λ (p : Profile). length p.points ≡ n) points_alike in
      let sizes : length seeds + length bases ≤ length parts = omega (arith, few_chosen several parts, length-map (filter (is_seed several) parts) profile_in, length-map (filter (is_base several) parts) profile_in) in
      record {
        few = omega (arith, few, sizes, length-append seeds bases);
        seeds = omega (arith, length-append seeds bases);
        right = both IsProfile right;
        exact = exact_alike IsProfile right;
        points = as_first (λ (p : Profile). p.points) points_of (λ p ps. refl) n (seeds ++ bases) points;
        exact_points = λ some. subst (λ (k : ℕ). IfSome (exact_of several parts) (λ (p : Profile). length p.points ≡ k)) (first_count n (seeds ++ bases) points some) (exact_alike (λ (p : Profile). length p.points ≡ n) points_alike);
        runs = subst (λ (ps : List Profile). All (λ (p : Profile). length p.summaries ≡ length (runs_of ps)) ps) (sym first_seeds) (as_first (λ (p : Profile). p.summaries) runs_of (λ p ps. refl) m seeds runs_alike);
      }
