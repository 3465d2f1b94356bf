-- What parts are compared with, as the loops find it.
use Rattle.std.proofs.Common.{◌≡◌, ℕ, zero, suc, ◌+◌, ◌<◌, ◌≤◌, All, Bor, ap₂, subst, is_some, option_copied, Bool, true, false, cond, List, [], ◌∷◌, ◌++◌, length, take, drop, get_or, find, Option, Some, None, refl, sym, ap, ◌∙◌, arith}
use Rattle.std.proofs.lemmas.List.{drop_more, take_more, take_all}
use Rattle.std.proofs.lemmas.List.Elements.{All-push}
use Rattle.coz_types.specs.Labels.{Text}
use Rattle.profile_join.specs.declared.fault.PartKind.{PartKind}
use Rattle.coz_types.specs.declared.record.Summary.{Summary}
use Rattle.profile_book.specs.declared.profile.Profile.{Profile}
use Rattle.profile_labels.specs.Groups.{groups}
use Rattle.profile_join.specs.Parts.{Head, IsKind, head_of, first_group, blocks_of, is_baseline}
use Rattle.profile_join.proofs.Loops.{no_groups}

group_or : List (List Summary) → List Summary → List Summary
group_or gs other = elim gs [ [] ↦ other | group ∷ rest ↦ group ]

pub group_here : (parts : List Profile) (i n : ℕ) (p : Profile) → i < length parts → p ≡ get_or parts i p → first_group parts ≡ first_group (drop i parts) → groups p.summaries ≡ take n p.summaries ∷ groups (drop n p.summaries) → take n p.summaries ≡ first_group parts
unfolding group_or
group_here parts i n p lt is so_far are =
    sym (so_far ∙ ap first_group (drop_more parts i p lt) ∙ ap (λ (q : Profile). group_or (groups q.summaries) (first_group (drop (i + 1) parts))) (sym is) ∙ ap (λ gs. group_or gs (first_group (drop (i + 1) parts))) are)

empty_groups : (ss : List Summary) → length ss ≡ 0 → groups ss ≡ []
empty_groups [] none = no_groups
empty_groups (s ∷ ss) none = absurd (omega (arith, none))

pub group_later : (parts : List Profile) (i : ℕ) (p : Profile) → i < length parts → p ≡ get_or parts i p → length p.summaries ≡ 0 → first_group parts ≡ first_group (drop i parts) → first_group parts ≡ first_group (drop (i + 1) parts)
unfolding group_or
group_later parts i p lt is none so_far =
    so_far ∙ ap first_group (drop_more parts i p lt) ∙ ap (λ (q : Profile). group_or (groups q.summaries) (first_group (drop (i + 1) parts))) (sym is) ∙ ap (λ gs. group_or gs (first_group (drop (i + 1) parts))) (empty_groups p.summaries none)

found_in : {X : Type 0} (test : X → Bool) (xs ys : List X) (x : X) → find test xs ≡ Some x → find test (xs ++ ys) ≡ Some x
found_in test [] ys x e = absurd cc
found_in test (z ∷ xs) ys x e = go (test z) e (found_in test xs ys x)
  where
    go : (b : Bool) → cond b (Some z) (find test xs) ≡ Some x → (find test xs ≡ Some x → find test (xs ++ ys) ≡ Some x) → cond b (Some z) (find test (xs ++ ys)) ≡ Some x
    go true f more = f
    go false f more = more f

not_in : {X : Type 0} (test : X → Bool) (xs ys : List X) → find test xs ≡ None → find test (xs ++ ys) ≡ find test ys
not_in test [] ys e = refl
not_in test (z ∷ xs) ys e = go (test z) e (not_in test xs ys)
  where
    go : (b : Bool) → cond b (Some z) (find test xs) ≡ None → (find test xs ≡ None → find test (xs ++ ys) ≡ find test ys) → cond b (Some z) (find test (xs ++ ys)) ≡ find test ys
    go true f more = absurd cc
    go false f more = more f

pub base_here : (parts : List Profile) (i : ℕ) (p : Profile) (s : Summary) → i < length parts → p ≡ get_or parts i p → find is_baseline (blocks_of parts) ≡ find is_baseline (blocks_of (drop i parts)) → find is_baseline p.summaries ≡ Some s → find is_baseline (blocks_of parts) ≡ Some s
base_here parts i p s lt is so_far found =
    so_far ∙ ap (λ ps. find is_baseline (blocks_of ps)) (drop_more parts i p lt) ∙ ap (λ (q : Profile). find is_baseline (q.summaries ++ blocks_of (drop (i + 1) parts))) (sym is) ∙ found_in is_baseline p.summaries (blocks_of (drop (i + 1) parts)) s found

pub base_later : (parts : List Profile) (i : ℕ) (p : Profile) → i < length parts → p ≡ get_or parts i p → find is_baseline (blocks_of parts) ≡ find is_baseline (blocks_of (drop i parts)) → find is_baseline p.summaries ≡ None → find is_baseline (blocks_of parts) ≡ find is_baseline (blocks_of (drop (i + 1) parts))
base_later parts i p lt is so_far none =
    so_far ∙ ap (λ ps. find is_baseline (blocks_of ps)) (drop_more parts i p lt) ∙ ap (λ (q : Profile). find is_baseline (q.summaries ++ blocks_of (drop (i + 1) parts))) (sym is) ∙ not_in is_baseline p.summaries (blocks_of (drop (i + 1) parts)) none

pub base_found : (parts : List Profile) (i : ℕ) (p : Profile) (o : Option (Bor Summary)) → i < length parts → p ≡ get_or parts i p → find is_baseline (blocks_of parts) ≡ find is_baseline (blocks_of (drop i parts)) → option_copied o ≡ find is_baseline p.summaries → is_some o ≡ true → option_copied o ≡ find is_baseline (blocks_of parts)
base_found parts i p (Some s) lt is so_far found some = sym (base_here parts i p s.now lt is so_far (sym found))
base_found parts i p None lt is so_far found some = absurd cc

pub base_missed : (parts : List Profile) (i : ℕ) (p : Profile) (o : Option (Bor Summary)) → i < length parts → p ≡ get_or parts i p → find is_baseline (blocks_of parts) ≡ find is_baseline (blocks_of (drop i parts)) → option_copied o ≡ find is_baseline p.summaries → is_some o ≡ false → find is_baseline (blocks_of parts) ≡ find is_baseline (blocks_of (drop (i + 1) parts))
base_missed parts i p (Some s) lt is so_far found none = absurd cc
base_missed parts i p None lt is so_far found none = base_later parts i p lt is so_far (sym found)

-- ---- a part against what it is compared with

abbrev make_head : ℕ → List Text → List ℕ → Option Summary → Head
make_head budget points speedups first = record { budget = budget; points = points; speedups = speedups; first = first }

any_part : (parts : List Profile) (i : ℕ) (d e : Profile) → i < length parts → get_or parts i d ≡ get_or parts i e
any_part [] i d e lt = absurd (omega (arith, lt))
any_part (p ∷ parts) zero d e lt = refl
any_part (p ∷ parts) (suc i) d e lt = any_part parts i d e (omega (arith, lt))

pub kind_at : (parts : List Profile) (i : ℕ) (p : Profile) (budget : ℕ) (points : List Text) (speedups : List ℕ) (first : Option Summary) (k : Option PartKind)
    → budget ≡ (head_of parts).budget → points ≡ (head_of parts).points → speedups ≡ (head_of parts).speedups → first ≡ (head_of parts).first → p ≡ get_or parts i p → i < length parts
    → IsKind (record { budget = budget; points = points; speedups = speedups; first = first }) p k → (d : Profile) → IsKind (head_of parts) (get_or parts i d) k
kind_at parts i p budget points speedups first k eb ep es ef is lt kind d =
    let head : make_head budget points speedups first ≡ head_of parts =
    ap₂ (λ b ns. make_head b ns speedups first) eb ep ∙ ap₂ (λ ss f. make_head (head_of parts).budget (head_of parts).points ss f) es ef in
    subst (λ q. IsKind (head_of parts) q k) (is ∙ any_part parts i p d lt) (subst (λ h. IsKind h p k) head kind)

abbrev Fine : List Profile → Profile → Type 0
Fine parts p = IsKind (head_of parts) p None

pub fine_more : (parts : List Profile) (i : ℕ) (d : Profile) → i < length parts → All (Fine parts) (take i parts) → IsKind (head_of parts) (get_or parts i d) None → All (Fine parts) (take (i + 1) parts)
fine_more parts i d lt so_far here = subst (All (Fine parts)) (sym (take_more parts i d lt)) (All-push (Fine parts) (take i parts) (get_or parts i d) so_far here)

pub fine_all : (parts : List Profile) (i : ℕ) → length parts ≤ i → All (Fine parts) (take i parts) → All (Fine parts) parts
fine_all parts i le all = subst (All (Fine parts)) (take_all i parts le) all

-- the first part's budget and points
pub head_budget : (parts : List Profile) (p : Profile) → 0 < length parts → p ≡ get_or parts 0 p → p.budget ≡ (head_of parts).budget
head_budget parts p lt is = ap (λ (q : Profile). q.budget) (is ∙ any_part parts 0 p (record { budget = 0; points = []; summaries = [] }) lt)

pub head_points : (parts : List Profile) (p : Profile) (points : List Text) → 0 < length parts → p ≡ get_or parts 0 p → points ≡ p.points → points ≡ (head_of parts).points
head_points parts p points lt is same = same ∙ ap (λ (q : Profile). q.points) (is ∙ any_part parts 0 p (record { budget = 0; points = []; summaries = [] }) lt)
