-- The first of some profiles that is unlike those before it.
use Rattle.std.proofs.Common.{◌≡◌, ℕ, ◌+◌, ◌<◌, ◌≤◌, drop, take, get_or, length, List, [], ◌∷◌, ◌++◌, Option, None, All, sym, ap, subst, ◌∙◌, arith}
use Rattle.std.proofs.lemmas.List.{take_more, take_all}
use Rattle.std.proofs.lemmas.List.Elements.{All-push}
use Rattle.average_parts.specs.declared.part.Part.{Part}
use Rattle.average_parts.specs.declared.fault.UnlikeKind.{UnlikeKind}
use Rattle.average_parts.specs.declared.likeness.Unlike.{Unlike}
use Rattle.average_parts.specs.Likeness.{count_points, first_full, kind_of, unlike_at, unlike_from}
use Rattle.average_parts.proofs.Lists.{rest_of}

-- the first from a position on
abbrev pub unlike_later : List Part → ℕ → Option Unlike
unlike_later [] place = None
unlike_later (part ∷ parts) place = unlike_from part (part ∷ parts) place (drop place (part ∷ parts))

pub one_later : (parts : List Part) (i : ℕ) (first part : Part) → i < length parts → first ≡ get_or parts 0 first → part ≡ get_or parts i part → kind_of first (first_full parts) (take i parts) part ≡ None → unlike_later parts (i + 1) ≡ unlike_later parts i
one_later [] i first part lt is at none = absurd (omega (arith, lt))
one_later (q ∷ qs) i first part lt is at none =
    let parts : List Part = q ∷ qs in
    let none_of : kind_of q (first_full parts) (take i parts) part ≡ None = subst (λ (p : Part). kind_of p (first_full parts) (take i parts) part ≡ None) is none in
    sym (ap (unlike_from q parts i) (rest_of parts i part lt at) ∙ ap (λ (k : Option UnlikeKind). unlike_at i k (unlike_from q parts (i + 1) (drop (i + 1) parts))) none_of)

pub one_like : (P : Part → Type 0) (parts : List Part) (i : ℕ) (part : Part) → i < length parts → part ≡ get_or parts i part → All P (take i parts) → P part → All P (take (i + 1) parts)
one_like P parts i part lt at so_far is =
    subst (All P) (sym (take_more parts i part lt ∙ ap (λ (p : Part). take i parts ++ p ∷ []) (sym at))) (All-push P (take i parts) part so_far is)

pub all_like : (P : Part → Type 0) (parts : List Part) (i : ℕ) → length parts ≤ i → All P (take i parts) → All P parts
all_like P parts i le so_far = subst (All P) (take_all i parts le) so_far

pub first_count : (parts : List Part) (i : ℕ) (first : Part) → i < length parts → first ≡ get_or parts 0 first → length first.profile.points ≡ count_points parts
first_count [] i first lt is = absurd (omega (arith, lt))
first_count (p ∷ parts) i first lt is = ap (λ (q : Part). length q.profile.points) is
