-- The order of the lines that hurt.
use Rattle.std.proofs.Common.{◌≡◌, ℕ, List, Bool, Option, ℤ, Bor}
use Rattle.std.specs.Fn.{Mut, Called, ComputesKey}
use Rattle.std.proofs.lemmas.Fn.{always_returns_same}
use Rattle.std.specs.Cmp.{IsStrictWeakOrder, bool_cmp_total}
use Rattle.std.specs.Cmp.Lexicographic.{options_total}
use Rattle.std.specs.List.Sorted.{IsSortedByKey, IsStableByKey}
use Rattle.std.specs.Ordering.{nat_cmp, int_cmp, bool_cmp, ordering_then}
use Rattle.std.specs.Option.{option_cmp}
use Rattle.std.specs.declared.cmp.Ordering.{Ordering}
use Rattle.std.proofs.lemmas.Cmp.{nat_cmp_total, int_cmp_total, on_total, then_total}
use Rattle.std.proofs.lemmas.List.Sorted.{ranks_by}
use Rattle.profile_labels.specs.Sorted.{sorted_by}
use Rattle.profile_labels.proofs.Sorting.{stable_is_one}
use Rattle.causal_curves.specs.declared.curve.Curve.{Curve}
use Rattle.page_values.specs.Harm.{worst_of}
use Rattle.page_values.specs.Ranks.{is_folded}
use Rattle.page_cli.specs.Harm.{harms_before}

abbrev pub Key : Type 0
Key = ℕ × Bool × Option ℤ

abbrev pub key_of : Curve → Key
key_of curve = (curve.point, is_folded curve, worst_of curve.steps)

abbrev pub key_cmp : Key → Key → Ordering
key_cmp x y = ordering_then (ordering_then (nat_cmp x.0 y.0) (bool_cmp x.1 y.1)) (option_cmp int_cmp x.2 y.2)

ranks : IsStrictWeakOrder harms_before
ranks = ranks_by (then_total (then_total (on_total (λ (c : Curve). c.point) nat_cmp_total) (on_total is_folded bool_cmp_total)) (on_total (λ (c : Curve). worst_of c.steps) (options_total int_cmp_total))) (λ (c : Curve). c)

pub harms_sorted : {F : Type 0} {g : Mut F (Bor Curve × Unit {0}) Key} {f : F} (curves sorted : List Curve) → ((key : Curve → Key) → ComputesKey g key f → IsSortedByKey key key_cmp sorted)
    → ((key : Curve → Key) → ComputesKey g key f → IsStableByKey key key_cmp curves sorted)
    → ((b : Bor Curve × Unit {0}) (r : Key) (f' : F) → Called g f b r f' → (r ≡ key_of b.0.now) × (f' ≡ f)) → sorted ≡ sorted_by harms_before curves
harms_sorted {g = g} {f = f} curves sorted up stable keys =
    let computes : ComputesKey g key_of f = always_returns_same g (λ b r. r ≡ key_of b.0.now) f keys in
    stable_is_one harms_before ranks curves sorted (up key_of computes) (stable key_of computes)
