-- Lines that std has sorted.
use Rattle.std.proofs.Common.{◌≡◌, ℕ, List, Bor}
use Rattle.std.specs.Cmp.{IsStrictWeakOrder}
use Rattle.std.specs.Fn.{Mut, Called, ComputesKey}
use Rattle.std.specs.declared.cmp.Ordering.{Ordering}
use Rattle.std.specs.declared.cmp.Reverse.{Reverse}
use Rattle.std.specs.List.Sorted.{IsSortedByKey, IsStableByKey}
use Rattle.std.specs.Ordering.{nat_cmp}
use Rattle.std.proofs.lemmas.Cmp.{nat_cmp_total, on_total, back_total}
use Rattle.std.proofs.lemmas.Fn.{always_returns_same}
use Rattle.std.proofs.lemmas.List.Sorted.{ranks_by}
use Rattle.profile_labels.proofs.Sorting.{stable_is_one}
use Rattle.hot_lines.specs.declared.lines.HotLine.{HotLine}
use Rattle.hot_lines.specs.Lines.{costs_more, rank}

by_cost : IsStrictWeakOrder costs_more
by_cost = ranks_by (back_total (on_total (λ (h : HotLine). h.cost) nat_cmp_total)) (λ (h : HotLine). h)

abbrev pub Key : Type 0
Key = Reverse ℕ

abbrev pub key_of : HotLine → Key
key_of h = record { 0 = h.cost }

abbrev pub key_cmp : Key → Key → Ordering
key_cmp x y = nat_cmp y.0 x.0

pub ranking : {F : Type 0} {g : Mut F (Bor HotLine × Unit {0}) Key} {f : F} (lines sorted : List HotLine)
    → ((key : HotLine → Key) → ComputesKey g key f → IsSortedByKey key key_cmp sorted)
    → ((key : HotLine → Key) → ComputesKey g key f → IsStableByKey key key_cmp lines sorted)
    → ((b : Bor HotLine × Unit {0}) (r : Key) (f' : F) → Called g f b r f' → (r ≡ key_of b.0.now) × (f' ≡ f)) → sorted ≡ rank lines
ranking {g = g} {f = f} lines sorted up stable keys =
    let computes : ComputesKey g key_of f = always_returns_same g (λ b r. r ≡ key_of b.0.now) f keys in
    stable_is_one costs_more by_cost lines sorted (up key_of computes) (stable key_of computes)
