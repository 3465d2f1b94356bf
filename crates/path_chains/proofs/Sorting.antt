-- Shares that std has sorted.
use Rattle.std.proofs.Common.{◌≡◌, ℕ, List, Bor}
use Rattle.std.specs.Cmp.{IsStrictWeakOrder}
use Rattle.std.specs.Fn.{Mut, Called, ComputesKey}
use Rattle.std.specs.declared.cmp.Ordering.{Ordering}
use Rattle.std.specs.declared.cmp.Reverse.{Reverse}
use Rattle.std.proofs.lemmas.Fn.{always_returns_same}
use Rattle.std.specs.List.Sorted.{IsSortedBy, IsStableBy, IsSortedByKey, IsStableByKey}
use Rattle.std.specs.Ordering.{nat_cmp}
use Rattle.std.proofs.lemmas.Cmp.{nat_cmp_total, on_total, back_total}
use Rattle.std.proofs.lemmas.List.Sorted.{ranks_by}
use Rattle.profile_labels.specs.Sorted.{sorted_by}
use Rattle.profile_labels.proofs.Sorting.{stable_is_one}
use Rattle.path_chains.specs.declared.share.Share.{Share}
use Rattle.path_chains.specs.Shares.{has_more}

by_more : IsStrictWeakOrder has_more
by_more = ranks_by (back_total (on_total (λ (s : Share). s.ticks) nat_cmp_total)) (λ (s : Share). s)

pub sorted_shares : (shares sorted : List Share) → IsSortedBy has_more sorted → IsStableBy has_more shares sorted → sorted ≡ sorted_by has_more shares
sorted_shares shares sorted up same = stable_is_one has_more by_more shares sorted up same

abbrev pub Key : Type 0
Key = Reverse ℕ

abbrev pub key_of : Share → Key
key_of s = record { 0 = s.ticks }

abbrev pub key_cmp : Key → Key → Ordering
key_cmp x y = nat_cmp y.0 x.0

-- shares that std has sorted
pub sharing : {F : Type 0} {g : Mut F (Bor Share × Unit {0}) Key} {f : F} (shares sorted : List Share)
    → ((key : Share → Key) → ComputesKey g key f → IsSortedByKey key key_cmp sorted)
    → ((key : Share → Key) → ComputesKey g key f → IsStableByKey key key_cmp shares sorted)
    → ((b : Bor Share × Unit {0}) (r : Key) (f' : F) → Called g f b r f' → (r ≡ key_of b.0.now) × (f' ≡ f)) → sorted ≡ sorted_by has_more shares
sharing {g = g} {f = f} shares sorted up stable keys =
    let computes : ComputesKey g key_of f = always_returns_same g (λ b r. r ≡ key_of b.0.now) f keys in
    sorted_shares shares sorted (up key_of computes) (stable key_of computes)
