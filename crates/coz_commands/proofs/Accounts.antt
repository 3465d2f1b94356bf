-- The accounts of harts, one after the other.
use Rattle.std.proofs.Common.{◌≡◌, ℕ, zero, suc, ◌+◌, List, [], ◌∷◌, ◌++◌, map, take, Some, option_map, sym, ap, ◌∙◌, add-one}
use Rattle.std.specs.Prelude.{slice_get}
use Rattle.std.proofs.lemmas.List.{map-append}
use Rattle.coz_types.specs.declared.record.Account.{Account as GivenAccount}
use Rattle.machines.specs.Delayed.{Account, Hart}
use Rattle.delay_credits.specs.Delays.{account_as}

abbrev account_at : Hart → Account
account_at hart = hart.account

-- the hart of a number, after those below it
take_more : (harts : List Hart) (k : ℕ) (account : Account) → Some account ≡ option_map account_at (slice_get harts k) → map account_at (take (suc k) harts) ≡ map account_at (take k harts) ++ account ∷ []
take_more [] k account is = let no : ⊥ = cc in absurd no
take_more (hart ∷ harts) zero account is = let same : hart.account ≡ account = cc in ap (λ (a : Account). a ∷ []) same
take_more (hart ∷ harts) (suc k) account is = ap (λ (as' : List Account). hart.account ∷ as') (take_more harts k account is)

pub one_account : (accounts : List GivenAccount) (account : GivenAccount) (harts : List Hart) (k : ℕ) → map account_as accounts ≡ map account_at (take k harts)
    → Some (account_as account) ≡ option_map account_at (slice_get harts k) → map account_as (accounts ++ account ∷ []) ≡ map account_at (take (k + 1) harts)
one_account accounts account harts k so_far is =
    map-append account_as accounts (account ∷ [])
    ∙ ap (λ (l : List Account). l ++ account_as account ∷ []) so_far
    ∙ sym (take_more harts k (account_as account) is)
    ∙ ap (λ (n : ℕ). map account_at (take n harts)) (sym (add-one k))
