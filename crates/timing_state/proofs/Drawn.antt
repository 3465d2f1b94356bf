-- The keys of harts in a table.
use Rattle.std.proofs.Common.{ℕ, false, refl, ◌≡◌, ◌+◌, ◌<◌, ◌≤◌, List, length, get_or, set, arith, sym, ap, ◌∙◌, ⊎_elim}
use Rattle.std.proofs.lemmas.Bool.{cases_eq}
use Rattle.std.proofs.lemmas.List.{get_or-set_same, get_or-set_other}
use Rattle.timing_laws.specs.Noted.{is_doubled, splitmix}
use Rattle.timing_state.specs.Jitter.{AreKeys}

pub none_yet : (seed : ℕ) (keys : List ℕ) → AreKeys seed 0 keys
none_yet seed keys h d below = absurd (omega (arith, below))

-- one key more
pub one_key_more : (seed k : ℕ) (keys : List ℕ) (key : ℕ) → AreKeys seed k keys → k < length keys → key ≡ splitmix seed k → AreKeys seed (k + 1) (set keys k key)
one_key_more seed k keys key so_far inside is h d below =
    ⊎_elim
    (λ (e : h ≡ k). ap (λ (q : ℕ). get_or (set keys k key) q d) e ∙ get_or-set_same keys k key d inside ∙ is ∙ ap (splitmix seed) (sym e))
    (λ (n : h ≡ k → ⊥). get_or-set_other keys k h key d n ∙ so_far h d (omega (arith, below, n)))
    (cases_eq h k)

-- as long as the table is
pub all_keys : (seed k : ℕ) (keys : List ℕ) → length keys ≤ k → AreKeys seed k keys → AreKeys seed (length keys) keys
all_keys seed k keys long so_far h d below = so_far h d (omega (arith, long, below))

-- with no seed nothing costs twice
pub unseeded : (seed hart count : ℕ) → seed ≡ 0 → false ≡ is_doubled seed hart count
unfolding is_doubled
unseeded seed hart count none = rw none refl
