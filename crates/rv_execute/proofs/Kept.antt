-- One pass over reservations: those that are kept are moved to the front, in their order.
use mir.Val.{bool_byte}
use Rattle.std.proofs.Common.{ℕ, suc, ◌≡◌, ◌≤◌, ◌<◌, ◌+◌, Bool, true, false, List, [], ◌∷◌, ◌++◌, length, take, drop, set, get_or, filter, arith, sym, ◌∙◌, ap, ap₂, add-one, add-zero, drop-cons, length-set}
use Rattle.std.proofs.lemmas.List.{append-nil, drop-set-lt, take-set, take_more, take_more_set}
use Rattle.std.proofs.lemmas.List.Elements.{filter-append}
use Rattle.rv_execute.specs.Held.{AreApart}
use Rattle.rv_execute.proofs.HeldLemmas.{apart-filter}

-- after i places, of which some are kept
pub record Kept (keeps : (ℕ × ℕ) → Bool) (old : List (ℕ × ℕ)) (i kept : ℕ) (places : List (ℕ × ℕ)) : Type 0 where
  pub within : kept ≤ i
  pub same : length places ≡ length old
  pub rest : drop i places ≡ drop i old
  pub done : take kept places ≡ filter keeps (take i old)

-- the reservation at i is the old one, and the rest too
at_rest : (old places : List (ℕ × ℕ)) (i : ℕ) (d : ℕ × ℕ) → length places ≡ length old → i < length old → drop i places ≡ drop i old → (get_or places i d ≡ get_or old i d) × (drop (i + 1) places ≡ drop (i + 1) old)
at_rest old places i d same below rest =
    let ours : drop i places ≡ get_or places i d ∷ drop (suc i) places = drop-cons places i d (omega arith) in
    let theirs : drop i old ≡ get_or old i d ∷ drop (suc i) old = drop-cons old i d below in
    rw add-one (cc, cc)

-- what is kept of one reservation more
filter-more : (keeps : (ℕ × ℕ) → Bool) (old : List (ℕ × ℕ)) (i : ℕ) (d : ℕ × ℕ) → i < length old → filter keeps (take (i + 1) old) ≡ filter keeps (take i old) ++ filter keeps (get_or old i d ∷ [])
filter-more keeps old i d below = ap (filter keeps) (take_more old i d below) ∙ filter-append keeps (take i old) (get_or old i d ∷ [])

-- an element is put after those in front, and counted if the test keeps it
counted : (keeps : (ℕ × ℕ) → Bool) (places : List (ℕ × ℕ)) (kept : ℕ) (w : ℕ × ℕ) (b : Bool) → kept < length places → keeps w ≡ b
    → (kept + bool_byte b ≤ kept + 1) × (take (kept + bool_byte b) (set places kept w) ≡ take kept places ++ filter keeps (w ∷ []))
counted keeps places kept w true below is = (omega arith, rw is (take_more_set places kept w below))
counted keeps places kept w false below is = (omega arith, rw (is, add-zero, append-nil) (take-set places kept w))

-- one reservation more is moved after those that are kept, and counted where the test keeps it
pub kept-more : {keeps : (ℕ × ℕ) → Bool} {old places : List (ℕ × ℕ)} {i kept : ℕ} (d : ℕ × ℕ) (b : Bool) → Kept keeps old i kept places → i < length old → keeps (get_or places i d) ≡ b → Kept keeps old (i + 1) (kept + bool_byte b) (set places kept (get_or places i d))
kept-more {keeps} {old} {places} {i} {kept} d b p below is =
    let w : ℕ × ℕ = get_or places i d in
    let at : (w ≡ get_or old i d) × (drop (i + 1) places ≡ drop (i + 1) old) = at_rest old places i d p.same below p.rest in
    let within : kept ≤ i = p.within in
    let same : length places ≡ length old = p.same in
    let more = counted keeps places kept w b (omega arith) is in
    record {
      within = omega (arith, more.0);
      same = length-set places kept w ∙ p.same;
      rest = drop-set-lt (i + 1) places kept w (omega arith) ∙ at.1;
      done = more.1 ∙ ap₂ (λ xs x. xs ++ filter keeps (x ∷ [])) p.done at.0 ∙ sym (filter-more keeps old i d below);
    }

-- all places are passed
pub kept-all : {keeps : (ℕ × ℕ) → Bool} {old places : List (ℕ × ℕ)} {i kept n : ℕ} → Kept keeps old i kept places → i ≤ n → n ≤ i → AreApart (take n old) → n ≤ 256 → AreApart (take kept places) × (kept ≤ 256)
kept-all {keeps} {old} {places} {i} {kept} {n} p most least apart few =
    let within : kept ≤ i = p.within in
    let all : i ≡ n = omega arith in
    (rw (p.done, all) (apart-filter keeps (take n old) apart), omega arith)
