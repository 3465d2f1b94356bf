-- The hand-overs of a run lead back to its start.
use Rattle.std.proofs.Common.{◌≡◌, ℕ, zero, suc, ◌≤◌, ◌<◌, Bool, true, false, if◌then◌else◌, List, [], ◌∷◌, ◌++◌, length, append-nil, refl, sym, ap, ◌∙◌, subst, arith, ◌⊎◌, inl, inr}
use Rattle.std.proofs.lemmas.Bool.{cases_eq}
use Rattle.hart_states.specs.declared.change.Change.{Change}
use Rattle.hart_states.specs.Changes.{InOrder}
use Rattle.hart_handovers.specs.declared.handover.Handover.{Handover}
use Rattle.hart_handovers.specs.Handovers.{handover, handovers, runs}
use Rattle.hart_handovers.specs.Path.{ArePast, IsBegun, Rooted, handover_at}
use Rattle.hart_handovers.specs.Laws.{AreBegun, AreWhole, HandoversAreWhole, HasRun}

at_front : (xs : List Handover) (o : Handover) (i : ℕ) → i < length xs → handover_at (xs ++ o ∷ []) i ≡ handover_at xs i
at_front [] o i below = absurd (omega (arith, below))
at_front (x ∷ xs) o zero below = refl
at_front (x ∷ xs) o (suc i) below = at_front xs o i (omega (arith, below))

at_end : (xs : List Handover) (o : Handover) → handover_at (xs ++ o ∷ []) (length xs) ≡ o
at_end [] o = refl
at_end (x ∷ xs) o = at_end xs o

one_longer : (xs : List Handover) (o : Handover) → length (xs ++ o ∷ []) ≡ suc (length xs)
one_longer [] o = refl
one_longer (x ∷ xs) o = ap suc (one_longer xs o)

-- a hand-over more
record Added (v now : ℕ) (xs : List Handover) (o : Handover) : Type 0 where
  rooted : Rooted xs
  all : ArePast xs v (length xs)
  moment : o.moment ≡ v
  later : v ≤ now
  from : (0 < length xs → IsBegun xs o.by.0 (length xs)) × (length xs ≡ 0 → v ≡ 0)

begun_more : (xs : List Handover) (o : Handover) (h n : ℕ) → n ≤ length xs → IsBegun xs h n → IsBegun (xs ++ o ∷ []) h n
begun_more xs o h n few b = (b.0, (b.1.0, subst (λ (p : Handover). p.hart.0 ≡ h) (sym (at_front xs o b.0 (let below = b.1.0 in omega (arith, few, below)))) b.1.1))

module _ (v now : ℕ) (xs : List Handover) (o : Handover) (a : Added v now xs o) where
  abbrev ys : List Handover
  ys = xs ++ o ∷ []

  first : (ys_first : (n : ℕ) → length xs ≡ n → (handover_at ys 0).moment ≡ 0) → (handover_at ys 0).moment ≡ 0
  first f = f (length xs) refl

  first_by : (n : ℕ) → length xs ≡ n → (handover_at ys 0).moment ≡ 0
  first_by zero is = ap (λ (i : ℕ). (handover_at ys i).moment) (sym is) ∙ ap (λ (p : Handover). p.moment) (at_end xs o) ∙ a.moment ∙ a.from.1 is
  first_by (suc n) is = ap (λ (p : Handover). p.moment) (at_front xs o 0 (omega (arith, is))) ∙ a.rooted.first

  within : (i : ℕ) → i < length ys → (i < length xs) ⊎ (i ≡ length xs)
  within i below = by (cases_eq i (length xs))
    where
      by : (i ≡ length xs) ⊎ (i ≡ length xs → ⊥) → (i < length xs) ⊎ (i ≡ length xs)
      by (inl same) = inr same
      by (inr other) = inl (let more = one_longer xs o in omega (arith, below, more, other))

  begun_by : (i : ℕ) → 0 < i → (i < length xs) ⊎ (i ≡ length xs) → IsBegun ys (handover_at ys i).by.0 i
  begun_by i some (inl below) = subst (λ (p : Handover). IsBegun ys p.by.0 i) (sym (at_front xs o i below)) (begun_more xs o (handover_at xs i).by.0 i (omega (arith, below)) (a.rooted.begun i some below))
  begun_by i some (inr last) =
      subst (λ (n : ℕ). IsBegun ys (handover_at ys n).by.0 n) (sym last)
      (subst (λ (p : Handover). IsBegun ys p.by.0 (length xs)) (sym (at_end xs o)) (begun_more xs o o.by.0 (length xs) (omega arith) (a.from.0 (omega (arith, some, last)))))

  -- none below a number is later than its moment
  past_front : (m n : ℕ) → n ≤ length xs → ArePast xs m n → ArePast ys m n
  past_front m n few p i below = subst (λ (q : Handover). q.moment ≤ m) (sym (at_front xs o i (omega (arith, few, below)))) (p i below)

  rising_by : (i : ℕ) → (i < length xs) ⊎ (i ≡ length xs) → ArePast ys (handover_at ys i).moment i
  rising_by i (inl below) = subst (λ (p : Handover). ArePast ys p.moment i) (sym (at_front xs o i below)) (past_front (handover_at xs i).moment i (omega (arith, below)) (a.rooted.rising i below))
  rising_by i (inr last) =
      subst (λ (n : ℕ). ArePast ys (handover_at ys n).moment n) (sym last)
      (subst (λ (p : Handover). ArePast ys p.moment (length xs)) (sym (at_end xs o)) (past_front o.moment (length xs) (omega arith) (subst (λ (m : ℕ). ArePast xs m (length xs)) (sym a.moment) a.all)))

  rooted_more : Rooted ys
  rooted_more = record {
    first = first_by (length xs) refl;
    begun = λ i some below. begun_by i some (within i below);
    rising = λ i below. rising_by i (within i below);
  }

  past_by : (i : ℕ) → (i < length xs) ⊎ (i ≡ length xs) → (handover_at ys i).moment ≤ now
  past_by i (inl below) = let early = a.all i below in let same = ap (λ (p : Handover). p.moment) (at_front xs o i below) in let later = a.later in omega (arith, early, same, later)
  past_by i (inr last) =
      let here = ap (λ (p : Handover). p.moment) (at_end xs o) in
      let later = a.later in let same = a.moment in
      subst (λ (n : ℕ). (handover_at ys n).moment ≤ now) (sym last) (omega (arith, here, later, same))

  past_more : ArePast ys now (length ys)
  past_more i below = past_by i (within i below)

later_past : (v now n : ℕ) (xs : List Handover) → v ≤ now → ArePast xs v n → ArePast xs now n
later_past v now n xs later p i below = let early = p i below in omega (arith, later, early)

-- whoever has run has a hand-over
some_more : (v now : ℕ) (c : Change) (past : List Change) (xs : List Handover) (b : Bool) → v ≡ c.moment → v ≤ now → runs c.to ≡ b → Rooted xs → ArePast xs v (length xs) → ((h : ℕ) → HasRun h past → IsBegun xs h (length xs))
    → (0 < length xs → IsBegun xs c.by.0 (length xs)) × (length xs ≡ 0 → (v ≡ 0) × (b ≡ true)) → AreWhole now (c ∷ past) (xs ++ (if b then handover c past ∷ [] else []))
some_more v now c past xs true same later is rooted all each from = record {
  rooted = rooted_more v now xs o added;
  past_all = past_more v now xs o added;
  each = λ h run. by h run;
}
  where
    o : Handover
    o = handover c past

    added : Added v now xs (handover c past)
    added = record { rooted = rooted; all = all; moment = sym same; later = later; from = (from.0, λ none. (from.1 none).0) }

    by : (h : ℕ) → ((c.hart.0 ≡ h) × (runs c.to ≡ true)) ⊎ HasRun h past → IsBegun (xs ++ handover c past ∷ []) h (length (xs ++ handover c past ∷ []))
    by h (inl own) = (length xs, (let more = one_longer xs (handover c past) in omega (arith, more), ap (λ (p : Handover). p.hart.0) (at_end xs (handover c past)) ∙ own.0))
    by h (inr run) =
        let b = begun_more xs (handover c past) h (length xs) (omega arith) (each h run) in
        (b.0, (let below = b.1.0 in let more = one_longer xs (handover c past) in omega (arith, below, more), b.1.1))
some_more v now c past xs false same later is rooted all each from =
    subst (AreWhole now (c ∷ past)) (sym (append-nil xs)) (record {
      rooted = rooted;
      past_all = later_past v now (length xs) xs later all;
      each = by;
    })
  where
    by : (h : ℕ) → ((c.hart.0 ≡ h) × (runs c.to ≡ true)) ⊎ HasRun h past → IsBegun xs h (length xs)
    by h (inl own) = let no : false ≡ true = sym is ∙ own.1 in absurd cc
    by h (inr run) = each h run

no_rooted : Rooted []
no_rooted = record {
  first = refl;
  begun = λ i some below. absurd (omega (arith, below));
  rising = λ i below. absurd (omega (arith, below));
}

some_begun : (xs : List Handover) (h n : ℕ) → n ≡ 0 → IsBegun xs h n → ⊥
some_begun xs h n none b = let below = b.1.0 in omega (arith, none, below)

whole : (now : ℕ) (past : List Change) → InOrder now past → AreBegun past → AreWhole now past (handovers past)
whole now [] order begun = record { rooted = no_rooted; past_all = λ i below. absurd (omega (arith, below)); each = λ h run. absurd run }
whole now (c ∷ []) order begun =
    some_more c.moment now c [] [] (runs c.to) refl order.0 refl no_rooted (λ i below. absurd (omega (arith, below))) (λ h run. absurd run)
    (λ some. absurd (omega (arith, some)), λ none. (begun.0, begun.1))
whole now (c ∷ b ∷ past) order begun =
    let k : AreWhole c.moment (b ∷ past) (handovers (b ∷ past)) = whole c.moment (b ∷ past) order.1 begun.1 in
    some_more c.moment now c (b ∷ past) (handovers (b ∷ past)) (runs c.to) refl order.0 refl k.rooted k.past_all k.each
    (λ some. k.each c.by.0 begun.0, λ none. absurd (some_begun (handovers (b ∷ past)) c.by.0 (length (handovers (b ∷ past))) none (k.each c.by.0 begun.0)))

pub are_whole : HandoversAreWhole
are_whole now past order begun = whole now past order begun
