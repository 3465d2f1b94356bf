-- One more instruction is counted.
use Rattle.std.proofs.Common.{◌≡◌, ℕ, ◌+◌, ◌<◌, Bool, true, false, cond, if◌then◌else◌, ◌==◌, List, [], ◌∷◌, ◌++◌, map, fold, length, set, refl, sym, ap, ap₂, ◌∙◌, subst, arith, Option, Some, None, ◌⊎◌, inl, inr, eq-eqb, ne_eqb, add-zero, append-nil, length-append}
use Rattle.std.specs.Prelude.{nat_lt, is_none}
use Rattle.std.proofs.lemmas.Bool.{cases_eq, lt-ltb, ltb-true}
use Rattle.std.proofs.lemmas.List.{get_or-set_same, get_or-set_other, length-set, append_assoc}
use Rattle.std.proofs.lemmas.List.Sums.{sum_by_push, sum_by-set}
use Rattle.machines.specs.Guest.{Experiment, cost}
use Rattle.run_counts.specs.declared.tallies.Tally.{Tally}
use Rattle.run_counts.specs.Beginnings.{Beginning, starts_among, cost_if, cost_among}
use Rattle.run_counts.specs.Counts.{Counts, no_tally, tally_at, place_in, with_start, with_one, is_on, on_line, on_none, with_beginning, AreCounts}

-- the line at position k is this one
added : (lines : List Tally) (j k ticks : ℕ) → j < length lines
    → tally_at (set lines j (with_start ticks (tally_at lines j))) k
    ≡ record { starts = (tally_at lines k).starts + cond (j == k) 1 0; cost = (tally_at lines k).cost + (if j == k then ticks else 0) }
added lines j k ticks below = go (cases_eq j k)
  where
    go : (j ≡ k) ⊎ (j ≡ k → ⊥) → tally_at (set lines j (with_start ticks (tally_at lines j))) k
        ≡ record { starts = (tally_at lines k).starts + cond (j == k) 1 0; cost = (tally_at lines k).cost + (if j == k then ticks else 0) }
    go (inl same) =
        rw (eq-eqb j k same)
        (subst (λ (i : ℕ). tally_at (set lines j (with_start ticks (tally_at lines j))) i ≡ with_start ticks (tally_at lines i)) same
        (get_or-set_same lines j (with_start ticks (tally_at lines j)) no_tally below))
    go (inr other) =
        rw (ne_eqb j k other)
        (get_or-set_other lines j k (with_start ticks (tally_at lines j)) no_tally (λ e. other (sym e))
        ∙ ap₂ (λ (m n : ℕ). record { starts = m; cost = n }) (sym (add-zero (tally_at lines k).starts)) (sym (add-zero (tally_at lines k).cost)))

same_parts : (s t : Tally) → s ≡ t → (s.starts ≡ t.starts) × (s.cost ≡ t.cost)
same_parts s t e = (ap (λ (t : Tally). t.starts) e, ap (λ (t : Tally). t.cost) e)

-- a place that is not one of them is no line's
out_of : (j k count : ℕ) → nat_lt j count ≡ false → k < count → (j == k) ≡ false
out_of j k count out below = ne_eqb j k (λ same. let no : true ≡ false = sym (lt-ltb j count (subst (λ (i : ℕ). i < count) (sym same) below)) ∙ out in cc)

module _ {G : Type 0} (x : Experiment G) (place : G → ℕ → Option ℕ) (count : ℕ) where
  abbrev Are : List (Beginning G) → Counts → Type 0
  Are = AreCounts x place count

  abbrev one : G → ℕ → Beginning G
  one g h = record { guest = g; hart = h }

  -- what one more instruction adds
  starts_more : (test : G → ℕ → Bool) (bs : List (Beginning G)) (g : G) (h : ℕ) → starts_among x test (bs ++ one g h ∷ []) ≡ starts_among x test bs + cond (test g h) 1 0
  starts_more test bs g h = sum_by_push (λ (b : Beginning G). cond (test b.guest b.hart) 1 0) bs (one g h)

  cost_more : (test : G → ℕ → Bool) (bs : List (Beginning G)) (g : G) (h : ℕ) → cost_among x test (bs ++ one g h ∷ []) ≡ cost_among x test bs + (if test g h then cost x g h else 0)
  cost_more test bs g h = sum_by_push (cost_if x test) bs (one g h)

  more_begun : (bs : List (Beginning G)) (g : G) (h : ℕ) → length (bs ++ one g h ∷ []) ≡ length bs + 1
  more_begun bs g h = length-append bs (one g h ∷ [])

  module _ (bs : List (Beginning G)) (c : Counts) (are : Are bs c) (g : G) (h : ℕ) where
    abbrev ticks : ℕ
    ticks = cost x g h

    abbrev new : List (Beginning G)
    new = bs ++ one g h ∷ []

    -- an instruction of none of the lines
    lineless : (o : Option ℕ) → place g h ≡ o → ((k : ℕ) → k < count → is_on k o ≡ false) → is_none (place_in count o) ≡ true → Are new (with_one None ticks c)
    lineless o is out none = record {
      begun_are = ap (λ n. n + 1) are.begun_are ∙ sym (more_begun bs g h);
      room = are.room;
      starts = λ k below.
          are.starts k below ∙ sym (starts_more (on_line x place k) bs g h ∙ ap (λ b. starts_among x (on_line x place k) bs + cond b 1 0) (ap (is_on k) is ∙ out k below) ∙ add-zero (starts_among x (on_line x place k) bs));
      cost = λ k below.
          are.cost k below ∙ sym (cost_more (on_line x place k) bs g h ∙ ap (λ b. cost_among x (on_line x place k) bs + (if b then ticks else 0)) (ap (is_on k) is ∙ out k below) ∙ add-zero (cost_among x (on_line x place k) bs));
      none = ap (λ n. n + ticks) are.none
          ∙ sym (cost_more (on_none x place count) bs g h ∙ ap (λ b. cost_among x (on_none x place count) bs + (if b then ticks else 0)) (ap (λ o. is_none (place_in count o)) is ∙ none));
      all = ap (λ n. n + ticks) are.all ∙ sym (cost_more (λ g h. true) bs g h);
      whole = let before = are.whole in omega arith;
    }

    -- an instruction of the line at position j
    lined : (j : ℕ) → place g h ≡ Some j → nat_lt j count ≡ true → Are new (with_one (Some j) ticks c)
    lined j is below =
        let low : j < length c.lines = subst (λ (n : ℕ). j < n) (sym are.room) (ltb-true j count below) in
        let lines : List Tally = set c.lines j (with_start ticks (tally_at c.lines j)) in
        let sum = sum_by-set (λ (t : Tally). t.cost) c.lines j (with_start ticks (tally_at c.lines j)) no_tally low in
        record {
          begun_are = ap (λ n. n + 1) are.begun_are ∙ sym (more_begun bs g h);
          room = length-set c.lines j (with_start ticks (tally_at c.lines j)) ∙ are.room;
          starts = λ k few.
              ap (λ (t : Tally). t.starts) (added c.lines j k ticks low)
              ∙ ap (λ n. n + cond (j == k) 1 0) (are.starts k few)
              ∙ sym (starts_more (on_line x place k) bs g h ∙ ap (λ o. starts_among x (on_line x place k) bs + cond (is_on k o) 1 0) is);
          cost = λ k few.
              ap (λ (t : Tally). t.cost) (added c.lines j k ticks low)
              ∙ ap (λ n. n + (if j == k then ticks else 0)) (are.cost k few)
              ∙ sym (cost_more (on_line x place k) bs g h ∙ ap (λ o. cost_among x (on_line x place k) bs + (if is_on k o then ticks else 0)) is);
          none =
              are.none
              ∙ sym (cost_more (on_none x place count) bs g h
              ∙ ap (λ o. cost_among x (on_none x place count) bs + (if is_none (place_in count o) then ticks else 0)) is
              ∙ ap (λ b. cost_among x (on_none x place count) bs + (if is_none (if b then Some j else None) then ticks else 0)) below
              ∙ add-zero (cost_among x (on_none x place count) bs));
          all = ap (λ n. n + ticks) are.all ∙ sym (cost_more (λ g h. true) bs g h);
          whole = let before = are.whole in omega arith;
        }

    placed : (j : ℕ) → place g h ≡ Some j → (b : Bool) → nat_lt j count ≡ b → Are new (with_one (if b then Some j else None) ticks c)
    placed j is true below = lined j is below
    placed j is false out = lineless (Some j) is (λ k below. out_of j k count out below) (ap (λ b. is_none (if b then Some j else None)) out)

    by_place : (o : Option ℕ) → place g h ≡ o → Are new (with_one (place_in count o) ticks c)
    by_place None is = lineless None is (λ k below. refl) refl
    by_place (Some j) is = placed j is (nat_lt j count) refl

    -- the counts with the next instruction of a hart are those of one more instruction
    pub one_more : AreCounts x place count (bs ++ record { guest = g; hart = h } ∷ []) (with_beginning x place g c h)
    one_more = subst (λ (n : ℕ). Are new (with_one (place_in n (place g h)) ticks c)) (sym are.room) (by_place (place g h) refl)

  -- and with those of some harts
  pub each_more : (g : G) (hs : List ℕ) (bs : List (Beginning G)) (c : Counts) → AreCounts x place count bs c
      → AreCounts x place count (bs ++ map (λ h. record { guest = g; hart = h }) hs) (fold (with_beginning x place g) c hs)
  each_more g [] bs c are = subst (λ (l : List (Beginning G)). Are l c) (sym (append-nil bs)) are
  each_more g (h ∷ hs) bs c are =
      subst (λ (l : List (Beginning G)). Are l (fold (with_beginning x place g) (with_beginning x place g c h) hs)) (append_assoc bs (one g h ∷ []) (map (one g) hs))
      (each_more g hs (bs ++ one g h ∷ []) (with_beginning x place g c h) (one_more bs c are g h))
