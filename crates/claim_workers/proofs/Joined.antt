-- What a worker did, one claim further, and what two workers did, joined.
use Rattle.std.proofs.Common.{◌≡◌, ℕ, zero, suc, ◌+◌, ◌<◌, ◌≤◌, Bool, cond, nat_lt, nat_le, Some, None, false, List, [], ◌∷◌, ◌++◌, map, length, sym, ap, ap₂, ◌∙◌, arith, length-append, lt_of_not-le}
use Rattle.std.proofs.lemmas.Bool.{lt-ltb}
use Rattle.std.proofs.lemmas.List.{map-append, append-nil}
use Rattle.std.proofs.lemmas.List.Sums.{sum_by-append, sum_by_push}
use Rattle.std.proofs.lemmas.List.Elements.{filter-append}
use Rattle.experiment_claims.specs.declared.hand.Hand.{Hand}
use Rattle.experiment_claims.specs.Seats.{Draws}
use Rattle.claim_workers.specs.declared.claimed.Claimed.{Claimed}
use native.Mathlib.Decide.{dec_le}
use Rattle.coz_types.specs.declared.record.Summary.{Summary}
use Rattle.claim_workers.specs.Worked.{Worked, claimed_by, claims_in, count_past}

-- what is drawn as a claim is a number below the bound
drawn_below : {b : ℕ} {old new : Hand} (claim : ℕ) (d : Draws b old new (Some claim)) → Dec (b ≤ d.number) → (d.number < b) × (claim ≡ d.number)
drawn_below claim d (yes far) = let none = d.past far in absurd cc
drawn_below claim d (no not) = let within = lt_of_not-le not in let is = d.within within in (within, cc)

-- one claim more
pub worked_drawn : {f : ℕ → List Summary} {b t : ℕ} {h : Hand} {done : List Claimed} → Worked f b t 0 h done
    → (new : Hand) (claim : ℕ) (summaries : List Summary) (all : List Claimed) → Draws b h new (Some claim) → summaries ≡ f claim
    → all ≡ done ++ record { claim = claim; summaries = summaries } ∷ [] → Worked f b t 0 new all × (length new.numbers ≤ b)
worked_drawn {f} {b} {h} {done} before new claim summaries all d gave is =
    let own = drawn_below claim d (dec_le b d.number) in
    let within : d.number < b = own.0 in
    let same : ◌≡◌ {A = Claimed} (record { claim = claim; summaries = summaries }) (claimed_by f d.number) =
    ap₂ (λ (c : ℕ) (ss : List Summary). record { claim = c; summaries = ss }) own.1 (gave ∙ ap f own.1) in
    let one : claims_in b (d.number ∷ []) ≡ d.number ∷ [] = ap (λ (t : Bool). cond t (d.number ∷ []) []) (lt-ltb d.number b within) in
    let none : cond (nat_le b d.number) 1 0 ≡ zero = grind arith in
    let spent = before.all in
    let turn = d.turn in
    let apart = d.apart in
    let more : length new.numbers ≡ length h.numbers + 1 = ap length d.numbers ∙ length-append h.numbers (d.number ∷ []) in (
      record {
        all = omega (arith, more);
        each =
            is
            ∙ ap (λ (c : Claimed). done ++ c ∷ []) same
            ∙ ap (λ (l : List Claimed). l ++ claimed_by f d.number ∷ []) before.each
            ∙ sym (map-append (claimed_by f) (claims_in b h.numbers) (d.number ∷ []))
            ∙ ap (λ (l : List ℕ). map (claimed_by f) (claims_in b h.numbers ++ l)) (sym one)
            ∙ ap (map (claimed_by f)) (sym (filter-append (λ n. nat_lt n b) h.numbers (d.number ∷ [])))
            ∙ ap (λ (l : List ℕ). map (claimed_by f) (claims_in b l)) (sym d.numbers);
        stopped = omega (arith, ap (count_past b) d.numbers, sum_by_push (λ n. cond (nat_le b n) 1 0) h.numbers d.number, before.stopped, none);
      },
      omega (arith, more),
    )

-- what is drawn as no claim is a number from the bound on
drawn_past : {b : ℕ} {old new : Hand} (d : Draws b old new None) → Dec (b ≤ d.number) → b ≤ d.number
drawn_past d (yes far) = far
drawn_past d (no not) = let within = d.within (lt_of_not-le not) in absurd cc

-- a draw that met the bound
pub worked_stopped : {f : ℕ → List Summary} {b t : ℕ} {h : Hand} {done : List Claimed} → Worked f b t 0 h done
    → (new : Hand) → Draws b h new None → Worked f b t 1 new done
worked_stopped {f} {b} {t} {h} {done} before new d =
    let far : b ≤ d.number = drawn_past d (dec_le b d.number) in
    let no : nat_lt d.number b ≡ false = grind arith in
    let none : claims_in b (d.number ∷ []) ≡ [] = ap (λ (t : Bool). cond t (d.number ∷ []) []) no in
    let one : cond (nat_le b d.number) 1 0 ≡ suc 0 = grind arith in
    let spent = before.all in
    let turn = d.turn in
    let more : length new.numbers ≡ length h.numbers + 1 = ap length d.numbers ∙ length-append h.numbers (d.number ∷ []) in
    record {
      all = omega (arith, more);
      each =
          before.each
          ∙ ap (map (claimed_by f)) (sym (append-nil (claims_in b h.numbers)) ∙ ap (λ (l : List ℕ). claims_in b h.numbers ++ l) (sym none))
          ∙ ap (map (claimed_by f)) (sym (filter-append (λ n. nat_lt n b) h.numbers (d.number ∷ [])))
          ∙ ap (λ (l : List ℕ). map (claimed_by f) (claims_in b l)) (sym d.numbers);
      stopped = omega (arith, ap (count_past b) d.numbers, sum_by_push (λ n. cond (nat_le b n) 1 0) h.numbers d.number, before.stopped, one);
    }

pub worked_joined : {f : ℕ → List Summary} {b t s t' s' : ℕ} {h k : Hand} {ps qs : List Claimed} → Worked f b t s h ps → Worked f b t' s' k qs
    → (both : Hand) (all : List Claimed) (turns stops : ℕ)
    → both.turns ≡ h.turns + k.turns → both.numbers ≡ h.numbers ++ k.numbers → all ≡ ps ++ qs → turns ≡ t + t' → stops ≡ s + s'
    → Worked f b turns stops both all
worked_joined {f} {b} {h} {k} {ps} {qs} x y both all turns stops is-turns is-numbers is-all is-sum is-stops =
    let spent = x.all in
    let spent' = y.all in
    record {
      all = omega (arith, ap length is-numbers, length-append h.numbers k.numbers);
      each =
          is-all
          ∙ ap (λ (l : List Claimed). l ++ qs) x.each
          ∙ ap (λ (l : List Claimed). map (claimed_by f) (claims_in b h.numbers) ++ l) y.each
          ∙ sym (map-append (claimed_by f) (claims_in b h.numbers) (claims_in b k.numbers))
          ∙ ap (map (claimed_by f)) (sym (filter-append (λ n. nat_lt n b) h.numbers k.numbers))
          ∙ ap (λ (l : List ℕ). map (claimed_by f) (claims_in b l)) (sym is-numbers);
      stopped = omega (arith, ap (count_past b) is-numbers, sum_by-append (λ n. cond (nat_le b n) 1 0) h.numbers k.numbers, x.stopped, y.stopped);
    }
