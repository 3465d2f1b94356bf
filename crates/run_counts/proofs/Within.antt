-- How large counts are, and that those of the lines are all there are.
use Rattle.std.proofs.Common.{◌≡◌, ℕ, zero, suc, ◌+◌, ◌≤◌, ◌<◌, Bool, true, false, if◌then◌else◌, List, [], ◌∷◌, map, length, set, replicate, refl, sym, ap, ap₂, ◌∙◌, arith, Option, Some, None, ◌⊎◌, inl, inr, take}
use Rattle.std.specs.List.{sum_by, sum, range_with_len}
use Rattle.std.proofs.lemmas.Bool.{cases_lt}
use Rattle.std.proofs.lemmas.List.{length-set, length-replicate, take_all}
use Rattle.std.proofs.lemmas.List.Sums.{sum_by-cons, sum_by_more, count_by-le-length}
use Rattle.std.proofs.lemmas.List.FromFn.{sum_by-map-range_with_len_more}
use Rattle.machines.specs.Guest.{Experiment, cost}
use Rattle.run_counts.specs.declared.tallies.Tally.{Tally}
use Rattle.run_counts.specs.Beginnings.{Beginning, cost_if, cost_among}
use Rattle.run_counts.specs.Counts.{Counts, no_tally, tally_at, no_counts, with_start, with_one, on_line, on_none, IsWithin, AreCounts}

none_at : (n k : ℕ) → tally_at (replicate n no_tally) k ≡ no_tally
none_at zero k = refl
none_at (suc n) zero = refl
none_at (suc n) (suc k) = none_at n k

none_cost : (n : ℕ) → sum_by (λ (t : Tally). t.cost) (replicate n no_tally) ≡ 0
none_cost zero = refl
none_cost (suc n) = sum_by-cons (λ (t : Tally). t.cost) no_tally (replicate n no_tally) ∙ (let none = none_cost n in omega arith)

beyond : (lines : List Tally) (k : ℕ) → length lines ≤ k → tally_at lines k ≡ no_tally
beyond [] k out = refl
beyond (t ∷ ts) zero out = absurd (let no : suc (length ts) ≤ 0 = out in omega arith)
beyond (t ∷ ts) (suc k) out = beyond ts k (omega arith)

-- a tally that is set is the new one or the old one
either_tally : (P : Tally → Type 0) (lines : List Tally) (j : ℕ) (new : Tally) → P new → ((k : ℕ) → P (tally_at lines k)) → (k : ℕ) → P (tally_at (set lines j new) k)
either_tally P [] j new is old k = old k
either_tally P (t ∷ ts) zero new is old zero = is
either_tally P (t ∷ ts) zero new is old (suc k) = old (suc k)
either_tally P (t ∷ ts) (suc j) new is old zero = old 0
either_tally P (t ∷ ts) (suc j) new is old (suc k) = either_tally P ts j new is (λ i. old (suc i)) k

-- one more instruction leaves them within what they may be
pub within_one : (place : Option ℕ) (ticks : ℕ) (c : Counts) → IsWithin c → IsWithin (with_one place ticks c)
within_one None ticks c w = record {
  starts = λ k. let s = w.starts k in omega arith;
  cost = λ k. let s = w.cost k in omega arith;
  none = let s = w.none in omega arith;
}
within_one (Some j) ticks c w =
    let both : (k : ℕ) → ((tally_at c.lines k).starts ≤ c.begun + 1) × ((tally_at c.lines k).cost ≤ c.all + ticks) = λ k. let s = w.starts k in let t = w.cost k in (omega arith, omega arith) in
    let is = either_tally (λ (t : Tally). (t.starts ≤ c.begun + 1) × (t.cost ≤ c.all + ticks)) c.lines j (with_start ticks (tally_at c.lines j))
    (let s = w.starts j in let t = w.cost j in (omega arith, omega arith)) both in
    record {
      starts = λ k. (is k).0;
      cost = λ k. (is k).1;
      none = let s = w.none in omega arith;
    }

pub one_begun : (place : Option ℕ) (ticks : ℕ) (c : Counts) → (with_one place ticks c).begun ≡ c.begun + 1
one_begun None ticks c = refl
one_begun (Some j) ticks c = refl

pub one_all : (place : Option ℕ) (ticks : ℕ) (c : Counts) → (with_one place ticks c).all ≡ c.all + ticks
one_all None ticks c = refl
one_all (Some j) ticks c = refl

pub one_room : (place : Option ℕ) (ticks : ℕ) (c : Counts) → length (with_one place ticks c).lines ≡ length c.lines
one_room None ticks c = refl
one_room (Some j) ticks c = length-set c.lines j (with_start ticks (tally_at c.lines j))

module _ {G : Type 0} (x : Experiment G) where
  -- the work of those that pass a test is at most that of all
  pub cost_le : (test : G → ℕ → Bool) (bs : List (Beginning G)) → cost_among x test bs ≤ cost_among x (λ g h. true) bs
  cost_le test [] = omega arith
  cost_le test (b ∷ bs) =
      let rest = cost_le test bs in
      let some = sum_by-cons (cost_if x test) b bs in
      let all = sum_by-cons (cost_if x (λ g h. true)) b bs in
      let one : cost_if x test b ≤ cost x b.guest b.hart = go (test b.guest b.hart) in
      omega arith
    where
      go : (t : Bool) → (if t then cost x b.guest b.hart else 0) ≤ cost x b.guest b.hart
      go true = omega arith
      go false = omega arith

module _ {G : Type 0} (x : Experiment G) (place : G → ℕ → Option ℕ) (count : ℕ) where
  -- nothing is counted before the first instruction
  pub first_counts : AreCounts x place count [] (no_counts count)
  first_counts = record {
    begun_are = refl;
    room = length-replicate count no_tally;
    starts = λ k below. ap (λ (t : Tally). t.starts) (none_at count k);
    cost = λ k below. ap (λ (t : Tally). t.cost) (none_at count k);
    none = refl;
    all = refl;
    whole = let none = none_cost count in omega arith;
  }

  -- the counts of some instructions are within what they may be
  pub within : (bs : List (Beginning G)) (c : Counts) → AreCounts x place count bs c → IsWithin c
  within bs c are = record {
    starts = λ k. (both k (cases_lt k count)).0;
    cost = λ k. (both k (cases_lt k count)).1;
    none = let is = are.none in let a = are.all in let few = cost_le x (on_none x place count) bs in omega arith;
  }
    where
      both : (k : ℕ) → (k < count) ⊎ (count ≤ k) → ((tally_at c.lines k).starts ≤ c.begun) × ((tally_at c.lines k).cost ≤ c.all)
      both k (inl below) =
          let n = are.begun_are in
          let a = are.all in
          let s = are.starts k below in
          let t = are.cost k below in
          let few = count_by-le-length (λ (b : Beginning G). on_line x place k b.guest b.hart) bs in
          let cheap = cost_le x (on_line x place k) bs in
          (omega arith, omega arith)
      both k (inr out) =
          let none = beyond c.lines k (let room = are.room in omega arith) in
          let s = ap (λ (t : Tally). t.starts) none in
          let t = ap (λ (t : Tally). t.cost) none in
          (omega arith, omega arith)

  module _ (bs : List (Beginning G)) (c : Counts) (are : AreCounts x place count bs c) where
    abbrev costs : ℕ → ℕ
    costs k = cost_among x (on_line x place k) bs

    so_many : (n : ℕ) → n ≤ count → sum_by (λ (t : Tally). t.cost) (take n c.lines) ≡ sum_by (λ (m : ℕ). m) (map costs (range_with_len 0 n))
    so_many zero few = refl
    so_many (suc n) few =
        let room = are.room in
        let below : n < count = omega arith in
        let within : n < length c.lines = omega arith in
        let next : suc n ≡ n + 1 = omega arith in
        let before : sum_by (λ (t : Tally). t.cost) (take n c.lines) ≡ sum_by (λ (m : ℕ). m) (map costs (range_with_len 0 n)) = so_many n (omega arith) in
        ap (λ (m : ℕ). sum_by (λ (t : Tally). t.cost) (take m c.lines)) next
        ∙ sum_by_more (λ (t : Tally). t.cost) c.lines n no_tally within
        ∙ ap₂ (λ (a b : ℕ). a + b) before (are.cost n below)
        ∙ sym (sum_by-map-range_with_len_more (λ (m : ℕ). m) costs 0 n n (omega arith))
        ∙ ap (λ (m : ℕ). sum_by (λ (m : ℕ). m) (map costs (range_with_len 0 m))) (sym next)

    -- the work of all lines, and that of code that has none, is all work
    pub whole : sum (map (λ k. cost_among x (on_line x place k) bs) (range_with_len 0 count)) + cost_among x (on_none x place count) bs ≡ cost_among x (λ g h. true) bs
    whole =
        let lines = so_many count (omega arith) in
        let all_of = ap (λ (l : List Tally). sum_by (λ (t : Tally). t.cost) l) (take_all count c.lines (let room = are.room in omega arith)) in
        let w = are.whole in
        let n = are.none in
        let a = are.all in
        omega arith
