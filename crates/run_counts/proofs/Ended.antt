-- A run that has ended begins nothing more.
use Rattle.std.proofs.Common.{◌≡◌, ℕ, zero, suc, ◌+◌, ◌-◌, ◌≤◌, ◌++◌, List, map, refl, sym, ap, ◌∙◌, arith, Some, zero-add, suc-add, append-nil}
use Rattle.coz_types.specs.declared.ending.Ending.{Ending}
use Rattle.machines.specs.Guest.{Experiment, IsLawful, enough}
use Rattle.machines.specs.Standing.{standing}
use Rattle.machines.specs.Lead.{Before, before}
use Rattle.machines.proofs.LeadForks.{ended_begins}
use Rattle.machines.proofs.Standing.{stays}
use Rattle.run_counts.specs.Beginnings.{beginnings, begun, all_begun}

module _ {G : Type 0} (x : Experiment G) (Good : G → Type 0) (law : IsLawful x Good) where
  begun_suc : (n : ℕ) → begun x (suc n) ≡ begun x n ++ beginnings (before x (suc n))
  unfolding begun
  begun_suc n = refl

  no_more : (n : ℕ) (e : Ending) → (standing x (suc n)).ending ≡ Some e → begun x (suc n) ≡ begun x n
  no_more n e over =
      let b : Before G = before x (suc n) in
      begun_suc n
      ∙ ap (λ (hs : List ℕ). begun x n ++ map (λ h. record { guest = b.state.guest; hart = h }) hs) (ended_begins x (suc n) e over)
      ∙ append-nil (begun x n)

  begun_stays : (n : ℕ) (e : Ending) → (standing x n).ending ≡ Some e → (k : ℕ) → begun x (k + n) ≡ begun x n
  begun_stays n e over zero = ap (begun x) (zero-add n)
  begun_stays n e over (suc k) =
      let is : (standing x (suc k + n)).ending ≡ Some e = ap (λ d. d.ending) (stays x Good law n e over (suc k)) ∙ over in
      ap (begun x) (suc-add k n)
      ∙ no_more (k + n) e (ap (λ (m : ℕ). (standing x m).ending) (sym (suc-add k n)) ∙ is)
      ∙ begun_stays n e over k

  -- what an ended run has begun is what it begins in all
  pub ended_all : (n : ℕ) (e : Ending) → n ≤ enough x → (standing x n).ending ≡ Some e → begun x n ≡ all_begun x
  ended_all n e few over =
      let up : (enough x - n) + n ≡ enough x = omega arith in
      sym (begun_stays n e over (enough x - n)) ∙ ap (begun x) up
