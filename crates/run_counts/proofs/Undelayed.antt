-- At speedup 0 nothing is delayed.
use Rattle.std.proofs.Common.{◌≡◌, ℕ, zero, suc, ◌+◌, ◌*◌, Bool, true, false, if◌then◌else◌, List, [], ◌∷◌, filter, fold, refl, ap, ◌∙◌, Option, Some, None, add-zero}
use Rattle.std.proofs.Math.Nat.{zero-mul}
use Rattle.coz_types.specs.declared.ending.Ending.{Ending}
use Rattle.machines.specs.Places.{first_place, change_each}
use Rattle.machines.specs.Guest.{Experiment, cost, cut, started_harts}
use Rattle.machines.specs.Delayed.{Delayed, idle_hart, is_ready, run, raise, begin, retirement, leave, give_credit, ending, tick, unbegun, after}
use Rattle.machines.specs.Steps.{jump}
use Rattle.machines.specs.Standing.{ticks_left, standing}
use Rattle.machines.specs.Lead.{ended_or, left, woken, turned, before_by, before_move, before}
use Rattle.machines.proofs.Jump.{jump_is}
use Rattle.machines.proofs.Lead.{standing_begins}
use Rattle.machines.proofs.Standing.{all_have, after_over}

module _ {G : Type 0} (x : Experiment G) where
  waited : (k : ℕ) (d : Delayed G) → k ≡ ticks_left d.harts → (after x k d).delay ≡ d.delay
  unfolding jump
  waited k d is = ap (λ k. (after x k d).delay) is ∙ go d.ending refl
    where
      go : (o : Option Ending) → d.ending ≡ o → (after x (ticks_left d.harts) d).delay ≡ d.delay
      go (Some e) over = ap (λ o. o.delay) (after_over x (ticks_left d.harts) d e over)
      go None none = ap (λ o. o.delay) (jump_is x (ticks_left d.harts) d none (λ i. all_have d.harts i))

  left_keeps : (h : ℕ) (d : Delayed G) → (left x h d).state.delay ≡ d.delay
  unfolding left leave give_credit
  left_keeps h d = go (ending x h d)
    where
      go : (o : Option Ending) → (ended_or o (leave x h d) (record { state = give_credit x h d; harts = started_harts h (retirement x h d) })).state.delay ≡ d.delay
      go None = refl
      go (Some e) = refl

  turned_keeps : (h : ℕ) (d : Delayed G) → (turned x h d).state.delay ≡ d.delay
  unfolding turned woken
  turned_keeps h d = go (x.guest.is_sleeping d.guest h)
    where
      go : (b : Bool) → (if b then woken x h d else left x h d).state.delay ≡ d.delay
      go true = refl
      go false = left_keeps h d

  moved_keeps : (d : Delayed G) → (before_move x d).state.delay ≡ d.delay
  unfolding before_move before_by tick
  moved_keeps d = go d.ending (first_place is_ready d.harts)
    where
      go : (o : Option Ending) (r : Option ℕ) → (before_by x o r d).state.delay ≡ d.delay
      go (Some e) r = refl
      go None (Some h) = turned_keeps h d
      go None None = refl

  before_keeps : (n : ℕ) → (before x (suc n)).state.delay ≡ (standing x n).delay
  unfolding before
  before_keeps n =
      let d : Delayed G = standing x n in
      moved_keeps (after x (ticks_left d.harts) d) ∙ waited (ticks_left d.harts) d refl

  none_before : (before x 0).state.delay ≡ 0
  unfolding before unbegun
  none_before = refl

  module _ (none : x.speedup ≡ 0) where
    cut_none : (g : G) (h : ℕ) → cut x g h ≡ 0
    unfolding cut
    cut_none g h = go (x.guest.is_selected g h)
      where
        go : (b : Bool) → (if b then x.speedup * x.guest.cycles g h else 0) ≡ 0
        go true = ap (λ n. n * x.guest.cycles g h) none ∙ zero-mul (x.guest.cycles g h)
        go false = refl

    raise_keeps : (d : Delayed G) (h : ℕ) → (raise x d h).delay ≡ d.delay
    unfolding raise
    raise_keeps d h = ap (λ n. d.delay + n) (cut_none d.guest h) ∙ add-zero d.delay

    raises_keep : (hs : List ℕ) (d : Delayed G) → (fold (raise x) d hs).delay ≡ d.delay
    raises_keep [] d = refl
    raises_keep (h ∷ hs) d = raises_keep hs (raise x d h) ∙ raise_keeps d h

    begin_keeps : (hs : List ℕ) (d : Delayed G) → (begin x hs d).delay ≡ d.delay
    unfolding begin
    begin_keeps hs d = raises_keep (filter (x.guest.is_selected d.guest) hs) (record d { harts = change_each idle_hart hs (λ h. run (cost x d.guest h)) d.harts })

    -- the global delay stays 0
    pub undelayed : (n : ℕ) → (standing x n).delay ≡ 0
    undelayed zero = ap (λ d. d.delay) (standing_begins x 0) ∙ begin_keeps (before x 0).harts (before x 0).state ∙ none_before
    undelayed (suc n) = ap (λ d. d.delay) (standing_begins x (suc n)) ∙ begin_keeps (before x (suc n)).harts (before x (suc n)).state ∙ before_keeps n ∙ undelayed n
