-- The starts of a run are those of its beginnings whose instruction is selected, and at speedup 0 what is selected does not change what is begun.
use Rattle.std.proofs.Common.{◌≡◌, ℕ, zero, suc, ◌+◌, ◌++◌, Bool, true, false, cond, if◌then◌else◌, List, [], ◌∷◌, map, length, filter, refl, sym, ap, ap₂, ◌∙◌, arith, Option, Some, None, unwrap_or}
use Rattle.std.proofs.lemmas.List.Sums.{sum_by-cons, sum_by-append}
use Rattle.coz_types.specs.declared.ending.Ending.{Ending}
use Rattle.coz_types.specs.declared.ending.Ending.TheVariants.{Spent}
use Rattle.machines.specs.Places.{first_place}
use Rattle.machines.specs.Guest.{Experiment, ending_after, started_harts, enough}
use Rattle.machines.specs.Delayed.{Delayed, is_ready, retirement, leave, give_credit, ending, tick, unbegun, after}
use Rattle.machines.specs.Records.{Record, record_of}
use Rattle.machines.specs.Steps.{jump}
use Rattle.machines.specs.Standing.{ticks_left, standing, delayed_record}
use Rattle.machines.specs.Lead.{Before, at_speedup, ended_or, left, woken, turned, before_by, before_move, before}
use Rattle.machines.specs.Selecting.{selecting}
use Rattle.machines.proofs.Jump.{jump_is}
use Rattle.machines.proofs.Lead.{standing_begins, begin_starts, before_starts, same_standing}
use Rattle.machines.proofs.LeadForks.{before_guest}
use Rattle.machines.proofs.Standing.{all_have, after_over}
use Rattle.machines.proofs.Unselected.{unselected_standing, unselected_record}
use Rattle.run_counts.specs.Beginnings.{Beginning, beginnings, begun, all_begun, starts_among}

module _ {G : Type 0} (x : Experiment G) where
  -- the harts that begin in one state
  in_one : (test : G → ℕ → Bool) (g : G) (hs : List ℕ) → starts_among x test (map (λ h. record { guest = g; hart = h }) hs) ≡ length (filter (test g) hs)
  in_one test g [] = refl
  in_one test g (h ∷ hs) =
      sum_by-cons (λ (b : Beginning G). cond (test b.guest b.hart) 1 0) (record { guest = g; hart = h }) (map (λ h. record { guest = g; hart = h }) hs)
      ∙ ap (λ n. cond (test g h) 1 0 + n) (in_one test g hs)
      ∙ go (test g h)
    where
      go : (b : Bool) → cond b 1 0 + length (filter (test g) hs) ≡ length (cond b (h ∷ filter (test g) hs) (filter (test g) hs))
      go true = omega arith
      go false = omega arith

  abbrev selected : G → ℕ → Bool
  selected = x.guest.is_selected

  begin_counts : (n : ℕ) → (standing x n).starts ≡ (before x n).state.starts + starts_among x selected (beginnings (before x n))
  begin_counts n =
      let b : Before G = before x n in
      ap (λ d. d.starts) (standing_begins x n)
      ∙ begin_starts x b.harts b.state
      ∙ ap (λ n. b.state.starts + n) (sym (in_one selected b.state.guest b.harts))

  none_before : (before x 0).state.starts ≡ 0
  unfolding before unbegun
  none_before = refl

  -- the starts so far are the selected ones of what was begun
  pub counted : (n : ℕ) → (standing x n).starts ≡ starts_among x x.guest.is_selected (begun x n)
  unfolding begun
  counted zero = begin_counts 0 ∙ ap (λ n. n + starts_among x selected (beginnings (before x 0))) none_before ∙ (let same : 0 + starts_among x selected (beginnings (before x 0)) ≡ starts_among x selected (beginnings (before x 0)) = omega arith in same)
  counted (suc n) =
      begin_counts (suc n)
      ∙ ap (λ m. m + starts_among x selected (beginnings (before x (suc n)))) (before_starts x n ∙ counted n)
      ∙ sym (sum_by-append (λ (b : Beginning G). cond (selected b.guest b.hart) 1 0) (begun x n) (beginnings (before x (suc n))))

  record_starts : (delayed_record x).starts ≡ (standing x (enough x)).starts
  unfolding delayed_record
  record_starts = refl

  -- and so are those of its record
  pub record_counted : (delayed_record x).starts ≡ starts_among x x.guest.is_selected (all_begun x)
  record_counted = record_starts ∙ counted (enough x)

-- with this count of starts
abbrev counting : {G : Type 0} → ℕ → Delayed G → Delayed G
counting n d = record d { starts = n }

module _ {G : Type 0} (x : Experiment G) (p q : G → ℕ → Bool) where
  abbrev one : Experiment G
  one = at_speedup 0 (selecting p x)

  abbrev other : Experiment G
  other = at_speedup 0 (selecting q x)

  -- the ticks before the next turn pass alike
  waits : (m : ℕ) (d : Delayed G) → after other (ticks_left d.harts) (counting m d) ≡ counting m (after one (ticks_left d.harts) d)
  unfolding jump
  waits m d = go d.ending refl
    where
      go : (o : Option Ending) → d.ending ≡ o → after other (ticks_left d.harts) (counting m d) ≡ counting m (after one (ticks_left d.harts) d)
      go (Some e) is = after_over other (ticks_left d.harts) (counting m d) e is ∙ ap (counting m) (sym (after_over one (ticks_left d.harts) d e is))
      go None is = jump_is other (ticks_left d.harts) (counting m d) is (λ i. all_have d.harts i) ∙ ap (counting m) (sym (jump_is one (ticks_left d.harts) d is (λ i. all_have d.harts i)))

  left_alike : (h m : ℕ) (d : Delayed G) → (left one h d).harts ≡ (left other h (counting m d)).harts
  unfolding left ending retirement leave give_credit ending_after
  left_alike h m d = go (ending one h d)
    where
      go : (o : Option Ending)
          → (ended_or o (leave one h d) (record { state = give_credit one h d; harts = started_harts h (retirement one h d) })).harts
          ≡ (ended_or o (leave other h (counting m d)) (record { state = give_credit other h (counting m d); harts = started_harts h (retirement other h (counting m d)) })).harts
      go None = refl
      go (Some e) = refl

  turned_alike : (h m : ℕ) (d : Delayed G) → (turned one h d).harts ≡ (turned other h (counting m d)).harts
  unfolding turned woken
  turned_alike h m d = go (x.guest.is_sleeping d.guest h)
    where
      go : (b : Bool) → (if b then woken one h d else left one h d).harts ≡ (if b then woken other h (counting m d) else left other h (counting m d)).harts
      go true = refl
      go false = left_alike h m d

  -- the same harts begin with the next turn
  moved_alike : (m : ℕ) (d : Delayed G) → (before_move one d).harts ≡ (before_move other (counting m d)).harts
  unfolding before_move before_by tick
  moved_alike m d = go d.ending (first_place is_ready d.harts)
    where
      go : (o : Option Ending) (r : Option ℕ) → (before_by one o r d).harts ≡ (before_by other o r (counting m d)).harts
      go (Some e) r = refl
      go None (Some h) = turned_alike h m d
      go None None = refl

  same_harts : (n : ℕ) → (before one n).harts ≡ (before other n).harts
  unfolding before
  same_harts zero = refl
  same_harts (suc n) =
      let d : Delayed G = standing one n in
      let m : ℕ = (standing other n).starts in
      let is : counting m d ≡ standing other n = ap (counting m) (unselected_standing x p q n) in
      moved_alike m (after one (ticks_left d.harts) d)
      ∙ ap (λ d. (before_move other d).harts) (sym (waits m d))
      ∙ ap (λ d. (before_move other (after other (ticks_left d.harts) d)).harts) is

  same_guest : (n : ℕ) → (before one n).state.guest ≡ (before other n).state.guest
  same_guest n = sym (before_guest one n) ∙ ap (λ d. d.guest) (unselected_standing x p q n) ∙ before_guest other n

  same_beginnings : (n : ℕ) → beginnings (before one n) ≡ beginnings (before other n)
  same_beginnings n = ap₂ (λ g hs. map (λ h. record { guest = g; hart = h }) hs) (same_guest n) (same_harts n)

  -- at speedup 0 the same instructions are begun, whatever is selected
  pub same_begun : (n : ℕ) → begun (at_speedup 0 (selecting p x)) n ≡ begun (at_speedup 0 (selecting q x)) n
  unfolding begun
  same_begun zero = same_beginnings 0
  same_begun (suc n) = ap₂ (λ bs cs. bs ++ cs) (same_begun n) (same_beginnings (suc n))

  -- so the starts of what one run selects are a count over what another one begins
  pub starts_counted : (delayed_record (at_speedup 0 (selecting p x))).starts ≡ starts_among other p (all_begun (at_speedup 0 (selecting q x)))
  starts_counted = record_counted one ∙ ap (starts_among other p) (same_begun (enough x))

module _ {G : Type 0} (x : Experiment G) (test : G → ℕ → Bool) where
  -- nothing is selected
  abbrev pub plain : Experiment G
  plain = at_speedup 0 (selecting (λ _ _. false) x)

  abbrev tested : Experiment G
  tested = at_speedup 0 (selecting test x)

  none_among : (bs : List (Beginning G)) → starts_among plain (λ _ _. false) bs ≡ 0
  none_among [] = refl
  none_among (b ∷ bs) = sum_by-cons (λ (b : Beginning G). 0) b bs ∙ (let none : starts_among plain (λ _ _. false) bs ≡ 0 = none_among bs in omega arith)

  record_of_same : (y : Experiment G) (q : ℕ) → standing y (enough y) ≡ standing (at_speedup q y) (enough y) → delayed_record y ≡ delayed_record (at_speedup q y)
  unfolding delayed_record
  record_of_same y q is = ap (λ d. record_of y d (unwrap_or d.ending Spent)) is

  -- the record of a run that starts nothing is the one with nothing selected
  plain_record : (delayed_record tested).starts ≡ 0 → delayed_record tested ≡ delayed_record plain
  plain_record none =
      let r : Record = delayed_record tested in
      let s : Record = delayed_record plain in
      let zero_starts : s.starts ≡ 0 = record_counted plain ∙ none_among (all_begun plain) in
      ap (λ n. record r { starts = n }) none
      ∙ unselected_record x test (λ _ _. false)
      ∙ sym (ap (λ n. record s { starts = n }) zero_starts)

  -- if no instruction that passes is begun, the record of the run that selects those that pass is at every speedup the one with nothing selected
  pub none_started : starts_among plain test (all_begun plain) ≡ 0 → (q : ℕ) → delayed_record (at_speedup q (selecting test x)) ≡ delayed_record plain
  none_started none q =
      let no_starts : (delayed_record tested).starts ≡ 0 = starts_counted x test (λ _ _. false) ∙ none in
      sym (record_of_same tested q (same_standing tested q (enough tested) (sym (record_starts tested) ∙ no_starts)))
      ∙ plain_record no_starts
