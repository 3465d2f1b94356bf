-- What code knows of the harts that began last, and what of a forked state is that of the lead.
use Rattle.std.proofs.Common.{◌≡◌, ℕ, zero, suc, ◌+◌, ◌-◌, Bool, true, false, cond, if◌then◌else◌, List, [], ◌∷◌, filter, fold, get_or, refl, sym, ap, ap₂, ◌∙◌, subst, ne_eqb, eq-eqb, ◌==◌, Option, Some, None, ◌⊎◌, inl, inr}
use Rattle.std.proofs.lemmas.Bool.{cases_eq}
use Rattle.coz_types.specs.declared.ending.Ending.{Ending}
use Rattle.machines.specs.Places.{first_place, is_among, AllApart}
use Rattle.machines.specs.Guest.{Experiment, IsLawful, cost, cut, started_harts}
use Rattle.machines.specs.Delayed.{Delayed, is_ready, raise, retirement, leave, give_credit, ending, unbegun, after}
use Rattle.machines.specs.Shortened.{Shortened, Turn, next_turn, shortened}
use Rattle.machines.specs.Shortened as short
use Rattle.machines.specs.Steps.{jump}
use Rattle.machines.specs.Standing.{ticks_left, standing}
use Rattle.machines.specs.Lead.{Before, at_speedup, ended_or, left, woken, turned, before_by, before_move, before, raise_counted}
use Rattle.machines.proofs.Begin.{unchanged}
use Rattle.machines.proofs.Maps.{change_each_at}
use Rattle.machines.proofs.Retire.{turn}
use Rattle.machines.proofs.Jump.{jump_is}
use Rattle.machines.proofs.Stepping.{begin_frame}
use Rattle.machines.proofs.Standing.{all_have, jump_goes, agrees, comes_at}
use Rattle.machines.proofs.Lead.{standing_begins, forked}
use Rattle.machines.proofs.LeadDues.{BeforeShort, beside, shortened_begins}
use Rattle.machines.proofs.LeadDues as dues

module _ {G : Type 0} (x : Experiment G) where
  -- a beginning changes neither the guest nor the ending
  pub before_guest : (n : ℕ) → (standing x n).guest ≡ (before x n).state.guest
  before_guest n = let b : Before G = before x n in ap (λ d. d.guest) (standing_begins x n) ∙ ap (λ d. d.guest) (begin_frame x b.harts b.state)

  pub before_ending : (n : ℕ) → (standing x n).ending ≡ (before x n).state.ending
  before_ending n = let b : Before G = before x n in ap (λ d. d.ending) (standing_begins x n) ∙ ap (λ d. d.ending) (begin_frame x b.harts b.state)

  pub before_retired : (n : ℕ) → (standing x n).retired ≡ (before x n).state.retired
  before_retired n = let b : Before G = before x n in ap (λ d. d.retired) (standing_begins x n) ∙ ap (λ d. d.retired) (begin_frame x b.harts b.state)

  pub before_wakes : (n : ℕ) → (standing x n).wakes ≡ (before x n).state.wakes
  before_wakes n = let b : Before G = before x n in ap (λ d. d.wakes) (standing_begins x n) ∙ ap (λ d. d.wakes) (begin_frame x b.harts b.state)

  ended_none : (o : Option Ending) (d : Delayed G) (b : Before G) (e : Ending) → b.state.ending ≡ None → (ended_or o d b).state.ending ≡ Some e → (ended_or o d b).harts ≡ []
  ended_none (Some a) d b e none over = refl
  ended_none None d b e none over = absurd (let no : ◌≡◌ {A = Option Ending} None (Some e) = sym none ∙ over in cc)

  left_none : (h : ℕ) (d : Delayed G) (e : Ending) → d.ending ≡ None → (left x h d).state.ending ≡ Some e → (left x h d).harts ≡ []
  unfolding left give_credit leave
  left_none h d e none over = ended_none (ending x h d) (leave x h d) (record { state = give_credit x h d; harts = started_harts h (retirement x h d) }) e none over

  turned_none : (h : ℕ) (d : Delayed G) (e : Ending) → d.ending ≡ None → (turned x h d).state.ending ≡ Some e → (turned x h d).harts ≡ []
  unfolding turned woken
  turned_none h d e none over = go (x.guest.is_sleeping d.guest h) over
    where
      go : (b : Bool) → (if b then woken x h d else left x h d).state.ending ≡ Some e → (if b then woken x h d else left x h d).harts ≡ []
      go true over = absurd (let no : ◌≡◌ {A = Option Ending} None (Some e) = sym none ∙ over in cc)
      go false over = left_none h d e none over

  move_none : (d : Delayed G) (e : Ending) → (before_move x d).state.ending ≡ Some e → (before_move x d).harts ≡ []
  unfolding before_move before_by
  move_none d e over = go d.ending (first_place is_ready d.harts) refl over
    where
      go : (o : Option Ending) (r : Option ℕ) → d.ending ≡ o → (before_by x o r d).state.ending ≡ Some e → (before_by x o r d).harts ≡ []
      go (Some a) r is over = refl
      go None None is over = refl
      go None (Some h) is over = turned_none h d e is over

  unbegun_goes : None ≡ (before x 0).state.ending
  unfolding before unbegun
  unbegun_goes = refl

  before_suc : (n : ℕ) → before x (suc n) ≡ before_move x (after x (ticks_left (standing x n).harts) (standing x n))
  unfolding before
  before_suc n = refl

  before_none : (n : ℕ) (e : Ending) → (before x n).state.ending ≡ Some e → (before x n).harts ≡ []
  before_none zero e over = absurd (let no : ◌≡◌ {A = Option Ending} None (Some e) = unbegun_goes ∙ over in cc)
  before_none (suc n) e over =
      ap (λ b. b.harts) (before_suc n)
      ∙ move_none (after x (ticks_left (standing x n).harts) (standing x n)) e (ap (λ b. b.state.ending) (sym (before_suc n)) ∙ over)

  -- in a run that has ended no hart begins
  pub ended_begins : (n : ℕ) (e : Ending) → (standing x n).ending ≡ Some e → (before x n).harts ≡ []
  ended_begins n e over = before_none n e (sym (before_ending n) ∙ over)

  ended_goes : (o : Option Ending) (d : Delayed G) (b : Before G) → (ended_or o d b).state.ending ≡ None → (ended_or o d b).harts ≡ b.harts
  ended_goes None d b goes = refl
  ended_goes (Some e) d b goes = absurd (let no : ◌≡◌ {A = Option Ending} (Some e) None = goes in cc)

  left_goes : (h : ℕ) (d : Delayed G) → (left x h d).state.ending ≡ None → (left x h d).harts ≡ started_harts h (x.guest.retire d.guest h (d.now - d.delay))
  unfolding left retirement
  left_goes h d goes = ended_goes (ending x h d) (leave x h d) (record { state = give_credit x h d; harts = started_harts h (retirement x h d) }) goes

  turned_awake : (h : ℕ) (d : Delayed G) → x.guest.is_sleeping d.guest h ≡ false → turned x h d ≡ left x h d
  unfolding turned
  turned_awake h d awake = rw awake refl

  turned_asleep : (h : ℕ) (d : Delayed G) → x.guest.is_sleeping d.guest h ≡ true → (turned x h d).harts ≡ h ∷ []
  unfolding turned woken
  turned_asleep h d asleep = rw asleep refl

  move_turns : (h : ℕ) (d : Delayed G) → d.ending ≡ None → first_place is_ready d.harts ≡ Some h → before_move x d ≡ turned x h d
  unfolding before_move before_by
  move_turns h d none ready = ap₂ (λ o r. before_by x o r d) none ready

  jump_guest : (k : ℕ) (d : Delayed G) → (jump k d).guest ≡ d.guest
  unfolding jump
  jump_guest k d = refl

  -- the harts of a list that pass a test are all different if those of the list are
  out_of : (test : ℕ → Bool) (h : ℕ) (hs : List ℕ) → is_among h hs ≡ false → is_among h (filter test hs) ≡ false
  out_of test h [] out = refl
  out_of test h (k ∷ hs) out = go (test k) (cases_eq h k) out (λ o. out_of test h hs o)
    where
      go : (b : Bool) → (h ≡ k) ⊎ (h ≡ k → ⊥) → (if h == k then true else is_among h hs) ≡ false → (is_among h hs ≡ false → is_among h (filter test hs) ≡ false) → is_among h (cond b (k ∷ filter test hs) (filter test hs)) ≡ false
      go b (inl same) out below = absurd (let no : true ≡ false = sym (ap (λ b. if b then true else is_among h hs) (eq-eqb h k same)) ∙ out in cc)
      go true (inr n) out below = rw (ne_eqb h k n) (below (ap (λ b. if b then true else is_among h hs) (sym (ne_eqb h k n)) ∙ out))
      go false (inr n) out below = below (ap (λ b. if b then true else is_among h hs) (sym (ne_eqb h k n)) ∙ out)

  pub filter_apart : (test : ℕ → Bool) (hs : List ℕ) → AllApart hs → AllApart (filter test hs)
  filter_apart test [] apart = tt
  filter_apart test (h ∷ hs) apart = go (test h) (filter_apart test hs apart.1)
    where
      go : (b : Bool) → AllApart (filter test hs) → AllApart (cond b (h ∷ filter test hs) (filter test hs))
      go true below = (out_of test h hs apart.0, below)
      go false below = below

  -- raises that were counted change the delay, the accounts and the pauses
  pub counted_frame : (hs : List ℕ) (d : Delayed G) → unchanged d (fold (raise_counted x) d hs) ≡ d
  unfolding raise raise_counted
  counted_frame [] d = refl
  counted_frame (h ∷ hs) d = ap (unchanged d) (counted_frame hs (raise_counted x d h))

module _ {G : Type 0} (x : Experiment G) (Good : G → Type 0) (law : IsLawful x Good) where
  same_turn : (t u : Turn) → Some t ≡ Some u → t ≡ u
  same_turn t u e = cc

  -- after a retirement from which the run goes on, those that it started begin
  pub goes_begins : (n : ℕ) (t : Turn) → (standing x n).ending ≡ None → next_turn (shortened x n).dues ≡ Some t → x.guest.is_sleeping (shortened x n).guest t.hart ≡ false → (standing x (suc n)).ending ≡ None
      → (before x (suc n)).harts ≡ started_harts t.hart (x.guest.retire (shortened x n).guest t.hart t.due)
  goes_begins n t none turn_is awake goes =
      let d : Delayed G = standing x n in
      let k : ℕ = ticks_left d.harts in
      let j : Delayed G = jump k d in
      let c = comes_at x Good law n none in
      let same : turn x c.0 j ≡ t = same_turn (turn x c.0 j) t (sym c.1.turn ∙ turn_is) in
      let guest : j.guest ≡ (shortened x n).guest = jump_guest x k d ∙ (agrees x Good law n).guest in
      let sits : x.guest.is_sleeping j.guest c.0 ≡ false = ap₂ (λ g h. x.guest.is_sleeping g h) guest (ap (λ (u : Turn). u.hart) same) ∙ awake in
      let is : before x (suc n) ≡ left x c.0 j =
      before_suc x n ∙ ap (before_move x) (jump_is x k d none (λ i. all_have d.harts i)) ∙ move_turns x c.0 j (jump_goes x k d none) c.1.ready ∙ turned_awake x c.0 j sits in
      ap (λ b. b.harts) is
      ∙ left_goes x c.0 j (ap (λ b. b.state.ending) (sym is) ∙ sym (before_ending x (suc n)) ∙ goes)
      ∙ ap₂ (λ g (u : Turn). started_harts u.hart (x.guest.retire g u.hart u.due)) guest same

  -- after a wake the woken hart begins
  pub wakes_begins : (n : ℕ) (t : Turn) → (standing x n).ending ≡ None → next_turn (shortened x n).dues ≡ Some t → x.guest.is_sleeping (shortened x n).guest t.hart ≡ true → (before x (suc n)).harts ≡ t.hart ∷ []
  wakes_begins n t none turn_is asleep =
      let d : Delayed G = standing x n in
      let k : ℕ = ticks_left d.harts in
      let j : Delayed G = jump k d in
      let c = comes_at x Good law n none in
      let same : turn x c.0 j ≡ t = same_turn (turn x c.0 j) t (sym c.1.turn ∙ turn_is) in
      let guest : j.guest ≡ (shortened x n).guest = jump_guest x k d ∙ (agrees x Good law n).guest in
      let sits : x.guest.is_sleeping j.guest c.0 ≡ true = ap₂ (λ g h. x.guest.is_sleeping g h) guest (ap (λ (u : Turn). u.hart) same) ∙ asleep in
      let is : before x (suc n) ≡ turned x c.0 j =
      before_suc x n ∙ ap (before_move x) (jump_is x k d none (λ i. all_have d.harts i)) ∙ move_turns x c.0 j (jump_goes x k d none) c.1.ready in
      ap (λ b. b.harts) is ∙ turned_asleep x c.0 j sits ∙ ap (λ (u : Turn). u.hart ∷ []) same

  -- the harts that begin are all different
  pub begins_apart : (n : ℕ) → AllApart (before x n).harts
  begins_apart n = let b = beside x Good law n in subst AllApart (sym b.harts) b.apart

  -- a hart that began last is due n ticks after some moment as its instruction costs
  pub begun_due : (n k : ℕ) → is_among k (before x n).harts ≡ true
      → (v : ℕ) × (get_or (shortened x n).dues k None ≡ Some (v + cost x (before x n).state.guest k - cut x (before x n).state.guest k))
  unfolding short.begin
  begun_due n k among =
      let b = beside x Good law n in
      let c : BeforeShort G = dues.before x n in
      let here : is_among k c.harts ≡ true = ap (is_among k) (sym b.harts) ∙ among in (
        c.moment,
        ap (λ o. get_or o.dues k None) (shortened_begins x n)
            ∙ change_each_at None c.harts (λ h _. Some (c.moment + cost x c.state.guest h - cut x c.state.guest h)) k c.state.dues b.apart
            ∙ rw here (ap (λ g. Some (c.moment + cost x g k - cut x g k)) (sym b.guest)),
      )

module _ {G : Type 0} (x : Experiment G) (Good : G → Type 0) (q n : ℕ) (law : IsLawful (at_speedup 0 x) Good) (z : (before (at_speedup 0 x) n).state.starts ≡ 0) where
  else_all : (hs : List ℕ) (v : ℕ) (s : Shortened G) → short.begin (at_speedup q x) hs v s ≡ record (short.begin (at_speedup 0 x) hs v s) { dues = (short.begin (at_speedup q x) hs v s).dues }
  unfolding short.begin
  else_all hs v s = refl

  -- apart from the moments the states of the shortened machine are equal too
  pub rest_forked : shortened (at_speedup q x) n ≡ record (shortened (at_speedup 0 x) n) { dues = (shortened (at_speedup q x) n).dues }
  rest_forked =
      let c : BeforeShort G = dues.before (at_speedup 0 x) n in
      let same : c ≡ dues.before (at_speedup q x) n = dues.same_before (at_speedup 0 x) q n (sym (beside (at_speedup 0 x) Good law n).starts ∙ z) in
      let fast : shortened (at_speedup q x) n ≡ short.begin (at_speedup q x) c.harts c.moment c.state = shortened_begins (at_speedup q x) n ∙ ap (λ o. short.begin (at_speedup q x) o.harts o.moment o.state) (sym same) in
      fast
      ∙ else_all c.harts c.moment c.state
      ∙ ap₂ (λ (s : Shortened G) ds. record s { dues = ds }) (sym (shortened_begins (at_speedup 0 x) n)) (ap (λ (s : Shortened G). s.dues) (sym fast))

  -- and so are the parts of the delayed machine's that no raise changes
  pub parts_forked : unchanged (standing (at_speedup 0 x) n) (standing (at_speedup q x) n) ≡ standing (at_speedup 0 x) n
  parts_forked =
      let d : Delayed G = standing (at_speedup 0 x) n in
      ap (unchanged d) (forked x q n z)
      ∙ counted_frame (at_speedup q x) (filter (x.guest.is_selected (before (at_speedup 0 x) n).state.guest) (before (at_speedup 0 x) n).harts) d
