-- A change that is noted.
use Rattle.std.proofs.Common.{◌≡◌, ℕ, zero, suc, length, map, take, ◌+◌, ◌<◌, ◌^◌, if◌then◌else◌, List, [], ◌∷◌, ◌++◌, get_or, refl, sym, ap, ap₂, ◌∙◌, subst, Option, Some, None, option_to_list, arith, ◌⊎◌, inl, inr, ne_eqb}
use Rattle.std.proofs.lemmas.Bool.{cases_eq, eq-eqb}
use Rattle.std.proofs.lemmas.List.{map-append, take_all, take_more}
use Rattle.coz_types.specs.declared.HartId.{HartId}
use Rattle.machines.specs.Places.{change}
use Rattle.machines.proofs.Maps.{change_same, change_other}
use Rattle.hart_states.specs.declared.change.Activity.{Activity}
use Rattle.hart_states.specs.declared.change.Change.{Change}
use Rattle.hart_states.specs.declared.change.Interval.{Interval}
use Rattle.hart_states.specs.Changes.{InOrder, ended_by, intervals}
use Rattle.hart_handovers.specs.declared.handover.Handover.{Handover}
use Rattle.hart_handovers.specs.declared.handover.Way.{Way}
use Rattle.hart_handovers.specs.Handovers.{handover, handovers, runs, slept_since, way, way_or_start}
use Rattle.hart_turns.specs.declared.life.Life.{Life}
use Rattle.hart_turns.specs.declared.turns.Retirement.{Retirement}
use Rattle.hart_turns.specs.declared.turns.Rooms.{Rooms}
use Rattle.hart_turns.specs.declared.turns.Turns.{Turns}
use Rattle.hart_turns.specs.Firsts.{Held, held, with_item}
use Rattle.hart_turns.specs.Lives.{TellsOf, after, handover_by, life_of, unmade}
use Rattle.hart_turns.specs.Turns.{Tell, changed, first_change, with_each, with_own}
use Rattle.hart_turns.proofs.Telling.{tells_nothing, tells_other, tells_own}
use Rattle.hart_turns.proofs.Holding.{holds_more}

started : (h moment : ℕ) (past : List Change) → (past ≡ [] → ⊥) → way_or_start h moment past ≡ way h moment past
started h moment [] some = absurd (some refl)
started h moment (c ∷ past) some = refl

-- the hand-over that is told by what was noted
pub same_handover : (life : Life) (c : Change) (past : List Change) → (past ≡ [] → ⊥) → TellsOf c.hart.0 past life → handover_by life c ≡ handover c past
same_handover life c past some told =
    ap₂ (λ (s : ℕ) (w : Way). let o : Handover = record { moment = c.moment; slept = s; hart = c.hart; by = c.by; way = w } in o)
    (ap (λ (l : Option Change). slept_since l c.moment) told.last)
    (told.way_is c.moment ∙ sym (started c.hart.0 c.moment past some))

module _ (rooms : Rooms) (past : List Change) (t : Turns) (c : Change) (told : Tell rooms past t) (order : InOrder c.moment past) (fits : c.moment < 2 ^ 64) where
  abbrev life : Life
  life = life_of t.lives c.hart.0

  tells : (h : ℕ) → (h ≡ c.hart.0) ⊎ (h ≡ c.hart.0 → ⊥) → TellsOf h (c ∷ past) (life_of (change unmade c.hart.0 (λ _. after life c) t.lives) h)
  tells h (inl same) =
      subst (λ (n : ℕ). TellsOf n (c ∷ past) (life_of (change unmade c.hart.0 (λ _. after life c) t.lives) n)) (sym same)
      (subst (TellsOf c.hart.0 (c ∷ past)) (sym (change_same unmade c.hart.0 (λ _. after life c) t.lives))
      (tells_own c.hart.0 c past life (told.each c.hart.0) (eq-eqb c.hart.0 c.hart.0 refl) order fits))
  tells h (inr other) =
      subst (TellsOf h (c ∷ past)) (sym (change_other unmade c.hart.0 h (λ _. after life c) t.lives (λ same. other (sym same))))
      (tells_other h c past (life_of t.lives h) (told.each h) (ne_eqb h c.hart.0 other))

  pub noted : (lives : List Life) (is : Held Interval) (hs : Held Handover) → lives ≡ change unmade c.hart.0 (λ _. after life c) t.lives
      → is ≡ held rooms.intervals (intervals past ++ option_to_list (ended_by life.last c))
      → hs ≡ held rooms.handovers (handovers past ++ (if runs c.to then handover_by life c ∷ [] else []))
      → Tell rooms (c ∷ past) (record { lives = lives; intervals = is; handovers = hs })
  noted lives is hs lives_are is_are hs_are = record {
    some = λ e. let no : c ∷ past ≡ [] = e in absurd cc;
    each = λ h. subst (λ (ls : List Life). TellsOf h (c ∷ past) (life_of ls h)) (sym lives_are) (tells h (cases_eq h c.hart.0));
    intervals_are = is_are ∙ ap (λ (l : Option Change). held rooms.intervals (intervals past ++ option_to_list (ended_by l c))) (told.each c.hart.0).last;
    handovers_are = hs_are ∙ ap (λ (o : Handover). held rooms.handovers (handovers past ++ (if runs c.to then o ∷ [] else []))) (same_handover life c past told.some (told.each c.hart.0));
  }

-- ---- several changes

pub order_each : (r : Retirement) (a : Activity) (hs : List ℕ) (past : List Change) → InOrder r.moment past → InOrder r.moment (with_each r a hs past)
order_each r a [] past order = order
order_each r a (h ∷ hs) past order = order_each r a hs (changed r a h ∷ past) (omega arith, order)

pub order_own : (r : Retirement) (o : Option Activity) (past : List Change) → InOrder r.moment past → InOrder r.moment (with_own r o past)
order_own r None past order = order
order_own r (Some a) past order = (omega arith, order)

each_more : (r : Retirement) (a : Activity) (hs : List ℕ) (h : ℕ) (past : List Change) → with_each r a (hs ++ h ∷ []) past ≡ changed r a h ∷ with_each r a hs past
each_more r a [] h past = refl
each_more r a (k ∷ hs) h past = each_more r a hs h (changed r a k ∷ past)

abbrev numbers : List HartId → List ℕ
numbers harts = map (λ hart. hart.0) harts

pub one_more : (r : Retirement) (a : Activity) (harts : List HartId) (i : ℕ) (past : List Change) → i < length harts
    → changed r a (get_or harts i (record { 0 = 0 })).0 ∷ with_each r a (numbers (take i harts)) past ≡ with_each r a (numbers (take (i + 1) harts)) past
one_more r a harts i past below =
    sym (each_more r a (numbers (take i harts)) (get_or harts i (record { 0 = 0 })).0 past)
    ∙ ap (λ (hs : List ℕ). with_each r a hs past) (sym (map-append (λ (hart : HartId). hart.0) (take i harts) (get_or harts i (record { 0 = 0 }) ∷ [])) ∙ ap numbers (sym (take_more harts i (record { 0 = 0 }) below)))

-- ---- the start

at_start : (c : Change) (h : ℕ) → c.hart.0 ≡ 0 → c.moment < 2 ^ 64 → TellsOf h (c ∷ []) (life_of (after unmade c ∷ []) h)
at_start c zero is fits = tells_own zero c [] unmade (tells_nothing zero) (eq-eqb zero c.hart.0 (sym is)) tt fits
at_start c (suc h) is fits = tells_other (suc h) c [] unmade (tells_nothing (suc h)) (ne_eqb (suc h) c.hart.0 (λ same. omega (arith, is, same)))

none_held : {T : Type 0} (room : ℕ) → record { items = []; room = room; left_out = None } ≡ held {T = T} room []
none_held {T} room = ap (λ (is : List T). let f : Held T = record { items = is; room = room; left_out = None } in f) (sym (take_all room [] (omega arith)))

pub begins : (rooms : Rooms) (place : ℕ) (lives : List Life) (is : Held Interval) (hs first : Held Handover) (o : Handover) → lives ≡ after unmade (first_change place) ∷ []
    → is ≡ record { items = []; room = rooms.intervals; left_out = None } → first ≡ record { items = []; room = rooms.handovers; left_out = None }
    → o ≡ handover (first_change place) [] → hs ≡ with_item o first
    → Tell rooms (first_change place ∷ []) (record { lives = lives; intervals = is; handovers = hs })
begins rooms place lives is hs first o lives_are is_are first_is o_is hs_are = record {
  some = λ e. let no : first_change place ∷ [] ≡ [] = e in absurd cc;
  each = λ h. subst (λ (ls : List Life). TellsOf h (first_change place ∷ []) (life_of ls h)) (sym lives_are) (at_start (first_change place) h refl (omega arith));
  intervals_are = is_are ∙ none_held rooms.intervals;
  handovers_are = hs_are ∙ ap (with_item o) (first_is ∙ none_held rooms.handovers) ∙ holds_more [] o rooms.handovers ∙ ap (λ (p : Handover). held rooms.handovers (p ∷ [])) o_is;
}
