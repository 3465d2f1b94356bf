-- A guest that follows another one has its shortened run.
use Rattle.std.proofs.Common.{◌≡◌, ◌↔◌, ℕ, zero, suc, ◌+◌, ◌-◌, ◌*◌, Bool, true, false, ◌||◌, if◌then◌else◌, List, [], ◌∷◌, ◌++◌, length, filter, refl, sym, ap, ap₂, ◌∙◌, subst, Option, Some, None, option_map, option_to_list, unwrap_or}
use Rattle.std.proofs.Math.Path.{fun_ext}
use Rattle.coz_types.specs.declared.ending.Ending.{Ending}
use Rattle.coz_types.specs.declared.ending.Ending.TheVariants.{Spent}
use Rattle.machines.specs.Places.{change, change_each}
use Rattle.machines.specs.Guest.{Experiment, Retirement, own_ending, IsLawful, cost, cut, ending_after, started_harts, enough}
use Rattle.machines.specs.Delayed.{is_any}
use Rattle.machines.specs.Shortened.{Shortened, Turn, next_turn, has_due_any, rest, over_or, begin, retirement, leave, ending, retire, wake, come, move_by, move, unbegun, shortened}
use Rattle.machines.specs.Records.{NetRecord, net_record_of, net_outcome, IsShortened, shortened_record}
use Rattle.machines.proofs.Short.{Lives, turn_runs, no_ending}
use Rattle.machines.proofs.Ends.{goes_on_at}
use Rattle.timing_laws.specs.Following.{retirement_through, shortened_through, Follows}
use Rattle.timing_laws.proofs.Follows.{same_cost, same_cut, same_selected, same_ending}

-- a state after the retirement r at the point p
abbrev left : {G : Type 0} → Retirement G → Option ℕ → Turn → Shortened G → Shortened G
left r p t s = record s {
  time = t.due;
  guest = r.guest;
  dues = change None t.hart (λ _. rest r.fate) s.dues;
  visits = s.visits ++ option_to_list (option_map (λ p. record { point = p; hart = t.hart; time = t.due }) p);
  retired = s.retired + 1;
}

abbrev ending_with : {G : Type 0} → Experiment G → Retirement G → Option ℕ → Turn → Shortened G → Option Ending
ending_with x r p t s = ending_after x r (length (left r p t s).visits) (is_any (started_harts t.hart r) || has_due_any (left r p t s).dues) (left r p t s).retired

abbrev retired_with : {G : Type 0} → Experiment G → Retirement G → Option ℕ → Turn → Shortened G → Shortened G
retired_with x r p t s = over_or (ending_with x r p t s) (left r p t s) (begin x (started_harts t.hart r) t.due (left r p t s))

retires_so : {G : Type 0} (x : Experiment G) (t : Turn) (s : Shortened G) → retire x t s ≡ retired_with x (retirement x t s) (x.guest.point s.guest t.hart) t s
unfolding retire ending leave
retires_so x t s = refl

over_through : {G H : Type 0} (f : G → H) (o : Option Ending) (s next : Shortened G) (next' : Shortened H) → (o ≡ None → next' ≡ shortened_through f next) → over_or o (shortened_through f s) next' ≡ shortened_through f (over_or o s next)
over_through f None s next next' e = e refl
over_through f (Some a) s next next' e = refl

over_goes : {G : Type 0} (P : G → Type 0) (o : Option Ending) (s next : Shortened G) → (o ≡ None → P next.guest) → (over_or o s next).ending ≡ None → P (over_or o s next).guest
over_goes P None s next p e = p refl
over_goes P (Some a) s next p e = let no : Some a ≡ None = e in absurd cc

module _ {G H : Type 0} (x : Experiment G) (y : Experiment H) (f : G → H) (Good Kept : G → Type 0) (follows : Follows x y f Good Kept) (law : IsLawful x Good) where
  abbrev image : Shortened G → Shortened H
  image s = shortened_through f s

  abbrev begun : (ℕ → ℕ) → (ℕ → ℕ) → (ℕ → Bool) → List ℕ → ℕ → Shortened G → Shortened H
  begun costs cuts selected hs v s = record (image s) {
    dues = change_each None hs (λ h _. Some (v + costs h - cuts h)) s.dues;
    starts = s.starts + length (filter selected hs);
  }

  begins : (hs : List ℕ) (v : ℕ) (s : Shortened G) → Good s.guest → Kept s.guest → begin y hs v (image s) ≡ image (begin x hs v s)
  unfolding begin
  begins hs v s good kept =
      ap₂ (λ (costs cuts : ℕ → ℕ). begun costs cuts (y.guest.is_selected (f s.guest)) hs v s) (same_cost x y f Good Kept follows s.guest good kept) (fun_ext (same_cut x y f Good Kept follows s.guest good kept))
      ∙ ap (λ (selected : ℕ → Bool). begun (cost x s.guest) (cut x s.guest) selected hs v s) (same_selected x y f Good Kept follows s.guest good kept)

  begun_guest : (hs : List ℕ) (v : ℕ) (s : Shortened G) → (begin x hs v s).guest ≡ s.guest
  unfolding begin
  begun_guest hs v s = refl

  -- the same comes of a move, and what is kept is kept while the run goes on
  abbrev Fits : Shortened H → Shortened G → Type 0
  Fits e s = (e ≡ image s) × (s.ending ≡ None → Kept s.guest)

  retired_through : (r : Retirement G) (p : Option ℕ) (t : Turn) (s : Shortened G) → Good r.guest → (own_ending r.fate ≡ None → Kept r.guest) → Fits (retired_with y (retirement_through f r) p t (image s)) (retired_with x r p t s)
  retired_through r p t s good kept =
      let visits : ℕ = length (left r p t s).visits in
      let some : Bool = is_any (started_harts t.hart r) || has_due_any (left r p t s).dues in
      let hs : List ℕ = started_harts t.hart r in
      let goes : ending_with x r p t s ≡ None → Kept r.guest = λ none. kept (no_ending x r visits some (left r p t s).retired none).own in (
        ap (λ o. over_or o (image (left r p t s)) (begin y hs t.due (image (left r p t s)))) (same_ending x y f Good Kept follows r visits some (left r p t s).retired)
            ∙ over_through f (ending_with x r p t s) (left r p t s) (begin x hs t.due (left r p t s)) (begin y hs t.due (image (left r p t s))) (λ none. begins hs t.due (left r p t s) good (goes none)),
        over_goes Kept (ending_with x r p t s) (left r p t s) (begin x hs t.due (left r p t s)) (λ none. subst Kept (sym (begun_guest hs t.due (left r p t s))) (goes none)),
      )

  retires : (t : Turn) (s : Shortened G) → Good s.guest → Kept s.guest → x.guest.is_running s.guest t.hart ≡ true → Fits (retire y t (image s)) (retire x t s)
  unfolding retirement
  retires t s good kept runs =
      let both = retired_through (x.guest.retire s.guest t.hart t.due) (x.guest.point s.guest t.hart) t s (law.stays_good s.guest t.hart t.due good runs) (follows.stays_kept s.guest t.hart t.due good kept runs) in (
        retires_so y t (image s)
            ∙ ap₂ (λ r p. retired_with y r p t (image s)) (follows.retires s.guest t.hart t.due good kept runs) ((follows.alike s.guest good kept).point t.hart)
            ∙ both.0
            ∙ ap image (sym (retires_so x t s)),
        subst (λ (s : Shortened G). s.ending ≡ None → Kept s.guest) (sym (retires_so x t s)) both.1,
      )

  wakes : (t : Turn) (s : Shortened G) → Good s.guest → Kept s.guest → x.guest.is_sleeping s.guest t.hart ≡ true → Fits (wake y t (image s)) (wake x t s)
  unfolding wake
  wakes t s good kept sleeps =
      let woken : Shortened G = record s { guest = x.guest.wake s.guest t.hart; wakes = s.wakes + 1 } in
      let keeps : Kept woken.guest = follows.wakes_kept s.guest t.hart good kept sleeps in (
        ap (λ g. begin y (t.hart ∷ []) t.due (record (image s) { guest = g; wakes = s.wakes + 1 })) (follows.wakes s.guest t.hart good kept sleeps)
            ∙ begins (t.hart ∷ []) t.due woken (law.wakes_good s.guest t.hart good sleeps) keeps,
        λ none. subst Kept (sym (begun_guest (t.hart ∷ []) t.due woken)) keeps,
      )

  comes : (t : Turn) (s : Shortened G) → Lives x Good s → Kept s.guest → next_turn s.dues ≡ Some t → Fits (come y t (image s)) (come x t s)
  unfolding come
  comes t s l kept turn =
      subst (λ (b : Bool). Fits (if b then wake y t (image s) else retire y t (image s)) (if x.guest.is_sleeping s.guest t.hart then wake x t s else retire x t s)) (sym ((follows.alike s.guest l.good kept).is_sleeping t.hart))
      (go (x.guest.is_sleeping s.guest t.hart) refl)
    where
      go : (b : Bool) → x.guest.is_sleeping s.guest t.hart ≡ b → Fits (if b then wake y t (image s) else retire y t (image s)) (if b then wake x t s else retire x t s)
      go true sleeps = wakes t s l.good kept sleeps
      go false awake = retires t s l.good kept (turn_runs x Good law s t l turn awake)

  moves : (s : Shortened G) → (s.ending ≡ None → Lives x Good s) → (s.ending ≡ None → Kept s.guest) → Fits (move y (image s)) (move x s)
  unfolding move move_by
  moves s lives kept = go s.ending (next_turn s.dues) refl refl
    where
      go : (o : Option Ending) (turn : Option Turn) → s.ending ≡ o → next_turn s.dues ≡ turn → Fits (move_by y o turn (image s)) (move_by x o turn s)
      go (Some a) turn e r = (refl, kept)
      go None (Some t) e r = comes t s (lives e) (kept e) r
      go None None e r = (refl, kept)

  first_fits : Fits (begin y (0 ∷ []) 0 (unbegun y)) (begin x (0 ∷ []) 0 (unbegun x))
  unfolding unbegun
  first_fits = (
    ap (λ g. begin y (0 ∷ []) 0 (record (image (unbegun x)) { guest = g })) follows.first ∙ begins (0 ∷ []) 0 (unbegun x) law.first_good follows.first_kept,
    λ none. subst Kept (sym (begun_guest (0 ∷ []) 0 (unbegun x))) follows.first_kept,
  )

  pub shortened_fits : (n : ℕ) → Fits (shortened y n) (shortened x n)
  unfolding shortened
  shortened_fits zero = first_fits
  shortened_fits (suc n) =
      let so_far = shortened_fits n in
      let m = moves (shortened x n) (λ none. (goes_on_at x Good law n none).lives) so_far.1 in
      (ap (move y) so_far.0 ∙ m.0, m.1)

  -- the run of y is that of x, with each state mapped
  pub shortened_follows : (n : ℕ) → shortened y n ≡ shortened_through f (shortened x n)
  shortened_follows n = (shortened_fits n).0

  same_record : (s : Shortened G) (a : Ending) → net_record_of y (image s) a ≡ net_record_of x s a
  same_record s a = ap (λ o. record { ending = a; time = s.time; retired = s.retired; starts = s.starts; output = o; visits = s.visits }) (follows.output s.guest)

  same_outcome : (s : Shortened G) → net_outcome y (image s) ≡ net_outcome x s
  same_outcome s = go s.ending
    where
      go : (o : Option Ending) → option_map (net_record_of y (image s)) o ≡ option_map (net_record_of x s) o
      go None = refl
      go (Some a) = ap Some (same_record s a)

  outcome_is : (n : ℕ) → net_outcome y (shortened y n) ≡ net_outcome x (shortened x n)
  outcome_is n = ap (net_outcome y) (shortened_follows n) ∙ same_outcome (shortened x n)

  -- the shortened runs end with the same records
  pub shortened_ends : (r : NetRecord) → IsShortened x r ↔ IsShortened y r
  shortened_ends r = ((λ e. (e.0, outcome_is e.0 ∙ e.1)), (λ e. (e.0, sym (outcome_is e.0) ∙ e.1)))

  pub net_record_follows : shortened_record y ≡ shortened_record x
  unfolding shortened_record
  net_record_follows =
      ap (λ n. net_record_of y (shortened y n) (unwrap_or (shortened y n).ending Spent)) (ap (λ n. 2 * n) follows.budget)
      ∙ ap (λ s. net_record_of y s (unwrap_or s.ending Spent)) (shortened_follows (enough x))
      ∙ same_record (shortened x (enough x)) (unwrap_or (shortened x (enough x)).ending Spent)
