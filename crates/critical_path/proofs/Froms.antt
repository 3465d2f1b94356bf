-- What each event waited for is the latest earlier retirement that started its hart or began its sleep.
use Rattle.std.proofs.Common.{◌≡◌, ℕ, zero, suc, ◌<◌, ◌≤◌, ◌++◌, ◌∙◌, ◌==◌, if◌then◌else◌, Bool, true, false, List, [], ◌∷◌, length, Option, Some, None, arith, refl, sym, ap, length-append, below_more, add-one}
use Rattle.std.specs.Prelude.{◌&&◌, ◌||◌}
use Rattle.std.proofs.Math.Seq.{get_or-append_seam}
use Rattle.std.proofs.lemmas.List.{get_or_append_left}
use Rattle.coz_types.specs.declared.ending.Ending.{Ending}
use Rattle.machines.specs.declared.Fate.{Fate}
use Rattle.machines.specs.declared.Fate.TheVariants.{Goes, Waits, Leaves, Sleeps, Ends}
use Rattle.machines.specs.Places.{is_among}
use Rattle.machines.specs.Guest.{Experiment, Retirement, started_harts, is_sleeper, enough}
use Rattle.machines.specs.Shortened.{Turn, next_turn, shortened}
use Rattle.path_chains.specs.declared.event.Event.{Event}
use Rattle.path_chains.specs.Path.{event_at}
use Rattle.path_causes.specs.declared.cause.Cause.{Cause}
use Rattle.path_causes.specs.Causes.{no_cause, after_own, at_rest, started_with, woken_with}
use Rattle.critical_path.specs.Events.{Traced, Retiring, no_retiring, begins, latest_start, AreFroms, retiring, with_retiring, retirements, retirements_of, work, event_of, cause_after, retired, woken, after_move_by, traced, events_of}
use Rattle.critical_path.proofs.Grown.{more, more_length, old_at, new_at}

-- ---- one more retirement

module _ (rs : List Retiring) (r : Retiring) where
  latest_old : (h n : ℕ) → n ≤ length rs → latest_start (rs ++ r ∷ []) h n ≡ latest_start rs h n
  latest_old h zero few = refl
  latest_old h (suc n) few = rw (get_or_append_left rs (r ∷ []) no_retiring n few, latest_old h n (omega arith)) refl

  latest_new : (h : ℕ) → latest_start (rs ++ r ∷ []) h (length (rs ++ r ∷ [])) ≡ (if begins r h then Some (length rs) else latest_start rs h (length rs))
  latest_new h =
      ap (latest_start (rs ++ r ∷ []) h) (length-append rs (r ∷ []) ∙ add-one (length rs))
      ∙ rw (get_or-append_seam rs r [] no_retiring, latest_old h (length rs) (omega arith)) refl

  froms_more : (events : List Event) (e : Event) → length rs ≡ length events → AreFroms rs events → e.from ≡ latest_start rs e.hart.0 (length events) → AreFroms (rs ++ r ∷ []) (events ++ e ∷ [])
  froms_more events e many froms new i below =
      let long = more_length events e in
      below_more (λ (j : ℕ). (event_at (more events e) j).from ≡ latest_start (rs ++ r ∷ []) (event_at (more events e) j).hart.0 j) (length events) old last i (omega arith)
    where
      old : (j : ℕ) → j < length events → (event_at (more events e) j).from ≡ latest_start (rs ++ r ∷ []) (event_at (more events e) j).hart.0 j
      old j low = rw (old_at events e j low) (froms j low ∙ sym (latest_old (event_at events j).hart.0 j (omega arith)))

      last : (event_at (more events e) (length events)).from ≡ latest_start (rs ++ r ∷ []) (event_at (more events e) (length events)).hart.0 (length events)
      last = rw (new_at events e) (new ∙ sym (latest_old e.hart.0 (length events) (omega arith)))

rest_from : (f : Fate) (due e : ℕ) (c : Cause) → (at_rest f due e (after_own e c)).from ≡ (if is_sleeper f then Some e else c.from)
rest_from Goes due e c = refl
rest_from Waits due e c = refl
rest_from Leaves due e c = refl
rest_from (Sleeps moment) due e c = refl
rest_from (Ends ending) due e c = refl

-- ---- beside the causes

-- the events so far and what is known of each hart
record Keep (rs : List Retiring) (w : Traced) : Type 0 where
  many : length rs ≡ length w.events
  froms : AreFroms rs w.events
  causes : (k : ℕ) → (w.causes k).from ≡ latest_start rs k (length rs)

module _ {G : Type 0} (x : Experiment G) (place : G → ℕ → ℕ) where
  from_after : (t : Turn) (r : Retirement G) (e k : ℕ) (c : Cause) → (cause_after x place t r e k c).from ≡ (if begins (retiring x t r) k then Some e else c.from)
  from_after t r e k c = go (is_among k (started_harts t.hart r)) (k == t.hart)
    where
      go : (among own : Bool)
          → (if among then started_with (work x place r.guest k) e (if own then at_rest r.fate t.due e (after_own e c) else c) else (if own then at_rest r.fate t.due e (after_own e c) else c)).from
          ≡ (if among || (own && is_sleeper r.fate) then Some e else c.from)
      go true true = refl
      go true false = refl
      go false true = rest_from r.fate t.due e c
      go false false = refl

  retired_keeps : (t : Turn) (g : G) (rs : List Retiring) (w : Traced) → Keep rs w → Keep (rs ++ retiring x t (x.guest.retire g t.hart t.due) ∷ []) (retired x place t g w)
  retired_keeps t g rs w is =
      let r : Retiring = retiring x t (x.guest.retire g t.hart t.due) in
      record {
        many = omega (arith, is.many, length-append rs (r ∷ []), more_length w.events (event_of x place t g (w.causes t.hart)));
        froms = froms_more rs r w.events (event_of x place t g (w.causes t.hart)) is.many is.froms (is.causes t.hart ∙ ap (latest_start rs t.hart) is.many);
        causes = λ k.
            from_after t (x.guest.retire g t.hart t.due) (length w.events) k (w.causes k)
            ∙ ap (λ (n : ℕ). if begins r k then Some n else (w.causes k).from) (sym is.many)
            ∙ ap (λ (o : Option ℕ). if begins r k then Some (length rs) else o) (is.causes k)
            ∙ sym (latest_new rs r k);
      }

  woken_from : (b : Bool) (ticks : ℕ) (c : Cause) → (if b then woken_with ticks c else c).from ≡ c.from
  woken_from true ticks c = refl
  woken_from false ticks c = refl

  woken_keeps : (t : Turn) (g : G) (rs : List Retiring) (w : Traced) → Keep rs w → Keep rs (woken x place t g w)
  woken_keeps t g rs w is = record {
    many = is.many;
    froms = is.froms;
    causes = λ k. woken_from (k == t.hart) (work x place (x.guest.wake g k) k) (w.causes k) ∙ is.causes k;
  }

  move_keeps : (o : Option Ending) (turn : Option Turn) (g : G) (rs : List Retiring) (w : Traced) → Keep rs w → Keep (with_retiring x o turn g rs) (after_move_by x place o turn g w)
  move_keeps (Some e) turn g rs w is = is
  move_keeps None None g rs w is = is
  move_keeps None (Some t) g rs w is = go (x.guest.is_sleeping g t.hart)
    where
      go : (b : Bool) → Keep (if b then rs else rs ++ retiring x t (x.guest.retire g t.hart t.due) ∷ []) (if b then woken x place t g w else retired x place t g w)
      go true = woken_keeps t g rs w is
      go false = retired_keeps t g rs w is

  first_from : (b : Bool) (ticks : ℕ) → (if b then record no_cause { cost = ticks } else no_cause).from ≡ None
  first_from true ticks = refl
  first_from false ticks = refl

  keeps_at : (n : ℕ) → Keep (retirements x n) (traced x place n)
  unfolding traced retirements
  keeps_at zero = record { many = refl; froms = λ i below. absurd (omega arith); causes = λ k. first_from (k == 0) (work x place x.first 0) }
  keeps_at (suc n) = move_keeps (shortened x n).ending (next_turn (shortened x n).dues) (shortened x n).guest (retirements x n) (traced x place n) (keeps_at n)

  pub froms_are : AreFroms (retirements_of x) (events_of x place)
  unfolding events_of retirements_of
  froms_are = (keeps_at (enough x)).froms
