-- A step of a machine, event by event.
use Rattle.std.proofs.Common.{◌≡◌, ◌+◌, ◌-◌, ◌*◌, ◌<◌, Bool, true, false, not, refl, sym, ap, subst, ◌∙◌, Option, Some, None, is_some, IsSome}
use Rattle.coz_types.specs.declared.ending.Ending.{Ending}
use Rattle.machines.specs.Guest.{Experiment}
use Rattle.machines.specs.Delayed.{Delayed, events}
use Rattle.machines.specs.Steps.{Steps, Passes}
use Rattle.machines.specs.Standing.{standing}
use Rattle.machines.proofs.Stepping.{passes_none, passes_then, wakes_then}
use Rattle.timed_guest.specs.Guest.{Timed}
use Rattle.run_engine.specs.declared.engine.Event.{Event}
use Rattle.run_engine.specs.declared.engine.Event.TheVariants.{Woke, Retired}
use Rattle.run_engine.specs.Advance.{is_wake}
use Rattle.virtual_run.specs.DelayedRun.{Happens}
use Rattle.run_engine.specs.Seen.{Seen, experiment_of}
use Rattle.virtual_run.proofs.CreditedRun.{IsAt, at_next, at_smaller}

-- wakes so far, or a retirement after them, or nothing, as the run had ended
abbrev pub IsStepped : Seen (Delayed Timed) → Seen (Delayed Timed) → Bool → Type 0
IsStepped old now true = IsAt old now × (now.state.ending ≡ None) × Passes (experiment_of old) old.state now.state × (old.state.ending ≡ None)
IsStepped old now false = IsAt old now × (old.state.ending ≡ None → Steps (experiment_of old) old.state now.state) × (IsSome old.state.ending → now.state ≡ old.state)

none_some : (o : Option Ending) → o ≡ None → IsSome o → ⊥
none_some o none some = let no : false ≡ true = ap is_some (sym none) ∙ some in cc

-- before the first event
pub stepped_first : (v : Seen (Delayed Timed)) (going : Bool) → IsAt v v → is_some v.state.ending ≡ not going → IsStepped v v going
stepped_first v true at is = (at, none_of v.state.ending is, passes_none (experiment_of v) v.state, none_of v.state.ending is)
  where
    none_of : (o : Option Ending) → is_some o ≡ false → o ≡ None
    none_of None e = refl
    none_of (Some a) e = absurd (let no : true ≡ false = e in cc)
stepped_first v false at is = (at, (λ none. absurd (let no : false ≡ true = ap is_some (sym none) ∙ is in cc)), λ some. refl)

module _ (old now : Seen (Delayed Timed)) (going : Bool) (is : going ≡ true) (l : IsStepped old now going) where
  here : IsStepped old now true
  here = subst (IsStepped old now) is l

  pub goes_here : now.state.ending ≡ None
  goes_here = here.1

  module _ (new : Seen (Delayed Timed)) (event : Event) (next : new.state ≡ standing (experiment_of now) (events now.state + 1)) (count : events new.state ≡ events now.state + 1)
      (happens : Happens (experiment_of now) event now.state new.state) (rest : new ≡ record now { state = new.state }) where
    at_new : IsAt old new
    at_new = at_next old now here.0 new next count rest

    same_x : experiment_of now ≡ experiment_of old
    same_x = ap experiment_of here.0.rest

    never_ended : IsSome old.state.ending → ⊥
    never_ended = none_some old.state.ending here.3

    pub stepped_next : IsStepped old new (is_wake event)
    stepped_next = go event happens
      where
        go : (e : Event) → Happens (experiment_of now) e now.state new.state → IsStepped old new (is_wake e)
        go (Woke turn) h = (at_new, h.1, passes_then (experiment_of old) old.state now.state new.state here.2 (subst (λ (x : Experiment Timed). Passes x now.state new.state) same_x h.0), here.3)
        go (Retired retired) h = (
          at_new,
          (λ none. wakes_then (experiment_of old) old.state now.state new.state here.2 (subst (λ (x : Experiment Timed). Steps x now.state new.state) same_x h)),
          λ some. absurd (never_ended some),
        )

    pub stepped_smaller : 2 * old.choice.budget - events new.state < 2 * old.choice.budget - events now.state
    stepped_smaller = at_smaller old now here.0 new goes_here count

-- after the last one
module _ (old now : Seen (Delayed Timed)) (going : Bool) (is : going ≡ false) (l : IsStepped old now going) where
  over : IsStepped old now false
  over = subst (IsStepped old now) is l

  pub step_next : now.state ≡ standing (experiment_of old) (events now.state)
  step_next = over.0.stands

  pub step_steps : old.state.ending ≡ None → Steps (experiment_of old) old.state now.state
  step_steps = over.1

  pub step_over : IsSome old.state.ending → now.state ≡ old.state
  step_over = over.2

  pub step_rest : now ≡ record old { state = now.state }
  step_rest = over.0.rest
