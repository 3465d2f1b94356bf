-- The events of a run, over any lawful guest, hang together.
use Rattle.std.proofs.Common.{◌≡◌, ℕ, ◌+◌, ◌-◌, ◌≤◌, ◌<◌, ◌++◌, ◌∙◌, ◌==◌, if◌then◌else◌, Bool, true, false, List, [], ◌∷◌, length, get_or, Option, Some, None, arith, refl, sym, ap}
use Rattle.std.specs.Option.{ForSome}
use Rattle.machines.specs.declared.Fate.{Fate}
use Rattle.machines.specs.declared.Fate.TheVariants.{Goes, Waits, Leaves, Sleeps, Ends}
use Rattle.machines.specs.Places.{is_among}
use Rattle.machines.specs.Guest.{Experiment, Retirement, cost, cut, started_harts, IsLater}
use Rattle.machines.specs.Shortened.{Turn, ending, rest}
use Rattle.machines.proofs.Harts.{cut_le}
use Rattle.path_chains.specs.declared.event.Event.{Event}
use Rattle.path_chains.specs.Path.{event_at}
use Rattle.path_causes.specs.declared.cause.Cause.{Cause}
use Rattle.path_causes.specs.Causes.{after_own, at_rest, started_with}
use Rattle.critical_path.specs.Events.{Traced, latest, work, event_of, cause_after, retired}
use Rattle.critical_path.proofs.Grown.{since, Hangs, Comes, more_length, new_at, old_at, since_old, latest_new, latest_below}

-- what is known of a hart that is due then says when that is
pub record IsCaused (events : List Event) (c : Cause) (due : ℕ) : Type 0 where
  pub due_is : due ≡ since events c.from + (c.cost + c.slept)
  pub from : ForSome c.from (λ p. p < length events)
  pub before : ForSome c.before (λ b. (event_at events b).due ≤ since events c.from)
  pub first : c.from ≡ None → c.before ≡ None

-- it is so of each hart that runs or sleeps, and none is due before the last retirement
abbrev pub AreCaused : List Event → (ℕ → Cause) → ℕ → List (Option ℕ) → Type 0
AreCaused events causes time dues = (k due : ℕ) → get_or dues k None ≡ Some due → (time ≤ due) × IsCaused events (causes k) due

-- what is known of each hart has its latest event
abbrev pub HaveLatest : List Event → (ℕ → Cause) → Type 0
HaveLatest events causes = (k : ℕ) → (causes k).before ≡ latest events k (length events)

pub rest_before : (f : Fate) (due e : ℕ) (c : Cause) → (at_rest f due e c).before ≡ c.before
rest_before Goes due e c = refl
rest_before Waits due e c = refl
rest_before Leaves due e c = refl
rest_before (Sleeps moment) due e c = refl
rest_before (Ends ending) due e c = refl

module _ {G : Type 0} (x : Experiment G) (place : G → ℕ → ℕ) where
  pub before_after : (t : Turn) (r : Retirement G) (e k : ℕ) (c : Cause) → (cause_after x place t r e k c).before ≡ (if k == t.hart then Some e else c.before)
  before_after t r e k c = go (is_among k (started_harts t.hart r)) (k == t.hart)
    where
      go : (among own : Bool)
          → (if among then started_with (work x place r.guest k) e (if own then at_rest r.fate t.due e (after_own e c) else c) else (if own then at_rest r.fate t.due e (after_own e c) else c)).before ≡ (if own then Some e else c.before)
      go true true = rest_before r.fate t.due e (after_own e c)
      go true false = refl
      go false true = rest_before r.fate t.due e (after_own e c)
      go false false = refl

  module _ (small : x.speedup ≤ 100) (t : Turn) (g : G) (w : Traced) where
    abbrev pub event : Event
    event = event_of x place t g (w.causes t.hart)

    abbrev pub events : List Event
    events = w.events ++ event ∷ []

    abbrev pub r : Retirement G
    r = x.guest.retire g t.hart t.due

    -- the event of a turn may come next
    pub comes : HaveLatest w.events w.causes → IsCaused w.events (w.causes t.hart) t.due → Comes w.events event
    comes have caused = record { due = caused.due_is; from = caused.from; before = caused.before; first = caused.first; latest = have t.hart }

    pub have_latest : HaveLatest w.events w.causes → HaveLatest events (retired x place t g w).causes
    have_latest have k =
        before_after t r (length w.events) k (w.causes k)
        ∙ ap (λ (o : Option ℕ). if k == t.hart then Some (length w.events) else o) (have k)
        ∙ sym (latest_new w.events event k)

    -- no event of any hart is after now
    pub before_now : Hangs events t.due → HaveLatest events (retired x place t g w).causes → (k : ℕ) → ForSome ((retired x place t g w).causes k).before (λ b. (event_at events b).due ≤ t.due)
    before_now hangs have k b is = hangs.by_now b (latest_below events k (length events) b (sym (have k) ∙ is))

    pub new_due : since events (Some (length w.events)) ≡ t.due
    new_due = ap (λ (e : Event). e.due) (new_at w.events event)

    -- a hart that this started
    pub started_caused : (k due : ℕ) (own : Cause) → ForSome own.before (λ b. (event_at events b).due ≤ t.due) → due ≡ t.due + cost x r.guest k - cut x r.guest k
        → (t.due ≤ due) × IsCaused events (started_with (work x place r.guest k) (length w.events) own) due
    started_caused k due own before is =
        let few = cut_le x r.guest k small in
        let moment = new_due in
        let length_is = more_length w.events event in (
          omega arith,
          record {
            due_is = omega arith;
            from = λ p e. let same : length w.events ≡ p = cc in omega arith;
            before = λ b e. let no_later = before b e in omega arith;
            first = λ e. absurd cc;
          },
        )

    -- the hart itself, which sleeps
    pub rests_caused : (f : Fate) (due : ℕ) (c : Cause) → IsLater t.due f → ForSome c.before (λ b. (event_at events b).due ≤ t.due) → rest f ≡ Some due → (t.due ≤ due) × IsCaused events (at_rest f t.due (length w.events) c) due
    rests_caused Goes due c later before is = absurd cc
    rests_caused Waits due c later before is = absurd cc
    rests_caused Leaves due c later before is = absurd cc
    rests_caused (Ends e) due c later before is = absurd cc
    rests_caused (Sleeps moment) due c later before is =
        let same : moment ≡ due = cc in
        let now = new_due in
        let length_is = more_length w.events event in (
          omega arith,
          record {
            due_is = omega arith;
            from = λ p e. let one : length w.events ≡ p = cc in omega arith;
            before = λ b e. let no_later = before b e in omega arith;
            first = λ e. absurd cc;
          },
        )

    -- another one
    pub others_caused : (k due : ℕ) → HaveLatest w.events w.causes → IsCaused w.events (w.causes k) due → IsCaused events (w.causes k) due
    others_caused k due have caused =
        let same = since_old w.events event (w.causes k).from caused.from in
        let length_is = more_length w.events event in
        record {
          due_is = caused.due_is ∙ ap (λ n. n + ((w.causes k).cost + (w.causes k).slept)) (sym same);
          from = λ p e. let below = caused.from p e in omega arith;
          before = λ b e.
              let below = latest_below w.events k (length w.events) b (sym (have k) ∙ e) in
              let there = ap (λ (o : Event). o.due) (old_at w.events event b below) in
              let no_later = caused.before b e in
              omega arith;
          first = caused.first;
        }
