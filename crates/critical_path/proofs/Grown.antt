-- A list of events that hang together, with one more.
use Rattle.std.proofs.Common.{◌≡◌, ℕ, zero, suc, ◌+◌, ◌≤◌, ◌<◌, ◌++◌, ◌∙◌, ◌⊎◌, ◌==◌, if◌then◌else◌, Bool, true, false, List, [], ◌∷◌, length, Option, Some, None, inl, inr, arith, refl, sym, ap, subst, EachIndex, length-append, below_more, add-one}
use Rattle.std.specs.Option.{ForSome}
use Rattle.std.proofs.Math.Seq.{get_or-append_seam}
use Rattle.std.proofs.lemmas.Bool.{cases_lt}
use Rattle.std.proofs.lemmas.List.{get_or_append_left}
use Rattle.path_chains.specs.declared.event.Event.{Event}
use Rattle.path_chains.specs.Path.{event_at, no_event, ticks, IsDue, IsBehind}
use Rattle.critical_path.specs.Events.{latest, AreBefores}

-- the moment of an event, or the beginning
abbrev pub since : List Event → Option ℕ → ℕ
since events None = 0
since events (Some p) = (event_at events p).due

-- the events hang together, and none is later than this
pub record Hangs (events : List Event) (time : ℕ) : Type 0 where
  pub due : EachIndex events (λ i. IsDue events i (event_at events i).from)
  pub before : EachIndex events (λ i. ForSome (event_at events i).before (IsBehind events i))
  pub rising : (i j : ℕ) → i ≤ j → j < length events → (event_at events i).due ≤ (event_at events j).due
  pub by_now : EachIndex events (λ i. (event_at events i).due ≤ time)
  pub befores : AreBefores events

-- an event that may come next: it is due as its parts say
pub record Comes (events : List Event) (e : Event) : Type 0 where
  pub due : e.due ≡ since events e.from + ticks e
  pub from : ForSome e.from (λ p. p < length events)
  pub before : ForSome e.before (λ b. (event_at events b).due ≤ since events e.from)
  pub first : e.from ≡ None → e.before ≡ None
  pub latest : e.before ≡ latest events e.hart.0 (length events)

pub latest_below : (events : List Event) (h n b : ℕ) → latest events h n ≡ Some b → b < n
latest_below events h zero b is = cc
latest_below events h (suc n) b is = go (h == (event_at events n).hart.0) (latest_below events h n b) is
  where
    go : (t : Bool) → (latest events h n ≡ Some b → b < n) → (if t then Some n else latest events h n) ≡ Some b → b < suc n
    go true lower e = let same : n ≡ b = cc in omega arith
    go false lower e = let below = lower e in omega arith

same_due : (a b c d : Event) → c ≡ a → d ≡ b → a.due ≡ b.due + ticks a → c.due ≡ d.due + ticks c
same_due a b c d p q h = rw (p, q) h

same_first : (a c : Event) → c ≡ a → (a.due ≡ ticks a) × (a.before ≡ None) → (c.due ≡ ticks c) × (c.before ≡ None)
same_first a c p h = rw p h

same_later : (a b c d : Event) → c ≡ a → d ≡ b → b.due + ticks a ≤ a.due → d.due + ticks c ≤ c.due
same_later a b c d p q h = rw (p, q) h

module _ (events : List Event) (e : Event) where
  abbrev pub more : List Event
  more = events ++ e ∷ []

  pub old_at : (i : ℕ) → i < length events → event_at more i ≡ event_at events i
  old_at i below = get_or_append_left events (e ∷ []) no_event i below

  pub new_at : event_at more (length events) ≡ e
  new_at = get_or-append_seam events e [] no_event

  pub more_length : length more ≡ length events + 1
  more_length = length-append events (e ∷ [])

  pub since_old : (from : Option ℕ) → ForSome from (λ p. p < length events) → since more from ≡ since events from
  since_old None below = refl
  since_old (Some p) below = ap (λ (o : Event). o.due) (old_at p (below p refl))

  latest_old : (h n : ℕ) → n ≤ length events → latest more h n ≡ latest events h n
  latest_old h zero few = refl
  latest_old h (suc n) few = rw (old_at n few, latest_old h n (omega arith))

  pub latest_new : (h : ℕ) → latest more h (length more) ≡ (if h == e.hart.0 then Some (length events) else latest events h (length events))
  latest_new h =
      ap (latest more h) (more_length ∙ add-one (length events))
      ∙ rw (new_at, latest_old h (length events) (omega arith))

  due_old : (i : ℕ) → i < length events → (from : Option ℕ) → IsDue events i from → IsDue more i from
  due_old i below None h = same_first (event_at events i) (event_at more i) (old_at i below) h
  due_old i below (Some p) h =
      let lower = h.0 in
      (h.0, same_due (event_at events i) (event_at events p) (event_at more i) (event_at more p) (old_at i below) (old_at p (omega arith)) h.1)

  due_still : (i : ℕ) → i < length events → IsDue events i (event_at events i).from → IsDue more i (event_at more i).from
  due_still i below h = subst (IsDue more i) (sym (ap (λ (o : Event). o.from) (old_at i below))) (due_old i below (event_at events i).from h)

  behind_old : (i p : ℕ) → i < length events → IsBehind events i p → IsBehind more i p
  behind_old i p below h =
      let lower = h.lower in
      record { lower = h.lower; later = same_later (event_at events i) (event_at events p) (event_at more i) (event_at more p) (old_at i below) (old_at p (omega arith)) h.later }

  before_still : (i : ℕ) → i < length events → ForSome (event_at events i).before (IsBehind events i) → ForSome (event_at more i).before (IsBehind more i)
  before_still i below h b is = behind_old i b below (h b (sym (ap (λ (o : Event). o.before) (old_at i below)) ∙ is))

  befores_still : (i : ℕ) → i < length events → (event_at events i).before ≡ latest events (event_at events i).hart.0 i → (event_at more i).before ≡ latest more (event_at more i).hart.0 i
  befores_still i below h = rw (old_at i below) (h ∙ sym (latest_old (event_at events i).hart.0 i (omega arith)))

  module _ (comes : Comes events e) where
    due_new_by : (from : Option ℕ) → e.from ≡ from → IsDue more (length events) from
    due_new_by None is = same_first e (event_at more (length events)) new_at (comes.due ∙ ap (λ (from : Option ℕ). since events from + ticks e) is ∙ (let zero_first : 0 + ticks e ≡ ticks e = omega arith in zero_first), comes.first is)
    due_new_by (Some p) is =
        let below = comes.from p is in
        (below, same_due e (event_at events p) (event_at more (length events)) (event_at more p) new_at (old_at p below) (comes.due ∙ ap (λ (from : Option ℕ). since events from + ticks e) is))

    due_new : IsDue more (length events) (event_at more (length events)).from
    due_new = subst (IsDue more (length events)) (sym (ap (λ (o : Event). o.from) new_at)) (due_new_by e.from refl)

    before_new : ForSome (event_at more (length events)).before (IsBehind more (length events))
    before_new b is =
        let has : e.before ≡ Some b = sym (ap (λ (o : Event). o.before) new_at) ∙ is in
        let below = latest_below events e.hart.0 (length events) b (sym comes.latest ∙ has) in
        let no_later = comes.before b has in
        let due = comes.due in
        record { lower = below; later = same_later e (event_at events b) (event_at more (length events)) (event_at more b) new_at (old_at b below) (omega arith) }

    befores_new : (event_at more (length events)).before ≡ latest more (event_at more (length events)).hart.0 (length events)
    befores_new = rw new_at (comes.latest ∙ sym (latest_old e.hart.0 (length events) (omega arith)))

    module _ (time : ℕ) (hangs : Hangs events time) (later : time ≤ e.due) where
      each_more : (P : ℕ → Type 0) → ((i : ℕ) → i < length events → P i) → P (length events) → EachIndex more P
      each_more P old new i below = let length_is = more_length in below_more P (length events) old new i (omega arith)

      rising_by : (i j : ℕ) → i ≤ j → (j < length events) ⊎ (j ≡ length events) → (i < length events) ⊎ (i ≡ length events) → (event_at more i).due ≤ (event_at more j).due
      rising_by i j le (inl low) _ = rw (old_at i (omega arith), old_at j low) (hangs.rising i j le low)
      rising_by i j le (inr last) (inl low) = let now = hangs.by_now i low in rw (last, old_at i low, new_at) (omega arith)
      rising_by i j le (inr last) (inr same) = rw (last, same) (omega arith)

      which : (i : ℕ) → i < length more → (i < length events) ⊎ (i ≡ length events)
      which i below =
          let length_is = more_length in
          elim (cases_lt i (length events)) [ inl low ↦ inl low | inr high ↦ inr (omega arith) ]

      pub hangs_more : Hangs more e.due
      hangs_more = record {
        due = each_more (λ i. IsDue more i (event_at more i).from) (λ i below. due_still i below (hangs.due i below)) due_new;
        before = each_more (λ i. ForSome (event_at more i).before (IsBehind more i)) (λ i below. before_still i below (hangs.before i below)) before_new;
        rising = λ i j le below. rising_by i j le (which j below) (which i (omega arith));
        by_now = each_more (λ i. (event_at more i).due ≤ e.due) (λ i below. let now = hangs.by_now i below in rw (old_at i below) (omega arith)) (rw new_at (omega arith));
        befores = each_more (λ i. (event_at more i).before ≡ latest more (event_at more i).hart.0 i) (λ i below. befores_still i below (hangs.befores i below)) befores_new;
      }
