-- The segments of a sound chain tile the time up to its last event.
use Rattle.std.proofs.Common.{◌≡◌, ℕ, ◌-◌, ◌≤◌, ◌<◌, ◌==◌, ◌∙◌, if◌then◌else◌, Bool, true, false, List, [], ◌∷◌, length, map, Some, inl, inr, arith, refl, sym, subst, slice_get, EachIndex}
use Rattle.path_chains.specs.declared.event.Event.{Event}
use Rattle.path_chains.specs.declared.segment.Segment.{Segment}
use Rattle.path_chains.specs.Path.{event_at, last_of, Follows, GoesOn, IsTimely, Sound}
use Rattle.path_chains.specs.Segments.{first_segment, next_segment, segments_from, segments_of, Tile}
use Rattle.path_chains.proofs.Chains.{end_of, last_at}

-- an event after a segment prolongs it or begins the next one
step_by : (b : Bool) (s : Segment) (e : Event) (es : List Event) (to : ℕ) → s.start ≤ s.end → s.end ≤ e.due
    → ((t : Segment) → t.end ≡ e.due → t.start ≤ t.end → Tile t.start to (segments_from t es))
    → Tile s.start to (if b then segments_from (record s { end = e.due }) es else s ∷ segments_from (next_segment s e) es)
step_by true s e es to le rise rest = rest (record s { end = e.due }) refl (omega arith)
step_by false s e es to le rise rest = (refl, (le, rest (next_segment s e) refl rise))

module _ (events : List Event) (timely : EachIndex events (IsTimely events)) where
  -- an event is no sooner than the one ahead of it in a chain
  rises : (i j : ℕ) → j < length events → Follows (event_at events j) i → (event_at events i).due ≤ (event_at events j).due
  rises i j below (inl from) = omega (arith, ((timely j below).from i from).later)
  rises i j below (inr before) = omega (arith, ((timely j below).before i before).later)

  pub tiles_from : (i : ℕ) (s : Segment) (js : List ℕ) → s.end ≡ (event_at events i).due → s.start ≤ s.end → GoesOn events i js → Tile s.start (event_at events (end_of i js)).due (segments_from s (map (event_at events) js))
  tiles_from i s [] end le goes = (refl, (le, end))
  tiles_from i s (j ∷ js) end le goes =
      let up = rises i j goes.0 goes.1.0 in
      step_by ((event_at events j).hart.0 == s.hart.0) s (event_at events j) (map (event_at events) js) (event_at events (end_of j js)).due le (omega (arith, end, up)) (λ t e l. tiles_from j t js e l goes.1.1)

last_is : (events : List Event) (i : ℕ) (is : List ℕ) → slice_get (i ∷ is) (length (i ∷ is) - 1) ≡ Some (last_of events) → end_of i is ≡ last_of events
last_is events i is ends =
    let e : length (i ∷ is) - 1 ≡ length is = omega arith in
    let there : slice_get (i ∷ is) (length is) ≡ Some (last_of events) = subst (λ (n : ℕ). slice_get (i ∷ is) n ≡ Some (last_of events)) e ends in
    let same : Some (end_of i is) ≡ Some (last_of events) = sym (last_at i is) ∙ there in
    cc

pub tiles : (events : List Event) (chain : List ℕ) → Sound events chain → Tile 0 (event_at events (last_of events)).due (segments_of (map (event_at events) chain))
tiles events [] sound = absurd sound.chain
tiles events (i ∷ is) sound =
    subst (λ (n : ℕ). Tile 0 (event_at events n).due (segments_of (map (event_at events) (i ∷ is)))) (last_is events i is sound.ends)
    (tiles_from events sound.timely i (first_segment (event_at events i)) is refl (omega arith) sound.chain.1)
