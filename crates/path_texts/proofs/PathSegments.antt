-- Segments of a path, one event after the other.
use Rattle.std.proofs.Common.{◌≡◌, ℕ, ◌+◌, ◌<◌, ◌≤◌, ◌==◌, if◌then◌else◌, Bool, true, false, List, [], ◌∷◌, ◌++◌, length, get_or, drop, drop-cons, add-one, refl, sym, ap, ◌∙◌, arith, append_assoc, Option, ◌⊎◌, inl, inr, eq-eqb}
use Rattle.std.specs.List.{flat_map, All}
use Rattle.std.proofs.lemmas.Bool.{cases_lt}
use Rattle.std.proofs.lemmas.List.{append-nil, drop_all, get_or_past}
use Rattle.std.proofs.lemmas.List.Elements.{All-get_or}
use Rattle.coz_types.specs.Labels.{Text}
use Rattle.coz_files.specs.Gathered.{Gathers, Rest}
use Rattle.path_chains.specs.declared.event.Event.{Event}
use Rattle.path_chains.specs.Path.{event_at, no_event}
use Rattle.path_chains.specs.declared.segment.Segment.{Segment}
use Rattle.path_chains.specs.Segments.{first_segment, next_segment, segments_from, segments_of}
use Rattle.path_texts.specs.PathText.{segment_line, events_on}
use Rattle.path_chains.specs.Segments.{after}
use Rattle.path_texts.specs.Segments.{closed}

-- one more, if an event ends a segment
abbrev pub ends : Segment → Event → ℕ
ends s e = if e.hart.0 == s.hart.0 then 0 else 1

count_by : (b : Bool) (s : Segment) (e : Event) (es : List Event)
    → length (if b then segments_from (record s { end = e.due }) es else s ∷ segments_from (next_segment s e) es)
    ≡ (if b then 0 else 1) + length (segments_from (if b then record s { end = e.due } else next_segment s e) es)
count_by true s e es = omega arith
count_by false s e es = omega arith

text_by : (b : Bool) (s : Segment) (e : Event) (es : List Event)
    → flat_map segment_line (if b then segments_from (record s { end = e.due }) es else s ∷ segments_from (next_segment s e) es)
    ≡ (if b then [] else segment_line s) ++ flat_map segment_line (segments_from (if b then record s { end = e.due } else next_segment s e) es)
text_by true s e es = refl
text_by false s e es = refl

count_step : (s : Segment) (e : Event) (es : List Event) → length (segments_from s (e ∷ es)) ≡ ends s e + length (segments_from (after s e) es)
count_step s e es = count_by (e.hart.0 == s.hart.0) s e es

text_step : (s : Segment) (e : Event) (es : List Event) → flat_map segment_line (segments_from s (e ∷ es)) ≡ closed s e ++ flat_map segment_line (segments_from (after s e) es)
text_step s e es = text_by (e.hart.0 == s.hart.0) s e es

-- the events from one index on
on_from : (events : List Event) (chain : List ℕ) (i : ℕ) → i < length chain → events_on events (drop i chain) ≡ event_at events (get_or chain i 0) ∷ events_on events (drop (i + 1) chain)
on_from events chain i below =
    ap (events_on events) (drop-cons chain i 0 below ∙ ap (λ (j : ℕ). get_or chain i 0 ∷ drop j chain) (sym (add-one i)))

-- one more event is counted
pub counted : (events : List Event) (chain : List ℕ) (i : ℕ) (s : Segment) (e : Event) → i < length chain → e ≡ event_at events (get_or chain i 0)
    → length (segments_from s (events_on events (drop i chain))) ≡ ends s e + length (segments_from (after s e) (events_on events (drop (i + 1) chain)))
counted events chain i s e below is =
    ap (λ (es : List Event). length (segments_from s es)) (on_from events chain i below ∙ ap (λ (f : Event). f ∷ events_on events (drop (i + 1) chain)) (sym is))
    ∙ count_step s e (events_on events (drop (i + 1) chain))

-- and written
pub written : (events : List Event) (chain : List ℕ) (i : ℕ) (s : Segment) (e : Event) → i < length chain → e ≡ event_at events (get_or chain i 0)
    → flat_map segment_line (segments_from s (events_on events (drop i chain))) ≡ closed s e ++ flat_map segment_line (segments_from (after s e) (events_on events (drop (i + 1) chain)))
written events chain i s e below is =
    ap (λ (es : List Event). flat_map segment_line (segments_from s es)) (on_from events chain i below ∙ ap (λ (f : Event). f ∷ events_on events (drop (i + 1) chain)) (sym is))
    ∙ text_step s e (events_on events (drop (i + 1) chain))

module _ (events : List Event) (chain : List ℕ) (i : ℕ) (s t : Segment) (e : Event) (below : i < length chain) (is : e ≡ event_at events (get_or chain i 0)) (next : t ≡ after s e) where
  pub count_more : (count new total : ℕ) → new ≡ count + ends s e
      → count + length (segments_from s (events_on events (drop i chain))) ≡ total
      → new + length (segments_from t (events_on events (drop (i + 1) chain))) ≡ total
  count_more count new total more so_far =
      let step = counted events chain i s e below is in
      let same = ap (λ (u : Segment). length (segments_from u (events_on events (drop (i + 1) chain)))) next in
      omega (arith, step, same, more, so_far)

  pub text_more : (done whole : Text)
      → done ++ flat_map segment_line (segments_from s (events_on events (drop i chain))) ≡ whole
      → (done ++ closed s e) ++ flat_map segment_line (segments_from t (events_on events (drop (i + 1) chain))) ≡ whole
  text_more done whole so_far =
      let rest : Text = flat_map segment_line (segments_from (after s e) (events_on events (drop (i + 1) chain))) in
      ap (λ (u : Segment). (done ++ closed s e) ++ flat_map segment_line (segments_from u (events_on events (drop (i + 1) chain)))) next
      ∙ append_assoc done (closed s e) rest
      ∙ ap (λ (text : Text). done ++ text) (sym (written events chain i s e below is))
      ∙ so_far

-- the last segment ends with the last event
pub count_last : (events : List Event) (chain : List ℕ) (i : ℕ) (s : Segment) (count total : ℕ) → length chain ≤ i
    → count + length (segments_from s (events_on events (drop i chain))) ≡ total + 1 → count ≡ total
count_last events chain i s count total all so_far =
    let same = ap (λ (xs : List ℕ). length (segments_from s (events_on events xs))) (drop_all i chain all) in
    omega (arith, same, so_far)

pub text_last : (events : List Event) (chain : List ℕ) (i : ℕ) (s : Segment) (done whole : Text) → length chain ≤ i
    → done ++ flat_map segment_line (segments_from s (events_on events (drop i chain))) ≡ whole → done ++ segment_line s ≡ whole
text_last events chain i s done whole all so_far =
    ap (λ (text : Text). done ++ text) (sym (append-nil (segment_line s)))
    ∙ ap (λ (xs : List ℕ). done ++ flat_map segment_line (segments_from s (events_on events xs))) (sym (drop_all i chain all))
    ∙ so_far

-- the first segment begins with the first event
pub begins : (events : List Event) (chain rest : List ℕ) (first : ℕ) (s : Segment) → chain ≡ first ∷ rest → s ≡ first_segment (event_at events first)
    → segments_from s (events_on events (drop 0 rest)) ≡ segments_of (events_on events chain)
begins events chain rest first s is at =
    ap (λ (u : Segment). segments_from u (events_on events rest)) at
    ∙ ap (λ (xs : List ℕ). segments_of (events_on events xs)) (sym is)

-- ---- a path that is one segment

some_left : (s : Segment) (es : List Event) → 1 ≤ length (segments_from s es)
some_left s [] = omega arith
some_left s (e ∷ es) = omega (arith, count_step s e es, some_left (after s e) es)

-- a segment that goes on to the last of these events
abbrev end_on : Segment → List Event → Segment
end_on s [] = s
end_on s (e ∷ es) = end_on (record s { end = e.due }) es

one_by : (b : Bool) (s : Segment) (e : Event) (es : List Event)
    → (length (segments_from (record s { end = e.due }) es) ≡ 1 → segments_from (record s { end = e.due }) es ≡ end_on (record s { end = e.due }) es ∷ [])
    → length (if b then segments_from (record s { end = e.due }) es else s ∷ segments_from (next_segment s e) es) ≡ 1
    → (if b then segments_from (record s { end = e.due }) es else s ∷ segments_from (next_segment s e) es) ≡ end_on (record s { end = e.due }) es ∷ []
one_by true s e es on one = on one
one_by false s e es on one = absurd (omega (arith, some_left (next_segment s e) es, one))

one_left : (s : Segment) (es : List Event) → length (segments_from s es) ≡ 1 → segments_from s es ≡ end_on s es ∷ []
one_left s [] one = refl
one_left s (e ∷ es) one = one_by (e.hart.0 == s.hart.0) s e es (one_left (record s { end = e.due }) es) one

ends_at : (events : List Event) (s : Segment) (x : ℕ) (xs : List ℕ) → s.end ≡ (event_at events x).due
    → end_on s (events_on events xs) ≡ record s { end = (event_at events (get_or (x ∷ xs) (length xs) 0)).due }
ends_at events s x [] is = ap (λ (d : ℕ). record s { end = d }) is
ends_at events s x (y ∷ ys) is = ends_at events (record s { end = (event_at events y).due }) y ys refl

-- it goes from the first event to the last
pub whole_is : (events : List Event) (chain rest : List ℕ) (first : ℕ) (s : Segment) → chain ≡ first ∷ rest
    → s ≡ record (first_segment (event_at events first)) { end = (event_at events (get_or chain (length rest) 0)).due }
    → length (segments_of (events_on events chain)) ≡ 1
    → segment_line s ≡ flat_map segment_line (segments_of (events_on events chain))
whole_is events chain rest first s is at one =
    let from : Segment = first_segment (event_at events first) in
    let last : get_or chain (length rest) 0 ≡ get_or (first ∷ rest) (length rest) 0 = ap (λ (xs : List ℕ). get_or xs (length rest) 0) is in
    let same : segments_of (events_on events chain) ≡ segments_from from (events_on events rest) = ap (λ (xs : List ℕ). segments_of (events_on events xs)) is in
    let only : segments_from from (events_on events rest) ≡ record from { end = (event_at events (get_or (first ∷ rest) (length rest) 0)).due } ∷ [] =
    one_left from (events_on events rest) (sym (ap length same) ∙ one) ∙ ap (λ (t : Segment). t ∷ []) (ends_at events from first rest refl) in
    ap segment_line (at ∙ ap (λ (i : ℕ). record from { end = (event_at events i).due }) last)
    ∙ sym (append-nil (segment_line (record from { end = (event_at events (get_or (first ∷ rest) (length rest) 0)).due })))
    ∙ sym (ap (flat_map segment_line) (same ∙ only))

-- ---- a run of one hart

-- an event of a number is of hart 0 if all are, as is what stands in place of none
of_first_by : (events : List Event) → All (λ (e : Event). e.hart.0 ≡ 0) events → (i : ℕ) → (i < length events) ⊎ (length events ≤ i) → (event_at events i).hart.0 ≡ 0
of_first_by events all i (inl below) = All-get_or (λ (e : Event). e.hart.0 ≡ 0) events i no_event below all
of_first_by events all i (inr beyond) = ap (λ (e : Event). e.hart.0) (get_or_past events i no_event beyond)

of_first : (events : List Event) → All (λ (e : Event). e.hart.0 ≡ 0) events → (i : ℕ) → (event_at events i).hart.0 ≡ 0
of_first events all i = of_first_by events all i (cases_lt i (length events))

one_on : (events : List Event) (s : Segment) (chain : List ℕ) → ((i : ℕ) → (event_at events i).hart.0 ≡ 0) → s.hart.0 ≡ 0 → length (segments_from s (events_on events chain)) ≡ 1
one_on events s [] zeros is = refl
one_on events s (i ∷ is) zeros same =
    rw (eq-eqb (event_at events i).hart.0 s.hart.0 (zeros i ∙ sym same))
    (one_on events (record s { end = (event_at events i).due }) is zeros same)

pub one_of_first : (events : List Event) (chain : List ℕ) → All (λ (e : Event). e.hart.0 ≡ 0) events → (chain ≡ [] → ⊥) → length (segments_of (events_on events chain)) ≡ 1
one_of_first events [] all some = absurd (some refl)
one_of_first events (i ∷ is) all some = one_on events (first_segment (event_at events i)) is (of_first events all) (of_first events all i)

-- what is put of a path, and that the segments that are left make the text whole
pub record IsPut {S : Type 0} (holds : S → Option Text) (faults : S → ℕ) (old new : S) (rest left : Rest) (events : List Event) (s : Segment) (chain : List ℕ) (whole : Text) : Type 0 where
  pub done : Text
  pub gathers : Gathers holds faults old new rest left done
  pub is : done ++ flat_map segment_line (segments_from s (events_on events chain)) ≡ whole
