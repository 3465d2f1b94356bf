-- The verdict of latencies, by what is found of the line, the points and the runs.
use Rattle.std.proofs.Common.{◌≡◌, ℕ, ◌+◌, ◌≤◌, ◌<◌, List, [], ◌∷◌, ◌++◌, length, take, get_or, nat_le, Bool, true, false, ◌&&◌, if◌then◌else◌, refl, sym, ap, ap₂, ◌∙◌, Option, Some}
use Rattle.std.proofs.lemmas.List.{take_more}
use Rattle.std.proofs.lemmas.List.Folds.{list_all-append}
use Rattle.std.proofs.lemmas.List.Elements.{All-head, All-tail}
use Rattle.std.specs.List.{All, list_all}
use Rattle.coz_types.specs.Image.{ImageParts}
use Rattle.line_index.specs.Index.{Index}
use Rattle.line_index.specs.Lines.{Line}
use Rattle.progress_points.specs.Points.{Points, IsPoints, point_of}
use Rattle.experiment_plan.specs.Selected.{places_among, rising_numbers}
use Rattle.experiment_plan.proofs.Among.{all_among}
use Rattle.experiment_plan.proofs.Pairing.{speedup_few}
use Rattle.machines.specs.Guest.{Experiment}
use Rattle.machines.specs.Lead.{Before, at_speedup}
use Rattle.machines.specs.Records.{NetRecord, net}
use Rattle.machines.specs.Standing.{delayed_record}
use Rattle.guest_calls.specs.Guest.{Guest}
use Rattle.timing_model.specs.Timing.{usual}
use Rattle.timing_model.proofs.Usual.{usual_is}
use Rattle.timed_guest.specs.Guest.{Timed}
use Rattle.run_engine.specs.Choices.{choice_of}
use Rattle.run_engine.specs.Run.{timed_experiment}
use Rattle.run_engine.proofs.Usual.{usual_delayed}
use Rattle.run_engine.specs.Seen.{Seen, experiment_of}
use Rattle.run_engine.specs.declared.choice.Choice.{Choice}
use Rattle.coz_words.specs.Said.{Text}
use Rattle.coz_words.specs.declared.request.Request.{Request}
use Rattle.program_load.specs.Selection.{line_named, lines_named}
use Rattle.program_load.specs.Verdict.{Verdict, named_verdict, points_verdict}
use Rattle.run_inputs.specs.Experiment.{Runs, runs_in}
use Rattle.coz_commands.specs.Latencies.{latency_printed, latency_verdict, marked_verdict, net_at_each, speedups_of}
use Rattle.coz_types.specs.declared.PointId.{PointId}
use Rattle.latency_points.specs.Moments.{numbers_of}
use Rattle.command_texts.specs.LatencyText.{latency_line, latency_text, run_line}
use Rattle.command_texts.specs.Printed.{has_exited}
use Rattle.coz_commands.specs.declared.measuring.RunLatency.{RunLatency}
use Rattle.coz_commands.specs.Measured.{measured_in, run_at}
use Rattle.run_inputs.proofs.Indexed.{experiment_is}
use Rattle.coz_commands.proofs.Profiling.{few_speedups}

-- ---- speedups

-- no speedup is above 95
pub few_rising : (speedups : List ℕ) → list_all (λ p. nat_le p 95) speedups ≡ true → All (λ p. p ≤ 95) (rising_numbers (0 ∷ speedups))
few_rising speedups fit = all_among (λ p. p ≤ 95) (rising_numbers (0 ∷ speedups)) (λ p m. speedup_few speedups p (few_speedups speedups fit) m)

-- ---- runs

-- what is printed depends on the runs at these speedups alone
text_alike : (arrive depart : List ℕ) (f g : ℕ → NetRecord) (speedups : List ℕ) → All (λ p. p ≤ 95) speedups → ((p : ℕ) → p ≤ 95 → f p ≡ g p) → latency_text arrive depart f speedups ≡ latency_text arrive depart g speedups
text_alike arrive depart f g [] small same = refl
text_alike arrive depart f g (p ∷ speedups) small same =
    ap₂ (λ (one rest : List ℕ). one ++ rest) (ap (run_line arrive depart p) (same p (All-head (λ p. p ≤ 95) p speedups small)))
    (text_alike arrive depart f g speedups (All-tail (λ p. p ≤ 95) p speedups small) same)

all_alike : (f g : ℕ → NetRecord) (speedups : List ℕ) → All (λ p. p ≤ 95) speedups → ((p : ℕ) → p ≤ 95 → f p ≡ g p) → list_all (λ p. has_exited (f p).ending) speedups ≡ list_all (λ p. has_exited (g p).ending) speedups
all_alike f g [] small same = refl
all_alike f g (p ∷ speedups) small same =
    ap₂ (λ (one rest : Bool). one && rest) (ap (λ (r : NetRecord). has_exited r.ending) (same p (All-head (λ p. p ≤ 95) p speedups small)))
    (all_alike f g speedups (All-tail (λ p. p ≤ 95) p speedups small) same)

abbrev latency_answered : Bool → List ℕ → Verdict
latency_answered all text = record { status = if all then 0 else 1; text = text; line = [] }

printed_alike : (arrive depart : List ℕ) (f g : ℕ → NetRecord) (speedups : List ℕ) → All (λ p. p ≤ 95) speedups → ((p : ℕ) → p ≤ 95 → f p ≡ g p) → latency_printed arrive depart f speedups ≡ latency_printed arrive depart g speedups
printed_alike arrive depart f g speedups small same =
    ap₂ (λ (all : Bool) (text : List ℕ). latency_answered all text) (all_alike f g speedups small same) (text_alike arrive depart f g speedups small same)

-- the runs of a lead that was made by an index are those by its lines
module _ (image : ImageParts) (index : Index) (input : List ℕ) (points : Points) (selected budget : ℕ) (choice : Choice) (lead : Seen (Before Timed)) (are : IsPoints index points.lines points) (chosen : choice ≡ choice_of (Some selected) 0 budget)
    (is : experiment_of lead ≡ timed_experiment usual image index (point_of points) input choice) where
  run_is : (speedup : ℕ) → speedup ≤ 95 → run_at lead speedup ≡ net_at_each (runs_in image index input) (Some selected) budget points.lines speedup
  run_is speedup small =
      ap (λ (x : Experiment Timed). net (delayed_record (at_speedup speedup x))) is
      ∙ ap net (usual_delayed usual usual_is image index (point_of points) input (record choice { speedup = speedup }) small)
      ∙ ap (λ (x : Experiment Guest). net (delayed_record x))
      (experiment_is image index input points points.lines (record choice { speedup = speedup }) (choice_of (Some selected) speedup budget) are
      (ap (λ (c : Choice). record c { speedup = speedup }) chosen))

  -- so what is printed of them is the same
  pub runs_are : (arrive depart speedups : List ℕ) → All (λ p. p ≤ 95) speedups → latency_printed arrive depart (run_at lead) speedups ≡ latency_printed arrive depart (net_at_each (runs_in image index input) (Some selected) budget points.lines) speedups
  runs_are arrive depart speedups small =
      printed_alike arrive depart (run_at lead) (net_at_each (runs_in image index input) (Some selected) budget points.lines) speedups small run_is

-- ---- one step after the other

module _ (asked : Request) (lines : List Line) (runs : Runs) where
  abbrev pub printed : Option ℕ → List ℕ → List ℕ → List ℕ → Verdict
  printed selected points arrive depart = latency_printed arrive depart (net_at_each runs selected asked.budget points) (speedups_of asked)

  abbrev with_lines : Option ℕ → List ℕ → List ℕ → Verdict
  with_lines selected arrive depart = marked_verdict arrive depart (printed selected)

  abbrev with_arrive : Option ℕ → List ℕ → Verdict
  with_arrive selected arrive = named_verdict (lines_named lines [] asked.depart) (with_lines selected arrive)

  abbrev with_selected : Option ℕ → Verdict
  with_selected selected = named_verdict (lines_named lines [] asked.arrive) (with_arrive selected)

  -- the line is judged first
  pub after_line : (v : Verdict) (line : Option Text) → line ≡ asked.line → ((next : Option ℕ → Verdict) → v ≡ named_verdict (line_named lines line) next) → v ≡ latency_verdict asked lines runs
  unfolding latency_verdict
  after_line v line same is = is with_selected ∙ ap (λ (l : Option Text). named_verdict (line_named lines l) with_selected) same

  module _ (selected : Option ℕ) (line : Option Text) (same : line ≡ asked.line) (found : (next : Option ℕ → Verdict) → next selected ≡ named_verdict (line_named lines line) next) where
    line_is : with_selected selected ≡ latency_verdict asked lines runs
    unfolding latency_verdict
    line_is = found with_selected ∙ ap (λ (l : Option Text). named_verdict (line_named lines l) with_selected) same

    -- then the arrivals
    pub after_arrive : (v : Verdict) (list : Option Text) → list ≡ asked.arrive → ((next : List ℕ → Verdict) → v ≡ named_verdict (lines_named lines [] list) next) → v ≡ latency_verdict asked lines runs
    after_arrive v list is_arrive is = is (with_arrive selected) ∙ ap (λ (l : Option Text). named_verdict (lines_named lines [] l) (with_arrive selected)) is_arrive ∙ line_is

    module _ (arrive : List ℕ) (list : Option Text) (is_arrive : list ≡ asked.arrive) (arrives : (next : List ℕ → Verdict) → next arrive ≡ named_verdict (lines_named lines [] list) next) where
      arrive_is : with_arrive selected arrive ≡ latency_verdict asked lines runs
      arrive_is = arrives (with_arrive selected) ∙ ap (λ (l : Option Text). named_verdict (lines_named lines [] l) (with_arrive selected)) is_arrive ∙ line_is

      -- then the departures
      pub after_depart : (v : Verdict) (more : Option Text) → more ≡ asked.depart → ((next : List ℕ → Verdict) → v ≡ named_verdict (lines_named lines [] more) next) → v ≡ latency_verdict asked lines runs
      after_depart v more is_depart is =
          is (with_lines selected arrive) ∙ ap (λ (l : Option Text). named_verdict (lines_named lines [] l) (with_lines selected arrive)) is_depart ∙ arrive_is

      -- then the points
      pub after_points : (depart : List ℕ) (more : Option Text) → more ≡ asked.depart → ((next : List ℕ → Verdict) → next depart ≡ named_verdict (lines_named lines [] more) next)
          → (v : Verdict) → v ≡ marked_verdict arrive depart (printed selected) → v ≡ latency_verdict asked lines runs
      after_points depart more is_depart departs v is =
          is ∙ departs (with_lines selected arrive) ∙ ap (λ (l : Option Text). named_verdict (lines_named lines [] l) (with_lines selected arrive)) is_depart ∙ arrive_is

-- ---- points

-- the points of both lists, if there are few
pub marks_are : (arrive depart lines found a d : List ℕ) (next : List ℕ → List ℕ → List ℕ → Verdict) → lines ≡ rising_numbers (arrive ++ depart) → found ≡ lines → a ≡ places_among lines arrive → d ≡ places_among lines depart
    → ((n : List ℕ → Verdict) → n found ≡ points_verdict lines n) → next found a d ≡ marked_verdict arrive depart next
marks_are arrive depart lines found a d next both same is_a is_d judged =
    ap₂ (λ (xs ys : List ℕ). next found xs ys) (is_a ∙ ap (λ (ls : List ℕ). places_among ls arrive) (sym same)) (is_d ∙ ap (λ (ls : List ℕ). places_among ls depart) (sym same))
    ∙ judged (λ points. next points (places_among points arrive) (places_among points depart))
    ∙ ap (λ (ls : List ℕ). points_verdict ls (λ points. next points (places_among points arrive) (places_among points depart))) both

-- and if there are too many
pub no_marks : (arrive depart lines : List ℕ) (v : Verdict) (next : List ℕ → List ℕ → List ℕ → Verdict) → lines ≡ rising_numbers (arrive ++ depart)
    → ((n : List ℕ → Verdict) → v ≡ points_verdict lines n) → v ≡ marked_verdict arrive depart next
no_marks arrive depart lines v next both judged =
    judged (λ points. next points (places_among points arrive) (places_among points depart))
    ∙ ap (λ (ls : List ℕ). points_verdict ls (λ points. next points (places_among points arrive) (places_among points depart))) both

-- ---- lines

and_true : (b : Bool) → b ≡ (b && true)
and_true true = refl
and_true false = refl

module _ (speedups : List ℕ) (i d : ℕ) (below : i < length speedups) where
  -- whether one run more exited
  pub exited_more : (p : ℕ → Bool) (all : Bool) → all ≡ list_all p (take i speedups) → (all && p (get_or speedups i d)) ≡ list_all p (take (i + 1) speedups)
  exited_more p all so_far =
      ap (λ (b : Bool). b && p (get_or speedups i d)) so_far
      ∙ ap (λ (b : Bool). list_all p (take i speedups) && b) (and_true (p (get_or speedups i d)))
      ∙ sym (list_all-append p (take i speedups) (get_or speedups i d ∷ []))
      ∙ ap (list_all p) (sym (take_more speedups i d below))

-- the line of what was measured is that of the run
pub measured_line : (arrive depart : List PointId) (speedup : ℕ) (run : NetRecord) (m : RunLatency) → m ≡ measured_in arrive depart run
    → latency_line speedup m.ending m.net m.latency ≡ run_line (numbers_of arrive) (numbers_of depart) speedup run
measured_line arrive depart speedup run m is = ap (λ (r : RunLatency). latency_line speedup r.ending r.net r.latency) is
