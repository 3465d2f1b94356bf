-- The verdict of a profile, by what is found of its lines, points and plan.
use Rattle.std.proofs.Common.{◌≡◌, ℕ, ◌^◌, ◌≤◌, ◌<◌, List, [], ◌∷◌, map, length, nat_le, nat_lt, Bool, true, false, cond, if◌then◌else◌, refl, sym, subst, ap, ap₂, ◌∙◌}
use Rattle.std.specs.Prelude.{Option, Some, Result, Ok, Err}
use Rattle.std.proofs.Math.Path.{fun_ext}
use Rattle.std.proofs.lemmas.List.Elements.{All-head, All-tail}
use Rattle.std.specs.List.{All, list_all, slice_index_or}
use Rattle.std.proofs.lemmas.Bool.{lt-ltb, le-ltb, leb-true}
use Rattle.std.proofs.lemmas.List.Sums.{AllPass-from_list_all}
use Rattle.coz_types.specs.Image.{ImageParts}
use Rattle.coz_types.specs.declared.LineId.{LineId}
use Rattle.coz_types.specs.declared.record.Summary.{Summary}
use Rattle.line_index.specs.Index.{Index, IsIndex, position_at}
use Rattle.line_index.specs.Lines.{Line, label_at}
use Rattle.progress_points.specs.Points.{IsPoints, point_of, point_in}
use Rattle.experiment_plan.specs.Selected.{ids}
use Rattle.experiment_plan.specs.Pairs.{planned_pairs, IsPlan}
use Rattle.experiment_plan.specs.declared.experiment.Experiment.{Experiment as Pair}
use Rattle.experiment_plan.specs.declared.experiment.PlanError.{PlanError}
use Rattle.experiment_plan.specs.declared.experiment.PlanError.TheVariants as planning
use Rattle.coz_commands.specs.Answer.{fault_verdict, IsMemoryFault}
use Rattle.program_load.specs.Causes.{planning_fault}
use Rattle.program_load.specs.FaultLines.{plan_line, points_line}
use Rattle.machines.specs.Guest.{Experiment}
use Rattle.machines.specs.Standing.{delayed_record}
use Rattle.guest_calls.specs.Guest.{Guest}
use Rattle.run_engine.specs.Choices.{choice_of}
use Rattle.run_engine.specs.Run.{IsChoice}
use Rattle.run_engine.specs.declared.choice.Choice.{Choice}
use Rattle.timing_laws.specs.Noted.{Noted}
use Rattle.timing_laws.specs.Cores.{Cores}
use Rattle.timing_model.specs.declared.timing.Timing.{Timing}
use Rattle.timing_model.specs.Timing.{usual}
use Rattle.timing_model.proofs.Usual.{usual_is}
use Rattle.run_subject.specs.declared.Subject.{Subject}
use Rattle.run_subject.specs.Subjects.{experiment_on}
use Rattle.guest_timing.specs.Timed.{timed}
use Rattle.guest_timing.proofs.Machines.{machine_run_is}
use Rattle.guest_timing.proofs.Usual.{usual_run_is}
use Rattle.dwarf_lines.specs.Registers.{Table}
use Rattle.line_index.specs.Listed.{lines_in, position_in}
use Rattle.line_index.proofs.Listed.{lines_are, entries_are, positions_are}
use Rattle.run_inputs.specs.Experiment.{entries_of, experiment_by_table}
use Rattle.profile_pool.specs.Subjects as subjects
use Rattle.profile_pool.specs.Subjects.{summaries_on}
use Rattle.profile_pool.proofs.Choices.{valid_choice}
use Rattle.experiment_plan.proofs.Pairing.{speedups_few}
use Rattle.coz_words.specs.Said.{Text}
use Rattle.coz_words.specs.declared.request.Request.{Request}
use Rattle.program_load.specs.Selection.{lines_named}
use Rattle.coz_commands.specs.Profiled.{all_lines, pairs_of, profile_from, summary_on, delayed_records, timed_in, timed_by_table, Records}
use Rattle.profile_book.specs.declared.profile.Profile.{Profile}
use Rattle.run_inputs.proofs.Indexed.{points_are}
use Rattle.coz_commands.specs.Verdict.{Verdict, named_verdict, plan_verdict, points_verdict, profile_verdict, profiled_verdict, recorded_verdict, machine_verdict, program_verdict, file_verdict, refusal}

-- ---- the plan

same_lines : (lines : List LineId) → lines ≡ map (λ (l : ℕ). record { 0 = l }) (ids lines)
same_lines [] = refl
same_lines (line ∷ lines) = ap (λ (ls : List LineId). line ∷ ls) (same_lines lines)

pub pairs_are : (lines : List LineId) (speedups : List ℕ) → planned_pairs lines speedups ≡ pairs_of (ids lines) speedups
pairs_are lines speedups = ap (λ (ls : List LineId). planned_pairs ls speedups) (same_lines lines)

-- a plan of at most 100,000 pairs
pub plan_few : (lines : List LineId) (speedups : List ℕ) (plan : List Pair) (next : List Pair → Verdict) → IsPlan lines speedups (Ok plan)
    → next plan ≡ plan_verdict (pairs_of (ids lines) speedups) next
plan_few lines speedups plan next is =
    let same = is.0 ∙ pairs_are lines speedups in
    ap (λ (many : Bool). cond many (refusal 9 (plan_line (length plan))) (next plan)) (sym (le-ltb 100000 (length plan) is.1))
    ∙ ap (λ (pairs : List Pair). plan_verdict pairs next) same

-- more pairs are too many
pub plan_many : (lines : List LineId) (speedups : List ℕ) (error : PlanError) (next : List Pair → Verdict) → IsPlan lines speedups (Err error)
    → (IsMemoryFault (planning_fault error) → ⊥) → fault_verdict (planning_fault error) ≡ plan_verdict (pairs_of (ids lines) speedups) next
plan_many lines speedups (planning.TooMany count) next is other =
    let pairs : List Pair = planned_pairs lines speedups in
    ap (λ (n : ℕ). refusal 9 (plan_line n)) is.0
    ∙ ap (λ (many : Bool). cond many (refusal 9 (plan_line (length pairs))) (next pairs)) (sym (lt-ltb 100000 (length pairs) (subst (λ (n : ℕ). 100000 < n) is.0 is.1)))
    ∙ ap (λ (pairs : List Pair). plan_verdict pairs next) (pairs_are lines speedups)
plan_many lines speedups planning.Memory next is other = absurd (other tt)

-- ---- speedups

at_most : (p : ℕ) → nat_le p 95 ≡ true → p ≤ 95
at_most p is = leb-true p 95 is

pub few_speedups : (speedups : List ℕ) → list_all (λ p. nat_le p 95) speedups ≡ true → All (λ p. p ≤ 95) speedups
few_speedups speedups fit = λ k d below. at_most (slice_index_or speedups k d) (AllPass-from_list_all (λ p. nat_le p 95) speedups fit k d below)

-- no speedup of a plan is above 95
pub speedups_small : (positions speedups : List ℕ) → list_all (λ p. nat_le p 95) speedups ≡ true → All (λ (pair : Pair). pair.speedup ≤ 95) (pairs_of positions speedups)
speedups_small positions speedups fit = speedups_few (map (λ (l : ℕ). record { 0 = l }) positions) speedups (few_speedups speedups fit)

-- ---- the profile

module _ (s : Subject) (budget : ℕ) (are : IsPoints s.index.now s.points.now.lines s.points.now) (some : 1 ≤ budget) (few : budget ≤ 10 ^ 12) where
  abbrev records_on : Records
  records_on = delayed_records (timed_in s.timing s.image.now s.index.now s.input.now)

  -- the run of a pair by the engine leaves what the definitions say
  pair_is : (pair : Pair) → pair.speedup ≤ 95 → delayed_record (experiment_on s (choice_of (Some pair.line.0) pair.speedup budget)) ≡ records_on (choice_of (Some pair.line.0) pair.speedup budget) s.points.now.lines
  pair_is pair small =
      let choice : Choice = choice_of (Some pair.line.0) pair.speedup budget in
      (machine_run_is s.timing s.image.now s.index.now (point_of s.points.now) s.input.now choice (valid_choice pair.line.0 pair.speedup budget some few small)).delayed
      ∙ ap (λ (point : ℕ → Option ℕ). delayed_record (timed s.timing s.image.now (position_at s.index.now) point s.input.now choice)) (points_are s.index.now s.points.now.lines s.points.now are)

  -- and so do the summaries of a plan
  pub summaries_are : (pairs : List Pair) → All (λ (pair : Pair). pair.speedup ≤ 95) pairs
      → summaries_on s budget pairs ≡ map (λ pair. summary_on s.index.now.lines s.points.now.lines pair (records_on (choice_of (Some pair.line.0) pair.speedup budget) s.points.now.lines)) pairs
  unfolding subjects.summary_on
  summaries_are [] slow = refl
  summaries_are (pair ∷ pairs) slow =
      ap₂ (λ (one : Summary) (rest : List Summary). one ∷ rest)
      (ap (summary_on s.index.now.lines s.points.now.lines pair) (pair_is pair (All-head (λ (pair : Pair). pair.speedup ≤ 95) pair pairs slow)))
      (summaries_are pairs (All-tail (λ (pair : Pair). pair.speedup ≤ 95) pair pairs slow))

-- the profile of these labels and summaries
pub same_profile : (lines : List Line) (records : Records) (budget : ℕ) (points : List ℕ) (pairs : List Pair) (labels : List (List ℕ)) (summaries : List Summary) → labels ≡ map (label_at lines) points
    → summaries ≡ map (λ pair. summary_on lines points pair (records (choice_of (Some pair.line.0) pair.speedup budget) points)) pairs
    → ◌≡◌ {A = Profile} (record { budget = budget; points = labels; summaries = summaries }) (profile_from records lines budget points pairs)
same_profile lines records budget points pairs labels summaries named ran =
    ap₂ (λ (ls : List (List ℕ)) (ss : List Summary). record { budget = budget; points = ls; summaries = ss }) named ran

-- ---- one step after the other

module _ (asked : Request) (lines : List Line) (records : Records) where
  abbrev with_pairs : List ℕ → List Pair → Verdict
  with_pairs points pairs = profile_verdict (profile_from records lines asked.budget points pairs)

  abbrev with_points : List ℕ → List ℕ → Verdict
  with_points selected points = plan_verdict (pairs_of selected asked.speedups) (with_pairs points)

  abbrev with_selected : List ℕ → Verdict
  with_selected selected = named_verdict (lines_named lines [] asked.progress) (λ named. points_verdict named (with_points selected))

  -- the lines are judged first
  pub after_lines : (v : Verdict) (list : Option Text) → list ≡ asked.lines
      → ((next : List ℕ → Verdict) → v ≡ named_verdict (lines_named lines (all_lines lines) list) next) → v ≡ recorded_verdict asked lines records
  unfolding recorded_verdict
  after_lines v list same is = is with_selected ∙ ap (λ (l : Option Text). named_verdict (lines_named lines (all_lines lines) l) with_selected) same

  module _ (selected : List ℕ) (list : Option Text) (same : list ≡ asked.lines)
      (named : (next : List ℕ → Verdict) → next selected ≡ named_verdict (lines_named lines (all_lines lines) list) next) where
    -- then the points
    pub after_selected : (v : Verdict) (progress : Option Text) → progress ≡ asked.progress
        → ((next : List ℕ → Verdict) → v ≡ named_verdict (lines_named lines [] progress) (λ named. points_verdict named next)) → v ≡ recorded_verdict asked lines records
    unfolding recorded_verdict
    after_selected v progress same_points is =
        is (with_points selected)
        ∙ ap (λ (l : Option Text). named_verdict (lines_named lines [] l) (λ named. points_verdict named (with_points selected))) same_points
        ∙ named with_selected
        ∙ ap (λ (l : Option Text). named_verdict (lines_named lines (all_lines lines) l) with_selected) same

    module _ (points : List ℕ) (progress : Option Text) (same_points : progress ≡ asked.progress)
        (pointed : (next : List ℕ → Verdict) → next points ≡ named_verdict (lines_named lines [] progress) (λ named. points_verdict named next)) where
      -- then the plan
      pub after_points : (v : Verdict) → v ≡ plan_verdict (pairs_of selected asked.speedups) (with_pairs points) → v ≡ recorded_verdict asked lines records
      unfolding recorded_verdict
      after_points v is =
          is
          ∙ pointed (with_points selected)
          ∙ ap (λ (l : Option Text). named_verdict (lines_named lines [] l) (λ named. points_verdict named (with_points selected))) same_points
          ∙ named with_selected
          ∙ ap (λ (l : Option Text). named_verdict (lines_named lines (all_lines lines) l) with_selected) same

-- ---- records that are alike

module _ (budget : ℕ) (lines : List Line) (f g : Records) (same : (choice : Choice) → IsChoice choice → (points : List ℕ) → f choice points ≡ g choice points) (some : 1 ≤ budget) (few : budget ≤ 10 ^ 12) where
  summaries_alike : (points : List ℕ) (pairs : List Pair) → All (λ (pair : Pair). pair.speedup ≤ 95) pairs
      → map (λ pair. summary_on lines points pair (f (choice_of (Some pair.line.0) pair.speedup budget) points)) pairs ≡ map (λ pair. summary_on lines points pair (g (choice_of (Some pair.line.0) pair.speedup budget) points)) pairs
  summaries_alike points [] slow = refl
  summaries_alike points (pair ∷ pairs) slow =
      ap₂ (λ (one : Summary) (rest : List Summary). one ∷ rest)
      (ap (summary_on lines points pair) (same (choice_of (Some pair.line.0) pair.speedup budget) (valid_choice pair.line.0 pair.speedup budget some few (All-head (λ (pair : Pair). pair.speedup ≤ 95) pair pairs slow)) points))
      (summaries_alike points pairs (All-tail (λ (pair : Pair). pair.speedup ≤ 95) pair pairs slow))

  profiles_alike : (points : List ℕ) (pairs : List Pair) → All (λ (pair : Pair). pair.speedup ≤ 95) pairs → profile_from f lines budget points pairs ≡ profile_from g lines budget points pairs
  profiles_alike points pairs slow = ap (λ (summaries : List Summary). record { budget = budget; points = map (label_at lines) points; summaries = summaries }) (summaries_alike points pairs slow)

  planned_alike : (many : Bool) (points : List ℕ) (pairs : List Pair) (refused : Verdict) → All (λ (pair : Pair). pair.speedup ≤ 95) pairs
      → (if many then refused else profile_verdict (profile_from f lines budget points pairs)) ≡ (if many then refused else profile_verdict (profile_from g lines budget points pairs))
  planned_alike true points pairs refused slow = refl
  planned_alike false points pairs refused slow = ap profile_verdict (profiles_alike points pairs slow)

named_alike : {A : Type 0} (r : Result A Text) (f g : A → Verdict) → ((a : A) → f a ≡ g a) → named_verdict r f ≡ named_verdict r g
named_alike (Ok a) f g same = same a
named_alike (Err piece) f g same = refl

pointed_alike : (points : List ℕ) (f g : List ℕ → Verdict) → ((ps : List ℕ) → f ps ≡ g ps) → points_verdict points f ≡ points_verdict points g
pointed_alike points f g same = go (nat_lt 64 (length points))
  where
    go : (many : Bool) → (if many then refusal 7 (points_line (length points)) else f points) ≡ (if many then refusal 7 (points_line (length points)) else g points)
    go true = refl
    go false = same points

-- what is printed depends on what the runs leave alone
pub recorded_alike : (asked : Request) (lines : List Line) (f g : Records) → 1 ≤ asked.budget → asked.budget ≤ 10 ^ 12 → list_all (λ p. nat_le p 95) asked.speedups ≡ true
    → ((choice : Choice) → IsChoice choice → (points : List ℕ) → f choice points ≡ g choice points) → recorded_verdict asked lines f ≡ recorded_verdict asked lines g
unfolding recorded_verdict
recorded_alike asked lines f g some few slow same =
    named_alike (lines_named lines (all_lines lines) asked.lines) _ _ (λ selected.
    named_alike (lines_named lines [] asked.progress) _ _ (λ named.
    pointed_alike named _ _ (λ points.
    planned_alike asked.budget lines f g same some few (nat_lt 100000 (length (pairs_of selected asked.speedups))) points (pairs_of selected asked.speedups) (refusal 9 (plan_line (length (pairs_of selected asked.speedups)))) (speedups_small selected asked.speedups slow))))

-- ---- the program in a file

module _ (t : Timing) (image : ImageParts) (table : Table) (input : List ℕ) (asked : Request) (index : Index) (is : IsIndex table image.areas index) where
  timed_with : List (List ℕ) → (ℕ → Option ℕ) → Choice → List ℕ → Experiment (Cores (Noted Guest))
  timed_with entries position choice points = timed t image position (point_in entries points) input choice

  same_timed : timed_in t image index input ≡ timed_by_table t image table input
  unfolding timed_with timed_by_table
  same_timed = ap (timed_with index.entries) (fun_ext (positions_are is)) ∙ ap (λ (es : List (List ℕ)). timed_with es (position_in table image.areas)) (entries_are is)

  -- an index of a program's table says of its runs what the table says
  pub machine_indexed : recorded_verdict asked index.lines (delayed_records (timed_in t image index input)) ≡ recorded_verdict asked (lines_in table image.areas) (delayed_records (timed_by_table t image table input))
  machine_indexed = ap₂ (λ (lines : List Line) (runs : Choice → List ℕ → Experiment (Cores (Noted Guest))). recorded_verdict asked lines (delayed_records runs)) (lines_are is) same_timed

-- on the usual machine a profile is that of the guest alone
module _ (asked : Request) (some : 1 ≤ asked.budget) (few : asked.budget ≤ 10 ^ 12) (slow : list_all (λ p. nat_le p 95) asked.speedups ≡ true) where
  usual_table : (image : ImageParts) (table : Table) (input : List ℕ) → recorded_verdict asked (lines_in table image.areas) (delayed_records (timed_by_table usual image table input)) ≡ profiled_verdict asked (lines_in table image.areas) (experiment_by_table image table input)
  unfolding timed_by_table experiment_by_table
  usual_table image table input =
      recorded_alike asked (lines_in table image.areas) (delayed_records (timed_by_table usual image table input)) (delayed_records (experiment_by_table image table input)) some few slow
      (λ choice valid points. (usual_run_is usual usual_is image (position_in table image.areas) (point_in (entries_of image table) points) input choice valid).delayed)

  pub usual_machine : machine_verdict usual asked ≡ file_verdict (profiled_verdict asked)
  usual_machine = fun_ext (λ file. fun_ext (λ input. ap (program_verdict file) (fun_ext (λ image. fun_ext (λ table. usual_table image table input)))))
