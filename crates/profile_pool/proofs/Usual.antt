-- On the usual machine the summaries of a plan are those of the guest alone.
use Rattle.std.proofs.Common.{◌≡◌, ℕ, ◌≤◌, List, [], ◌∷◌, length, get_or, map, Some, ap, ap₂, refl}
use Rattle.std.specs.List.{All}
use Rattle.std.proofs.lemmas.List.Elements.{All-head, All-tail}
use Rattle.coz_types.specs.declared.record.Summary.{Summary}
use Rattle.line_index.specs.Lines.{label}
use Rattle.progress_points.specs.Points.{point_of}
use Rattle.experiment_plan.specs.declared.experiment.Experiment.{Experiment}
use Rattle.timing_model.specs.Timing.{IsUsual}
use Rattle.run_engine.specs.Choices.{choice_of}
use Rattle.run_engine.proofs.Usual.{usual_delayed}
use Rattle.run_subject.specs.declared.Subject.{Subject}
use Rattle.profile_pool.specs.Summaries.{summary_of, summary_in, summaries_of}
use Rattle.profile_pool.specs.Subjects.{summary_on, summaries_on}

module _ (s : Subject) (usual : IsUsual s.timing) (budget : ℕ) where
  usual_summary : (line speedup : ℕ) → speedup ≤ 95 → summary_on s budget line speedup ≡ summary_in s.image.now s.index.now s.points.now s.input.now budget line speedup
  unfolding summary_on summary_in
  usual_summary line speedup small =
      ap (summary_of (get_or (map label s.index.now.lines) line []) speedup (length s.points.now.lines))
      (usual_delayed s.timing usual s.image.now s.index.now (point_of s.points.now) s.input.now (choice_of (Some line) speedup budget) small)

  pub usual_summaries : (plan : List Experiment) → All (λ (pair : Experiment). pair.speedup ≤ 95) plan
      → summaries_on s budget plan ≡ summaries_of s.image.now s.index.now s.points.now s.input.now budget plan
  usual_summaries [] slow = refl
  usual_summaries (pair ∷ plan) slow =
      ap₂ (λ (one : Summary) (rest : List Summary). one ∷ rest)
      (usual_summary pair.line.0 pair.speedup (All-head (λ (pair : Experiment). pair.speedup ≤ 95) pair plan slow))
      (usual_summaries plan (All-tail (λ (pair : Experiment). pair.speedup ≤ 95) pair plan slow))
