-- A line that never starts leaves the same at each speedup.
use Rattle.std.proofs.Common.{◌≡◌, ℕ, Bool, false, List, Option, None, sym, ◌∙◌}
use Rattle.coz_types.specs.Image.{ImageParts}
use Rattle.machines.specs.Guest.{Experiment}
use Rattle.machines.specs.Standing.{delayed_record}
use Rattle.guest_calls.specs.Guest.{Guest, pc_of}
use Rattle.run_engine.specs.Run.{experiment}
use Rattle.run_engine.specs.Choices.{choice_of}
use Rattle.run_counts.specs.Beginnings.{all_begun, starts_among}
use Rattle.run_counts.specs.Counts.{is_on}
use Rattle.run_counts.proofs.Counted.{plain, starts_counted, none_started}
use Rattle.join_cli.proofs.Baselines.{pair_at, run_of}

module _ (image : ImageParts) (position point : ℕ → Option ℕ) (points : List ℕ) (input : List ℕ) (budget : ℕ) (line : ℕ) where
  abbrev run : ℕ → Experiment Guest
  run speedup = run_of image position point points input budget (pair_at line speedup)

  abbrev unselected : Experiment Guest
  unselected = experiment image position point input (choice_of None 0 budget)

  abbrev test : Guest → ℕ → Bool
  test g h = is_on line (position (pc_of g h))

  pub unstarted : (delayed_record (run 0)).starts ≡ 0 → (speedup : ℕ) → delayed_record (run speedup) ≡ delayed_record (run 0)
  unstarted none speedup =
      let counted : starts_among (plain unselected test) test (all_begun (plain unselected test)) ≡ 0 = sym (starts_counted unselected test (λ _ _. false)) ∙ none in
      none_started unselected test counted speedup ∙ sym (none_started unselected test counted 0)
