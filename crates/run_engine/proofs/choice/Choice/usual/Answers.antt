use Rattle.std.proofs.Common.{◌≡◌, ◌*◌, ℕ, refl, ap, ◌∙◌}
use Rattle.std.specs.Prelude.{Option, Some, None, option_map}
use Rattle.coz_types.specs.declared.LineId.{LineId}
use Rattle.guest_memory.specs.declared.Layout.{Layout}
use Rattle.run_engine.specs.declared.choice.Choice.{Choice}
use Rattle.run_engine.proofs.choice.Choice.usual.Goals as goal

-- a line by its number is the line
same_line : (o : Option LineId) → o ≡ option_map (λ (l : ℕ). let x : LineId = record { 0 = l } in x) (option_map (λ (line : LineId). line.0) o)
same_line None = refl
same_line (Some line) = refl

pub returns-clause-choice : goal.returns-clause-choice
returns-clause-choice c =
    ap (λ (l : Layout). let x : Choice = record { selected = c.args.selected; speedup = c.args.speedup; budget = c.args.budget; output_limit = 4194304; visit_limit = 1048576; layout = l } in x) c.usual.ensures.sizes
    ∙ ap (λ (o : Option LineId). let x : Choice = record { selected = o; speedup = c.args.speedup; budget = c.args.budget; output_limit = 4194304; visit_limit = 1048576; layout = record { brk = 16 * 1048576; map = 48 * 1048576; stack = 1048576 } } in x) (same_line c.args.selected)
