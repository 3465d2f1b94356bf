use Rattle.std.proofs.Common.{◌≡◌, ℕ, All, true, ap, ◌∙◌, sym, subst, arith}
use Rattle.std.specs.Global.{Vec}
use Rattle.std.proofs.lemmas.List.Elements.{All-push}
use Rattle.coz_types.specs.Labels.{is_written}
use Rattle.line_index.proofs.Distinct.{paths_more}
use Rattle.line_index.specs.Keys.{texts}
use Rattle.line_index.proofs.paths.written_paths.Goals as goal

pub loop-entry-preserved : goal.loop-entry-preserved
loop-entry-preserved c = (
  ap texts c.in_ok-push.ensures.items ∙ paths_more c.loop-entry.paths.items c.in_ok-written_path.field-0 c.args.entries.now c.loop-entry.entry-index _ (omega arith) c.loop-entry.invariant.0 c.in_ok-written_path.ensures.path,
  subst (All (λ (text : Vec ℕ). is_written text.items ≡ true)) (sym c.in_ok-push.ensures.items) (All-push (λ (text : Vec ℕ). is_written text.items ≡ true) c.loop-entry.paths.items c.in_ok-written_path.field-0 c.loop-entry.invariant.1 c.in_ok-written_path.ensures.right),
)
