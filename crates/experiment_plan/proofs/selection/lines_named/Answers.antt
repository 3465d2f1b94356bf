use Rattle.std.proofs.Common.{Some, List, sym, ap, ◌∙◌, ◌∷◌, [], subst, option_map}
use Rattle.std.specs.Option.{option_copied}
use Rattle.std.proofs.lemmas.List.{map-append}
use Rattle.coz_types.specs.declared.LineId.{LineId}
use Rattle.experiment_plan.specs.Selected.{id_of, ids}
use Rattle.experiment_plan.proofs.Naming.{starts, continues_with, Continues}
use Rattle.experiment_plan.proofs.selection.lines_named.Goals as goal

pub loop-left-init : goal.loop-left-init
loop-left-init c =
    let lines = c.args.index.now.lines in
    subst (λ (ls : List LineId). Continues lines c.args.text.now (ids ls) (Some c.args.text.now)) (sym c.new-lines.ensures.items) (starts lines c.args.text.now c.requires)

pub loop-left-preserved : goal.loop-left-preserved
loop-left-preserved c =
    let lines = c.args.index.now.lines in
    let put = c.loop-left.lines.items in
    let line = c.in-Some-line_found.line in
    continues_with lines c.args.text.now c.in-Some.list.now c.first_piece.result.0.now (option_copied c.first_piece.result.1) (ids put) (ids c.push.new.self.items) line.0
    (sym c.line_found.ensures ∙ ap (option_map id_of) c.in-Some-line_found.is)
    (ap ids c.in_ok-push.ensures.items ∙ map-append id_of put (line ∷ []))
    c.first_piece.ensures.pieces c.first_piece.ensures.cut
    (subst (λ o. Continues lines c.args.text.now (ids put) (option_copied o)) c.in-Some.is c.loop-left.invariant)
