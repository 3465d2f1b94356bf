use Rattle.std.proofs.Common.{◌≡◌, ◌∙◌, ◌<◌, ◌+◌, ◌*◌, ◌/◌, [], ◌∷◌, ◌++◌, ℕ, ap, sym, subst, arith}
use Rattle.std.specs.Global.{Vec}
use Rattle.std.specs.List.{All}
use Rattle.std.specs.List.Sorted.{IsStrictlySortedBy}
use Rattle.std.specs.Ordering.{nat_cmp}
use Rattle.std.proofs.lemmas.List.Elements.{All-push}
use Rattle.coz_types.specs.declared.LineId.{LineId}
use Rattle.experiment_plan.specs.Selected.{ids}
use Rattle.coz_commands.specs.Trial.{tenths}
use Rattle.coz_commands.proofs.Trials.{all_so_many, position_in, position_out, so_many, tenths_rise}
use Rattle.coz_commands.proofs.trial.tenths.Goals as goal
use Rattle.coz_commands.proofs.trial.tenths.Goals.{then-position-from+in_ok-push, else-position-from}

pub loop-i-preserved : goal.loop-i-preserved
loop-i-preserved c =
    let n = c.args.count in
    let i = c.loop-i.i in
    let tenth : ℕ = (c.from.result + 9) / 10 in
    let before = c.loop-i.lines.items in
    elim c.if-position-from.branch [
      | then-position-from+in_ok-push w ↦
          let is : c.if-position-from.lines.items ≡ before ++ record { 0 = i * tenth } ∷ [] = ap (λ (lines : Vec LineId). lines.items) w.lines-is ∙ w.in_ok-push.ensures.items in
          let less : i * tenth < n = omega arith in
          record {
            are = position_in n tenth i before c.if-position-from.lines.items less c.loop-i.invariant.are is;
            below = subst (All (λ (line : LineId). line.0 < n)) (sym is) (All-push (λ (line : LineId). line.0 < n) before (record { 0 = i * tenth }) c.loop-i.invariant.below less);
          }
      | else-position-from w ↦
          let is : c.if-position-from.lines.items ≡ before = ap (λ (lines : Vec LineId). lines.items) w.lines-is in
          record {
            are = ap ids is ∙ position_out n tenth i before (omega arith) c.loop-i.invariant.are;
            below = subst (All (λ (line : LineId). line.0 < n)) (sym is) c.loop-i.invariant.below;
          }
    ]

pub returns-clause-rising : goal.returns-clause-rising
returns-clause-rising c =
    let last : c.loop-i.i ≡ 10 = omega arith in
    let tenth : ℕ = (c.args.count + 9) / 10 in
    let are : ids c.loop-i.lines.items ≡ tenths c.args.count =
    c.loop-i.invariant.are ∙ ap (λ (n : ℕ). so_many c.args.count ((n + 9) / 10) c.loop-i.i) c.from.ensures ∙ ap (so_many c.args.count tenth) last ∙ all_so_many c.args.count in
    subst (IsStrictlySortedBy nat_cmp) (sym are) (tenths_rise c.args.count)
