use Rattle.std.proofs.Common.{None, ap, refl, ◌∙◌, arith}
use Rattle.run_engine.specs.declared.choice.Setting.{Setting}
use Rattle.run_engine.specs.Run.{IsChoice, IsSetting}
use Rattle.run_counts.specs.Counts.{Counts, counts_of, no_counts}
use Rattle.counted_run.specs.Begun.{with_hart}
use Rattle.counted_run.proofs.Counting.{made_first, counting_first}
use Rattle.counted_run.proofs.counted.Counted.new.Goals as goal

pub count-requires-2-clause-made : goal.count-requires-2-clause-made
count-requires-2-clause-made c =
    let setting : Setting = record { index = c.args.index; points = c.args.points; timing = c.args.timing; choice = record c.args.choice { selected = None; speedup = 0 } } in
    let chosen : IsChoice setting.choice = record {
      speedup = omega arith;
      some_budget = c.requires.choice.some_budget;
      few = c.requires.choice.few;
      some_output = c.requires.choice.some_output;
      output = c.requires.choice.output;
      some_visits = c.requires.choice.some_visits;
      visits = c.requires.choice.visits;
      layout = c.requires.choice.layout;
    } in
    let valid : IsSetting setting = record { choice = chosen; machine = c.requires.machine } in
    made_first c.args.image.now c.args.input.now setting c.in_ok-engine.engine valid refl refl c.in_ok-engine.ensures

pub invariant_of-result : goal.invariant_of-result
invariant_of-result c =
    let setting : Setting = record { index = c.args.index; points = c.args.points; timing = c.args.timing; choice = record c.args.choice { selected = None; speedup = 0 } } in
    let chosen : IsChoice setting.choice = record {
      speedup = omega arith;
      some_budget = c.requires.choice.some_budget;
      few = c.requires.choice.few;
      some_output = c.requires.choice.some_output;
      output = c.requires.choice.output;
      some_visits = c.requires.choice.some_visits;
      visits = c.requires.choice.visits;
      layout = c.requires.choice.layout;
    } in
    let valid : IsSetting setting = record { choice = chosen; machine = c.requires.machine } in
    counting_first c.args.image.now c.args.input.now setting c.in_ok-engine.engine valid refl refl c.in_ok-engine.ensures (counts_of c.count-2.new.tallies)
    (c.count-2.ensures.counts
    ∙ ap (λ (n : Counts). with_hart c.in_ok-engine.engine.guest n 0) (c.in_ok-tallies.ensures ∙ ap no_counts c.count.ensures))
