use Rattle.std.proofs.Common.{◌≡◌, ◌≤◌, ◌∙◌, ◌++◌, [], ◌∷◌, ℕ, List, sym, ap₂, subst, if◌then◌else◌, arith}
use Rattle.std.proofs.lemmas.List.FromFn.{filter_of_map_range_with_len_more}
use Rattle.machines.specs.Delayed.{Delayed}
use Rattle.timed_guest.specs.Guest.{Timed}
use Rattle.run_engine.specs.Seen.{Seen, experiment_of}
use Rattle.counted_run.specs.CountedRun.{on_line}
use Rattle.hot_lines.specs.declared.lines.HotLine.{HotLine}
use Rattle.hot_lines.specs.Lines.{has_started}
use Rattle.hot_lines.specs.HotRun.{all_seen, begun_seen, line_seen}
use Rattle.run_counts.proofs.Within.{cost_le}
use Rattle.hot_lines.proofs.Costs.{all_if}
use Rattle.hot_lines.proofs.run.started_lines.Goals as goal

pub loop-line-preserved : goal.loop-line-preserved
loop-line-preserved c =
    let seen : Seen (Delayed Timed) = c.args.counted.now in
    let k : ℕ = c.loop-line.line in
    let line_of : ℕ → ℕ → HotLine = λ starts cost. record { line = k; starts = starts; cost = cost } in
    let pushed : HotLine = line_of c.starts-starts.result c.cost-cost.result in
    let same : pushed ≡ line_seen seen k = ap₂ line_of (c.starts-starts.ensures.starts c.requires.ended) c.cost-cost.ensures in
    let with : List HotLine → HotLine → List HotLine = λ before h. before ++ (if has_started h then h ∷ [] else []) in
    let few : pushed.cost ≤ all_seen seen =
    subst (λ (n : ℕ). n ≤ all_seen seen) (sym c.cost-cost.ensures) (cost_le (experiment_of seen) (on_line k) (begun_seen seen)) in (
      c.in_ok-push_started.ensures
          ∙ ap₂ with c.loop-line.invariant.0 same
          ∙ sym (filter_of_map_range_with_len_more has_started (line_seen seen) 0 k k (omega arith)),
      all_if (λ (h : HotLine). h.cost ≤ all_seen seen) c.loop-line.lines.items c.push_started.new.lines.items pushed c.in_ok-push_started.ensures c.loop-line.invariant.1 few,
    )
