use Rattle.run_engine.proofs.marked.MarkedSetting.set_speedup.Goals as goal

-- no mark says what the speedup is
pub invariant_of-self : goal.invariant_of-self
invariant_of-self c = record {
  low = c.self.invariant.low;
  few = c.self.invariant.few;
  right = λ a mark has.
      let is = c.self.invariant.right a mark has in
      record { point = is.point; line = is.line };
}
