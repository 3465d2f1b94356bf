use Rattle.std.proofs.Common.{◌≡◌, length}
use Rattle.timing_state.specs.Jitter.{AreKeys}
use Rattle.timing_state.proofs.jitter.draw_keys.Given as goal

-- the harts so far have their keys
abbrev pub invariant-loop-hart : goal.invariant-loop-hart
invariant-loop-hart l = record {
  same : length l.keys.items ≡ length l.initial.keys.items;
  each : AreKeys l.seed l.hart l.keys.items;
}
