use Rattle.std.proofs.Common.{◌≡◌, length}
use Rattle.hart_steps.specs.Code.{AreWordsFrom}
use Rattle.hart_steps.proofs.code.decode_from.Given as goal

-- the words so far are decoded
abbrev pub invariant-loop-k : goal.invariant-loop-k
invariant-loop-k l = record {
  same : length l.words.items ≡ length l.initial.words.items;
  each : AreWordsFrom l.memory l.start l.k l.words.items;
}
