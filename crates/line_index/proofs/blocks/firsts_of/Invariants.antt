use Rattle.std.proofs.Common.{◌≡◌, ℕ, ◌+◌, ◌*◌, ◌<◌, length, get_or, None}
use Rattle.line_index.specs.declared.blocks.TheConstants.{BLOCK}
use Rattle.line_index.specs.Endings.{IsBetween, IsLeast}
use Rattle.line_index.proofs.blocks.firsts_of.Given as goal

abbrev pub invariant-loop-block : goal.invariant-loop-block
invariant-loop-block l = record {
  as_many : length l.firsts.items ≡ l.block;
  each : (block : ℕ) → block < l.block → IsLeast (IsBetween l.lines (block * BLOCK) (block * BLOCK + BLOCK)) (get_or l.firsts.items block None);
}
