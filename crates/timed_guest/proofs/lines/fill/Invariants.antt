use Rattle.std.proofs.Common.{◌≡◌, length}
use Rattle.timed_guest.specs.Lines.{AreLinesFrom}
use Rattle.timed_guest.proofs.lines.fill.Given as goal

-- the words so far have their lines
abbrev pub invariant-loop-place : goal.invariant-loop-place
invariant-loop-place l = record {
  same : length l.words.items ≡ length l.initial.words.items;
  each : AreLinesFrom l.index l.start l.place l.words.items;
}
