use Rattle.std.proofs.Common.{◌≡◌, drop, map}
use Rattle.rv_asm.specs.Assembled.{filled_pieces}
use Rattle.rv_asm.specs.Views.{no_parts, parts_of, put_of, state_of, with_all}
use Rattle.rv_asm.proofs.fill.fill.Given as goal

abbrev pub invariant-loop-put : goal.invariant-loop-put
invariant-loop-put l = with_all (parts_of l.parts) (filled_pieces (state_of l.state) (map put_of (drop l.put-index l.state.puts.items))) ≡ with_all no_parts (filled_pieces (state_of l.state) (map put_of l.state.puts.items))
