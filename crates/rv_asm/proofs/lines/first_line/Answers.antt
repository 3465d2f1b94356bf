use Rattle.std.proofs.Common.{arith}
use Rattle.std.proofs.lemmas.List.{length-take}
use Rattle.rv_asm.proofs.FirstLine.{first_at}
use Rattle.rv_asm.proofs.lines.first_line.Goals as goal

pub returns : goal.returns
returns c = record {
  lines = first_at c.args.bytes.now c.line_length.result c.requires c.line_length.ensures.length;
  within = omega (arith, length-take c.line_length.result c.args.bytes.now);
}
