use Rattle.std.proofs.Common.{arith, sym}
use Rattle.rv_decode.proofs.Groups.{instruction_of-word}
use Rattle.rv_decode.proofs.encode.Goals as goal

pub returns-clause-decodes : goal.returns-clause-decodes
returns-clause-decodes c = instruction_of-word _ c.args.instr (omega arith) (c.requires, sym c.sum_of_fields.ensures.word)
