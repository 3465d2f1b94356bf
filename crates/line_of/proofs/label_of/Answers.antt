use Rattle.line_of.proofs.Lines.{is_below}
use Rattle.line_of.proofs.label_of.Goals as goal

pub label-requires : goal.label-requires
label-requires c =
    is_below c.in-Ok.program.index c.args.address _ c.in-Some.line
    (c.in-Ok.ensures.indexed.positions c.args.address) (c.in-Some.ensures)
