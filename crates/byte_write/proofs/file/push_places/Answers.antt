use Rattle.byte_write.specs.Numbers.{double}
use Rattle.byte_write.proofs.file.push_places.Goals as goal

pub returns : goal.returns
unfolding double
returns c = c.push_doubles.ensures
