use Rattle.timing_reader.proofs.Inverse.{law}
use Rattle.timing_reader.proofs.the_line_is_read_back.Goals as goal

pub returns : goal.returns
returns c = law
