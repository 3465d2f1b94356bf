use Rattle.std.proofs.Common.{refl}
use Rattle.run_engine.proofs.engine.Engine.copy_from.Goals as goal

pub returns : goal.returns
returns c = rw (c.copy_from.ensures, c.copy_from-2.ensures, c.copy_from-3.ensures, c.copy_from-4.ensures, c.copy_from-5.ensures) refl
