-- Which faults are not those of a request.
use Rattle.std.proofs.Common.{◌≡◌, ◌≢◌, Some, subst}
use Rattle.program_load.specs.declared.fault.Fault.{Fault}
use Rattle.file_read.specs.declared.fault.FileFault.TheVariants.{Read, Write}
use Rattle.program_load.specs.declared.fault.Fault.TheVariants.{File}
use Rattle.coz_words.specs.declared.request.Request.{Request}
use Rattle.run_inputs.specs.Answer.{Names, IsOfRequest}

-- of a request, a failed read is that of a path that it names
pub names_read : (asked : Request) (fault : Fault) → IsOfRequest asked fault → (path : _) → fault ≡ File (Read path) → Names (Some asked) path.now
names_read asked fault of path is = subst (IsOfRequest asked) is of

-- and nothing was written before
pub no_write : (asked : Request) (fault : Fault) → IsOfRequest asked fault → fault ≢ File Write
no_write asked fault of is = subst (IsOfRequest asked) is of
