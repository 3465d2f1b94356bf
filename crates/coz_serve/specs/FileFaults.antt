-- The faults that each program may have are faults of each program.
use Rattle.std.specs.Prelude.{Some}
use Rattle.std.proofs.Common.{refl, arith}
use Rattle.file_read.specs.declared.fault.FileFault.{FileFault}
use Rattle.file_read.specs.declared.fault.FileFault.TheVariants.{Usage, Read, Write, Long, Memory}
use Rattle.file_read.specs.Faults.{file_status, file_line}
use Rattle.coz_serve.specs.Faults.{IsFault}

pub file_is_fault : (fault : FileFault) → IsFault 10 (Some fault) (file_status fault) (file_line fault)
file_is_fault Usage = (omega arith, (refl, refl))
file_is_fault (Read path) = (omega arith, (refl, refl))
file_is_fault Write = (omega arith, (refl, refl))
file_is_fault (Long path) = (omega arith, (refl, refl))
file_is_fault Memory = (omega arith, (refl, refl))
