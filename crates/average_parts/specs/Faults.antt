-- The faults of the program are faults as each program has them.
use Rattle.std.proofs.Common.{refl, arith}
use Rattle.file_read.specs.declared.fault.FileFault.TheVariants.{Usage, Read, Write, Long, Memory}
use Rattle.coz_serve.specs.Faults.{IsFault}
use Rattle.average_parts.specs.declared.fault.Fault.{Fault}
use Rattle.average_parts.specs.declared.fault.Fault.TheVariants.{File, Profile, Unlike}
use Rattle.average_parts.specs.Answer.{fault_line, fault_status, shared_fault}

pub average_is_fault : (fault : Fault) → IsFault 14 (shared_fault fault) (fault_status fault) (fault_line fault)
average_is_fault (File Usage) = (omega arith, (refl, refl))
average_is_fault (File (Read path)) = (omega arith, (refl, refl))
average_is_fault (File Write) = (omega arith, (refl, refl))
average_is_fault (File (Long path)) = (omega arith, (refl, refl))
average_is_fault (File Memory) = (omega arith, (refl, refl))
average_is_fault (Profile fault path) = (omega arith, record { no_text = omega arith; no_usage = λ is. omega (arith, is); no_read = λ is. omega (arith, is); no_write = λ is. omega (arith, is); no_memory = λ is. omega (arith, is) })
average_is_fault (Unlike kind path) = (omega arith, record { no_text = omega arith; no_usage = λ is. omega (arith, is); no_read = λ is. omega (arith, is); no_write = λ is. omega (arith, is); no_memory = λ is. omega (arith, is) })
