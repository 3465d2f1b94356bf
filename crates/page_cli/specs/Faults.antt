-- The faults are faults as each program has them.
use Rattle.std.proofs.Common.{refl, arith}
use Rattle.file_read.specs.declared.fault.FileFault.TheVariants.{Usage, Read, Write, Long, Memory}
use Rattle.coz_serve.specs.Faults.{IsFault}
use Rattle.page_cli.specs.declared.fault.Fault.{Fault}
use Rattle.page_cli.specs.declared.fault.Fault.TheVariants.{File, Profile}
use Rattle.page_cli.specs.Answer.{fault_line, fault_status, shared_fault}

pub page_is_fault : (fault : Fault) → IsFault 12 (shared_fault fault) (fault_status fault) (fault_line fault)
page_is_fault (File Usage) = (omega arith, (refl, refl))
page_is_fault (File (Read path)) = (omega arith, (refl, refl))
page_is_fault (File Write) = (omega arith, (refl, refl))
page_is_fault (File (Long path)) = (omega arith, (refl, refl))
page_is_fault (File Memory) = (omega arith, (refl, refl))
page_is_fault (Profile fault) = (omega arith, record { no_text = omega arith; no_usage = λ is. omega (arith, is); no_read = λ is. omega (arith, is); no_write = λ is. omega (arith, is); no_memory = λ is. omega (arith, is) })
