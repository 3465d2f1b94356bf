-- The faults are faults as each program has them.
use Rattle.std.proofs.Common.{refl, arith}
use Rattle.file_read.specs.declared.fault.FileFault.TheVariants.{Usage, Read, Write, Long, Memory}
use Rattle.coz_serve.specs.Faults.{IsFault}
use Rattle.program_load.specs.declared.fault.Fault.{Fault}
use Rattle.program_load.specs.declared.fault.Fault.TheVariants.{File, Program, Lines, NoLine, ManyPoints, ManyExperiments, Source, Profile}
use Rattle.program_load.specs.Answer.{fault_line, fault_status, shared_fault}

pub step_is_fault : (fault : Fault) → IsFault 12 (shared_fault fault) (fault_status fault) (fault_line fault)
step_is_fault (File Usage) = (omega arith, (refl, refl))
step_is_fault (File (Read path)) = (omega arith, (refl, refl))
step_is_fault (File Write) = (omega arith, (refl, refl))
step_is_fault (File (Long path)) = (omega arith, (refl, refl))
step_is_fault (File Memory) = (omega arith, (refl, refl))
step_is_fault (Program fault) = (omega arith, record { no_text = omega arith; no_usage = λ is. omega (arith, is); no_read = λ is. omega (arith, is); no_write = λ is. omega (arith, is); no_memory = λ is. omega (arith, is) })
step_is_fault (Lines fault) = (omega arith, record { no_text = omega arith; no_usage = λ is. omega (arith, is); no_read = λ is. omega (arith, is); no_write = λ is. omega (arith, is); no_memory = λ is. omega (arith, is) })
step_is_fault (NoLine piece) = (omega arith, record { no_text = omega arith; no_usage = λ is. omega (arith, is); no_read = λ is. omega (arith, is); no_write = λ is. omega (arith, is); no_memory = λ is. omega (arith, is) })
step_is_fault (ManyPoints count) = (omega arith, record { no_text = omega arith; no_usage = λ is. omega (arith, is); no_read = λ is. omega (arith, is); no_write = λ is. omega (arith, is); no_memory = λ is. omega (arith, is) })
step_is_fault (ManyExperiments count) = (omega arith, record { no_text = omega arith; no_usage = λ is. omega (arith, is); no_read = λ is. omega (arith, is); no_write = λ is. omega (arith, is); no_memory = λ is. omega (arith, is) })
step_is_fault (Source fault) = (omega arith, record { no_text = omega arith; no_usage = λ is. omega (arith, is); no_read = λ is. omega (arith, is); no_write = λ is. omega (arith, is); no_memory = λ is. omega (arith, is) })
step_is_fault (Profile fault) = (omega arith, record { no_text = omega arith; no_usage = λ is. omega (arith, is); no_read = λ is. omega (arith, is); no_write = λ is. omega (arith, is); no_memory = λ is. omega (arith, is) })
