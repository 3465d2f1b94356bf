-- The faults are faults as each program has them.
use Rattle.std.proofs.Common.{arith}
use Rattle.coz_serve.specs.Faults.{IsFault}
use Rattle.program_load.specs.Faults.{step_is_fault}
use Rattle.functions_cli.specs.declared.fault.Fault.{Fault}
use Rattle.functions_cli.specs.declared.fault.Fault.TheVariants.{Step, Functions}
use Rattle.functions_cli.specs.Answer.{fault_line, fault_status, shared_fault}

pub functions_is_fault : (fault : Fault) → IsFault 14 (shared_fault fault) (fault_status fault) (fault_line fault)
functions_is_fault (Step fault) = let is = step_is_fault fault in (omega (arith, is.0), is.1)
functions_is_fault (Functions refusal) = (omega arith, record { no_text = omega arith; no_usage = λ is. omega (arith, is); no_read = λ is. omega (arith, is); no_write = λ is. omega (arith, is); no_memory = λ is. omega (arith, is) })
