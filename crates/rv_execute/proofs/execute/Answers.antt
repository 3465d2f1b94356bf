use Rattle.rv_execute.proofs.Orderly.{orderly_as, call_at_ecall_as}
use Rattle.rv_execute.proofs.execute.Goals as goal

pub returns-clause-call : goal.returns-clause-call
returns-clause-call c = (λ is. ((orderly_as _ c.effect.ensures).call is).0, call_at_ecall_as _ _ _ _ c.effect.ensures)

pub returns-clause-called : goal.returns-clause-called
returns-clause-called c = λ is. ((orderly_as _ c.effect.ensures).call is).1

pub returns-clause-fault : goal.returns-clause-fault
returns-clause-fault c = (orderly_as _ c.effect.ensures).trap

pub returns-clause-zero : goal.returns-clause-zero
returns-clause-zero c = (orderly_as _ c.effect.ensures).zero
