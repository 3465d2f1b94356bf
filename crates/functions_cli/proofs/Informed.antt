-- What is printed if the words ask for a text of the program.
use Rattle.std.proofs.Common.{◌≡◌, ℕ, List, Option, Some, IfSome, subst}
use Rattle.coz_serve.specs.declared.info.Info.{Info}
use Rattle.coz_serve.specs.Info.{Informs, info_text}

pub informs_in : {O E : Type 0} {name help put : List ℕ} {holds : O → Option (List ℕ)} {faults : O → ℕ} {old new : O} {err_holds : E → Option (List ℕ)} {err_faults : E → ℕ} {err_old err_new : E} {status : ℕ}
    (asked : Option Info) (info : Info) → Some info ≡ asked → put ≡ help → Informs name holds faults old new err_holds err_faults err_old err_new status (info_text name put info)
    → IfSome asked (λ i. Informs name holds faults old new err_holds err_faults err_old err_new status (info_text name help i))
informs_in {O} {E} {name} {help} {put} {holds} {faults} {old} {new} {err_holds} {err_faults} {err_old} {err_new} {status} asked info is same did =
    subst (λ (o : Option Info). IfSome o (λ i. Informs name holds faults old new err_holds err_faults err_old err_new status (info_text name help i))) is
    (subst (λ (text : List ℕ). Informs name holds faults old new err_holds err_faults err_old err_new status (info_text name text info)) same did)
