-- The answer of a call that reports the first fault, or that memory ran out.
use Rattle.std.specs.Prelude.{◌≡◌, Result, Ok, Err}
use Rattle.failures.specs.declared.Failure.{Failure}
use Rattle.failures.specs.declared.Failure.TheVariants.{Fault, Memory}

-- there is this fault, unless memory ran out
abbrev pub Fails : {A F : Type 0} → Failure F → Result A F → Type 0
Fails Memory holds = Unit {0}
Fails (Fault f) holds = holds ≡ Err f

-- what was answered is what holds, seen by view, unless memory ran out
abbrev pub Gives : {X A F : Type 0} → (X → A) → Result X (Failure F) → Result A F → Type 0
Gives view (Ok x) holds = holds ≡ Ok (view x)
Gives view (Err failure) holds = Fails failure holds
