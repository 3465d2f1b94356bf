-- What a reader's answer says of the first fault, and of the profile that was written.
use Rattle.std.specs.Prelude.{◌≡◌, Option, Some, None, Result, Ok, Err}
use Rattle.profile_book.specs.declared.profile.Profile.{Profile}
use Rattle.profile_reader.specs.declared.fault.BookFault.{BookFault}
use Rattle.failures.specs.declared.Failure.{Failure}
use Rattle.failures.specs.declared.Failure.TheVariants as errors

abbrev pub IsError : Failure BookFault → Option BookFault → Type 0
IsError errors.Memory fault = Unit {0}
IsError (errors.Fault f) fault = fault ≡ Some f

-- there is none if the answer is a value, and this one if it is a fault; nothing is said
-- if memory ran out
abbrev pub IsJudged : {X : Type 0} → Result X (Failure BookFault) → Option BookFault → Type 0
IsJudged (Ok x) fault = fault ≡ None
IsJudged (Err e) fault = IsError e fault

-- this profile, unless memory ran out
abbrev pub IsParsedAs : Result Profile (Failure BookFault) → Profile → Type 0
IsParsedAs (Ok q) p = q ≡ p
IsParsedAs (Err errors.Memory) p = Unit {0}
IsParsedAs (Err (errors.Fault f)) p = ⊥
