-- The texts of addresses and of endings.
use Rattle.std.specs.Prelude.{ℕ, false, ◌++◌, decimal, codes}
use Rattle.std.specs.Fmt.{digits}
use Rattle.coz_types.specs.Labels.{Text}
use Rattle.coz_types.specs.declared.ending.Ending.{Ending}
use Rattle.coz_types.specs.declared.ending.Ending.TheVariants.{Exited, Trapped, Unsupported, Clock, OutputFull, VisitsFull, Stalled, Spent}
use Rattle.coz_types.specs.declared.ending.TrapCause.{TrapCause}
use Rattle.coz_types.specs.declared.ending.TrapCause.TheVariants.{Fetch, Illegal, Misaligned, Access, Break}

abbrev pub cause_text : TrapCause → Text
cause_text Fetch = codes "fetch"
cause_text Illegal = codes "illegal"
cause_text Misaligned = codes "misaligned"
cause_text Access = codes "access"
cause_text Break = codes "break"

abbrev pub address_text : ℕ → Text
address_text address = codes "0x" ++ digits 16 false address

abbrev pub ending_text : Ending → Text
ending_text (Exited code) = codes "exited:" ++ decimal code
ending_text (Trapped trap) =
    codes "trapped:" ++ cause_text trap.cause ++ codes ":" ++ decimal trap.hart.0
    ++ codes ":" ++ address_text trap.pc
ending_text (Unsupported number) = codes "unsupported:" ++ decimal number
ending_text Clock = codes "clock"
ending_text OutputFull = codes "output-full"
ending_text VisitsFull = codes "visits-full"
ending_text Stalled = codes "stalled"
ending_text Spent = codes "spent"
