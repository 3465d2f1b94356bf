-- What is printed of a run, by the machine that makes it.
use Rattle.machines.specs.Guest.{Experiment}
use Rattle.guest_calls.specs.Guest.{Guest}
use Rattle.coz_commands.specs.Verdict.{Verdict, really_printed, run_printed}
use Rattle.coz_commands.specs.declared.runs.Kind.{Kind}
use Rattle.coz_commands.specs.declared.runs.Kind.TheVariants.{Delayed, Shortened}

unfoldable pub printed_of : Kind → Experiment Guest → Verdict
printed_of Delayed x = run_printed x
printed_of Shortened x = really_printed x
