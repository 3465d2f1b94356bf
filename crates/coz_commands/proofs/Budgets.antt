-- No request has a budget above that of a run.
use Rattle.std.proofs.Common.{◌≤◌, ◌^◌, arith}
use Rattle.coz_words.specs.Request.{IsFit, greatest_budget}
use Rattle.coz_words.specs.declared.command.Command.{Command}
use Rattle.coz_words.specs.declared.command.Command.TheVariants.{Run, Really, Profile, Lines, Plot, Asm, Trial, Latency, Path}
use Rattle.coz_words.specs.declared.request.Request.{Request}

greatest_few : (c : Command) → greatest_budget c ≤ 10 ^ 12
greatest_few Run = omega arith
greatest_few Really = omega arith
greatest_few Profile = omega arith
greatest_few Lines = omega arith
greatest_few Plot = omega arith
greatest_few Asm = omega arith
greatest_few Trial = omega arith
greatest_few Latency = omega arith
greatest_few Path = omega arith

pub few_budget : (request : Request) → IsFit request → request.budget ≤ 10 ^ 12
few_budget request fit = let few = greatest_few request.command in omega (arith, few, fit.budget)
