use Rattle.std.proofs.Common.{arith}
use Rattle.coz_words.proofs.Fit.{number_fits}
use Rattle.std.specs.Option.{option_copied}
use Rattle.coz_words.specs.Request.{workers_name, size_name}
use Rattle.coz_words.proofs.request.counts_of.Goals as goal

pub overflow_cast-result : goal.overflow_cast-result
overflow_cast-result c =
    let small = (number_fits c.args.command workers_name 4 1 16 (option_copied c.text_of-2.result) c.in_ok-workers.workers (omega arith) (omega arith) c.in_ok-workers.ensures).1 in
    omega (arith, small)

pub overflow_cast-result-2 : goal.overflow_cast-result-2
overflow_cast-result-2 c =
    let small = (number_fits c.args.command size_name 100 1 2000 (option_copied c.text_of-3.result) c.in_ok-size.size (omega arith) (omega arith) c.in_ok-size.ensures).1 in
    omega (arith, small)
