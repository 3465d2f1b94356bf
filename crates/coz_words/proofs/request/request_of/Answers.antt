use Rattle.std.proofs.Common.{rules}
use Rattle.clap.specs.Words.{first_value, found_of}
use Rattle.coz_words.specs.Answers.{option_value}
use Rattle.coz_words.specs.Parse.{target_id}
use Rattle.coz_words.proofs.Gathered.{Begun, request_counted, request_refused}
use Rattle.coz_words.proofs.request.request_of.Goals as goal

pub returns-in_err-counts : goal.returns-in_err-counts
returns-in_err-counts c =
    let found = first_value (found_of c.args.matches.now) in
    let value = option_value c.args.command found in
    let begun : Begun c.args.command (found target_id) value c.in_ok-target.target.now c.in_ok-speedup.speedup c.in_ok-speedups.speedups = record {
      right = search rules;
      path_is = search rules;
      one = search rules;
      all = search rules;
    } in
    let refused = request_refused _ _ _ _ _ _ c.in_err-counts.field-0.0 begun (search rules) in
    search rules

pub returns : goal.returns
returns c =
    let found = first_value (found_of c.args.matches.now) in
    let value = option_value c.args.command found in
    let begun : Begun c.args.command (found target_id) value c.in_ok-target.target.now c.in_ok-speedup.speedup c.in_ok-speedups.speedups = record {
      right = search rules;
      path_is = search rules;
      one = search rules;
      all = search rules;
    } in
    let made = request_counted _ _ _ _ _ _ c.in_ok-counts.counts begun (search rules) in
    search rules
