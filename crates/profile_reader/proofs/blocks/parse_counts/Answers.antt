use Rattle.std.proofs.Common.{◌≡◌, ◌++◌, ◌∷◌, []}
use Rattle.std.proofs.lemmas.Result.{err_from_is_err_and}
use Rattle.profile_reader.specs.Reading.{counts_at}
use Rattle.profile_reader.specs.Standing.{ahead}
use Rattle.profile_reader.proofs.Turns.{count_goes_on, count_ends, counts_done}
use Rattle.profile_reader.proofs.blocks.parse_counts.Goals as goal

pub returns-in_err-count : goal.returns-in_err-count
returns-in_err-count c =
    let p = err_from_is_err_and c.from_residual.result c.from_residual.ensures.1 in
    rw (p.1, p.2) (count_ends c.in_err-count.field-0.0 c.loop-place.counts.items c.args.all c.loop-place.place (ahead c.loop-place.rest) (counts_at c.args.all 0 (ahead c.args.at)) c.loop-place-test.true c.in_err-count.ensures c.loop-place.invariant)

pub loop-place-preserved : goal.loop-place-preserved
loop-place-preserved c =
    let e : c.push.new.self.items ≡ c.loop-place.counts.items ++ c.in_ok-count.count ∷ [] = c.in_ok-push.ensures.items in
    rw e (count_goes_on c.loop-place.counts.items c.args.all c.loop-place.place (ahead c.loop-place.rest) c.in_ok-count.count (ahead c.in_ok-count.next) (counts_at c.args.all 0 (ahead c.args.at)) c.loop-place-test.true c.in_ok-count.ensures c.loop-place.invariant)

pub returns : goal.returns
returns c = counts_done c.loop-place.counts.items c.args.all c.loop-place.place (ahead c.loop-place.rest) (counts_at c.args.all 0 (ahead c.args.at)) c.loop-place-test.false c.loop-place.invariant
