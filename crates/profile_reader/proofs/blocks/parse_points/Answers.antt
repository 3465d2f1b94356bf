use Rattle.std.proofs.Common.{◌≡◌, ◌++◌, ◌∷◌, [], None, ap, ◌∙◌}
use Rattle.std.proofs.lemmas.Result.{err_from_is_err_and}
use Rattle.coz_types.specs.Labels.{Text}
use Rattle.profile_reader.specs.Reading.{names_at}
use Rattle.profile_reader.specs.Standing.{ahead}
use Rattle.profile_reader.proofs.Turns.{name_goes_on, name_ends, names_done, last_in}
use Rattle.profile_reader.proofs.blocks.parse_points.Goals as goal

pub returns-in_err-name : goal.returns-in_err-name
returns-in_err-name c =
    let p = err_from_is_err_and c.from_residual.result c.from_residual.ensures.1 in
    let here = rw (c.last.ensures.value, c.deref.ensures.value) at c.in_err-name.ensures in
    rw (p.1, p.2) (name_ends c.in_err-name.field-0.0 c.loop-place.names.items c.args.all c.loop-place.place (last_in c.loop-place.names.items) (ahead c.loop-place.rest) (names_at c.args.all 0 None (ahead c.args.at)) c.loop-place-test.true here c.loop-place.invariant)

pub loop-place-preserved : goal.loop-place-preserved
loop-place-preserved c =
    let e : c.push.new.self.items ≡ c.loop-place.names.items ++ c.in_ok-name.name.now ∷ [] = c.in_ok-push.ensures.items ∙ ap (λ (t : Text). c.loop-place.names.items ++ t ∷ []) c.in_ok-copy.ensures in
    let here = rw (c.last.ensures.value, c.deref.ensures.value) at c.in_ok-name.ensures in
    rw e (name_goes_on c.loop-place.names.items c.args.all c.loop-place.place (ahead c.loop-place.rest) c.in_ok-name.name.now (ahead c.in_ok-name.next) (names_at c.args.all 0 None (ahead c.args.at)) c.loop-place-test.true here c.loop-place.invariant)

pub returns : goal.returns
returns c = names_done c.loop-place.names.items c.args.all c.loop-place.place (last_in c.loop-place.names.items) (ahead c.loop-place.rest) (names_at c.args.all 0 None (ahead c.args.at)) c.loop-place-test.false c.loop-place.invariant
