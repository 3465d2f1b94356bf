use Rattle.std.proofs.Common.{ℕ, ◌+◌, List, [], ◌∷◌, ◌++◌, length, ap, sym, subst, ◌∙◌}
use Rattle.std.proofs.lemmas.List.{length-map}
use Rattle.hart_schedule.specs.Keys.{Keys, with_key}
use Rattle.timed_guest.specs.Guest.{Timed, IsMade}
use Rattle.run_engine.specs.Run.{selected_of, ticks_in}
use Rattle.run_engine.proofs.Law.{first_made, new_idle, first_engine}
use Rattle.run_engine.proofs.engine.Engine.new.Goals as goal

pub begin-requires-clause-idle : goal.begin-requires-clause-idle
begin-requires-clause-idle c =
    new_idle c.in_ok-guest.guest c.in_ok-schedule.schedule c.in_ok-schedule.ensures
    (subst (λ (g : Timed). IsMade g 0) (sym c.in_ok-guest.ensures)
    (first_made c.args.image.now c.args.input.now c.args.setting.now.choice.output_limit c.args.setting.now.choice.layout c.args.setting.now.timing c.args.setting.now.index.now))

pub returns : goal.returns
returns c =
    let g : Timed = c.in_ok-guest.guest in
    first_engine c.args.setting.now c.args.image.now c.args.input.now g c.begin.new.schedule c.new-4.result c.begin.new.selected c.in_ok-visits.visits (length c.harts.result.now) c.requires
    c.in_ok-guest.ensures
    (c.begin.ensures.due ∙ ap (λ (keys : Keys). with_key 0 (0 + ticks_in c.args.setting.now g 0) keys) c.in_ok-schedule.ensures)
    c.in_ok-visits.ensures
    (c.begin.ensures.selected ∙ ap (λ (xs : List ℕ). xs ++ selected_of c.args.setting.now g (0 ∷ [])) c.new-selected.ensures)
    (sym (length-map c.harts.result.now (λ hart. hart.0)) ∙ ap length c.harts.ensures)
