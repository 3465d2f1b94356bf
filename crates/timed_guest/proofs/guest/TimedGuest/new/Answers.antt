use Rattle.std.proofs.Common.{ap, ◌∙◌}
use Rattle.guest_calls.specs.Guest as guests
use Rattle.line_index.specs.Index.{Index}
use Rattle.timing_steps.specs.State.{State, first_state}
use Rattle.timed_guest.specs.Guest.{Timed, first_guest}
use Rattle.timed_guest.proofs.guest.TimedGuest.new.Goals as goal

pub returns : goal.returns
unfolding first_guest
returns c =
    ap (λ (g : guests.Guest). let t : Timed = record { guest = g; beside = c.in_ok-state.state; index = c.in_ok-lines.lines } in t) c.in_ok-guest.ensures
    ∙ ap
    (λ (s : State). let t : Timed = record { guest = guests.first_guest c.args.image.now c.args.input.now c.args.output_limit c.args.layout; beside = s; index = c.in_ok-lines.lines } in t)
    c.in_ok-state.ensures
    ∙ ap
    (λ (i : Index). let t : Timed = record { guest = guests.first_guest c.args.image.now c.args.input.now c.args.output_limit c.args.layout; beside = first_state c.args.timing; index = i } in t)
    c.in_ok-lines.ensures
