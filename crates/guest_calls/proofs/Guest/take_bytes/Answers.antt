use Rattle.std.proofs.Common.{ℕ, ◌≡◌, ◌≤◌, ◌∙◌, List, ◌++◌, length, ap, arith}
use Rattle.guest_pipes.specs.declared.ends.PipeEnd.TheVariants.{Writing}
use Rattle.guest_pipes.specs.declared.waiters.PipeWaiter.{PipeWaiter}
use Rattle.guest_pipes.specs.Pipes.{end_of, this_end, woken_at, woken_for, left_at, taken}
use Rattle.guest_calls.specs.Guest.{Guest}
use Rattle.guest_calls.specs.Orderly.{waiting_harts}
use Rattle.guest_calls.proofs.Waiting.{end_woken}
use Rattle.guest_calls.proofs.Keeping.{few-roused, roused-made, kept-roused}
use Rattle.guest_calls.proofs.Rousing.{put_back, piped}
use Rattle.guest_calls.proofs.Guest.take_bytes.Goals as goal

pub take-requires-clause-room : goal.take-requires-clause-room
take-requires-clause-room c =
    let ws = c.self.inside.queue in
    let ps : List PipeWaiter = c.self.inside.pipes.waiters in
    let pipe : ℕ = (this_end c.args.number c.self.inside.pipes).pipe in
    let few : length (woken_at (end_of pipe Writing) ps) ≤ 256 = few-roused _ _ _ _ _ _ (woken_at (end_of pipe Writing) ps) (waiting_harts ws (left_at (end_of pipe Writing) ps)) c.self.invariant (end_woken ws ps (end_of pipe Writing) c.self.invariant.apart) in
    let none : length c.args.started.now ≡ 0 = ap (λ (hs : List ℕ). length hs) c.requires.started in
    omega arith

pub run_each-requires : goal.run_each-requires
run_each-requires c =
    let ws = c.self.inside.queue in
    let ps : List PipeWaiter = c.self.inside.pipes.waiters in
    let pipe : ℕ = (this_end c.args.number c.self.inside.pipes).pipe in
    rw (c.harts.ensures, c.take.ensures.woken, c.requires.started, c.deref_mut.ensures.value)
    (roused-made _ _ _ _ _ _ (woken_at (end_of pipe Writing) ps) (waiting_harts ws (left_at (end_of pipe Writing) ps)) c.self.invariant (end_woken ws ps (end_of pipe Writing) c.self.invariant.apart))

pub invariant_of-self : goal.invariant_of-self
invariant_of-self c =
    let ws = c.self.inside.queue in
    let ps : List PipeWaiter = c.self.inside.pipes.waiters in
    let pipe : ℕ = (this_end c.args.number c.self.inside.pipes).pipe in
    let ran = put_back c.self.inside.harts.items c.deref_mut.result.now c.run_each.new.harts c.self.inside.harts.len _ c.args.started.now (woken_at (end_of pipe Writing) ps) c.run_each.auto.harts c.deref_mut.ensures.value c.self.inside.harts.ok.0 c.run_each.ensures (c.harts.ensures ∙ c.take.ensures.woken) c.requires.started in
    rw (ran, c.take.ensures.state)
    (kept-roused _ _ _ _ _ _ (woken_at (end_of pipe Writing) ps) ws (left_at (end_of pipe Writing) ps) c.self.inside.memory c.self.invariant (end_woken ws ps (end_of pipe Writing) c.self.invariant.apart) (c.self.invariant.shared))

pub returns : goal.returns
returns c =
    let ws = c.self.inside.queue in
    let ps : List PipeWaiter = c.self.inside.pipes.waiters in
    let pipe : ℕ = (this_end c.args.number c.self.inside.pipes).pipe in
    let ran = put_back c.self.inside.harts.items c.deref_mut.result.now c.run_each.new.harts c.self.inside.harts.len _ c.args.started.now (woken_at (end_of pipe Writing) ps) c.run_each.auto.harts c.deref_mut.ensures.value c.self.inside.harts.ok.0 c.run_each.ensures (c.harts.ensures ∙ c.take.ensures.woken) c.requires.started in
    record {
      woken = c.take.ensures.woken ∙ ap (λ (hs : List ℕ). hs ++ (woken_at (end_of pipe Writing) ps)) c.requires.started ∙ ap (λ (g : Guest). woken_for Writing c.args.number g.pipes) c.self.view_is;
      taken =
          piped c.self.inside.harts.items _ c.self.inside.areas c.self.inside.memory c.self.inside.reservations c.self.inside.queue c.self.inside.pipes c.take.new.self c.self.inside.input.now c.self.inside.whole_input.now c.self.inside.output c.args.self.now
          (λ g. taken c.args.number c.args.count g.pipes) (λ g. woken_for Writing c.args.number g.pipes)
          c.self.view_is ran c.take.ensures.state;
    }
