use Rattle.std.proofs.Common.{◌≡◌, List, [], true, false, ap, sym, subst, ◌∙◌, refl, rules}
use Rattle.machines.specs.Places.{is_among, AllApart}
use Rattle.guest_futex.specs.Waiters.{Waiter}
use Rattle.guest_pipes.specs.Pipes.{PipeMap, no_pipes}
use Rattle.guest_calls.specs.Orderly.{waiting_harts}
use Rattle.guest_memory.specs.declared.Layout.{Layout}
use Rattle.guest_areas.specs.Entry.{first_space}
use Rattle.guest_areas.specs.Space.{Space}
use Rattle.guest_areas.proofs.Shares.{first_space-made}
use Rattle.hart_steps.specs.Code.{IsCodeOf}
use Rattle.guest_calls.proofs.Rows.{first-again, first-layout, first-made, first-hart}
use Rattle.guest_calls.proofs.Guest.new.Goals as goal

pub new-requires-7 : goal.new-requires-7
new-requires-7 c = first-again c.in_ok-memory.memory c.args.image.now c.args.layout c.in_ok-memory.ensures

none_wait : waiting_harts [] no_pipes.waiters ≡ []
unfolding no_pipes
none_wait = refl

idle : (ws : List Waiter) (ps : PipeMap) → ws ≡ [] → ps ≡ no_pipes → waiting_harts ws ps.waiters ≡ []
idle ws ps none closed = ap (λ (xs : List Waiter). waiting_harts xs ps.waiters) none ∙ ap (λ (p : PipeMap). waiting_harts [] p.waiters) closed ∙ none_wait

pub invariant_of-result : goal.invariant_of-result
invariant_of-result c =
    let none : waiting_harts c.in_ok-queue.queue c.in_ok-pipes.pipes.waiters ≡ [] = idle c.in_ok-queue.queue c.in_ok-pipes.pipes c.in_ok-queue.ensures c.in_ok-pipes.ensures in
    let made = first_space-made c.args.image.now c.in_ok-memory.memory.layout in
    let of : IsCodeOf c.decode.new.self c.new-7.new.memory = record {
      image = c.decode.ensures.image ∙ c.in_ok-code.ensures.image ∙ sym (ap (λ (x : Space). x.memory.image) c.in_ok-areas.ensures.ok ∙ made.0);
      layout = c.decode.ensures.layout ∙ c.in_ok-code.ensures.layout ∙ sym (ap (λ (x : Space). x.memory.layout) c.in_ok-areas.ensures.ok ∙ made.1 ∙ first-layout c.in_ok-memory.memory c.args.image.now c.args.layout c.in_ok-memory.ensures);
    } in
    record {
      few = search rules;
      room = search rules;
      waiting = λ h among. absurd (let never : false ≡ true = sym (ap (is_among h) none) ∙ among in cc);
      apart = subst AllApart (sym none) tt;
      shared = record { regions = c.in_ok-areas.ensures.shared; code = of };
    }

pub returns : goal.returns
returns c =
    first-made c.push.new.self.items c.in_ok-areas.areas c.new-7.new.memory c.new-8.result c.in_ok-queue.queue c.in_ok-pipes.pipes c.args.input.now c.in_ok-output.output c.args.image.now c.args.output_limit c.args.layout
    (first-hart c.push.new.self.items c.in_ok-harts.harts.items c.first.result c.stack_pointer.result c.entry.result c.args.image.now c.in-Ok.ensures.items c.in_ok-harts.ensures.items c.first.ensures c.stack_pointer.ensures c.entry.ensures.entry)
    (c.in_ok-areas.ensures.ok ∙ ap (λ (x : Layout). first_space c.args.image.now x) (first-layout c.in_ok-memory.memory c.args.image.now c.args.layout c.in_ok-memory.ensures))
    c.new-8.ensures
    c.in_ok-queue.ensures
    c.in_ok-pipes.ensures
    c.in_ok-output.ensures
