use Rattle.std.proofs.Common.{ℕ, ◌≡◌, ◌≤◌, ◌∙◌, List, ◌++◌, take, drop, length, ap, arith}
use Rattle.guest_futex.specs.Waiters.{woken_harts}
use Rattle.guest_calls.specs.declared.hart.Hart.{Hart}
use Rattle.guest_calls.specs.Guest.{Guest, with_running_each}
use Rattle.guest_calls.proofs.Keeping.{few-woken, kept-woken, woken-made}
use Rattle.guest_calls.proofs.Rousing.{rewritten, roused}
use Rattle.guest_calls.proofs.Guest.rouse.Goals as goal

pub wake-requires : goal.wake-requires
wake-requires c =
    let few : length (woken_harts c.args.address c.self.inside.queue c.args.count) ≤ 256 = few-woken _ _ _ _ _ _ c.args.address c.args.count c.self.invariant in
    let none : length c.args.started.now ≡ 0 = ap (λ (hs : List ℕ). length hs) c.requires in
    omega arith

pub run_each-requires : goal.run_each-requires
run_each-requires c =
    rw (c.harts.ensures, c.wake.ensures.woken, c.requires, c.deref_mut.ensures.value)
    (woken-made _ _ _ _ _ _ c.args.address c.args.count c.self.invariant)

pub invariant_of-self : goal.invariant_of-self
invariant_of-self c =
    let items : List Hart = c.self.inside.harts.items in
    let same : length c.run_each.new.harts ≡ length items = let kept = c.run_each.auto.harts in let there = ap (λ (hs : List Hart). length hs) c.deref_mut.ensures.value in omega arith in
    let all : c.self.inside.harts.len ≡ length items = c.self.inside.harts.ok.0 in
    let whole : take c.self.inside.harts.len (c.run_each.new.harts ++ drop (length c.run_each.new.harts) items) ≡ c.run_each.new.harts = rewritten items c.run_each.new.harts c.self.inside.harts.len same all in
    let ran : c.run_each.new.harts ≡ with_running_each (woken_harts c.args.address c.self.inside.queue c.args.count) items =
    c.run_each.ensures
    ∙ ap (λ (hs : List ℕ). with_running_each hs c.deref_mut.result.now) (c.harts.ensures ∙ c.wake.ensures.woken ∙ ap (λ (hs : List ℕ). hs ++ woken_harts c.args.address c.self.inside.queue c.args.count) c.requires)
    ∙ ap (with_running_each (woken_harts c.args.address c.self.inside.queue c.args.count)) c.deref_mut.ensures.value in
    rw (whole, ran, c.wake.ensures.left) (kept-woken _ _ _ _ _ _ c.args.address c.args.count c.self.invariant)

pub returns : goal.returns
returns c =
    let items : List Hart = c.self.inside.harts.items in
    let same : length c.run_each.new.harts ≡ length items = let kept = c.run_each.auto.harts in let there = ap (λ (hs : List Hart). length hs) c.deref_mut.ensures.value in omega arith in
    let all : c.self.inside.harts.len ≡ length items = c.self.inside.harts.ok.0 in
    let whole : take c.self.inside.harts.len (c.run_each.new.harts ++ drop (length c.run_each.new.harts) items) ≡ c.run_each.new.harts = rewritten items c.run_each.new.harts c.self.inside.harts.len same all in
    let ran : c.run_each.new.harts ≡ with_running_each (woken_harts c.args.address c.self.inside.queue c.args.count) items =
    c.run_each.ensures
    ∙ ap (λ (hs : List ℕ). with_running_each hs c.deref_mut.result.now) (c.harts.ensures ∙ c.wake.ensures.woken ∙ ap (λ (hs : List ℕ). hs ++ woken_harts c.args.address c.self.inside.queue c.args.count) c.requires)
    ∙ ap (with_running_each (woken_harts c.args.address c.self.inside.queue c.args.count)) c.deref_mut.ensures.value in
    record {
      woken =
          c.wake.ensures.woken
          ∙ ap (λ (hs : List ℕ). hs ++ woken_harts c.args.address c.self.inside.queue c.args.count) c.requires
          ∙ ap (λ (g : Guest). woken_harts c.args.address g.waiters c.args.count) c.self.view_is;
      running =
          roused items (take c.self.inside.harts.len (c.run_each.new.harts ++ drop (length c.run_each.new.harts) items)) c.self.inside.areas c.self.inside.memory c.self.inside.reservations c.self.inside.queue c.wake.new.self c.self.inside.pipes c.self.inside.input.now c.self.inside.whole_input.now c.self.inside.output c.args.self.now
          c.args.address c.args.count c.self.view_is (whole ∙ ran) c.wake.ensures.left;
    }
