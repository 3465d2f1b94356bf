use Rattle.std.proofs.Common.{◌≡◌, ℕ, ◌-◌, ◌<◌, ◌++◌, ◌∷◌, [], List, ◌∙◌, ap, sym, subst, arith, length, replicate, reverse, take, Option, append_assoc}
use Rattle.std.proofs.lemmas.List.{length-replicate, length-set, reverse-append, take-replicate, take_more_set}
use Rattle.path_chains.specs.declared.event.Event.{Event}
use Rattle.path_chains.specs.Path.{event_at, last_of, chain_to, chain_of, Linked, Sound}
use Rattle.path_chains.proofs.Heaviest.{none_heavier}
use Rattle.path_chains.proofs.Chains.{begins, goes_back, from_lower, sound_of}
use Rattle.path_chains.proofs.chain.longest.Goals as goal
use Rattle.path_chains.proofs.chain.longest.Goals.{After-reverse}

pub loop-number-init : goal.loop-number-init
loop-number-init c =
    let events : List Event = c.as_slice-events.result.now in
    let linked : Linked events = subst Linked (sym c.as_slice-events.ensures) c.requires in
    let some = linked.some in
    let xs : List ℕ = c.in_ok-chain.chain.items in
    let last : ℕ = length events - 1 in
    let filled : xs ≡ replicate (length events) last = c.in_ok-chain.ensures.items_if_clones_equal (λ y is. is) in
    let room : length xs ≡ length events = ap length filled ∙ length-replicate (length events) last in
    let one : take 1 xs ≡ last ∷ [] = ap (take 1) filled ∙ take-replicate 1 (length events) last some in (
      omega (arith, some),
      (omega arith, (room, begins events linked ∙ ap (λ (ys : List ℕ). chain_to events (event_at events (last_of events)).from (last_of events) ++ reverse ys) (sym one))),
    )

pub loop-number-preserved : goal.loop-number-preserved
loop-number-preserved c =
    let events : List Event = c.as_slice-events.result.now in
    let linked : Linked events = subst Linked (sym c.as_slice-events.ensures) c.requires in
    let i = c.loop-number.number in
    let p = c.in-Some.from in
    let k = c.loop-number.count in
    let xs : List ℕ = c.loop-number.chain.items in
    let before = c.loop-number.invariant in
    let few = before.0 in
    let some = before.1.0 in
    let room = before.1.1.0 in
    let below : i < length events = omega (arith, few, some) in
    let lower = (from_lower events linked i p below c.in-Some.is).0 in
    let earlier = chain_to events (event_at events p).from p in
    let put = ap reverse (take_more_set xs k p (omega (arith, few, room, lower))) ∙ reverse-append (take k xs) (p ∷ []) in (
      omega (arith, few, lower),
      (
        omega arith,
        (
          length-set xs k p ∙ room,
          before.1.1.1
              ∙ ap (λ (ys : List ℕ). ys ++ reverse (take k xs)) (goes_back events linked i p below c.in-Some.is)
              ∙ append_assoc earlier (p ∷ []) (reverse (take k xs))
              ∙ ap (λ (ys : List ℕ). earlier ++ ys) (sym put),
        ),
      ),
    )

chained : (c : After-reverse) → c.reverse.new.self.items ≡ chain_of c.args.trace.now.events
chained c =
    let events : List Event = c.as_slice-events.result.now in
    c.reverse.ensures.items
    ∙ ap reverse c.truncate.ensures.items
    ∙ sym (c.loop-number.invariant.1.1.1 ∙ ap (λ (from : Option ℕ). chain_to events from c.loop-number.number ++ reverse (take c.loop-number.count c.loop-number.chain.items)) c.in_default.is)
    ∙ ap chain_of c.as_slice-events.ensures

pub returns-clause-sound : goal.returns-clause-sound
returns-clause-sound c = subst (Sound c.args.trace.now.events) (sym (chained c)) (sound_of c.args.trace.now.events c.requires)

pub returns-clause-heaviest : goal.returns-clause-heaviest
returns-clause-heaviest c = none_heavier c.args.trace.now.events c.reverse.new.self.items (returns-clause-sound c)
