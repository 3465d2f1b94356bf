use Rattle.std.proofs.Common.{◌+◌, length, set, take, drop, ◌++◌, ap, sym, ◌∙◌, subst, arith}
use Rattle.std.specs.Prelude.{All}
use Rattle.delay_credits.specs.declared.seat.Seat.{Seat}
use Rattle.delay_credits.specs.Seats.{IsSound}
use Rattle.delay_credits.proofs.Changes.{seen, few_raised, raised-at}
use Rattle.delay_credits.proofs.Credits.raise.Goals as goal

pub invariant_of-self : goal.invariant_of-self
invariant_of-self c =
    let me = c.self.inside in
    let new = c.renew-raises.result in
    let seats = take me.seats.len (c.renew-raises.new.seats ++ drop (length c.renew-raises.new.seats) me.seats.items) in
    let at = c.renew-raises.ensures.at in
    let sum = c.renew-raises.ensures.sum in
    let within = c.self.invariant.2 in (
      few_raised c.args.self.now me.latest me.raised me.raises me.seats.items c.args.ticks c.self.view_is c.requires.few,
      omega (arith, at),
      omega (arith, sum, within),
      subst (λ (x : Seat). All (IsSound (me.raised + c.args.ticks) (record { at = new.at; sum = new.sum + c.args.ticks })) (set seats c.from-index.result x)) (sym c.raise.ensures)
          (raised-at _ me.latest c.args.now me.raised me.raises new c.args.hart.0 c.from-index.result c.args.ticks me.seats.len me.seats.items c.deref_mut.result.now c.renew-raises.new.seats c.index.result.now c.self.view_is c.self.invariant.3 c.self.invariant.1 c.requires.later c.from-index.ensures c.deref_mut.ensures.value c.deref_mut.ensures.len c.renew-raises.auto.seats c.renew-raises.ensures.at c.renew-raises.ensures.seats c.index.ensures).1,
    )

pub returns : goal.returns
returns c =
    let me = c.self.inside in
    let new = c.renew-raises.result in
    let seats = take me.seats.len (c.renew-raises.new.seats ++ drop (length c.renew-raises.new.seats) me.seats.items) in
    ap (λ (x : Seat). seen c.args.now (me.raised + c.args.ticks) (record { at = new.at; sum = new.sum + c.args.ticks }) (set seats c.from-index.result x)) c.raise.ensures
    ∙ (raised-at _ me.latest c.args.now me.raised me.raises new c.args.hart.0 c.from-index.result c.args.ticks me.seats.len me.seats.items c.deref_mut.result.now c.renew-raises.new.seats c.index.result.now c.self.view_is c.self.invariant.3 c.self.invariant.1 c.requires.later c.from-index.ensures c.deref_mut.ensures.value c.deref_mut.ensures.len c.renew-raises.auto.seats c.renew-raises.ensures.at c.renew-raises.ensures.seats c.index.ensures).0
