use Rattle.std.proofs.Common.{ℕ, List, ◌+◌, drop, get_or, ap, sym, ◌∙◌}
use Rattle.hart_schedule.specs.Keys.{Keys, key_of}
use Rattle.virtual_run.specs.Credited.{raise_ticks}
use Rattle.virtual_run.specs.Lead.{sooner_by, with_sooner}
use Rattle.virtual_run.proofs.CreditedLists.{numbers, next_number, no_numbers, among_at}
use Rattle.virtual_run.proofs.hasten.hasten_each.Goals as goal

pub raised_by-requires-clause-made : goal.raised_by-requires-clause-made
raised_by-requires-clause-made c =
    c.requires.made (get_or c.args.harts.now c.loop-hart.hart-index (record { 0 = 0 })).0 (among_at c.args.harts.now c.loop-hart.hart-index c.loop-hart-test.true)

pub loop-hart-preserved : goal.loop-hart-preserved
loop-hart-preserved c =
    let ticks : ℕ → ℕ = raise_ticks c.args.guest.now c.args.speedup in
    let hart : ℕ = (get_or c.args.harts.now c.loop-hart.hart-index (record { 0 = 0 })).0 in
    let rest : List ℕ = numbers (drop (c.loop-hart.hart-index + 1) c.args.harts.now) in
    let keys : Keys = c.loop-hart.schedule in
    ap (with_sooner ticks rest) (c.hasten.ensures ∙ ap (λ (n : ℕ). sooner_by (key_of keys hart) n hart keys) c.raised_by.ensures.ticks)
    ∙ ap (λ (left : List ℕ). with_sooner ticks left keys) (sym (next_number c.args.harts.now c.loop-hart.hart-index c.loop-hart-test.true))
    ∙ c.loop-hart.invariant

pub returns : goal.returns
returns c =
    ap (λ (left : List ℕ). with_sooner (raise_ticks c.args.guest.now c.args.speedup) left c.loop-hart.schedule)
    (sym (no_numbers c.args.harts.now c.loop-hart.hart-index c.loop-hart-test.false))
    ∙ c.loop-hart.invariant
