use Rattle.std.proofs.Common.{◌≡◌, ℕ, ◌+◌, ◌<◌, ◌≤◌, nat_lt, true, false, length, ap, subst, sym, ◌∙◌, arith}
use Rattle.std.specs.Prelude.{slice_index_or}
use Rattle.timing_model.specs.Timing.{IsUsual}
use Rattle.machines.specs.Delayed.{Delayed, idle_hart}
use Rattle.timed_guest.specs.Guest.{Timed}
use Rattle.run_engine.specs.Seen.{Seen}
use Rattle.virtual_run.specs.DelayedRun.{account_in}
use Rattle.virtual_run.proofs.CreditedRun.{guest_now, harts_few, latest_now, account_is, account_some, account_none, account_within}
use Rattle.virtual_run.proofs.machine.Machine.account.Goals as goal

pub account-requires-clause-below : goal.account-requires-clause-below
account-requires-clause-below c =
    let m = c.self.inside in
    let made : c.args.hart.0 < length m.engine.guest.guest.harts = omega (arith, c.if-from-harts.true, c.harts.ensures, c.from.ensures) in
    let few : length m.engine.guest.guest.harts ≤ 256 = harts_few m.image.now m.input.now m.setting m.engine m.credits m.moment c.self.invariant in
    let room : length m.credits.harts ≡ 256 = c.self.invariant.room in
    omega arith

pub account-requires-clause-later : goal.account-requires-clause-later
account-requires-clause-later c =
    let m = c.self.inside in
    let same : m.credits.latest ≡ m.moment = latest_now m.image.now m.input.now m.setting m.engine m.credits m.moment c.self.invariant in
    omega arith

pub returns-then-from-harts-clause-account : goal.returns-then-from-harts-clause-account
returns-then-from-harts-clause-account c =
    let m = c.self.inside in
    account_is m.image.now m.input.now m.setting m.engine m.credits m.moment c.self.invariant c.args.hart.0 c.account.result c.account.ensures
    ∙ ap (λ (v : Seen (Delayed Timed)). (slice_index_or v.state.harts c.args.hart.0 idle_hart).account) c.self.view_is

pub returns-then-from-harts-clause-usual : goal.returns-then-from-harts-clause-usual
returns-then-from-harts-clause-usual c = λ usual.
    let m = c.self.inside in
    let made : c.args.hart.0 < length m.engine.guest.guest.harts = omega (arith, c.if-from-harts.true, c.harts.ensures, c.from.ensures) in
    account_some m.image.now m.input.now m.setting m.engine m.credits m.moment c.self.invariant (subst (λ (v : Seen (Delayed Timed)). IsUsual v.timing) (sym c.self.view_is) usual) c.args.hart.0 c.account.result made c.account.ensures
    ∙ ap (λ (v : Seen (Delayed Timed)). account_in v.state c.args.hart.0) c.self.view_is

pub returns-else-from-harts-clause-usual : goal.returns-else-from-harts-clause-usual
returns-else-from-harts-clause-usual c = λ usual.
    let m = c.self.inside in
    let past : length m.engine.guest.guest.harts ≤ c.args.hart.0 = omega (arith, c.if-from-harts.false, c.harts.ensures, c.from.ensures) in
    account_none m.image.now m.input.now m.setting m.engine m.credits m.moment c.self.invariant (subst (λ (v : Seen (Delayed Timed)). IsUsual v.timing) (sym c.self.view_is) usual) c.args.hart.0 past
    ∙ ap (λ (v : Seen (Delayed Timed)). account_in v.state c.args.hart.0) c.self.view_is

pub returns-then-from-harts-clause-made : goal.returns-then-from-harts-clause-made
returns-then-from-harts-clause-made c =
    let m = c.self.inside in
    let made : c.args.hart.0 < length m.engine.guest.guest.harts = omega (arith, c.if-from-harts.true, c.harts.ensures, c.from.ensures) in
    sym (low c.args.hart.0 (length m.engine.guest.guest.harts) made)
    ∙ ap (λ (g : Timed). nat_lt c.args.hart.0 (length g.guest.harts)) (sym (guest_now m.image.now m.input.now m.setting m.engine m.credits m.moment c.self.invariant))
    ∙ ap (λ (v : Seen (Delayed Timed)). nat_lt c.args.hart.0 (length v.state.guest.guest.harts)) c.self.view_is
  where
    low : (m n : ℕ) → m < n → nat_lt m n ≡ true
    low m n less = grind arith

pub returns-else-from-harts-clause-made : goal.returns-else-from-harts-clause-made
returns-else-from-harts-clause-made c =
    let m = c.self.inside in
    let past : length m.engine.guest.guest.harts ≤ c.args.hart.0 = omega (arith, c.if-from-harts.false, c.harts.ensures, c.from.ensures) in
    sym (high c.args.hart.0 (length m.engine.guest.guest.harts) past)
    ∙ ap (λ (g : Timed). nat_lt c.args.hart.0 (length g.guest.harts)) (sym (guest_now m.image.now m.input.now m.setting m.engine m.credits m.moment c.self.invariant))
    ∙ ap (λ (v : Seen (Delayed Timed)). nat_lt c.args.hart.0 (length v.state.guest.guest.harts)) c.self.view_is
  where
    high : (m n : ℕ) → n ≤ m → nat_lt m n ≡ false
    high m n more = grind arith

pub returns-then-from-harts-clause-within : goal.returns-then-from-harts-clause-within
returns-then-from-harts-clause-within c =
    let m = c.self.inside in
    let given = c.account.result in
    subst (λ (v : Seen (Delayed Timed)). given.own + given.paused + given.credited ≤ v.state.delay) c.self.view_is
    (account_within m.image.now m.input.now m.setting m.engine m.credits m.moment c.self.invariant c.args.hart.0 given c.account.ensures)
