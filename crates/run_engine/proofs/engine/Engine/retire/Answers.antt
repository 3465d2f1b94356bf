use Rattle.std.proofs.Common.{◌≡◌, ◌∙◌, ℕ, ◌^◌, ◌≤◌, ◌<◌, length, ap, sym, refl, arith, rules, subst}
use Rattle.hart_schedule.specs.Keys.{Keys}
use Rattle.machines.specs.declared.Fate.{Fate}
use Rattle.machines.specs.Guest.{Retirement}
use Rattle.timed_guest.specs.Guest.{Timed}
use Rattle.timed_guest.proofs.Law.{sleeps_few}
use Rattle.run_engine.specs.Begin.{keys_at_rest, many}
use Rattle.run_engine.proofs.Keys.{has_place}
use Rattle.run_engine.proofs.Many.{many_few}
use Rattle.run_engine.proofs.Advance.{idle_then, settled}
use Rattle.run_engine.proofs.engine.Engine.retire.Goals as goal

pub keep_visit-requires-clause-hart : goal.keep_visit-requires-clause-hart
keep_visit-requires-clause-hart c = subst (λ (n : ℕ). c.args.turn.hart.0 < n) c.requires.steady.room (has_place c.args.self.now.schedule c.args.turn.hart.0 c.args.turn.due c.requires.turn)

pub complete-requires : goal.complete-requires
complete-requires c =
    let h : ℕ = c.args.turn.hart.0 in
    let keys : Keys = c.args.self.now.schedule in
    let fate : Fate = c.retire_due-fate.result in
    let few : many keys ≤ length keys = many_few keys in
    let room : length keys ≡ 256 = c.requires.steady.room in
    let retired = c.requires.steady.retired in
    let wakes = c.requires.steady.wakes in
    let starts = c.requires.steady.few in
    record {
      goes = c.requires.steady.goes;
      below = has_place keys h c.args.turn.due c.requires.turn;
      idle = λ none. idle_then c.args.setting.now c.args.self.now (keys_at_rest h fate keys) h c.args.turn.due c.args.delay c.retire_due-fate.new.guest fate c.retire_due-fate.new.started c.keep_visit.new.visits c.pc-address.result _
          (record {
            steady = c.requires.steady;
            running = c.requires.running;
            turn = c.requires.turn;
            first = c.requires.first;
            taken = refl;
            place = c.pc-address.ensures;
            retires = c.retire_due-fate.ensures.effect;
            keeps = c.keep_visit.ensures;
            ends = refl;
          })
          none;
      moment = search rules;
      wake = λ moment sleeps.
          let few : moment ≤ 10 ^ 16 = sleeps_few c.args.self.now.guest h c.args.turn.due c.requires.steady.orderly c.requires.running moment
          (ap (λ (r : Retirement Timed). r.fate) (sym c.retire_due-fate.ensures.effect) ∙ sleeps) in
          omega (arith, few);
      speedup = c.requires.speedup;
      room = room;
      selected = c.clear-2.ensures;
      few = omega arith;
    }

pub returns-clause-retired : goal.returns-clause-retired
returns-clause-retired c =
    settled c.args.setting.now c.args.self.now c.args.turn.hart.0 c.args.turn.due c.args.delay c.retire_due-fate.new.guest c.retire_due-fate.result c.retire_due-fate.new.started c.clear-2.new.self c.keep_visit.new.visits c.pc-address.result c.complete.new.self c.requires.speedup c.clear-2.ensures
    (λ e is. record {
      steady = c.requires.steady;
      running = c.requires.running;
      turn = c.requires.turn;
      first = c.requires.first;
      taken = refl;
      place = c.pc-address.ensures;
      retires = c.retire_due-fate.ensures.effect;
      keeps = c.keep_visit.ensures;
      ends = is;
    })
    c.complete.ensures
