use Rattle.std.proofs.Common.{ℕ, ◌+◌, ◌≤◌, Option, is_some, length, refl, ap, subst, sym, ◌∙◌}
use Rattle.coz_types.specs.declared.ending.Ending.{Ending}
use Rattle.hart_schedule.specs.Keys.{Keys}
use Rattle.machines.specs.declared.Fate.{Fate}
use Rattle.run_engine.specs.declared.choice.Setting.{Setting}
use Rattle.run_engine.specs.declared.engine.Engine.{Engine}
use Rattle.run_engine.specs.Begin.{started_by, many, AreIdle, AreBegun}
use Rattle.run_engine.specs.Run.{ticks_in}
use Rattle.run_engine.specs.Advance.{IsCompleted}
use Rattle.run_engine.proofs.Begin.{left_again}
use Rattle.run_engine.proofs.Law.{none_when, some_when}
use Rattle.run_engine.proofs.Advance.{not_some, told_left}
use Rattle.run_engine.proofs.engine.Engine.end_or_begin.Goals as goal

pub begin_started-requires-clause-idle : goal.begin_started-requires-clause-idle
begin_started-requires-clause-idle c =
    let s : Engine = c.args.self.now in
    let h : ℕ = c.args.hart.0 in
    let fate : Fate = c.args.fate in
    let setting : Setting = c.args.setting.now in
    let same = told_left setting s fate h c.reschedule.new.schedule c.reschedule.ensures in
    let none = sym same ∙ none_when _ (sym c.ends_with.ensures ∙ c.if-ends_with.false) in
    subst (λ (keys : Keys). AreIdle s.guest keys (started_by h fate s.started)) (sym (left_again fate h s.schedule c.reschedule.new.schedule c.reschedule.ensures)) (c.requires.idle none)

pub returns-else-ends_with : goal.returns-else-ends_with
returns-else-ends_with c =
    let s : Engine = c.args.self.now in
    let h : ℕ = c.args.hart.0 in
    let fate : Fate = c.args.fate in
    let setting : Setting = c.args.setting.now in
    let same = told_left setting s fate h c.reschedule.new.schedule c.reschedule.ensures in
    let again = left_again fate h s.schedule c.reschedule.new.schedule c.reschedule.ensures in
    let IsNext : Engine → Type 0 = λ engine. IsCompleted setting s h fate engine in
    let b = c.begin_started in
    let none = none_when _ (sym c.ends_with.ensures ∙ c.if-ends_with.false) in
    subst IsNext (sym b.ensures.rest)
    (record {
      ending = c.requires.goes ∙ sym none ∙ same;
      ended = λ some. absurd (not_some s.ending c.requires.goes some);
      begun = λ _. record {
        begun = subst (λ (keys : Keys). AreBegun (ticks_in setting s.guest) s.time (started_by h fate s.started) keys b.new.self.schedule) again b.ensures.begun;
        selected = b.ensures.selected;
        room = b.ensures.room;
        starts = b.ensures.starts;
        few = subst (λ (keys : Keys). length b.new.self.selected + many keys ≤ many b.new.self.schedule) again b.ensures.few;
        rest = refl;
      };
    })

pub returns-then-ends_with : goal.returns-then-ends_with
returns-then-ends_with c =
    let s : Engine = c.args.self.now in
    let h : ℕ = c.args.hart.0 in
    let fate : Fate = c.args.fate in
    let setting : Setting = c.args.setting.now in
    let same = told_left setting s fate h c.reschedule.new.schedule c.reschedule.ensures in
    let again = left_again fate h s.schedule c.reschedule.new.schedule c.reschedule.ensures in
    let IsNext : Engine → Type 0 = λ engine. IsCompleted setting s h fate engine in
    let e : Option Ending = c.ending_after-self.result in
    let some = some_when e (ap is_some c.ending_after-self.ensures ∙ sym c.ends_with.ensures ∙ c.if-ends_with.true) in
    subst (λ (keys : Keys). IsNext (record s { schedule = keys; ending = e })) (sym (c.reschedule_ended.ensures ∙ again))
    (record {
      ending = c.ending_after-self.ensures ∙ same;
      ended = λ _. refl;
      begun = λ none. absurd (not_some e none (ap is_some some.1));
    })
