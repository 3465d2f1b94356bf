use Rattle.std.proofs.Common.{◌≡◌, [], ◌∷◌, length, ap, subst, sym, ◌∙◌}
use Rattle.delay_credits.specs.Delays.{Delays}
use Rattle.timed_guest.specs.Guest.{IsMade}
use Rattle.run_engine.specs.declared.choice.Setting.{Setting}
use Rattle.run_engine.specs.declared.engine.Engine.{Engine}
use Rattle.virtual_run.specs.DelayedRun.{IsPaced}
use Rattle.run_engine.specs.Run.{selected_of}
use Rattle.run_engine.specs.Engine.{events_of}
use Rattle.virtual_run.proofs.Again.{lined_setting, first_is_made, again_paced}
use Rattle.virtual_run.proofs.Leads.{whole_seen, zero_seen, again_seen}
use Rattle.virtual_run.proofs.machine.Machine.again_from.Goals as goal

pub count_first-requires : goal.count_first-requires
count_first-requires c =
    let m = c.first.inside in
    let zeroth : events_of m.engine ≡ 0 = zero_seen m.image.now m.input.now m.setting m.engine m.credits m.moment c.first.invariant c.args.first.now c.first.view_is c.requires.none in
    let whole : m.setting.choice.speedup ≡ 0 = whole_seen m.image.now m.input.now m.setting m.engine m.credits m.moment c.first.invariant c.args.first.now c.first.view_is c.requires.whole in
    record {
      made = subst (λ (r : Engine). IsMade r.guest 0) (sym c.copy_from-2.ensures)
          (first_is_made m.image.now m.input.now m.setting m.engine m.credits m.moment c.first.invariant whole zeroth c.args.line);
    }

pub invariant_of-self : goal.invariant_of-self
invariant_of-self c =
    let m = c.first.inside in
    let zeroth : events_of m.engine ≡ 0 = zero_seen m.image.now m.input.now m.setting m.engine m.credits m.moment c.first.invariant c.args.first.now c.first.view_is c.requires.none in
    let whole : m.setting.choice.speedup ≡ 0 = whole_seen m.image.now m.input.now m.setting m.engine m.credits m.moment c.first.invariant c.args.first.now c.first.view_is c.requires.whole in
    let lined : c.select.new.self ≡ lined_setting c.args.line m.setting = c.select.ensures ∙ ap (lined_setting c.args.line) c.copy_from.ensures in
    subst (λ (s : Setting). IsPaced m.image.now m.input.now s c.count_first.new.self c.copy_from-3.new.self m.moment) (sym lined)
    (subst (λ (credits : Delays). IsPaced m.image.now m.input.now (lined_setting c.args.line m.setting) c.count_first.new.self credits m.moment) (sym c.copy_from-3.ensures)
    (again_paced m.image.now m.input.now m.setting m.engine m.credits m.moment c.first.invariant whole zeroth c.args.line c.count_first.new.self
    (c.count_first.ensures
    ∙ ap (λ (s : Setting). record c.copy_from-2.new.self { selected = selected_of s c.copy_from-2.new.self.guest (0 ∷ []); starts = length (selected_of s c.copy_from-2.new.self.guest (0 ∷ [])) }) (c.setting.ensures ∙ lined)
    ∙ ap (λ (r : Engine). record r { selected = selected_of (lined_setting c.args.line m.setting) r.guest (0 ∷ []); starts = length (selected_of (lined_setting c.args.line m.setting) r.guest (0 ∷ [])) }) c.copy_from-2.ensures)))

pub returns : goal.returns
returns c =
    let m = c.first.inside in
    let zeroth : events_of m.engine ≡ 0 = zero_seen m.image.now m.input.now m.setting m.engine m.credits m.moment c.first.invariant c.args.first.now c.first.view_is c.requires.none in
    let lined : c.select.new.self ≡ lined_setting c.args.line m.setting = c.select.ensures ∙ ap (lined_setting c.args.line) c.copy_from.ensures in
    rw lined
    (again_seen m.image.now m.input.now m.setting m.engine m.credits m.moment c.first.invariant c.args.first.now c.first.view_is c.args.line c.count_first.new.self
    (ap events_of c.count_first.ensures ∙ ap events_of c.copy_from-2.ensures) zeroth)
