use Rattle.std.proofs.Common.{◌≡◌, ℕ, ◌+◌, ◌*◌, ◌^◌, ◌≤◌, length, ap, ap₂, subst, sym, refl, ◌∙◌}
use Rattle.delay_credits.specs.Delays.{Delays}
use Rattle.machines.specs.Lead.{before}
use Rattle.virtual_run.specs.Credited.{raise_ticks, with_raises, AllRun, AllMade}
use Rattle.run_engine.specs.declared.choice.Setting.{Setting}
use Rattle.run_engine.specs.declared.engine.Engine.{Engine}
use Rattle.run_engine.specs.Engine.{events_of, most_ticks}
use Rattle.virtual_run.specs.DelayedRun.{IsPaced}
use Rattle.virtual_run.specs.Lead.{with_sooner}
use Rattle.run_engine.specs.Run.{experiment_in}
use Rattle.virtual_run.proofs.CreditedRun.{seen_of}
use Rattle.virtual_run.proofs.Forks.{sped_setting, selected_run, selected_made, selected_few, forked_paced}
use Rattle.virtual_run.proofs.Leads.{whole_seen, none_counted, forked_seen}
use Rattle.virtual_run.proofs.machine.Machine.fork_from.Goals as goal

pub raise_selected-requires-clause-run : goal.raise_selected-requires-clause-run
raise_selected-requires-clause-run c =
    let m = c.lead.inside in
    subst (λ (credits : Delays). AllRun credits c.copy_from-2.new.self.selected) (sym c.copy_from-3.ensures)
    (selected_run m.image.now m.input.now m.setting m.engine m.credits m.moment c.lead.invariant c.copy_from-2.new.self.selected (ap (λ (r : Engine). r.selected) c.copy_from-2.ensures))

pub raise_selected-requires-clause-made : goal.raise_selected-requires-clause-made
raise_selected-requires-clause-made c =
    let m = c.lead.inside in
    subst (λ (r : Engine). AllMade r.guest r.selected) (sym c.copy_from-2.ensures)
    (selected_made m.image.now m.input.now m.setting m.engine m.credits m.moment c.lead.invariant m.engine.selected refl)

pub raise_selected-requires-clause-few : goal.raise_selected-requires-clause-few
raise_selected-requires-clause-few c =
    let m = c.lead.inside in
    let none : (before (experiment_in m.image.now m.input.now m.setting) (events_of m.engine)).state.starts ≡ 0 =
    none_counted m.image.now m.input.now m.setting m.engine m.credits m.moment c.lead.invariant c.args.lead.now c.lead.view_is c.requires.none in
    subst (λ (credits : Delays). credits.raised + most_ticks c.copy_from-2.new.self.guest.beside.timing * length c.copy_from-2.new.self.selected ≤ 10 ^ 17) (sym c.copy_from-3.ensures)
    (subst (λ (r : Engine). m.credits.raised + most_ticks r.guest.beside.timing * length r.selected ≤ 10 ^ 17) (sym c.copy_from-2.ensures)
    (selected_few m.image.now m.input.now m.setting m.engine m.credits m.moment c.lead.invariant m.engine.selected refl none))

pub hasten_selected-requires-clause-made : goal.hasten_selected-requires-clause-made
hasten_selected-requires-clause-made c =
    let m = c.lead.inside in
    subst (λ (r : Engine). AllMade r.guest r.selected) (sym c.copy_from-2.ensures)
    (selected_made m.image.now m.input.now m.setting m.engine m.credits m.moment c.lead.invariant m.engine.selected refl)

pub invariant_of-self : goal.invariant_of-self
invariant_of-self c =
    let m = c.lead.inside in
    let q : ℕ = c.args.speedup in
    let whole : m.setting.choice.speedup ≡ 0 = whole_seen m.image.now m.input.now m.setting m.engine m.credits m.moment c.lead.invariant c.args.lead.now c.lead.view_is c.requires.whole in
    let none : (before (experiment_in m.image.now m.input.now m.setting) (events_of m.engine)).state.starts ≡ 0 =
    none_counted m.image.now m.input.now m.setting m.engine m.credits m.moment c.lead.invariant c.args.lead.now c.lead.view_is c.requires.none in
    subst (λ (s : Setting). IsPaced m.image.now m.input.now s c.hasten_selected.new.engine c.raise_selected.new.credits m.moment)
    (sym (c.set_speedup.ensures ∙ ap (sped_setting q) c.copy_from.ensures))
    (subst (λ (r : Engine). IsPaced m.image.now m.input.now (sped_setting q m.setting) r c.raise_selected.new.credits m.moment)
    (sym (c.hasten_selected.ensures ∙ ap (λ (r : Engine). record r { schedule = with_sooner (raise_ticks r.guest q) r.selected r.schedule }) c.copy_from-2.ensures))
    (forked_paced m.image.now m.input.now m.setting m.engine m.credits m.moment c.lead.invariant whole q c.requires.small none m.engine.selected
    (with_sooner (raise_ticks m.engine.guest q) m.engine.selected m.engine.schedule) c.raise_selected.new.credits refl
    (c.raise_selected.ensures ∙ ap₂ (λ (r : Engine) (credits : Delays). with_raises (raise_ticks r.guest q) r.selected credits) c.copy_from-2.ensures c.copy_from-3.ensures) refl))

pub returns : goal.returns
returns c =
    let m = c.lead.inside in
    ap (λ (s : Setting). seen_of m.image.now m.input.now s c.hasten_selected.new.engine) (c.set_speedup.ensures ∙ ap (sped_setting c.args.speedup) c.copy_from.ensures)
    ∙ forked_seen m.image.now m.input.now m.setting m.engine m.credits m.moment c.lead.invariant c.args.lead.now c.lead.view_is c.args.speedup c.hasten_selected.new.engine
    (ap events_of c.hasten_selected.ensures ∙ ap events_of c.copy_from-2.ensures)
