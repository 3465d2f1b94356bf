use Rattle.std.proofs.Common.{ℕ, ◌+◌, ap, is_some, ◌∙◌, refl, subst}
use Rattle.timed_guest.proofs.Law.{timed_low}
use Rattle.run_engine.specs.declared.engine.Event.TheVariants.{Retired}
use Rattle.run_engine.specs.declared.choice.Setting.{Setting}
use Rattle.run_engine.specs.Far.{IsFarRetired, HasPassed}
use Rattle.run_engine.proofs.Far.{quiet_then, far_then}
use Rattle.run_engine.proofs.engine.Engine.advance_each.Goals as goal

pub is_sleeping-requires : goal.is_sleeping-requires
is_sleeping-requires c =
    let s = c.loop-fate.self in
    let h = c.first_turn-turn.result.hart.0 in
    (timed_low s.guest h c.loop-fate.invariant.steady.orderly (c.loop-fate.invariant.steady.timed h ∙ ap is_some c.first_turn-turn.ensures.due)).0

pub loop-fate-init : goal.loop-fate-init
loop-fate-init c = record { far = (0, refl); steady = c.requires.steady; machine = c.requires.machine }

pub returns-in-loop-fate : goal.returns-in-loop-fate
returns-in-loop-fate c =
    let far = c.loop-fate.invariant.far in
    let h : ℕ = c.first_turn-turn.result.hart.0 in
    far_then c.args.marked.now far.0 c.args.self.now c.loop-fate.self (Retired (record { hart = c.first_turn-turn.result.hart; fate = c.pass_once-is_quiet.new.fate })) c.args.delay c.pass_once-is_quiet.new.self far.1
    (subst (λ (o : Setting). IsFarRetired o c.loop-fate.self h c.pass_once-is_quiet.new.fate c.args.delay c.pass_once-is_quiet.new.self) c.setting-in-loop-fate.ensures (c.pass_once-is_quiet.ensures.retired c.if-is_quiet.false))

pub loop-fate-preserved : goal.loop-fate-preserved
loop-fate-preserved c =
    let far = c.loop-fate.invariant.far in
    let passed : HasPassed c.args.marked.now c.loop-fate.self c.pass_once-is_quiet.new.self =
    subst (λ (o : Setting). HasPassed o c.loop-fate.self c.pass_once-is_quiet.new.self) c.setting-in-loop-fate.ensures (c.pass_once-is_quiet.ensures.quiet c.if-is_quiet.true) in
    record {
      far = (passed.count + far.0, quiet_then c.args.marked.now far.0 passed.count c.args.self.now c.loop-fate.self c.pass_once-is_quiet.new.self far.1 passed.quiet);
      steady = passed.steady;
      machine = passed.machine;
    }
