use Rattle.std.proofs.Common.{ℕ, ◌+◌, ap, is_some, ◌∙◌, refl, subst, sym}
use Rattle.timed_guest.proofs.Law.{timed_low}
use Rattle.run_engine.specs.declared.engine.Event.TheVariants.{Retired}
use Rattle.run_engine.specs.Far.{IsFarRetired, HasPassed}
use Rattle.run_engine.proofs.Far.{quiet_then, far_then}
use Rattle.run_engine.proofs.engine.Engine.advance_far.Goals as goal

pub is_sleeping-requires : goal.is_sleeping-requires
is_sleeping-requires c =
    let s = c.loop-self.self in
    let h = c.first_turn-turn.result.hart.0 in
    (timed_low s.guest h c.loop-self.invariant.steady.orderly (c.loop-self.invariant.steady.timed h ∙ ap is_some c.first_turn-turn.ensures.due)).0

pub loop-self-init : goal.loop-self-init
loop-self-init c = record { far = (0, refl); steady = c.requires.steady; machine = c.requires.machine }

pub returns-in-Some : goal.returns-in-Some
returns-in-Some c =
    let far = c.loop-self.invariant.far in
    let retired = c.in-Some.ensures in
    far_then c.args.marked.now far.0 c.args.self.now c.loop-self.self (Retired c.in-Some.retired) c.args.delay c.pass.new.self far.1
    (subst (λ (h : ℕ). IsFarRetired c.args.marked.now c.loop-self.self h c.in-Some.retired.fate c.args.delay c.pass.new.self) (sym retired.0) retired.1)

pub loop-self-preserved : goal.loop-self-preserved
loop-self-preserved c =
    let far = c.loop-self.invariant.far in
    let passed : HasPassed c.args.marked.now c.loop-self.self c.pass.new.self = c.in_default.ensures in
    record {
      far = (passed.count + far.0, quiet_then c.args.marked.now far.0 passed.count c.args.self.now c.loop-self.self c.pass.new.self far.1 passed.quiet);
      steady = passed.steady;
      machine = passed.machine;
    }
