use Rattle.std.proofs.Common.{◌≡◌, ℕ, ◌+◌, ◌<◌, ◌∙◌, ◌==◌, if◌then◌else◌, true, List, ap, sym, subst, map, drop, length, arith, get_or}
use Rattle.coz_types.specs.declared.HartId.{HartId}
use Rattle.machines.specs.Places.{is_among}
use Rattle.path_causes.specs.declared.cause.Cause.{Cause}
use Rattle.path_causes.specs.Causes.{cause_at, started_with}
use Rattle.critical_path.specs.Recording.{ticks_from}
use Rattle.critical_path.proofs.Begun.{set_at, begun_step, still_among, self_among, numbers_from}
use Rattle.critical_path.proofs.recording.start_each.Goals as goal

pub loop-hart-preserved : goal.loop-hart-preserved
loop-hart-preserved c =
    let harts : List HartId = c.args.harts.now in
    let i : ℕ = c.loop-hart.hart-index in
    let here : ℕ = (get_or harts i (record { 0 = 0 })).0 in
    let rest : List ℕ = map (λ (hart : HartId). hart.0) (drop (i + 1) harts) in
    let split = numbers_from harts i c.loop-hart-test.true in
    let causes : List Cause = c.loop-hart.causes in
    let e : ℕ = c.args.event in
    let ticks : ℕ → ℕ = ticks_from c.args.engine.now.schedule c.args.engine.now.time in
    let known = (c.loop-hart.invariant.0 here (subst (λ (hs : List ℕ). is_among here hs ≡ true) (sym split) (self_among here rest))).0 in
    let room : here < length causes = omega arith in (
      λ k among. c.loop-hart.invariant.0 k (subst (λ (hs : List ℕ). is_among k hs ≡ true) (sym split) (still_among here rest k among)),
      λ k.
          c.loop-hart.invariant.1 k
          ∙ ap (λ (hs : List ℕ). if is_among k hs then started_with (ticks k) e (cause_at causes k) else cause_at causes k) split
          ∙ begun_step ticks e here rest (cause_at causes) (cause_at c.start.new.causes) k
          (ap (λ (cs : List Cause). cause_at cs k) c.start.ensures
          ∙ set_at causes here k (started_with c.ticks_from-ticks.result e (cause_at causes here)) room
          ∙ ap (λ (t : ℕ). if k == here then started_with t e (cause_at causes here) else cause_at causes k) (c.ticks_from-ticks.ensures ∙ ap (λ (m : ℕ). ticks_from c.args.engine.now.schedule m here) c.time.ensures)),
    )
