use Rattle.std.proofs.Common.{◌≡◌, ℕ, ◌+◌, ◌≤◌, ◌<◌, List, ◌++◌, length, Option, refl, arith, subst, sym, ap, ◌∙◌}
use Rattle.std.specs.Prelude.{IfSome}
use Rattle.hart_schedule.specs.Keys.{Keys}
use Rattle.guest_calls.specs.Calls.{retirement}
use Rattle.guest_calls.specs.Guest.{Guest}
use Rattle.guest_calls.specs.Quiet.{after_steps, moment_after, GoesOnAt}
use Rattle.guest_calls.specs.Retire.{retire}
use Rattle.timed_guest.specs.Guest.{Timed, pc_of}
use Rattle.timed_guest.specs.Laws.{with_guest}
use Rattle.machines.specs.declared.Fate.{Fate}
use Rattle.progress_points.specs.Points.{point_of}
use Rattle.run_engine.specs.declared.choice.Setting.{Setting}
use Rattle.run_engine.specs.declared.engine.Engine.{Engine}
use Rattle.run_engine.specs.Begin.{last_moment, many}
use Rattle.run_engine.specs.Advance.{CanComplete, IsCompleted}
use Rattle.run_engine.specs.Far.{HasPassed}
use Rattle.run_engine.specs.Visits.{visits_of}
use Rattle.run_engine.proofs.Keys.{has_place}
use Rattle.run_engine.proofs.Many.{many_few}
use Rattle.run_engine.proofs.Moves.{engine_of}
use Rattle.run_engine.proofs.Quiet.{IsStretch, none_visited, idle_last, wake_few, far_settled, last_few, stretch_passed}
use Rattle.run_engine.proofs.engine.Engine.pass.Goals as goal

pub complete-requires : goal.complete-requires
complete-requires c =
    let s : Engine = c.args.self.now in
    let setting : Setting = c.args.marked.now in
    let h : ℕ = c.args.turn.hart.0 in
    let due : ℕ = c.args.turn.due in
    let delay : ℕ = c.args.delay in
    let n : ℕ = c.retire_far-stretch.result.quiet in
    let after : Guest = c.retire_far-stretch.new.self.guest in
    let fate : Fate = c.retire_far-stretch.result.fate in
    let others : List ℕ = c.retire_far-stretch.new.started in
    let stretch : IsStretch setting s c.marks.result.now h due c.limit_of-limit.result c.args.most n = record {
      valid = c.requires.setting;
      right = c.marks.ensures;
      steady = c.requires.steady;
      machine = c.requires.machine;
      usual = c.requires.usual;
      turn = c.requires.turn;
      first = c.requires.first;
      running = c.requires.running;
      limited = c.limit_of-limit.ensures.limit;
      soon = c.limit_of-limit.ensures.soon;
      allows = λ more. c.requires.allows;
      few = c.retire_far-stretch.ensures.few;
      steps = c.retire_far-stretch.ensures.quiet;
    } in
    let keeps : s.visits ≡ record s.visits { kept = s.visits.kept ++ visits_of (point_of setting.points.now (pc_of s.guest h)) h (due + delay) delay } = none_visited s.visits (point_of setting.points.now (pc_of s.guest h)) h (due + delay) delay c.requires.allows.point in
    let retires : retirement after fate others ≡ retire (after_steps n s.guest.guest h) h (moment_after n s.guest.guest h due) =
    c.retire_far-stretch.ensures.effect ∙ ap (retire (after_steps n s.guest.guest h) h) c.retire_far-stretch.ensures.net in
    let keys : Keys = s.schedule in
    let few : many keys ≤ length keys = many_few keys in
    let room : length keys ≡ 256 = stretch.steady.room in
    let starts = stretch.steady.few in
    let retired = stretch.steady.retired in
    let wakes = stretch.steady.wakes in
    let last : moment_after n s.guest.guest h due ≤ last_moment = last_few setting s c.marks.result.now h due c.limit_of-limit.result c.args.most n stretch in
    subst (λ (o : Setting). CanComplete o (engine_of c.retire_far-stretch.result.net c.retire_far-stretch.new.self s.schedule others c.clear-2.new.self s.visits (s.retired + (n + 1)) s.wakes s.starts s.ending) h fate) (sym c.setting.ensures)
    (subst (λ (g : Timed). CanComplete setting (engine_of c.retire_far-stretch.result.net g s.schedule others c.clear-2.new.self s.visits (s.retired + (n + 1)) s.wakes s.starts s.ending) h fate) (sym c.retire_far-stretch.ensures.rest)
    (record {
      goes = stretch.steady.goes;
      below = has_place keys h due stretch.turn;
      idle = idle_last setting s c.marks.result.now h due c.limit_of-limit.result c.args.most n stretch delay s.visits keeps after fate others retires;
      moment = omega (arith, c.retire_far-stretch.ensures.net, last);
      wake = wake_few setting s c.marks.result.now h due c.limit_of-limit.result c.args.most n stretch delay s.visits keeps after fate others retires;
      speedup = stretch.valid.choice.speedup;
      room = room;
      selected = c.clear-2.ensures;
      few = omega arith;
    }))

pub returns : goal.returns
returns c =
    let s : Engine = c.args.self.now in
    let setting : Setting = c.args.marked.now in
    let h : ℕ = c.args.turn.hart.0 in
    let due : ℕ = c.args.turn.due in
    let delay : ℕ = c.args.delay in
    let n : ℕ = c.retire_far-stretch.result.quiet in
    let after : Guest = c.retire_far-stretch.new.self.guest in
    let fate : Fate = c.retire_far-stretch.result.fate in
    let others : List ℕ = c.retire_far-stretch.new.started in
    let stretch : IsStretch setting s c.marks.result.now h due c.limit_of-limit.result c.args.most n = record {
      valid = c.requires.setting;
      right = c.marks.ensures;
      steady = c.requires.steady;
      machine = c.requires.machine;
      usual = c.requires.usual;
      turn = c.requires.turn;
      first = c.requires.first;
      running = c.requires.running;
      limited = c.limit_of-limit.ensures.limit;
      soon = c.limit_of-limit.ensures.soon;
      allows = λ more. c.requires.allows;
      few = c.retire_far-stretch.ensures.few;
      steps = c.retire_far-stretch.ensures.quiet;
    } in
    let keeps : s.visits ≡ record s.visits { kept = s.visits.kept ++ visits_of (point_of setting.points.now (pc_of s.guest h)) h (due + delay) delay } = none_visited s.visits (point_of setting.points.now (pc_of s.guest h)) h (due + delay) delay c.requires.allows.point in
    let retires : retirement after fate others ≡ retire (after_steps n s.guest.guest h) h (moment_after n s.guest.guest h due) =
    c.retire_far-stretch.ensures.effect ∙ ap (retire (after_steps n s.guest.guest h) h) c.retire_far-stretch.ensures.net in
    let chosen : List ℕ = c.clear-2.new.self in
    let new : Engine = c.complete.new.self in (
      refl,
      far_settled setting s c.marks.result.now h due c.limit_of-limit.result c.args.most n stretch delay s.visits keeps after fate others retires chosen new c.clear-2.ensures
          (subst (λ (o : Setting). IsCompleted o (engine_of (moment_after n s.guest.guest h due) (with_guest after s.guest) s.schedule others chosen s.visits (s.retired + (n + 1)) s.wakes s.starts s.ending) h fate new) c.setting.ensures
          (subst (λ (time : ℕ). IsCompleted c.setting.result.now (engine_of time (with_guest after s.guest) s.schedule others chosen s.visits (s.retired + (n + 1)) s.wakes s.starts s.ending) h fate new) c.retire_far-stretch.ensures.net
          (subst (λ (g : Timed). IsCompleted c.setting.result.now (engine_of c.retire_far-stretch.result.net g s.schedule others chosen s.visits (s.retired + (n + 1)) s.wakes s.starts s.ending) h fate new) c.retire_far-stretch.ensures.rest c.complete.ensures))),
    )

pub returns-then-next-lt-LATEST : goal.returns-then-next-lt-LATEST
returns-then-next-lt-LATEST c =
    let s : Engine = c.args.self.now in
    let setting : Setting = c.args.marked.now in
    let h : ℕ = c.args.turn.hart.0 in
    let due : ℕ = c.args.turn.due in
    let delay : ℕ = c.args.delay in
    let n : ℕ = c.retire_far-stretch.result.quiet in
    let after : Guest = c.retire_far-stretch.new.self.guest in
    let fate : Fate = c.retire_far-stretch.result.fate in
    let others : List ℕ = c.retire_far-stretch.new.started in
    let stretch : IsStretch setting s c.marks.result.now h due c.limit_of-limit.result c.args.most n = record {
      valid = c.requires.setting;
      right = c.marks.ensures;
      steady = c.requires.steady;
      machine = c.requires.machine;
      usual = c.requires.usual;
      turn = c.requires.turn;
      first = c.requires.first;
      running = c.requires.running;
      limited = c.limit_of-limit.ensures.limit;
      soon = c.limit_of-limit.ensures.soon;
      allows = λ more. c.requires.allows;
      few = c.retire_far-stretch.ensures.few;
      steps = c.retire_far-stretch.ensures.quiet;
    } in
    let keeps : s.visits ≡ record s.visits { kept = s.visits.kept ++ visits_of (point_of setting.points.now (pc_of s.guest h)) h (due + delay) delay } = none_visited s.visits (point_of setting.points.now (pc_of s.guest h)) h (due + delay) delay c.requires.allows.point in
    let retires : retirement after fate others ≡ retire (after_steps n s.guest.guest h) h (moment_after n s.guest.guest h due) =
    c.retire_far-stretch.ensures.effect ∙ ap (retire (after_steps n s.guest.guest h) h) c.retire_far-stretch.ensures.net in
    subst (λ (g : Timed). HasPassed setting s (engine_of c.retire_far-stretch.result.net g c.rekey_first.new.self others c.clear-2.new.self s.visits (s.retired + (n + 1)) s.wakes s.starts s.ending)) (sym c.retire_far-stretch.ensures.rest)
    (subst (λ (keys : Keys). HasPassed setting s (engine_of c.retire_far-stretch.result.net (with_guest after s.guest) keys others c.clear-2.new.self s.visits (s.retired + (n + 1)) s.wakes s.starts s.ending)) (sym c.rekey_first.ensures)
    (stretch_passed setting s c.marks.result.now h due c.limit_of-limit.result c.args.most n stretch c.in-Some.next after fate others c.clear-2.new.self c.retire_far-stretch.result.net (s.retired + (n + 1)) c.retire_far-stretch.ensures.net refl c.clear-2.ensures retires
    (subst (λ (o : Option ℕ). IfSome o (λ next. (n + 1 < c.args.most) × GoesOnAt c.marks.result.now (after_steps n s.guest.guest h) h c.retire_far-stretch.result.net next)) c.in-Some.is c.retire_far-stretch.ensures.next)
    (omega (arith, c.if-next-lt-LATEST.true))))
