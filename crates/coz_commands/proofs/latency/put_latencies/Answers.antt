use Rattle.std.proofs.Common.{ℕ, ◌&&◌, Bool, get_or, ◌∙◌, ap}
use Rattle.std.proofs.lemmas.Grind.{get_or_default_zero}
use Rattle.latency_points.specs.Moments.{numbers_of}
use Rattle.profile_book.proofs.Gathering.{gathers_as, line_more}
use Rattle.command_texts.specs.LatencyText.{run_line}
use Rattle.coz_commands.specs.Measured.{run_at}
use Rattle.coz_commands.specs.Verdict.{has_exited}
use Rattle.coz_commands.specs.declared.measuring.RunLatency.{RunLatency}
use Rattle.coz_commands.proofs.LatencySteps.{exited_more, measured_line}
use Rattle.coz_commands.proofs.latency.put_latencies.Goals as goal

pub loop-speedup-preserved : goal.loop-speedup-preserved
loop-speedup-preserved g c =
    let loop = c.loop-speedup in
    let lead = c.args.lead.now in
    let arrive = c.args.arrive.now in
    let depart = c.args.depart.now in
    let speedups = c.args.speedups.now in
    let speedup = get_or speedups loop.speedup-index 0 in
    let measured = c.latency_at-measured.ensures.measured in
    let below = c.loop-speedup-test.true in
    record {
      text =
          line_more (λ (s : ℕ). run_line (numbers_of arrive) (numbers_of depart) s (run_at lead s)) speedups loop.speedup-index speedup below (get_or_default_zero speedups loop.speedup-index speedup below) loop.invariant.text
          (gathers_as (measured_line arrive depart speedup (run_at lead speedup) c.latency_at-measured.result measured) c.put_latency.ensures);
      all =
          c.both-all.ensures
          ∙ ap (λ (b : Bool). loop.all && b) (c.has_exited.ensures ∙ ap (λ (m : RunLatency). has_exited m.ending) measured)
          ∙ exited_more speedups loop.speedup-index 0 below (λ speedup. has_exited (run_at lead speedup).ending) loop.all loop.invariant.all;
      machine = c.latency_at-measured.ensures.arguments;
    }
