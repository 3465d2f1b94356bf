use Rattle.std.proofs.Common.{◌≡◌, take}
use Rattle.std.specs.List.{list_all}
use Rattle.coz_files.specs.Gathered.{Gathers}
use Rattle.latency_points.specs.Moments.{numbers_of}
use Rattle.virtual_run.specs.Lead.{arguments}
use Rattle.command_texts.specs.LatencyText.{latency_text}
use Rattle.coz_commands.specs.Measured.{run_at}
use Rattle.coz_commands.specs.Verdict.{has_exited}
use Rattle.coz_commands.proofs.latency.put_latencies.Given as goal

-- the lines so far are those of the speedups so far, and the machine is still one of the lead's program
abbrev pub invariant-loop-speedup : goal.invariant-loop-speedup
invariant-loop-speedup g l = record {
  text : Gathers g.O.Sink.holds g.O.Sink.faults l.fn.out l.out l.fn.to l.to (latency_text (numbers_of l.arrive) (numbers_of l.depart) (run_at l.lead) (take l.speedup-index l.speedups));
  all : l.all ≡ list_all (λ speedup. has_exited (run_at l.lead speedup).ending) (take l.speedup-index l.speedups);
  machine : arguments l.machine ≡ arguments l.lead;
}
