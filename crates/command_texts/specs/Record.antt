-- The record of a run, as the code has it.
use Rattle.std.specs.Prelude.{map}
use Rattle.machines.specs.Records.{Record, NetRecord}
use Rattle.delay_credits.specs.Delays.{account_as}
use Rattle.machines.specs.KeptVisits.{visit_as}
use Rattle.machines.specs.KeptVisits.{net_of}
use Rattle.command_texts.specs.declared.record.RunRecord.{RunRecord}
use Rattle.command_texts.specs.declared.record.ShortRecord.{ShortRecord}

abbrev pub record_of : RunRecord → Record
record_of run = record {
  ending = run.outcome.ending;
  time = run.outcome.time;
  delay = run.outcome.delay;
  retired = run.outcome.retired;
  starts = run.outcome.starts;
  output = run.output.now;
  visits = map visit_as run.visits.now;
  accounts = map account_as run.accounts.now;
}

abbrev pub net_record_of : ShortRecord → NetRecord
net_record_of run = record {
  ending = run.ending;
  time = run.net;
  retired = run.retired;
  starts = run.starts;
  output = run.output.now;
  visits = map net_of run.visits.now;
}
