-- Which statuses a verdict of a program's runs has.
use Rattle.std.proofs.Common.{◌≡◌, ℕ, ◌≤◌, List, [], length, nat_lt, Ok, Err, inl, inr, sym, ap, subst, arith}
use Rattle.std.specs.List.{list_all}
use Rattle.coz_types.specs.declared.record.Summary.{Summary}
use Rattle.line_index.specs.Lines.{Line}
use Rattle.machines.specs.Guest.{Experiment}
use Rattle.machines.specs.Records.{shortened_record}
use Rattle.machines.specs.Standing.{delayed_record}
use Rattle.guest_calls.specs.Guest.{Guest}
use Rattle.experiment_plan.specs.declared.experiment.Experiment.{Experiment as Pair}
use Rattle.coz_words.specs.declared.request.Request.{Request}
use Rattle.command_texts.specs.declared.printed.Printed.{Printed}
use Rattle.run_inputs.specs.Experiment.{Runs, choice_of, experiment_by_table}
use Rattle.run_inputs.proofs.Judged.{Judged, fault_of_request, judged_if, judged_named, judged_points, judged_program, low}
use Rattle.coz_commands.specs.CriticalPath.{path_on, path_printed, plain_run}
use Rattle.experiment_plan.specs.Selected.{places_among}
use Rattle.coz_commands.specs.Latencies.{latency_printed, latency_verdict, lines_of_both, net_at_each, speedups_of}
use Rattle.coz_commands.specs.Profiled.{all_lines, pairs_of, profile_from, Records}
use Rattle.program_load.specs.Selection.{line_named, lines_named}
use Rattle.coz_commands.specs.Answer.{Answer, IsMemory, FailedToRead, Suits, verdict_of}
use Rattle.coz_commands.specs.Kinds.{printed_of}
use Rattle.timing_model.specs.declared.timing.Timing.{Timing}
use Rattle.coz_commands.specs.declared.runs.Kind.{Kind}
use Rattle.coz_commands.specs.declared.runs.Kind.TheVariants.{Delayed, Shortened}
use Rattle.coz_commands.specs.Verdict.{Verdict, Judging, asked_verdict, recorded_verdict, machine_verdict, file_verdict, has_exited, plan_verdict, profile_verdict}

judged_plan : (pairs : List Pair) (next : List Pair → Verdict) → ((ps : List Pair) → Judged (next ps)) → Judged (plan_verdict pairs next)
judged_plan pairs next each =
    judged_if (nat_lt 100000 (length pairs)) _ (next pairs)
    (record { high = omega arith; no_write = λ is. omega (arith, is); no_length = λ is. omega (arith, is); told = λ is. absurd cc })
    (each pairs)

judged_asked : (asked : Request) (print : Experiment Guest → Verdict) → ((x : Experiment Guest) → Judged (print x)) → (lines : List Line) (runs : Runs) → Judged (asked_verdict asked print lines runs)
judged_asked asked print each lines runs =
    judged_named (line_named lines asked.line) _ (λ selected.
    judged_named (lines_named lines [] asked.progress) _ (λ named.
    judged_points named _ (λ points.
    each (runs (choice_of selected asked.speedup asked.budget) points))))

judged_recorded : (asked : Request) (lines : List Line) (records : Records) → Judged (recorded_verdict asked lines records)
unfolding recorded_verdict
judged_recorded asked lines records =
    judged_named (lines_named lines (all_lines lines) asked.lines) _ (λ selected.
    judged_named (lines_named lines [] asked.progress) _ (λ named.
    judged_points named _ (λ points.
    judged_plan (pairs_of selected asked.speedups) (λ pairs. profile_verdict (profile_from records lines asked.budget points pairs))
    (λ pairs. inl (low (list_all (λ (s : Summary). has_exited s.outcome.ending) (profile_from records lines asked.budget points pairs).summaries))))))

pub judged_latency : (asked : Request) (lines : List Line) (runs : Runs) → Judged (latency_verdict asked lines runs)
unfolding latency_verdict
judged_latency asked lines runs =
    judged_named (line_named lines asked.line) _ (λ selected.
    judged_named (lines_named lines [] asked.arrive) _ (λ arrive.
    judged_named (lines_named lines [] asked.depart) _ (λ depart.
    judged_points (lines_of_both arrive depart)
    (λ points. latency_printed (places_among points arrive) (places_among points depart) (net_at_each runs selected asked.budget points) (speedups_of asked))
    (λ points. inl (low (list_all (λ speedup. has_exited (net_at_each runs selected asked.budget points speedup).ending) (speedups_of asked)))))))

-- of a run, whichever machine makes it
printed_low : (kind : Kind) (x : Experiment Guest) → Judged (printed_of kind x)
unfolding printed_of
printed_low Delayed x = inl (low (has_exited (delayed_record x).ending))
printed_low Shortened x = inl (low (has_exited (shortened_record x).ending))

pub judged_kind : (asked : Request) (kind : Kind) (lines : List Line) (runs : Runs) → Judged (asked_verdict asked (printed_of kind) lines runs)
judged_kind asked kind = judged_asked asked (printed_of kind) (printed_low kind)

judged_file : (next : Judging) (file input : List ℕ) → ((lines : List Line) (runs : Runs) → Judged (next lines runs)) → Judged (file_verdict next file input)
judged_file next file input judged = judged_program file _ (λ image table. judged _ _)

-- ---- answers

module _ (asked : Request) (v : Verdict) (judged : Judged v) where
  status_is : (w : Verdict) → w ≡ v → w.status ≡ v.status
  status_is w same = ap (λ (u : Verdict). u.status) same

  low_status : (printed : Printed) → verdict_of (Ok printed) ≡ v → Judged v → printed.status ≤ 1
  low_status printed is (inl few) = subst (λ (n : ℕ). n ≤ 1) (sym (status_is _ is)) few
  low_status printed is (inr refused) = absurd (refused.told (sym (ap (λ (u : Verdict). u.line) is)))

  -- an answer of such a verdict is one that a request may have
  pub suits_of : (answer : Answer) → (FailedToRead answer → ⊥) → ((IsMemory answer → ⊥) → verdict_of answer ≡ v) → Suits asked answer
  suits_of (Ok printed) no_read settled = low_status printed (settled (λ no. no)) judged
  suits_of (Err fault) no_read settled = fault_of_request asked v judged fault no_read settled

pub suits_file : (next : Judging) (asked : Request) (file input : List ℕ) (answer : Answer) → ((lines : List Line) (runs : Runs) → Judged (next lines runs)) → (FailedToRead answer → ⊥)
    → ((IsMemory answer → ⊥) → verdict_of answer ≡ file_verdict next file input) → Suits asked answer
suits_file next asked file input answer judged = suits_of asked (file_verdict next file input) (judged_file next file input judged) answer

pub suits_machine : (t : Timing) (asked : Request) (file input : List ℕ) (answer : Answer) → (FailedToRead answer → ⊥) → ((IsMemory answer → ⊥) → verdict_of answer ≡ machine_verdict t asked file input) → Suits asked answer
suits_machine t asked file input answer = suits_of asked (machine_verdict t asked file input) (judged_program file _ (λ image table. judged_recorded asked _ _)) answer

judged_path : (budget : ℕ) (file input : List ℕ) → Judged (path_on budget file input)
unfolding path_printed
judged_path budget file input =
    judged_program file _ (λ image table.
    inl (low (has_exited (shortened_record (plain_run (experiment_by_table image table input) budget)).ending)))

pub suits_path : (asked : Request) (file input : List ℕ) (answer : Answer) → (FailedToRead answer → ⊥)
    → ((IsMemory answer → ⊥) → verdict_of answer ≡ path_on asked.budget file input) → Suits asked answer
suits_path asked file input answer = suits_of asked (path_on asked.budget file input) (judged_path asked.budget file input) answer
