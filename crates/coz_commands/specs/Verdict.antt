-- What a command gives, with the files that its paths hold: a status, a text for the output
-- and a line for the errors.
use Rattle.std.specs.Prelude.{ℕ, List, [], length, nat_lt, Option, None, Some, Result, Ok, Err, if◌then◌else◌}
use Rattle.std.specs.List.{list_all}
use Rattle.asm_tokens.specs.declared.TheConstants.{MAX_SOURCE}
use Rattle.experiment_plan.specs.declared.experiment.TheConstants.{MAX_PAIRS}
use Rattle.coz_types.specs.declared.TheConstants.{MAX_PROGRAM}
use Rattle.coz_types.specs.declared.record.Summary.{Summary}
use Rattle.coz_files.specs.Held.{Held, file_at}
pub use Rattle.command_texts.specs.Printed.{has_exited, ending_status, ended_verdict}
pub use Rattle.program_load.specs.Verdict.{Verdict, refusal, text_verdict, loaded_verdict, table_verdict, program_verdict, named_verdict, points_verdict, read_verdict}
use Rattle.coz_words.specs.declared.request.Request.{Request}
use Rattle.coz_words.specs.declared.command.Command.{Command}
use Rattle.coz_words.specs.declared.command.Command.TheVariants.{Run, Really, Profile, Lines, Plot, Asm, Trial, Latency, Path}
use Rattle.rv_asm.specs.declared.AsmFault.{AsmFault}
use Rattle.rv_asm.specs.Assembled.{Program, assembled}
use Rattle.image_write.specs.File.{written_file}
use Rattle.work_gen.specs.Text.{Source, generated}
use Rattle.machines.specs.Guest.{Experiment}
use Rattle.machines.specs.Records.{Record, NetRecord, shortened_record}
use Rattle.machines.specs.Standing.{delayed_record}
use Rattle.guest_calls.specs.Guest.{Guest}
use Rattle.line_index.specs.Lines.{Line}
use Rattle.line_index.specs.Listed.{lines_in}
use Rattle.timing_model.specs.declared.timing.Timing.{Timing}
use Rattle.experiment_plan.specs.declared.experiment.Experiment.{Experiment as Pair}
use Rattle.profile_book.specs.Profile.{profile_text}
use Rattle.profile_reader.specs.declared.TheConstants.{MAX_PROFILE}
use Rattle.profile_reader.specs.Grammar.{book_fault}
use Rattle.profile_reader.specs.Parsed.{parsed_profile}
use Rattle.profile_reader.specs.declared.fault.BookFault.{BookFault}
use Rattle.profile_book.specs.declared.profile.Profile.{Profile as Book}
use Rattle.command_texts.specs.Text.{run_text, really_text, lines_text, plot_text}
use Rattle.program_load.specs.Selection.{line_named, lines_named}
use Rattle.run_inputs.specs.Experiment.{choice_of}
pub use Rattle.run_inputs.specs.Verdict.{Judging, file_verdict, bytes_verdict, files_verdict}
use Rattle.coz_commands.specs.CriticalPath.{path_on}
use Rattle.program_load.specs.FaultLines.{source_line, plan_line, book_line}
use Rattle.coz_commands.specs.Profiled.{all_lines, pairs_of, profile_from, delayed_records, timed_by_table, Records}
use Rattle.coz_commands.specs.Latencies.{latency_verdict}
use Rattle.coz_commands.specs.Trial.{trial_file, trial_point, trial_profile, trial_program, trial_text}

-- of a run
abbrev pub run_verdict : Record → Verdict
run_verdict r = ended_verdict r.ending (run_text r)

-- of a run that knows no delays
abbrev pub really_verdict : NetRecord → Verdict
really_verdict r = ended_verdict r.ending (really_text r)

-- of a profile
abbrev pub profile_verdict : Book → Verdict
profile_verdict p = record {
  status = if list_all (λ (s : Summary). has_exited s.outcome.ending) p.summaries then 0 else 1;
  text = profile_text p;
  line = [];
}

-- of an experiment: what `run` prints of it
abbrev pub run_printed : Experiment Guest → Verdict
run_printed x = run_verdict (delayed_record x)

-- and what `really` prints of it
abbrev pub really_printed : Experiment Guest → Verdict
really_printed x = really_verdict (shortened_record x)

-- of the experiment that a request asks for, by what is printed of it
abbrev pub asked_verdict : Request → (Experiment Guest → Verdict) → Judging
asked_verdict asked print lines runs =
    named_verdict (line_named lines asked.line) (λ selected.
    named_verdict (lines_named lines [] asked.progress) (λ named.
    points_verdict named (λ points.
    print (runs (choice_of selected asked.speedup asked.budget) points))))

-- of a plan, if there are at most 100,000 pairs, and of what follows
abbrev pub plan_verdict : List Pair → (List Pair → Verdict) → Verdict
plan_verdict pairs next =
    if nat_lt MAX_PAIRS (length pairs) then refusal 9 (plan_line (length pairs)) else next pairs

-- of the profile that a request asks for, by what its runs leave
unfoldable pub recorded_verdict : Request → List Line → Records → Verdict
recorded_verdict asked lines records =
    named_verdict (lines_named lines (all_lines lines) asked.lines) (λ selected.
    named_verdict (lines_named lines [] asked.progress) (λ named.
    points_verdict named (λ points.
    plan_verdict (pairs_of selected asked.speedups) (λ pairs.
    profile_verdict (profile_from records lines asked.budget points pairs)))))

-- of the delayed runs of a program
abbrev pub profiled_verdict : Request → Judging
profiled_verdict asked lines runs = recorded_verdict asked lines (delayed_records runs)

-- of the profile that a request asks for of the program in a file, on a machine of the timing model
abbrev pub machine_verdict : Timing → Request → List ℕ → List ℕ → Verdict
machine_verdict t asked file input =
    program_verdict file (λ image table.
    recorded_verdict asked (lines_in table image.areas)
    (delayed_records (timed_by_table t image table input)))

-- of the critical path that a request asks for
abbrev pub path_verdict : Request → Held → Verdict
path_verdict asked held = bytes_verdict asked held (path_on asked.budget)

-- of a program's lines
abbrev pub lines_verdict : List ℕ → Verdict
lines_verdict file =
    program_verdict file (λ image table. text_verdict (lines_text table image.areas))

-- of a profile, if its text has no fault
abbrev pub book_verdict : Option BookFault → Book → Verdict
book_verdict (Some fault) p = refusal 12 (book_line fault)
book_verdict None p = text_verdict (plot_text p)

-- of a profile's text
abbrev pub plot_verdict : List ℕ → Verdict
plot_verdict bytes = book_verdict (book_fault bytes) (parsed_profile bytes)

-- of an assembled source, under this name and with a line table of this version
abbrev pub source_verdict : List ℕ → ℕ → Result Program AsmFault → Verdict
source_verdict name version (Err fault) = refusal 11 (source_line fault)
source_verdict name version (Ok program) = text_verdict (written_file program name version)

-- of the program that a source is assembled to, if it is, and of what follows
abbrev pub assembled_verdict : Result Program AsmFault → (Program → Verdict) → Verdict
assembled_verdict (Err fault) next = refusal 11 (source_line fault)
assembled_verdict (Ok program) next = next program

-- of the profile of a trial
abbrev pub trial_printed : Source → List Line → Book → Verdict
trial_printed source lines p = record {
  status = (profile_verdict p).status;
  text = trial_text source lines p;
  line = [];
}

-- of a trial on the lines and runs of its program
unfoldable pub trial_judging : Source → Judging
trial_judging source lines runs =
    named_verdict (trial_point source.point lines) (λ point.
    trial_printed source lines (trial_profile runs lines point))

-- of the trial of a seed and a size
unfoldable pub trial_verdict : ℕ → ℕ → Verdict
trial_verdict seed size =
    let source = generated seed size in
    assembled_verdict (trial_program source) (λ program.
    file_verdict (trial_judging source) (trial_file program) [])

-- of a command
abbrev pub command_verdict : Command → Request → Held → Verdict
command_verdict Run asked held =
    files_verdict asked held (asked_verdict asked run_printed)
command_verdict Really asked held =
    files_verdict asked held (asked_verdict asked really_printed)
command_verdict Profile asked held = files_verdict asked held (profiled_verdict asked)
command_verdict Lines asked held =
    read_verdict MAX_PROGRAM asked.target (file_at held asked.target) lines_verdict
command_verdict Plot asked held =
    read_verdict MAX_PROFILE asked.target (file_at held asked.target) plot_verdict
command_verdict Asm asked held =
    read_verdict MAX_SOURCE asked.target (file_at held asked.target) (λ source.
    source_verdict asked.target asked.dwarf (assembled source))
command_verdict Trial asked held = trial_verdict asked.seed asked.size
command_verdict Latency asked held = files_verdict asked held (latency_verdict asked)
command_verdict Path asked held = path_verdict asked held
