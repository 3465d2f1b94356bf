-- The run with no line selected, and what it gives of the runs that select one.
use Rattle.std.specs.Prelude.{◌≡◌, ℕ, ◌<◌, ◌≤◌, ◌^◌, ◌⊎◌, true, List, [], map, length, get_or, slice_index_or, Option, option_map}
use Rattle.coz_types.specs.declared.TheConstants.{MAX_SPEEDUP}
use Rattle.coz_types.specs.Labels.{is_label}
use Rattle.coz_types.specs.Ranges.{IsSummary}
use Rattle.line_index.specs.Lines.{label}
use Rattle.machines.specs.Delayed.{Delayed}
use Rattle.machines.specs.Selecting.{uncounted_record}
use Rattle.machines.specs.Standing.{delayed_record}
use Rattle.timed_guest.specs.Guest.{Timed}
use Rattle.run_engine.specs.Seen.{Seen, experiment_of}
use Rattle.run_summary.specs.Summaries.{relabelled}
use Rattle.counted_run.specs.CountedRun.{selecting_line}
use Rattle.profile_pool.specs.declared.plain.Plain.{Plain}
use Rattle.run_subject.specs.declared.Subject.{Subject}
use Rattle.profile_pool.specs.Subjects.{summary_on}

abbrev pub starts_at : Plain → ℕ → ℕ
starts_at plain line = slice_index_or plain.starts.items line 0

-- if the run was made
abbrev pub starts_in : Option Plain → ℕ → Option ℕ
starts_in plain line = option_map (λ plain. starts_at plain line) plain

-- what a run with no line selected says of the line at this position, which starts so often
pub record SaysOf (seen : Seen (Delayed Timed)) (line starts : ℕ) : Type 0 where
  pub starts_are : starts
      ≡ (delayed_record (experiment_of (selecting_line (record { 0 = line }) 0 seen))).starts
  pub small : starts ≤ 10 ^ 17
  pub same : uncounted_record
      (delayed_record (experiment_of (selecting_line (record { 0 = line }) 0 seen)))
      ≡ uncounted_record (delayed_record (experiment_of seen))
  pub unstarted : starts ≡ 0 → (speedup : ℕ)
      → delayed_record (experiment_of (selecting_line (record { 0 = line }) speedup seen))
      ≡ delayed_record (experiment_of seen)

-- its summary, with the label, the speedup and the starts of a line, is that of the run with the
-- line selected, at speedup 0 and, if the line never starts, at every speedup
pub record IsPlain (s : Subject) (budget : ℕ) (plain : Plain) : Type 0 where
  pub many : length plain.starts.items ≡ length s.index.now.lines
  pub same : (line speedup : ℕ) → line < length s.index.now.lines
      → (speedup ≡ 0) ⊎ (starts_at plain line ≡ 0)
      → relabelled (get_or (map label s.index.now.lines) line []) speedup (starts_at plain line)
      plain.summary
      ≡ summary_on s budget line speedup
  pub ranges : (text : List ℕ) (line speedup : ℕ) → line < length s.index.now.lines
      → is_label text ≡ true → speedup ≤ MAX_SPEEDUP
      → IsSummary (length s.points.now.lines)
      (relabelled text speedup (starts_at plain line) plain.summary)
