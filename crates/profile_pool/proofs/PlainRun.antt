-- What the run with no line selected says of the runs that select one.
use Rattle.std.proofs.Common.{◌≡◌, ◌≤◌, ◌<◌, ◌^◌, ◌⊎◌, inl, inr, ℕ, true, List, [], map, length, get_or, Result, Ok, Err, IfOk, Some, None, sym, ap, refl, ◌∙◌}
use Rattle.std.specs.declared.alloc.AllocError.{AllocError}
use Rattle.coz_types.specs.Labels.{is_label}
use Rattle.coz_types.specs.Ranges.{IsSummary}
use Rattle.line_index.specs.Lines.{label}
use Rattle.machines.specs.Delayed.{Delayed}
use Rattle.machines.specs.Records.{Record}
use Rattle.machines.specs.Selecting.{uncounted_record}
use Rattle.machines.specs.Standing.{delayed_record}
use Rattle.timed_guest.specs.Guest.{Timed}
use Rattle.run_engine.specs.Seen.{Seen, experiment_of}
use Rattle.counted_run.specs.CountedRun.{selecting_line}
use Rattle.profile_pool.specs.declared.plain.Plain.{Plain}
use Rattle.run_engine.specs.Choices.{choice_of}
use Rattle.profile_pool.specs.Made.{parts_made}
use Rattle.profile_pool.specs.Plain.{starts_at, SaysOf, IsPlain}
use Rattle.run_summary.specs.Summaries.{relabelled}
use Rattle.profile_pool.specs.Summaries.{summary_of}
use Rattle.profile_pool.specs.Subjects.{summary_on}
use Rattle.run_subject.specs.declared.Subject.{Subject}
use Rattle.run_subject.specs.Subjects.{experiment_on}

-- what the run of a program with no line selected is made with
abbrev pub plain_parts : Subject → ℕ → Seen (Unit {0})
plain_parts s budget = record { image = s.image.now; index = s.index.now; points = s.points.now; timing = s.timing; input = s.input.now; choice = choice_of None 0 budget; state = tt }

pub relabels : (text : List ℕ) (speedup points starts : ℕ) (r : Record) → relabelled text speedup starts (summary_of [] 0 points r) ≡ summary_of text speedup points (record r { starts = starts })
unfolding summary_of
relabels text speedup points starts r = refl

-- a record with the starts of another one that is otherwise equal
with_starts : (r s : Record) (n : ℕ) → n ≡ r.starts → uncounted_record r ≡ uncounted_record s → record s { starts = n } ≡ r
with_starts r s n counted same = ap (λ (u : Record). record u { starts = n }) (sym same) ∙ ap (λ (m : ℕ). record r { starts = m }) counted

module _ (s : Subject) (budget : ℕ) (seen : Seen (Delayed Timed)) (made : parts_made seen ≡ plain_parts s budget) where
  -- the record of the run that selects a line
  abbrev of_line : ℕ → ℕ → Record
  of_line line speedup = delayed_record (experiment_on s (choice_of (Some line) speedup budget))

  line_is : (line speedup : ℕ) → delayed_record (experiment_of (selecting_line (record { 0 = line }) speedup seen)) ≡ of_line line speedup
  line_is line speedup = ap (λ (parts : Seen (Unit {0})). delayed_record (experiment_of (selecting_line (record { 0 = line }) speedup parts))) made

  abbrev plain_record : Record
  plain_record = delayed_record (experiment_of seen)

  -- at speedup 0, or if the line never starts
  record_of_line : (line speedup starts : ℕ) → SaysOf seen line starts → (speedup ≡ 0) ⊎ (starts ≡ 0) → record plain_record { starts = starts } ≡ of_line line speedup
  record_of_line line speedup starts says (inl zero) =
      with_starts (delayed_record (experiment_of (selecting_line (record { 0 = line }) 0 seen))) plain_record starts says.starts_are says.same
      ∙ line_is line 0
      ∙ ap (of_line line) (sym zero)
  record_of_line line speedup starts says (inr none) =
      let counted : starts ≡ plain_record.starts = says.starts_are ∙ ap (λ (r : Record). r.starts) (says.unstarted none 0) in
      ap (λ (n : ℕ). record plain_record { starts = n }) counted
      ∙ sym (says.unstarted none speedup)
      ∙ line_is line speedup

  summary_in_is : (line speedup : ℕ) → summary_of (get_or (map label s.index.now.lines) line []) speedup (length s.points.now.lines) (of_line line speedup) ≡ summary_on s budget line speedup
  unfolding summary_on
  summary_in_is line speedup = refl

  pub plain_is : (plain : Plain) (r : Record) → length plain.starts.items ≡ length s.index.now.lines
      → ((line : ℕ) → line < length s.index.now.lines → SaysOf seen line (starts_at plain line))
      → plain.summary ≡ summary_of [] 0 (length s.points.now.lines) r → r ≡ delayed_record (experiment_of seen)
      → ((text : List ℕ) (speedup starts : ℕ) → is_label text ≡ true → speedup ≤ 95 → starts ≤ 10 ^ 17 → IsSummary (length s.points.now.lines) (relabelled text speedup starts plain.summary))
      → IsPlain s budget plain
  plain_is plain r many says summary recorded ranges = record {
    many = many;
    same = λ line speedup below either.
        let text : List ℕ = get_or (map label s.index.now.lines) line [] in
        let starts : ℕ = starts_at plain line in
        ap (relabelled text speedup starts) (summary ∙ ap (summary_of [] 0 (length s.points.now.lines)) recorded)
        ∙ relabels text speedup (length s.points.now.lines) starts plain_record
        ∙ ap (summary_of text speedup (length s.points.now.lines)) (record_of_line line speedup starts (says line below) either)
        ∙ summary_in_is line speedup;
    ranges = λ text line speedup below labelled slow. ranges text speedup (starts_at plain line) labelled slow (says line below).small;
  }

pub all_ok : {T : Type 0} (r : Result T AllocError) (A B C D E : T → Type 0) → IfOk r A → IfOk r B → IfOk r C → IfOk r D → ((t : T) → A t → B t → C t → D t → E t) → IfOk r E
all_ok (Ok t) A B C D E a b c d f = f t a b c d
all_ok (Err e) A B C D E a b c d f = a
