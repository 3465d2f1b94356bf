-- A trial has no fault but out of memory.
use Rattle.std.proofs.Common.{◌≡◌, ℕ, zero, suc, ◌+◌, ◌*◌, ◌/◌, ◌<◌, ◌≤◌, not, ◌==◌, Bool, true, false, cond, List, [], ◌∷◌, ◌++◌, length, map, filter, nat_lt, Option, Some, None, Result, Ok, Err, refl, sym, ap, ap₂, ◌∙◌, subst, arith, codes}
use Rattle.std.specs.Prelude.{Contains, IsOk, option_map, slice_get, unwrap_or}
use Rattle.std.specs.List.{AllByRecursion, range_with_len}
use Rattle.std.specs.List.Sorted.{IsStrictlySortedBy}
use Rattle.std.specs.Ordering.{nat_cmp}
use Rattle.std.specs.declared.cmp.Ordering.TheVariants.{Less, Equal, Greater}
use Rattle.std.proofs.lemmas.Bool.{lt-ltb, le-ltb}
use Rattle.std.proofs.lemmas.List.{append-nil, length-map, map-append}
use Rattle.std.proofs.lemmas.List.FromFn.{filter_of_map_range_with_len_more}
use Rattle.std.proofs.lemmas.Option.{get_or_from_slice_get}
use Rattle.std.proofs.lemmas.List.Sums.{AllPass-from_list_all}
use Rattle.coz_types.specs.Image.{ImageParts}
use Rattle.coz_types.specs.declared.LineId.{LineId}
use Rattle.elf_load.specs.Loaded.{load_answer, section}
use Rattle.dwarf_lines.specs.declared.LineFault.{LineFault}
use Rattle.coz_words.specs.Said.{Text}
use Rattle.dwarf_lines.specs.Names.{strings}
use Rattle.dwarf_lines.specs.Reading.{reading}
use Rattle.dwarf_lines.specs.Registers.{Table}
use Rattle.line_index.specs.Index.{Index, IsIndex}
use Rattle.line_index.specs.Lines.{Line, position_named, label, label_at}
use Rattle.line_index.specs.Listed.{lines_in}
use Rattle.experiment_plan.specs.Selected.{id_of, ids}
use Rattle.experiment_plan.specs.Pairs.{IsPlan, planned_pairs}
use Rattle.experiment_plan.specs.declared.experiment.Experiment.{Experiment as Pair}
use Rattle.experiment_plan.specs.declared.experiment.PlanError.{PlanError}
use Rattle.experiment_plan.specs.declared.experiment.PlanError.TheVariants as planning
use Rattle.experiment_plan.proofs.Pairing.{many}
use Rattle.coz_types.specs.declared.record.Summary.{Summary}
use Rattle.std.proofs.Math.Path.{fun_ext}
use Rattle.machines.specs.Guest.{Experiment}
use Rattle.machines.specs.Standing.{delayed_record}
use Rattle.guest_calls.specs.Guest.{Guest}
use Rattle.run_engine.specs.Choices.{choice_of}
use Rattle.progress_points.specs.Points.{Points, IsPoints}
use Rattle.profile_book.specs.declared.profile.Profile.{Profile}
use Rattle.rv_asm.specs.Assembled.{Program, IsProgram, assembled}
use Rattle.failures.specs.Answers.{Fails}
use Rattle.rv_asm.specs.declared.AsmFault.{AsmFault}
use Rattle.failures.specs.declared.Failure.{Failure}
use Rattle.failures.specs.declared.Failure.TheVariants as assembling
use Rattle.work_gen.specs.Text.{Source, generated}
use Rattle.work_gen.specs.Accepted.{IsAccepted}
use Rattle.image_write.specs.File.{IsName, written_file}
use Rattle.image_write.specs.Image.{image_of}
use Rattle.image_write.specs.Lines.{table_of}
use Rattle.image_write.proofs.LineSection.{no_texts, unit_found}
use Rattle.image_write.proofs.Loading.{written_loads, written_short}
use Rattle.image_write.proofs.Written.{unit_is_read}
use Rattle.program_load.specs.declared.fault.Fault.{Fault}
use Rattle.coz_commands.specs.Answer.{IsMemoryFault, fault_verdict}
use Rattle.program_load.specs.Causes.{assembling_fault, planning_fault}
use Rattle.run_inputs.specs.Experiment.{Runs, experiment_by_table, runs_in}
use Rattle.profile_pool.specs.Summaries.{summary_in, summaries_of}
use Rattle.coz_commands.specs.Profiled.{delayed_records, experiment_of_pair, pairs_of, summary_on}
use Rattle.program_load.specs.LineTable.{table_in}
use Rattle.coz_commands.specs.Trial.{IsTrialFile, tenths, trial_file, trial_name, trial_plan, trial_point, trial_profile, trial_program}
use Rattle.coz_commands.specs.Verdict.{Verdict, assembled_verdict, file_verdict, named_verdict, text_verdict, program_verdict, trial_judging, trial_printed, trial_verdict}
use Rattle.program_load.proofs.Files.{whole_program}
use Rattle.run_inputs.proofs.Indexed.{indexed, experiment_is}
use Rattle.coz_commands.proofs.PointLine.{word_found}
use Rattle.coz_commands.proofs.Profiling.{pairs_are, same_profile}
use Rattle.run_inputs.proofs.Faults.{is_memory}

same_ok : {A E : Type 0} {x y : A} → (let r : Result A E = Ok x in r ≡ Ok y) → x ≡ y
same_ok e = cc

-- ---- the file

pub trial_named : IsName trial_name
trial_named = (omega arith, omega arith, AllPass-from_list_all (λ b. not (b == 0)) trial_name refl)

module _ (source : Source) (file : List ℕ) (is : IsTrialFile source file) where
  abbrev p : Program
  p = is.program

  abbrev table : Table
  table = table_of p.lines trial_name 4

  at_file : (P : List ℕ → Type 0) → P (trial_file p) → P file
  at_file P holds = subst P (sym is.written) holds

  pub file_short : length file ≤ 16777216
  unfolding trial_file
  file_short = at_file (λ f. length f ≤ 16777216) (written_short p trial_name 4 is.right trial_named)

  loads : load_answer file ≡ Ok (image_of p file)
  unfolding trial_file
  loads = at_file (λ f. load_answer f ≡ Ok (image_of p f)) (written_loads p trial_name 4 is.right trial_named)

  abbrev with_sections : Option (List ℕ) → Option (List ℕ) → Option (List ℕ) → Result Table LineFault
  with_sections lines general texts = reading (strings (unwrap_or general []) (unwrap_or texts [])) (unwrap_or lines [])

  reads : table_in file ≡ Ok table
  unfolding table_in trial_file
  reads =
      let none = no_texts p trial_name 4 is.right trial_named in
      let lines = unit_found p trial_name 4 is.right trial_named in
      at_file (λ f. with_sections (section f (codes ".debug_line")) (section f (codes ".debug_str")) (section f (codes ".debug_line_str")) ≡ Ok table)
      (ap₂ (λ (general texts : Option (List ℕ)). with_sections (section (trial_file p) (codes ".debug_line")) general texts) none.0 none.1
      ∙ ap (λ (o : Option (List ℕ)). with_sections o None None) lines
      ∙ unit_is_read p trial_name 4 is.right trial_named (omega arith, omega arith))

  same_file : (image_of p file).file ≡ file
  unfolding image_of
  same_file = refl

  -- what follows the reading of the file
  pub program_is : (next : ImageParts → Table → Verdict) → program_verdict file next ≡ next (image_of p file) table
  program_is next = sym (whole_program file next (image_of p file) table loads (ap table_in same_file ∙ reads))

  -- a fault of reading it is out of memory
  pub read_memory : (fault : Fault) → ((IsMemoryFault fault → ⊥) → (next : ImageParts → Table → Verdict) → fault_verdict fault ≡ program_verdict file next) → IsMemoryFault fault
  read_memory fault settled = is_memory fault [] (λ other. settled other (λ image table. text_verdict []) ∙ program_is (λ image table. text_verdict []))

  -- the point's line is found
  pub point_there : (index : Index) (image : ImageParts) (read : Table) → load_answer file ≡ Ok image → table_in file ≡ Ok read → IsIndex read image.areas index → IsOk (trial_point source.point index.lines)
  unfolding trial_point
  point_there index image read loads_as reads_as indexed =
      let image_is : image_of p file ≡ image = same_ok (sym loads ∙ loads_as) in
      let table_is : table ≡ read = same_ok (sym reads ∙ reads_as) in
      let here : IsIndex table (image_of p file).areas index =
      subst (λ (t : Table). IsIndex t (image_of p file).areas index) (sym table_is) (subst (λ (i : ImageParts). IsIndex read i.areas index) (sym image_is) indexed) in
      let found_at = word_found p trial_name file source.point index is.right (omega arith) refl is.has_point here in
      subst (λ (o : Option ℕ). IsOk (elim o as (λ x. Result ℕ Text) [ Some line ↦ Ok line | None ↦ Err trial_name ])) (sym found_at.1) refl

-- ---- the point

pub point_found : (point : ℕ) (lines : List Line) (k : ℕ) → position_named trial_name point lines ≡ Some k → trial_point point lines ≡ Ok k
unfolding trial_point
point_found point lines k is = ap (λ (o : Option ℕ). elim o as (λ x. Result ℕ Text) [ Some line ↦ Ok line | None ↦ Err trial_name ]) is

pub point_absent : (point : ℕ) (lines : List Line) → position_named trial_name point lines ≡ None → IsOk (trial_point point lines) → ⊥
unfolding trial_point
point_absent point lines is ok =
    let no : false ≡ true = subst (λ (o : Option ℕ). IsOk (elim o as (λ x. Result ℕ Text) [ Some line ↦ Ok line | None ↦ Err trial_name ])) is ok in
    absurd cc

-- what looking it up answers
pub of_none : (o : Option ℕ) → (let none : Option LineId = None in none ≡ option_map (λ k. record { 0 = k }) o) → o ≡ None
of_none None is = refl
of_none (Some k) is = absurd cc

pub of_some : (o : Option ℕ) (line : LineId) → Some line ≡ option_map (λ k. record { 0 = k }) o → o ≡ Some line.0
of_some None line is = absurd cc
of_some (Some k) line is = let same : line ≡ record { 0 = k } = cc in ap (λ (l : LineId). Some l.0) (sym same)

-- ---- the lines that are selected

less : (x y : ℕ) → x < y → nat_cmp x y ≡ Less
less x y lt = ap (λ (b : Bool). cond b Less (cond (x == y) Equal Greater)) (lt-ltb x y lt)

multiples_above : (x step a n : ℕ) → x < a * step → AllByRecursion (λ y. nat_cmp x y ≡ Less) (map (λ i. i * step) (range_with_len a n))
multiples_above x step a zero lt = tt
multiples_above x step a (suc n) lt = (less x (a * step) lt, multiples_above x step (a + 1) n (omega arith))

multiples_rise : (step a n : ℕ) → 0 < step → IsStrictlySortedBy nat_cmp (map (λ i. i * step) (range_with_len a n))
unfolding IsStrictlySortedBy
multiples_rise step a zero some = tt
multiples_rise step a (suc n) some = (multiples_above (a * step) step (a + 1) n (omega (arith, some)), multiples_rise step (a + 1) n some)

kept_all : (P : ℕ → Type 0) (test : ℕ → Bool) (xs : List ℕ) → AllByRecursion P xs → AllByRecursion P (filter test xs)
kept_all P test [] all = tt
kept_all P test (x ∷ xs) all = elim (test x) as (λ b. AllByRecursion P (cond b (x ∷ filter test xs) (filter test xs))) [ true ↦ (all.0, kept_all P test xs all.1) | false ↦ kept_all P test xs all.1 ]

kept_rise : (test : ℕ → Bool) (xs : List ℕ) → IsStrictlySortedBy nat_cmp xs → IsStrictlySortedBy nat_cmp (filter test xs)
unfolding IsStrictlySortedBy
kept_rise test [] up = tt
kept_rise test (x ∷ xs) up = elim (test x) as (λ b. IsStrictlySortedBy nat_cmp (cond b (x ∷ filter test xs) (filter test xs))) [
  | true ↦ (kept_all (λ y. nat_cmp x y ≡ Less) test xs up.0, kept_rise test xs up.1)
  | false ↦ kept_rise test xs up.1
]

pub tenths_rise : (n : ℕ) → IsStrictlySortedBy nat_cmp (tenths n)
unfolding tenths IsStrictlySortedBy
tenths_rise zero = tt
tenths_rise (suc n) = kept_rise (λ position. nat_lt position (suc n)) (map (λ i. i * ((suc n + 9) / 10)) (range_with_len 0 10)) (multiples_rise ((suc n + 9) / 10) 0 10 (omega arith))

-- one multiple more
abbrev pub so_many : ℕ → ℕ → ℕ → List ℕ
so_many n tenth i = filter (λ position. nat_lt position n) (map (λ j. j * tenth) (range_with_len 0 i))

one_more : (n tenth i : ℕ) (b : Bool) → nat_lt (i * tenth) n ≡ b → so_many n tenth (i + 1) ≡ so_many n tenth i ++ cond b (i * tenth ∷ []) []
one_more n tenth i b is =
    filter_of_map_range_with_len_more (λ position. nat_lt position n) (λ j. j * tenth) 0 i i (omega arith) ∙ ap (λ (kept : Bool). so_many n tenth i ++ cond kept (i * tenth ∷ []) []) is

pub position_in : (n tenth i : ℕ) (lines new : List LineId) → i * tenth < n → ids lines ≡ so_many n tenth i → new ≡ lines ++ record { 0 = i * tenth } ∷ [] → ids new ≡ so_many n tenth (i + 1)
position_in n tenth i lines new less are is =
    ap ids is ∙ map-append id_of lines (record { 0 = i * tenth } ∷ []) ∙ ap (λ ns. ns ++ i * tenth ∷ []) are ∙ sym (one_more n tenth i true (lt-ltb (i * tenth) n less))

pub position_out : (n tenth i : ℕ) (lines : List LineId) → n ≤ i * tenth → ids lines ≡ so_many n tenth i → ids lines ≡ so_many n tenth (i + 1)
position_out n tenth i lines le are = are ∙ sym (append-nil (so_many n tenth i)) ∙ sym (one_more n tenth i false (le-ltb (i * tenth) n le))

pub all_so_many : (n : ℕ) → so_many n ((n + 9) / 10) 10 ≡ tenths n
unfolding tenths
all_so_many n = refl

pub length_ids : (lines : List LineId) → length (ids lines) ≡ length lines
length_ids [] = refl
length_ids (line ∷ lines) = ap suc (length_ids lines)

-- ---- the source

-- the assembler gives no fault on a source that is accepted
pub assembled_memory : (text : List ℕ) (p : Program) (error : Failure AsmFault) → assembled text ≡ Ok p → Fails error (assembled text) → IsMemoryFault (assembling_fault error)
assembled_memory text p (assembling.Fault fault) is fails = absurd (let both : Ok p ≡ Err fault = sym is ∙ fails in cc)
assembled_memory text p assembling.Memory is fails = tt

pub file_of : (source : Source) (given : Program) (file : List ℕ) → IsAccepted source → assembled source.text ≡ Ok given → IsProgram given → file ≡ written_file given trial_name 4 → IsTrialFile source file
unfolding trial_program trial_file
file_of source given file (p, is, has) stands right written = record {
  program = given;
  stands = stands;
  right = right;
  has_point = subst (λ (q : Program). Contains q.lines source.point) (same_ok (sym is ∙ stands)) has;
  written = written;
}

-- ---- the plan and the profile

abbrev speedups : List ℕ
speedups = 0 ∷ 25 ∷ 50 ∷ 75 ∷ []

pub plan_is : (lines : List LineId) (pairs : List Pair) (all : List Line) (count : ℕ) → IsPlan lines speedups (Ok pairs) → ids lines ≡ tenths count → count ≡ length all → pairs ≡ trial_plan all
unfolding trial_plan
plan_is lines pairs all count is are same = is.0 ∙ pairs_are lines speedups ∙ ap (λ (ps : List ℕ). pairs_of ps speedups) (are ∙ ap tenths same)

-- ten lines make few pairs
pub plan_memory : (lines : List LineId) (error : PlanError) → length lines ≤ 10 → IsPlan lines speedups (Err error) → IsMemoryFault (planning_fault error)
plan_memory lines (planning.TooMany count) few is =
    let all : length (planned_pairs lines speedups) ≡ length lines * 4 = many lines speedups in
    absurd (omega (arith, is.0, is.1, all, few))
plan_memory lines planning.Memory few is = tt

pub label_one : (lines : List Line) (k : ℕ) (text : List ℕ) → slice_get (map label lines) k ≡ Some text → text ≡ label_at lines k
label_one lines k text is = sym (get_or_from_slice_get (map label lines) k text [] is)

-- the summaries of a plan's runs by an index are those by its lines and runs
alone_summaries : (image : ImageParts) (index : Index) (points : Points) (input : List ℕ) (budget : ℕ) (pairs : List Pair) → IsPoints index points.lines points
    → summaries_of image index points input budget pairs
    ≡ map (λ pair. summary_on index.lines points.lines pair (delayed_record (experiment_of_pair (runs_in image index input) budget points.lines pair))) pairs
unfolding summary_in
alone_summaries image index points input budget pairs are =
    ap (λ (f : Pair → Summary). map f pairs)
    (fun_ext (λ (pair : Pair).
    ap (λ (x : Experiment Guest). summary_on index.lines points.lines pair (delayed_record x))
    (experiment_is image index input points points.lines (choice_of (Some pair.line.0) pair.speedup budget) (choice_of (Some pair.line.0) pair.speedup budget) are refl)))

module _ (image : ImageParts) (index : Index) (points : Points) (point : ℕ) (pairs : List Pair) where
  abbrev on_points : List ℕ → List Pair → List Summary
  on_points ps all = map (λ pair. summary_on index.lines ps pair (delayed_record (experiment_of_pair (runs_in image index []) 100000000 ps pair))) all

  pub summaries_of_trial : (summaries : List Summary) → IsPoints index (point ∷ []) points → pairs ≡ trial_plan index.lines
      → summaries ≡ summaries_of image index points [] 100000000 pairs
      → summaries ≡ (trial_profile (runs_in image index []) index.lines point).summaries
  unfolding trial_profile
  summaries_of_trial summaries are planned ran =
      let here : IsPoints index points.lines points = subst (λ (ps : List ℕ). IsPoints index ps points) (sym are.lines) are in
      ran ∙ alone_summaries image index points [] 100000000 pairs here ∙ ap (λ (ps : List ℕ). on_points ps pairs) are.lines ∙ ap (on_points (point ∷ [])) planned

module _ (runs : Runs) (lines : List Line) (point : ℕ) where
  pub profile_is : (labels : List (List ℕ)) (summaries : List Summary) → labels ≡ map (label_at lines) (point ∷ []) → summaries ≡ (trial_profile runs lines point).summaries
      → ◌≡◌ {A = Profile} (record { budget = 100000000; points = labels; summaries = summaries }) (trial_profile runs lines point)
  unfolding trial_profile
  profile_is labels summaries named ran = same_profile lines (delayed_records runs) 100000000 (point ∷ []) (trial_plan lines) labels summaries named ran

  pub as_many : length (trial_profile runs lines point).summaries ≡ length (trial_plan lines)
  unfolding trial_profile
  as_many = length-map (trial_plan lines) (λ (pair : Pair). summary_on lines (point ∷ []) pair (delayed_record (experiment_of_pair runs 100000000 (point ∷ []) pair)))

-- ---- the verdict

pub file_verdict_is : (seed size : ℕ) (file : List ℕ) → IsTrialFile (generated seed size) file → file_verdict (trial_judging (generated seed size)) file [] ≡ trial_verdict seed size
unfolding trial_verdict
file_verdict_is seed size file is =
    let source = generated seed size in
    ap (λ (f : List ℕ). file_verdict (trial_judging source) f []) is.written
    ∙ sym (ap (λ (r : Result Program AsmFault). assembled_verdict r (λ program. file_verdict (trial_judging source) (trial_file program) [])) is.stands)

pub judged_as : (source : Source) (lines : List Line) (runs : Runs) (point : ℕ) → trial_point source.point lines ≡ Ok point → trial_printed source lines (trial_profile runs lines point) ≡ trial_judging source lines runs
unfolding trial_judging
judged_as source lines runs point is = sym (ap (λ (r : Result ℕ Text). named_verdict r (λ point. trial_printed source lines (trial_profile runs lines point))) is)

-- the verdict by an index is that of the file
pub file_judged : (source : Source) (file : List ℕ) (image : ImageParts) (table : Table) (index : Index)
    → IsIndex table image.areas index → ((next : ImageParts → Table → Verdict) → next image table ≡ program_verdict file next)
    → trial_judging source index.lines (runs_in image index []) ≡ file_verdict (trial_judging source) file []
file_judged source file image table index is_index read =
    indexed image table [] index is_index (trial_judging source)
    ∙ read (λ (i : ImageParts) (t : Table). trial_judging source (lines_in t i.areas) (experiment_by_table i t []))
