-- What a verdict of 0 or 1 is of: a program and an input that are there, and lines that are named; and what is so of each run of them.
use Rattle.std.proofs.Common.{◌≡◌, ℕ, ◌≤◌, List, [], length, codes, ◌++◌, Option, Some, None, Result, Ok, Err, true, false, Bool, cond, nat_lt, refl, sym, subst, ◌∙◌, arith}
use Rattle.std.proofs.lemmas.Bool.{ltb-false}
use Rattle.coz_types.specs.Image.{ImageParts}
use Rattle.coz_files.specs.Held.{Held, file_at}
use Rattle.coz_files.specs.Verdict.{step_verdict}
use Rattle.elf_load.specs.declared.ElfFault.{ElfFault}
use Rattle.elf_load.specs.Loaded.{load_answer}
use Rattle.dwarf_lines.specs.declared.LineFault.{LineFault}
use Rattle.dwarf_lines.specs.Registers.{Table}
use Rattle.line_index.specs.Listed.{lines_in, position_in}
use Rattle.experiment_plan.specs.declared.experiment.Experiment.{Experiment as Pair}
use Rattle.machines.specs.Guest.{Experiment, IsLawful}
use Rattle.machines.specs.Records.{net, IsDelayed, IsShortened, shortened_record}
use Rattle.machines.specs.Standing.{delayed_record}
use Rattle.machines.proofs.Ends.{record_is}
use Rattle.machines.proofs.Standing.{delayed_is, net_is}
use Rattle.guest_memory.specs.Regions.{usual}
use Rattle.guest_calls.specs.Guest.{Guest}
use Rattle.guest_calls.specs.Orderly.{IsOrderly}
use Rattle.guest_calls.proofs.Law.{lawful}
use Rattle.run_engine.specs.Run.{selected_line, has_selected}
use Rattle.coz_words.specs.Request.{IsFit}
use Rattle.coz_words.specs.Said.{Text}
use Rattle.coz_words.specs.declared.request.Request.{Request}
use Rattle.program_load.specs.LineTable.{table_in}
use Rattle.progress_points.specs.Points.{point_in}
use Rattle.run_inputs.specs.Experiment.{choice_of, entries_of, experiment_by_table}
use Rattle.program_load.specs.FaultLines.{plan_line, points_line}
use Rattle.coz_commands.specs.Verdict.{Verdict, Judging, refusal, bytes_verdict, program_verdict, read_verdict, files_verdict, named_verdict, points_verdict, plan_verdict, loaded_verdict, table_verdict}
use Rattle.run_inputs.specs.Verdict.{input_verdict}
use Rattle.coz_cli.specs.Headline.{IsAsked, IsInput}

-- ---- the experiments of a request

-- what is so of each experiment with a budget and a speedup below 100
pub record IsLike (x : Experiment Guest) : Type 0 where
  pub delayed : IsDelayed x (delayed_record x)
  pub same : net (delayed_record x) ≡ shortened_record x
  pub shortened : IsShortened x (shortened_record x)

module _ (image : ImageParts) (table : Table) (input : List ℕ) (selected : Option ℕ) (speedup budget : ℕ) (points : List ℕ) where
  abbrev pub of_choice : Experiment Guest
  of_choice = experiment_by_table image table input (choice_of selected speedup budget) points

  pub law : speedup ≤ 95 → IsLawful of_choice IsOrderly
  unfolding experiment_by_table
  law small =
      let few : speedup ≤ 100 = omega (arith, small) in
      lawful (has_selected (selected_line (choice_of selected speedup budget)) (position_in table image.areas)) (point_in (entries_of image table) points) image input 4194304 usual speedup budget 1048576 few

  pub budget_is : of_choice.budget ≡ budget
  unfolding experiment_by_table
  budget_is = refl

  pub like : speedup ≤ 95 → 1 ≤ budget → IsLike of_choice
  like small some =
      let lawful : IsLawful of_choice IsOrderly = law small in
      let budget : 1 ≤ of_choice.budget = subst (λ (n : ℕ). 1 ≤ n) (sym budget_is) some in
      record { delayed = delayed_is of_choice IsOrderly lawful budget; same = net_is of_choice IsOrderly lawful budget; shortened = record_is of_choice IsOrderly lawful budget }

pub like_asked : (held : Held) (asked : Request) (x : Experiment Guest) → IsFit asked → 1 ≤ asked.budget → IsAsked held asked x → IsLike x
like_asked held asked x fit some is =
    subst IsLike (sym is.experiment) (like is.image is.table is.input is.selected asked.speedup asked.budget is.points fit.speedup some)

-- ---- what a low verdict is of

pub low_of : (v w : Verdict) → v ≡ w → v.status ≤ 1 → w.status ≤ 1
low_of v w same low = subst (λ (x : Verdict). x.status ≤ 1) same low

-- the program and the input that a request names are there
pub record Found (held : Held) (asked : Request) : Type 0 where
  pub file : List ℕ
  pub input : List ℕ
  pub image : ImageParts
  pub table : Table
  pub found : file_at held asked.target ≡ Some file
  pub given : IsInput held asked.input input
  pub program : load_answer file ≡ Ok image
  pub lines : table_in file ≡ Ok table

-- what follows, by the input, the image and the table
abbrev pub OnTable : Type 0
OnTable = List ℕ → ImageParts → Table → Verdict

abbrev pub judged_on : Judging → OnTable
judged_on next input image table = next (lines_in table image.areas) (experiment_by_table image table input)

-- a verdict is what follows of them
pub record Comes (held : Held) (asked : Request) (on_table : OnTable) (v : Verdict) : Type 0 where
  pub on : Found held asked
  pub is : v ≡ on_table on.input on.image on.table

module _ (held : Held) (asked : Request) (on_table : OnTable) (v : Verdict) (low : v.status ≤ 1) where
  table_comes : (file input : List ℕ) (image : ImageParts) → file_at held asked.target ≡ Some file → IsInput held asked.input input → load_answer file ≡ Ok image
      → (t : Result Table LineFault) → table_in file ≡ t → v ≡ table_verdict t (on_table input image) → Comes held asked on_table v
  table_comes file input image found given program (Err fault) lines is = let no = low_of _ _ is low in absurd (omega arith)
  table_comes file input image found given program (Ok table) lines is = record {
    on = record {
      file = file;
      input = input;
      image = image;
      table = table;
      found = found;
      given = given;
      program = program;
      lines = lines;
    };
    is = is;
  }

  loaded_comes : (file input : List ℕ) → file_at held asked.target ≡ Some file → IsInput held asked.input input → (l : Result ImageParts ElfFault) → load_answer file ≡ l
      → v ≡ loaded_verdict l (λ image. table_verdict (table_in file) (on_table input image)) → Comes held asked on_table v
  loaded_comes file input found given (Err fault) program is = let no = low_of _ _ is low in absurd (omega arith)
  loaded_comes file input found given (Ok image) program is = table_comes file input image found given program (table_in file) refl is

-- of a file that is there and short enough, the verdict is what follows
short_enough : (most : ℕ) (path file : List ℕ) (next : List ℕ → Verdict) (long : Bool) → (step_verdict (λ refused. refused) (cond long (Err (refusal 8 (codes "long: " ++ path))) (Ok file)) next).status ≤ 1
    → step_verdict (λ refused. refused) (cond long (Err (refusal 8 (codes "long: " ++ path))) (Ok file)) next ≡ next file
short_enough most path file next true low = absurd (omega arith)
short_enough most path file next false low = refl

record IsFound (most : ℕ) (path : List ℕ) (found : Option (List ℕ)) (next : List ℕ → Verdict) : Type 0 where
  file : List ℕ
  is : found ≡ Some file
  same : read_verdict most path found next ≡ next file

read_is : (most : ℕ) (path : List ℕ) (found : Option (List ℕ)) (next : List ℕ → Verdict) → (read_verdict most path found next).status ≤ 1 → IsFound most path found next
read_is most path None next low = absurd (omega arith)
read_is most path (Some file) next low = record { file = file; is = refl; same = short_enough most path file next (nat_lt most (length file)) low }

-- the input that is named
record IsGiven (held : Held) (named : Option (List ℕ)) (next : List ℕ → Verdict) : Type 0 where
  input : List ℕ
  given : IsInput held named input
  same : input_verdict named held next ≡ next input

given_is : (held : Held) (named : Option (List ℕ)) (next : List ℕ → Verdict) → (input_verdict named held next).status ≤ 1 → IsGiven held named next
given_is held None next low = record { input = []; given = refl; same = refl }
given_is held (Some path) next low =
    let read = read_is 16777216 path (file_at held path) next low in
    record { input = read.file; given = read.is; same = read.same }

-- of the bytes of a file and of an input
abbrev pub on_bytes : OnTable → List ℕ → List ℕ → Verdict
on_bytes on_table file input = program_verdict file (on_table input)

pub bytes_come : (held : Held) (asked : Request) (on_table : OnTable) → (bytes_verdict asked held (on_bytes on_table)).status ≤ 1 → Comes held asked on_table (bytes_verdict asked held (on_bytes on_table))
bytes_come held asked on_table low =
    let v : Verdict = bytes_verdict asked held (on_bytes on_table) in
    let read = read_is 33554432 asked.target (file_at held asked.target) (λ file. input_verdict asked.input held (on_bytes on_table file)) low in
    let given = given_is held asked.input (on_bytes on_table read.file) (low_of _ _ read.same low) in
    loaded_comes held asked on_table v low read.file given.input read.is given.given (load_answer read.file) refl (read.same ∙ given.same)

pub files_come : (held : Held) (asked : Request) (next : Judging) → (files_verdict asked held next).status ≤ 1 → Comes held asked (judged_on next) (files_verdict asked held next)
files_come held asked next low = bytes_come held asked (judged_on next) low

-- ---- what is named

-- lines that are named are there, and a verdict is what follows
pub record IsNamed {A : Type 0} (r : Result A Text) (next : A → Verdict) (v : Verdict) : Type 0 where
  pub value : A
  pub is : r ≡ Ok value
  pub same : v ≡ next value

pub named_is : {A : Type 0} (r : Result A Text) (next : A → Verdict) (v : Verdict) → v.status ≤ 1 → v ≡ named_verdict r next → IsNamed r next v
named_is (Err piece) next v low is = let no = low_of _ _ is low in absurd (omega arith)
named_is (Ok value) next v low is = record { value = value; is = refl; same = is }

few_enough : (most count : ℕ) (refusal next v : Verdict) → 2 ≤ refusal.status → v.status ≤ 1 → (many : Bool) → nat_lt most count ≡ many → v ≡ cond many refusal next
    → (count ≤ most) × (v ≡ next)
few_enough most count refusal next v high low true large is = let no = low_of _ _ is low in absurd (omega (arith, high, no))
few_enough most count refusal next v high low false large is = (ltb-false most count large, is)

pub few_points : (points : List ℕ) (next : List ℕ → Verdict) (v : Verdict) → v.status ≤ 1 → v ≡ points_verdict points next → (length points ≤ 64) × (v ≡ next points)
few_points points next v low is = few_enough 64 (length points) (refusal 7 (points_line (length points))) (next points) v (omega arith) low (nat_lt 64 (length points)) refl is

pub few_pairs : (pairs : List Pair) (next : List Pair → Verdict) (v : Verdict) → v.status ≤ 1 → v ≡ plan_verdict pairs next → (length pairs ≤ 100000) × (v ≡ next pairs)
few_pairs pairs next v low is = few_enough 100000 (length pairs) (refusal 9 (plan_line (length pairs))) (next pairs) v (omega arith) low (nat_lt 100000 (length pairs)) refl is
