-- The join of what is printed of lists of lines is what is printed of all of them.
use Rattle.std.proofs.Common.{◌≡◌, ◌↔◌, ℕ, ◌≤◌, ◌^◌, List, [], ◌∷◌, map, flat_map, length, All, Contains, Option, Some, None, Result, Ok, refl, sym, ap, ap₂, subst, ◌∙◌}
use Rattle.std.specs.List.{AllByRecursion}
use Rattle.std.proofs.lemmas.List.Elements.{recursion_from_All, All-from_recursion}
use Rattle.std.proofs.lemmas.List.Folds.{flat_map-map}
use Rattle.coz_types.specs.Image.{ImageParts}
use Rattle.coz_types.specs.Labels.{Text}
use Rattle.coz_types.specs.declared.record.Summary.{Summary}
use Rattle.coz_files.specs.Held.{Held, file_at}
use Rattle.coz_files.specs.Verdict.{Verdict}
use Rattle.elf_load.specs.Loaded.{load_answer}
use Rattle.elf_load.specs.declared.ElfFault.{ElfFault}
use Rattle.dwarf_lines.specs.Registers.{Table}
use Rattle.dwarf_lines.specs.declared.LineFault.{LineFault}
use Rattle.line_index.specs.Lines.{Line, label_at}
use Rattle.line_index.specs.Listed.{lines_in, position_in}
use Rattle.experiment_plan.specs.Selected.{rising_numbers}
use Rattle.experiment_plan.specs.declared.experiment.Experiment.{Experiment as Pair}
use Rattle.profile_book.specs.Profile.{profile_text}
use Rattle.profile_book.specs.declared.profile.Profile.{Profile as Book}
use Rattle.profile_shards.specs.Shards.{AreLines, AreTogether, profile_at}
use Rattle.progress_points.specs.Points.{point_in}
use Rattle.coz_words.specs.Request.{IsFit, greatest_budget, is_runner}
use Rattle.coz_words.specs.declared.request.Request.{Request}
use Rattle.coz_words.specs.declared.command.Command.{Command}
use Rattle.coz_words.specs.declared.command.Command.TheVariants.{Profile}
use Rattle.coz_words.specs.Slow.{request_of}
use Rattle.program_load.specs.LineTable.{table_in}
use Rattle.program_load.specs.Selection.{all_lines, lines_named}
use Rattle.run_inputs.specs.Experiment.{Runs, entries_of, experiment_by_table}
use Rattle.coz_commands.specs.Profiled.{pairs_of, profile_of}
use Rattle.coz_commands.specs.Verdict.{files_verdict, profile_verdict, profiled_verdict}
use Rattle.join_parts.specs.Verdict.{IsVerdict}
use Rattle.join_parts.specs.Verdict as parts
use Rattle.join_parts.specs.Shards.{HoldProfiles}
use Rattle.join_parts.proofs.Sharded.{shards_verdict}
use Rattle.join_cli.proofs.Blocks.{are_blocks, block_at, profile_is, some_speedups, speedups_rise}
use Rattle.join_cli.proofs.Profiles.{IsSound, profiles_right}
use Rattle.coz_cli.specs.Verdict.{verdict}
use Rattle.coz_cli.specs.Headline.{IsInput, IsPlanned}
use Rattle.coz_cli.proofs.Printed.{IsProfiled, profile_comes}
use Rattle.profile_laws.specs.Headline.{HoldsBytes}
use Rattle.profile_laws.specs.Shards.{HoldPrinted, IsProgram, IsShard, JoinsTo, PrintsJoin, Shard}
use Rattle.profile_laws.proofs.Asked.{chosen_lines, each_line, sound}
use Rattle.profile_laws.proofs.Plotted.{command_is, fit_of}

-- ---- the same inputs

same_value : {A F : Type 0} (r : Result A F) (x y : A) → r ≡ Ok x → r ≡ Ok y → x ≡ y
same_value r x y one two = cc

same_some : {A : Type 0} (o : Option A) (x y : A) → o ≡ Some x → o ≡ Some y → x ≡ y
same_some o x y one two = cc

same_input : (held : Held) (named : Option (List ℕ)) (x y : List ℕ) → IsInput held named x → IsInput held named y → x ≡ y
same_input held None x y one two = one ∙ sym two
same_input held (Some path) x y one two = same_some (file_at held path) x y one two

-- what a profile is made of, apart from its lines
record IsRead (held : Held) (asked : Request) (image : ImageParts) (table : Table) (input points : List ℕ) : Type 0 where
  program : IsProgram held asked image table
  given : IsInput held asked.input input
  points_are : lines_named (lines_in table image.areas) [] asked.progress ≡ Ok points

-- a plan is the one of these lines
module _ (held : Held) (asked : Request) (image : ImageParts) (table : Table) (input points : List ℕ) (read : IsRead held asked image table input points)
    (list : Option Text) (workers : ℕ) (chosen : List ℕ) (selected : lines_named (lines_in table image.areas) (all_lines (lines_in table image.areas)) list ≡ Ok chosen) where
  abbrev request : Request
  request = record asked { lines = list; workers = workers }

  abbrev book : Book
  book = profile_of (experiment_by_table image table input) (lines_in table image.areas) asked.budget points (pairs_of chosen asked.speedups)

  record IsSame (runs : Runs) (lines : List Line) (spots : List ℕ) (pairs : List Pair) : Type 0 where
    runs_same : runs ≡ experiment_by_table image table input
    lines_same : lines ≡ lines_in table image.areas
    spots_same : spots ≡ points
    pairs_same : pairs ≡ pairs_of chosen asked.speedups

  planned_same : (runs : Runs) (lines : List Line) (spots : List ℕ) (pairs : List Pair) → IsPlanned held request runs lines spots pairs → IsSame runs lines spots pairs
  planned_same runs lines spots pairs plan =
      let file = same_some (file_at held asked.target) plan.file read.program.file plan.found read.program.found in
      let parts : plan.image ≡ image = same_value {F = ElfFault} (load_answer read.program.file) plan.image image (subst (λ (f : List ℕ). load_answer f ≡ Ok plan.image) file plan.program) read.program.program in
      let tables : plan.table ≡ table = same_value {F = LineFault} (table_in read.program.file) plan.table table (subst (λ (f : List ℕ). table_in f ≡ Ok plan.table) file plan.table_is) read.program.table_is in
      let inputs : plan.input ≡ input = same_input held asked.input plan.input input plan.given read.given in
      let same_lines : lines ≡ lines_in table image.areas = plan.lines_are ∙ ap₂ (λ (t : Table) (i : ImageParts). lines_in t i.areas) tables parts in
      let same_chosen : plan.selected ≡ chosen = same_value {F = Text} (lines_named (lines_in table image.areas) (all_lines (lines_in table image.areas)) list) plan.selected chosen (subst (λ (ls : List Line). lines_named ls (all_lines ls) list ≡ Ok plan.selected) same_lines plan.selected_are) selected in
      record {
        runs_same = plan.runs_are ∙ ap₂ (λ (i : ImageParts) (t : Table). experiment_by_table i t plan.input) parts tables ∙ ap (experiment_by_table image table) inputs;
        lines_same = same_lines;
        spots_same = same_value {F = Text} (lines_named (lines_in table image.areas) [] asked.progress) spots points (subst (λ (ls : List Line). lines_named ls [] asked.progress ≡ Ok spots) same_lines plan.points_are) read.points_are;
        pairs_same = plan.planned ∙ ap (λ (ls : List ℕ). pairs_of ls asked.speedups) same_chosen;
      }

  planned_book : (runs : Runs) (lines : List Line) (spots : List ℕ) (pairs : List Pair) → IsPlanned held request runs lines spots pairs → profile_of runs lines asked.budget spots pairs ≡ book
  planned_book runs lines spots pairs plan =
      let same = planned_same runs lines spots pairs plan in
      ap₂ (λ (rs : Runs) (ls : List Line). profile_of rs ls asked.budget spots pairs) same.runs_same same.lines_same
      ∙ ap₂ (λ (ss : List ℕ) (ps : List Pair). profile_of (experiment_by_table image table input) (lines_in table image.areas) asked.budget ss ps) same.spots_same same.pairs_same

  -- so arguments that ask for it have the verdict of its profile
  shard_verdict : (words : List (List ℕ)) → asked.command ≡ Profile → request_of words ≡ Some request → (verdict words held).status ≤ 1 → verdict words held ≡ profile_verdict book
  shard_verdict words profile named low =
      let same = command_is words held request Profile named profile in
      let comes = profile_comes held request (subst (λ (v : Verdict). v.status ≤ 1) same low) in
      same ∙ comes.is ∙ ap profile_verdict (planned_book comes.runs comes.lines comes.points comes.pairs comes.is_planned)

-- ---- the join

same_verdict : (p : Book) → parts.profile_verdict p ≡ profile_verdict p
same_verdict p = refl

module _ (held : Held) (asked : Request) (image : ImageParts) (table : Table) (bytes : HoldsBytes held) (profile : asked.command ≡ Profile) where
  abbrev lines : List Line
  lines = lines_in table image.areas

  module _ (input points : List ℕ) (read : IsRead held asked image table input points) (sounds : IsSound image lines points input asked.budget asked.speedups) where
    abbrev position : ℕ → Option ℕ
    position = position_in table image.areas

    abbrev point : ℕ → Option ℕ
    point = point_in (entries_of image table) points

    abbrev block : ℕ → ℕ → Summary
    block line speedup = block_at image lines position point points input asked.budget line speedup

    abbrev names : List Text
    names = map (label_at lines) points

    abbrev rates : List ℕ
    rates = rising_numbers (0 ∷ asked.speedups)

    abbrev made : List ℕ → Book
    made chosen = profile_at asked.budget names block rates chosen

    made_is : (chosen : List ℕ) → profile_of (experiment_by_table image table input) lines asked.budget points (pairs_of chosen asked.speedups) ≡ made chosen
    unfolding experiment_by_table
    made_is chosen = profile_is image lines position point points input asked.budget asked.speedups chosen

    printed_is : (shard : Shard) → IsShard held asked image table shard → verdict shard.words held ≡ profile_verdict (made shard.lines)
    printed_is shard is =
        shard_verdict held asked image table input points read is.list is.workers shard.lines is.selected shard.words profile is.words_ask is.printed
        ∙ ap profile_verdict (made_is shard.lines)

    chosen_right : (shard : Shard) → IsShard held asked image table shard → AreLines (length lines) shard.lines
    chosen_right shard is = chosen_lines lines (all_lines lines) is.list shard.lines (each_line lines) is.selected

    abbrev lists : List Shard → List (List ℕ)
    lists shards = map (λ (shard : Shard). shard.lines) shards

    lists_right : (shards : List Shard) → AllByRecursion (IsShard held asked image table) shards → AllByRecursion (AreLines (length lines)) (lists shards)
    lists_right [] all = tt
    lists_right (shard ∷ shards) all = (chosen_right shard all.0, lists_right shards all.1)

    texts_are : (shards : List Shard) → AllByRecursion (IsShard held asked image table) shards
        → map (λ (shard : Shard). Some (verdict shard.words held).text) shards ≡ map (λ (p : Book). Some (profile_text p)) (map made (lists shards))
    texts_are [] all = refl
    texts_are (shard ∷ shards) all =
        ap₂ (λ (t : Text) (ts : List (Option Text)). Some t ∷ ts) (ap (λ (v : Verdict). v.text) (printed_is shard all.0)) (texts_are shards all.1)

    texts_short : (shards : List Shard) → AllByRecursion (IsShard held asked image table) shards → AllByRecursion (λ (shard : Shard). length (verdict shard.words held).text ≤ 268435456) shards
        → AllByRecursion (λ (p : Book). length (profile_text p) ≤ 268435456) (map made (lists shards))
    texts_short [] all short = tt
    texts_short (shard ∷ shards) all short =
        (subst (λ (v : Verdict). length v.text ≤ 268435456) (printed_is shard all.0) short.0, texts_short shards all.1 short.1)

    module _ (entire : Shard) (of_whole : IsShard held asked image table entire) (shards : List Shard) (of_shards : All (IsShard held asked image table) shards)
        (same_lines : (line : ℕ) → Contains entire.lines line ↔ Contains (flat_map (λ (shard : Shard). shard.lines) shards) line)
        (words : List Text) (files : Held) (hold : HoldPrinted words files held shards) where
      each : AllByRecursion (IsShard held asked image table) shards
      each = recursion_from_All (IsShard held asked image table) shards of_shards

      all_right : All (AreLines (length lines)) (lists shards)
      all_right = All-from_recursion (AreLines (length lines)) (lists shards) (lists_right shards each)

      together : AreTogether (length lines) (lists shards) entire.lines
      together = record {
        lines = chosen_right entire of_whole;
        each = λ line.
            subst (λ (ls : List ℕ). Contains entire.lines line ↔ Contains ls line)
            (sym (flat_map-map (λ (ls : List ℕ). ls) (λ (shard : Shard). shard.lines) shards)) (same_lines line);
      }

      holds : HoldProfiles words files (map made (lists shards))
      holds = record {
        paths = hold.paths;
        named = hold.named;
        files = hold.found ∙ texts_are shards each;
        right = profiles_right image lines position point points input asked.budget asked.speedups sounds (lists shards) all_right;
        short = All-from_recursion (λ (p : Book). length (profile_text p) ≤ 268435456) (map made (lists shards))
            (texts_short shards each (recursion_from_All (λ (shard : Shard). length (verdict shard.words held).text ≤ 268435456) shards hold.short));
      }

      joins : (v : Verdict) → IsVerdict words files v → JoinsTo (lists shards) (verdict entire.words held) (label_at lines) hold.paths v
      unfolding holds
      joins v is =
          let law = shards_verdict (length lines) (label_at lines) block (are_blocks image lines position point points input asked.budget sounds.rise sounds.right) asked.budget names rates (lists shards) entire.lines
          (some_speedups asked.speedups) (speedups_rise asked.speedups) all_right together words files holds v is in
          record {
            joined = λ disjoint. law.joined disjoint ∙ same_verdict (made entire.lines) ∙ sym (printed_is entire of_whole);
            twice = law.twice;
          }

  -- ---- the arguments that ask for all lines

  module _ (entire : Shard) (program : IsProgram held asked image table) (of_whole : IsShard held asked image table entire) where
    abbrev request_whole : Request
    request_whole = record asked { lines = of_whole.list; workers = of_whole.workers }

    fit : IsFit request_whole
    fit = fit_of entire.words request_whole of_whole.words_ask

    comes : IsProfiled held request_whole (files_verdict request_whole held (profiled_verdict request_whole))
    comes = profile_comes held request_whole (subst (λ (v : Verdict). v.status ≤ 1) (command_is entire.words held request_whole Profile of_whole.words_ask profile) of_whole.printed)

    -- the points that were found, among the lines of this program
    points_there : lines_named lines [] asked.progress ≡ Ok comes.points
    points_there =
        let plan = comes.is_planned in
        let file = same_some (file_at held asked.target) plan.file program.file plan.found program.found in
        let parts : plan.image ≡ image = same_value {F = ElfFault} (load_answer program.file) plan.image image (subst (λ (f : List ℕ). load_answer f ≡ Ok plan.image) file plan.program) program.program in
        let tables : plan.table ≡ table = same_value {F = LineFault} (table_in program.file) plan.table table (subst (λ (f : List ℕ). table_in f ≡ Ok plan.table) file plan.table_is) program.table_is in
        subst (λ (ls : List Line). lines_named ls [] asked.progress ≡ Ok comes.points) (plan.lines_are ∙ ap₂ (λ (t : Table) (i : ImageParts). lines_in t i.areas) tables parts) plan.points_are

    read : IsRead held asked image table comes.is_planned.input comes.points
    read = record { program = program; given = comes.is_planned.given; points_are = points_there }

    planned : IsPlanned held request_whole (experiment_by_table image table comes.is_planned.input) lines comes.points (pairs_of entire.lines asked.speedups)
    planned =
        let same = planned_same held asked image table comes.is_planned.input comes.points read of_whole.list of_whole.workers entire.lines of_whole.selected comes.runs comes.lines comes.points comes.pairs comes.is_planned in
        record {
          file = program.file;
          input = comes.is_planned.input;
          image = image;
          table = table;
          selected = entire.lines;
          found = program.found;
          given = comes.is_planned.given;
          program = program.program;
          table_is = program.table_is;
          runs_are = refl;
          lines_are = refl;
          selected_are = of_whole.selected;
          points_are = points_there;
          few_points = comes.is_planned.few_points;
          planned = refl;
          few_pairs = subst (λ (ps : List Pair). length ps ≤ 100000) same.pairs_same comes.is_planned.few_pairs;
        }

    sounds_there : IsSound image lines comes.points comes.is_planned.input asked.budget asked.speedups
    unfolding planned
    sounds_there =
        let few : asked.budget ≤ 10 ^ 12 = subst (λ (c : Command). asked.budget ≤ greatest_budget c) profile fit.budget in
        sound held request_whole bytes fit (fit.some_budget (ap is_runner profile)) few (experiment_by_table image table comes.is_planned.input) lines comes.points (pairs_of entire.lines asked.speedups) planned

pub prints_join : PrintsJoin
prints_join held asked image table entire shards bytes profile program of_whole of_shards same_lines words files hold v is =
    joins held asked image table bytes profile (comes held asked image table bytes profile entire program of_whole).is_planned.input (comes held asked image table bytes profile entire program of_whole).points
    (read held asked image table bytes profile entire program of_whole) (sounds_there held asked image table bytes profile entire program of_whole) entire of_whole shards of_shards same_lines words files hold v is
