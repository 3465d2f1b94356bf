-- The run of a file by function follows that of the program.
use Rattle.std.proofs.Common.{◌≡◌, ℕ, Bool, true, List, Option, Result, Ok, Err, refl, sym, ap, ◌∙◌, arith}
use Rattle.coz_types.specs.Image.{ImageParts}
use Rattle.cost_table.specs.Costs.{cycles_of}
use Rattle.elf_load.specs.declared.ElfFault.{ElfFault}
use Rattle.elf_load.specs.Loaded.{load_answer}
use Rattle.line_index.specs.Index.{Index, position_at}
use Rattle.line_remap.specs.Marks.{Mark}
use Rattle.function_lines.specs.ByFunction.{IsByFunction}
use Rattle.function_lines.specs.SameProgram.{is_same_program}
use Rattle.functions_cli.proofs.Served.{writes_of}
use Rattle.machines.specs.Guest.{Experiment, IsLawful}
use Rattle.guest_calls.specs.Guest.{Guest, pc_of}
use Rattle.guest_calls.specs.Orderly.{IsOrderly}
use Rattle.guest_calls.proofs.Law.{lawful}
use Rattle.run_engine.specs.declared.choice.Choice.{Choice}
use Rattle.run_engine.specs.Run.{IsChoice, experiment, has_selected, selected_line}
use Rattle.timing_laws.specs.Following.{Follows, IsAlike}
use Rattle.timing_laws.proofs.Follows.{record_follows}
use Rattle.timing_laws.proofs.FollowsShort.{net_record_follows}
use Rattle.function_runs.specs.Runs.{FunctionsRunAlike, LeaveTheSame, RunsByFunction, has_by_function, run_of}
use Rattle.function_runs.proofs.Calls.{moved_guest, retires, same_next}
use Rattle.function_runs.proofs.First.{IsSameImage, first_moved, in_place, in_place_pages, same_image}
use Rattle.function_runs.proofs.Selected.{selected_is}

module _ (image parts : ImageParts) (same : IsSameImage image parts) (selected : ℕ → Bool) (position point : ℕ → Option ℕ) (input : List ℕ) (choice : Choice)
    (selects : (a : ℕ) → has_selected (selected_line choice) position a ≡ selected a) where
  abbrev x : Experiment Guest
  x = run_of image selected point input choice

  abbrev y : Experiment Guest
  y = experiment parts position point input choice

  abbrev f : Guest → Guest
  f = moved_guest parts (in_place parts.areas) (in_place_pages parts.areas)

  law : IsChoice choice → IsLawful x IsOrderly
  law valid =
      let low = valid.speedup in
      lawful selected point image input choice.output_limit choice.layout choice.speedup choice.budget choice.visit_limit (omega arith)

  abbrev Any : Guest → Type 0
  Any g = Unit {0}

  is_alike : (g : Guest) → IsAlike x y f g
  is_alike g = record {
    cycles = λ h. ap cycles_of (same_next parts (in_place parts.areas) (in_place_pages parts.areas) g h);
    is_selected = λ h. selects (pc_of g h);
    is_sleeping = λ h. refl;
    point = λ h. refl;
  }

  follows : Follows x y f IsOrderly Any
  follows = record {
    first = sym (first_moved image parts same input choice.output_limit choice.layout);
    speedup = refl;
    budget = refl;
    visit_limit = refl;
    output_limit = refl;
    output = λ g. refl;
    alike = λ g good kept. is_alike g;
    retires = λ g h v good kept runs. retires parts (in_place parts.areas) (in_place_pages parts.areas) g h v;
    wakes = λ g h good kept sleeps. refl;
    first_kept = tt;
    stays_kept = λ g h v good kept runs goes. tt;
    wakes_kept = λ g h good kept sleeps. tt;
  }

  leave : IsChoice choice → LeaveTheSame x y
  leave valid = record {
    delayed = record_follows x y f IsOrderly Any follows (law valid);
    shortened = net_record_follows x y f IsOrderly Any follows (law valid);
  }

module _ (image : ImageParts) (index : Index) (marks : List Mark) (written : List ℕ) (lines : IsByFunction image index marks written) where
  runs_in : (parts : ImageParts) → load_answer written ≡ Ok parts → IsSameImage image parts → RunsByFunction image index marks written
  runs_in parts loads same = record {
    parts = parts;
    loads = loads;
    runs = λ table own line k reads is at point input choice valid chosen.
        leave image parts same (has_by_function image index marks line) (position_at own) point input choice
        (λ a. ap (λ (o : Option ℕ). has_selected o (position_at own) a) chosen ∙ selected_is image parts same index marks written lines table own line k reads is at a) valid;
  }

  runs_by : (r : Result ImageParts ElfFault) → load_answer written ≡ r → is_same_program image r ≡ true → RunsByFunction image index marks written
  runs_by (Ok parts) loads same = runs_in parts loads (same_image image parts same)
  runs_by (Err fault) loads same = absurd cc

pub run_alike : FunctionsRunAlike
run_alike words held v is zero =
    let w = writes_of words held v is zero in
    let file = w.4 in
    (w.0, w.1, w.2, w.3, runs_by w.0 w.1 w.2 v.text file.lines (load_answer v.text) refl file.same_program)
