-- The meaning of a program by function. In the file that `coz-functions` writes a function is one
-- line. To select this line is to select the function's addresses in the program: both runs leave
-- the same. So it is with the kept lines, and with the line of a region.
use Rattle.std.specs.Prelude.{◌≡◌, ℕ, ◌&&◌, Bool, List, slice_get, Option, Some, Ok}
use Rattle.coz_types.specs.Image.{ImageParts}
use Rattle.coz_types.specs.Labels.{Text}
use Rattle.coz_files.specs.Held.{Held}
use Rattle.coz_files.specs.Verdict.{Verdict}
use Rattle.elf_load.specs.Loaded.{load_answer}
use Rattle.dwarf_lines.specs.Registers.{Table}
use Rattle.line_index.specs.Index.{Index, IsIndex, position_at}
use Rattle.line_index.specs.Lines.{Line, is_executable}
use Rattle.line_index.specs.Listed.{is_same}
use Rattle.line_remap.specs.Marks.{Mark}
use Rattle.function_lines.specs.ByFunction.{ReadsAs, line_by_function}
use Rattle.functions_cli.specs.Serve.{ProgramHas}
use Rattle.functions_cli.specs.Verdict.{IsVerdict}
use Rattle.machines.specs.Guest.{Experiment}
use Rattle.machines.specs.Records.{shortened_record}
use Rattle.machines.specs.Standing.{delayed_record}
use Rattle.guest_calls.specs.Guest.{Guest, first_guest}
use Rattle.guest_calls.specs.Plug.{plug}
use Rattle.run_engine.specs.declared.choice.Choice.{Choice}
use Rattle.run_engine.specs.Run.{IsChoice, experiment, selected_line}

-- the run of a program that selects these addresses
abbrev pub run_of : ImageParts → (ℕ → Bool) → (ℕ → Option ℕ) → List ℕ → Choice → Experiment Guest
run_of image selected point input choice = record {
  guest = plug selected point;
  first = first_guest image input choice.output_limit choice.layout;
  speedup = choice.speedup;
  budget = choice.budget;
  visit_limit = choice.visit_limit;
  output_limit = choice.output_limit;
}

-- it is an executable address, and the line is its line by function
abbrev pub has_by_function : ImageParts → Index → List Mark → Line → ℕ → Bool
has_by_function image index marks line a =
    is_executable image.areas a && is_same line (line_by_function image index marks a)

-- both machines leave the same of both runs
pub record LeaveTheSame (x y : Experiment Guest) : Type 0 where
  pub delayed : delayed_record y ≡ delayed_record x
  pub shortened : shortened_record y ≡ shortened_record x

-- The file is a program, and whichever of its lines is selected: its run leaves what the run of
-- the first program leaves that selects the addresses with this line by function, for each
-- input, speedup and budget and for the same addresses of progress points.
pub record RunsByFunction (image : ImageParts) (index : Index) (marks : List Mark)
    (written : List ℕ) : Type 0 where
  pub parts : ImageParts
  pub loads : load_answer written ≡ Ok parts
  pub runs : (table : Table) (own : Index) (line : Line) (k : ℕ)
      → ReadsAs written table → IsIndex table parts.areas own → slice_get own.lines k ≡ Some line
      → (point : ℕ → Option ℕ) (input : List ℕ) (choice : Choice)
      → IsChoice choice → selected_line choice ≡ Some k
      → LeaveTheSame (run_of image (has_by_function image index marks line) point input choice)
      (experiment parts (position_at own) point input choice)

-- for all words and files: what is written, with status 0, runs by function
abbrev pub FunctionsRunAlike : Type 0
FunctionsRunAlike =
    (words : List Text) (held : Held) (v : Verdict) → IsVerdict words held v → v.status ≡ 0
    → ProgramHas words held (λ image index marks. RunsByFunction image index marks v.text)
