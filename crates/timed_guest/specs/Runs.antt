-- The runs of an image, on a machine of the timing model and on the machine without one.
use Rattle.std.specs.Prelude.{ℕ, Bool, true, false, List, Option, None, map, option_map}
use Rattle.coz_types.specs.Image.{ImageParts}
use Rattle.line_index.specs.Index.{Index}
use Rattle.machines.specs.Guest.{Experiment}
use Rattle.guest_memory.specs.declared.Layout.{Layout}
use Rattle.guest_calls.specs.Guest as guests
use Rattle.guest_calls.specs.Retire as own
use Rattle.guest_calls.specs.Plug as own_plug
use Rattle.timing_laws.specs.Noted.{Note, Noted, Noting}
use Rattle.timing_laws.specs.Cores.{Cores, Slicing}
use Rattle.timing_model.specs.declared.costs.Costs.{Costs}
use Rattle.timing_model.specs.declared.timing.Timing.{Timing}
use Rattle.timing_model.specs.Timing.{cycles_in, charges}
use Rattle.timed_guest.specs.Guest.{Timed, first_guest}
use Rattle.timed_guest.specs.Retire.{gives_up, has_selected}
use Rattle.timed_guest.specs.Plug.{plug}

-- what is run, and what is chosen for the run
pub record Run : Type 0 where
  pub image : ImageParts
  pub input : List ℕ
  pub layout : Layout
  pub selected : Option ℕ
  pub point_at : ℕ → Option ℕ
  pub speedup : ℕ
  pub budget : ℕ
  pub visit_limit : ℕ
  pub output_limit : ℕ

-- the run of the guest itself; `line` gives the line of an address
abbrev pub run_of : (ℕ → Option ℕ) → Run → Experiment guests.Guest
run_of line r = record {
  guest = own_plug.plug (has_selected r.selected line) r.point_at;
  first = guests.first_guest r.image r.input r.output_limit r.layout;
  speedup = r.speedup;
  budget = r.budget;
  visit_limit = r.visit_limit;
  output_limit = r.output_limit;
}

-- the run on a machine of the timing model
abbrev pub run_on : Timing → Index → Run → Experiment Timed
run_on t index r = record {
  guest = plug r.selected r.point_at;
  first = first_guest r.image r.input r.output_limit r.layout t index;
  speedup = r.speedup;
  budget = r.budget;
  visit_limit = r.visit_limit;
  output_limit = r.output_limit;
}

-- a run of the guest with these costs
abbrev pub with_costs : Costs → Experiment guests.Guest → Experiment guests.Guest
with_costs costs x = record x {
  guest = record (x.guest) { cycles = λ g h. cycles_in costs (own.next_of g h) };
}

-- what the notes are for, if this is the line of an address, and that one is selected
abbrev pub noting_of : Timing → (ℕ → Option ℕ) → Option ℕ → Noting guests.Guest
noting_of t line selected = record {
  line = λ g h. line (guests.pc_of g h);
  selected = selected;
  charges = charges t.charge;
  seed = t.seed;
}

abbrev pub slicing_of : Timing → Slicing (Noted guests.Guest)
slicing_of t = record {
  cores = t.cores;
  slice = t.slice;
  gives_up = λ n h. gives_up n.guest h;
}

-- a note without its line
abbrev pub unlined : Note → Note
unlined note = record note { last = None }

-- notes as they are kept: with last lines where code is charged to them
abbrev pub notes_kept : Bool → List (Option Note) → List (Option Note)
notes_kept true notes = notes
notes_kept false notes = map (option_map unlined) notes

-- the guest with notes, on cores, as a state of the guest on this machine
abbrev pub on_timing : Timing → Index → Cores (Noted guests.Guest) → Timed
on_timing t index c = record {
  guest = c.guest.guest;
  beside = record {
    timing = t;
    notes = notes_kept (charges t.charge) c.guest.notes;
    seats = c.seats;
  };
  index = index;
}
