-- Texts, computed on the definitions.
use Rattle.std.proofs.Common.{◌≡◌, ℕ, [], ◌∷◌, codes, Some, true, false, refl}
use Rattle.std.specs.Fmt.{digits}
use Rattle.coz_types.specs.declared.ending.Ending.TheVariants.{Exited}
use Rattle.coz_types.specs.declared.image.Area.{Area}
use Rattle.dwarf_lines.specs.declared.Row.{Row}
use Rattle.dwarf_lines.specs.Registers.{Table}
use Rattle.line_index.specs.Lines.{line_of}
use Rattle.line_index.specs.Listed.{lines_in, entries_in}
use Rattle.command_texts.specs.Text.{outcome_text, net_outcome_text, hart_text, harts_text, visit_text, visits_text, net_visit_text, net_visits_text, output_text, run_text, really_text, addresses_text, labelled_text, lines_text}
use Rattle.command_texts.specs.LatencyText.{latency_line, run_line}

run_of_one : run_text (record {
  ending = Exited 0;
  time = 30;
  delay = 10;
  retired = 3;
  starts = 1;
  output = codes "hi";
  visits = record { point = 0; hart = 0; time = 20; delay = 10 } ∷ [];
  accounts = record { own = 10; paused = 0; credited = 0 } ∷ [];
})
    ≡ codes "end exited:0\ntime 30\ndelay 10\nnet 20\nretired 3\nstarts 1\nhart 0 own 10 paused 0 credited 0\nvisit 0 hart 0 time 20 delay 10 net 10\noutput 2\nhi\n"
unfolding run_text outcome_text harts_text hart_text visits_text visit_text output_text digits
run_of_one = refl

really_of_one : really_text (record {
  ending = Exited 0;
  time = 20;
  retired = 3;
  starts = 1;
  output = codes "hi";
  visits = record { point = 0; hart = 0; time = 10 } ∷ [];
}) ≡ codes "end exited:0\nnet 20\nretired 3\nstarts 1\nvisit 0 hart 0 net 10\noutput 2\nhi\n"
unfolding really_text net_outcome_text net_visits_text net_visit_text output_text digits
really_of_one = refl

abbrev area : Area
area = record { start = 0x10000; size = 4096; rights = record { read = true; write = false; execute = true }; vaddr = 0x10000; offset = 0; filled = 100 }

abbrev row : ℕ → ℕ → Row
row address number = record { sequence = 0; address = address; file = Some 0; line = number; column = 0; is_stmt = true; ends = false }

-- line 7 begins twice, and line 8 between
abbrev table : Table
table = record {
  files = record { directory = []; name = codes "a b" } ∷ [];
  rows = row 0x10000 7 ∷ row 0x10004 8 ∷ row 0x10008 7 ∷ record (row 0x1000C 1) { ends = true } ∷ [];
  skipped = 2;
}

lines_of_table : lines_text table (area ∷ []) ≡ codes "skipped 2\na%20b:7\t0x10000,0x10008\na%20b:8\t0x10004\n"
unfolding lines_text labelled_text addresses_text lines_in entries_in line_of digits
lines_of_table = refl

-- `latency two --line two.s:6 --speedups 50 --arrive two.s:5 --depart two.s:7`, at 50: of two harts' visits
two_at_50 : run_line (0 ∷ []) (1 ∷ []) 50 (record {
  ending = Exited 0;
  time = 8650;
  retired = 13;
  starts = 2;
  output = [];
  visits =
      record { point = 0; hart = 0; time = 4500 } ∷ record { point = 0; hart = 1; time = 4500 }
      ∷ record { point = 1; hart = 0; time = 4650 } ∷ record { point = 1; hart = 1; time = 4650 } ∷ [];
}) ≡ codes "latency speedup 50 end exited:0 net 8650 arrivals 2 departures 2 stray 0 open 0 area 300 mean 150\n"
unfolding latency_line digits
two_at_50 = refl
