-- Word lists and their requests, computed.
use Rattle.std.proofs.Common.{◌≡◌, ℕ, List, [], ◌∷◌, codes, map, Some, None, refl}
use Rattle.coz_words.specs.Said.{Text}
use Rattle.coz_words.specs.declared.command.Command.TheVariants.{Run, Really, Profile, Lines, Plot, Asm, Trial, Latency, Path}
use Rattle.coz_words.specs.Request.{request_of_items, speedups_in}
use Rattle.coz_words.specs.declared.request.Request.{Request}
use Rattle.experiment_plan.specs.Lists.{is_line, line_parts, pieces}
use Rattle.coz_words.specs.Slow.{request_in, items_in}

abbrev run_one : Request
run_one = record { command = Run; target = codes "one"; input = None; line = None; speedup = 0; lines = None; progress = None; speedups = []; budget = 100000000; workers = 0; seed = 0; size = 0; dwarf = 0; arrive = None; depart = None }

-- ---- word lists and their requests

abbrev asm_five : Request
asm_five = record { command = Asm; target = codes "one.s"; input = None; line = None; speedup = 0; lines = None; progress = None; speedups = []; budget = 0; workers = 0; seed = 0; size = 0; dwarf = 5; arrive = None; depart = None }

abbrev trial_of : ℕ → ℕ → ℕ → List ℕ → Request
trial_of seed size workers target = record { command = Trial; target = target; input = None; line = None; speedup = 0; lines = None; progress = None; speedups = []; budget = 0; workers = workers; seed = seed; size = size; dwarf = 0; arrive = None; depart = None }

abbrev path_one : Request
path_one = record run_one { command = Path; budget = 1000000 }

abbrev found : List (List Text × Request)
found =
    (codes "run" ∷ codes "one" ∷ [], run_one)
    ∷ (codes "run" ∷ codes "--" ∷ codes "one" ∷ [], run_one)
    ∷ (codes "run" ∷ codes "one" ∷ codes "--" ∷ [], run_one)
    ∷ (codes "run" ∷ codes "--budget=3" ∷ codes "one" ∷ [], record run_one { budget = 3 })
    ∷ (codes "run" ∷ codes "--" ∷ codes "--" ∷ [], record run_one { target = codes "--" })
    ∷ (codes "run" ∷ codes "one" ∷ codes "--input=-x" ∷ [], record run_one { input = Some (codes "-x") })
    ∷ (codes "run" ∷ codes "one" ∷ codes "--input=a=b" ∷ [], record run_one { input = Some (codes "a=b") })
    ∷ (codes "run" ∷ codes "-" ∷ codes "--input" ∷ codes "-" ∷ [], record run_one { target = codes "-"; input = Some (codes "-") })
    ∷ (codes "run" ∷ codes "one" ∷ codes "--budget" ∷ codes "00000000000000000003" ∷ [], record run_one { budget = 3 })
    ∷ (codes "asm" ∷ codes "one.s" ∷ codes "--" ∷ [], record { command = Asm; target = codes "one.s"; input = None; line = None; speedup = 0; lines = None; progress = None; speedups = []; budget = 0; workers = 0; seed = 0; size = 0; dwarf = 4; arrive = None; depart = None })
    ∷ (codes "lines" ∷ codes "one" ∷ [], record { command = Lines; target = codes "one"; input = None; line = None; speedup = 0; lines = None; progress = None; speedups = []; budget = 0; workers = 0; seed = 0; size = 0; dwarf = 0; arrive = None; depart = None })
    ∷ (codes "plot" ∷ codes "one" ∷ [], record { command = Plot; target = codes "one"; input = None; line = None; speedup = 0; lines = None; progress = None; speedups = []; budget = 0; workers = 0; seed = 0; size = 0; dwarf = 0; arrive = None; depart = None })
    ∷ (codes "profile" ∷ codes "one" ∷ codes "--speedups" ∷ codes "50,5,50" ∷ [], record { command = Profile; target = codes "one"; input = None; line = None; speedup = 0; lines = None; progress = None; speedups = 50 ∷ 5 ∷ 50 ∷ []; budget = 100000000; workers = 4; seed = 0; size = 0; dwarf = 0; arrive = None; depart = None })
    ∷ (codes "asm" ∷ codes "--dwarf=05" ∷ codes "one.s" ∷ [], asm_five)
    ∷ (codes "trial" ∷ codes "001" ∷ [], trial_of 1 100 4 (codes "001"))
    ∷ (codes "trial" ∷ codes "18446744073709551615" ∷ codes "--size=2000" ∷ codes "--workers" ∷ codes "16" ∷ [], trial_of 18446744073709551615 2000 16 (codes "18446744073709551615"))
    ∷ (codes "run" ∷ codes "one" ∷ codes "--line" ∷ codes "one.s:3" ∷ codes "--speedup" ∷ codes "95" ∷ [], record run_one { line = Some (codes "one.s:3"); speedup = 95 })
    ∷ (codes "run" ∷ codes "one" ∷ codes "--line" ∷ codes "one.s:3" ∷ [], record run_one { line = Some (codes "one.s:3") })
    ∷ (codes "run" ∷ codes "one" ∷ codes "--line=a:b:3" ∷ [], record run_one { line = Some (codes "a:b:3") })
    ∷ (codes "run" ∷ codes "one" ∷ codes "--line" ∷ codes "a:4294967295" ∷ [], record run_one { line = Some (codes "a:4294967295") })
    ∷ (codes "run" ∷ codes "one" ∷ codes "--progress" ∷ codes "a:1,b:2" ∷ [], record run_one { progress = Some (codes "a:1,b:2") })
    ∷ (codes "really" ∷ codes "--progress=b:2" ∷ codes "--line" ∷ codes "a:1" ∷ codes "one" ∷ codes "--speedup=007" ∷ codes "--budget" ∷ codes "9" ∷ codes "--input=data" ∷ [], record { command = Really; target = codes "one"; input = Some (codes "data"); line = Some (codes "a:1"); speedup = 7; lines = None; progress = Some (codes "b:2"); speedups = []; budget = 9; workers = 0; seed = 0; size = 0; dwarf = 0; arrive = None; depart = None })
    ∷ (codes "latency" ∷ codes "two" ∷ codes "--line" ∷ codes "two.s:6" ∷ codes "--speedups" ∷ codes "50" ∷ codes "--arrive" ∷ codes "two.s:5" ∷ codes "--depart" ∷ codes "two.s:7" ∷ [], record { command = Latency; target = codes "two"; input = None; line = Some (codes "two.s:6"); speedup = 0; lines = None; progress = None; speedups = 50 ∷ []; budget = 100000000; workers = 0; seed = 0; size = 0; dwarf = 0; arrive = Some (codes "two.s:5"); depart = Some (codes "two.s:7") })
    ∷ (codes "path" ∷ codes "one" ∷ [], path_one)
    ∷ (codes "path" ∷ codes "--budget=4000000" ∷ codes "one" ∷ codes "--input" ∷ codes "data" ∷ [], record path_one { budget = 4000000; input = Some (codes "data") })
    ∷ []

requests : map (λ row. request_in row.0) found ≡ map (λ row. Some row.1) found
unfolding items_in request_of_items is_line pieces
requests = refl

-- ---- lines

last_colon : line_parts (codes "a:b:3") ≡ (codes "a:b", 3)
unfolding line_parts
last_colon = refl

two_pieces : pieces (codes "a:1,b:2") ≡ codes "a:1" ∷ codes "b:2" ∷ []
unfolding pieces
two_pieces = refl

-- ---- word lists with no request

abbrev none_of : List (List Text)
none_of =
    []
    ∷ (codes "run" ∷ [])
    ∷ (codes "run" ∷ codes "one" ∷ codes "two" ∷ [])
    ∷ (codes "run" ∷ codes "--input" ∷ [])
    ∷ (codes "run" ∷ codes "one" ∷ codes "--budget" ∷ codes "2" ∷ codes "--budget" ∷ codes "2" ∷ [])
    ∷ (codes "run" ∷ codes "one" ∷ codes "--input=" ∷ [])
    ∷ (codes "run" ∷ codes "one" ∷ codes "--input" ∷ [] ∷ [])
    ∷ (codes "run" ∷ [] ∷ [])
    ∷ (codes "run" ∷ codes "one" ∷ codes "--speedup" ∷ codes "5" ∷ [])
    ∷ (codes "run" ∷ codes "one" ∷ codes "--" ∷ codes "--budget" ∷ [])
    ∷ (codes "run" ∷ codes "one" ∷ codes "--" ∷ codes "two" ∷ [])
    ∷ (codes "run" ∷ codes "one" ∷ codes "--" ∷ codes "--" ∷ [])
    ∷ (codes "run" ∷ codes "--" ∷ codes "one" ∷ codes "--" ∷ [])
    ∷ (codes "run" ∷ codes "--" ∷ codes "--" ∷ codes "one" ∷ [])
    ∷ (codes "run" ∷ codes "--" ∷ [])
    ∷ (codes "run" ∷ codes "--budget" ∷ codes "--" ∷ codes "one" ∷ [])
    ∷ (codes "run" ∷ codes "one" ∷ codes "--budget" ∷ codes "000000000000000000003" ∷ [])
    ∷ (codes "run" ∷ codes "one" ∷ codes "--budget" ∷ codes "+3" ∷ [])
    ∷ (codes "run" ∷ codes "one" ∷ codes "--budget" ∷ codes "0" ∷ [])
    ∷ (codes "run" ∷ codes "one" ∷ codes "--budget" ∷ codes "1000000000001" ∷ [])
    ∷ (codes "run" ∷ codes "one" ∷ codes "--workers" ∷ codes "2" ∷ [])
    ∷ (codes "run" ∷ codes "one" ∷ codes "--help" ∷ [])
    ∷ (codes "run" ∷ codes "one" ∷ codes "-h" ∷ [])
    ∷ (codes "sing" ∷ codes "one" ∷ [])
    ∷ (codes "run" ∷ codes "one" ∷ codes "--line" ∷ codes "a:1" ∷ codes "--speedup" ∷ codes "96" ∷ [])
    ∷ (codes "run" ∷ codes "one" ∷ codes "--line" ∷ codes "a:1" ∷ codes "--speedup" ∷ codes "100" ∷ [])
    ∷ (codes "run" ∷ codes "one" ∷ codes "--line" ∷ codes "a:1" ∷ codes "--speedup=-1" ∷ [])
    ∷ (codes "run" ∷ codes "one" ∷ codes "--line" ∷ codes "a:1" ∷ codes "--speedup" ∷ codes "-1" ∷ [])
    ∷ (codes "run" ∷ codes "one" ∷ codes "--speedup" ∷ codes "0" ∷ [])
    ∷ (codes "run" ∷ codes "one" ∷ codes "--line" ∷ codes "a:1" ∷ codes "--line" ∷ codes "a:1" ∷ [])
    ∷ (codes "run" ∷ codes "one" ∷ codes "--line" ∷ codes ":3" ∷ [])
    ∷ (codes "run" ∷ codes "one" ∷ codes "--line" ∷ codes "3" ∷ [])
    ∷ (codes "run" ∷ codes "one" ∷ codes "--line" ∷ codes "a:" ∷ [])
    ∷ (codes "run" ∷ codes "one" ∷ codes "--line" ∷ codes "a,b:3" ∷ [])
    ∷ (codes "run" ∷ codes "one" ∷ codes "--line" ∷ codes "a:0" ∷ [])
    ∷ (codes "run" ∷ codes "one" ∷ codes "--line" ∷ codes "a:4294967296" ∷ [])
    ∷ (codes "run" ∷ codes "one" ∷ codes "--progress" ∷ codes "a:1," ∷ [])
    ∷ (codes "run" ∷ codes "one" ∷ codes "--progress" ∷ codes ",a:1" ∷ [])
    ∷ (codes "run" ∷ codes "one" ∷ codes "--progress" ∷ codes "a:1,,b:2" ∷ [])
    ∷ (codes "really" ∷ [])
    ∷ (codes "lines" ∷ [])
    ∷ (codes "lines" ∷ codes "one" ∷ codes "--budget" ∷ codes "3" ∷ [])
    ∷ (codes "lines" ∷ codes "one" ∷ codes "--line" ∷ codes "a:1" ∷ [])
    ∷ (codes "plot" ∷ codes "one" ∷ codes "--budget" ∷ codes "3" ∷ [])
    ∷ (codes "asm" ∷ [])
    ∷ (codes "asm" ∷ codes "one.s" ∷ codes "--budget" ∷ codes "3" ∷ [])
    ∷ (codes "asm" ∷ codes "one.s" ∷ codes "--input=data" ∷ [])
    ∷ (codes "asm" ∷ codes "one.s" ∷ codes "--dwarf" ∷ codes "3" ∷ [])
    ∷ (codes "profile" ∷ codes "one" ∷ codes "--workers" ∷ codes "17" ∷ [])
    ∷ (codes "trial" ∷ [])
    ∷ (codes "trial" ∷ codes "x" ∷ [])
    ∷ (codes "trial" ∷ codes "-1" ∷ [])
    ∷ (codes "trial" ∷ codes "18446744073709551616" ∷ [])
    ∷ (codes "trial" ∷ codes "1" ∷ codes "--size" ∷ codes "2001" ∷ [])
    ∷ (codes "trial" ∷ codes "1" ∷ codes "--input" ∷ codes "a" ∷ [])
    ∷ (codes "latency" ∷ codes "two" ∷ codes "--arrive=a:1" ∷ codes "--depart=a:2" ∷ [])
    ∷ (codes "path" ∷ [])
    ∷ (codes "path" ∷ codes "one" ∷ codes "two" ∷ [])
    ∷ (codes "path" ∷ codes "one" ∷ codes "--budget=0" ∷ [])
    ∷ (codes "path" ∷ codes "one" ∷ codes "--budget=4000001" ∷ [])
    ∷ (codes "path" ∷ codes "one" ∷ codes "--line=one.s:1" ∷ [])
    ∷ (codes "path" ∷ codes "one" ∷ codes "--workers=1" ∷ [])
    ∷ (codes "latency" ∷ codes "two" ∷ codes "--line=a:1" ∷ codes "--depart=a:2" ∷ [])
    ∷ (codes "latency" ∷ codes "two" ∷ codes "--line=a:1" ∷ codes "--arrive=a:2" ∷ [])
    ∷ (codes "latency" ∷ codes "two" ∷ codes "--line=a:1,b:1" ∷ codes "--arrive=a:2" ∷ codes "--depart=a:3" ∷ [])
    ∷ []

refused : map request_in none_of ≡ map (λ words. None) none_of
unfolding items_in request_of_items is_line pieces
refused = refl

-- ---- speedups

as_given : speedups_in Run (Some (codes "50,5,50")) ≡ Some (50 ∷ 5 ∷ 50 ∷ [])
unfolding pieces
as_given = refl

not_a_number : speedups_in Run (Some (codes "5,,50")) ≡ None
unfolding pieces
not_a_number = refl

too_fast : speedups_in Run (Some (codes "5,96")) ≡ None
unfolding pieces
too_fast = refl
