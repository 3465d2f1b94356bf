-- The limits, each as a number of its own: a constant that changes is refused here.
use Rattle.std.proofs.Common.{◌≡◌, ◌-◌, ◌*◌, ◌^◌, refl}
use Rattle.coz_types.specs.declared.TheConstants.{PAGE, LOAD_END, MAX_LOADED, MAX_PROGRAM, MAX_WORD, HARTS, MAX_LINE, MAX_SPEEDUP, MAX_BUDGET, MAX_OUTPUT, MAX_VISITS, MAX_POINTS, MAX_WORKERS, MAX_SIZE, MIN_VERSION, MAX_VERSION, MAX_NUMBER, MAX_COUNT}

-- 4 KiB (RISC-V privileged architecture, section "Sv39")
page : PAGE ≡ 4096
page = refl

-- 128 GiB
load_end : LOAD_END ≡ 2 ^ 37
load_end = refl

-- 64 MiB
most_loaded : MAX_LOADED ≡ 2 ^ 26
most_loaded = refl

-- 32 MiB
max_program : MAX_PROGRAM ≡ 2 ^ 25
max_program = refl

-- 32 pages (execve(2), MAX_ARG_STRLEN)
max_word : MAX_WORD ≡ 32 * 4096
max_word = refl

-- hart numbers are one byte
harts : HARTS ≡ 256
harts = refl

-- line numbers are four bytes
greatest_line : MAX_LINE ≡ 2 ^ 32 - 1
greatest_line = refl

-- per cent
greatest_speedup : MAX_SPEEDUP ≡ 95
greatest_speedup = refl

-- instructions
greatest_budget : MAX_BUDGET ≡ 10 ^ 12
greatest_budget = refl

-- 64 MiB
most_output : MAX_OUTPUT ≡ 2 ^ 26
most_output = refl

-- visits
most_visits_kept : MAX_VISITS ≡ 2 ^ 20
most_visits_kept = refl

-- points
most_points : MAX_POINTS ≡ 64
most_points = refl

-- workers
most_workers : MAX_WORKERS ≡ 16
most_workers = refl

-- blocks
greatest_size : MAX_SIZE ≡ 2000
greatest_size = refl

-- DWARF 4
least_version : MIN_VERSION ≡ 4
least_version = refl

-- DWARF 5
greatest_version : MAX_VERSION ≡ 5
greatest_version = refl

-- ticks, instructions, starts or bytes
greatest_number : MAX_NUMBER ≡ 10 ^ 17
greatest_number = refl

-- visits of a point
greatest_count : MAX_COUNT ≡ 10 ^ 9
greatest_count = refl
