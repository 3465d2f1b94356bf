-- Runs of small programs, computed on the definitions of both machines.
use Rattle.std.proofs.Common.{◌≡◌, ℕ, ◌*◌, ◌≤◌, ◌==◌, if◌then◌else◌, List, [], ◌∷◌, ◌++◌, length, Option, Some, None, refl, true, false, lit≤}
use Rattle.std.specs.Prelude.{⊤}
use Rattle.std.specs.List.{flat_map}
use Rattle.std.specs.Int.{w32, to_le_bytes}
use Rattle.coz_types.specs.declared.ending.Ending.{Ending}
use Rattle.coz_types.specs.declared.ending.Ending.TheVariants.{Exited, Unsupported, Trapped, VisitsFull, Spent, Stalled}
use Rattle.coz_types.specs.declared.ending.TrapCause.TheVariants.{Misaligned}
use Rattle.coz_types.specs.declared.image.Area.{Area}
use Rattle.coz_types.specs.Image.{ImageParts}
use Rattle.machines.specs.Places.{first_place}
use Rattle.machines.specs.Guest.{Experiment, IsLawful}
use Rattle.machines.specs.Shortened as short
use Rattle.machines.specs.Delayed as long
use Rattle.machines.specs.Standing.{delayed_record}
use Rattle.machines.specs.Records.{NetRecord, Record, net, net_outcome, outcome, shortened_record}
use Rattle.machines.proofs.Computed.{EndsAs, records_are, moves_on_literals}
use Rattle.rv_execute.specs.Execution.{execute}
use Rattle.guest_areas.specs.Entry.{with_numbers, with_entry}
use Rattle.guest_memory.specs.Regions.{usual}
use Rattle.guest_calls.specs.Guest.{Guest, first_guest}
use Rattle.guest_calls.specs.Calls.{call_of, exit, exit_group, futex, wait, wake, clone, sched_yield}
use Rattle.guest_calls.specs.Orderly.{IsOrderly}
use Rattle.guest_calls.specs.Retire.{next_of, step, retire}
use Rattle.run_engine.specs.declared.choice.Choice.{Choice}
use Rattle.run_engine.specs.Run.{experiment}
use Rattle.run_engine.proofs.Law.{lawful_run}

bytes_of : List ℕ → List ℕ
bytes_of words = flat_map (to_le_bytes w32) words

text_area : List ℕ → Area
text_area text = record { start = 0x10000; size = 0x1000; rights = record { read = true; write = false; execute = true }; vaddr = 0x10000; offset = 0; filled = 4 * length text }

data_area : List ℕ → List ℕ → Area
data_area text content = record { start = 0x11000; size = 0x1000; rights = record { read = true; write = true; execute = false }; vaddr = 0x11000; offset = 4 * length text; filled = 4 * length content }

-- a program of these words of text
program : List ℕ → ImageParts
program text = record { file = bytes_of text; areas = text_area text ∷ []; entry = 0x10000; headers = 0; header_count = 1 }

-- a program of these words of text, and these of data
program_with : List ℕ → List ℕ → ImageParts
program_with text content = record {
  file = bytes_of text ++ bytes_of content;
  areas = text_area text ∷ data_area text content ∷ [];
  entry = 0x10000;
  headers = 0;
  header_count = 2;
}

plain : ℕ → Choice
plain budget = record { selected = None; speedup = 0; budget = budget; output_limit = 4194304; visit_limit = 1048576; layout = usual }

-- no line is selected, and no line is a progress line
trial : ImageParts → ℕ → Experiment Guest
trial image budget = experiment image (λ _. None) (λ _. None) [] (plain budget)

shortened_end : ImageParts → ℕ → ℕ → Option NetRecord
shortened_end image budget moves = net_outcome (trial image budget) (short.shortened (trial image budget) moves)

-- within n moves the shortened run has ended so, at this moment and after n retirements, with no output
abbrev Ends : ImageParts → ℕ → ℕ → Ending → ℕ → ℕ → Type 0
Ends image budget moves ending time retired =
    shortened_end image budget moves ≡ Some (record { ending = ending; time = time; retired = retired; starts = 0; output = []; visits = [] })

delayed_end : ImageParts → ℕ → ℕ → Option Record
delayed_end image budget moves = outcome (trial image budget) (long.delayed (trial image budget) moves)

only_at : ℕ → ℕ → Option ℕ
only_at address a = if a == address then Some 0 else None

-- the line at place 0 is selected
abbrev selecting : ℕ → Choice
selecting speedup = record (plain 100) { selected = Some (record { 0 = 0 }); speedup = speedup }

-- the second instruction has the selected line, and is an entry of a point
second : ℕ → ℕ → ImageParts → Experiment Guest
second speedup visits image = experiment image (only_at 0x10004) (only_at 0x10004) [] (record (selecting speedup) { visit_limit = visits })

second_end : ℕ → ℕ → ImageParts → ℕ → Option NetRecord
second_end speedup visits image moves = net_outcome (second speedup visits image) (short.shortened (second speedup visits image) moves)

-- addi a0, x0, 0; addi a7, x0, 93; ecall
one : ImageParts
one =
    program
    (0x00000513 ∷ 0x05D00893 ∷ 0x00000073 ∷ [])

-- with 92 in place of 93
other : ImageParts
other =
    program
    (0x00000513 ∷ 0x05C00893 ∷ 0x00000073 ∷ [])

-- jal x0, 2
between : ImageParts
between =
    program
    (0x0020006F ∷ [])

-- futex waits on a word that is 0, and no hart wakes it
stall : ImageParts
stall =
    program_with
    (0x00001517 ∷ 0x00050513 ∷ 0x00000593 ∷ 0x00000613 ∷ 0x06200893 ∷ 0x00000073 ∷ [])
    (0 ∷ [])

-- clone makes a second hart, and both leave
two : ImageParts
two =
    program
    (0x00011537 ∷ 0xF005051B ∷ 0x00000593 ∷ 0x0DC00893 ∷ 0x00000073 ∷ 0x00128293 ∷ 0x00000513 ∷ 0x05D00893
    ∷ 0x00000073 ∷ [])

-- the first hart waits for the second's clear address, and the second's exit wakes it
join : ImageParts
join =
    program_with
    (0x00001717 ∷ 0x00070713 ∷ 0x00211537 ∷ 0xF005051B ∷ 0x0DC00893 ∷ 0x00000073 ∷ 0x02050263 ∷ 0x00070513
    ∷ 0x00000593 ∷ 0x00100613 ∷ 0x06200893 ∷ 0x00000073 ∷ 0x00000513 ∷ 0x05E00893 ∷ 0x00000073 ∷ 0x07C00893
    ∷ 0x00000073 ∷ 0x05D00893 ∷ 0x00000073 ∷ [])
    (1 ∷ [])

-- the first hart waits, and the second wakes it after ten divisions
waits : ImageParts
waits =
    program_with
    (0x00011537 ∷ 0xF005051B ∷ 0x0DC00893 ∷ 0x00000073 ∷ 0x02050463 ∷ 0x00001517 ∷ 0xFEC50513 ∷ 0x00000593
    ∷ 0x00000613 ∷ 0x06200893 ∷ 0x00000073 ∷ 0x00000513 ∷ 0x05E00893 ∷ 0x00000073 ∷ 0x07C00893 ∷ 0x00000073
    ∷ 0x00000073 ∷ 0x00A00293 ∷ 0x02534333 ∷ 0xFFF28293 ∷ 0xFE029CE3 ∷ 0x00001517 ∷ 0xFAC50513 ∷ 0x00100593
    ∷ 0x00100613 ∷ 0x06200893 ∷ 0x00000073 ∷ 0x05D00893 ∷ 0x00000073 ∷ [])
    (0 ∷ [])

-- what a proof unfolds to compute a run
unfoldable runs_on_literals : ⊤
unfolding bytes_of text_area data_area program program_with plain trial shortened_end delayed_end only_at second second_end moves_on_literals
    first_guest with_numbers with_entry next_of retire step call_of execute clone futex wait wake exit exit_group sched_yield
runs_on_literals = tt

one_shortened : Ends one 100 3 (Exited 0) 4200 3
unfolding runs_on_literals one
one_shortened = refl

other_shortened : Ends other 100 3 (Unsupported 92) 4200 3
unfolding runs_on_literals other
other_shortened = refl

one_spent : Ends one 2 3 Spent 200 2
unfolding runs_on_literals one
one_spent = refl

between_shortened : Ends between 100 1 (Trapped (record { cause = Misaligned; hart = record { 0 = 0 }; pc = 0x10000 })) 200 1
unfolding runs_on_literals between
between_shortened = refl

stall_shortened : Ends stall 100 6 Stalled 4500 6
unfolding runs_on_literals stall
stall_shortened = refl

two_shortened : Ends two 100 13 (Exited 0) 8700 13
unfolding runs_on_literals two
two_shortened = refl

join_shortened : Ends join 100 20 (Exited 0) 17000 20
unfolding runs_on_literals join
join_shortened = refl

waits_shortened : Ends waits 100 57 (Exited 0) 43300 57
unfolding runs_on_literals waits
waits_shortened = refl

-- at a speedup of 95 the second instruction costs a twentieth
one_selected : second_end 95 10 one 3 ≡ Some (record { ending = Exited 0; time = 4105; retired = 3; starts = 1; output = []; visits = record { point = 0; hart = 0; time = 105 } ∷ [] })
unfolding runs_on_literals one
one_selected = refl

-- at a speedup of 0 a start is counted too
one_whole : second_end 0 10 one 3 ≡ Some (record { ending = Exited 0; time = 4200; retired = 3; starts = 1; output = []; visits = record { point = 0; hart = 0; time = 200 } ∷ [] })
unfolding runs_on_literals one
one_whole = refl

one_full : second_end 95 1 one 2 ≡ Some (record { ending = VisitsFull; time = 105; retired = 2; starts = 1; output = []; visits = record { point = 0; hart = 0; time = 105 } ∷ [] })
unfolding runs_on_literals one
one_full = refl

-- tick by tick
one_delayed : delayed_end one 100 4203 ≡ Some (record { ending = Exited 0; time = 4200; delay = 0; retired = 3; starts = 0; output = []; visits = []; accounts = record { own = 0; paused = 0; credited = 0 } ∷ [] })
unfolding runs_on_literals one
one_delayed = refl

-- points with these entries
abbrev point_at : List ℕ → ℕ → Option ℕ
point_at entries a = first_place (λ entry. entry == a) entries

-- a run in which the instruction at an address has the selected line, and points have these entries
abbrev chosen : ImageParts → ℕ → ℕ → List ℕ → Experiment Guest
chosen image address speedup entries = experiment image (only_at address) (point_at entries) [] (selecting speedup)

-- what the rows below compute is what the two runs leave
both_leave : (image : ImageParts) (address speedup : ℕ) (entries : List ℕ) (n : ℕ) (r : Record) → speedup ≤ 95 → n ≤ 200 → EndsAs (chosen image address speedup entries) n r
    → (delayed_record (chosen image address speedup entries) ≡ r) × (shortened_record (chosen image address speedup entries) ≡ net r)
unfolding plain
both_leave image address speedup entries n r small few e =
    let law : IsLawful (chosen image address speedup entries) IsOrderly = lawful_run image (only_at address) (point_at entries) [] (selecting speedup) small in
    records_are (chosen image address speedup entries) IsOrderly law n r few (lit≤ tt) e

-- two harts are due at the moment 4500. What the first of them starts then makes the other pause, so that their visits of one net time are 50 ticks apart.
tie : EndsAs (chosen two 0x10018 50 (0x10014 ∷ [])) 13 (record {
  ending = Exited 0;
  time = 8750;
  delay = 100;
  retired = 13;
  starts = 2;
  output = [];
  visits = record { point = 0; hart = 0; time = 4500; delay = 0 }
      ∷ record { point = 0; hart = 1; time = 4550; delay = 50 }
      ∷ [];
  accounts = record { own = 50; paused = 50; credited = 0 } ∷ record { own = 50; paused = 50; credited = 0 } ∷ [];
})
unfolding runs_on_literals two
tie = record { delayed = refl; shortened = refl }

-- two harts start the selected instruction as one makes the other: each pauses for the other's start
both : EndsAs (chosen two 0x10014 50 (0x10018 ∷ [])) 13 (record {
  ending = Exited 0;
  time = 8750;
  delay = 100;
  retired = 13;
  starts = 2;
  output = [];
  visits = record { point = 0; hart = 0; time = 4650; delay = 100 }
      ∷ record { point = 0; hart = 1; time = 4650; delay = 100 }
      ∷ [];
  accounts = record { own = 50; paused = 50; credited = 0 } ∷ record { own = 50; paused = 50; credited = 0 } ∷ [];
})
unfolding runs_on_literals two
both = record { delayed = refl; shortened = refl }

-- a hart is credited with what was raised before it was made
made : EndsAs (chosen two 0x1000C 50 []) 13 (record {
  ending = Exited 0;
  time = 8700;
  delay = 50;
  retired = 13;
  starts = 1;
  output = [];
  visits = [];
  accounts = record { own = 50; paused = 0; credited = 0 } ∷ record { own = 0; paused = 0; credited = 50 } ∷ [];
})
unfolding runs_on_literals two
made = record { delayed = refl; shortened = refl }

-- while one hart waits, the other makes ten selected divisions. The waiter doesn't pause for them: it is credited with them as it is woken.
woken : EndsAs (chosen waits 0x10048 95 (0x10028 ∷ 0x10048 ∷ 0x10068 ∷ [])) 57 (record {
  ending = Exited 0;
  time = 43300;
  delay = 19000;
  retired = 57;
  starts = 10;
  output = [];
  visits = record { point = 0; hart = 0; time = 8900; delay = 0 }
      ∷ record { point = 1; hart = 1; time = 14600; delay = 1900 }
      ∷ record { point = 1; hart = 1; time = 16800; delay = 3800 }
      ∷ record { point = 1; hart = 1; time = 19000; delay = 5700 }
      ∷ record { point = 1; hart = 1; time = 21200; delay = 7600 }
      ∷ record { point = 1; hart = 1; time = 23400; delay = 9500 }
      ∷ record { point = 1; hart = 1; time = 25600; delay = 11400 }
      ∷ record { point = 1; hart = 1; time = 27800; delay = 13300 }
      ∷ record { point = 1; hart = 1; time = 30000; delay = 15200 }
      ∷ record { point = 1; hart = 1; time = 32200; delay = 17100 }
      ∷ record { point = 1; hart = 1; time = 34400; delay = 19000 }
      ∷ record { point = 2; hart = 1; time = 39100; delay = 19000 }
      ∷ [];
  accounts = record { own = 0; paused = 0; credited = 19000 } ∷ record { own = 19000; paused = 0; credited = 0 } ∷ [];
})
unfolding runs_on_literals waits
woken = record { delayed = refl; shortened = refl }
