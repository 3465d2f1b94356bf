-- The laws of the ready ticks.
use Rattle.std.specs.Prelude.{◌≡◌, ◌≤◌, ℕ, suc, Bool, List, [], ◌∷◌, ◌++◌, None, Some, if◌then◌else◌}
use Rattle.machines.specs.declared.Fate.{Fate}
use Rattle.machines.specs.declared.Fate.TheVariants.{Goes, Waits}
use Rattle.machines.specs.Guest.{Experiment, own_ending}
use Rattle.timing_laws.specs.Noted.{Noted, Noting, noting}
use Rattle.machines.specs.Shortened.{Turn, next_turn, shortened}
use Rattle.timing_laws.specs.Cores.{Seats, Cores, Slicing, cores_guest, on_cores, turned, turned_by}
use Rattle.ready_ticks.specs.declared.waits.Wait.{Wait}
use Rattle.ready_ticks.specs.Ready.{Course, course, ready_ticks, waited}
use Rattle.ready_ticks.specs.Waits.{AreTold, Passes, ticks_at, wait_of}

-- with a core for each hart that may run, none is ever ready
abbrev pub NobodyIsReady : {G : Type 0} → Experiment G → ℕ → Type 0
NobodyIsReady {G} x limit =
    (n : Noting G) (w : Slicing (Noted G)) → limit ≤ w.cores → (hart moves : ℕ)
    → ready_ticks (on_cores w (noting n x)) hart moves ≡ 0

-- what is noted before a move tells of all moves up to and with it, at the moment of that move
abbrev pub NotesTellTheNext : Type 0
NotesTellTheNext =
    (c : Course) (n : ℕ) (waits : List Wait) → AreTold c n waits → c.moment n ≤ c.moment (suc n)
    → (hart : ℕ) → ticks_at (c.moment (suc n)) (wait_of waits hart) ≡ waited c hart (suc n)

-- the harts that enter the line as hart h retires: those that its guest makes or wakes, and h itself
-- if it would go on and gives its core up
abbrev pub entered_by : List ℕ → ℕ → Fate → Fate → List ℕ
entered_by others h Goes Waits = others ++ h ∷ []
entered_by others h own fate = others

-- as a hart has its turn in a state of a guest on cores: those that enter the line, and those that
-- start; nobody if the hart sleeps, since it wakes then
abbrev pub entering : {G : Type 0} → Slicing G → Experiment G → Cores G → Turn → List ℕ
entering w x c t =
    if (cores_guest w x.guest).is_sleeping c t.hart then []
    else entered_by (x.guest.retire c.guest t.hart t.due).others t.hart
    (x.guest.retire c.guest t.hart t.due).fate (turned w x.guest c t.hart t.due).fate

abbrev pub starting : {G : Type 0} → Slicing G → Experiment G → Cores G → Turn → List ℕ
starting w x c t =
    if (cores_guest w x.guest).is_sleeping c t.hart then []
    else (turned w x.guest c t.hart t.due).others

-- a move after which the run goes on passes these harts into the line and out of it
abbrev pub RunsPass : {G : Type 0} → Experiment G → Type 0
RunsPass {G} x =
    (noted : Noting G) (w : Slicing (Noted G)) (n : ℕ) (t : Turn)
    → let y = on_cores w (noting noted x) in
    let c = (shortened y n).guest in
    (shortened y n).ending ≡ None → (shortened y (suc n)).ending ≡ None
    → next_turn (shortened y n).dues ≡ Some t
    → Passes (course y) n (shortened y (suc n)).time (entering w (noting noted x) c t)
    (starting w (noting noted x) c t)

-- harts enter the line at its end and start from its head, as long as the run goes on
abbrev pub TheLineMoves : Type 0
TheLineMoves =
    (cores moment h : ℕ) (is_over : Bool) (others : List ℕ) (own : Fate) (s : Seats)
    → own_ending own ≡ None
    → let t = turned_by cores moment h is_over others own s in
    s.ready ++ entered_by others h own t.fate ≡ t.others ++ t.seats.ready
