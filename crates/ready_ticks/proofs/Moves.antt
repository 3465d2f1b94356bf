-- Harts enter the line at its end, and start from its head.
use Rattle.std.proofs.Common.{◌≡◌, ℕ, Bool, true, false, if◌then◌else◌, List, [], ◌∷◌, ◌++◌, ◌-◌, sym, ap, ◌∙◌, Option, Some, None}
use Rattle.std.proofs.lemmas.List.{append_assoc, take-append-drop}
use Rattle.coz_types.specs.declared.ending.Ending.{Ending}
use Rattle.machines.specs.declared.Fate.{Fate}
use Rattle.machines.specs.declared.Fate.TheVariants.{Goes, Waits, Leaves, Sleeps, Ends}
use Rattle.machines.specs.Places.{change}
use Rattle.timing_laws.specs.Cores.{Seats, Turned, starting, fill, in_line, given_up, is_free, sliced, going}
use Rattle.ready_ticks.specs.Laws.{TheLineMoves, entered_by}

-- what starts and what stays in line is what stood in line
filled : (cores moment : ℕ) (q : Seats) → q.ready ≡ starting cores q ++ (fill cores moment q).ready
filled cores moment q = sym (take-append-drop _ q.ready)

-- a line, and more at its end
and_more : (line others first rest taken left : List ℕ) (h : ℕ) → line ++ others ≡ first ++ rest → rest ++ h ∷ [] ≡ taken ++ left → line ++ (others ++ h ∷ []) ≡ (first ++ taken) ++ left
and_more line others first rest taken left h is more =
    sym (append_assoc line others (h ∷ []))
    ∙ ap (λ (l : List ℕ). l ++ h ∷ []) is
    ∙ append_assoc first rest (h ∷ [])
    ∙ ap (λ (l : List ℕ). first ++ l) more
    ∙ sym (append_assoc first taken left)

abbrev Moves : ℕ → List ℕ → Fate → List ℕ → Turned → Type 0
Moves h others own line t = line ++ entered_by others h own t.fate ≡ t.others ++ t.seats.ready

slices : (cores moment h : ℕ) (others first line : List ℕ) (s : Seats) → line ++ others ≡ first ++ s.ready → Moves h others Goes line (sliced cores moment h first s)
slices cores moment h others first line s is = by (is_free cores s)
  where
    by : (b : Bool) → Moves h others Goes line (if b
        then record { seats = record s { slice_ends = change 0 h (λ _. moment) s.slice_ends }; fate = Goes; others = first }
        else record { seats = fill cores moment (given_up h s); fate = Waits; others = first ++ starting cores (given_up h s) })
    by true = is
    by false = and_more line others first s.ready (starting cores (given_up h s)) (fill cores moment (given_up h s)).ready h is (filled cores moment (given_up h s))

goes : (cores moment h : ℕ) (is_over : Bool) (others : List ℕ) (s : Seats) → Moves h others Goes s.ready (going cores moment h is_over (starting cores (in_line others s)) (fill cores moment (in_line others s)))
goes cores moment h true others s = slices cores moment h others (starting cores (in_line others s)) s.ready (fill cores moment (in_line others s)) (filled cores moment (in_line others s))
goes cores moment h false others s = filled cores moment (in_line others s)

pub line_moves : TheLineMoves
line_moves cores moment h is_over others Goes s none = goes cores moment h is_over others s
line_moves cores moment h is_over others Waits s none = filled cores moment (in_line others (record s { on = s.on - 1 }))
line_moves cores moment h is_over others Leaves s none = filled cores moment (in_line others (record s { on = s.on - 1 }))
line_moves cores moment h is_over others (Sleeps wake) s none = filled cores moment (in_line others (record s { on = s.on - 1; slice_ends = change 0 h (λ _. wake) s.slice_ends }))
line_moves cores moment h is_over others (Ends ending) s none = absurd (let no : ◌≡◌ {A = Option Ending} (Some ending) None = none in cc)
