-- The printed texts.
use Rattle.std.specs.Prelude.{ℕ, ◌+◌, ◌-◌, List, [], ◌∷◌, ◌++◌, length, codes}
use Rattle.std.specs.List.{flat_map}
use Rattle.coz_types.specs.Endings.{address_text}
use Rattle.coz_types.specs.declared.image.Area.{Area}
use Rattle.machines.specs.Delayed.{Account, Visit}
use Rattle.machines.specs.Shortened.{NetVisit}
use Rattle.machines.specs.Records.{Record, NetRecord}
use Rattle.dwarf_lines.specs.Registers.{Table}
use Rattle.line_index.specs.Lines.{Line, label}
use Rattle.line_index.specs.Listed.{lines_in, entries_in}
use Rattle.profile_book.specs.Pieces.{named, number_line, end_line}
use Rattle.profile_book.specs.declared.profile.Profile.{Profile}
use Rattle.causal_curves.specs.Curves.{curves_of, ranked_curves}
use Rattle.causal_curves.specs.Texts.{curve_text}

unfoldable pub outcome_text : Record → List ℕ
outcome_text r = end_line r.ending
    ++ number_line (codes "time ") r.time
    ++ number_line (codes "delay ") r.delay
    ++ number_line (codes "net ") (r.time - r.delay)
    ++ number_line (codes "retired ") r.retired
    ++ number_line (codes "starts ") r.starts

unfoldable pub hart_text : ℕ → Account → List ℕ
hart_text number account = named (codes "hart ") number
    ++ named (codes " own ") account.own
    ++ named (codes " paused ") account.paused
    ++ number_line (codes " credited ") account.credited

unfoldable pub harts_text : ℕ → List Account → List ℕ
harts_text number [] = []
harts_text number (account ∷ accounts) =
    hart_text number account ++ harts_text (number + 1) accounts

-- the point of a visit and its hart
abbrev pub visit_head : ℕ → ℕ → List ℕ
visit_head point hart = named (codes "visit ") point ++ named (codes " hart ") hart

unfoldable pub visit_text : Visit → List ℕ
visit_text v = visit_head v.point v.hart
    ++ named (codes " time ") v.time
    ++ named (codes " delay ") v.delay
    ++ number_line (codes " net ") (v.time - v.delay)

unfoldable pub visits_text : List Visit → List ℕ
visits_text [] = []
visits_text (visit ∷ visits) = visit_text visit ++ visits_text visits

unfoldable pub output_text : List ℕ → List ℕ
output_text output = number_line (codes "output ") (length output) ++ output ++ codes "\n"

-- what `run` prints
unfoldable pub run_text : Record → List ℕ
run_text r =
    outcome_text r ++ harts_text 0 r.accounts ++ visits_text r.visits ++ output_text r.output

-- ---- of a run that knows no delays

unfoldable pub net_outcome_text : NetRecord → List ℕ
net_outcome_text r = end_line r.ending
    ++ number_line (codes "net ") r.time
    ++ number_line (codes "retired ") r.retired
    ++ number_line (codes "starts ") r.starts

unfoldable pub net_visit_text : NetVisit → List ℕ
net_visit_text v = visit_head v.point v.hart ++ number_line (codes " net ") v.time

unfoldable pub net_visits_text : List NetVisit → List ℕ
net_visits_text [] = []
net_visits_text (visit ∷ visits) = net_visit_text visit ++ net_visits_text visits

-- what `really` prints
unfoldable pub really_text : NetRecord → List ℕ
really_text r = net_outcome_text r ++ net_visits_text r.visits ++ output_text r.output

-- ---- of a program's lines

-- an address after a comma
abbrev pub more_address : ℕ → List ℕ
more_address address = codes "," ++ address_text address

-- the addresses with a comma between each two
unfoldable pub addresses_text : List ℕ → List ℕ
addresses_text [] = []
addresses_text (a ∷ more) = address_text a ++ flat_map more_address more

unfoldable pub labelled_text : List ℕ → List ℕ → List ℕ
labelled_text label addresses = label ++ codes "\t" ++ addresses_text addresses ++ codes "\n"

-- a line with its entry addresses
abbrev pub line_text : Line → List ℕ → List ℕ
line_text line entries = labelled_text (label line) entries

-- what `lines` prints: the units that were passed over, and each line in order
-- with its entry addresses
unfoldable pub lines_text : Table → List Area → List ℕ
lines_text table areas =
    number_line (codes "skipped ") table.skipped
    ++ flat_map (λ line. line_text line (entries_in table areas line)) (lines_in table areas)

-- ---- of a profile

-- what `plot` prints: the curves by rank
unfoldable pub plot_text : Profile → List ℕ
plot_text p = flat_map curve_text (ranked_curves (curves_of p))
