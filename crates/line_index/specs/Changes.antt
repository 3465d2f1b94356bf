-- What stands at each address, as the list of where it changes.
use Rattle.std.specs.Prelude.{ℕ, suc, ◌≤◌, Bool, ◌&&◌, List, [], ◌∷◌, map, Option, Some, None, option_map, option_and_then, nat_lt, nat_le, ◌==◌, if◌then◌else◌}
use Rattle.line_index.specs.declared.changes.Change.{Change}
use Rattle.coz_types.specs.declared.LineId.{LineId}
use Rattle.line_index.specs.declared.changes.LineChange.{LineChange}
use Rattle.line_index.specs.declared.changes.Join.{Join}
use Rattle.line_index.specs.declared.changes.Join.TheVariants.{Over, Within}
use Rattle.line_index.specs.declared.spans.Span.{Span}

-- what the last change up to an address says, and before the first change what stood there already
abbrev pub value_at : ℕ → Option ℕ → List Change → Option ℕ
value_at a before [] = before
value_at a before (c ∷ cs) = if nat_lt a c.address then before else value_at a c.position cs

-- ---- changes of lines, by the positions of the lines

abbrev pub place_of : Option LineId → Option ℕ
place_of line = option_map (λ (l : LineId). l.0) line

abbrev pub change_of : LineChange → Change
change_of c = record { address = c.address; position = place_of c.line }

abbrev pub changes_of : List LineChange → List Change
changes_of cs = map change_of cs

-- ---- what lists of changes are and say together

-- each address is greater than the one before it, and the first is no less than this one
abbrev pub IsRising : ℕ → List Change → Type 0
IsRising low [] = Unit {0}
IsRising low (c ∷ cs) = (low ≤ c.address) × IsRising (suc c.address) cs

abbrev pub or_else : {A : Type 0} → Option A → Option A → Option A
or_else None second = second
or_else (Some x) second = Some x

-- the first, and if there is none the second; or the second, if there is a first
abbrev pub joined_position : Join → Option ℕ → Option ℕ → Option ℕ
joined_position Over first second = or_else first second
joined_position Within first second = option_and_then (λ (_ : ℕ). second) first

-- the address lies in the span
abbrev pub is_in_span : ℕ → Span → Bool
is_in_span a span = nat_le span.start a && nat_lt a span.end

-- ---- going through a list of changes

abbrev pub next : List Change → Option ℕ
next [] = None
next (c ∷ cs) = Some c.address

abbrev pub least : Option ℕ → Option ℕ → Option ℕ
least None second = second
least (Some x) None = Some x
least (Some x) (Some y) = if nat_le x y then Some x else Some y

-- the changes after an address, if the next change is not before it
abbrev pub position_after : ℕ → Option ℕ → List Change → Option ℕ
position_after a before [] = before
position_after a before (c ∷ cs) = if c.address == a then c.position else before

-- the changes after it
abbrev pub ahead_after : ℕ → List Change → List Change
ahead_after a [] = []
ahead_after a (c ∷ cs) = if c.address == a then cs else c ∷ cs
