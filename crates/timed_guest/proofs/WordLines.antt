-- The lines of words in a table.
use Rattle.std.proofs.Common.{ℕ, ◌≡◌, ◌+◌, ◌*◌, ◌<◌, ◌≤◌, List, length, get_or, set, Option, option_map, arith, sym, ap, ◌∙◌, ⊎_elim}
use Rattle.std.proofs.lemmas.Bool.{cases_eq}
use Rattle.std.proofs.lemmas.List.{get_or-set_same, get_or-set_other}
use Rattle.coz_types.specs.declared.LineId.{LineId}
use Rattle.line_index.specs.Index.{Index, position_at}
use Rattle.timed_guest.specs.Retire.{line_id}
use Rattle.timed_guest.specs.Lines.{AreLinesFrom}

pub none_yet : (index : Index) (start : ℕ) (words : List (Option LineId)) → AreLinesFrom index start 0 words
none_yet index start words k d below = absurd (omega (arith, below))

-- one line more
pub one_line_more : (index : Index) (start k : ℕ) (words : List (Option LineId)) (line : Option LineId) → AreLinesFrom index start k words → k < length words
    → line ≡ option_map line_id (position_at index (start + 4 * k)) → AreLinesFrom index start (k + 1) (set words k line)
one_line_more index start k words line so_far inside is j d below =
    ⊎_elim
    (λ (e : j ≡ k).
    ap (λ (q : ℕ). get_or (set words k line) q d) e ∙ get_or-set_same words k line d inside ∙ is
    ∙ ap (λ (q : ℕ). option_map line_id (position_at index (start + 4 * q))) (sym e))
    (λ (n : j ≡ k → ⊥). get_or-set_other words k j line d n ∙ so_far j d (omega (arith, below, n)))
    (cases_eq j k)

-- as long as the table is
pub all_lines : (index : Index) (start k : ℕ) (words : List (Option LineId)) → length words ≤ k → AreLinesFrom index start k words → AreLinesFrom index start (length words) words
all_lines index start k words long so_far j d below = so_far j d (omega (arith, long, below))
