-- Pages of a chunk that is not marked are untouched, and a change keeps the marks right.
use Rattle.std.proofs.Common.{ℕ, ◌≡◌, ◌+◌, ◌*◌, ◌/◌, ◌≤◌, ◌<◌, Bool, true, false, List, length, get_or, arith, sym, ap, ◌∙◌, ⊎_elim}
use Rattle.std.specs.Prelude.{◌||◌}
use Rattle.std.proofs.lemmas.Bool.{cases_Bool, both_ways, or_parts}
use Rattle.guest_memory.specs.declared.Page.{Page}
use Rattle.guest_memory.specs.Marks.{AreMarked}

pub unmarked : (pages : List Page) (marks : List Bool) (k : ℕ) (d : Page) → AreMarked pages marks → k < length pages → get_or marks (k / 64) false ≡ false → (get_or pages k d).touched ≡ false
unmarked pages marks k d is below none =
    ⊎_elim
    (λ (t : (get_or pages k d).touched ≡ true). absurd (both_ways (get_or marks (k / 64) false) none (is.marked k d below t)))
    (λ (f : (get_or pages k d).touched ≡ false). f)
    (cases_Bool (get_or pages k d).touched)

-- the pages of a chunk that neither list marks
pub neither : (pages others : List Page) (marks other_marks : List Bool) (c k : ℕ) (d : Page) → AreMarked pages marks → AreMarked others other_marks → length others ≡ length pages
    → (get_or marks c false || get_or other_marks c false) ≡ false → c * 64 ≤ k → k < c * 64 + 64 → k < length pages → ((get_or pages k d).touched || (get_or others k d).touched) ≡ false
neither pages others marks other_marks c k d is other same none from below inside =
    let at : c ≡ k / 64 = omega arith in
    let both = or_parts (get_or marks c false) (get_or other_marks c false) none in
    ap (λ (b : Bool). b || (get_or others k d).touched) (unmarked pages marks k d is inside (ap (λ (q : ℕ). get_or marks q false) (sym at) ∙ both.0))
    ∙ unmarked others other_marks k d other (omega arith) (ap (λ (q : ℕ). get_or other_marks q false) (sym at) ∙ both.1)
