-- No line begins but where a row or an area starts.
use Rattle.std.proofs.Common.{◌≡◌, ℕ, zero, suc, ◌+◌, ◌⊎◌, inl, inr, ⊎_elim, Bool, true, false, ◌&&◌, List, [], ◌∷◌, ◌++◌, map, find, Option, Some, None, option_map, option_and_then, nat_lt, nat_le, ◌==◌, cond, refl, sym, ap, ap₂, ◌∙◌, arith}
use Rattle.std.proofs.lemmas.Bool.{cases_lt, cases_eq, or_cases, or_left, or_right}
use Rattle.std.proofs.lemmas.Bool.Decides.{nat_tests}
use Rattle.coz_types.specs.declared.image.Area.{Area}
use Rattle.dwarf_lines.specs.declared.Row.{Row}
use Rattle.dwarf_lines.specs.Registers.{Table}
use Rattle.line_index.specs.Lines.{Line, next_address, first_covering, line_of_row, is_executable, line_of, Begins}
use Rattle.line_index.specs.Listed.{bounds}
use Rattle.line_index.proofs.Pieces.{Among}

-- ---- rows

step_le : (b n : ℕ) → (n ≡ suc b) ⊎ (nat_le n (suc b) ≡ nat_le n b)
step_le b n = ⊎_elim (λ e. inl e) (λ differs. inr (⊎_elim (λ lt. grind (arith, nat_tests)) (λ le. grind (arith, nat_tests)) (cases_lt b n))) (cases_eq n (suc b))

step_lt : (b n : ℕ) → (n ≡ suc b) ⊎ (nat_lt (suc b) n ≡ nat_lt b n)
step_lt b n = ⊎_elim (λ e. inl e) (λ differs. inr (⊎_elim (λ lt. grind (arith, nat_tests)) (λ le. grind (arith, nat_tests)) (cases_lt b n))) (cases_eq n (suc b))

abbrev covers_to : ℕ → Row → Option ℕ → Bool
covers_to a row (Some end) = nat_le row.address a && nat_lt a end
covers_to a row None = false

covers_step : (b : ℕ) (row : Row) (end : Option ℕ) → (covers_to (suc b) row end ≡ covers_to b row end) ⊎ ((row.address ≡ suc b) ⊎ (end ≡ Some (suc b)))
covers_step b row None = inl refl
covers_step b row (Some end) =
    ⊎_elim (λ e. inr (inl e)) (λ from. ⊎_elim (λ e. inr (inr (ap (λ n. Some n) e))) (λ to. inl (ap₂ (λ s t. s && t) from to)) (step_lt b end)) (step_le b row.address)

abbrev addresses : List Row → List ℕ
addresses rows = map (λ (row : Row). row.address) rows

next_by : (row : Row) (rows : List Row) (rest : Option Row) (n : ℕ) (t : Bool) → (option_map (λ (next : Row). next.address) rest ≡ Some n → Among n (addresses rows))
    → option_map (λ (next : Row). next.address) (cond t (Some row) rest) ≡ Some n → Among n (addresses (row ∷ rows))
next_by row rows rest n true more e = let same : row.address ≡ n = cc in inl same
next_by row rows rest n false more e = inr (more e)

-- where a row's addresses end another row starts
next_starts : (sequence : ℕ) (rows : List Row) (n : ℕ) → next_address sequence rows ≡ Some n → Among n (addresses rows)
next_starts sequence [] n e = let no : ⊥ = cc in absurd no
next_starts sequence (row ∷ rows) n e = next_by row rows (find (λ (next : Row). next.sequence == sequence) rows) n (row.sequence == sequence) (next_starts sequence rows n) e

first_step : (b : ℕ) (rows : List Row) → (first_covering (suc b) rows ≡ first_covering b rows) ⊎ Among (suc b) (addresses rows)
first_step b [] = inl refl
first_step b (row ∷ rows) =
    ⊎_elim
    (λ same. ⊎_elim (λ rest. inl (ap₂ (λ t (first : Option Row). cond t (Some row) first) same rest)) (λ later. inr (inr later)) (first_step b rows))
    (λ starts. ⊎_elim (λ e. inr (inl e)) (λ e. inr (inr (next_starts row.sequence rows (suc b) e))) starts)
    (covers_step b row (next_address row.sequence rows))

-- ---- areas

abbrev area_holds : ℕ → Area → Bool
area_holds a area = area.rights.execute && (nat_le area.start a && nat_lt a (area.start + area.size))

abbrev area_starts : List Area → List ℕ
area_starts areas = map (λ (area : Area). area.start) areas

span_step : (b start end : ℕ) → (nat_le start (suc b) && nat_lt (suc b) end) ≡ true → (start ≡ suc b) ⊎ ((nat_le start b && nat_lt b end) ≡ true)
span_step b start end e = ⊎_elim (λ same. inl same) (λ differs. inr (grind (arith, nat_tests))) (cases_eq start (suc b))

execute_step : (execute : Bool) (b start end : ℕ) → (execute && (nat_le start (suc b) && nat_lt (suc b) end)) ≡ true → (start ≡ suc b) ⊎ ((execute && (nat_le start b && nat_lt b end)) ≡ true)
execute_step true b start end e = span_step b start end e
execute_step false b start end e = let no : ⊥ = cc in absurd no

executable_step : (b : ℕ) (areas : List Area) → is_executable areas (suc b) ≡ true → (is_executable areas b ≡ true) ⊎ Among (suc b) (area_starts areas)
executable_step b [] e = let no : ⊥ = cc in absurd no
executable_step b (area ∷ areas) e =
    ⊎_elim
    (λ here. ⊎_elim (λ same. inr (inl same)) (λ before. inl (or_left (area_holds b area) (is_executable areas b) before)) (execute_step area.rights.execute b area.start (area.start + area.size) here))
    (λ rest. ⊎_elim (λ before. inl (or_right (area_holds b area) (is_executable areas b) before)) (λ later. inr (inr later)) (executable_step b areas rest))
    (or_cases (area_holds (suc b) area) (is_executable areas (suc b)) e)

execute_zero : (execute : Bool) (start end : ℕ) → (execute && (nat_le start 0 && nat_lt 0 end)) ≡ true → start ≡ 0
execute_zero true start end e = grind (arith, nat_tests)
execute_zero false start end e = let no : ⊥ = cc in absurd no

executable_zero : (areas : List Area) → is_executable areas 0 ≡ true → Among 0 (area_starts areas)
executable_zero [] e = let no : ⊥ = cc in absurd no
executable_zero (area ∷ areas) e =
    ⊎_elim
    (λ here. inl (execute_zero area.rights.execute area.start (area.start + area.size) here))
    (λ rest. inr (executable_zero areas rest))
    (or_cases (area_holds 0 area) (is_executable areas 0) e)

-- ---- lines

among_front : {X : Type 0} (x : X) (xs ys : List X) → Among x xs → Among x (xs ++ ys)
among_front x [] ys h = absurd h
among_front x (z ∷ xs) ys (inl e) = inl e
among_front x (z ∷ xs) ys (inr h) = inr (among_front x xs ys h)

among_back : {X : Type 0} (x : X) (xs ys : List X) → Among x ys → Among x (xs ++ ys)
among_back x [] ys h = h
among_back x (z ∷ xs) ys h = inr (among_back x xs ys h)

-- if there is a line the address is executable
line_parts : (executable : Bool) (line : Option Line) (l : Line) → cond executable line None ≡ Some l → (executable ≡ true) × (line ≡ Some l)
line_parts true line l e = (refl, e)
line_parts false line l e = let no : ⊥ = cc in absurd no

line_zero : (table : Table) (areas : List Area) (l : Line) → line_of table areas 0 ≡ Some l → Among 0 (bounds table areas)
unfolding line_of
line_zero table areas l e =
    among_back 0 (addresses table.rows) (area_starts areas)
    (executable_zero areas (line_parts (is_executable areas 0) (option_and_then (line_of_row table.files) (first_covering 0 table.rows)) l e).0)

line_step : (table : Table) (areas : List Area) (b : ℕ) (l : Line) → line_of table areas (suc b) ≡ Some l → (line_of table areas b ≡ Some l) ⊎ Among (suc b) (bounds table areas)
unfolding line_of
line_step table areas b l e =
    let parts = line_parts (is_executable areas (suc b)) (option_and_then (line_of_row table.files) (first_covering (suc b) table.rows)) l e in
    ⊎_elim
    (λ executable. ⊎_elim
    (λ same. inl (ap₂ (λ t (row : Option Row). cond t (option_and_then (line_of_row table.files) row) None) executable (sym same) ∙ parts.1))
    (λ starts. inr (among_front (suc b) (addresses table.rows) (area_starts areas) starts))
    (first_step b table.rows))
    (λ starts. inr (among_back (suc b) (addresses table.rows) (area_starts areas) starts))
    (executable_step b areas parts.0)

-- a line begins where a row or an area starts
pub begins_at_bound : (table : Table) (areas : List Area) (l : Line) (a : ℕ) → Begins table areas l a → Among a (bounds table areas)
begins_at_bound table areas l zero h = line_zero table areas l h.0
begins_at_bound table areas l (suc b) h = ⊎_elim (λ before. absurd (h.1 b refl before)) (λ starts. starts) (line_step table areas b l h.0)
