-- The summaries of a plan, line by line.
use Rattle.std.proofs.Common.{◌≡◌, ℕ, zero, suc, ◌+◌, ◌<◌, List, [], ◌∷◌, ◌++◌, map, take, length, get_or, slice_get, Some, sym, refl, ap, ◌∙◌, subst, arith}
use Rattle.std.specs.List.{All, flat_map, range_with_len}
use Rattle.std.proofs.Math.Seq.{take-append_seam, drop-append_seam}
use Rattle.std.proofs.lemmas.List.{length-map, map-append, nil_from_length, take_more}
use Rattle.std.proofs.lemmas.List.Elements.{All-take, All-drop, All-head, All-weaker}
use Rattle.std.proofs.lemmas.List.Folds.{flat_map-map}
use Rattle.std.proofs.lemmas.List.FromFn.{fill_by_all}
use Rattle.coz_types.specs.declared.LineId.{LineId}
use Rattle.coz_types.specs.declared.record.Summary.{Summary}
use Rattle.experiment_plan.specs.declared.experiment.Experiment.{Experiment}
use Rattle.experiment_plan.specs.ByLine.{by_line, all_pairs, IsOfOneLine}
use Rattle.experiment_plan.proofs.Lines.{joined_again}

-- one pair more
pub pair_next : (s : Experiment → Summary) (pairs : List Experiment) (i : ℕ) (none : Experiment) (before new : List Summary) (summary : Summary)
    → i < length pairs → before ≡ map s (take i pairs) → new ≡ before ++ summary ∷ [] → summary ≡ s (get_or pairs i none)
    → new ≡ map s (take (i + 1) pairs)
pair_next s pairs i none before new summary below so_far is ran =
    is
    ∙ ap (λ (all : List Summary). all ++ summary ∷ []) so_far
    ∙ ap (λ (one : Summary). map s (take i pairs) ++ one ∷ []) ran
    ∙ sym (map-append s (take i pairs) (get_or pairs i none ∷ []))
    ∙ ap (map s) (sym (take_more pairs i none below))

get_or-map_there : {A B : Type 0} (g : A → B) (none : A) (xs : List A) (k : ℕ) → k < length xs → get_or (map g xs) k (g none) ≡ g (get_or xs k none)
get_or-map_there g none [] k short = absurd (omega arith)
get_or-map_there g none (x ∷ xs) zero short = refl
get_or-map_there g none (x ∷ xs) (suc k) short = get_or-map_there g none xs k (omega arith)

-- a list is what stands at its places
at_places : {A B : Type 0} (g : A → B) (none : A) (xs : List A) → map (λ i. g (get_or xs i none)) (range_with_len 0 (length xs)) ≡ map g xs
at_places g none xs =
    sym (fill_by_all (λ i. g (get_or xs i none)) (map g xs) (length xs) (g none) (length-map xs g) (λ k short. get_or-map_there g none xs k short))

map_joined : (s : Experiment → Summary) (runs : List (List Experiment)) → flat_map (map s) runs ≡ map s (all_pairs runs)
map_joined s [] = refl
map_joined s (run ∷ runs) = ap (λ (rest : List Summary). map s run ++ rest) (map_joined s runs) ∙ sym (map-append s run (all_pairs runs))

-- the summaries of the pairs, line by line, are those of all pairs
line_by_line : (s : Experiment → Summary) (runs : List (List Experiment))
    → flat_map (λ i. map s (get_or runs i [])) (range_with_len 0 (length runs)) ≡ map s (all_pairs runs)
line_by_line s runs =
    sym (flat_map-map (λ (line : List Summary). line) (λ i. map s (get_or runs i [])) (range_with_len 0 (length runs)))
    ∙ ap (flat_map (λ (line : List Summary). line)) (at_places (map s) [] runs)
    ∙ flat_map-map (λ (line : List Summary). line) (map s) runs
    ∙ map_joined s runs

-- the summaries of a plan's lines, one after the other, are those of its pairs
pub plan_by_line : (s : Experiment → Summary) (plan : List Experiment)
    → flat_map (λ i. map s (get_or (by_line plan) i [])) (range_with_len 0 (length (by_line plan))) ≡ map s plan
plan_by_line s plan = line_by_line s (by_line plan) ∙ ap (map s) (joined_again plan)

-- a plan with no line has no pair
pub no_lines : (s : Experiment → Summary) (plan : List Experiment) → length (by_line plan) ≡ 0 → [] ≡ map s plan
no_lines s plan none =
    let empty : by_line plan ≡ [] = nil_from_length (by_line plan) none in
    ap (map s) (sym (ap all_pairs empty) ∙ joined_again plan)

-- what is so of all pairs is so of those of a line
pub of_all : (P : Experiment → Type 0) (runs : List (List Experiment)) (i : ℕ) (line : List Experiment)
    → All P (all_pairs runs) → slice_get runs i ≡ Some line → All P line
of_all P [] i line all e = absurd cc
of_all P (run ∷ runs) zero line all e =
    let same : run ≡ line = cc in
    subst (All P) (take-append_seam run (all_pairs runs) ∙ same) (All-take P (length run) (run ++ all_pairs runs) all)
of_all P (run ∷ runs) (suc i) line all e =
    of_all P runs i line (subst (All P) (drop-append_seam run (all_pairs runs)) (All-drop P (length run) (run ++ all_pairs runs) all)) e

-- what is so of the line of the first pair is so of each pair's line
pub of_one_line : (P : LineId → Type 0) (pairs : List Experiment) → IsOfOneLine pairs → (none : Experiment)
    → P (get_or pairs 0 none).line → All (λ (pair : Experiment). P pair.line) pairs
of_one_line P [] one none holds = absurd (let some = one.some in omega arith)
of_one_line P (pair ∷ pairs) one none holds =
    let own : pair.line ≡ one.line = All-head (λ (e : Experiment). e.line ≡ one.line) pair pairs one.each in
    let of_line : P one.line = subst P own holds in
    All-weaker (λ (e : Experiment). e.line ≡ one.line) (λ (e : Experiment). P e.line) (λ e is. subst P (sym is) of_line) (pair ∷ pairs) one.each
