-- The items that were read are the bytes of the text, and what the reader answers for a whole text.
use Rattle.std.proofs.Common.{◌≡◌, ℕ, suc, ◌≤◌, Bool, true, false, ◌||◌, ◌==◌, List, [], ◌∷◌, ◌++◌, length, codes, flat_map, Some, None, Result, Ok, Err, refl, sym, ap, subst, ◌∙◌, append_assoc, arith, add-one}
use Rattle.std.specs.List.{enumerate_from, concat}
use Rattle.std.proofs.lemmas.List.{append-nil}
use Rattle.coz_types.specs.Labels.{Text}
use Rattle.coz_types.specs.Endings.{ending_text}
use Rattle.coz_types.specs.declared.record.Summary.{Summary}
use Rattle.profile_book.specs.declared.profile.Profile.{Profile}
use Rattle.profile_reader.specs.declared.fault.BookFault.{BookFault}
use Rattle.profile_book.specs.Profile.{field, number_field, IsProfile, profile_text, block, point_line, count_line, experiment_line, output_line, visits_line}
use Rattle.profile_reader.specs.Items.{items_of, join, begins_item}
use Rattle.profile_reader.specs.Grammar.{Before, book_fault}
use Rattle.profile_reader.specs.Reading.{profile_at}
use Rattle.failures.specs.Answers.{Gives}
use Rattle.profile_reader.specs.Judging.{IsJudged}
use Rattle.failures.specs.declared.Failure.{Failure}
use Rattle.failures.specs.declared.Failure.TheVariants as errors
use Rattle.std.specs.Prelude.{IfOk}
use Rattle.profile_reader.proofs.Steps.{text_of}
use Rattle.profile_reader.proofs.LineSteps.{head_before, name_before, names_before, selection_before, outcome_before, output_before, count_before, counts_before, visits_before}
use Rattle.profile_reader.proofs.Whole.{block_before, blocks_before, profile_before, profile_part, IsLastAnswer}

-- ---- the items of a text

join_keeps : (b : ℕ) (items : List Text) → concat (join b items) ≡ b ∷ concat items
join_keeps b [] = refl
join_keeps b (item ∷ items) = by (b == 10 || begins_item item) refl
  where
    by : (c : Bool) → (b == 10 || begins_item item) ≡ c → concat (join b (item ∷ items)) ≡ b ∷ concat (item ∷ items)
    by true e = rw (join, e) refl
    by false e = rw (join, e) refl

pub items_keep : (text : Text) → concat (items_of text) ≡ text
unfolding items_of
items_keep [] = refl
items_keep (b ∷ rest) = join_keeps b (items_of rest) ∙ ap (λ (t : Text). b ∷ t) (items_keep rest)

join_few : (b : ℕ) (items : List Text) → length (join b items) ≤ suc (length items)
join_few b [] = omega arith
join_few b (item ∷ items) = by (b == 10 || begins_item item) refl
  where
    by : (c : Bool) → (b == 10 || begins_item item) ≡ c → length (join b (item ∷ items)) ≤ suc (length (item ∷ items))
    by true e = rw (join, e) (omega arith)
    by false e = rw (join, e) (omega arith)

pub items_few : (text : Text) → length (items_of text) ≤ length text
unfolding items_of
items_few [] = omega arith
items_few (b ∷ rest) = let h = items_few rest in let k = join_few b (items_of rest) in omega arith

-- ---- the bytes of the items before

name_text : (index : ℕ) (name : Text) (before : Before) → text_of (name_before index name before) ≡ text_of before ++ point_line (index, name)
name_text index name before = simp append_assoc refl

names_text : (names : List Text) (index : ℕ) (before : Before) → text_of (names_before index names before) ≡ text_of before ++ flat_map point_line (enumerate_from index names)
names_text [] index before = sym (append-nil (text_of before))
names_text (name ∷ names) index before =
    names_text names (suc index) (name_before index name before)
    ∙ ap (λ (t : Text). t ++ flat_map point_line (enumerate_from (suc index) names)) (name_text index name before)
    ∙ append_assoc (text_of before) (point_line (index, name)) (flat_map point_line (enumerate_from (suc index) names))
    ∙ ap (λ (n : ℕ). text_of before ++ (point_line (index, name) ++ flat_map point_line (enumerate_from n names))) (sym (add-one index))

count_text : (index n : ℕ) (before : Before) → text_of (count_before index n before) ≡ text_of before ++ count_line (index, n)
count_text index n before = simp append_assoc refl

counts_text : (counts : List ℕ) (index : ℕ) (before : Before) → text_of (counts_before index counts before) ≡ text_of before ++ flat_map count_line (enumerate_from index counts)
counts_text [] index before = sym (append-nil (text_of before))
counts_text (n ∷ counts) index before =
    counts_text counts (suc index) (count_before index n before)
    ∙ ap (λ (t : Text). t ++ flat_map count_line (enumerate_from (suc index) counts)) (count_text index n before)
    ∙ append_assoc (text_of before) (count_line (index, n)) (flat_map count_line (enumerate_from (suc index) counts))
    ∙ ap (λ (m : ℕ). text_of before ++ (count_line (index, n) ++ flat_map count_line (enumerate_from m counts))) (sym (add-one index))

nine_parts : (t a b c d e f g h i : Text) → ((((((((t ++ a) ++ b) ++ c) ++ d) ++ e) ++ f) ++ g) ++ h) ++ i ≡ t ++ ((((((((a ++ b) ++ c) ++ d) ++ e) ++ f) ++ g) ++ h) ++ i)
nine_parts t a b c d e f g h i = simp append_assoc refl

experiment_text : (s : Summary) (before : Before) → text_of (outcome_before s.outcome (selection_before (s.selected, s.speedup) before)) ≡ text_of before ++ experiment_line s
experiment_text s before = nine_parts (text_of before) (codes "experiment") (field (codes "selected") s.selected) (number_field (codes "speedup") s.speedup) (field (codes "end") (ending_text s.outcome.ending))
    (number_field (codes "time") s.outcome.time) (number_field (codes "delay") s.outcome.delay) (number_field (codes "retired") s.outcome.retired) (number_field (codes "starts") s.outcome.starts) (codes "\n")

output_text : (s : Summary) (before : Before) → text_of (output_before (s.length, s.output.bytes) before) ≡ text_of before ++ output_line s
output_text s before = simp append_assoc refl

visits_text : (s : Summary) (before : Before) → text_of (visits_before s.visits.bytes before) ≡ text_of before ++ visits_line s
visits_text s before = simp append_assoc refl

four_parts : (t a b c d : Text) → (((t ++ a) ++ b) ++ c) ++ d ≡ t ++ (((a ++ b) ++ c) ++ d)
four_parts t a b c d = simp append_assoc refl

block_text : (s : Summary) (before : Before) → text_of (block_before s before) ≡ text_of before ++ block s
block_text s before =
    let experiment = outcome_before s.outcome (selection_before (s.selected, s.speedup) before) in
    let output = output_before (s.length, s.output.bytes) experiment in
    let counts = flat_map count_line (enumerate_from 0 s.counts) in
    visits_text s (counts_before 0 s.counts output)
    ∙ ap (λ (t : Text). t ++ visits_line s) (counts_text s.counts 0 output)
    ∙ ap (λ (t : Text). (t ++ counts) ++ visits_line s) (output_text s experiment)
    ∙ ap (λ (t : Text). ((t ++ output_line s) ++ counts) ++ visits_line s) (experiment_text s before)
    ∙ four_parts (text_of before) (experiment_line s) (output_line s) counts (visits_line s)

blocks_text : (summaries : List Summary) (before : Before) → text_of (blocks_before summaries before) ≡ text_of before ++ flat_map block summaries
blocks_text [] before = sym (append-nil (text_of before))
blocks_text (s ∷ summaries) before =
    blocks_text summaries (block_before s before)
    ∙ ap (λ (t : Text). t ++ flat_map block summaries) (block_text s before)
    ∙ append_assoc (text_of before) (block s) (flat_map block summaries)

pub profile_spelled : (p : Profile) → text_of (profile_before p) ≡ profile_text p
unfolding profile_text
profile_spelled p =
    blocks_text p.summaries (names_before 0 p.points (head_before (p.budget, length p.points)))
    ∙ ap (λ (t : Text). t ++ flat_map block p.summaries) (names_text p.points 0 (head_before (p.budget, length p.points)))

-- ---- a whole text

-- what the reader answers for these bytes: the definition's fault exactly, or a profile of which they are the text
abbrev pub IsReading : Text → Result Profile BookFault → Type 0
IsReading bytes (Ok p) = (book_fault bytes ≡ None) × IsProfile p × (bytes ≡ profile_text p)
IsReading bytes (Err f) = book_fault bytes ≡ Some f

pub reading_is : (bytes : Text) → IsReading bytes (profile_at (length bytes) (items_of bytes))
unfolding book_fault
reading_is bytes = by (profile_at (length bytes) (items_of bytes)) (profile_part (length bytes) (items_of bytes) (items_few bytes)).so
  where
    by : (r : Result Profile BookFault) → IsLastAnswer profile_before IsProfile [] (record { items = items_of bytes; place = 0 }) r → IsReading bytes r
    by (Ok p) (none, text, is) = (none, is, sym (items_keep bytes) ∙ text ∙ profile_spelled p)
    by (Err f) stop = stop

-- ---- the answer of the code

pub judged_by : (bytes : Text) (result : Result Profile (Failure BookFault)) → Gives (λ p. p) result (profile_at (length bytes) (items_of bytes)) → IsJudged result (book_fault bytes)
judged_by bytes result gives = by result gives (reading_is bytes)
  where
    by : (result : Result Profile (Failure BookFault)) → Gives (λ p. p) result (profile_at (length bytes) (items_of bytes)) → IsReading bytes (profile_at (length bytes) (items_of bytes)) → IsJudged result (book_fault bytes)
    by (Ok p) e is = (subst (IsReading bytes) e is).0
    by (Err errors.Memory) e is = tt
    by (Err (errors.Fault f)) e is = subst (IsReading bytes) e is

pub found_by : (bytes : Text) (result : Result Profile (Failure BookFault)) → Gives (λ p. p) result (profile_at (length bytes) (items_of bytes)) → IfOk result (λ p. IsProfile p × (bytes ≡ profile_text p))
found_by bytes result gives = by result gives (reading_is bytes)
  where
    by : (result : Result Profile (Failure BookFault)) → Gives (λ p. p) result (profile_at (length bytes) (items_of bytes)) → IsReading bytes (profile_at (length bytes) (items_of bytes)) → IfOk result (λ p. IsProfile p × (bytes ≡ profile_text p))
    by (Ok p) e is = let h = subst (IsReading bytes) e is in (h.1, h.2)
    by (Err e) d is = tt
