-- The items of a profile within the ranges and orders are read as this profile.
use Rattle.std.proofs.Common.{◌≡◌, ℕ, zero, suc, ◌≤◌, Bool, true, false, ◌&&◌, ◌||◌, nat_lt, List, [], ◌∷◌, ◌++◌, length, codes, Option, Some, None, Result, Ok, refl, ap, subst, ◌∙◌, arith}
use Rattle.std.specs.List.{AllByRecursion}
use Rattle.std.specs.Str.{bytes_eq}
use Rattle.coz_types.specs.Labels.{Text, label_before}
use Rattle.coz_types.specs.Endings.{ending_text}
use Rattle.coz_types.specs.declared.TheConstants.{MAX_NUMBER}
use Rattle.coz_types.specs.Ranges.{is_ending}
use Rattle.profile_reader.specs.EndingSpellings.{is_ending_text}
use Rattle.coz_types.specs.declared.ending.Ending.{Ending}
use Rattle.coz_types.specs.declared.record.Outcome.{Outcome}
use Rattle.coz_types.specs.declared.record.Summary.{Summary}
use Rattle.profile_book.specs.declared.profile.Profile.{Profile}
use Rattle.profile_reader.specs.declared.fault.BookField.TheVariants.{End, Time, Delay, Retired, Starts, Newline}
use Rattle.profile_reader.specs.declared.fault.BookFault.{BookFault}
use Rattle.profile_book.specs.Profile.{field, number_field, IsProfile, is_rising, summary_before}
use Rattle.coz_types.specs.Ranges.{IsSummary}
use Rattle.profile_reader.specs.Grammar.{is_field, value_in}
use Rattle.profile_reader.specs.Reading.{Ahead, bind, ending_at, ending_in, outcome_at, block_at, blocks_at, profile_at, counts_at}
use Rattle.profile_reader.proofs.FieldSteps.{both}
use Rattle.profile_reader.proofs.LineSteps.{IsOutcome, IsSelection, rises_after}
use Rattle.profile_reader.proofs.Whole.{ComesAfter}
use Rattle.profile_reader.proofs.EndingsAgain.{ending_read}
use Rattle.profile_reader.proofs.Turns.{block_opens, all_read}
use Rattle.profile_reader.proofs.Again.{ReadsOn, and_then, reads_last, reads_end, item_again, word_again, number_again, field_is, and_both, head_again, head_items, names_again, names_items, counts_again, counts_items, selection_again, selection_items, output_again, output_items, visits_again, visits_items}

ending_again : (ending : Ending) → is_ending ending ≡ true → ReadsOn (λ a. ending_at a) (field (codes "end") (ending_text ending) ∷ []) ending
unfolding ending_at
ending_again ending e = let h = ending_read ending e in
    item_again End (λ item. is_field End item && is_ending_text (value_in End item)) (λ item. ending_in (value_in End item)) _ ending (and_both _ _ (field_is End (λ _. refl) (ending_text ending)) h.passes) h.value

abbrev pub outcome_items : Outcome → List Text
outcome_items o = field (codes "end") (ending_text o.ending) ∷ number_field (codes "time") o.time ∷ number_field (codes "delay") o.delay ∷ number_field (codes "retired") o.retired ∷ number_field (codes "starts") o.starts ∷ codes "\n" ∷ []

outcome_again : (o : Outcome) → IsOutcome o → ReadsOn outcome_at (outcome_items o) o
unfolding outcome_at
outcome_again o is =
    let le = is.time in
    and_then _ (ending_again o.ending is.ending) (and_then _ (number_again Time MAX_NUMBER o.time (λ _. refl) (omega arith) is.time) (and_then _ (number_again Delay o.time o.delay (λ _. refl) (omega arith) is.delay)
    (and_then _ (number_again Retired MAX_NUMBER o.retired (λ _. refl) (omega arith) is.retired) (and_then _ (number_again Starts MAX_NUMBER o.starts (λ _. refl) (omega arith) is.starts) (and_then _ (word_again Newline (codes "\n")) reads_end)))))

abbrev pub block_items : Summary → List Text
block_items s = selection_items (s.selected, s.speedup) ++ (outcome_items s.outcome ++ (output_items (s.length, s.output.bytes) ++ (counts_items 0 s.counts ++ visits_items s.visits.bytes)))

first_or : (a b c : Bool) → (a || (b && c)) ≡ true → ((a || b) ≡ true) × ((a || c) ≡ true)
first_or true b c e = (refl, refl)
first_or false true c e = (refl, e)
first_or false false c e = absurd cc

selection_is : (all : ℕ) (last : Option Summary) (s : Summary) → IsSummary all s → ComesAfter last s → IsSelection last (s.selected, s.speedup)
selection_is all None s is after = record { form = is.selected; range = is.speedup; label_order = refl; speedup_order = refl }
selection_is all (Some last) s is after =
    let h = first_or (label_before last.selected s.selected) (bytes_eq last.selected s.selected) (nat_lt last.speedup s.speedup) after in
    record { form = is.selected; range = is.speedup; label_order = h.0; speedup_order = h.1 }

all_counts : (all : ℕ) (s : Summary) → IsSummary all s → ReadsOn (counts_at all 0) (counts_items 0 s.counts) s.counts
all_counts all s is = let P : ℕ → Type 0 = λ n. ReadsOn (counts_at n 0) (counts_items 0 s.counts) s.counts in subst P is.counts (counts_again s.counts 0 is.deltas)

block_again : (all : ℕ) (last : Option Summary) (s : Summary) → IsSummary all s → ComesAfter last s → ReadsOn (block_at all last) (block_items s) s
unfolding block_at
block_again all last s is after =
    and_then _ (selection_again last (s.selected, s.speedup) (selection_is all last s is after))
    (and_then _ (outcome_again s.outcome (record { ending = is.ending; time = is.time; delay = is.delay; retired = is.retired; starts = is.starts }))
    (and_then _ (output_again (s.length, s.output.bytes) (record { size = is.size; digest = is.output }))
    (and_then _ (all_counts all s is) (reads_last (λ (bytes : List ℕ). let t : Summary = record { selected = s.selected; speedup = s.speedup; outcome = s.outcome; length = s.length; output = record { bytes = s.output.bytes }; counts = s.counts; visits = record { bytes = bytes } } in t) (visits_again s.visits.bytes is.visits)))))

abbrev pub blocks_items : List Summary → List Text
blocks_items [] = []
blocks_items (s ∷ summaries) = block_items s ++ blocks_items summaries

next_after : (last : Option Summary) (s : Summary) (summaries : List Summary) → rises_after summary_before last (s ∷ summaries) ≡ true → ComesAfter last s × (is_rising summary_before (s ∷ summaries) ≡ true)
next_after None s summaries e = (tt, e)
next_after (Some last) s summaries e = both (summary_before last s) (is_rising summary_before (s ∷ summaries)) e

blocks_again : (summaries : List Summary) (left all : ℕ) (last : Option Summary) (place : ℕ) → length summaries ≤ left → AllByRecursion (IsSummary all) summaries → rises_after summary_before last summaries ≡ true
    → blocks_at left all last (record { items = blocks_items summaries; place = place }) ≡ Ok summaries
unfolding bind
blocks_again [] left all last place le each rise = all_read left all last (record { items = []; place = place }) refl
blocks_again (s ∷ summaries) zero all last place le each rise = absurd (omega arith)
blocks_again (s ∷ summaries) (suc left) all last place le each rise =
    let next = next_after last s summaries rise in
    let one = (block_again all last s each.0 next.0).so (blocks_items summaries) place in
    let more = blocks_again summaries left all (Some s) one.0 (omega arith) each.1 next.1 in
    block_opens left all last (record { items = blocks_items (s ∷ summaries); place = place }) refl
    ∙ ap (λ (r : Result (Summary × Ahead) BookFault). bind r (λ first. bind (blocks_at left all (Some first.0) first.1) (λ others. Ok (first.0 ∷ others)))) one.1
    ∙ ap (λ (r : Result (List Summary) BookFault). bind r (λ others. Ok (s ∷ others))) more

abbrev pub book_items : Profile → List Text
book_items p = head_items (p.budget, length p.points) ++ (names_items 0 p.points ++ blocks_items p.summaries)

pub profile_again : (p : Profile) (left : ℕ) → length p.summaries ≤ left → IsProfile p → profile_at left (book_items p) ≡ Ok p
unfolding profile_at bind
profile_again p left le is =
    let h = (head_again (p.budget, length p.points) (record { budget = is.budget; points = is.points })).so (names_items 0 p.points ++ blocks_items p.summaries) 0 in
    let n = (names_again p.points 0 None is.names is.names_rise).so (blocks_items p.summaries) h.0 in
    let b = blocks_again p.summaries left (length p.points) None n.0 le is.summaries is.blocks_rise in
    rw (h.1, n.1, b) refl
