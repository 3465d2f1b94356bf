-- Each line of a profile's text: what its reader answers, against the definition.
use Rattle.std.proofs.Common.{◌≡◌, ℕ, zero, suc, ◌+◌, ◌^◌, ◌<◌, ◌≤◌, Bool, true, false, ◌&&◌, nat_lt, nat_le, List, [], ◌∷◌, length, codes, decimal, Option, Some, None, refl, ap, subst, ◌∙◌, arith, if◌then◌else◌}
use Rattle.std.specs.List.{list_all}
use Rattle.std.specs.Str.{bytes_eq}
use Rattle.std.specs.Str.Parse.{digits_value}
use Rattle.std.proofs.lemmas.Fmt.{decimal_is_IsNumeral}
use Rattle.std.proofs.lemmas.Bool.{le-leb}
use Rattle.coz_types.specs.Labels.{Text, is_label, label_before}
use Rattle.coz_types.specs.Endings.{ending_text}
use Rattle.coz_types.specs.declared.TheConstants.{MAX_NUMBER}
use Rattle.coz_types.specs.Ranges.{is_ending}
use Rattle.coz_types.specs.declared.record.Outcome.{Outcome}
use Rattle.coz_types.specs.declared.record.Summary.{Summary}
use Rattle.profile_reader.specs.declared.fault.BookField.TheVariants.{Head, Version, Budget, Points, Point, Index, Name, Experiment, Selected, Speedup, End, Time, Delay, Retired, Starts, Output, Length, Digest, Throughput, Delta, Visits, Newline}
use Rattle.profile_book.specs.Profile.{field, number_field, hex_text, is_rising}
use Rattle.coz_types.specs.Ranges.{IsDigest}
use Rattle.profile_reader.specs.Grammar.{Before, expected_field, size, latest, latest_number, point_count, names_in, counts_in, has_number, has_label, comes_after, not_before, goes_on}
use Rattle.profile_reader.specs.Reading.{Ahead, head_at, name_at, names_at, count_at, counts_at, outcome_at, selection_at, output_at, visits_at, selected_of, speedup_of, is_speedup}
use Rattle.profile_reader.proofs.Steps.{Explains, follow, stays}
use Rattle.profile_reader.proofs.FieldSteps.{word_step, number_step, label_step, speedup_step, digest_step, IsLabelThat}
use Rattle.profile_reader.proofs.EndingTexts.{ending_step}

-- ---- the head

abbrev pub head_before : ℕ × ℕ → Before
head_before h = (Newline, codes "\n") ∷ (Points, number_field (codes "points") h.1) ∷ (Budget, number_field (codes "budget") h.0) ∷ (Version, codes "\tversion=1") ∷ (Head, codes "coz-ticks") ∷ []

pub record IsHead (h : ℕ × ℕ) : Type 0 where
  pub budget : h.0 ≤ MAX_NUMBER
  pub points : h.1 ≤ 64

pub head_line : {a : Ahead} → a.place ≡ 0 → Explains head_before IsHead [] a (head_at a)
unfolding head_at
head_line start =
    follow _ (word_step Head (codes "coz-ticks") refl (λ _. refl) refl (λ _. refl) start) (λ _ _ g1 _.
    follow _ (word_step Version (codes "\tversion=1") refl (λ _. refl) refl (λ _. refl) g1.place) (λ _ _ g2 _.
    follow _ (number_step Budget MAX_NUMBER refl (λ _. refl) refl g2.place) (λ _ _ g3 budget.
    follow _ (number_step Points 64 refl (λ _. refl) refl g3.place) (λ _ _ g4 points.
    follow _ (word_step Newline (codes "\n") refl (λ _. refl) refl (λ _. refl) g4.place) (λ _ _ g5 _.
    stays refl g5.place (record { budget = budget; points = points }))))))

-- ---- names

abbrev pub name_before : ℕ → Text → Before → Before
name_before index name before = (Newline, codes "\n") ∷ (Name, field (codes "name") name) ∷ (Index, number_field (codes "index") index) ∷ (Point, codes "point") ∷ before

-- where a name may come, after n of them all
pub record AtName (all index : ℕ) (last : Option Text) (before : Before) : Type 0 where
  pub kind : expected_field before ≡ (if nat_lt index all then Point else Experiment)
  pub names : names_in before ≡ index
  pub points : point_count before ≡ all
  pub name : latest Name before ≡ last
  pub selected : latest Selected before ≡ None
  pub speedup : latest_number Speedup before ≡ 0

is_below : (m n : ℕ) → m < n → nat_lt m n ≡ true
is_below m n lt = le-leb (suc m) n lt

is_not_below : (n : ℕ) → nat_lt n n ≡ false
is_not_below n = grind arith

pub name_line : {all index : ℕ} {last : Option Text} {before : Before} {a : Ahead} → AtName all index last before → index < all → a.place ≡ size before
    → Explains (λ (name : Text). name_before index name before) (IsLabelThat (comes_after last)) before a (name_at index last a)
unfolding name_at
name_line {all = all} {index = index} {last = last} {before = before} at more place =
    let here : expected_field before ≡ Point = at.kind ∙ ap (λ (b : Bool). if b then Point else Experiment) (is_below index all more) in
    follow _ (word_step Point (codes "point") here (λ _. refl) refl (λ _. refl) place) (λ _ _ g1 _.
    follow _ (word_step Index (number_field (codes "index") index) refl (λ item. ap (λ (n : ℕ). bytes_eq item (number_field (codes "index") n)) at.names) refl (λ _. refl) g1.place) (λ _ _ g2 _.
    follow _ (label_step Name (comes_after last) refl (λ item. ap (λ (l : Option Text). has_label Name (comes_after l) item) at.name) refl g2.place) (λ _ _ g3 name.
    follow _ (word_step Newline (codes "\n") refl (λ _. refl) refl (λ _. refl) g3.place) (λ _ _ g4 _.
    stays refl g4.place name))))

pub name_leads : {all index : ℕ} {last : Option Text} {before : Before} (name : Text) → AtName all index last before → AtName all (suc index) (Some name) (name_before index name before)
name_leads {all = all} {index = index} {before = before} name at = record {
  kind = ap (λ (n : ℕ). if nat_lt (suc n) (point_count before) then Point else Experiment) at.names ∙ ap (λ (n : ℕ). if nat_lt (suc index) n then Point else Experiment) at.points;
  names = ap suc at.names;
  points = at.points;
  name = refl;
  selected = at.selected;
  speedup = at.speedup;
}

-- the items of the names from this index on, after those before
abbrev pub names_before : ℕ → List Text → Before → Before
names_before index [] before = before
names_before index (name ∷ names) before = names_before (suc index) names (name_before index name before)

abbrev pub last_of : {A : Type 0} → Option A → List A → Option A
last_of last [] = last
last_of last (x ∷ xs) = last_of (Some x) xs

-- each comes before the next, and the first after the last one before
abbrev pub rises_after : {A : Type 0} → (A → A → Bool) → Option A → List A → Bool
rises_after before None xs = is_rising before xs
rises_after before (Some x) xs = is_rising before (x ∷ xs)

pub record AreNames (left : ℕ) (last : Option Text) (names : List Text) : Type 0 where
  pub count : length names ≡ left
  pub forms : list_all is_label names ≡ true
  pub rise : rises_after label_before last names ≡ true

name_rises : (last : Option Text) (name : Text) (names : List Text) → comes_after last name ≡ true → is_rising label_before (name ∷ names) ≡ true → rises_after label_before last (name ∷ names) ≡ true
name_rises None name names first more = more
name_rises (Some last) name names first more = ap (λ (b : Bool). b && is_rising label_before (name ∷ names)) first ∙ more

no_more : (last : Option Text) → rises_after label_before last [] ≡ true
no_more None = refl
no_more (Some last) = refl

pub names_lines : (left : ℕ) {all index : ℕ} {last : Option Text} {before : Before} {a : Ahead} → left + index ≡ all → AtName all index last before → a.place ≡ size before
    → Explains (λ (names : List Text). names_before index names before) (AreNames left last) before a (names_at left index last a)
unfolding names_at
names_lines zero {last = last} is at place = stays refl place (record { count = refl; forms = refl; rise = no_more last })
names_lines (suc left) {last = last} is at place =
    follow _ (name_line at (omega arith) place) (λ name _ g1 first.
    follow _ (names_lines left (omega arith) (name_leads name at) g1.place) (λ names _ g2 more.
    stays refl g2.place (record {
      count = ap suc more.count;
      forms = ap (λ (b : Bool). b && list_all is_label names) first.form ∙ more.forms;
      rise = name_rises last name names first.order more.rise;
    })))

pub names_lead : (names : List Text) {all index end : ℕ} {last : Option Text} {before : Before} → end ≡ length names + index → AtName all index last before → AtName all end (last_of last names) (names_before index names before)
names_lead [] {all = all} {index = index} {end = end} {last = last} {before = before} e at = let same : index ≡ end = omega arith in let P : ℕ → Type 0 = λ n. AtName all n last before in subst P same at
names_lead (name ∷ names) e at = names_lead names (omega arith) (name_leads name at)

pub value_again : (n : ℕ) → n < 2 ^ 64 → digits_value 10 (decimal n) ≡ n
value_again n lt = (decimal_is_IsNumeral n lt).1

pub head_leads : (h : ℕ × ℕ) → IsHead h → AtName h.1 0 None (head_before h)
head_leads h is = let le = is.points in let e = value_again h.1 (omega arith) in record {
  kind = ap (λ (n : ℕ). if nat_lt 0 n then Point else Experiment) e;
  names = refl;
  points = e;
  name = refl;
  selected = refl;
  speedup = refl;
}

-- ---- a block: the selection

-- a block may come, after the last one
pub record AtBlock (all : ℕ) (last : Option Summary) (before : Before) : Type 0 where
  pub kind : expected_field before ≡ Experiment
  pub points : point_count before ≡ all
  pub selected : latest Selected before ≡ selected_of last
  pub speedup : latest_number Speedup before ≡ speedup_of last

pub names_end : {all : ℕ} {last : Option Text} {before : Before} → AtName all all last before → AtBlock all None before
names_end {all = all} at = record {
  kind = at.kind ∙ ap (λ (b : Bool). if b then Point else Experiment) (is_not_below all);
  points = at.points;
  selected = at.selected;
  speedup = at.speedup;
}

abbrev pub selection_before : Text × ℕ → Before → Before
selection_before x before = (Speedup, number_field (codes "speedup") x.1) ∷ (Selected, field (codes "selected") x.0) ∷ (Experiment, codes "experiment") ∷ before

pub record IsSelection (last : Option Summary) (x : Text × ℕ) : Type 0 where
  pub form : is_label x.0 ≡ true
  pub range : x.1 ≤ 95
  pub label_order : not_before (selected_of last) x.0 ≡ true
  pub speedup_order : goes_on (selected_of last) (speedup_of last) x.0 x.1 ≡ true

pub selection_part : {all : ℕ} {last : Option Summary} {before : Before} {a : Ahead} → AtBlock all last before → (a.items ≡ [] → ⊥) → a.place ≡ size before
    → Explains (λ (x : Text × ℕ). selection_before x before) (IsSelection last) before a (selection_at last a)
unfolding selection_at
selection_part {last = last} {before = before} at some place =
    follow _ (word_step Experiment (codes "experiment") at.kind (λ _. refl) refl (λ e. absurd (some e)) place) (λ _ _ g1 _.
    follow _ (label_step Selected (not_before (selected_of last)) refl (λ item. ap (λ (l : Option Text). has_label Selected (not_before l) item) at.selected) refl g1.place) (λ label _ g2 form.
    follow _ (speedup_step (selected_of last) (speedup_of last) label refl (λ item. ap (λ (l : Option Text). is_speedup l (latest_number Speedup before) label item) at.selected ∙ ap (λ (n : ℕ). is_speedup (selected_of last) n label item) at.speedup) g2.place) (λ _ _ g3 speedup.
    stays refl g3.place (record { form = form.form; range = speedup.range; label_order = form.order; speedup_order = speedup.order }))))

-- ---- the outcome

abbrev pub outcome_before : Outcome → Before → Before
outcome_before o before =
    (Newline, codes "\n") ∷ (Starts, number_field (codes "starts") o.starts) ∷ (Retired, number_field (codes "retired") o.retired) ∷ (Delay, number_field (codes "delay") o.delay)
    ∷ (Time, number_field (codes "time") o.time) ∷ (End, field (codes "end") (ending_text o.ending)) ∷ before

pub record IsOutcome (o : Outcome) : Type 0 where
  pub ending : is_ending o.ending ≡ true
  pub time : o.time ≤ MAX_NUMBER
  pub delay : o.delay ≤ o.time
  pub retired : o.retired ≤ MAX_NUMBER
  pub starts : o.starts ≤ MAX_NUMBER

pub outcome_part : {before : Before} {a : Ahead} → expected_field before ≡ End → a.place ≡ size before
    → Explains (λ (o : Outcome). outcome_before o before) IsOutcome before a (outcome_at a)
unfolding outcome_at
outcome_part at place =
    follow _ (ending_step at place) (λ _ _ g1 ending.
    follow _ (number_step Time MAX_NUMBER refl (λ _. refl) refl g1.place) (λ time _ g2 le.
    follow _ (number_step Delay time refl (λ item. ap (λ (n : ℕ). has_number Delay n item) (value_again time (omega arith))) refl g2.place) (λ _ _ g3 delay.
    follow _ (number_step Retired MAX_NUMBER refl (λ _. refl) refl g3.place) (λ _ _ g4 retired.
    follow _ (number_step Starts MAX_NUMBER refl (λ _. refl) refl g4.place) (λ _ _ g5 starts.
    follow _ (word_step Newline (codes "\n") refl (λ _. refl) refl (λ _. refl) g5.place) (λ _ _ g6 _.
    stays refl g6.place (record { ending = ending; time = le; delay = delay; retired = retired; starts = starts })))))))

-- ---- the output

abbrev pub output_before : ℕ × List ℕ → Before → Before
output_before x before = (Newline, codes "\n") ∷ (Digest, field (codes "sha256") (hex_text x.1)) ∷ (Length, number_field (codes "length") x.0) ∷ (Output, codes "output") ∷ before

pub record IsOutput (x : ℕ × List ℕ) : Type 0 where
  pub size : x.0 ≤ MAX_NUMBER
  pub digest : IsDigest x.1

pub output_part : {before : Before} {a : Ahead} → expected_field before ≡ Output → a.place ≡ size before
    → Explains (λ (x : ℕ × List ℕ). output_before x before) IsOutput before a (output_at a)
unfolding output_at
output_part at place =
    follow _ (word_step Output (codes "output") at (λ _. refl) refl (λ _. refl) place) (λ _ _ g1 _.
    follow _ (number_step Length MAX_NUMBER refl (λ _. refl) refl g1.place) (λ _ _ g2 le.
    follow _ (digest_step refl g2.place) (λ _ _ g3 digest.
    follow _ (word_step Newline (codes "\n") refl (λ _. refl) refl (λ _. refl) g3.place) (λ _ _ g4 _.
    stays refl g4.place (record { size = le; digest = digest })))))

-- ---- the counts

abbrev pub count_before : ℕ → ℕ → Before → Before
count_before index n before = (Newline, codes "\n") ∷ (Delta, number_field (codes "delta") n) ∷ (Index, number_field (codes "index") index) ∷ (Throughput, codes "throughput-point") ∷ before

-- where a count may come, after n of them all, in a block with this label and speedup
pub record AtCount (all index : ℕ) (label : Text) (speedup : ℕ) (before : Before) : Type 0 where
  pub kind : expected_field before ≡ (if nat_lt index all then Throughput else Visits)
  pub counts : counts_in before ≡ index
  pub points : point_count before ≡ all
  pub selected : latest Selected before ≡ Some label
  pub least : latest_number Speedup before ≡ speedup

pub count_line : {all index : ℕ} {label : Text} {speedup : ℕ} {before : Before} {a : Ahead} → AtCount all index label speedup before → index < all → a.place ≡ size before
    → Explains (λ (n : ℕ). count_before index n before) (λ (n : ℕ). n ≤ 1000000000) before a (count_at index a)
unfolding count_at
count_line {all = all} {index = index} {before = before} at more place =
    let here : expected_field before ≡ Throughput = at.kind ∙ ap (λ (b : Bool). if b then Throughput else Visits) (is_below index all more) in
    follow _ (word_step Throughput (codes "throughput-point") here (λ _. refl) refl (λ _. refl) place) (λ _ _ g1 _.
    follow _ (word_step Index (number_field (codes "index") index) refl (λ item. ap (λ (n : ℕ). bytes_eq item (number_field (codes "index") n)) at.counts) refl (λ _. refl) g1.place) (λ _ _ g2 _.
    follow _ (number_step Delta 1000000000 refl (λ _. refl) refl g2.place) (λ _ _ g3 n.
    follow _ (word_step Newline (codes "\n") refl (λ _. refl) refl (λ _. refl) g3.place) (λ _ _ g4 _.
    stays refl g4.place n))))

pub count_leads : {all index : ℕ} {label : Text} {speedup : ℕ} {before : Before} (n : ℕ) → AtCount all index label speedup before → AtCount all (suc index) label speedup (count_before index n before)
count_leads {all = all} {index = index} {before = before} n at = record {
  kind = ap (λ (n : ℕ). if nat_lt (suc n) (point_count before) then Throughput else Visits) at.counts ∙ ap (λ (n : ℕ). if nat_lt (suc index) n then Throughput else Visits) at.points;
  counts = ap suc at.counts;
  points = at.points;
  selected = at.selected;
  least = at.least;
}

abbrev pub counts_before : ℕ → List ℕ → Before → Before
counts_before index [] before = before
counts_before index (n ∷ counts) before = counts_before (suc index) counts (count_before index n before)

pub record AreCounts (left : ℕ) (counts : List ℕ) : Type 0 where
  pub count : length counts ≡ left
  pub deltas : list_all (λ n. nat_le n 1000000000) counts ≡ true

pub counts_lines : (left : ℕ) {all index : ℕ} {label : Text} {speedup : ℕ} {before : Before} {a : Ahead} → left + index ≡ all → AtCount all index label speedup before → a.place ≡ size before
    → Explains (λ (counts : List ℕ). counts_before index counts before) (AreCounts left) before a (counts_at left index a)
unfolding counts_at
counts_lines zero is at place = stays refl place (record { count = refl; deltas = refl })
counts_lines (suc left) is at place =
    follow _ (count_line at (omega arith) place) (λ n _ g1 first.
    follow _ (counts_lines left (omega arith) (count_leads n at) g1.place) (λ counts _ g2 more.
    stays refl g2.place (record {
      count = ap suc more.count;
      deltas = ap (λ (b : Bool). b && list_all (λ n. nat_le n 1000000000) counts) (le-leb n 1000000000 first) ∙ more.deltas;
    })))

pub counts_lead : (counts : List ℕ) {all index end : ℕ} {label : Text} {speedup : ℕ} {before : Before} → end ≡ length counts + index → AtCount all index label speedup before → AtCount all end label speedup (counts_before index counts before)
counts_lead [] {all = all} {index = index} {end = end} {label = label} {speedup = speedup} {before = before} e at = let same : index ≡ end = omega arith in let P : ℕ → Type 0 = λ n. AtCount all n label speedup before in subst P same at
counts_lead (n ∷ counts) e at = counts_lead counts (omega arith) (count_leads n at)

-- ---- the visits

abbrev pub visits_before : List ℕ → Before → Before
visits_before bytes before = (Newline, codes "\n") ∷ (Digest, field (codes "sha256") (hex_text bytes)) ∷ (Visits, codes "visits") ∷ before

pub visits_part : {before : Before} {a : Ahead} → expected_field before ≡ Visits → a.place ≡ size before
    → Explains (λ (bytes : List ℕ). visits_before bytes before) IsDigest before a (visits_at a)
unfolding visits_at
visits_part at place =
    follow _ (word_step Visits (codes "visits") at (λ _. refl) refl (λ _. refl) place) (λ _ _ g1 _.
    follow _ (digest_step refl g1.place) (λ _ _ g2 digest.
    follow _ (word_step Newline (codes "\n") refl (λ _. refl) refl (λ _. refl) g2.place) (λ _ _ g3 _.
    stays refl g3.place digest)))
