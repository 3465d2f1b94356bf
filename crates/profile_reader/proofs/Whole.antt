-- The whole of a profile's text: what its reader answers is the definition's fault, or a profile and its text.
use Rattle.std.proofs.Common.{◌≡◌, ℕ, zero, suc, ◌<◌, ◌≤◌, Bool, true, false, ◌&&◌, ◌||◌, nat_lt, List, [], ◌∷◌, ◌++◌, length, Option, Some, None, Result, Ok, Err, refl, sym, ap, subst, ◌∙◌, arith, if◌then◌else◌}
use Rattle.std.specs.List.{concat, AllByRecursion}
use Rattle.std.specs.Str.{bytes_eq}
use Rattle.std.proofs.lemmas.List.{append-nil}
use Rattle.coz_types.specs.Labels.{Text, label_before}
use Rattle.coz_types.specs.declared.record.Summary.{Summary}
use Rattle.profile_book.specs.declared.profile.Profile.{Profile}
use Rattle.profile_reader.specs.declared.fault.BookField.{BookField}
use Rattle.profile_reader.specs.declared.fault.BookField.TheVariants.{Throughput, Visits}
use Rattle.profile_reader.specs.declared.fault.BookFault.{BookFault}
use Rattle.profile_book.specs.Profile.{IsProfile, is_rising, summary_before}
use Rattle.coz_types.specs.Ranges.{IsSummary}
use Rattle.profile_reader.specs.Grammar.{Before, size, may_end, fault, first_fault, not_before, goes_on}
use Rattle.profile_reader.specs.Reading.{Ahead, bind, block_at, blocks_at, profile_at, selected_of, speedup_of}
use Rattle.profile_reader.proofs.Steps.{Explains, GoesOn, IsAnswer, follow, stays, text_of}
use Rattle.profile_reader.proofs.LineSteps.{AtBlock, AtCount, head_before, name_before, names_before, selection_before, outcome_before, output_before, count_before, counts_before, visits_before, head_line as head_part, head_leads, names_lines, names_lead, names_end, selection_part, outcome_part, output_part, counts_lines, counts_lead, visits_part, value_again, rises_after}

-- ---- a block

abbrev pub block_before : Summary → Before → Before
block_before s before = visits_before s.visits.bytes (counts_before 0 s.counts (output_before (s.length, s.output.bytes) (outcome_before s.outcome (selection_before (s.selected, s.speedup) before))))

abbrev pub ComesAfter : Option Summary → Summary → Type 0
ComesAfter None s = Unit {0}
ComesAfter (Some last) s = summary_before last s ≡ true

pub record IsBlock (all : ℕ) (last : Option Summary) (s : Summary) : Type 0 where
  pub summary : IsSummary all s
  pub order : ComesAfter last s

either_both : (a b c : Bool) → (a || b) ≡ true → (a || c) ≡ true → (a || (b && c)) ≡ true
either_both true b c d e = refl
either_both false true c d e = e
either_both false false c d e = absurd cc

comes_after_last : (last : Option Summary) (s : Summary) → not_before (selected_of last) s.selected ≡ true → goes_on (selected_of last) (speedup_of last) s.selected s.speedup ≡ true → ComesAfter last s
comes_after_last None s d e = tt
comes_after_last (Some last) s d e = either_both (label_before last.selected s.selected) (bytes_eq last.selected s.selected) (nat_lt last.speedup s.speedup) d e

-- where the counts of a block may come
counts_begin : {all : ℕ} {last : Option Summary} {before : Before} (s : Summary) → AtBlock all last before → s.speedup ≤ 95 → AtCount all 0 s.selected s.speedup (output_before (s.length, s.output.bytes) (outcome_before s.outcome (selection_before (s.selected, s.speedup) before)))
counts_begin s at le = record {
  kind = ap (λ (n : ℕ). if nat_lt 0 n then Throughput else Visits) at.points;
  counts = refl;
  points = at.points;
  selected = refl;
  least = value_again s.speedup (omega arith);
}

is_not_below : (n : ℕ) → nat_lt n n ≡ false
is_not_below n = grind arith

pub block_part : {all : ℕ} {last : Option Summary} {before : Before} {a : Ahead} → AtBlock all last before → (a.items ≡ [] → ⊥) → a.place ≡ size before
    → Explains (λ (s : Summary). block_before s before) (IsBlock all last) before a (block_at all last a)
unfolding block_at
block_part {all = all} {last = last} {before = before} at some place =
    follow _ (selection_part at some place) (λ x _ g1 selection.
    follow _ (outcome_part refl g1.place) (λ o _ g2 outcome.
    follow _ (output_part refl g2.place) (λ y _ g3 output.
    let begin : AtCount all 0 x.0 x.1 (output_before y (outcome_before o (selection_before x before))) = record {
      kind = ap (λ (n : ℕ). if nat_lt 0 n then Throughput else Visits) at.points;
      counts = refl;
      points = at.points;
      selected = refl;
      least = let le = selection.range in value_again x.1 (omega arith);
    } in
    follow _ (counts_lines all (omega arith) begin g3.place) (λ counts _ g4 are.
    let end = counts_lead counts {end = all} (omega (arith, are.count)) begin in
    follow _ (visits_part (end.kind ∙ ap (λ (b : Bool). if b then Throughput else Visits) (is_not_below all)) g4.place) (λ v _ g5 digest.
    stays refl g5.place (record {
      summary = record {
        selected = selection.form;
        speedup = selection.range;
        ending = outcome.ending;
        time = outcome.time;
        delay = outcome.delay;
        retired = outcome.retired;
        starts = outcome.starts;
        size = output.size;
        output = output.digest;
        visits = digest;
        counts = are.count;
        deltas = are.deltas;
      };
      order = comes_after_last last _ selection.label_order selection.speedup_order;
    }))))))

pub block_leads : {all : ℕ} {last : Option Summary} {before : Before} (s : Summary) → IsSummary all s → AtBlock all last before → AtBlock all (Some s) (block_before s before)
block_leads {all = all} s is at =
    let end = counts_lead s.counts {end = all} (omega (arith, is.counts)) (counts_begin s at is.speedup) in
    record { kind = refl; points = end.points; selected = end.selected; speedup = end.least }

-- ---- to the end

-- what a reader of all that is ahead answers: at Ok there is no fault and all bytes are those of the value; at Err it is the definition's fault
abbrev pub IsLastAnswer : {X : Type 0} → (X → Before) → (X → Type 0) → Before → Ahead → Result X BookFault → Type 0
IsLastAnswer after P before a (Ok x) = (first_fault before a.items ≡ None) × (text_of before ++ concat a.items ≡ text_of (after x)) × P x
IsLastAnswer after P before a (Err f) = first_fault before a.items ≡ Some f

pub record ExplainsAll {X : Type 0} (after : X → Before) (P : X → Type 0) (before : Before) (a : Ahead) (r : Result X BookFault) : Type 0 where
  pub so : IsLastAnswer after P before a r

behind_all : {Y : Type 0} (after : Y → Before) (Q : Y → Type 0) {before mid : Before} {a b : Ahead} → GoesOn before a mid b → (r : Result Y BookFault) → IsLastAnswer after Q mid b r → IsLastAnswer after Q before a r
behind_all after Q goes (Ok y) (none, text, q) = (goes.fault ∙ none, goes.text ∙ text, q)
behind_all after Q goes (Err f) stop = goes.fault ∙ stop

pub follow_all : {X Y : Type 0} {mid : X → Before} {P : X → Type 0} {after : Y → Before} {Q : Y → Type 0} {before : Before} {a : Ahead} {r : Result (X × Ahead) BookFault} (f : X × Ahead → Result Y BookFault)
    → Explains mid P before a r
    → ((x : X) (b : Ahead) → GoesOn before a (mid x) b → P x → ExplainsAll after Q (mid x) b (f (x, b)))
    → ExplainsAll after Q before a (bind r f)
unfolding bind
follow_all {X = X} {Y = Y} {mid = mid} {P = P} {after = after} {Q = Q} {before = before} {a = a} {r = r} f e more = record { so = by r e.so }
  where
    by : (r : Result (X × Ahead) BookFault) → IsAnswer mid P before a r → IsLastAnswer after Q before a (bind r f)
    by (Ok x) (goes, p) = behind_all after Q goes (f x) (more x.0 x.1 goes p).so
    by (Err f) stop = stop

pub made_of : {X Y : Type 0} {mid : X → Before} {P : X → Type 0} {after : Y → Before} {Q : Y → Type 0} {before : Before} {a : Ahead} {r : Result X BookFault} (f : X → Y)
    → ExplainsAll mid P before a r
    → ((x : X) → P x → (mid x ≡ after (f x)) × Q (f x))
    → ExplainsAll after Q before a (bind r (λ x. Ok (f x)))
unfolding bind
made_of {X = X} {Y = Y} {mid = mid} {P = P} {after = after} {Q = Q} {before = before} {a = a} {r = r} f e more = record { so = by r e.so }
  where
    by : (r : Result X BookFault) → IsLastAnswer mid P before a r → IsLastAnswer after Q before a (bind r (λ x. Ok (f x)))
    by (Ok x) (none, text, p) = let m = more x p in (none, text ∙ ap (λ (w : Before). text_of w) m.0, m.1)
    by (Err f) stop = stop

-- ---- the blocks

abbrev pub blocks_before : List Summary → Before → Before
blocks_before [] before = before
blocks_before (s ∷ summaries) before = blocks_before summaries (block_before s before)

pub record AreBlocks (all : ℕ) (last : Option Summary) (summaries : List Summary) : Type 0 where
  pub each : AllByRecursion (IsSummary all) summaries
  pub rise : rises_after summary_before last summaries ≡ true

block_rises : (last : Option Summary) (s : Summary) (summaries : List Summary) → ComesAfter last s → is_rising summary_before (s ∷ summaries) ≡ true → rises_after summary_before last (s ∷ summaries) ≡ true
block_rises None s summaries first more = more
block_rises (Some last) s summaries first more = ap (λ (b : Bool). b && is_rising summary_before (s ∷ summaries)) first ∙ more

no_more : (last : Option Summary) → rises_after summary_before last [] ≡ true
no_more None = refl
no_more (Some last) = refl

counts_longer : (counts : List ℕ) (index : ℕ) (before : Before) → length before ≤ length (counts_before index counts before)
counts_longer [] index before = omega arith
counts_longer (n ∷ counts) index before = let h = counts_longer counts (suc index) (count_before index n before) in omega arith

block_longer : (s : Summary) (before : Before) → length before < length (block_before s before)
block_longer s before = let h = counts_longer s.counts 0 (output_before (s.length, s.output.bytes) (outcome_before s.outcome (selection_before (s.selected, s.speedup) before))) in omega arith

done_here : {all : ℕ} {last : Option Summary} {before : Before} (place : ℕ) → AtBlock all last before → IsLastAnswer (λ (summaries : List Summary). blocks_before summaries before) (AreBlocks all last) before (record { items = []; place = place }) (Ok [])
done_here {last = last} {before = before} place at =
    (ap (λ (k : BookField). if may_end k then None else Some (fault k before)) at.kind, append-nil (text_of before), record { each = tt; rise = no_more last })

pub blocks_part : (most : ℕ) {all : ℕ} {last : Option Summary} {before : Before} {a : Ahead} → AtBlock all last before → length a.items ≤ most → a.place ≡ size before
    → ExplainsAll (λ (summaries : List Summary). blocks_before summaries before) (AreBlocks all last) before a (blocks_at most all last a)
unfolding blocks_at
blocks_part zero {all = all} {last = last} {before = before} {a = a} at le place = record { so = by a.items le }
  where
    by : (items : List Text) → length items ≤ 0 → IsLastAnswer (λ (summaries : List Summary). blocks_before summaries before) (AreBlocks all last) before (record { items = items; place = a.place }) (Ok [])
    by [] le = done_here a.place at
    by (item ∷ items) le = absurd (omega arith)
blocks_part (suc most) {all = all} {last = last} {before = before} {a = a} at le place =
    by a.items le place (λ s is b. blocks_part most (block_leads s is at))
  where
    by : (items : List Text) → length items ≤ suc most → a.place ≡ size before
        → ((s : Summary) → IsSummary all s → (b : Ahead) → length b.items ≤ most → b.place ≡ size (block_before s before) → ExplainsAll (λ (summaries : List Summary). blocks_before summaries (block_before s before)) (AreBlocks all (Some s)) (block_before s before) b (blocks_at most all (Some s) b))
        → ExplainsAll (λ (summaries : List Summary). blocks_before summaries before) (AreBlocks all last) before (record { items = items; place = a.place }) (blocks_at (suc most) all last (record { items = items; place = a.place }))
    by [] le place more = record { so = done_here a.place at }
    by (item ∷ items) le place more =
        follow_all _ (block_part at (λ e. absurd cc) place) (λ s b g is.
        let long = block_longer s before in
        let few : length b.items ≤ most = omega (arith, g.count) in
        made_of (λ summaries. s ∷ summaries) (more s is.summary b few g.place) (λ summaries are. (
          refl,
          record {
            each = (is.summary, are.each);
            rise = block_rises last s summaries is.order are.rise;
          },
        )))

-- ---- the profile

names_longer : (names : List Text) (index : ℕ) (before : Before) → length before ≤ length (names_before index names before)
names_longer [] index before = omega arith
names_longer (name ∷ names) index before = let h = names_longer names (suc index) (name_before index name before) in omega arith

abbrev pub profile_before : Profile → Before
profile_before p = blocks_before p.summaries (names_before 0 p.points (head_before (p.budget, length p.points)))

pub profile_part : (most : ℕ) (items : List Text) → length items ≤ most → ExplainsAll profile_before IsProfile [] (record { items = items; place = 0 }) (profile_at most items)
unfolding profile_at
profile_part most items le =
    follow_all _ (head_part refl) (λ h _ g1 is.
    follow_all _ (names_lines h.1 (omega arith) (head_leads h is) g1.place) (λ names b g2 are.
    let begin = names_end (names_lead names {end = h.1} (omega (arith, are.count)) (head_leads h is)) in
    let long = names_longer names 0 (head_before h) in
    let few : length b.items ≤ most = omega (arith, g1.count, g2.count) in
    made_of (λ summaries. record { budget = h.0; points = names; summaries = summaries }) (blocks_part most begin few g2.place) (λ summaries bs. (
      ap (λ (n : ℕ). blocks_before summaries (names_before 0 names (head_before (h.0, n)))) (sym are.count),
      record {
        budget = is.budget;
        points = let e = are.count in let small = is.points in omega arith;
        names = are.forms;
        names_rise = are.rise;
        summaries = let P : ℕ → Type 0 = λ n. AllByRecursion (IsSummary n) summaries in subst P (sym are.count) bs.each;
        blocks_rise = bs.rise;
      },
    ))))
