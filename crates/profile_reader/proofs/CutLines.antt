-- The text of a profile is cut into the items of its lines.
use Rattle.std.proofs.Common.{rules, ◌≡◌, inr, ℕ, suc, ◌+◌, ◌^◌, ◌<◌, ◌≤◌, Bool, true, false, not, ◌&&◌, ◌||◌, ◌==◌, nat_lt, nat_le, List, [], ◌∷◌, ◌++◌, length, codes, decimal, flat_map, Option, Some, None, refl, sym, ap, subst, ◌∙◌, append_assoc, arith, add-one, if◌then◌else◌}
use Rattle.std.specs.List.{list_all, concat, enumerate_from, AllByRecursion}
use Rattle.std.specs.Str.Parse.{digits_value, AllDigits}
use Rattle.std.specs.Char.{digit_value}
use Rattle.std.specs.Fmt.{digits}
use Rattle.std.proofs.lemmas.Fmt.{decimal_is_IsNumeral, digits_is_IsNumeral}
use Rattle.std.proofs.lemmas.Bool.{leb-true}
use Rattle.std.proofs.lemmas.List.{append-nil}
use Rattle.coz_types.specs.Labels.{Text, Scan, is_scanned, scan_step, parts_of, line_number, is_decimal, is_label, is_empty, is_written}
use Rattle.coz_types.specs.Endings.{ending_text, address_text, cause_text}
use Rattle.coz_types.specs.declared.TheConstants.{MAX_NUMBER}
use Rattle.coz_types.specs.Ranges.{is_ending, last_word}
use Rattle.coz_types.specs.declared.ending.Ending.{Ending}
use Rattle.coz_types.specs.declared.ending.Ending.TheVariants.{Exited, Trapped, Unsupported, Clock, OutputFull, VisitsFull, Stalled, Spent}
use Rattle.coz_types.specs.declared.ending.TrapCause.{TrapCause}
use Rattle.coz_types.specs.declared.ending.TrapCause.TheVariants.{Fetch, Illegal, Misaligned, Access, Break}
use Rattle.coz_types.specs.declared.record.Summary.{Summary}
use Rattle.profile_book.specs.declared.profile.Profile.{Profile}
use Rattle.profile_book.specs.Profile.{field, number_field, hex_text, IsProfile, profile_text, head_line, point_line, count_line, block, experiment_line, output_line}
use Rattle.coz_types.specs.Ranges.{IsDigest, IsSummary}
use Rattle.profile_reader.specs.Items.{items_of, join, begins_item, is_cut}
use Rattle.profile_reader.specs.Grammar.{is_lower_hex}
use Rattle.profile_reader.proofs.Cuts.{newline_is, joins, one_apart}
use Rattle.profile_reader.proofs.FieldSteps.{both}
use Rattle.profile_labels.proofs.Spellings.{spelled}
use Rattle.profile_reader.proofs.Again.{head_items, name_items, names_items, count_items, counts_items, selection_items, output_items, visits_items, hex_is, and_both}
use Rattle.profile_reader.proofs.BlocksAgain.{outcome_items, block_items, blocks_items, book_items}

-- no byte is a cut
abbrev pub plain : Text → Bool
plain text = list_all (λ b. not (is_cut b)) text

not_true : (c : Bool) → not c ≡ true → c ≡ false
not_true true e = absurd cc
not_true false e = refl

other_byte : (b : ℕ) → is_cut b ≡ false → (b == 10) ≡ false
other_byte b e = by (b == 9) (b == 10) e
  where
    by : (x y : Bool) → (x || y) ≡ false → y ≡ false
    by true y e = absurd cc
    by false y e = e

piece : (b : ℕ) (v rest : Text) → (b == 10) ≡ false → plain v ≡ true → begins_item rest ≡ true → items_of (b ∷ (v ++ rest)) ≡ (b ∷ v) ∷ items_of rest
unfolding items_of
piece b [] rest one all begins = one_apart b rest (inr begins)
piece b (c ∷ v) rest one all begins =
    let h = both (not (is_cut c)) (plain v) all in
    let none = not_true (is_cut c) h.0 in
    ap (join b) (piece c v rest (other_byte c none) h.1 begins) ∙ joins b c v (items_of rest) one none

-- these items are those of their bytes, whatever follows
pub record AreCut (items : List Text) : Type 0 where
  pub so : (rest : Text) → items_of (concat items ++ rest) ≡ items ++ items_of rest

concat_parts : (a b : List Text) → concat (a ++ b) ≡ concat a ++ concat b
concat_parts [] b = refl
concat_parts (t ∷ a) b = ap (λ (u : Text). t ++ u) (concat_parts a b) ∙ sym (append_assoc t (concat a) (concat b))

cut_both : {a b : List Text} → AreCut a → AreCut b → AreCut (a ++ b)
cut_both {a = a} {b = b} one two = record {
  so = λ rest.
      ap (λ (t : Text). items_of (t ++ rest)) (concat_parts a b)
      ∙ ap items_of (append_assoc (concat a) (concat b) rest)
      ∙ one.so (concat b ++ rest)
      ∙ ap (λ (is : List Text). a ++ is) (two.so rest)
      ∙ sym (append_assoc a b (items_of rest));
}

cut_none : AreCut []
cut_none = record { so = λ rest. refl }

abbrev tabs : List Text → List Text
tabs [] = codes "\n" ∷ []
tabs (v ∷ values) = (9 ∷ v) ∷ tabs values

tabs_begin : (values : List Text) (rest : Text) → begins_item (concat (tabs values) ++ rest) ≡ true
tabs_begin [] rest = refl
tabs_begin (v ∷ values) rest = refl

tabs_cut : (values : List Text) → AllByRecursion (λ v. plain v ≡ true) values → (rest : Text) → items_of (concat (tabs values) ++ rest) ≡ tabs values ++ items_of rest
tabs_cut [] all rest = newline_is rest
tabs_cut (v ∷ values) all rest =
    ap (λ (t : Text). items_of (9 ∷ t)) (append_assoc v (concat (tabs values)) rest)
    ∙ piece 9 v (concat (tabs values) ++ rest) refl all.0 (tabs_begin values rest)
    ∙ ap (λ (is : List Text). (9 ∷ v) ∷ is) (tabs_cut values all.1 rest)

abbrev is_word : Text → Bool
is_word [] = false
is_word (b ∷ w) = not (b == 10) && plain w

line_cut : (word : Text) (values : List Text) → is_word word ≡ true → AllByRecursion (λ v. plain v ≡ true) values → AreCut (word ∷ tabs values)
line_cut [] values ok all = absurd cc
line_cut (b ∷ w) values ok all = let h = both (not (b == 10)) (plain w) ok in record {
  so = λ rest.
      ap (λ (t : Text). items_of (b ∷ t)) (append_assoc w (concat (tabs values)) rest)
      ∙ piece b w (concat (tabs values) ++ rest) (not_true (b == 10) h.0) h.1 (tabs_begin values rest)
      ∙ ap (λ (is : List Text). (b ∷ w) ∷ is) (tabs_cut values all rest);
}

-- ---- values without cuts

plain_both : (a b : Text) → plain a ≡ true → plain b ≡ true → plain (a ++ b) ≡ true
plain_both [] b d e = e
plain_both (x ∷ a) b d e = let h = both (not (is_cut x)) (plain a) d in and_both _ _ h.0 (plain_both a b h.1 e)

no_cut : (b : ℕ) (P : ℕ → Type 0) → P b → (P 9 → ⊥) → (P 10 → ⊥) → not (is_cut b) ≡ true
no_cut b P p nine ten = by (b == 9) (b == 10) refl refl
  where
    by : (x y : Bool) → (b == 9) ≡ x → (b == 10) ≡ y → not (x || y) ≡ true
    by true y d e = let same : b ≡ 9 = search (rules, d) in absurd (nine (subst P same p))
    by false true d e = let same : b ≡ 10 = search (rules, e) in absurd (ten (subst P same p))
    by false false d e = refl

digits_plain : (base : ℕ) (ds : Text) → base ≤ 16 → AllDigits base ds → plain ds ≡ true
digits_plain base [] le all = refl
digits_plain base (d ∷ ds) le all = and_both _ _ (no_cut d (λ n. digit_value n < base) all.0 (λ lt. big 9 lt refl) (λ lt. big 10 lt refl)) (digits_plain base ds le all.1)
  where
    big : (n : ℕ) → digit_value n < base → digit_value n ≡ 36 → ⊥
    big n lt e = omega arith

decimal_plain : (n : ℕ) → n < 2 ^ 64 → plain (decimal n) ≡ true
decimal_plain n lt = digits_plain 10 (decimal n) (omega arith) (decimal_is_IsNumeral n lt).0.1

lower_plain : (text : Text) → list_all is_lower_hex text ≡ true → plain text ≡ true
lower_plain [] e = refl
lower_plain (b ∷ text) e =
    let h = both (is_lower_hex b) (list_all is_lower_hex text) e in
    and_both _ _ (no_cut b (λ n. is_lower_hex n ≡ true) h.0 (λ e. absurd cc) (λ e. absurd cc)) (lower_plain text h.1)

hex_plain : (bytes : List ℕ) → IsDigest bytes → plain (hex_text bytes) ≡ true
hex_plain bytes is = lower_plain (hex_text bytes) (hex_is bytes is.bytes_fit).lower

stops : (at : Scan) → (scan_step at 9 ≡ None) × (scan_step at 10 ≡ None)
stops None = (refl, refl)
stops (Some None) = (refl, refl)
stops (Some (Some high)) = (refl, refl)

scan_plain : (at : Option Scan) (text : Text) → is_scanned at text ≡ true → plain text ≡ true
scan_plain None text e = absurd cc
scan_plain (Some at) [] e = refl
scan_plain (Some at) (b ∷ rest) e =
    let h = stops at in
    and_both _ _ (no_cut b (λ n. is_scanned (scan_step at n) rest ≡ true) e (λ e. let never : false ≡ true = sym (ap (λ (s : Option Scan). is_scanned s rest) h.0) ∙ e in absurd cc) (λ e. let never : false ≡ true = sym (ap (λ (s : Option Scan). is_scanned s rest) h.1) ∙ e in absurd cc)) (scan_plain (scan_step at b) rest e)

line_number_plain : (text : Text) → nat_lt 0 (line_number text) ≡ true → plain text ≡ true
line_number_plain text e = by (is_decimal 4294967295 text) refl e
  where
    by : (c : Bool) → is_decimal 4294967295 text ≡ c → nat_lt 0 (if c then digits_value 10 text else 0) ≡ true → plain text ≡ true
    by true d e = let h = spelled 4294967295 text d in let le = h.1 in ap plain h.0 ∙ decimal_plain (digits_value 10 text) (omega arith)
    by false d e = absurd cc

parts_plain : (label : Text) (p : Text × Text) → parts_of label ≡ Some p → plain p.0 ≡ true → plain p.1 ≡ true → plain label ≡ true
parts_plain [] p e front back = absurd cc
parts_plain (b ∷ rest) p e front back = by (parts_of rest) (b == 58) refl refl e (λ q d. parts_plain rest q d)
  where
    by : (o : Option (Text × Text)) (c : Bool) → parts_of rest ≡ o → (b == 58) ≡ c
        → elim o as (λ _. Option (Text × Text)) [ Some q ↦ Some (b ∷ q.0, q.1) | None ↦ if c then Some ([], rest) else None ] ≡ Some p
        → ((q : Text × Text) → parts_of rest ≡ Some q → plain q.0 ≡ true → plain q.1 ≡ true → plain rest ≡ true) → plain (b ∷ rest) ≡ true
    by (Some q) c d k e more =
        let same : (b ∷ q.0, q.1) ≡ p = cc in
        let one : b ∷ q.0 ≡ p.0 = ap (λ (x : Text × Text). x.0) same in
        let two : q.1 ≡ p.1 = ap (λ (x : Text × Text). x.1) same in
        let h = both (not (is_cut b)) (plain q.0) (ap plain one ∙ front) in
        and_both _ _ h.0 (more q d h.1 (ap plain two ∙ back))
    by None true d k e more =
        let same : ([], rest) ≡ p = cc in
        let two : rest ≡ p.1 = ap (λ (x : Text × Text). x.1) same in
        let is : b ≡ 58 = search (rules, k) in
        and_both _ _ (ap (λ (n : ℕ). not (is_cut n)) is) (ap plain two ∙ back)
    by None false d k e more = absurd cc

label_plain : (label : Text) → is_label label ≡ true → plain label ≡ true
label_plain label e = by (parts_of label) refl e
  where
    by : (o : Option (Text × Text)) → parts_of label ≡ o → elim o as (λ _. Bool) [ Some p ↦ not (is_empty p.0) && (is_written p.0 && nat_lt 0 (line_number p.1)) | None ↦ false ] ≡ true → plain label ≡ true
    by None d e = absurd cc
    by (Some p) d e =
        let h = both (not (is_empty p.0)) (is_written p.0 && nat_lt 0 (line_number p.1)) e in
        let k = both (is_written p.0) (nat_lt 0 (line_number p.1)) h.1 in
        parts_plain label p d (scan_plain (Some None) p.0 k.0) (line_number_plain p.1 k.1)

small : (n : ℕ) → n ≤ last_word → n < 16 ^ 64
small n le = omega arith

cause_plain : (c : TrapCause) → plain (cause_text c) ≡ true
cause_plain Fetch = refl
cause_plain Illegal = refl
cause_plain Misaligned = refl
cause_plain Access = refl
cause_plain Break = refl

ending_plain : (ending : Ending) → is_ending ending ≡ true → plain (ending_text ending) ≡ true
ending_plain (Exited code) e = let le : code ≤ 255 = leb-true _ _ e in decimal_plain code (omega arith)
ending_plain (Unsupported number) e = let le : number ≤ last_word = leb-true _ _ e in decimal_plain number (omega arith)
ending_plain Clock e = refl
ending_plain OutputFull e = refl
ending_plain VisitsFull e = refl
ending_plain Stalled e = refl
ending_plain Spent e = refl
ending_plain (Trapped trap) e =
    let h = both (nat_le trap.hart.0 255) (nat_le trap.pc last_word) e in
    let hart_le : trap.hart.0 ≤ 255 = leb-true _ _ h.0 in
    let pc_le : trap.pc ≤ last_word = leb-true _ _ h.1 in
    let pc = digits_plain 16 (digits 16 false trap.pc) (omega arith) (digits_is_IsNumeral 16 false (omega arith) (omega arith) trap.pc (small trap.pc pc_le)).0.1 in
    let a = codes "trapped:" ++ cause_text trap.cause in
    let b = a ++ codes ":" in
    let c = b ++ decimal trap.hart.0 in
    let d = c ++ codes ":" in
    let a_plain : plain a ≡ true = plain_both (codes "trapped:") (cause_text trap.cause) refl (cause_plain trap.cause) in
    let b_plain : plain b ≡ true = plain_both a (codes ":") a_plain refl in
    let c_plain : plain c ≡ true = plain_both b (decimal trap.hart.0) b_plain (decimal_plain trap.hart.0 (omega arith)) in
    let d_plain : plain d ≡ true = plain_both c (codes ":") c_plain refl in
    plain_both d (address_text trap.pc) d_plain pc

-- ---- the lines

head_cut : (h : ℕ × ℕ) → h.0 ≤ MAX_NUMBER → h.1 ≤ 64 → AreCut (head_items h)
head_cut h budget points = line_cut (codes "coz-ticks") (codes "version=1" ∷ (codes "budget" ++ 61 ∷ decimal h.0) ∷ (codes "points" ++ 61 ∷ decimal h.1) ∷ []) refl (refl, (decimal_plain h.0 (omega arith), (decimal_plain h.1 (omega arith), tt)))

names_cut : (names : List Text) (index : ℕ) → length names + index ≤ 64 → list_all is_label names ≡ true → AreCut (names_items index names)
names_cut [] index le forms = cut_none
names_cut (name ∷ names) index le forms =
    let h = both (is_label name) (list_all is_label names) forms in
    cut_both (line_cut (codes "point") ((codes "index" ++ 61 ∷ decimal index) ∷ (codes "name" ++ 61 ∷ name) ∷ []) refl (decimal_plain index (omega arith), (label_plain name h.0, tt))) (names_cut names (suc index) (omega arith) h.1)

counts_cut : (counts : List ℕ) (index : ℕ) → length counts + index ≤ 64 → list_all (λ n. nat_le n 1000000000) counts ≡ true → AreCut (counts_items index counts)
counts_cut [] index le fit = cut_none
counts_cut (n ∷ counts) index le fit =
    let h = both (nat_le n 1000000000) (list_all (λ n. nat_le n 1000000000) counts) fit in
    let n_le : n ≤ 1000000000 = leb-true _ _ h.0 in
    cut_both (line_cut (codes "throughput-point") ((codes "index" ++ 61 ∷ decimal index) ∷ (codes "delta" ++ 61 ∷ decimal n) ∷ []) refl (decimal_plain index (omega arith), (decimal_plain n (omega arith), tt))) (counts_cut counts (suc index) (omega arith) h.1)

block_cut : (all : ℕ) (s : Summary) → all ≤ 64 → IsSummary all s → AreCut (block_items s)
block_cut all s le is =
    let speedup = is.speedup in
    let time = is.time in
    let delay = is.delay in
    let retired = is.retired in
    let starts = is.starts in
    let size = is.size in
    let count = is.counts in
    cut_both (line_cut (codes "experiment") ((codes "selected" ++ 61 ∷ s.selected) ∷ (codes "speedup" ++ 61 ∷ decimal s.speedup) ∷ (codes "end" ++ 61 ∷ ending_text s.outcome.ending) ∷ (codes "time" ++ 61 ∷ decimal s.outcome.time) ∷ (codes "delay" ++ 61 ∷ decimal s.outcome.delay) ∷ (codes "retired" ++ 61 ∷ decimal s.outcome.retired) ∷ (codes "starts" ++ 61 ∷ decimal s.outcome.starts) ∷ []) refl
    (label_plain s.selected is.selected, (decimal_plain s.speedup (omega arith), (ending_plain s.outcome.ending is.ending, (decimal_plain s.outcome.time (omega arith), (decimal_plain s.outcome.delay (omega arith), (decimal_plain s.outcome.retired (omega arith), (decimal_plain s.outcome.starts (omega arith), tt))))))))
    (cut_both (line_cut (codes "output") ((codes "length" ++ 61 ∷ decimal s.length) ∷ (codes "sha256" ++ 61 ∷ hex_text s.output.bytes) ∷ []) refl (decimal_plain s.length (omega arith), (hex_plain s.output.bytes is.output, tt)))
    (cut_both (counts_cut s.counts 0 (omega arith) is.deltas)
    (line_cut (codes "visits") ((codes "sha256" ++ 61 ∷ hex_text s.visits.bytes) ∷ []) refl (hex_plain s.visits.bytes is.visits, tt))))

blocks_cut : (all : ℕ) (summaries : List Summary) → all ≤ 64 → AllByRecursion (IsSummary all) summaries → AreCut (blocks_items summaries)
blocks_cut all [] le each = cut_none
blocks_cut all (s ∷ summaries) le each = cut_both (block_cut all s le each.0) (blocks_cut all summaries le each.1)

-- ---- the bytes of the items

three_items : (a b c : Text) → a ++ (b ++ (c ++ [])) ≡ (a ++ b) ++ c
three_items a b c = simp (append_assoc, append-nil) refl

four_items : (a b c d : Text) → a ++ (b ++ (c ++ (d ++ []))) ≡ ((a ++ b) ++ c) ++ d
four_items a b c d = simp (append_assoc, append-nil) refl

five_items : (a b c d e : Text) → a ++ (b ++ (c ++ (d ++ (e ++ [])))) ≡ (((a ++ b) ++ c) ++ d) ++ e
five_items a b c d e = simp (append_assoc, append-nil) refl

nine_items : (a b c d e f g h i : Text) → a ++ (b ++ (c ++ (d ++ (e ++ (f ++ (g ++ (h ++ (i ++ [])))))))) ≡ (((((((a ++ b) ++ c) ++ d) ++ e) ++ f) ++ g) ++ h) ++ i
nine_items a b c d e f g h i = simp (append_assoc, append-nil) refl

names_text : (names : List Text) (index : ℕ) → concat (names_items index names) ≡ flat_map point_line (enumerate_from index names)
names_text [] index = refl
names_text (name ∷ names) index =
    concat_parts (name_items index name) (names_items (suc index) names)
    ∙ ap (λ (t : Text). t ++ concat (names_items (suc index) names)) (four_items (codes "point") (number_field (codes "index") index) (field (codes "name") name) (codes "\n"))
    ∙ ap (λ (t : Text). point_line (index, name) ++ t) (names_text names (suc index) ∙ ap (λ (n : ℕ). flat_map point_line (enumerate_from n names)) (sym (add-one index)))

counts_text : (counts : List ℕ) (index : ℕ) → concat (counts_items index counts) ≡ flat_map count_line (enumerate_from index counts)
counts_text [] index = refl
counts_text (n ∷ counts) index =
    concat_parts (count_items index n) (counts_items (suc index) counts)
    ∙ ap (λ (t : Text). t ++ concat (counts_items (suc index) counts)) (four_items (codes "throughput-point") (number_field (codes "index") index) (number_field (codes "delta") n) (codes "\n"))
    ∙ ap (λ (t : Text). count_line (index, n) ++ t) (counts_text counts (suc index) ∙ ap (λ (m : ℕ). flat_map count_line (enumerate_from m counts)) (sym (add-one index)))

regroup : (a b c d : Text) → a ++ (b ++ (c ++ d)) ≡ ((a ++ b) ++ c) ++ d
regroup a b c d = simp append_assoc refl

block_text : (s : Summary) → concat (block_items s) ≡ block s
block_text s =
    let first = selection_items (s.selected, s.speedup) ++ outcome_items s.outcome in
    let output = output_items (s.length, s.output.bytes) in
    let counts = counts_items 0 s.counts in
    let visits = visits_items s.visits.bytes in
    concat_parts first (output ++ (counts ++ visits))
    ∙ ap (λ (t : Text). concat first ++ t) (concat_parts output (counts ++ visits) ∙ ap (λ (t : Text). concat output ++ t) (concat_parts counts visits))
    ∙ regroup (concat first) (concat output) (concat counts) (concat visits)
    ∙ ap (λ (t : Text). ((t ++ concat output) ++ concat counts) ++ concat visits) (nine_items (codes "experiment") (field (codes "selected") s.selected) (number_field (codes "speedup") s.speedup) (field (codes "end") (ending_text s.outcome.ending)) (number_field (codes "time") s.outcome.time) (number_field (codes "delay") s.outcome.delay) (number_field (codes "retired") s.outcome.retired) (number_field (codes "starts") s.outcome.starts) (codes "\n"))
    ∙ ap (λ (t : Text). ((experiment_line s ++ t) ++ concat counts) ++ concat visits) (four_items (codes "output") (number_field (codes "length") s.length) (field (codes "sha256") (hex_text s.output.bytes)) (codes "\n"))
    ∙ ap (λ (t : Text). ((experiment_line s ++ output_line s) ++ t) ++ concat visits) (counts_text s.counts 0)
    ∙ ap (λ (t : Text). ((experiment_line s ++ output_line s) ++ flat_map count_line (enumerate_from 0 s.counts)) ++ t) (three_items (codes "visits") (field (codes "sha256") (hex_text s.visits.bytes)) (codes "\n"))

blocks_text : (summaries : List Summary) → concat (blocks_items summaries) ≡ flat_map block summaries
blocks_text [] = refl
blocks_text (s ∷ summaries) = concat_parts (block_items s) (blocks_items summaries) ∙ ap (λ (t : Text). t ++ concat (blocks_items summaries)) (block_text s) ∙ ap (λ (t : Text). block s ++ t) (blocks_text summaries)

book_text : (p : Profile) → concat (book_items p) ≡ profile_text p
unfolding profile_text
book_text p =
    let head = head_items (p.budget, length p.points) in
    let names = names_items 0 p.points in
    concat_parts head (names ++ blocks_items p.summaries)
    ∙ ap (λ (t : Text). concat head ++ t) (concat_parts names (blocks_items p.summaries))
    ∙ sym (append_assoc (concat head) (concat names) (concat (blocks_items p.summaries)))
    ∙ ap (λ (t : Text). (t ++ concat names) ++ concat (blocks_items p.summaries)) (five_items (codes "coz-ticks") (codes "\tversion=1") (number_field (codes "budget") p.budget) (number_field (codes "points") (length p.points)) (codes "\n"))
    ∙ ap (λ (t : Text). (head_line p ++ t) ++ concat (blocks_items p.summaries)) (names_text p.points 0)
    ∙ ap (λ (t : Text). (head_line p ++ flat_map point_line (enumerate_from 0 p.points)) ++ t) (blocks_text p.summaries)

-- the items of a profile's text
pub items_are : (p : Profile) → IsProfile p → items_of (profile_text p) ≡ book_items p
unfolding items_of
items_are p is =
    let small = is.points in
    let cut = cut_both (head_cut (p.budget, length p.points) is.budget is.points) (cut_both (names_cut p.points 0 (omega arith) is.names) (blocks_cut (length p.points) p.summaries is.points is.summaries)) in
    ap items_of (sym (book_text p) ∙ sym (append-nil (concat (book_items p)))) ∙ cut.so [] ∙ append-nil (book_items p)
