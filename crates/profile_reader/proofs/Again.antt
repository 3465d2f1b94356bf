-- What is written is read again: each reader on the items of a value within its range.
use Rattle.std.proofs.Common.{rules, ◌≡◌, ℕ, suc, ◌+◌, ◌*◌, ◌/◌, ◌%◌, ◌^◌, ◌<◌, ◌≤◌, Bool, true, false, ◌&&◌, ◌==◌, nat_lt, nat_le, List, [], ◌∷◌, ◌++◌, length, codes, decimal, Option, Some, None, Result, Ok, refl, sym, ap, ◌∙◌, append_assoc, arith, if◌then◌else◌}
use Rattle.std.specs.List.{list_all}
use Rattle.std.specs.Str.{bytes_eq}
use Rattle.std.specs.Str.Parse.{digits_value}
use Rattle.std.specs.Fmt.{digits}
use Rattle.std.proofs.lemmas.Slice.Eq.{bytes_eq-Decides}
use Rattle.std.proofs.lemmas.Bool.{leb-true, ltb-true}
use Rattle.coz_types.specs.Labels.{Text, is_label, label_before, is_decimal}
use Rattle.coz_types.specs.declared.TheConstants.{MAX_NUMBER}
use Rattle.coz_types.specs.declared.record.Summary.{Summary}
use Rattle.profile_reader.specs.declared.fault.BookField.{BookField}
use Rattle.profile_reader.specs.declared.fault.BookField.TheVariants.{Head, Version, Budget, Points, Point, Index, Name, Experiment, Selected, Speedup, Output, Length, Digest, Throughput, Delta, Visits, Newline}
use Rattle.profile_reader.specs.declared.fault.BookFault.{BookFault}
use Rattle.profile_book.specs.Profile.{field, number_field, hex_text, is_rising}
use Rattle.coz_types.specs.Ranges.{IsDigest}
use Rattle.profile_reader.specs.Grammar.{value_in, number_in, field_name, is_field, has_number, has_label, is_lower_hex, is_digest, comes_after, not_before, goes_on}
use Rattle.profile_reader.specs.Reading.{Ahead, bind, item_at, judged_item, word_at, number_at, label_at, speedup_at, is_speedup, digest_at, bytes_in, lower_value, head_at, name_at, names_at, count_at, counts_at, selection_at, output_at, visits_at, selected_of, speedup_of}
use Rattle.profile_reader.proofs.FieldSteps.{both, same_bytes, all_below, below}
use Rattle.profile_labels.proofs.Spellings.{is_written}
use Rattle.profile_reader.proofs.LineSteps.{IsHead, IsOutput, IsSelection, rises_after}

-- the reader reads these items, whatever follows them, as this value
pub record ReadsOn {X : Type 0} (read : Ahead → Result (X × Ahead) BookFault) (items : List Text) (x : X) : Type 0 where
  pub so : (rest : List Text) (place : ℕ) → (end : ℕ) × (read (record { items = items ++ rest; place = place }) ≡ Ok (x, record { items = rest; place = end }))

pub and_then : {X Y : Type 0} {read : Ahead → Result (X × Ahead) BookFault} (f : X × Ahead → Result (Y × Ahead) BookFault) {items more : List Text} {x : X} {y : Y}
    → ReadsOn read items x → ReadsOn (λ a. f (x, a)) more y → ReadsOn (λ a. bind (read a) f) (items ++ more) y
unfolding bind
and_then {X = X} {Y = Y} {read = read} f {items = items} {more = more} {x = x} {y = y} first second = record {
  so = λ rest place.
      let one = first.so (more ++ rest) place in
      let two = second.so rest one.0 in (
        two.0,
        ap (λ (is : List Text). bind (read (record { items = is; place = place })) f) (append_assoc items more rest)
            ∙ ap (λ (r : Result (X × Ahead) BookFault). bind r f) one.1
            ∙ two.1,
      );
}

pub reads_end : {Y : Type 0} {y : Y} → ReadsOn (λ a. Ok (y, a)) [] y
reads_end = record { so = λ rest place. (place, refl) }

pub reads_last : {X Y : Type 0} {read : Ahead → Result (X × Ahead) BookFault} (g : X → Y) {items : List Text} {x : X} → ReadsOn read items x → ReadsOn (λ a. bind (read a) (λ x. Ok (g x.0, x.1))) items (g x)
unfolding bind
reads_last {X = X} {read = read} g {items = items} {x = x} first = record {
  so = λ rest place.
      let one = first.so rest place in
      (one.0, ap (λ (r : Result (X × Ahead) BookFault). bind r (λ x. Ok (g x.0, x.1))) one.1);
}

-- ---- one item

same_is : (t : Text) → bytes_eq t t ≡ true
same_is t = (bytes_eq-Decides t t).1 refl

pub and_both : (a b : Bool) → a ≡ true → b ≡ true → (a && b) ≡ true
and_both a b d e = ap (λ (c : Bool). c && b) d ∙ e

pub item_again : {X : Type 0} (kind : BookField) (passes : Text → Bool) (value : Text → X) (text : Text) (x : X) → passes text ≡ true → value text ≡ x → ReadsOn (λ a. item_at kind passes value a) (text ∷ []) x
item_again {X} kind passes value text x d e = record {
  so = λ rest place.
      let a : Ahead = record { items = text ∷ rest; place = place } in
      let b : Ahead = record { items = rest; place = place + length text } in
      (place + length text, ap (λ (c : Bool). judged_item c kind (value text) a) d ∙ ap (λ (y : X). let r : Result (X × Ahead) BookFault = Ok (y, b) in r) e);
}

pub word_again : (kind : BookField) (text : Text) → ReadsOn (λ a. word_at kind text a) (text ∷ []) tt
unfolding word_at
word_again kind text = item_again kind (λ item. bytes_eq item text) (λ item. tt) text tt (same_is text) refl

-- the value of a field of this kind is what stands after its name
abbrev pub HasValues : BookField → Type 0
HasValues kind = (v : Text) → value_in kind (field (field_name kind) v) ≡ v

pub field_is : (kind : BookField) → HasValues kind → (v : Text) → is_field kind (field (field_name kind) v) ≡ true
field_is kind values v = (bytes_eq-Decides _ _).1 (ap (λ (t : Text). field (field_name kind) t) (sym (values v)))

number_passes : (kind : BookField) (top n : ℕ) → HasValues kind → top < 2 ^ 64 → n ≤ top → (has_number kind top (number_field (field_name kind) n) ≡ true) × (digits_value 10 (value_in kind (number_field (field_name kind) n)) ≡ n)
number_passes kind top n values small le =
    let w = is_written top (decimal n) n small refl le in (
      and_both _ _ (field_is kind values (decimal n)) (ap (λ (t : Text). is_decimal top t) (values (decimal n)) ∙ w.0),
      ap (λ (t : Text). digits_value 10 t) (values (decimal n)) ∙ sym w.1,
    )

pub number_again : (kind : BookField) (top n : ℕ) → HasValues kind → top < 2 ^ 64 → n ≤ top → ReadsOn (λ a. number_at kind top a) (number_field (field_name kind) n ∷ []) n
unfolding number_at
number_again kind top n values small le = let h = number_passes kind top n values small le in item_again kind (has_number kind top) (number_in kind) _ n h.0 h.1

pub label_again : (kind : BookField) (passes : Text → Bool) (label : Text) → HasValues kind → is_label label ≡ true → passes label ≡ true → ReadsOn (λ a. label_at kind passes a) (field (field_name kind) label ∷ []) label
unfolding label_at
label_again kind passes label values form order =
    item_again kind (has_label kind passes) (value_in kind) _ label (and_both _ _ (field_is kind values label) (ap (λ (t : Text). is_label t && passes t) (values label) ∙ and_both _ _ form order)) (values label)

pub speedup_again : (last : Option Text) (least : ℕ) (label : Text) (n : ℕ) → n ≤ 95 → goes_on last least label n ≡ true → ReadsOn (λ a. speedup_at last least label a) (number_field (codes "speedup") n ∷ []) n
unfolding speedup_at
speedup_again last least label n le order =
    let h = number_passes Speedup 95 n (λ _. refl) (omega arith) le in
    item_again Speedup (is_speedup last least label) (number_in Speedup) _ n (and_both _ _ h.0 (ap (λ (m : ℕ). goes_on last least label m) h.1 ∙ order)) h.1

-- ---- digests

abbrev lower_digit : ℕ → ℕ
lower_digit x = if nat_lt x 10 then 48 + x else 87 + x

abbrev writes_digit : ℕ → Bool
writes_digit x = bytes_eq (digits 16 false x) (lower_digit x ∷ []) && (is_lower_hex (lower_digit x) && lower_value (lower_digit x) == x)

digit_table : all_below 16 writes_digit ≡ true
unfolding digits
digit_table = refl

record IsDigit (x : ℕ) : Type 0 where
  text : digits 16 false x ≡ lower_digit x ∷ []
  lower : is_lower_hex (lower_digit x) ≡ true
  value : lower_value (lower_digit x) ≡ x

digit_is : (x : ℕ) → x < 16 → IsDigit x
digit_is x lt =
    let h = both (bytes_eq (digits 16 false x) (lower_digit x ∷ [])) (is_lower_hex (lower_digit x) && lower_value (lower_digit x) == x) (below 16 writes_digit digit_table x lt) in
    let k = both (is_lower_hex (lower_digit x)) (lower_value (lower_digit x) == x) h.1 in
    record { text = same_bytes _ _ h.0; lower = k.0; value = search (rules, k.1) }

pub record IsHex (bytes : List ℕ) : Type 0 where
  pub again : bytes_in (hex_text bytes) ≡ bytes
  pub lower : list_all is_lower_hex (hex_text bytes) ≡ true
  pub size : length (hex_text bytes) ≡ 2 * length bytes

pub hex_is : (bytes : List ℕ) → list_all (λ b. nat_lt b 256) bytes ≡ true → IsHex bytes
hex_is [] e = record { again = refl; lower = refl; size = refl }
hex_is (b ∷ bytes) e =
    let h = both (nat_lt b 256) (list_all (λ b. nat_lt b 256) bytes) e in
    let small : b < 256 = ltb-true _ _ h.0 in
    let x = b / 16 in
    let y = b % 16 in
    let high = digit_is x (omega arith) in
    let low = digit_is y (omega arith) in
    let more = hex_is bytes h.1 in
    let text : hex_text (b ∷ bytes) ≡ lower_digit x ∷ lower_digit y ∷ hex_text bytes =
    ap (λ (t : Text). (t ++ digits 16 false y) ++ hex_text bytes) high.text ∙ ap (λ (t : Text). ((lower_digit x ∷ []) ++ t) ++ hex_text bytes) low.text in
    let byte : 16 * lower_value (lower_digit x) + lower_value (lower_digit y) ≡ b = ap (λ (n : ℕ). 16 * n + lower_value (lower_digit y)) high.value ∙ ap (λ (n : ℕ). 16 * x + n) low.value ∙ omega arith in
    record {
      again = ap bytes_in text ∙ ap (λ (n : ℕ). n ∷ bytes_in (hex_text bytes)) byte ∙ ap (λ (t : List ℕ). b ∷ t) more.again;
      lower = ap (λ (t : Text). list_all is_lower_hex t) text ∙ and_both _ _ high.lower (and_both _ _ low.lower more.lower);
      size = let s = more.size in ap length text ∙ omega arith;
    }

pub digest_again : (bytes : List ℕ) → IsDigest bytes → ReadsOn (λ a. digest_at a) (field (codes "sha256") (hex_text bytes) ∷ []) bytes
unfolding digest_at
digest_again bytes is =
    let h = hex_is bytes is.bytes_fit in
    let s = h.size in
    let t = is.size in
    let e : length (hex_text bytes) ≡ 64 = omega arith in
    let long : (length (hex_text bytes) == 64) ≡ true = ap (λ (n : ℕ). n == 64) e in
    item_again Digest (λ item. is_field Digest item && is_digest (value_in Digest item)) (λ item. bytes_in (value_in Digest item)) _ bytes (and_both _ _ (field_is Digest (λ _. refl) (hex_text bytes)) (and_both _ _ long h.lower)) h.again

-- ---- lines

abbrev pub head_items : ℕ × ℕ → List Text
head_items h = codes "coz-ticks" ∷ codes "\tversion=1" ∷ number_field (codes "budget") h.0 ∷ number_field (codes "points") h.1 ∷ codes "\n" ∷ []

pub head_again : (h : ℕ × ℕ) → IsHead h → ReadsOn head_at (head_items h) h
unfolding head_at
head_again h is =
    and_then _ (word_again Head (codes "coz-ticks")) (and_then _ (word_again Version (codes "\tversion=1")) (and_then _ (number_again Budget MAX_NUMBER h.0 (λ _. refl) (omega arith) is.budget)
    (and_then _ (number_again Points 64 h.1 (λ _. refl) (omega arith) is.points) (and_then _ (word_again Newline (codes "\n")) reads_end))))

abbrev pub name_items : ℕ → Text → List Text
name_items index name = codes "point" ∷ number_field (codes "index") index ∷ field (codes "name") name ∷ codes "\n" ∷ []

name_again : (index : ℕ) (last : Option Text) (name : Text) → is_label name ≡ true → comes_after last name ≡ true → ReadsOn (name_at index last) (name_items index name) name
unfolding name_at
name_again index last name form order =
    and_then _ (word_again Point (codes "point")) (and_then _ (word_again Index (number_field (codes "index") index)) (and_then _ (label_again Name (comes_after last) name (λ _. refl) form order) (and_then _ (word_again Newline (codes "\n")) reads_end)))

abbrev pub names_items : ℕ → List Text → List Text
names_items index [] = []
names_items index (name ∷ names) = name_items index name ++ names_items (suc index) names

first_rises : (last : Option Text) (name : Text) (names : List Text) → rises_after label_before last (name ∷ names) ≡ true → (comes_after last name ≡ true) × (is_rising label_before (name ∷ names) ≡ true)
first_rises None name names e = (refl, e)
first_rises (Some last) name names e = both (label_before last name) (is_rising label_before (name ∷ names)) e

pub names_again : (names : List Text) (index : ℕ) (last : Option Text) → list_all is_label names ≡ true → rises_after label_before last names ≡ true → ReadsOn (names_at (length names) index last) (names_items index names) names
unfolding names_at
names_again [] index last forms rise = reads_end
names_again (name ∷ names) index last forms rise =
    let form = both (is_label name) (list_all is_label names) forms in
    let order = first_rises last name names rise in
    and_then _ (name_again index last name form.0 order.0) (reads_last (λ others. name ∷ others) (names_again names (suc index) (Some name) form.1 order.1))

abbrev pub count_items : ℕ → ℕ → List Text
count_items index n = codes "throughput-point" ∷ number_field (codes "index") index ∷ number_field (codes "delta") n ∷ codes "\n" ∷ []

count_again : (index n : ℕ) → n ≤ 1000000000 → ReadsOn (count_at index) (count_items index n) n
unfolding count_at
count_again index n le =
    and_then _ (word_again Throughput (codes "throughput-point")) (and_then _ (word_again Index (number_field (codes "index") index)) (and_then _ (number_again Delta 1000000000 n (λ _. refl) (omega arith) le) (and_then _ (word_again Newline (codes "\n")) reads_end)))

abbrev pub counts_items : ℕ → List ℕ → List Text
counts_items index [] = []
counts_items index (n ∷ counts) = count_items index n ++ counts_items (suc index) counts

pub counts_again : (counts : List ℕ) (index : ℕ) → list_all (λ n. nat_le n 1000000000) counts ≡ true → ReadsOn (counts_at (length counts) index) (counts_items index counts) counts
unfolding counts_at
counts_again [] index fit = reads_end
counts_again (n ∷ counts) index fit =
    let h = both (nat_le n 1000000000) (list_all (λ n. nat_le n 1000000000) counts) fit in
    and_then _ (count_again index n (leb-true _ _ h.0)) (reads_last (λ others. n ∷ others) (counts_again counts (suc index) h.1))

abbrev pub selection_items : Text × ℕ → List Text
selection_items x = codes "experiment" ∷ field (codes "selected") x.0 ∷ number_field (codes "speedup") x.1 ∷ []

pub selection_again : (last : Option Summary) (x : Text × ℕ) → IsSelection last x → ReadsOn (selection_at last) (selection_items x) x
unfolding selection_at
selection_again last x is =
    and_then _ (word_again Experiment (codes "experiment")) (and_then _ (label_again Selected (not_before (selected_of last)) x.0 (λ _. refl) is.form is.label_order) (and_then _ (speedup_again (selected_of last) (speedup_of last) x.0 x.1 is.range is.speedup_order) reads_end))

abbrev pub output_items : ℕ × List ℕ → List Text
output_items x = codes "output" ∷ number_field (codes "length") x.0 ∷ field (codes "sha256") (hex_text x.1) ∷ codes "\n" ∷ []

pub output_again : (x : ℕ × List ℕ) → IsOutput x → ReadsOn output_at (output_items x) x
unfolding output_at
output_again x is =
    and_then _ (word_again Output (codes "output")) (and_then _ (number_again Length MAX_NUMBER x.0 (λ _. refl) (omega arith) is.size) (and_then _ (digest_again x.1 is.digest) (and_then _ (word_again Newline (codes "\n")) reads_end)))

abbrev pub visits_items : List ℕ → List Text
visits_items bytes = codes "visits" ∷ field (codes "sha256") (hex_text bytes) ∷ codes "\n" ∷ []

pub visits_again : (bytes : List ℕ) → IsDigest bytes → ReadsOn visits_at (visits_items bytes) bytes
unfolding visits_at
visits_again bytes is = and_then _ (word_again Visits (codes "visits")) (and_then _ (digest_again bytes is) (and_then _ (word_again Newline (codes "\n")) reads_end))
