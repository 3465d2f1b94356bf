-- One item of each sort: what a reader of it answers, against the definition.
use Rattle.std.proofs.Common.{rules, ◌≡◌, ℕ, zero, suc, ◌+◌, ◌*◌, ◌/◌, ◌%◌, ◌<◌, ◌≤◌, Bool, true, false, not, ◌&&◌, ◌||◌, ◌==◌, nat_lt, nat_le, List, [], ◌∷◌, ◌++◌, length, codes, decimal, Option, refl, sym, ap, ◌∙◌, arith}
use Rattle.std.specs.List.{list_all}
use Rattle.std.specs.Str.{bytes_eq}
use Rattle.std.specs.Fmt.{digits}
use Rattle.std.proofs.lemmas.Slice.Eq.{bytes_eq-Decides}
use Rattle.std.proofs.lemmas.Bool.{leb-true, ltb-true, le-leb}
use Rattle.coz_types.specs.Labels.{Text, is_decimal, is_label}
use Rattle.profile_reader.specs.declared.fault.BookField.{BookField}
use Rattle.profile_reader.specs.declared.fault.BookField.TheVariants.{Digest, Speedup}
use Rattle.profile_reader.specs.Grammar.{Before, expected_field, is_right, may_end, size, has_number, has_label, is_field, number_in, value_in, field_name, goes_on, is_digest, is_lower_hex}
use Rattle.profile_book.specs.Profile.{field, number_field, hex_text}
use Rattle.coz_types.specs.Ranges.{IsDigest}
use Rattle.profile_reader.specs.Reading.{Ahead, word_at, number_at, label_at, speedup_at, is_speedup, digest_at, bytes_in, lower_value}
use Rattle.profile_reader.proofs.Steps.{Explains, item_step}

pub both : (x y : Bool) → (x && y) ≡ true → (x ≡ true) × (y ≡ true)
both true y e = (refl, e)
both false y e = absurd cc

pub same_bytes : (a b : Text) → bytes_eq a b ≡ true → a ≡ b
same_bytes a b e = (bytes_eq-Decides a b).0 e

pub word_step : (kind : BookField) (text : Text) {before : Before} {a : Ahead} → expected_field before ≡ kind → ((item : Text) → is_right kind before item ≡ bytes_eq item text) → bytes_eq [] text ≡ false
    → (a.items ≡ [] → may_end kind ≡ false) → a.place ≡ size before
    → Explains (λ (x : Unit {0}). (kind, text) ∷ before) (λ (x : Unit {0}). Unit {0}) before a (word_at kind text a)
unfolding word_at
word_step kind text {before = before} {a = a} e same some goes place =
    item_step kind before (λ item. bytes_eq item text) (λ item. tt) (λ (x : Unit {0}). text) (λ (x : Unit {0}). Unit {0}) a
    (record { kind_is = e; same = same; some = some; spells = λ item d. (same_bytes item text d, tt) }) goes place

pub number_spelled : (kind : BookField) (top : ℕ) (item : Text) → has_number kind top item ≡ true → (item ≡ number_field (field_name kind) (number_in kind item)) × (number_in kind item ≤ top)
number_spelled kind top item d =
    let h = both (is_field kind item) (is_decimal top (value_in kind item)) d in
    let k = both (bytes_eq (value_in kind item) (decimal (number_in kind item))) (nat_le (number_in kind item) top) h.1 in
    (same_bytes _ _ h.0 ∙ ap (λ (t : Text). field (field_name kind) t) (same_bytes _ _ k.0), leb-true _ _ k.1)

pub number_step : (kind : BookField) (top : ℕ) {before : Before} {a : Ahead} → expected_field before ≡ kind → ((item : Text) → is_right kind before item ≡ has_number kind top item)
    → may_end kind ≡ false → a.place ≡ size before
    → Explains (λ (n : ℕ). (kind, number_field (field_name kind) n) ∷ before) (λ (n : ℕ). n ≤ top) before a (number_at kind top a)
unfolding number_at
number_step kind top {before = before} {a = a} e same goes place =
    item_step kind before (has_number kind top) (number_in kind) (λ n. number_field (field_name kind) n) (λ n. n ≤ top) a
    (record { kind_is = e; same = same; some = refl; spells = λ item d. number_spelled kind top item d }) (λ _. goes) place

-- a label of which this holds
pub record IsLabelThat (passes : Text → Bool) (label : Text) : Type 0 where
  pub form : is_label label ≡ true
  pub order : passes label ≡ true

pub label_step : (kind : BookField) (passes : Text → Bool) {before : Before} {a : Ahead} → expected_field before ≡ kind → ((item : Text) → is_right kind before item ≡ has_label kind passes item)
    → may_end kind ≡ false → a.place ≡ size before
    → Explains (λ (label : Text). (kind, field (field_name kind) label) ∷ before) (IsLabelThat passes) before a (label_at kind passes a)
unfolding label_at
label_step kind passes {before = before} {a = a} e same goes place =
    item_step kind before (has_label kind passes) (value_in kind) (λ label. field (field_name kind) label) (IsLabelThat passes) a
    (record {
      kind_is = e;
      same = same;
      some = refl;
      spells = λ item d.
          let h = both (is_field kind item) (is_label (value_in kind item) && passes (value_in kind item)) d in
          let k = both (is_label (value_in kind item)) (passes (value_in kind item)) h.1 in
          (same_bytes _ _ h.0, record { form = k.0; order = k.1 });
    }) (λ _. goes) place

-- a speedup that may stand after this label
pub record IsSpeedupThat (last : Option Text) (least : ℕ) (label : Text) (n : ℕ) : Type 0 where
  pub range : n ≤ 95
  pub order : goes_on last least label n ≡ true

pub speedup_step : (last : Option Text) (least : ℕ) (label : Text) {before : Before} {a : Ahead} → expected_field before ≡ Speedup → ((item : Text) → is_right Speedup before item ≡ is_speedup last least label item)
    → a.place ≡ size before
    → Explains (λ (n : ℕ). (Speedup, number_field (codes "speedup") n) ∷ before) (IsSpeedupThat last least label) before a (speedup_at last least label a)
unfolding speedup_at
speedup_step last least label {before = before} {a = a} e same place =
    item_step Speedup before (is_speedup last least label) (number_in Speedup) (λ n. number_field (codes "speedup") n) (IsSpeedupThat last least label) a
    (record {
      kind_is = e;
      same = same;
      some = refl;
      spells = λ item d.
          let h = both (has_number Speedup 95 item) (goes_on last least label (number_in Speedup item)) d in
          let k = number_spelled Speedup 95 item h.0 in
          (k.0, record { range = k.1; order = h.1 });
    }) (λ _. refl) place

-- ---- digests

-- a test that passes for each number below this
abbrev pub all_below : ℕ → (ℕ → Bool) → Bool
all_below zero p = true
all_below (suc n) p = p n && all_below n p

pub below : (n : ℕ) (p : ℕ → Bool) → all_below n p ≡ true → (b : ℕ) → b < n → p b ≡ true
below zero p all b lt = absurd (omega arith)
below (suc n) p all b lt = by (b == n) refl (both (p n) (all_below n p) all).0 (below n p (both (p n) (all_below n p) all).1 b)
  where
    by : (c : Bool) → (b == n) ≡ c → p n ≡ true → (b < n → p b ≡ true) → p b ≡ true
    by true e here low = let same : b ≡ n = search (rules, e) in ap p same ∙ here
    by false e here low = low (grind (arith, e, lt))

-- a digit, and its value
abbrev tells_digit : ℕ → Bool
tells_digit b = not (is_lower_hex b) || (nat_lt (lower_value b) 16 && bytes_eq (digits 16 false (lower_value b)) (b ∷ []))

digit_table : all_below 103 tells_digit ≡ true
unfolding digits
digit_table = refl

pub below_103 : (b : ℕ) → is_lower_hex b ≡ true → b < 103
below_103 b e = by (nat_le 48 b) (nat_le b 57) (nat_le 97 b) (nat_le b 102) (leb-true b 57) (leb-true b 102) e
  where
    by : (p q r s : Bool) → (q ≡ true → b ≤ 57) → (s ≡ true → b ≤ 102) → ((p && q) || (r && s)) ≡ true → b < 103
    by true true r s f g e = let h : b ≤ 57 = f refl in omega arith
    by true false true true f g e = let h : b ≤ 102 = g refl in omega arith
    by true false true false f g e = absurd cc
    by true false false s f g e = absurd cc
    by false q true true f g e = let h : b ≤ 102 = g refl in omega arith
    by false q true false f g e = absurd cc
    by false q false s f g e = absurd cc

implied : (x y : Bool) → (not x || y) ≡ true → x ≡ true → y ≡ true
implied true y e d = e
implied false y e d = absurd cc

digit_is : (b : ℕ) → is_lower_hex b ≡ true → (lower_value b < 16) × (digits 16 false (lower_value b) ≡ b ∷ [])
digit_is b e =
    let t = implied (is_lower_hex b) (nat_lt (lower_value b) 16 && bytes_eq (digits 16 false (lower_value b)) (b ∷ [])) (below 103 tells_digit digit_table b (below_103 b e)) e in
    let h = both (nat_lt (lower_value b) 16) (bytes_eq (digits 16 false (lower_value b)) (b ∷ [])) t in
    (ltb-true _ _ h.0, same_bytes _ _ h.1)

quotient : (x y : ℕ) → y < 16 → (16 * x + y) / 16 ≡ x
quotient x y lt = omega arith

remainder : (x y : ℕ) → y < 16 → (16 * x + y) % 16 ≡ y
remainder x y lt = omega arith

pub hex_again : (k : ℕ) (text : Text) → length text ≡ 2 * k → list_all is_lower_hex text ≡ true → (text ≡ hex_text (bytes_in text)) × (length (bytes_in text) ≡ k) × (list_all (λ b. nat_lt b 256) (bytes_in text) ≡ true)
hex_again zero [] e all = (refl, refl, refl)
hex_again zero (b ∷ rest) e all = absurd (omega arith)
hex_again (suc k) [] e all = absurd (omega arith)
hex_again (suc k) (b ∷ []) e all = absurd (omega arith)
hex_again (suc k) (h ∷ l ∷ rest) e all =
    let one = both (is_lower_hex h) (list_all is_lower_hex (l ∷ rest)) all in
    let two = both (is_lower_hex l) (list_all is_lower_hex rest) one.1 in
    let high = digit_is h one.0 in
    let low = digit_is l two.0 in
    let more = hex_again k rest (omega arith) two.1 in
    let byte : ℕ = 16 * lower_value h + lower_value l in
    let lh = high.0 in
    let ll = low.0 in
    let fits : nat_lt byte 256 ≡ true = le-leb (suc byte) 256 (omega arith) in
    let first : digits 16 false (byte / 16) ++ digits 16 false (byte % 16) ≡ h ∷ l ∷ [] =
    ap (λ (n : ℕ). digits 16 false n ++ digits 16 false (byte % 16)) (quotient (lower_value h) (lower_value l) low.0)
    ∙ ap (λ (n : ℕ). digits 16 false (lower_value h) ++ digits 16 false n) (remainder (lower_value h) (lower_value l) low.0)
    ∙ ap (λ (t : Text). t ++ digits 16 false (lower_value l)) high.1
    ∙ ap (λ (t : Text). (h ∷ []) ++ t) low.1 in
    (sym (ap (λ (t : Text). t ++ hex_text (bytes_in rest)) first ∙ ap (λ (t : Text). h ∷ l ∷ t) (sym more.0)), ap suc more.1, ap (λ (c : Bool). c && list_all (λ b. nat_lt b 256) (bytes_in rest)) fits ∙ more.2)

pub digest_step : {before : Before} {a : Ahead} → expected_field before ≡ Digest → a.place ≡ size before
    → Explains (λ (bytes : List ℕ). (Digest, field (codes "sha256") (hex_text bytes)) ∷ before) IsDigest before a (digest_at a)
unfolding digest_at
digest_step {before = before} {a = a} e place =
    item_step Digest before (λ item. is_field Digest item && is_digest (value_in Digest item)) (λ item. bytes_in (value_in Digest item)) (λ bytes. field (codes "sha256") (hex_text bytes)) IsDigest a
    (record {
      kind_is = e;
      same = λ _. refl;
      some = refl;
      spells = λ item d.
          let h = both (is_field Digest item) (is_digest (value_in Digest item)) d in
          let k = both (length (value_in Digest item) == 64) (list_all is_lower_hex (value_in Digest item)) h.1 in
          let w = hex_again 32 (value_in Digest item) (search (rules, k.0)) k.1 in
          (same_bytes _ _ h.0 ∙ ap (λ (t : Text). field (codes "sha256") t) w.0, record { size = w.1; bytes_fit = w.2 });
    }) (λ _. refl) place
