-- A scan of the words is a scan of the items that they say.
use Rattle.std.proofs.Common.{◌≡◌, inl, inr, ℕ, Bool, true, false, not, ◌&&◌, List, [], ◌∷◌, ◌++◌, take, drop, codes, fold, refl, sym, ap, ◌∙◌, subst, if◌then◌else◌}
use Rattle.std.specs.Str.{bytes_eq}
use Rattle.std.proofs.lemmas.Slice.Eq.{bytes_eq-Decides}
use Rattle.std.proofs.lemmas.List.{take-append-drop}
use Rattle.coz_words.specs.Said.{Text}
use Rattle.coz_words.proofs.Agree.{both_true}
use Rattle.hot_cli.specs.Words.{Given, scan_word, free_word, with_names, with_top}
use Rattle.hot_cli.specs.Grammar.{Item, names, top, other, is_other, Says, SaysAll}
use Rattle.hot_cli.proofs.Slots.{take_item, step_free}

abbrev pub with_wanting : Bool → Given → Given
with_wanting wanting g = record g { wanting = wanting }

-- ---- from the items to the words

takes_free : (g : Given) (word : Text) → g.wanting ≡ false → scan_word g word ≡ free_word g word
takes_free g word e = rw e refl

takes_value : (g : Given) (word : Text) → g.wanting ≡ true → scan_word g word ≡ with_top word g
takes_value g word e = rw e refl

free_is : (g : Given) → g.wanting ≡ false → with_wanting false g ≡ g
free_is g e = ap (λ (b : Bool). with_wanting b g) (sym e)

pub not_true : (b : Bool) → not b ≡ true → b ≡ false
not_true true e = absurd cc
not_true false e = refl

free_other : (g : Given) (word : Text) → is_other word ≡ true → free_word g word ≡ take_item g (other word)
free_other g word e =
    let outer = both_true (not (bytes_eq word (codes "--names")) && not (bytes_eq word (codes "--top"))) (not (bytes_eq (take 6 word) (codes "--top="))) e in
    let inner = both_true (not (bytes_eq word (codes "--names"))) (not (bytes_eq word (codes "--top"))) outer.0 in
    rw (not_true _ inner.0, not_true _ inner.1, not_true _ outer.1) refl

-- the words of one item
front_is : (g : Given) (item : Item) (front rest : List Text) → g.wanting ≡ false → Says item front → fold scan_word g (front ++ rest) ≡ fold scan_word (take_item g item) rest
front_is g names front rest free e =
    rw e (ap (λ (h : Given). fold scan_word h rest) (takes_free g (codes "--names") free))
front_is g (top value) front rest free (inl e) =
    rw e (ap (λ (h : Given). fold scan_word h rest) (takes_free g (codes "--top=" ++ value) free))
front_is g (top value) front rest free (inr e) =
    rw e (ap (λ (h : Given). fold scan_word (scan_word h value) rest) (takes_free g (codes "--top") free))
front_is g (other word) front rest free (e, right) =
    rw e (ap (λ (h : Given). fold scan_word h rest) (takes_free g word free ∙ free_other g word right))

pub said_forth : (items : List Item) (words : List Text) (g : Given) → g.wanting ≡ false → SaysAll items words → fold scan_word g words ≡ fold take_item g items
said_forth [] words g free e = rw e refl
said_forth (item ∷ items) words g free (front, rest, e, says, more) =
    rw e (front_is g item front rest free says ∙ said_forth items rest (take_item g item) (step_free g item free) more)

-- ---- from the words to the items

-- what a scan makes of a word that is no value
data Reads (g : Given) (word : Text) : Given → Type 0 where
  marks : word ≡ codes "--names" → Reads g word (with_names g)
  waits : word ≡ codes "--top" → Reads g word (with_wanting true g)
  gives : (value : Text) → word ≡ codes "--top=" ++ value → Reads g word (with_top value g)
  stands : is_other word ≡ true → Reads g word (take_item g (other word))

choose : {A : Type 0} (P : A → Type 0) (b : Bool) (x y : A) → (b ≡ true → P x) → (b ≡ false → P y) → P (if b then x else y)
choose P true x y first second = first refl
choose P false x y first second = second refl

whole : (word name : Text) → bytes_eq word name ≡ true → word ≡ name
whole word name e = (bytes_eq-Decides word name).0 e

joined : (n : ℕ) (word begin : Text) → bytes_eq (take n word) begin ≡ true → word ≡ begin ++ drop n word
joined n word begin e = sym (take-append-drop n word) ∙ ap (λ (t : Text). t ++ drop n word) (whole (take n word) begin e)

reads : (g : Given) (word : Text) → Reads g word (free_word g word)
reads g word =
    choose (Reads g word) (bytes_eq word (codes "--names")) _ _ (λ e. marks (whole word _ e)) (λ no_names.
    choose (Reads g word) (bytes_eq word (codes "--top")) _ _ (λ e. waits (whole word _ e)) (λ no_top.
    choose (Reads g word) (bytes_eq (take 6 word) (codes "--top=")) _ _ (λ e. gives (drop 6 word) (joined 6 word _ e)) (λ no_value.
    stands (rw (no_names, no_top, no_value) refl))))

-- the option whose value is to come
abbrev before : Bool → List Text
before true = codes "--top" ∷ []
before false = []

-- if a scan of words from here ends without a value to come, it is one of items that they say
abbrev Back : List Text → Type 0
Back words = (wanting : Bool) (g : Given) → g.wanting ≡ wanting → (fold scan_word g words).wanting ≡ false
    → (items : List Item) × SaysAll items (before wanting ++ words) × (fold scan_word g words ≡ fold take_item (with_wanting false g) items)

after_free : (g h : Given) (word : Text) (words : List Text) → g.wanting ≡ false → Reads g word h → Back words → (fold scan_word h words).wanting ≡ false
    → (items : List Item) × SaysAll items (word ∷ words) × (fold scan_word h words ≡ fold take_item (with_wanting false g) items)
after_free g h word words free (marks e) more end =
    let found = more false (with_names g) free end in
    (names ∷ found.0, (word ∷ [], words, refl, ap (λ (w : Text). w ∷ []) e, found.1), found.2)
after_free g h word words free (waits e) more end =
    let found = more true (with_wanting true g) refl end in
    (found.0, subst (λ (w : Text). SaysAll found.0 (w ∷ words)) (sym e) found.1, found.2)
after_free g h word words free (gives value e) more end =
    let found = more false (with_top value g) refl end in
    (top value ∷ found.0, (word ∷ [], words, refl, inl (ap (λ (w : Text). w ∷ []) e), found.1), found.2)
after_free g h word words free (stands right) more end =
    let found = more false (take_item g (other word)) free end in
    (other word ∷ found.0, (word ∷ [], words, refl, (refl, right), found.1), found.2)

pub said_back : (words : List Text) → Back words
said_back [] false g is end = ([], refl, sym (free_is g end))
said_back [] true g is end = absurd (let bad : true ≡ false = sym is ∙ end in cc)
said_back (word ∷ words) false g is end =
    let first = takes_free g word is in
    let found = after_free g (free_word g word) word words is (reads g word) (said_back words) (subst (λ (h : Given). (fold scan_word h words).wanting ≡ false) first end) in
    (found.0, found.1, ap (λ (h : Given). fold scan_word h words) first ∙ found.2)
said_back (word ∷ words) true g is end =
    let first = takes_value g word is in
    let found = said_back words false (with_top word g) refl (subst (λ (h : Given). (fold scan_word h words).wanting ≡ false) first end) in
    (top word ∷ found.0, (codes "--top" ∷ word ∷ [], words, refl, inr refl, found.1), ap (λ (h : Given). fold scan_word h words) first ∙ found.2)
