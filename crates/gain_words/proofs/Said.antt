-- A scan of the words is a scan of the items that they say.
use Rattle.std.proofs.Common.{◌≡◌, inl, inr, List, [], ◌∷◌, ◌++◌, codes, fold, Option, Some, None, refl, sym, ap, ◌∙◌, subst}
use Rattle.std.specs.Str.{bytes_eq}
use Rattle.std.proofs.lemmas.Slice.Eq.{bytes_eq-Decides}
use Rattle.coz_words.specs.Said.{Text}
use Rattle.coz_words.proofs.Exact.{find_passes}
use Rattle.gain_words.specs.declared.setting.Setting.{Setting}
use Rattle.gain_words.specs.declared.setting.Setting.TheVariants as settings
use Rattle.gain_words.specs.Words.{Given, scan_word, free_word, with_value, with_other, with_setting, setting_of, setting_word, all_settings, name_in, value_in}
use Rattle.gain_words.specs.Grammar.{Item, set, other, Says, SaysAll}
use Rattle.gain_words.proofs.Cuts.{with_a_value, with_no_value}
use Rattle.gain_words.proofs.Held.{take_item, step_free, value_free}

abbrev pub with_wanting : Option Setting → Given → Given
with_wanting wanting g = record g { wanting = wanting }

-- ---- from the items to the words

takes_free : (g : Given) (word : Text) → g.wanting ≡ None → scan_word g word ≡ free_word g word
takes_free g word e = rw e refl

takes_value : (g : Given) (setting : Setting) (word : Text) → g.wanting ≡ Some setting → scan_word g word ≡ with_value setting word g
takes_value g setting word e = rw e refl

free_is : (g : Given) → g.wanting ≡ None → with_wanting None g ≡ g
free_is g e = ap (λ o. with_wanting o g) (sym e)

set_word : (setting : Setting) (value : Text) (g : Given) → free_word g (setting_word setting ++ (codes "=" ++ value)) ≡ with_value setting value g
set_word settings.Cores value g = refl
set_word settings.Slice value g = refl
set_word settings.Costs value g = refl
set_word settings.Charge value g = refl
set_word settings.Seed value g = refl

wait_word : (setting : Setting) (g : Given) → free_word g (setting_word setting) ≡ with_wanting (Some setting) g
wait_word settings.Cores g = refl
wait_word settings.Slice g = refl
wait_word settings.Costs g = refl
wait_word settings.Charge g = refl
wait_word settings.Seed g = refl

waited : (setting : Setting) (wanting : Option Setting) (value : Text) (g : Given) → with_value setting value (with_wanting wanting g) ≡ with_value setting value g
waited settings.Cores wanting value g = refl
waited settings.Slice wanting value g = refl
waited settings.Costs wanting value g = refl
waited settings.Charge wanting value g = refl
waited settings.Seed wanting value g = refl

-- what a word makes that is no value, by the option that it names
abbrev by_name : Given → Text → Option Setting → Given
by_name g word o = elim o [
  | Some setting ↦ with_setting setting (value_in word) g
  | None ↦ with_other word g
]

free_with : (g : Given) (word : Text) (o : Option Setting) → setting_of (name_in word) ≡ o → free_word g word ≡ by_name g word o
free_with g word o e = ap (by_name g word) e

free_other : (g : Given) (word : Text) → setting_of (name_in word) ≡ None → free_word g word ≡ with_other word g
free_other g word e = free_with g word None e

-- the words of one item
front_is : (g : Given) (item : Item) (front rest : List Text) → g.wanting ≡ None → Says item front → fold scan_word g (front ++ rest) ≡ fold scan_word (take_item g item) rest
front_is g (set setting value) front rest free (inl e) =
    rw e (ap (λ (h : Given). fold scan_word h rest) (takes_free g (setting_word setting ++ (codes "=" ++ value)) free ∙ set_word setting value g))
front_is g (set setting value) front rest free (inr e) =
    rw e (ap (λ (h : Given). fold scan_word (scan_word h value) rest) (takes_free g (setting_word setting) free ∙ wait_word setting g)
    ∙ ap (λ (h : Given). fold scan_word h rest) (waited setting (Some setting) value g))
front_is g (other word) front rest free (e, right) =
    rw e (ap (λ (h : Given). fold scan_word h rest) (takes_free g word free ∙ free_other g word right))

pub said_forth : (items : List Item) (words : List Text) (g : Given) → g.wanting ≡ None → SaysAll items words → fold scan_word g words ≡ fold take_item g items
said_forth [] words g free e = rw e refl
said_forth (item ∷ items) words g free (front, rest, e, says, more) =
    rw e (front_is g item front rest free says ∙ said_forth items rest (take_item g item) (step_free g item free) more)

-- ---- from the words to the items

-- what a scan makes of a word that is no value
data Reads (g : Given) (word : Text) : Given → Type 0 where
  waits : (setting : Setting) → word ≡ setting_word setting → Reads g word (with_wanting (Some setting) g)
  gives : (setting : Setting) (value : Text) → word ≡ setting_word setting ++ (codes "=" ++ value) → Reads g word (with_value setting value g)
  stands : setting_of (name_in word) ≡ None → Reads g word (with_other word g)

named_is : (name : Text) (setting : Setting) → setting_of name ≡ Some setting → name ≡ setting_word setting
named_is name setting e =
    (bytes_eq-Decides name (setting_word setting)).0 (find_passes (λ s. bytes_eq name (setting_word s)) all_settings setting e)

reads : (g : Given) (word : Text) → Reads g word (free_word g word)
reads g word = by (setting_of (name_in word)) refl (value_in word) refl
  where
    by : (o : Option Setting) → setting_of (name_in word) ≡ o → (v : Option Text) → value_in word ≡ v → Reads g word (free_word g word)
    by None e v has = subst (λ (h : Given). Reads g word h) (sym (free_other g word e)) (stands e)
    by (Some setting) e (Some value) has =
        let is : free_word g word ≡ with_value setting value g = free_with g word (Some setting) e ∙ ap (λ (v : Option Text). with_setting setting v g) has in
        subst (λ (h : Given). Reads g word h) (sym is) (gives setting value (with_a_value word (setting_word setting) value (named_is (name_in word) setting e) has))
    by (Some setting) e None has =
        let is : free_word g word ≡ with_wanting (Some setting) g = free_with g word (Some setting) e ∙ ap (λ (v : Option Text). with_setting setting v g) has in
        subst (λ (h : Given). Reads g word h) (sym is) (waits setting (with_no_value word (setting_word setting) (named_is (name_in word) setting e) has))

-- the option whose value is to come
abbrev before : Option Setting → List Text
before (Some setting) = setting_word setting ∷ []
before None = []

-- if a scan of words from here ends without a value to come, it is one of items that they say
abbrev Back : List Text → Type 0
Back words = (wanting : Option Setting) (g : Given) → g.wanting ≡ wanting → (fold scan_word g words).wanting ≡ None
    → (items : List Item) × SaysAll items (before wanting ++ words) × (fold scan_word g words ≡ fold take_item (with_wanting None g) items)

after_free : (g h : Given) (word : Text) (words : List Text) → g.wanting ≡ None → Reads g word h → Back words → (fold scan_word h words).wanting ≡ None
    → (items : List Item) × SaysAll items (word ∷ words) × (fold scan_word h words ≡ fold take_item (with_wanting None g) items)
after_free g h word words free (waits setting e) more end =
    let found = more (Some setting) (with_wanting (Some setting) g) refl end in
    (found.0, subst (λ (w : Text). SaysAll found.0 (w ∷ words)) (sym e) found.1, found.2)
after_free g h word words free (gives setting value e) more end =
    let found = more None (with_value setting value g) (value_free setting value g) end in
    let same = free_is (with_value setting value g) (value_free setting value g) in (
      set setting value ∷ found.0,
      (word ∷ [], words, refl, inl (ap (λ (w : Text). w ∷ []) e), found.1),
      found.2 ∙ ap (λ (k : Given). fold take_item k found.0) (same ∙ sym (waited setting None value g)),
    )
after_free g h word words free (stands right) more end =
    let found = more None (with_other word g) free end in
    (other word ∷ found.0, (word ∷ [], words, refl, (refl, right), found.1), found.2)

pub said_back : (words : List Text) → Back words
said_back [] None g is end = ([], refl, sym (free_is g end))
said_back [] (Some setting) g is end = absurd (let bad : Some setting ≡ None = sym is ∙ end in cc)
said_back (word ∷ words) None g is end =
    let first = takes_free g word is in
    let found = after_free g (free_word g word) word words is (reads g word) (said_back words) (subst (λ (h : Given). (fold scan_word h words).wanting ≡ None) first end) in
    (found.0, found.1, ap (λ (h : Given). fold scan_word h words) first ∙ found.2)
said_back (word ∷ words) (Some setting) g is end =
    let first = takes_value g setting word is in
    let found = said_back words None (with_value setting word g) (value_free setting word g) (subst (λ (h : Given). (fold scan_word h words).wanting ≡ None) first end) in
    let same = free_is (with_value setting word g) (value_free setting word g) in (
      set setting word ∷ found.0,
      (setting_word setting ∷ word ∷ [], words, refl, inr refl, found.1),
      ap (λ (h : Given). fold scan_word h words) first ∙ found.2 ∙ ap (λ (k : Given). fold take_item k found.0) (same ∙ sym (waited setting None word g)),
    )
