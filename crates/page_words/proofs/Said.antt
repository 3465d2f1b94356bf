-- A scan of the words is a scan of the items that they say.
use Rattle.std.proofs.Common.{◌≡◌, inl, inr, ℕ, Bool, true, false, not, ◌&&◌, ◌==◌, List, [], ◌∷◌, ◌++◌, take, drop, codes, fold, Some, None, refl, sym, ap, ◌∙◌, subst, if◌then◌else◌}
use Rattle.std.specs.List.{list_all}
use Rattle.std.specs.Str.{bytes_eq}
use Rattle.std.proofs.lemmas.Slice.Eq.{bytes_eq-Decides}
use Rattle.std.proofs.lemmas.List.{take-append-drop}
use Rattle.coz_types.specs.Labels.{Text}
use Rattle.page_words.specs.declared.scan.Next.{Next}
use Rattle.page_words.specs.declared.scan.Next.TheVariants as next
use Rattle.page_words.specs.Words.{Given, take_word, free_word, word_with_value, with_next, with_profile, is_path}
use Rattle.page_words.specs.Grammar.{Name, Top, File, Source, Title, Link, Item, path, option, word_of, Says, SaysAll, paths}
use Rattle.page_words.proofs.Slots.{Slot, take_item, with_value, keeps_free, step_free}

abbrev pub next_of : Slot → Next
next_of None = next.Free
next_of (Some Top) = next.Top
next_of (Some File) = next.File
next_of (Some Source) = next.Source
next_of (Some Title) = next.Title
next_of (Some Link) = next.Link

-- ---- from the items to the words

free_name : (g : Given) (name : Name) → free_word g (word_of name) ≡ with_next (next_of (Some name)) g
free_name g Top = refl
free_name g File = refl
free_name g Source = refl
free_name g Title = refl
free_name g Link = refl

free_option : (g : Given) (name : Name) (value : Text) → free_word g (word_of name ++ (codes "=" ++ value)) ≡ with_value name value g
free_option g Top value = refl
free_option g File value = refl
free_option g Source value = refl
free_option g Title value = refl
free_option g Link value = refl

pub both_true : (a b : Bool) → (a && b) ≡ true → (a ≡ true) × (b ≡ true)
both_true true b e = (refl, e)
both_true false b e = absurd cc

pub not_true : (b : Bool) → not b ≡ true → b ≡ false
not_true true e = absurd cc
not_true false e = refl

path_first : (b : ℕ) (rest : Text) → is_path (b ∷ rest) ≡ true → (b == 45) ≡ false
path_first b rest e = not_true (b == 45) (both_true _ _ e).1

free_path : (g : Given) (word : Text) → is_path word ≡ true → free_word g word ≡ with_profile word g
free_path g [] e = absurd cc
free_path g (b ∷ rest) e = rw (path_first b rest e) refl

takes_free : (g : Given) (word : Text) → g.next ≡ next.Free → take_word g word ≡ free_word g word
takes_free g word e = rw e refl

takes_value : (g : Given) (name : Name) (word : Text) → g.next ≡ next_of (Some name) → take_word g word ≡ with_value name word (with_next next.Free g)
takes_value g Top word e = rw e refl
takes_value g File word e = rw e refl
takes_value g Source word e = rw e refl
takes_value g Title word e = rw e refl
takes_value g Link word e = rw e refl

free_is : (g : Given) → g.next ≡ next.Free → with_next next.Free g ≡ g
free_is g e = ap (λ (n : Next). with_next n g) (sym e)

-- the words of one item
front_is : (g : Given) (item : Item) (front rest : List Text) → g.next ≡ next.Free → Says item front → fold take_word g (front ++ rest) ≡ fold take_word (take_item g item) rest
front_is g (path text) front rest free (e, right) =
    rw e (ap (λ (h : Given). fold take_word h rest) (takes_free g text free ∙ free_path g text right))
front_is g (option name value) front rest free (inl e) =
    rw e (ap (λ (h : Given). fold take_word h rest) (takes_free g _ free ∙ free_option g name value))
front_is g (option name value) front rest free (inr e) =
    let first : take_word g (word_of name) ≡ with_next (next_of (Some name)) g = takes_free g _ free ∙ free_name g name in
    let second : take_word (with_next (next_of (Some name)) g) value ≡ with_value name value (with_next next.Free g) = takes_value (with_next (next_of (Some name)) g) name value refl in
    let third : with_value name value (with_next next.Free g) ≡ with_value name value g = ap (with_value name value) (free_is g free) in
    rw e (ap (λ (h : Given). fold take_word h rest) (ap (λ (h : Given). take_word h value) first ∙ second ∙ third))

pub said_forth : (items : List Item) (words : List Text) (g : Given) → g.next ≡ next.Free → SaysAll items words → fold take_word g words ≡ fold take_item g items
said_forth [] words g free e = rw e refl
said_forth (item ∷ items) words g free (front, rest, e, says, more) =
    rw e (front_is g item front rest free says ∙ said_forth items rest (take_item g item) (step_free g item free) more)

-- ---- from the words to the items

-- what a scan makes of a word that is no value
data Reads (g : Given) (word : Text) : Given → Type 0 where
  waits : (name : Name) → word ≡ word_of name → Reads g word (with_next (next_of (Some name)) g)
  gives : (name : Name) (value : Text) → word ≡ word_of name ++ (codes "=" ++ value) → Reads g word (with_value name value g)
  stands : Reads g word (with_profile word g)

choose : {A : Type 0} (P : A → Type 0) (b : Bool) (x y : A) → (b ≡ true → P x) → P y → P (if b then x else y)
choose P true x y first second = first refl
choose P false x y first second = second

whole : (word name : Text) → bytes_eq word name ≡ true → word ≡ name
whole word name e = (bytes_eq-Decides word name).0 e

joined : (n : ℕ) (word begin : Text) → bytes_eq (take n word) begin ≡ true → word ≡ begin ++ drop n word
joined n word begin e = sym (take-append-drop n word) ∙ ap (λ (t : Text). t ++ drop n word) (whole (take n word) begin e)

reads_joined : (g : Given) (word : Text) → Reads g word (word_with_value g word)
reads_joined g word =
    choose (Reads g word) (bytes_eq (take 6 word) (codes "--top=")) _ _ (λ e. gives Top (drop 6 word) (joined 6 word _ e))
    (choose (Reads g word) (bytes_eq (take 7 word) (codes "--file=")) _ _ (λ e. gives File (drop 7 word) (joined 7 word _ e))
    (choose (Reads g word) (bytes_eq (take 9 word) (codes "--source=")) _ _ (λ e. gives Source (drop 9 word) (joined 9 word _ e))
    (choose (Reads g word) (bytes_eq (take 8 word) (codes "--title=")) _ _ (λ e. gives Title (drop 8 word) (joined 8 word _ e))
    (choose (Reads g word) (bytes_eq (take 7 word) (codes "--link=")) _ _ (λ e. gives Link (drop 7 word) (joined 7 word _ e))
    stands))))

reads : (g : Given) (word : Text) → Reads g word (free_word g word)
reads g word =
    choose (Reads g word) (bytes_eq word (codes "--top")) _ _ (λ e. waits Top (whole word _ e))
    (choose (Reads g word) (bytes_eq word (codes "--file")) _ _ (λ e. waits File (whole word _ e))
    (choose (Reads g word) (bytes_eq word (codes "--source")) _ _ (λ e. waits Source (whole word _ e))
    (choose (Reads g word) (bytes_eq word (codes "--title")) _ _ (λ e. waits Title (whole word _ e))
    (choose (Reads g word) (bytes_eq word (codes "--link")) _ _ (λ e. waits Link (whole word _ e))
    (reads_joined g word)))))

-- as `Says`, with any word as a path
abbrev pub MaySay : Item → List Text → Type 0
MaySay (path text) words = words ≡ text ∷ []
MaySay (option name value) words = Says (option name value) words

abbrev pub MaySayAll : List Item → List Text → Type 0
MaySayAll [] words = words ≡ []
MaySayAll (item ∷ items) words = (front : List Text) × (rest : List Text)
    × (words ≡ front ++ rest) × MaySay item front × MaySayAll items rest

-- the option whose value is to come
abbrev pub before : Slot → List Text
before None = []
before (Some name) = word_of name ∷ []

-- the items of some words, which a scan of them takes
abbrev pub Found : Slot → List Text → Given → Type 0
Found s words g = (items : List Item) × MaySayAll items (before s ++ words) × (fold take_word g words ≡ fold take_item (with_next next.Free g) items)

overwrites : (g : Given) (name : Name) (value : Text) → with_next next.Free (with_value name value g) ≡ with_value name value (with_next next.Free g)
overwrites g Top value = refl
overwrites g File value = refl
overwrites g Source value = refl
overwrites g Title value = refl
overwrites g Link value = refl

waits_no_more : (name : Name) → next_of (Some name) ≡ next.Free → ⊥
waits_no_more Top e = cc
waits_no_more File e = cc
waits_no_more Source e = cc
waits_no_more Title e = cc
waits_no_more Link e = cc

abbrev pub Back : List Text → Type 0
Back words = (s : Slot) (g : Given) → g.next ≡ next_of s → (fold take_word g words).next ≡ next.Free → Found s words g

after_free : (g h : Given) (word : Text) (words : List Text) → g.next ≡ next.Free → Reads g word h → Back words → (fold take_word h words).next ≡ next.Free
    → (items : List Item) × MaySayAll items (word ∷ words) × (fold take_word h words ≡ fold take_item (with_next next.Free g) items)
after_free g h word words free (waits name e) more end =
    let found = more (Some name) (with_next (next_of (Some name)) g) refl end in
    (found.0, subst (λ (w : Text). MaySayAll found.0 (w ∷ words)) (sym e) found.1, found.2)
after_free g h word words free (gives name value e) more end =
    let found = more None (with_value name value g) (keeps_free g name value) end in (
      option name value ∷ found.0,
      (word ∷ [], words, refl, inl (ap (λ (w : Text). w ∷ []) e), found.1),
      found.2 ∙ ap (λ (k : Given). fold take_item k found.0) (overwrites g name value),
    )
after_free g h word words free stands more end =
    let found = more None (with_profile word g) free end in
    (path word ∷ found.0, (word ∷ [], words, refl, refl, found.1), found.2)

pub said_back : (words : List Text) → Back words
said_back [] None g is end = ([], refl, sym (free_is g end))
said_back [] (Some name) g is end = absurd (waits_no_more name (sym is ∙ end))
said_back (word ∷ words) None g is end =
    let first = takes_free g word is in
    let found = after_free g (free_word g word) word words is (reads g word) (said_back words) (subst (λ (h : Given). (fold take_word h words).next ≡ next.Free) first end) in
    (found.0, found.1, ap (λ (h : Given). fold take_word h words) first ∙ found.2)
said_back (word ∷ words) (Some name) g is end =
    let first = takes_value g name word is in
    let k : Given = with_value name word (with_next next.Free g) in
    let free = keeps_free (with_next next.Free g) name word in
    let found = said_back words None k free (subst (λ (h : Given). (fold take_word h words).next ≡ next.Free) first end) in (
      option name word ∷ found.0,
      (word_of name ∷ word ∷ [], words, refl, inr refl, found.1),
      ap (λ (h : Given). fold take_word h words) first ∙ found.2 ∙ ap (λ (h : Given). fold take_item h found.0) (free_is k free),
    )

pub says_paths : (items : List Item) (words : List Text) → list_all is_path (paths items) ≡ true → MaySayAll items words → SaysAll items words
says_paths [] words right e = e
says_paths (path text ∷ items) words right (front, rest, e, says, more) =
    let both = both_true (is_path text) (list_all is_path (paths items)) right in
    (front, rest, e, (says, both.0), says_paths items rest both.1 more)
says_paths (option name value ∷ items) words right (front, rest, e, says, more) =
    (front, rest, e, says, says_paths items rest right more)

pub are_paths : (items : List Item) (words : List Text) → SaysAll items words → list_all is_path (paths items) ≡ true
are_paths [] words e = refl
are_paths (path text ∷ items) words (front, rest, e, (is, right), more) = rw (right, are_paths items rest more) refl
are_paths (option name value ∷ items) words (front, rest, e, says, more) = are_paths items rest more
