-- What a scan of items holds: the options with their values, and the other words.
use Rattle.std.proofs.Common.{◌≡◌, ℕ, Bool, true, false, List, [], ◌∷◌, ◌++◌, map, fold, Option, None, refl, ap, ◌∙◌, append_assoc, if◌then◌else◌}
use Rattle.coz_types.specs.Ranges.{last_word}
use Rattle.experiment_plan.specs.Lists.{number_in}
use Rattle.coz_words.specs.Said.{Text}
use Rattle.hot_cli.specs.Words.{Given, with_names, with_top}
use Rattle.hot_cli.specs.Grammar.{Item, names, top, other, others, values, namings}

abbrev pub take_item : Given → Item → Given
take_item g names = with_names g
take_item g (top value) = with_top value g
take_item g (other word) = record g { rest = g.rest ++ word ∷ [] }

abbrev pub list_if : {A : Type 0} → Bool → A → List A
list_if true x = x ∷ []
list_if false x = []

abbrev pub are_few : {A : Type 0} → List A → Bool
are_few [] = true
are_few (x ∷ []) = true
are_few (x ∷ y ∷ rest) = false

abbrev pub numbers : List Text → List (Option ℕ)
numbers texts = map (number_in 1 last_word) texts

-- `--names` as it is held, and as it comes
abbrev pub all_namings : Given → List Item → List Bool
all_namings g items = list_if g.names true ++ namings items

-- the numbers of `--top` that are held, and that come
abbrev pub all_tops : Given → List Item → List (Option ℕ)
all_tops g items = list_if g.topped g.top ++ numbers (values items)

-- ---- one item

none_before : {A : Type 0} (had twice : Bool) (x : A) (rest : List A) → (if had then true else twice) ≡ false → rest ≡ list_if had x ++ rest
none_before true twice x rest e = absurd cc
none_before false twice x rest e = refl

still_false : (had twice : Bool) → (if had then true else twice) ≡ false → twice ≡ false
still_false true twice e = absurd cc
still_false false twice e = e

none_few : {A : Type 0} (had twice : Bool) (x y : A) (rest : List A) → twice ≡ false → are_few (list_if had x ++ y ∷ rest) ≡ true → (if had then true else twice) ≡ false
none_few true twice x y rest e few = absurd cc
none_few false twice x y rest e few = e

step_kept : (g : Given) (item : Item) → (take_item g item).twice ≡ false → g.twice ≡ false
step_kept g names e = still_false g.names g.twice e
step_kept g (top value) e = still_false g.topped g.twice e
step_kept g (other word) e = e

step_names : (g : Given) (item : Item) (items : List Item) → (take_item g item).twice ≡ false → all_namings (take_item g item) items ≡ all_namings g (item ∷ items)
step_names g names items e = none_before g.names g.twice true (true ∷ namings items) e
step_names g (top value) items e = refl
step_names g (other word) items e = refl

step_top : (g : Given) (item : Item) (items : List Item) → (take_item g item).twice ≡ false → all_tops (take_item g item) items ≡ all_tops g (item ∷ items)
step_top g names items e = refl
step_top g (top value) items e = none_before g.topped g.twice g.top (number_in 1 last_word value ∷ numbers (values items)) e
step_top g (other word) items e = refl

step_once : (g : Given) (item : Item) (items : List Item) → g.twice ≡ false → are_few (all_namings g (item ∷ items)) ≡ true → are_few (all_tops g (item ∷ items)) ≡ true → (take_item g item).twice ≡ false
step_once g names items e few some = none_few g.names g.twice true true (namings items) e few
step_once g (top value) items e few some = none_few g.topped g.twice g.top (number_in 1 last_word value) (numbers (values items)) e some
step_once g (other word) items e few some = e

pub step_free : (g : Given) (item : Item) → g.wanting ≡ false → (take_item g item).wanting ≡ false
step_free g names e = e
step_free g (top value) e = refl
step_free g (other word) e = e

-- a number is held only of an option that was given
abbrev pub IsTidy : Given → Type 0
IsTidy g = g.topped ≡ false → g.top ≡ None

step_tidy : (g : Given) (item : Item) → IsTidy g → IsTidy (take_item g item)
step_tidy g names tidy = tidy
step_tidy g (top value) tidy = λ e. absurd cc
step_tidy g (other word) tidy = tidy

-- ---- all items

all_kept : (items : List Item) (g : Given) → (fold take_item g items).twice ≡ false → g.twice ≡ false
all_kept [] g e = e
all_kept (item ∷ items) g e = step_kept g item (all_kept items (take_item g item) e)

pub all_free : (items : List Item) (g : Given) → g.wanting ≡ false → (fold take_item g items).wanting ≡ false
all_free [] g e = e
all_free (item ∷ items) g e = all_free items (take_item g item) (step_free g item e)

pub all_tidy : (items : List Item) (g : Given) → IsTidy g → IsTidy (fold take_item g items)
all_tidy [] g tidy = tidy
all_tidy (item ∷ items) g tidy = all_tidy items (take_item g item) (step_tidy g item tidy)

list_more : {A : Type 0} (b : Bool) (x : A) → list_if b x ≡ list_if b x ++ []
list_more true x = refl
list_more false x = refl

pub held_names : (items : List Item) (g : Given) → (fold take_item g items).twice ≡ false → list_if (fold take_item g items).names true ≡ all_namings g items
held_names [] g e = list_more g.names true
held_names (item ∷ items) g e =
    held_names items (take_item g item) e ∙ step_names g item items (all_kept items (take_item g item) e)

pub held_top : (items : List Item) (g : Given) → (fold take_item g items).twice ≡ false → list_if (fold take_item g items).topped (fold take_item g items).top ≡ all_tops g items
held_top [] g e = list_more g.topped g.top
held_top (item ∷ items) g e =
    held_top items (take_item g item) e ∙ step_top g item items (all_kept items (take_item g item) e)

none_more : (words : List Text) → words ≡ words ++ []
none_more [] = refl
none_more (word ∷ words) = ap (λ (ws : List Text). word ∷ ws) (none_more words)

pub held_rest : (items : List Item) (g : Given) → (fold take_item g items).rest ≡ g.rest ++ others items
held_rest [] g = none_more g.rest
held_rest (names ∷ items) g = held_rest items (with_names g)
held_rest (top value ∷ items) g = held_rest items (with_top value g)
held_rest (other word ∷ items) g =
    held_rest items (record g { rest = g.rest ++ word ∷ [] }) ∙ append_assoc g.rest (word ∷ []) (others items)

pub never_twice : (items : List Item) (g : Given) → g.twice ≡ false → are_few (all_namings g items) ≡ true → are_few (all_tops g items) ≡ true → (fold take_item g items).twice ≡ false
never_twice [] g e few some = e
never_twice (item ∷ items) g e few some =
    let once : (take_item g item).twice ≡ false = step_once g item items e few some in
    never_twice items (take_item g item) once (ap are_few (step_names g item items once) ∙ few) (ap are_few (step_top g item items once) ∙ some)
