-- What a scan of items holds: one after the other, the path and the value of each option.
use Rattle.std.proofs.Common.{◌≡◌, Bool, true, false, ◌||◌, List, [], ◌∷◌, ◌++◌, fold, Option, Some, None, is_some, refl, ap, ◌∙◌}
use Rattle.coz_types.specs.Labels.{Text}
use Rattle.page_words.specs.declared.scan.Next.TheVariants as next
use Rattle.page_words.specs.Words.{Given, with_profile, with_top, with_file, with_source, with_title, with_link}
use Rattle.page_words.specs.Grammar.{Name, Top, File, Source, Title, Link, Item, path, option, paths, values}

-- the path of the profile, or an option
abbrev pub Slot : Type 0
Slot = Option Name

abbrev pub slot_of : Item → Slot
slot_of (path text) = None
slot_of (option name value) = Some name

abbrev pub slot : Slot → Given → Option Text
slot None g = g.profile
slot (Some Top) g = g.top
slot (Some File) g = g.file
slot (Some Source) g = g.source
slot (Some Title) g = g.title
slot (Some Link) g = g.link

abbrev pub texts : Slot → List Item → List Text
texts None items = paths items
texts (Some name) items = values name items

abbrev pub with_value : Name → Text → Given → Given
with_value Top value g = with_top value g
with_value File value g = with_file value g
with_value Source value g = with_source value g
with_value Title value g = with_title value g
with_value Link value g = with_link value g

abbrev pub take_item : Given → Item → Given
take_item g (path text) = with_profile text g
take_item g (option name value) = with_value name value g

abbrev pub list_of : Option Text → List Text
list_of None = []
list_of (Some text) = text ∷ []

abbrev pub are_few : List Text → Bool
are_few [] = true
are_few (text ∷ []) = true
are_few (a ∷ b ∷ rest) = false

abbrev pub has : Given → Slot → List Item → List Text
has g s items = list_of (slot s g) ++ texts s items

-- ---- one item

none_before : (b : Bool) (o : Option Text) (rest : List Text) → (b || is_some o) ≡ false → rest ≡ list_of o ++ rest
none_before true o rest e = absurd cc
none_before false None rest e = refl
none_before false (Some text) rest e = absurd cc

first_false : (b c : Bool) → (b || c) ≡ false → b ≡ false
first_false true c e = absurd cc
first_false false c e = refl

-- an item that comes once goes from the items to what is held
step : (s : Slot) (g : Given) (item : Item) (items : List Item) → (take_item g item).twice ≡ false → has (take_item g item) s items ≡ has g s (item ∷ items)
step None g (path t) items e = none_before g.twice g.profile (t ∷ paths items) e
step (Some Top) g (option Top t) items e = none_before g.twice g.top (t ∷ values Top items) e
step (Some File) g (option File t) items e = none_before g.twice g.file (t ∷ values File items) e
step (Some Source) g (option Source t) items e = none_before g.twice g.source (t ∷ values Source items) e
step (Some Title) g (option Title t) items e = none_before g.twice g.title (t ∷ values Title items) e
step (Some Link) g (option Link t) items e = none_before g.twice g.link (t ∷ values Link items) e
step None g (option Top t) items e = refl
step (Some Top) g (path t) items e = refl
step None g (option File t) items e = refl
step (Some File) g (path t) items e = refl
step None g (option Source t) items e = refl
step (Some Source) g (path t) items e = refl
step None g (option Title t) items e = refl
step (Some Title) g (path t) items e = refl
step None g (option Link t) items e = refl
step (Some Link) g (path t) items e = refl
step s g item items e = refl

step_kept : (g : Given) (item : Item) → (take_item g item).twice ≡ false → g.twice ≡ false
step_kept g (path t) e = first_false g.twice _ e
step_kept g (option Top t) e = first_false g.twice _ e
step_kept g (option File t) e = first_false g.twice _ e
step_kept g (option Source t) e = first_false g.twice _ e
step_kept g (option Title t) e = first_false g.twice _ e
step_kept g (option Link t) e = first_false g.twice _ e

none_few : (b : Bool) (o : Option Text) (t : Text) (rest : List Text) → b ≡ false → are_few (list_of o ++ t ∷ rest) ≡ true → (b || is_some o) ≡ false
none_few true o t rest e few = absurd cc
none_few false None t rest e few = refl
none_few false (Some a) t rest e few = absurd cc

step_once : (g : Given) (item : Item) (items : List Item) → g.twice ≡ false → are_few (has g (slot_of item) (item ∷ items)) ≡ true → (take_item g item).twice ≡ false
step_once g (path t) items e few = none_few g.twice g.profile t (paths items) e few
step_once g (option Top t) items e few = none_few g.twice g.top t (values Top items) e few
step_once g (option File t) items e few = none_few g.twice g.file t (values File items) e few
step_once g (option Source t) items e few = none_few g.twice g.source t (values Source items) e few
step_once g (option Title t) items e few = none_few g.twice g.title t (values Title items) e few
step_once g (option Link t) items e few = none_few g.twice g.link t (values Link items) e few

pub keeps_free : (g : Given) (name : Name) (value : Text) → (with_value name value g).next ≡ next.Free
keeps_free g Top value = refl
keeps_free g File value = refl
keeps_free g Source value = refl
keeps_free g Title value = refl
keeps_free g Link value = refl

pub step_free : (g : Given) (item : Item) → g.next ≡ next.Free → (take_item g item).next ≡ next.Free
step_free g (path text) free = free
step_free g (option name value) free = keeps_free g name value

-- ---- all items

all_kept : (items : List Item) (g : Given) → (fold take_item g items).twice ≡ false → g.twice ≡ false
all_kept [] g e = e
all_kept (item ∷ items) g e = step_kept g item (all_kept items (take_item g item) e)

pub all_free : (items : List Item) (g : Given) → g.next ≡ next.Free → (fold take_item g items).next ≡ next.Free
all_free [] g e = e
all_free (item ∷ items) g e = all_free items (take_item g item) (step_free g item e)

nothing_more : (s : Slot) (o : Option Text) → list_of o ≡ list_of o ++ texts s []
nothing_more None None = refl
nothing_more None (Some t) = refl
nothing_more (Some name) None = refl
nothing_more (Some name) (Some t) = refl

-- if nothing comes twice, what is held is what the items give
pub all_held : (s : Slot) (items : List Item) (g : Given) → (fold take_item g items).twice ≡ false → list_of (slot s (fold take_item g items)) ≡ has g s items
all_held s [] g e = nothing_more s (slot s g)
all_held s (item ∷ items) g e =
    all_held s items (take_item g item) e ∙ step s g item items (all_kept items (take_item g item) e)

pub never_twice : (items : List Item) (g : Given) → g.twice ≡ false → ((s : Slot) → are_few (has g s items) ≡ true) → (fold take_item g items).twice ≡ false
never_twice [] g e few = e
never_twice (item ∷ items) g e few =
    let once : (take_item g item).twice ≡ false = step_once g item items e (few (slot_of item)) in
    never_twice items (take_item g item) once (λ s. ap are_few (step s g item items once) ∙ few s)
