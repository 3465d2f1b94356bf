-- What a scan of items holds: what each option has, and the other words.
use Rattle.std.proofs.Common.{◌≡◌, List, [], ◌∷◌, ◌++◌, fold, Option, Some, None, refl, sym, ap, ◌∙◌, append_assoc}
use Rattle.coz_words.specs.Said.{Text}
use Rattle.gain_words.specs.declared.setting.Setting.{Setting}
use Rattle.gain_words.specs.declared.setting.Setting.TheVariants as settings
use Rattle.gain_words.specs.declared.slot.Slot.{Slot}
use Rattle.gain_words.specs.declared.slot.Slot.TheVariants.{Absent, Wrong}
use Rattle.gain_words.specs.Slots.{fill, value_or}
use Rattle.gain_words.specs.Words.{Given, with_value, with_other, cores_in, slice_in, costs_in, charge_in, seed_in}
use Rattle.gain_words.specs.Grammar.{Item, set, other, others, values, Gives}

abbrev pub take_item : Given → Item → Given
take_item g (set setting value) = with_value setting value g
take_item g (other word) = with_other word g

-- ---- a slot and its values

abbrev pub filled : {A : Type 0} → (Text → Option A) → Slot A → Text → Slot A
filled read slot value = fill slot (read value)

wrong_stays : {A : Type 0} (read : Text → Option A) (texts : List Text) → fold (filled read) Wrong texts ≡ Wrong
wrong_stays read [] = refl
wrong_stays read (text ∷ texts) = wrong_stays read texts

twice_wrong : {A : Type 0} (a b : Option A) → fill (fill Absent a) b ≡ Wrong
twice_wrong None b = refl
twice_wrong (Some x) b = refl

one_value : {A : Type 0} (a : Option A) (default : A) → value_or (fill Absent a) default ≡ a
one_value None default = refl
one_value (Some x) default = refl

two_values : {A : Type 0} (read : Text → Option A) (t u : Text) (texts : List Text) → fold (filled read) Absent (t ∷ u ∷ texts) ≡ Wrong
two_values read t u texts =
    ap (λ slot. fold (filled read) slot texts) (twice_wrong (read t) (read u)) ∙ wrong_stays read texts

pub gives : {A : Type 0} (read : Text → Option A) (texts : List Text) (default x : A) → value_or (fold (filled read) Absent texts) default ≡ Some x → Gives read texts default x
gives read [] default x e = let same : default ≡ x = cc in sym same
gives read (t ∷ []) default x e = sym (one_value (read t) default) ∙ e
gives read (t ∷ u ∷ texts) default x e = absurd (let bad : None ≡ Some x = sym (ap (λ slot. value_or slot default) (two_values read t u texts)) ∙ e in cc)

pub given : {A : Type 0} (read : Text → Option A) (texts : List Text) (default x : A) → Gives read texts default x → value_or (fold (filled read) Absent texts) default ≡ Some x
given read [] default x e = ap (λ y. Some y) (sym e)
given read (t ∷ []) default x e = one_value (read t) default ∙ e
given read (t ∷ u ∷ texts) default x e = absurd e

-- ---- each option

cores_step : (setting : Setting) (value : Text) (items : List Item) (g : Given)
    → fold (filled cores_in) (with_value setting value g).cores (values settings.Cores items) ≡ fold (filled cores_in) g.cores (values settings.Cores (set setting value ∷ items))
cores_step settings.Cores value items g = refl
cores_step settings.Slice value items g = refl
cores_step settings.Costs value items g = refl
cores_step settings.Charge value items g = refl
cores_step settings.Seed value items g = refl

slice_step : (setting : Setting) (value : Text) (items : List Item) (g : Given)
    → fold (filled slice_in) (with_value setting value g).slice (values settings.Slice items) ≡ fold (filled slice_in) g.slice (values settings.Slice (set setting value ∷ items))
slice_step settings.Cores value items g = refl
slice_step settings.Slice value items g = refl
slice_step settings.Costs value items g = refl
slice_step settings.Charge value items g = refl
slice_step settings.Seed value items g = refl

costs_step : (setting : Setting) (value : Text) (items : List Item) (g : Given)
    → fold (filled costs_in) (with_value setting value g).costs (values settings.Costs items) ≡ fold (filled costs_in) g.costs (values settings.Costs (set setting value ∷ items))
costs_step settings.Cores value items g = refl
costs_step settings.Slice value items g = refl
costs_step settings.Costs value items g = refl
costs_step settings.Charge value items g = refl
costs_step settings.Seed value items g = refl

charge_step : (setting : Setting) (value : Text) (items : List Item) (g : Given)
    → fold (filled charge_in) (with_value setting value g).charge (values settings.Charge items) ≡ fold (filled charge_in) g.charge (values settings.Charge (set setting value ∷ items))
charge_step settings.Cores value items g = refl
charge_step settings.Slice value items g = refl
charge_step settings.Costs value items g = refl
charge_step settings.Charge value items g = refl
charge_step settings.Seed value items g = refl

seed_step : (setting : Setting) (value : Text) (items : List Item) (g : Given)
    → fold (filled seed_in) (with_value setting value g).seed (values settings.Seed items) ≡ fold (filled seed_in) g.seed (values settings.Seed (set setting value ∷ items))
seed_step settings.Cores value items g = refl
seed_step settings.Slice value items g = refl
seed_step settings.Costs value items g = refl
seed_step settings.Charge value items g = refl
seed_step settings.Seed value items g = refl

pub held_cores : (items : List Item) (g : Given) → (fold take_item g items).cores ≡ fold (filled cores_in) g.cores (values settings.Cores items)
held_cores [] g = refl
held_cores (set setting value ∷ items) g = held_cores items (with_value setting value g) ∙ cores_step setting value items g
held_cores (other word ∷ items) g = held_cores items (with_other word g)

pub held_slice : (items : List Item) (g : Given) → (fold take_item g items).slice ≡ fold (filled slice_in) g.slice (values settings.Slice items)
held_slice [] g = refl
held_slice (set setting value ∷ items) g = held_slice items (with_value setting value g) ∙ slice_step setting value items g
held_slice (other word ∷ items) g = held_slice items (with_other word g)

pub held_costs : (items : List Item) (g : Given) → (fold take_item g items).costs ≡ fold (filled costs_in) g.costs (values settings.Costs items)
held_costs [] g = refl
held_costs (set setting value ∷ items) g = held_costs items (with_value setting value g) ∙ costs_step setting value items g
held_costs (other word ∷ items) g = held_costs items (with_other word g)

pub held_charge : (items : List Item) (g : Given) → (fold take_item g items).charge ≡ fold (filled charge_in) g.charge (values settings.Charge items)
held_charge [] g = refl
held_charge (set setting value ∷ items) g = held_charge items (with_value setting value g) ∙ charge_step setting value items g
held_charge (other word ∷ items) g = held_charge items (with_other word g)

pub held_seed : (items : List Item) (g : Given) → (fold take_item g items).seed ≡ fold (filled seed_in) g.seed (values settings.Seed items)
held_seed [] g = refl
held_seed (set setting value ∷ items) g = held_seed items (with_value setting value g) ∙ seed_step setting value items g
held_seed (other word ∷ items) g = held_seed items (with_other word g)

-- ---- the other words, and the value to come

none_more : (words : List Text) → words ≡ words ++ []
none_more [] = refl
none_more (word ∷ words) = ap (λ (ws : List Text). word ∷ ws) (none_more words)

rest_same : (setting : Setting) (value : Text) (g : Given) → (with_value setting value g).rest ≡ g.rest
rest_same settings.Cores value g = refl
rest_same settings.Slice value g = refl
rest_same settings.Costs value g = refl
rest_same settings.Charge value g = refl
rest_same settings.Seed value g = refl

pub held_rest : (items : List Item) (g : Given) → (fold take_item g items).rest ≡ g.rest ++ others items
held_rest [] g = none_more g.rest
held_rest (set setting value ∷ items) g =
    held_rest items (with_value setting value g) ∙ ap (λ (ws : List Text). ws ++ others items) (rest_same setting value g)
held_rest (other word ∷ items) g =
    held_rest items (with_other word g) ∙ append_assoc g.rest (word ∷ []) (others items)

pub value_free : (setting : Setting) (value : Text) (g : Given) → (with_value setting value g).wanting ≡ None
value_free settings.Cores value g = refl
value_free settings.Slice value g = refl
value_free settings.Costs value g = refl
value_free settings.Charge value g = refl
value_free settings.Seed value g = refl

pub step_free : (g : Given) (item : Item) → g.wanting ≡ None → (take_item g item).wanting ≡ None
step_free g (set setting value) e = value_free setting value g
step_free g (other word) e = e

pub all_free : (items : List Item) (g : Given) → g.wanting ≡ None → (fold take_item g items).wanting ≡ None
all_free [] g e = e
all_free (item ∷ items) g e = all_free items (take_item g item) (step_free g item e)
