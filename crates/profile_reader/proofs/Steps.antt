-- What a reader answers against what the definition says: one item, and one reader after another.
use Rattle.std.proofs.Common.{◌≡◌, ℕ, ◌+◌, Bool, true, false, List, [], ◌∷◌, ◌++◌, length, Some, None, Result, Ok, Err, refl, sym, ap, ◌∙◌, append_assoc, arith, if◌then◌else◌}
use Rattle.std.specs.List.{concat}
use Rattle.coz_types.specs.Labels.{Text}
use Rattle.profile_reader.specs.declared.fault.BookField.{BookField}
use Rattle.profile_reader.specs.declared.fault.BookFault.{BookFault}
use Rattle.profile_reader.specs.Grammar.{Before, expected_field, is_right, may_end, size, fault, first_fault}
use Rattle.profile_reader.specs.Reading.{Ahead, bind, item_at, judged_item}

-- the bytes of the items so far
abbrev pub text_of : Before → Text
text_of [] = []
text_of (item ∷ before) = text_of before ++ item.1

-- a reader has gone on, from the items before to those after: the definition judges what is ahead the same, and no byte is lost
pub record GoesOn (before : Before) (a : Ahead) (after : Before) (b : Ahead) : Type 0 where
  pub fault : first_fault before a.items ≡ first_fault after b.items
  pub place : b.place ≡ size after
  pub text : text_of before ++ concat a.items ≡ text_of after ++ concat b.items
  pub count : length b.items + length after ≡ length a.items + length before

-- at Ok the reader has gone on by the items of the value, of which this holds; at Err it is the definition's fault
abbrev pub IsAnswer : {X : Type 0} → (X → Before) → (X → Type 0) → Before → Ahead → Result (X × Ahead) BookFault → Type 0
IsAnswer after P before a (Ok x) = GoesOn before a (after x.0) x.1 × P x.0
IsAnswer after P before a (Err f) = first_fault before a.items ≡ Some f

-- (a record, so that its arguments are found)
pub record Explains {X : Type 0} (after : X → Before) (P : X → Type 0) (before : Before) (a : Ahead) (r : Result (X × Ahead) BookFault) : Type 0 where
  pub so : IsAnswer after P before a r

-- ---- one reader after another

goes_on_twice : {before mid after : Before} {a b c : Ahead} → GoesOn before a mid b → GoesOn mid b after c → GoesOn before a after c
goes_on_twice first second = record {
  fault = first.fault ∙ second.fault;
  place = second.place;
  text = first.text ∙ second.text;
  count = second.count ∙ first.count;
}

behind : {Y : Type 0} (after : Y → Before) (Q : Y → Type 0) {before mid : Before} {a b : Ahead} → GoesOn before a mid b → (r : Result (Y × Ahead) BookFault) → IsAnswer after Q mid b r → IsAnswer after Q before a r
behind after Q goes (Ok y) (more, q) = (goes_on_twice goes more, q)
behind after Q goes (Err f) stop = goes.fault ∙ stop

pub follow : {X Y : Type 0} {mid : X → Before} {P : X → Type 0} {after : Y → Before} {Q : Y → Type 0} {before : Before} {a : Ahead} {r : Result (X × Ahead) BookFault} (f : X × Ahead → Result (Y × Ahead) BookFault)
    → Explains mid P before a r
    → ((x : X) (b : Ahead) → GoesOn before a (mid x) b → P x → Explains after Q (mid x) b (f (x, b)))
    → Explains after Q before a (bind r f)
unfolding bind
follow {X = X} {Y = Y} {mid = mid} {P = P} {after = after} {Q = Q} {before = before} {a = a} {r = r} f e more = record { so = by r e.so }
  where
    by : (r : Result (X × Ahead) BookFault) → IsAnswer mid P before a r → IsAnswer after Q before a (bind r f)
    by (Ok x) (goes, p) = behind after Q goes (f x) (more x.0 x.1 goes p).so
    by (Err f) stop = stop

-- the end of a reader: what was read is what stands before
pub stays : {Y : Type 0} {after : Y → Before} {Q : Y → Type 0} {before : Before} {b : Ahead} {y : Y} → before ≡ after y → b.place ≡ size before → Q y → Explains after Q before b (Ok (y, b))
stays {b = b} e place q = record {
  so = (
    record {
      fault = ap (λ (w : Before). first_fault w b.items) e;
      place = place ∙ ap (λ (w : Before). size w) e;
      text = ap (λ (w : Before). text_of w ++ concat b.items) e;
      count = ap (λ (w : Before). length b.items + length w) (sym e);
    },
    q,
  );
}

-- ---- one item

-- what a reader of one item needs: the definition expects this kind, asks this of the item, and an item that passes is the spelling of its value
pub record Judges {X : Type 0} (kind : BookField) (before : Before) (passes : Text → Bool) (value : Text → X) (spelled : X → Text) (P : X → Type 0) : Type 0 where
  pub kind_is : expected_field before ≡ kind
  pub same : (item : Text) → is_right kind before item ≡ passes item
  pub some : passes [] ≡ false
  pub spells : (item : Text) → passes item ≡ true → (item ≡ spelled (value item)) × P (value item)

right_goes_on : (before : Before) (item : Text) (items : List Text) → is_right (expected_field before) before item ≡ true → first_fault before (item ∷ items) ≡ first_fault ((expected_field before, item) ∷ before) items
right_goes_on before item items e = ap (λ (b : Bool). elim b [ true ↦ first_fault ((expected_field before, item) ∷ before) items | false ↦ Some (fault (expected_field before) before) ]) e

wrong_stops : (before : Before) (item : Text) (items : List Text) → is_right (expected_field before) before item ≡ false → first_fault before (item ∷ items) ≡ Some (fault (expected_field before) before)
wrong_stops before item items e = ap (λ (b : Bool). elim b [ true ↦ first_fault ((expected_field before, item) ∷ before) items | false ↦ Some (fault (expected_field before) before) ]) e

ends_early : (before : Before) → may_end (expected_field before) ≡ false → first_fault before [] ≡ Some (fault (expected_field before) before)
ends_early before e = ap (λ (b : Bool). if b then None else Some (fault (expected_field before) before)) e

pub item_step : {X : Type 0} (kind : BookField) (before : Before) (passes : Text → Bool) (value : Text → X) (spelled : X → Text) (P : X → Type 0) (a : Ahead)
    → Judges kind before passes value spelled P
    → (a.items ≡ [] → may_end kind ≡ false)
    → a.place ≡ size before
    → Explains (λ (x : X). (kind, spelled x) ∷ before) P before a (item_at kind passes value a)
item_step {X} kind before passes value spelled P a judges goes place = record { so = from a.items a.place goes place }
  where
    fault_is : (place : ℕ) → place ≡ size before → Some (fault (expected_field before) before) ≡ Some (record { field = kind; place = place })
    fault_is place e = ap (λ (k : BookField). Some (fault k before)) judges.kind_is ∙ ap (λ (n : ℕ). let f : BookFault = record { field = kind; place = n } in Some f) (sym e)

    from : (items : List Text) (place : ℕ) → (items ≡ [] → may_end kind ≡ false) → place ≡ size before
        → IsAnswer (λ (x : X). (kind, spelled x) ∷ before) P before (record { items = items; place = place }) (item_at kind passes value (record { items = items; place = place }))
    from [] place goes e = by (passes []) refl
      where
        by : (c : Bool) → passes [] ≡ c → IsAnswer (λ (x : X). (kind, spelled x) ∷ before) P before (record { items = []; place = place }) (judged_item c kind (value []) (record { items = []; place = place }))
        by true d = let never : true ≡ false = sym d ∙ judges.some in absurd cc
        by false d = ends_early before (ap may_end judges.kind_is ∙ goes refl) ∙ fault_is place e
    from (item ∷ items) place goes e = by (passes item) refl
      where
        asks : is_right (expected_field before) before item ≡ passes item
        asks = ap (λ (k : BookField). is_right k before item) judges.kind_is ∙ judges.same item

        by : (c : Bool) → passes item ≡ c → IsAnswer (λ (x : X). (kind, spelled x) ∷ before) P before (record { items = item ∷ items; place = place }) (judged_item c kind (value item) (record { items = item ∷ items; place = place }))
        by true d =
            let s = judges.spells item d in (
              record {
                fault = right_goes_on before item items (asks ∙ d) ∙ ap (λ (k : BookField). first_fault ((k, item) ∷ before) items) judges.kind_is ∙ ap (λ (t : Text). first_fault ((kind, t) ∷ before) items) s.0;
                place = ap (λ (n : ℕ). n + length item) e ∙ ap (λ (t : Text). size before + length t) s.0;
                text = sym (append_assoc (text_of before) item (concat items)) ∙ ap (λ (t : Text). (text_of before ++ t) ++ concat items) s.0;
                count = omega arith;
              },
              s.1,
            )
        by false d = wrong_stops before item items (asks ∙ d) ∙ fault_is place e
