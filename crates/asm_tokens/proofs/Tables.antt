-- Look-ups in a table that follows another, and in that of the atomics.
use Rattle.std.proofs.Common.{◌≡◌, ℕ, suc, ◌+◌, ◌<◌, true, false, ◌&&◌, nat_eq, length, take, drop, get_or, map, List, [], ◌∷◌, ◌++◌, Option, Some, None, option_map, cond, bytes_eq, Bor, refl, sym, ap, ap₂, ◌∙◌, true≢false, eq-eqb, take-append-drop, drop-cons, add-one}
use Rattle.std.proofs.lemmas.Slice.Eq.{bytes_eq-Decides}
use Rattle.std.specs.List.{flat_map}
use Rattle.std.specs.Option.{option_or}
use Rattle.rv_decode.specs.declared.AtomicOp.{AtomicOp}
use Rattle.asm_tokens.specs.declared.form.Form.{Form}
use Rattle.asm_tokens.specs.declared.form.Form.TheVariants as forms
use Rattle.asm_tokens.specs.declared.form.Order.{Order}
use Rattle.asm_tokens.specs.declared.form.Width.{Width}
use Rattle.asm_tokens.specs.Table.{Named, look_up, plain_rows, suffixes, order_rows, atomic_rows, rows, form_of}
use Rattle.asm_tokens.specs.Views.{entry_view}

look_up-join : {A : Type 0} (name : List ℕ) (front behind : List (Named A)) → look_up name (front ++ behind) ≡ option_or (look_up name front) (look_up name behind)
look_up-join name [] behind = refl
look_up-join {A} name (entry ∷ more) behind =
    elim (bytes_eq name entry.0)
    as (λ b. cond b (Some entry.1) (look_up name (more ++ behind))
    ≡ option_or (cond b (Some entry.1) (look_up name more)) (look_up name behind))
    [ true ↦ refl | false ↦ look_up-join name more behind ]

-- the form that is found in the first table, or else in the second
pub form_of-join : (name : List ℕ) (found : Option Form) → found ≡ look_up name plain_rows → form_of name ≡ option_or found (look_up name atomic_rows)
unfolding form_of rows
form_of-join name found e = look_up-join name plain_rows atomic_rows ∙ ap (λ (o : Option Form). option_or o (look_up name atomic_rows)) (sym e)

-- ---- an atomic's words: what stands after its own is looked up among the suffixes

bytes_eq-behind : (word rest suffix : List ℕ) → bytes_eq (word ++ rest) (word ++ suffix) ≡ bytes_eq rest suffix
bytes_eq-behind [] rest suffix = refl
bytes_eq-behind (w ∷ word) rest suffix = ap₂ (λ a b. a && b) (eq-eqb w w refl) (bytes_eq-behind word rest suffix)

bytes_eq-apart : (word name suffix : List ℕ) → bytes_eq (take (length word) name) word ≡ false → bytes_eq name (word ++ suffix) ≡ false
bytes_eq-apart [] name suffix apart = absurd (true≢false apart)
bytes_eq-apart (w ∷ word) [] suffix apart = refl
bytes_eq-apart (w ∷ word) (n ∷ name) suffix apart =
    elim (nat_eq n w)
    as (λ b. (b && bytes_eq (take (length word) name) word) ≡ false → (b && bytes_eq name (word ++ suffix)) ≡ false)
    [ true ↦ bytes_eq-apart word name suffix | false ↦ λ e. refl ] apart

module _ {A B : Type 0} (word : List ℕ) (view : A → B) where
  -- after the word, and read as this
  abbrev behind : List (Named A) → List (Named B)
  behind suffixes = map (λ s. (word ++ s.0, view s.1)) suffixes

  look_up-behind : (rest : List ℕ) (suffixes : List (Named A)) → look_up (word ++ rest) (behind suffixes) ≡ option_map view (look_up rest suffixes)
  look_up-behind rest [] = refl
  look_up-behind rest (s ∷ more) =
      ap (λ b. cond b (Some (view s.1)) (look_up (word ++ rest) (behind more))) (bytes_eq-behind word rest s.0)
      ∙ (elim (bytes_eq rest s.0)
      as (λ b. cond b (Some (view s.1)) (look_up (word ++ rest) (behind more)) ≡ option_map view (cond b (Some s.1) (look_up rest more)))
      [ true ↦ refl | false ↦ look_up-behind rest more ])

  look_up-apart : (name : List ℕ) (suffixes : List (Named A)) → bytes_eq (take (length word) name) word ≡ false → look_up name (behind suffixes) ≡ None
  look_up-apart name [] apart = refl
  look_up-apart name (s ∷ more) apart =
      ap (λ b. cond b (Some (view s.1)) (look_up name (behind more))) (bytes_eq-apart word name s.0 apart) ∙ look_up-apart name more apart

-- a row of the code's table of atomics
abbrev pub Atomic : Type 0
Atomic = Bor (List ℕ) × (AtomicOp × Width)

-- a name that doesn't begin with the atomic's word
pub ordered-apart : (atomic : Atomic) (name : List ℕ) → bytes_eq (take (length atomic.0.now) name) atomic.0.now ≡ false → look_up name (order_rows (entry_view atomic)) ≡ None
ordered-apart atomic name apart = look_up-apart atomic.0.now (forms.Atomic atomic.1.0 atomic.1.1) name suffixes apart

-- and one that does, with this order after it or none
pub ordered-suffix : (atomic : Atomic) (name suffix : List ℕ) (order : Option Order) → bytes_eq (take (length atomic.0.now) name) atomic.0.now ≡ true → suffix ≡ drop (length atomic.0.now) name
    → order ≡ look_up suffix suffixes
    → look_up name (order_rows (entry_view atomic)) ≡ option_map (forms.Atomic atomic.1.0 atomic.1.1) order
ordered-suffix atomic name suffix order same rest e =
    let word = atomic.0.now in
    let whole : name ≡ word ++ suffix = sym (take-append-drop (length word) name) ∙ ap₂ (λ front back. front ++ back) ((bytes_eq-Decides _ word).0 same) (sym rest) in
    ap (λ n. look_up n (order_rows (entry_view atomic))) whole
    ∙ look_up-behind word (forms.Atomic atomic.1.0 atomic.1.1) suffix suffixes
    ∙ ap (option_map (forms.Atomic atomic.1.0 atomic.1.1)) (sym e)

-- the atomics from row i on: that row's words come before the others'
pub words_from : (name : List ℕ) (atomics : List Atomic) (i : ℕ) (d : Atomic) (found : Option Form) → i < length atomics
    → found ≡ look_up name (order_rows (entry_view (get_or atomics i d)))
    → look_up name (flat_map order_rows (map entry_view (drop i atomics))) ≡ option_or found (look_up name (flat_map order_rows (map entry_view (drop (i + 1) atomics))))
words_from name atomics i d found below e =
    ap (λ rows. look_up name (flat_map order_rows (map entry_view rows))) (drop-cons atomics i d below)
    ∙ look_up-join name (order_rows (entry_view (get_or atomics i d))) (flat_map order_rows (map entry_view (drop (suc i) atomics)))
    ∙ ap₂ (λ first j. option_or first (look_up name (flat_map order_rows (map entry_view (drop j atomics))))) (sym e) (sym (add-one i))
