-- One more label: what the names then stand for.
use Rattle.std.proofs.Common.{◌≡◌, ℕ, List, Option, Some, None, refl, ap, ◌∙◌, sym, Ok}
use Rattle.std.specs.Prelude.{bytes_eq}
use Rattle.std.specs.BTreeMap as tree
use Rattle.std.specs.BTreeMap.{BTreeMap}
use Rattle.std.specs.Map.{update}
use Rattle.std.specs.Cmp.Lexicographic.{slice_cmp}
use Rattle.std.specs.Ordering.{nat_cmp}
use Rattle.std.proofs.lemmas.Map.Text.{btree_map_updates_str}
use denote.Ref.{Bor}
use Rattle.rv_asm.specs.declared.state.Location.{Location}
use Rattle.rv_asm.specs.Assembled.{State, with_label, next_location}
use Rattle.rv_asm.specs.Views.{labels_of}

pub one_more_label : (m n : BTreeMap (Bor (List ℕ)) Location) (name : Bor (List ℕ)) (location : Location)
    → tree.UpdatesBy (λ x y. slice_cmp nat_cmp x.now y.now) (λ k. slice_cmp nat_cmp name.now k.now) m n (Some location)
    → labels_of n ≡ update bytes_eq (labels_of m) name.now (Some location)
one_more_label m n name location updates = λ i q. btree_map_updates_str name.now m n (Some location) updates q i

added : (s : State) (name : List ℕ) (column : ℕ) → (found : Option Location) → s.labels name ≡ found → found ≡ None
    → with_label name column s ≡ Ok (record s { labels = update bytes_eq s.labels name (Some (next_location s)) })
added s name column found e none = rw (e ∙ none) refl

pub labelled : (s t : State) (name : List ℕ) (column : ℕ) → s.labels name ≡ None → t ≡ record s { labels = update bytes_eq s.labels name (Some (next_location s)) }
    → with_label name column s ≡ Ok t
labelled s t name column none e = added s name column None none refl ∙ ap Ok (sym e)

pub absent : (m : BTreeMap (Bor (List ℕ)) Location) (name : Bor (List ℕ)) → tree.get (λ x y. slice_cmp nat_cmp x.now y.now) m name ≡ None → labels_of m name.now ≡ None
absent m name e = e
