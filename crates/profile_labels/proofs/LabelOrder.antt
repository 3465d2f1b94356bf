-- The order of labels is total, and two labels that tie are one.
use Rattle.std.proofs.Common.{rules, ◌≡◌, ℕ, Bool, true, false, not, ◌&&◌, ◌==◌, nat_lt, nat_le, [], ◌∷◌, ◌++◌, decimal, Option, Some, None, if◌then◌else◌, refl, sym, ap, ap₂, subst, ◌∙◌}
use Rattle.std.specs.Str.{bytes_eq}
use Rattle.std.specs.Str.Parse.{digits_value}
use Rattle.std.specs.Cmp.{IsTotalOrder}
use Rattle.std.specs.Cmp.Lexicographic.{slice_cmp}
use Rattle.std.specs.Ordering.{is_eq, nat_cmp, ordering_then}
use Rattle.std.specs.declared.cmp.Ordering.{Ordering}
use Rattle.std.specs.declared.cmp.Ordering.TheVariants.{Less, Equal, Greater}
use Rattle.std.proofs.lemmas.Bool.{and_parts}
use Rattle.std.proofs.lemmas.Cmp.{nat_cmp_total, nat_list_cmp_total, on_total, then_total, ranked}
use Rattle.std.proofs.lemmas.Map.Text.{is_eq-slice_cmp}
use Rattle.std.proofs.lemmas.Slice.Eq.{bytes_eq-Decides}
use Rattle.profile_labels.specs.LabelOrder.{label_cmp}
use Rattle.coz_types.specs.Labels.{Text, is_decimal, is_empty, is_label, is_written, label_of, line_number, number_of, parts_of, path_of}

-- ---- a label is its path and its number

parts_join : (text : Text) (p : Text × Text) → parts_of text ≡ Some p → text ≡ p.0 ++ 58 ∷ p.1
parts_join [] p is = absurd cc
parts_join (b ∷ rest) p is = by (parts_of rest) refl (parts_join rest)
  where
    joined : Text × Text → Text
    joined q = q.0 ++ 58 ∷ q.1

    here : (c : Bool) → (b == 58) ≡ c → (if c then Some ([], rest) else None) ≡ Some p → b ∷ rest ≡ joined p
    here false e is' = absurd cc
    here true e is' =
        let same : b ≡ 58 = search (rules, e) in
        let parts : (let q : Text × Text = ([], rest) in q) ≡ p = cc in
        ap (λ (c : ℕ). c ∷ rest) same ∙ ap joined parts

    by : (o : Option (Text × Text)) → parts_of rest ≡ o → ((q : Text × Text) → parts_of rest ≡ Some q → rest ≡ q.0 ++ 58 ∷ q.1) → b ∷ rest ≡ joined p
    by (Some q) e more =
        let found : Some (b ∷ q.0, q.1) ≡ Some p = sym (rw (parts_of, e) refl) ∙ is in
        let parts : (let r : Text × Text = (b ∷ q.0, q.1) in r) ≡ p = cc in
        ap (λ (t : Text). b ∷ t) (more q e) ∙ ap joined parts
    by None e more = here (b == 58) refl (sym (rw (parts_of, e) refl) ∙ is)

-- the number of a spelling is above 0, so it is the spelling of it
spelling : (text : Text) → nat_lt 0 (line_number text) ≡ true → text ≡ decimal (line_number text)
spelling text positive = by (is_decimal 4294967295 text) refl
  where
    by : (c : Bool) → is_decimal 4294967295 text ≡ c → text ≡ decimal (line_number text)
    by false e = absurd (let none : nat_lt 0 0 ≡ true = subst (λ (c : Bool). nat_lt 0 (if c then digits_value 10 text else 0) ≡ true) e positive in cc)
    by true e =
        let same = (bytes_eq-Decides text (decimal (digits_value 10 text))).0 (and_parts (bytes_eq text (decimal (digits_value 10 text))) (nat_le (digits_value 10 text) 4294967295) e).0 in
        same ∙ ap (λ (c : Bool). decimal (if c then digits_value 10 text else 0)) (sym e)

right_parts : Option (Text × Text) → Bool
right_parts o = elim o [ Some p ↦ not (is_empty p.0) && (is_written p.0 && nat_lt 0 (line_number p.1)) | None ↦ false ]

is_spelled : (label : Text) → is_label label ≡ true → label ≡ label_of (path_of label) (number_of label)
unfolding right_parts
is_spelled label right = by (parts_of label) refl
  where
    whole : Option (Text × Text) → Text
    whole o = label_of (elim o [ Some p ↦ p.0 | None ↦ label ]) (elim o [ Some p ↦ line_number p.1 | None ↦ 0 ])

    by : (o : Option (Text × Text)) → parts_of label ≡ o → label ≡ whole (parts_of label)
    by None e = absurd (let none : false ≡ true = sym (ap right_parts e) ∙ right in cc)
    by (Some p) e =
        let passes : right_parts (Some p) ≡ true = sym (ap right_parts e) ∙ right in
        let rest = and_parts (not (is_empty p.0)) (is_written p.0 && nat_lt 0 (line_number p.1)) passes in
        let positive = (and_parts (is_written p.0) (nat_lt 0 (line_number p.1)) rest.1).1 in
        parts_join label p e ∙ ap (λ (t : Text). p.0 ++ 58 ∷ t) (spelling p.1 positive) ∙ ap whole (sym e)

-- ---- their order

pub label_cmp_total : IsTotalOrder label_cmp
label_cmp_total = then_total (on_total path_of nat_list_cmp_total) (on_total number_of nat_cmp_total)

both_tie : (p n : Ordering) → ordering_then p n ≡ Equal → (p ≡ Equal) × (n ≡ Equal)
both_tie Less n is = absurd cc
both_tie Equal n is = (refl, is)
both_tie Greater n is = absurd cc

-- two that tie are one
pub tied_are_one : (a b : Text) → is_label a ≡ true → is_label b ≡ true → label_cmp a b ≡ Equal → a ≡ b
tied_are_one a b right other is =
    let ties = both_tie (slice_cmp nat_cmp (path_of a) (path_of b)) (nat_cmp (number_of a) (number_of b)) is in
    let paths = (bytes_eq-Decides (path_of a) (path_of b)).0 (sym (is_eq-slice_cmp (path_of a) (path_of b)) ∙ ap is_eq ties.0) in
    let numbers = ranked (number_of a) (number_of b) Equal (sym ties.1) in
    is_spelled a right ∙ ap₂ label_of paths numbers ∙ sym (is_spelled b other)
