-- Of two labels one comes before the other, or they are one.
use Rattle.std.proofs.Common.{rules, ◌≡◌, ℕ, Bool, true, false, not, ◌&&◌, ◌||◌, ◌==◌, nat_lt, nat_le, [], ◌∷◌, ◌++◌, decimal, Option, Some, None, if◌then◌else◌, refl, sym, ap, ap₂, subst, ◌∙◌}
use Rattle.std.specs.Str.{bytes_eq}
use Rattle.std.specs.Str.Parse.{digits_value}
use Rattle.std.specs.Cmp.{IsTotalOrder}
use Rattle.std.specs.Cmp.Lexicographic.{slice_cmp}
use Rattle.std.specs.Ordering.{is_lt, is_eq, nat_cmp, ordering_reverse, ordering_then}
use Rattle.std.specs.declared.cmp.Ordering.{Ordering}
use Rattle.std.specs.declared.cmp.Ordering.TheVariants.{Less, Equal, Greater}
use Rattle.std.proofs.lemmas.Bool.{and_parts}
use Rattle.std.proofs.lemmas.Cmp.{nat_cmp_total, nat_list_cmp_total, on_total, then_total, ranked, tied_itself}
use Rattle.std.proofs.lemmas.Map.Text.{is_eq-slice_cmp}
use Rattle.std.proofs.lemmas.Slice.Eq.{bytes_eq-Decides}
use Rattle.coz_types.specs.Labels.{Text, is_label, label_before}
use Rattle.profile_labels.specs.LabelOrder.{label_cmp}
use Rattle.profile_labels.proofs.LabelOrder.{label_cmp_total, tied_are_one}

-- a label comes after another or is that one, unless it comes before it
pub falls : (a b : Text) → is_label a ≡ true → is_label b ≡ true → (label_before a b || bytes_eq a b) ≡ not (label_before b a)
falls a b right other = by (label_cmp a b) refl
  where
    back : label_cmp b a ≡ ordering_reverse (label_cmp a b)
    back = label_cmp_total.antisymm b a

    same : (c : Bool) → bytes_eq a b ≡ c → label_cmp a b ≡ Greater → bytes_eq a b ≡ false
    same false e is = e
    same true e is =
        let one : a ≡ b = (bytes_eq-Decides a b).0 e in
        let tie : label_cmp a b ≡ Equal = ap (label_cmp a) (sym one) ∙ tied_itself label_cmp_total a in
        absurd (let bad : Equal ≡ Greater = sym tie ∙ is in cc)

    by : (o : Ordering) → label_cmp a b ≡ o → (is_lt (label_cmp a b) || bytes_eq a b) ≡ not (is_lt (label_cmp b a))
    by Less e = ap (λ (p : Ordering). is_lt p || bytes_eq a b) e ∙ sym (ap (λ (p : Ordering). not (is_lt p)) (back ∙ ap ordering_reverse e))
    by Equal e =
        ap (λ (p : Ordering). is_lt p || bytes_eq a b) e ∙ (bytes_eq-Decides a b).1 (tied_are_one a b right other e)
        ∙ sym (ap (λ (p : Ordering). not (is_lt p)) (back ∙ ap ordering_reverse e))
    by Greater e =
        ap (λ (p : Ordering). is_lt p || bytes_eq a b) e ∙ same (bytes_eq a b) refl e
        ∙ sym (ap (λ (p : Ordering). not (is_lt p)) (back ∙ ap ordering_reverse e))
