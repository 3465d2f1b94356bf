-- A text that is an ending's is the spelling of the ending that is read off it.
use Rattle.std.proofs.Common.{◌≡◌, ℕ, Bool, true, false, ◌&&◌, ◌||◌, ◌==◌, nat_le, List, [], ◌∷◌, ◌++◌, drop, codes, decimal, refl, sym, ap, ◌∙◌, append_assoc, if◌then◌else◌}
use Rattle.std.specs.List.{join_with_byte, slice_split}
use Rattle.std.specs.Str.{bytes_eq}
use Rattle.std.specs.Str.Parse.{digits_value}
use Rattle.std.proofs.lemmas.List.Splits.{join_with_byte-slice_split}
use Rattle.coz_types.specs.Labels.{Text, is_decimal}
use Rattle.coz_types.specs.Endings.{ending_text, address_text, cause_text}
use Rattle.coz_types.specs.Ranges.{is_ending, last_word}
use Rattle.profile_reader.specs.EndingSpellings.{is_ending_text, ending_parts, is_one_of, causes, is_address}
use Rattle.coz_types.specs.declared.ending.Ending.{Ending}
use Rattle.coz_types.specs.declared.ending.Ending.TheVariants.{Exited, Trapped, Unsupported, Clock, OutputFull, VisitsFull, Stalled, Spent}
use Rattle.coz_types.specs.declared.ending.TrapCause.{TrapCause}
use Rattle.coz_types.specs.declared.ending.TrapCause.TheVariants.{Fetch, Illegal, Misaligned, Access, Break}
use Rattle.profile_reader.specs.Reading.{Ahead, ending_at, ending_in, ending_in_parts, cause_in}
use Rattle.profile_book.specs.Profile.{field}
use Rattle.profile_reader.specs.Grammar.{Before, expected_field, size, is_field, value_in}
use Rattle.profile_reader.specs.declared.fault.BookField.TheVariants.{End}
use Rattle.profile_reader.proofs.Steps.{Explains, item_step}
use Rattle.profile_reader.proofs.FieldSteps.{both, same_bytes}

pub record IsEndingOf (text : Text) (ending : Ending) : Type 0 where
  pub spelled : text ≡ ending_text ending
  pub range : is_ending ending ≡ true

one_word : (word : Text) (a b c d f : Bool) → (a ≡ true → word ≡ codes "stalled") → (b ≡ true → word ≡ codes "spent") → (c ≡ true → word ≡ codes "output-full") → (d ≡ true → word ≡ codes "visits-full") → (f ≡ true → word ≡ codes "clock")
    → (a || (b || (c || (d || (f || false))))) ≡ true → IsEndingOf word (if a then Stalled else (if b then Spent else (if c then OutputFull else (if d then VisitsFull else Clock))))
one_word word true b c d f p q r s t e = record { spelled = p refl; range = refl }
one_word word false true c d f p q r s t e = record { spelled = q refl; range = refl }
one_word word false false true d f p q r s t e = record { spelled = r refl; range = refl }
one_word word false false false true f p q r s t e = record { spelled = s refl; range = refl }
one_word word false false false false true p q r s t e = record { spelled = t refl; range = refl }
one_word word false false false false false p q r s t e = absurd cc

number_is : (top : ℕ) (text : Text) → is_decimal top text ≡ true → (text ≡ decimal (digits_value 10 text)) × (nat_le (digits_value 10 text) top ≡ true)
number_is top text e = let h = both (bytes_eq text (decimal (digits_value 10 text))) (nat_le (digits_value 10 text) top) e in (same_bytes _ _ h.0, h.1)

exited_is : (word n : Text) → word ≡ codes "exited" → is_decimal 255 n ≡ true → IsEndingOf (word ++ 58 ∷ n) (Exited (digits_value 10 n))
exited_is word n p e = let h = number_is 255 n e in record { spelled = ap (λ (w : Text). w ++ 58 ∷ n) p ∙ ap (λ (t : Text). codes "exited:" ++ t) h.0; range = h.1 }

unsupported_is : (word n : Text) → word ≡ codes "unsupported" → is_decimal last_word n ≡ true → IsEndingOf (word ++ 58 ∷ n) (Unsupported (digits_value 10 n))
unsupported_is word n p e = let h = number_is last_word n e in record { spelled = ap (λ (w : Text). w ++ 58 ∷ n) p ∙ ap (λ (t : Text). codes "unsupported:" ++ t) h.0; range = h.1 }

two_words : (word n : Text) (a b c d : Bool) → (a ≡ true → word ≡ codes "exited") → (b ≡ true → word ≡ codes "unsupported") → is_decimal 255 n ≡ c → is_decimal last_word n ≡ d
    → (if a then c else (b && d)) ≡ true → IsEndingOf (word ++ 58 ∷ n) (if a then Exited (digits_value 10 n) else Unsupported (digits_value 10 n))
two_words word n true b c d p q r s e = exited_is word n (p refl) (r ∙ e)
two_words word n false true c d p q r s e = unsupported_is word n (q refl) (s ∙ e)
two_words word n false false c d p q r s e = absurd cc

cause_is : (cause : Text) → is_one_of causes cause ≡ true → cause ≡ cause_text (cause_in cause)
cause_is cause e = by (bytes_eq cause (codes "fetch")) (bytes_eq cause (codes "illegal")) (bytes_eq cause (codes "misaligned")) (bytes_eq cause (codes "access")) (bytes_eq cause (codes "break"))
    (same_bytes _ _) (same_bytes _ _) (same_bytes _ _) (same_bytes _ _) (same_bytes _ _) e
  where
    by : (a b c d f : Bool) → (a ≡ true → cause ≡ codes "fetch") → (b ≡ true → cause ≡ codes "illegal") → (c ≡ true → cause ≡ codes "misaligned") → (d ≡ true → cause ≡ codes "access") → (f ≡ true → cause ≡ codes "break")
        → (a || (b || (c || (d || (f || false))))) ≡ true → cause ≡ cause_text (if a then Fetch else (if b then Illegal else (if c then Misaligned else (if d then Access else Break))))
    by true b c d f p q r s t e = p refl
    by false true c d f p q r s t e = q refl
    by false false true d f p q r s t e = r refl
    by false false false true f p q r s t e = s refl
    by false false false false true p q r s t e = t refl
    by false false false false false p q r s t e = absurd cc

-- the texts of a trap are joined
trap_text : (c : TrapCause) (hart pc : Text) → codes "trapped" ++ 58 ∷ (cause_text c ++ 58 ∷ (hart ++ 58 ∷ pc)) ≡ codes "trapped:" ++ cause_text c ++ codes ":" ++ hart ++ codes ":" ++ pc
trap_text Fetch hart pc = ap (λ (t : Text). codes "trapped:fetch:" ++ t) (sym (append_assoc hart (codes ":") pc))
trap_text Illegal hart pc = ap (λ (t : Text). codes "trapped:illegal:" ++ t) (sym (append_assoc hart (codes ":") pc))
trap_text Misaligned hart pc = ap (λ (t : Text). codes "trapped:misaligned:" ++ t) (sym (append_assoc hart (codes ":") pc))
trap_text Access hart pc = ap (λ (t : Text). codes "trapped:access:" ++ t) (sym (append_assoc hart (codes ":") pc))
trap_text Break hart pc = ap (λ (t : Text). codes "trapped:break:" ++ t) (sym (append_assoc hart (codes ":") pc))

trapped_is : (word cause hart pc : Text) → (bytes_eq word (codes "trapped") && (is_one_of causes cause && (is_decimal 255 hart && is_address pc))) ≡ true
    → IsEndingOf (word ++ 58 ∷ (cause ++ 58 ∷ (hart ++ 58 ∷ pc))) (Trapped (record { cause = cause_in cause; hart = record { 0 = digits_value 10 hart }; pc = digits_value 16 (drop 2 pc) }))
trapped_is word cause hart pc e =
    let one = both (bytes_eq word (codes "trapped")) (is_one_of causes cause && (is_decimal 255 hart && is_address pc)) e in
    let two = both (is_one_of causes cause) (is_decimal 255 hart && is_address pc) one.1 in
    let three = both (is_decimal 255 hart) (is_address pc) two.1 in
    let four = both (bytes_eq pc (address_text (digits_value 16 (drop 2 pc)))) (nat_le (digits_value 16 (drop 2 pc)) last_word) three.1 in
    let number = number_is 255 hart three.0 in
    record {
      spelled =
          ap (λ (t : Text). t ++ 58 ∷ (cause ++ 58 ∷ (hart ++ 58 ∷ pc))) (same_bytes _ _ one.0)
          ∙ ap (λ (t : Text). codes "trapped" ++ 58 ∷ (t ++ 58 ∷ (hart ++ 58 ∷ pc))) (cause_is cause two.0)
          ∙ trap_text (cause_in cause) hart pc
          ∙ ap (λ (t : Text). codes "trapped:" ++ cause_text (cause_in cause) ++ codes ":" ++ t ++ codes ":" ++ pc) number.0
          ∙ ap (λ (t : Text). codes "trapped:" ++ cause_text (cause_in cause) ++ codes ":" ++ decimal (digits_value 10 hart) ++ codes ":" ++ t) (same_bytes _ _ four.0);
      range = ap (λ (b : Bool). b && nat_le (digits_value 16 (drop 2 pc)) last_word) number.1 ∙ four.1;
    }

parts_are : (parts : List Text) → ending_parts parts ≡ true → IsEndingOf (join_with_byte 58 parts) (ending_in_parts parts)
parts_are [] e = absurd cc
parts_are (word ∷ []) e = one_word word (bytes_eq word (codes "stalled")) (bytes_eq word (codes "spent")) (bytes_eq word (codes "output-full")) (bytes_eq word (codes "visits-full")) (bytes_eq word (codes "clock")) (same_bytes _ _) (same_bytes _ _) (same_bytes _ _) (same_bytes _ _) (same_bytes _ _) e
parts_are (word ∷ n ∷ []) e = two_words word n (bytes_eq word (codes "exited")) (bytes_eq word (codes "unsupported")) (is_decimal 255 n) (is_decimal last_word n) (same_bytes _ _) (same_bytes _ _) refl refl e
parts_are (word ∷ cause ∷ hart ∷ []) e = absurd cc
parts_are (word ∷ cause ∷ hart ∷ pc ∷ []) e = trapped_is word cause hart pc e
parts_are (word ∷ cause ∷ hart ∷ pc ∷ more ∷ rest) e = absurd cc

pub ending_is : (text : Text) → is_ending_text text ≡ true → IsEndingOf text (ending_in text)
ending_is text e =
    let h = parts_are (slice_split (λ b. b == 58) text) e in
    record { spelled = sym (join_with_byte-slice_split 58 text) ∙ h.spelled; range = h.range }

pub ending_step : {before : Before} {a : Ahead} → expected_field before ≡ End → a.place ≡ size before
    → Explains (λ (ending : Ending). (End, field (codes "end") (ending_text ending)) ∷ before) (λ (ending : Ending). is_ending ending ≡ true) before a (ending_at a)
unfolding ending_at
ending_step {before = before} {a = a} e place =
    item_step End before (λ item. is_field End item && is_ending_text (value_in End item)) (λ item. ending_in (value_in End item)) (λ ending. field (codes "end") (ending_text ending)) (λ (ending : Ending). is_ending ending ≡ true) a
    (record {
      kind_is = e;
      same = λ _. refl;
      some = refl;
      spells = λ item d.
          let h = both (is_field End item) (is_ending_text (value_in End item)) d in
          let w = ending_is (value_in End item) h.1 in
          (same_bytes _ _ h.0 ∙ ap (λ (t : Text). field (codes "end") t) w.spelled, w.range);
    }) (λ _. refl) place
