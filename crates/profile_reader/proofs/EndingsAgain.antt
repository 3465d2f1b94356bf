-- The text of an ending within its ranges is read as this ending.
use Rattle.std.proofs.Common.{rules, ◌≡◌, ℕ, ◌^◌, ◌<◌, ◌≤◌, Bool, true, false, not, ◌&&◌, ◌==◌, nat_le, List, [], ◌∷◌, ◌++◌, drop, codes, decimal, refl, sym, ap, subst, ◌∙◌, append_assoc, arith}
use Rattle.std.specs.List.{list_all, onto_first}
use Rattle.std.specs.Fmt.{digits}
use Rattle.std.specs.Str.Parse.{digits_value, AllDigits}
use Rattle.std.specs.Char.{digit_value}
use Rattle.std.proofs.lemmas.Fmt.{decimal_is_IsNumeral, digits_is_IsNumeral}
use Rattle.std.proofs.lemmas.Bool.{leb-true}
use Rattle.std.proofs.lemmas.List.Splits.{slice_split-cons_yes, slice_split-cons_no}
use Rattle.coz_types.specs.Labels.{Text}
use Rattle.coz_types.specs.Endings.{ending_text, address_text, cause_text}
use Rattle.coz_types.specs.Ranges.{is_ending, last_word}
use Rattle.profile_reader.specs.EndingSpellings.{is_ending_text, ending_parts, is_address, is_one_of, causes}
use Rattle.coz_types.specs.declared.ending.Ending.{Ending}
use Rattle.coz_types.specs.declared.ending.Ending.TheVariants.{Exited, Trapped, Unsupported, Clock, OutputFull, VisitsFull, Stalled, Spent}
use Rattle.coz_types.specs.declared.ending.TrapCause.{TrapCause}
use Rattle.coz_types.specs.declared.ending.TrapCause.TheVariants.{Fetch, Illegal, Misaligned, Access, Break}
use Rattle.profile_reader.specs.Parts.{parts}
use Rattle.profile_reader.specs.Reading.{ending_in, ending_in_parts, cause_in}
use Rattle.profile_reader.proofs.FieldSteps.{both}
use Rattle.profile_labels.proofs.Spellings.{is_written}
use Rattle.profile_reader.proofs.Addresses.{right_address}

-- no byte is a colon
abbrev pub has_no_colon : Text → Bool
has_no_colon text = list_all (λ b. not (b == 58)) text

pub part_then : (text rest : Text) → has_no_colon text ≡ true → parts (text ++ 58 ∷ rest) ≡ text ∷ parts rest
part_then [] rest e = slice_split-cons_yes (λ b. b == 58) 58 rest refl
part_then (b ∷ text) rest e =
    let h = both (not (b == 58)) (has_no_colon text) e in
    slice_split-cons_no (λ b. b == 58) b (text ++ 58 ∷ rest) (by (b == 58) h.0) ∙ ap (λ (ts : List Text). onto_first b ts) (part_then text rest h.1)
  where
    by : (c : Bool) → not c ≡ true → c ≡ false
    by true e = absurd cc
    by false e = refl

pub last_part : (text : Text) → has_no_colon text ≡ true → parts text ≡ text ∷ []
last_part [] e = refl
last_part (b ∷ text) e =
    let h = both (not (b == 58)) (has_no_colon text) e in
    slice_split-cons_no (λ b. b == 58) b text (by (b == 58) h.0) ∙ ap (λ (ts : List Text). onto_first b ts) (last_part text h.1)
  where
    by : (c : Bool) → not c ≡ true → c ≡ false
    by true e = absurd cc
    by false e = refl

digits_plain : (base : ℕ) (ds : Text) → base ≤ 16 → AllDigits base ds → has_no_colon ds ≡ true
digits_plain base [] le all = refl
digits_plain base (d ∷ ds) le all = ap (λ (c : Bool). not c && has_no_colon ds) (by (d == 58) refl) ∙ digits_plain base ds le all.1
  where
    by : (c : Bool) → (d == 58) ≡ c → c ≡ false
    by true e = let same : d ≡ 58 = search (rules, e) in let P : ℕ → Type 0 = λ n. digit_value n < base in let never : digit_value 58 < base = subst P same all.0 in absurd (omega arith)
    by false e = refl

decimal_plain : (n : ℕ) → n < 2 ^ 64 → has_no_colon (decimal n) ≡ true
decimal_plain n lt = digits_plain 10 (decimal n) (omega arith) (decimal_is_IsNumeral n lt).0.1

small : (n : ℕ) → n ≤ last_word → n < 16 ^ 64
small n le = omega arith

address_plain : (n : ℕ) → n ≤ last_word → has_no_colon (address_text n) ≡ true
address_plain n le = digits_plain 16 (digits 16 false n) (omega arith) (digits_is_IsNumeral 16 false (omega arith) (omega arith) n (small n le)).0.1

pub record IsReadAgain (ending : Ending) : Type 0 where
  pub passes : is_ending_text (ending_text ending) ≡ true
  pub value : ending_in (ending_text ending) ≡ ending

by_parts : (ending : Ending) (ts : List Text) → parts (ending_text ending) ≡ ts → ending_parts ts ≡ true → ending_in_parts ts ≡ ending → IsReadAgain ending
by_parts ending ts e d v = record { passes = ap ending_parts e ∙ d; value = ap ending_in_parts e ∙ v }

and_both : (a b : Bool) → a ≡ true → b ≡ true → (a && b) ≡ true
and_both a b d e = ap (λ (c : Bool). c && b) d ∙ e

address_again : (n : ℕ) → n ≤ last_word → (is_address (address_text n) ≡ true) × (n ≡ digits_value 16 (digits 16 false n))
address_again n le = right_address (address_text n) n refl refl le

cause_again : (c : TrapCause) → (is_one_of causes (cause_text c) ≡ true) × (cause_in (cause_text c) ≡ c) × (has_no_colon (cause_text c) ≡ true)
cause_again Fetch = (refl, refl, refl)
cause_again Illegal = (refl, refl, refl)
cause_again Misaligned = (refl, refl, refl)
cause_again Access = (refl, refl, refl)
cause_again Break = (refl, refl, refl)

pub ending_read : (ending : Ending) → is_ending ending ≡ true → IsReadAgain ending
ending_read (Exited code) e =
    let le : code ≤ 255 = leb-true _ _ e in
    let w = is_written 255 (decimal code) code (omega arith) refl le in
    by_parts (Exited code) (codes "exited" ∷ decimal code ∷ []) (part_then (codes "exited") (decimal code) refl ∙ ap (λ (ts : List Text). codes "exited" ∷ ts) (last_part (decimal code) (decimal_plain code (omega arith)))) w.0 (ap (λ (n : ℕ). Exited n) (sym w.1))
ending_read (Unsupported number) e =
    let le : number ≤ last_word = leb-true _ _ e in
    let w = is_written last_word (decimal number) number (omega arith) refl le in
    by_parts (Unsupported number) (codes "unsupported" ∷ decimal number ∷ []) (part_then (codes "unsupported") (decimal number) refl ∙ ap (λ (ts : List Text). codes "unsupported" ∷ ts) (last_part (decimal number) (decimal_plain number (omega arith)))) w.0 (ap (λ (n : ℕ). Unsupported n) (sym w.1))
ending_read Clock e = by_parts Clock (codes "clock" ∷ []) (last_part (codes "clock") refl) refl refl
ending_read OutputFull e = by_parts OutputFull (codes "output-full" ∷ []) (last_part (codes "output-full") refl) refl refl
ending_read VisitsFull e = by_parts VisitsFull (codes "visits-full" ∷ []) (last_part (codes "visits-full") refl) refl refl
ending_read Stalled e = by_parts Stalled (codes "stalled" ∷ []) (last_part (codes "stalled") refl) refl refl
ending_read Spent e = by_parts Spent (codes "spent" ∷ []) (last_part (codes "spent") refl) refl refl
ending_read (Trapped trap) e =
    let h = both (nat_le trap.hart.0 255) (nat_le trap.pc last_word) e in
    let hart_le : trap.hart.0 ≤ 255 = leb-true _ _ h.0 in
    let pc_le : trap.pc ≤ last_word = leb-true _ _ h.1 in
    let w = is_written 255 (decimal trap.hart.0) trap.hart.0 (omega arith) refl hart_le in
    let a = address_again trap.pc pc_le in
    let c = cause_again trap.cause in
    let hart = decimal trap.hart.0 in
    let pc = address_text trap.pc in
    by_parts (Trapped trap) (codes "trapped" ∷ cause_text trap.cause ∷ hart ∷ pc ∷ [])
    (ap parts (regroup (codes "trapped:") (cause_text trap.cause) (codes ":") hart pc)
    ∙ part_then (codes "trapped") (cause_text trap.cause ++ 58 ∷ (hart ++ 58 ∷ pc)) refl
    ∙ ap (λ (ts : List Text). codes "trapped" ∷ ts) (part_then (cause_text trap.cause) (hart ++ 58 ∷ pc) c.2
    ∙ ap (λ (ts : List Text). cause_text trap.cause ∷ ts) (part_then hart pc (decimal_plain trap.hart.0 (omega arith))
    ∙ ap (λ (ts : List Text). hart ∷ ts) (last_part pc (address_plain trap.pc pc_le)))))
    (and_both _ _ c.0 (and_both _ _ w.0 a.0))
    (ap (λ (x : TrapCause). Trapped (record { cause = x; hart = record { 0 = digits_value 10 hart }; pc = digits_value 16 (drop 2 pc) })) c.1
    ∙ ap (λ (n : ℕ). Trapped (record { cause = trap.cause; hart = record { 0 = n }; pc = digits_value 16 (drop 2 pc) })) (sym w.1)
    ∙ ap (λ (n : ℕ). Trapped (record { cause = trap.cause; hart = trap.hart; pc = n })) (sym a.1))
  where
    regroup : (a b c d e : Text) → (((a ++ b) ++ c) ++ d) ++ c ++ e ≡ a ++ (b ++ (c ++ (d ++ (c ++ e))))
    regroup a b c d e = simp append_assoc refl
