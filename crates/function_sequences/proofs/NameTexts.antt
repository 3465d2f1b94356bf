-- Names of symbols, and paths that end with one.
use Rattle.std.proofs.Common.{◌≡◌, ◌<◌, ℕ, suc, ◌+◌, Bool, true, false, not, ◌==◌, List, [], ◌∷◌, ◌++◌, take, drop, get_or, length, refl, ap, sym, subst, ◌∙◌, arith, cond, nat_lt}
use Rattle.std.specs.Prelude.{take_while, slice_index}
use Rattle.std.specs.List.{AllPass, prefix_len}
use Rattle.std.proofs.lemmas.Bool.{and_parts, ltb-true}
use Rattle.std.proofs.lemmas.List.{get_or-take}
use Rattle.std.proofs.lemmas.List.Elements.{All-append, All-push}
use Rattle.std.proofs.lemmas.List.Folds.{length-prefix_len}
use Rattle.std.proofs.lemmas.List.Sums.{prefix_len_passes}
use Rattle.std.proofs.Math.Seq.{drop-cons}
use Rattle.coz_types.specs.Labels.{written}
use Rattle.elf_symbols.specs.declared.symbols.Symbol.{Symbol}
use Rattle.elf_symbols.specs.Symbols.{name_of}
use Rattle.line_remap.specs.Marks.{has_zero}
use Rattle.line_remap.proofs.Texts.{raw_text}
use Rattle.function_sequences.specs.Sequences.{IsNamed}

abbrev is_byte : ℕ → Bool
is_byte b = not (b == 0)

pub name_text : (bytes : List ℕ) → AllPass (λ b. not (b == 0)) (take_while (λ b. not (b == 0)) bytes)
name_text bytes k d within =
    let n = prefix_len (λ b. not (b == 0)) bytes in
    let before : k < n = omega (arith, length-prefix_len (λ b. not (b == 0)) bytes) in
    ap (λ b. not (b == 0)) (get_or-take n bytes k d before) ∙ prefix_len_passes (λ b. not (b == 0)) bytes k d before

-- the name of a symbol isn't empty
name_some : (b : ℕ) (bytes : List ℕ) → not (b == 0) ≡ true → 0 < length (take_while (λ b. not (b == 0)) (b ∷ bytes))
name_some b bytes e =
    let n = prefix_len (λ b. not (b == 0)) bytes in
    let one : 1 + n ≡ suc n = omega arith in
    let P : Bool → Type 0 = λ t. 0 < length (take (cond t (1 + n) 0) (b ∷ bytes)) in
    let some : 0 < length (take (suc n) (b ∷ bytes)) = omega arith in
    subst P (sym e) (subst (λ (k : ℕ). 0 < length (take k (b ∷ bytes))) (sym one) some)

pub named : (names : List ℕ) (s : Symbol) → IsNamed names s → 0 < length (name_of names s)
named names s is =
    let parts = and_parts (nat_lt s.name (length names)) (not (slice_index names s.name == 0)) is.name in
    let within = ltb-true s.name (length names) parts.0 in
    let split = drop-cons names s.name 0 within in
    subst (λ xs. 0 < length (take_while (λ b. not (b == 0)) xs)) (sym split) (name_some (get_or names s.name 0) (drop (suc s.name) names) parts.1)

-- a path, a slash and a name
pub joined_text : (raw path name : List ℕ) → written raw ≡ path → has_zero path ≡ false → AllPass (λ b. not (b == 0)) name → AllPass (λ b. not (b == 0)) ((raw ++ 47 ∷ []) ++ name)
joined_text raw path name is none right =
    All-append (λ b. is_byte b ≡ true) (raw ++ 47 ∷ []) name (All-push (λ b. is_byte b ≡ true) raw 47 (raw_text raw path is none) refl) right
