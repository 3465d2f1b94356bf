-- Symbols from some number on.
use Rattle.std.proofs.Common.{◌≡◌, ◌<◌, ◌≤◌, ℕ, zero, suc, ◌+◌, ◌-◌, ◌*◌, ◌/◌, List, [], ◌∷◌, map, length, sym, ap, ◌∙◌, arith}
use Rattle.coz_types.specs.declared.image.Area.{Area}
use Rattle.elf_load.specs.Tables.{places}
use Rattle.elf_symbols.specs.declared.symbols.Symbol.{Symbol}
use Rattle.elf_symbols.specs.Symbols.{symbol_at}
use Rattle.function_sequences.specs.Functions.{by_address, with_function}

abbrev pub left_symbols : List ℕ → ℕ → List Symbol
left_symbols table k = map (symbol_at table) (places (24 * k) 24 (length table / 24 - k))

pub one_earlier : (areas : List Area) (table names : List ℕ) (k : ℕ) (s : Symbol) → 0 < k → k ≤ length table / 24 → s ≡ symbol_at table (24 * (k - 1))
    → with_function areas names s (by_address areas names (left_symbols table k)) ≡ by_address areas names (left_symbols table (k - 1))
one_earlier areas table names zero s some within is = absurd (omega arith)
one_earlier areas table names (suc k) s some within is =
    let n = length table / 24 in
    let left : n - k ≡ suc (n - suc k) = omega arith in
    let next : 24 * k + 24 ≡ 24 * suc k = omega arith in
    let back : suc k - 1 ≡ k = omega arith in
    let split : left_symbols table k ≡ symbol_at table (24 * k) ∷ left_symbols table (suc k) =
    ap (λ (m : ℕ). map (symbol_at table) (places (24 * k) 24 m)) left
    ∙ ap (λ (from : ℕ). symbol_at table (24 * k) ∷ map (symbol_at table) (places from 24 (n - suc k))) next in
    sym (ap (λ (j : ℕ). by_address areas names (left_symbols table j)) back
    ∙ ap (by_address areas names) split
    ∙ ap (λ (x : Symbol). with_function areas names x (by_address areas names (left_symbols table (suc k)))) (ap (λ (j : ℕ). symbol_at table (24 * j)) (sym back) ∙ sym is))

pub none_left : (areas : List Area) (table names : List ℕ) → by_address areas names (left_symbols table (length table / 24)) ≡ []
none_left areas table names =
    let nothing : length table / 24 - length table / 24 ≡ 0 = omega arith in
    ap (λ (m : ℕ). by_address areas names (map (symbol_at table) (places (24 * (length table / 24)) 24 m))) nothing
