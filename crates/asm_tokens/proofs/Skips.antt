-- The bytes of a token are passed, and a line's tokens go on after it.
use Rattle.std.proofs.Common.{◌≡◌, ◌≤◌, ◌<◌, length, ℕ, zero, suc, ◌+◌, ◌-◌, List, [], ◌∷◌, ◌++◌, drop, refl, Ok, Err, ap, ap₂, ◌∙◌, sym, arith}
use Rattle.std.proofs.lemmas.List.{drop-drop, append_assoc, length-drop}
use Rattle.asm_tokens.specs.declared.AsmKind.TheVariants as kinds
use Rattle.asm_tokens.specs.Tokens.{Read, wrong, ◌>>=◌, Token, Placed, Front, Blank, Comment, Begins, Wrong, front, tokens_from}
use Rattle.asm_tokens.specs.Views.{with_front}

skipped : (column left : ℕ) (bs : List ℕ) → tokens_from column left bs ≡ tokens_from (column + left) 0 (drop left bs)
skipped column zero bs = ap (λ c. tokens_from c 0 bs) (omega arith)
skipped column (suc left) [] = refl
skipped column (suc left) (b ∷ bs) = skipped (column + 1) left bs ∙ ap (λ c. tokens_from c 0 (drop left bs)) (omega arith)

-- what follows, by what the front is
branch : ℕ → List ℕ → Front → Read (List Placed)
branch column bs Blank = tokens_from (column + 1) 0 bs
branch column bs Comment = Ok []
branch column bs (Begins token n) = tokens_from (column + 1) (n - 1) bs >>= λ more. Ok (record { column = column; token = token } ∷ more)
branch column bs Wrong = wrong kinds.Token column

branches : (column b : ℕ) (bs : List ℕ) → tokens_from column 0 (b ∷ bs) ≡ branch column bs (front (b ∷ bs))
unfolding branch
branches column b bs = refl

pub past_blank : (column : ℕ) (bs : List ℕ) → front bs ≡ Blank → tokens_from column 0 bs ≡ tokens_from (column + 1) 0 (drop 1 bs)
unfolding branch
past_blank column [] e = absurd cc
past_blank column (b ∷ bs) e = branches column b bs ∙ ap (branch column bs) e

pub past_token : (column : ℕ) (bs : List ℕ) (token : Token) (n : ℕ) → 1 ≤ n → front bs ≡ Begins token n
    → tokens_from column 0 bs ≡ with_front (record { column = column; token = token } ∷ []) (tokens_from (column + n) 0 (drop n bs))
unfolding branch
past_token column [] token n some e = absurd cc
past_token column (b ∷ bs) token zero some e = absurd (omega arith)
past_token column (b ∷ bs) token (suc k) some e =
    let less : suc k - 1 ≡ k = omega arith in
    branches column b bs
    ∙ ap (branch column bs) e
    ∙ ap (λ j. with_front (record { column = column; token = token } ∷ []) (tokens_from (column + 1) j bs)) less
    ∙ ap (λ r. with_front (record { column = column; token = token } ∷ []) r) (skipped (column + 1) k bs ∙ ap (λ c. tokens_from c 0 (drop k bs)) (omega arith))

pub joined_tokens : (xs ys : List Placed) (read : Read (List Placed)) → with_front xs (with_front ys read) ≡ with_front (xs ++ ys) read
joined_tokens xs ys (Ok more) = ap Ok (sym (append_assoc xs ys more))
joined_tokens xs ys (Err e) = refl

-- the loop's equation goes on over a blank
pub over_blank : (out : List Placed) (i : ℕ) (line : List ℕ) → front (drop i line) ≡ Blank
    → with_front out (tokens_from (i + 1) 0 (drop i line)) ≡ tokens_from 1 0 line
    → with_front out (tokens_from (i + 1 + 1) 0 (drop (i + 1) line)) ≡ tokens_from 1 0 line
over_blank out i line e kept =
    ap (λ r. with_front out r) (ap (λ l. tokens_from (i + 1 + 1) 0 l) (sym (drop-drop 1 i line)) ∙ sym (past_blank (i + 1) (drop i line) e)) ∙ kept

-- and over a token
pub over_token : (out : List Placed) (i n : ℕ) (line : List ℕ) (token : Token) → 1 ≤ n → front (drop i line) ≡ Begins token n
    → with_front out (tokens_from (i + 1) 0 (drop i line)) ≡ tokens_from 1 0 line
    → with_front (out ++ record { column = i + 1; token = token } ∷ []) (tokens_from (i + n + 1) 0 (drop (i + n) line)) ≡ tokens_from 1 0 line
over_token out i n line token some e kept =
    let place : i + n + 1 ≡ i + 1 + n = omega arith in
    sym (joined_tokens out (record { column = i + 1; token = token } ∷ []) (tokens_from (i + n + 1) 0 (drop (i + n) line)))
    ∙ ap (λ r. with_front out r)
    (ap₂ (λ c l. with_front (record { column = i + 1; token = token } ∷ []) (tokens_from c 0 l)) place (sym (drop-drop n i line))
    ∙ sym (past_token (i + 1) (drop i line) token n some e))
    ∙ kept

past_wrong : (column : ℕ) (bs : List ℕ) → 1 ≤ length bs → front bs ≡ Wrong → tokens_from column 0 bs ≡ wrong kinds.Token column
unfolding branch
past_wrong column [] some e = absurd (omega arith)
past_wrong column (b ∷ bs) some e = branches column b bs ∙ ap (branch column bs) e

-- and ends where no token begins
pub at_wrong : (out : List Placed) (i : ℕ) (line : List ℕ) → i < length line → front (drop i line) ≡ Wrong
    → with_front out (tokens_from (i + 1) 0 (drop i line)) ≡ tokens_from 1 0 line
    → tokens_from 1 0 line ≡ wrong kinds.Token (i + 1)
at_wrong out i line more e kept =
    let left : length (drop i line) ≡ length line - i = length-drop i line in
    sym kept ∙ ap (λ r. with_front out r) (past_wrong (i + 1) (drop i line) (omega arith) e)
