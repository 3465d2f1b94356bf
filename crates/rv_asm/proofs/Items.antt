-- The numbers and labels after `.word` and its kin, one by one.
use Rattle.std.proofs.Common.{◌≡◌, ℕ, Bool, true, false, List, [], ◌∷◌, ◌++◌, refl, Result, Ok, Err, ap, ◌∙◌, sym, if◌then◌else◌, is_err}
use Rattle.std.specs.Prelude.{◌==◌}
use Rattle.std.specs.Str.{byte}
use Rattle.std.proofs.lemmas.List.{append_assoc, append-nil}
use Rattle.asm_tokens.specs.declared.AsmKind.TheVariants as kinds
use Rattle.asm_tokens.specs.declared.line.TokenError.{TokenError}
use Rattle.asm_tokens.specs.declared.line.TokenError.TheVariants as errors
use Rattle.asm_tokens.specs.declared.form.Size.{Size}
use Rattle.asm_tokens.specs.Tokens.{Read, Spot, wrong, ◌>>=◌, Token, Name, Number, Text, Mark, Placed}
use Rattle.rv_asm.specs.Statements.{Piece, mark, item, item_operand, then_item, items}
use Rattle.rv_asm.specs.Views.{EndsThere}
use Rattle.asm_tokens.specs.Views.{with_front, FailsLine}

-- what follows an item: nothing, or a comma and more items
abbrev pub items_behind : ℕ → Size → List Placed → Read (List Piece)
items_behind end size [] = Ok []
items_behind end size (c ∷ ts) = mark end (byte ",") (c ∷ ts) >>= λ rest. items end size rest

chosen : {A B : Type 0} (b : Bool) (x : A) (y : B) (column : ℕ) (f : Read (List Piece)) → ((if b then Ok x else wrong kinds.Operand column) >>= λ _. f) ≡ ((if b then Ok y else wrong kinds.Operand column) >>= λ _. f)
chosen true x y column f = refl
chosen false x y column f = refl

chosen_rest : (b : Bool) (end : ℕ) (size : Size) (ts : List Placed) (column : ℕ) → ((if b then Ok ts else wrong kinds.Operand column) >>= λ rest. items end size rest) ≡ ((if b then Ok ts else wrong kinds.Operand column) >>= λ _. items end size ts)
chosen_rest true end size ts column = refl
chosen_rest false end size ts column = refl

-- a comma is read whatever follows it
comma : (end : ℕ) (size : Size) (column : ℕ) (token : Token) (ts : List Placed)
    → (mark end (byte ",") (record { column = column; token = token } ∷ []) >>= λ _. items end size ts) ≡ (mark end (byte ",") (record { column = column; token = token } ∷ ts) >>= λ rest. items end size rest)
comma end size column (Name n) ts = refl
comma end size column (Number n) ts = refl
comma end size column (Text n) ts = refl
comma end size column (Mark n) ts = chosen (byte "," == n) [] ts column (items end size ts) ∙ sym (chosen_rest (byte "," == n) end size ts column)

joins : {B : Type 0} (m : Read B) (read : Read (List Piece)) (p : Piece) → (m >>= λ _. read >>= λ ps. Ok (p ∷ ps)) ≡ with_front (p ∷ []) (m >>= λ _. read)
joins (Ok x) (Ok ps) p = refl
joins (Ok x) (Err s) p = refl
joins (Err s) read p = refl

-- items are the first one, and what follows it
items_by : (end : ℕ) (size : Size) (t : Placed) (ts : List Placed) (r : Read Piece) → item end size t ≡ r → items end size (t ∷ ts) ≡ r >>= λ p. with_front (p ∷ []) (items_behind end size ts)
items_by end size t [] (Ok p) e = rw e refl
items_by end size t [] (Err s) e = rw e refl
items_by end size t (c ∷ ts) (Err s) e = rw e refl
items_by end size t (c ∷ ts) (Ok p) e =
    ap (λ (r : Read Piece). r >>= λ p. mark end (byte ",") (c ∷ []) >>= λ _. items end size ts >>= λ ps. Ok (p ∷ ps)) e
    ∙ joins (mark end (byte ",") (c ∷ [])) (items end size ts) p
    ∙ ap (with_front (p ∷ [])) (comma end size c.column c.token ts)

same_pair : (x y : Piece × List Placed) → ◌≡◌ {A = Read (Piece × List Placed)} (Ok x) (Ok y) → x ≡ y
same_pair x y e = cc

first_by : (end : ℕ) (size : Size) (t : Placed) (ts rest : List Placed) (p : Piece) (r : Read Piece) → item end size t ≡ r → ◌>>=◌ {B = Piece × List Placed} r (λ q. Ok (q, ts)) ≡ Ok (p, rest) → items end size (t ∷ ts) ≡ with_front (p ∷ []) (items_behind end size rest)
first_by end size t ts rest p (Ok q) e is =
    let both = same_pair (q, ts) (p, rest) is in
    let same = ap (λ (x : Piece × List Placed). x.0) both in
    let left = ap (λ (x : Piece × List Placed). x.1) both in
    items_by end size t ts (Ok q) e ∙ ap (λ x. with_front (x ∷ []) (items_behind end size ts)) same ∙ ap (λ xs. with_front (p ∷ []) (items_behind end size xs)) left
first_by end size t ts rest p (Err s) e is = absurd cc

-- the first item is read
pub begins : (end : ℕ) (size : Size) (ts rest : List Placed) (p : Piece) → item_operand end size ts ≡ Ok (p, rest) → items end size ts ≡ with_front (p ∷ []) (items_behind end size rest)
begins end size [] rest p is = absurd cc
begins end size (t ∷ ts) rest p is = first_by end size t ts rest p (item end size t) refl is

wrong_by : (end : ℕ) (size : Size) (t : Placed) (ts : List Placed) (s : Spot) (r : Read Piece) → item end size t ≡ r → ◌>>=◌ {B = Piece × List Placed} r (λ q. Ok (q, ts)) ≡ Err s → items end size (t ∷ ts) ≡ Err s
wrong_by end size t ts s (Ok q) e is = absurd cc
wrong_by end size t ts s (Err f) e is = let same : f ≡ s = cc in items_by end size t ts (Err f) e ∙ ap Err same

wrong_first : (end : ℕ) (size : Size) (ts : List Placed) (s : Spot) → item_operand end size ts ≡ Err s → items end size ts ≡ Err s
wrong_first end size [] s is = cc
wrong_first end size (t ∷ ts) s is = wrong_by end size t ts s (item end size t) refl is

-- or it is none
pub no_first : (end : ℕ) (size : Size) (ts : List Placed) (e : TokenError) → FailsLine e (item_operand end size ts) → FailsLine e (items end size ts)
no_first end size ts errors.Memory fails = tt
no_first end size ts (errors.Fault kind column) fails = wrong_first end size ts (record { kind = kind; column = column }) fails

joined : {A : Type 0} (xs ys : List A) (read : Read (List A)) → with_front xs (with_front ys read) ≡ with_front (xs ++ ys) read
joined xs ys (Ok more) = ap Ok (sym (append_assoc xs ys more))
joined xs ys (Err e) = refl

next_by : (end : ℕ) (size : Size) (comma : Read (List Placed)) (rest : List Placed) (p : Piece) → ◌>>=◌ {B = Piece × List Placed} comma (λ ts. item_operand end size ts) ≡ Ok (p, rest)
    → (comma >>= λ ts. items end size ts) ≡ with_front (p ∷ []) (items_behind end size rest)
next_by end size (Ok ts) rest p is = begins end size ts rest p is
next_by end size (Err s) rest p is = absurd cc

next : (end : ℕ) (size : Size) (ts rest : List Placed) (p : Piece) → then_item end size ts ≡ Ok (p, rest) → items_behind end size ts ≡ with_front (p ∷ []) (items_behind end size rest)
next end size [] rest p is = absurd cc
next end size (c ∷ ts) rest p is = next_by end size (mark end (byte ",") (c ∷ ts)) rest p is

-- one more item
pub goes_on : (end : ℕ) (size : Size) (out : List Piece) (p : Piece) (ts rest : List Placed) (all : Read (List Piece)) → then_item end size ts ≡ Ok (p, rest)
    → with_front out (items_behind end size ts) ≡ all → with_front (out ++ p ∷ []) (items_behind end size rest) ≡ all
goes_on end size out p ts rest all is kept =
    sym (joined out (p ∷ []) (items_behind end size rest)) ∙ ap (with_front out) (sym (next end size ts rest p is)) ∙ kept

-- nothing is left
pub ends : {U : Type 0} (end : ℕ) (size : Size) (out : List Piece) (r : Result U TokenError) (ts : List Placed) (all : Read (List Piece)) → is_err r ≡ false → EndsThere r ts → with_front out (items_behind end size ts) ≡ all → all ≡ Ok out
ends end size out (Err e) ts all no_more there kept = absurd cc
ends end size out (Ok u) ts all no_more none kept = sym kept ∙ ap (λ xs. with_front out (items_behind end size xs)) none ∙ ap Ok (append-nil out)

wrong_next : (end : ℕ) (size : Size) (comma : Read (List Placed)) (s : Spot) → ◌>>=◌ {B = Piece × List Placed} comma (λ ts. item_operand end size ts) ≡ Err s → (comma >>= λ ts. items end size ts) ≡ Err s
wrong_next end size (Ok ts) s is = wrong_first end size ts s is
wrong_next end size (Err f) s is = let same : f ≡ s = cc in ap Err same

stops_by : (end : ℕ) (size : Size) (out : List Piece) (t : Placed) (ts : List Placed) (e : TokenError) (all : Read (List Piece)) → FailsLine e (then_item end size (t ∷ ts))
    → with_front out (items_behind end size (t ∷ ts)) ≡ all → FailsLine e all
stops_by end size out t ts errors.Memory all fails kept = tt
stops_by end size out t ts (errors.Fault kind column) all fails kept =
    sym kept ∙ ap (with_front out) (wrong_next end size (mark end (byte ",") (t ∷ ts)) (record { kind = kind; column = column }) fails)

-- something is left, which is no comma and item
pub stops : {U : Type 0} (end : ℕ) (size : Size) (out : List Piece) (r : Result U TokenError) (ts : List Placed) (e : TokenError) (all : Read (List Piece)) → is_err r ≡ true → EndsThere r ts
    → FailsLine e (then_item end size ts) → with_front out (items_behind end size ts) ≡ all → FailsLine e all
stops end size out (Ok u) ts e all more there fails kept = absurd cc
stops end size out (Err f) [] e all more there fails kept = absurd there
stops end size out (Err f) (t ∷ ts) e all more there fails kept = stops_by end size out t ts e all fails kept
