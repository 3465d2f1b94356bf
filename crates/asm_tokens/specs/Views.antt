-- What contracts see of the code's values.
use Rattle.std.specs.Prelude.{◌≡◌, ℕ, ◌≤◌, List, ◌++◌, Option, Result, Ok, Err, option_map, map}
use denote.Ref.{Bor}
use Rattle.std.specs.declared.alloc.AllocError.{AllocError}
use Rattle.asm_tokens.specs.declared.line.Token.{Token as CodeToken}
use Rattle.asm_tokens.specs.declared.line.Token.TheVariants as code
use Rattle.asm_tokens.specs.declared.line.Placed.{Placed as CodePlaced}
use Rattle.asm_tokens.specs.declared.line.TokenError.{TokenError}
use Rattle.asm_tokens.specs.declared.line.TokenError.TheVariants as errors
use Rattle.asm_tokens.specs.declared.line.Found.{Found}
use Rattle.asm_tokens.specs.declared.line.Found.TheVariants as ahead
use Rattle.asm_tokens.specs.Tokens.{Spelling, Token, Name, Number, Text, Mark, Placed, Read, ◌>>=◌, Front, Blank, Comment, Begins, Wrong}
use Rattle.asm_tokens.specs.Table.{Named}

-- an entry of a table in code
abbrev pub entry_view : {A : Type 0} → Bor (List ℕ) × A → Named A
entry_view r = (r.0.now, r.1)

-- The answer is this text, or None if there is none, unless memory ran out.
abbrev pub GivesText : {V : Type 0} → (V → List ℕ) → Result (Option (V × ℕ)) AllocError
    → Option Spelling → Type 0
GivesText items (Ok answer) spelling = option_map (λ t. (items t.0, t.1)) answer ≡ spelling
GivesText items (Err e) spelling = Unit {0}

abbrev pub token_of : CodeToken → Token
token_of (code.Name n) = Name n.now
token_of (code.Number n) = Number n
token_of (code.Text t) = Text t.items
token_of (code.Mark m) = Mark m

abbrev pub front_of : (CodeToken → Token) → Found → Front
front_of view ahead.Blank = Blank
front_of view ahead.Comment = Comment
front_of view (ahead.Begins token bytes) = Begins (view token) bytes
front_of view ahead.Wrong = Wrong

-- a token that was found has at least one and at most n bytes
abbrev pub IsWithin : Found → ℕ → Type 0
IsWithin ahead.Blank n = Unit {0}
IsWithin ahead.Comment n = Unit {0}
IsWithin (ahead.Begins token bytes) n = (1 ≤ bytes) × (bytes ≤ n)
IsWithin ahead.Wrong n = Unit {0}

abbrev pub placed_of : CodePlaced → Placed
placed_of p = record { column = p.column; token = token_of p.token }

abbrev pub FailsLine : {A : Type 0} → TokenError → Read A → Type 0
FailsLine errors.Memory read = Unit {0}
FailsLine (errors.Fault kind column) read = read ≡ Err (record { kind = kind; column = column })

-- It is what is read of the line, unless memory ran out.
abbrev pub GivesLine : {X A : Type 0} → (X → A) → Result X TokenError → Read A → Type 0
GivesLine view (Ok x) read = read ≡ Ok (view x)
GivesLine view (Err e) read = FailsLine e read

-- after these
abbrev pub with_front : {A : Type 0} → List A → Read (List A) → Read (List A)
with_front front read = read >>= λ more. Ok (front ++ more)

abbrev pub all_placed : List CodePlaced → List Placed
all_placed ts = map placed_of ts
