-- The lines of a source, and the tokens of a line.
use Rattle.std.specs.Prelude.{ℕ, zero, suc, ◌+◌, ◌-◌, ◌*◌, ◌^◌, min, Bool, true, false, ◌&&◌, ◌||◌, List, [], ◌∷◌, length, drop, fold, find, take_while, ℤ, pos, neg_ℤ, Option, Some, None, option_map, option_and_then, Result, Ok, Err, nat_lt, nat_le, nat_eq, ◌==◌, if◌then◌else◌, codes}
use Rattle.std.specs.List.{list_all, starts_with}
use Rattle.std.specs.Str.{byte}
use Rattle.asm_tokens.specs.declared.AsmKind.{AsmKind}
use Rattle.asm_tokens.specs.declared.AsmKind.TheVariants as kinds

-- ---- faults of a line

-- what is wrong with a line, and at which column
pub record Spot : Type 0 where
  pub kind : AsmKind
  pub column : ℕ

abbrev pub Read : Type 0 → Type 0
Read A = Result A Spot

abbrev pub wrong : {A : Type 0} → AsmKind → ℕ → Read A
wrong kind column = Err (record { kind = kind; column = column })

infixl 10 ◌>>=◌
abbrev pub ◌>>=◌ : {A B E : Type 0} → Result A E → (A → Result B E) → Result B E
(Ok x) >>= f = f x
(Err e) >>= f = Err e

-- ---- bytes

abbrev pub is_from : ℕ → ℕ → ℕ → Bool
is_from low high b = nat_le low b && nat_le b high

abbrev pub is_digit : ℕ → Bool
is_digit b = is_from (byte "0") (byte "9") b

abbrev pub is_hex_digit : ℕ → Bool
is_hex_digit b = is_digit b || is_from (byte "a") (byte "f") b || is_from (byte "A") (byte "F") b

-- a byte that may stand in a name
abbrev pub is_of_name : ℕ → Bool
is_of_name b =
    is_digit b || is_from (byte "a") (byte "z") b || is_from (byte "A") (byte "Z") b
    || b == byte "_" || b == byte "."

abbrev pub is_blank : ℕ → Bool
is_blank b = b == byte " " || b == byte "\t" || b == byte "\r"

abbrev pub is_mark : ℕ → Bool
is_mark b = b == byte ":" || b == byte "," || b == byte "(" || b == byte ")"

-- a byte that may stand in a line
abbrev pub is_allowed : ℕ → Bool
is_allowed b = is_blank b || is_from 0x20 0x7E b

-- ---- lines

abbrev pub with_byte_before : ℕ → List (List ℕ) → List (List ℕ)
with_byte_before b [] = (b ∷ []) ∷ []
with_byte_before b (line ∷ more) = (b ∷ line) ∷ more

-- each newline ends a line; what stands after the last one is a line if it isn't empty
abbrev pub lines : List ℕ → List (List ℕ)
lines [] = []
lines (b ∷ bs) = if b == byte "\n" then [] ∷ lines bs else with_byte_before b (lines bs)

-- ---- numbers

abbrev pub digit : ℕ → ℕ
digit b =
    if is_digit b then b - byte "0"
    else if is_from (byte "A") (byte "F") b then b - byte "A" + 10
    else b - byte "a" + 10

-- the number whose digits these are; one that is larger counts as 2^64, which no range has
abbrev pub number_in : ℕ → List ℕ → ℕ
number_in base digits = fold (λ n b. min (n * base + digit b) (2 ^ 64)) 0 digits

abbrev pub are_some : (ℕ → Bool) → List ℕ → Bool
are_some test bs = list_all test bs && nat_lt 0 (length bs)

-- the number that a word spells, decimal or with 0x before it
abbrev pub spelled_number : List ℕ → Option ℕ
spelled_number word =
    if are_some is_digit word then Some (number_in 10 word)
    else if starts_with nat_eq word (codes "0x") && are_some is_hex_digit (drop 2 word)
    then Some (number_in 16 (drop 2 word))
    else None

-- ---- tokens

pub data Token : Type 0 where
  Name : (name : List ℕ) → Token
  Number : (value : ℤ) → Token
  Text : (bytes : List ℕ) → Token
  Mark : (mark : ℕ) → Token

-- a token, and the column of its first byte
pub record Placed : Type 0 where
  pub column : ℕ
  pub token : Token

-- what begins at the front of a line's rest; a token with the number of its bytes
pub data Front : Type 0 where
  Blank : Front
  Comment : Front
  Begins : (token : Token) (bytes : ℕ) → Front
  Wrong : Front

-- the byte that an escape, a backslash and this byte, denotes
abbrev pub escapes : List (ℕ × ℕ)
escapes =
    (byte "n", 10) ∷ (byte "t", 9) ∷ (byte "\\", byte "\\")
    ∷ (byte "\"", byte "\"") ∷ (byte "0", 0) ∷ []

abbrev pub escape_value : ℕ → Option ℕ
escape_value b = option_map (λ e. e.1) (find (λ e. e.0 == b) escapes)

-- the bytes of a text and how many spell them
abbrev pub Spelling : Type 0
Spelling = List ℕ × ℕ

abbrev pub one_more : Spelling → Spelling
one_more t = (t.0, t.1 + 1)

abbrev pub with_byte : ℕ → Spelling → Spelling
with_byte b t = (b ∷ t.0, t.1 + 1)

-- the text up to its closing quote; the flag is true after a backslash
abbrev pub text : Bool → List ℕ → Option Spelling
text behind [] = None
text true (b ∷ bs) =
    option_and_then (λ c. option_map (with_byte c) (text false bs)) (escape_value b)
text false (b ∷ bs) =
    elim (b == byte "\"") [
      | true ↦ Some ([], 1)
      | false ↦ elim (b == byte "\\") [
        | true ↦ option_map one_more (text true bs)
        | false ↦ option_map (with_byte b) (text false bs)
      ]
    ]

abbrev pub text_front : Option Spelling → Front
text_front None = Wrong
text_front (Some t) = Begins (Text t.0) (t.1 + 1)

abbrev pub number_front : Option ℕ → (ℕ → ℤ) → ℕ → Front
number_front None sign n = Wrong
number_front (Some v) sign n = Begins (Number (sign v)) n

abbrev pub word : List ℕ → List ℕ
word bs = take_while is_of_name bs

-- by its first byte
abbrev pub front : List ℕ → Front
front [] = Wrong
front (b ∷ bs) =
    if is_blank b then Blank
    else if b == byte "#" then Comment
    else if is_mark b then Begins (Mark b) 1
    else if b == byte "\"" then text_front (text false bs)
    else if b == byte "-"
    then number_front (spelled_number (word bs)) (λ n. neg_ℤ (pos n)) (1 + length (word bs))
    else if is_digit b
    then number_front (spelled_number (word (b ∷ bs))) (λ n. pos n) (length (word (b ∷ bs)))
    else if is_of_name b then Begins (Name (word (b ∷ bs))) (length (word (b ∷ bs)))
    else Wrong

-- the tokens from a column on; the next `left` bytes belong to the last one
abbrev pub tokens_from : ℕ → ℕ → List ℕ → Read (List Placed)
tokens_from column left [] = Ok []
tokens_from column (suc left) (b ∷ bs) = tokens_from (column + 1) left bs
tokens_from column zero (b ∷ bs) =
    elim (front (b ∷ bs)) [
      | Blank ↦ tokens_from (column + 1) 0 bs
      | Comment ↦ Ok []
      | Begins token n ↦ tokens_from (column + 1) (n - 1) bs >>= λ more.
          Ok (record { column = column; token = token } ∷ more)
      | Wrong ↦ wrong kinds.Token column
    ]

-- the tokens of a line
unfoldable pub tokens : List ℕ → Read (List Placed)
tokens line = tokens_from 1 0 line
