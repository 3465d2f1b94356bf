-- Bytes that are gathered before they are put.
use Rattle.std.specs.Prelude.{◌≡◌, ◌≤◌, ℕ, ◌+◌, List, ◌++◌, length, Option, Some, None, ⊤}
use Rattle.coz_files.specs.Puts.{Puts}
use Rattle.coz_files.specs.declared.outside.PutAnswer.{PutAnswer}
use Rattle.coz_files.specs.declared.outside.PutAnswer.TheVariants.{Done, Failed}

-- the bytes that are gathered, and None if a put failed
abbrev pub Rest : Type 0
Rest = Option (List ℕ)

-- what stays gathered at this answer
abbrev pub rest_at : PutAnswer → List ℕ → Rest
rest_at Done bytes = Some bytes
rest_at Failed bytes = None

-- the bytes have room beside what is gathered; if a put failed, all have
abbrev pub Fits : ℕ → Rest → List ℕ → Type 0
Fits room (Some rest) bytes = length rest + length bytes ≤ room
Fits room None bytes = ⊤

-- a part of the text is put, and the rest is gathered
pub record PutBut {S : Type 0} (holds : S → Option (List ℕ)) (faults : S → ℕ) (start now : S)
    (rest text : List ℕ) : Type 0 where
  pub before : List ℕ
  pub whole : before ++ rest ≡ text
  pub puts : Puts holds faults start now Done before

-- Of the text all but what is gathered is put, or a put failed.
abbrev pub Gathered : {S : Type 0} → (S → Option (List ℕ)) → (S → ℕ) → S → S
    → Rest → List ℕ → Type 0
Gathered holds faults start now (Some rest) text = PutBut holds faults start now rest text
Gathered holds faults start now None text = Puts holds faults start now Failed text

-- These bytes are put too, or gathered, unless a put failed.
pub record Gathers {S : Type 0} (holds : S → Option (List ℕ)) (faults : S → ℕ) (old new : S)
    (rest left : Rest) (bytes : List ℕ) : Type 0 where
  pub goes_on : (start : S) (text : List ℕ) → Gathered holds faults start old rest text
      → Gathered holds faults start new left (text ++ bytes)

-- All that is gathered is put, unless a put failed.
pub record Ends {S : Type 0} (holds : S → Option (List ℕ)) (faults : S → ℕ) (old new : S)
    (rest : Rest) (answer : PutAnswer) : Type 0 where
  pub ends : (start : S) (text : List ℕ) → Gathered holds faults start old rest text
      → Puts holds faults start new answer text
