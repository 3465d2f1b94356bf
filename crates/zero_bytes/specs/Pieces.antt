-- Bytes in pieces, each of which is empty as long as its bytes are zeros.
use Rattle.std.specs.Prelude.{ℕ, zero, suc, ◌≡◌, ◌+◌, ◌-◌, ◌*◌, ◌/◌, ◌%◌, ◌<◌, ◌⊎◌, List, [], ◌∷◌, ◌++◌, length, replicate, get_or, All}
use Rattle.zero_bytes.specs.declared.TheConstants.{PIECE}

-- the bytes of a piece of a size: those that stand in it, and zeros after them
unfoldable pub filled : ℕ → List ℕ → List ℕ
filled size bytes = bytes ++ replicate (size - length bytes) 0

-- a piece is empty or whole
abbrev pub IsPiece : List ℕ → Type 0
IsPiece bytes = (bytes ≡ []) ⊎ (length bytes ≡ PIECE)

-- the byte at a place of all pieces
abbrev pub piece_byte : List (List ℕ) → ℕ → ℕ
piece_byte pieces at = get_or (get_or pieces (at / PIECE) []) (at % PIECE) 0

-- n bytes of all pieces from a place on
unfoldable pub flat_from : List (List ℕ) → ℕ → ℕ → List ℕ
flat_from pieces at zero = []
flat_from pieces at (suc n) = piece_byte pieces at ∷ flat_from pieces (at + 1) n

-- pieces of the full size, with room for more than so many bytes
pub record ArePieces (count : ℕ) (pieces : List (List ℕ)) : Type 0 where
  pub each : All (λ piece. length piece ≡ PIECE) pieces
  pub room : count < PIECE * length pieces
