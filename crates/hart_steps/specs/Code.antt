-- Code that was decoded ahead.
use Rattle.std.specs.Prelude.{ℕ, ◌≡◌, ◌+◌, ◌*◌, ◌≤◌, ◌<◌, List, length, get_or}
use Rattle.coz_types.specs.declared.TheConstants.{LOAD_END}
use Rattle.coz_types.specs.Image.{ImageParts}
use Rattle.code_words.specs.declared.span.TheConstants.{MAX_WORDS}
use Rattle.guest_memory.specs.declared.Layout.{Layout}
use Rattle.guest_memory.specs.Memory.{MemoryMap, first_memory, IsFirstFrom}
use Rattle.hart_steps.specs.declared.code.Word.{Word}
use Rattle.hart_steps.specs.Words.{IsWordAt}

pub record CodeMap : Type 0 where
  -- what it was decoded of
  pub image : ImageParts
  pub layout : Layout
  -- the first address, and the number of words
  pub start : ℕ
  pub count : ℕ

-- it was decoded of the image and the layout that the memory was made from
pub record IsCodeOf (code : CodeMap) (m : MemoryMap) : Type 0 where
  pub image : code.image ≡ m.image
  pub layout : code.layout ≡ m.layout

-- its bytes and the rights to them are as in the first memory
abbrev pub IsIntact : CodeMap → MemoryMap → Type 0
IsIntact code m = IsFirstFrom code.start (4 * code.count) m

-- the first n of these words stand in a memory, four bytes apart
abbrev pub AreWordsFrom : MemoryMap → ℕ → ℕ → List Word → Type 0
AreWordsFrom m start n words =
    (k : ℕ) (d : Word) → k < n → IsWordAt m (start + 4 * k) (get_or words k d)

-- and the memory is the first one
pub record AreDecoded (code : CodeMap) (words : List Word) : Type 0 where
  pub low : code.start ≤ LOAD_END
  pub few : length words ≤ MAX_WORDS
  pub count : code.count ≤ length words
  pub each : AreWordsFrom (first_memory code.image code.layout) code.start code.count words
