-- What is found has the word.
use Rattle.std.proofs.Common.{◌≡◌, ℕ, Some}
use Rattle.std.specs.Prelude.{◌&&◌, IsTrue, ◌==◌}
use Rattle.rv_decode.specs.declared.Instr.{Instr}
use Rattle.rv_decode.specs.Instructions.{HasWord, word_of, is_in_range, has_word, candidates, instruction_of}
use Rattle.rv_decode.proofs.Codes.{found_passes, both, same}

pub instruction_has_word : (w : ℕ) (i : Instr) → instruction_of w ≡ Some i → HasWord w i
instruction_has_word w i e =
    let passed : IsTrue (is_in_range i && word_of i == w) = found_passes (has_word w) (candidates w) i e in
    let parts : IsTrue (is_in_range i) × IsTrue (word_of i == w) = both _ _ passed in
    (parts.0, same _ _ parts.1)
