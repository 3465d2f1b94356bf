use Rattle.std.proofs.Common.{◌≡◌, fold, take, string_bytes}
use Rattle.gain_words.specs.Words.{scanned, scan_word, no_words}
use Rattle.gain_words.proofs.scan.scan_of.Given as goal

-- what the words so far give
abbrev pub invariant-loop-word : goal.invariant-loop-word
invariant-loop-word l = scanned l.scan ≡ fold (λ g word. scan_word g (string_bytes word)) no_words (take l.word-index l.words)
