use Rattle.std.proofs.Common.{◌≡◌, fold, take, string_bytes}
use Rattle.page_words.specs.Words.{scanned, take_word, no_words}
use Rattle.page_words.proofs.scan.scan_of.Given as goal

-- what the words so far give
abbrev pub invariant-loop-word : goal.invariant-loop-word
invariant-loop-word l = scanned l.scan ≡ fold (λ g word. take_word g (string_bytes word)) no_words (take l.word-index l.words)
