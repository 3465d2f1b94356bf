use Rattle.std.proofs.Common.{◌∙◌, ap, sym, fold, take, string_bytes, List}
use Rattle.std.specs.declared.string.String.{String}
use Rattle.std.specs.declared.alloc.Global.{Global}
use Rattle.std.proofs.lemmas.List.{take_all}
use Rattle.std.proofs.lemmas.List.Folds.{fold-map}
use Rattle.std.proofs.lemmas.List.Sums.{fold_more}
use Rattle.gain_words.specs.Words.{Given, scan_word, no_words}
use Rattle.gain_words.proofs.scan.scan_of.Goals as goal

pub loop-word-preserved : goal.loop-word-preserved
loop-word-preserved c =
    let step : Given → String Global → Given = λ g word. scan_word g (string_bytes word) in
    let words : List (String Global) = c.args.words.now in
    let i = c.loop-word.word-index in
    c.in_ok-take.ensures
    ∙ ap (λ (g : Given). step g c.word-item.result) c.loop-word.invariant
    ∙ ap (step (fold step no_words (take i words))) c.word-item.is
    ∙ sym (fold_more step no_words words i c.word-item.result c.loop-word-test.true)

pub returns : goal.returns
returns c =
    let step : Given → String Global → Given = λ g word. scan_word g (string_bytes word) in
    let words : List (String Global) = c.args.words.now in
    c.loop-word.invariant
    ∙ ap (fold step no_words) (take_all c.loop-word.word-index words c.loop-word-test.false)
    ∙ sym (fold-map scan_word string_bytes no_words words)
