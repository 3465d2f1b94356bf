-- Word lists, the items that they say and the requests that they make.
use Rattle.std.proofs.Common.{◌≡◌, inl, inr, true, false, List, [], ◌∷◌, codes, map, Some, None, refl}
use Rattle.coz_types.specs.Ranges.{last_word}
use Rattle.experiment_plan.specs.Lists.{is_line}
use Rattle.coz_words.specs.Said.{Text}
use Rattle.coz_words.specs.Request.{request_of_items}
use Rattle.coz_words.specs.Slow.{items_in, request_of}
use Rattle.coz_words.specs.declared.command.Command.TheVariants.{Run}
use Rattle.coz_words.specs.declared.request.Request.{Request}
use Rattle.hot_cli.specs.declared.asked.HotRequest.{HotRequest}
use Rattle.hot_cli.specs.Words.{hot_request}
use Rattle.hot_cli.specs.Grammar.{names, top, other, SaysAll}

abbrev run_one : Request
run_one = record { command = Run; target = codes "p"; input = None; line = None; speedup = 0; lines = None; progress = None; speedups = []; budget = 100000000; workers = 0; seed = 0; size = 0; dwarf = 0; arrive = None; depart = None }

abbrev plain : HotRequest
plain = record { run = run_one; top = last_word; names = false }

-- the word after `--top` is its value, even if it is the word of an option
value_first : SaysAll (top (codes "--names") ∷ other (codes "p") ∷ []) (codes "--top" ∷ codes "--names" ∷ codes "p" ∷ [])
value_first = (codes "--top" ∷ codes "--names" ∷ [], codes "p" ∷ [], refl, inr refl, (codes "p" ∷ [], [], refl, (refl, refl), refl))

-- the other words keep their order, with options between them
words_between : SaysAll (other (codes "--input") ∷ names ∷ other (codes "in") ∷ top (codes "3") ∷ []) (codes "--input" ∷ codes "--names" ∷ codes "in" ∷ codes "--top=3" ∷ [])
words_between = (codes "--input" ∷ [], _, refl, (refl, refl), (codes "--names" ∷ [], _, refl, refl, (codes "in" ∷ [], _, refl, (refl, refl), (codes "--top=3" ∷ [], [], refl, inl refl, refl))))

-- ---- word lists and their requests

abbrev made : List (List Text × HotRequest)
made =
    (codes "p" ∷ [], plain)
    ∷ (codes "--top" ∷ codes "5" ∷ codes "p" ∷ [], record plain { top = 5 })
    ∷ (codes "p" ∷ codes "--top=5" ∷ [], record plain { top = 5 })
    ∷ (codes "p" ∷ codes "--top=05" ∷ codes "--names" ∷ [], record plain { top = 5; names = true })
    ∷ (codes "--input" ∷ codes "--names" ∷ codes "in" ∷ codes "p" ∷ [], record plain { run = record run_one { input = Some (codes "in") }; names = true })
    ∷ (codes "--budget" ∷ codes "--top" ∷ codes "2" ∷ codes "9" ∷ codes "p" ∷ [], record plain { run = record run_one { budget = 9 }; top = 2 })
    ∷ []

requests : map (λ row. hot_request row.0) made ≡ map (λ row. Some row.1) made
unfolding hot_request request_of items_in request_of_items
requests = refl

-- ---- word lists with no request

abbrev none_of : List (List Text)
none_of =
    []
    ∷ (codes "p" ∷ codes "q" ∷ [])
    ∷ (codes "--top" ∷ codes "--names" ∷ codes "p" ∷ [])
    ∷ (codes "p" ∷ codes "--top" ∷ [])
    ∷ (codes "p" ∷ codes "--top" ∷ codes "0" ∷ [])
    ∷ (codes "p" ∷ codes "--top=18446744073709551616" ∷ [])
    ∷ (codes "p" ∷ codes "--top=5" ∷ codes "--top" ∷ codes "5" ∷ [])
    ∷ (codes "p" ∷ codes "--names" ∷ codes "--names" ∷ [])
    ∷ (codes "p" ∷ codes "--names=yes" ∷ [])
    ∷ (codes "p" ∷ codes "--line" ∷ codes "p.s:3" ∷ [])
    ∷ []

refused : map hot_request none_of ≡ map (λ words. None) none_of
unfolding hot_request request_of items_in request_of_items is_line
refused = refl
