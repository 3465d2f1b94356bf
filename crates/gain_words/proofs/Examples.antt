-- Word lists, the items that they say and the requests that they make.
use Rattle.std.proofs.Common.{◌≡◌, inl, inr, List, [], ◌∷◌, codes, map, Some, None, refl}
use Rattle.experiment_plan.specs.Lists.{is_line, pieces}
use Rattle.coz_words.specs.Said.{Text}
use Rattle.coz_words.specs.Request.{request_of_items, all_speedups}
use Rattle.coz_words.specs.Slow.{items_in, request_of}
use Rattle.coz_words.specs.declared.command.Command.TheVariants.{Profile}
use Rattle.coz_words.specs.declared.request.Request.{Request}
use Rattle.timing_model.specs.declared.costs.Costs.{Costs}
use Rattle.timing_model.specs.declared.timing.Charge.TheVariants.{Last}
use Rattle.timing_model.specs.declared.timing.Timing.{Timing}
use Rattle.timing_model.specs.Timing.{usual, usual_costs}
use Rattle.gain_words.specs.declared.asked.GainRequest.{GainRequest}
use Rattle.gain_words.specs.declared.setting.Setting.TheVariants.{Cores, Costs as CostsOption}
use Rattle.gain_words.specs.Costs.{costs_in}
use Rattle.gain_words.specs.Words.{gain_request}
use Rattle.gain_words.specs.Grammar.{set, other, SaysAll}

-- ---- items

-- the word after `--cores` is its value, even if it is the word of an option
value_first : SaysAll (set Cores (codes "--seed") ∷ other (codes "p") ∷ []) (codes "--cores" ∷ codes "--seed" ∷ codes "p" ∷ [])
value_first = (codes "--cores" ∷ codes "--seed" ∷ [], codes "p" ∷ [], refl, inr refl, (codes "p" ∷ [], [], refl, (refl, refl), refl))

-- the value of `--costs=ecall=9` is `ecall=9`
second_equals : SaysAll (other (codes "p") ∷ set CostsOption (codes "ecall=9") ∷ []) (codes "p" ∷ codes "--costs=ecall=9" ∷ [])
second_equals = (codes "p" ∷ [], _, refl, (refl, refl), (codes "--costs=ecall=9" ∷ [], [], refl, inl refl, refl))

-- ---- lists of costs

abbrev lists : List (Text × Costs)
lists =
    (codes "ecall=1000", record usual_costs { ecall = 1000 })
    ∷ (codes "load=05,integer=10000", record usual_costs { load = 5; integer = 10000 })
    ∷ (
      codes "integer=2,jump=3,load=11,multiply=5,atomic=90,divide=41,ecall=777",
      record { integer = 2; jump = 3; load = 11; multiply = 5; atomic = 90; divide = 41; ecall = 777 },
    )
    ∷ []

costs : map (λ row. costs_in row.0) lists ≡ map (λ row. Some row.1) lists
unfolding pieces
costs = refl

abbrev no_lists : List Text
no_lists =
    codes "" ∷ codes "ecall" ∷ codes "ecall=" ∷ codes "ecall=0" ∷ codes "ecall=10001" ∷ codes "branch=2"
    ∷ codes "load=2," ∷ codes "load=2,load=2" ∷ codes "load=2;jump=2" ∷ codes "load==2" ∷ codes "Load=2" ∷ []

no_costs : map costs_in no_lists ≡ map (λ list. None) no_lists
unfolding pieces
no_costs = refl

-- ---- word lists and their requests

abbrev profile_one : Request
profile_one = record { command = Profile; target = codes "p"; input = None; line = None; speedup = 0; lines = None; progress = None; speedups = all_speedups; budget = 100000000; workers = 4; seed = 0; size = 0; dwarf = 0; arrive = None; depart = None }

abbrev on : Timing → GainRequest
on timing = record { profile = profile_one; timing = timing }

abbrev made : List (List Text × GainRequest)
made =
    (codes "p" ∷ [], on usual)
    ∷ (codes "--cores" ∷ codes "5" ∷ codes "p" ∷ [], on (record usual { cores = 5 }))
    ∷ (codes "p" ∷ codes "--cores=256" ∷ codes "--slice=1000000000" ∷ [], on (record usual { slice = 1000000000 }))
    ∷ (codes "--charge" ∷ codes "last" ∷ codes "p" ∷ [], on (record usual { charge = Last }))
    ∷ (codes "p" ∷ codes "--charge=none" ∷ codes "--seed" ∷ codes "18446744073709551615" ∷ [], on (record usual { seed = 18446744073709551615 }))
    ∷ (
      codes "--workers=2" ∷ codes "--costs" ∷ codes "ecall=9,jump=1" ∷ codes "p" ∷ codes "--budget=10000000000" ∷ [],
      record { profile = record profile_one { workers = 2; budget = 10000000000 }; timing = record usual { costs = record usual_costs { ecall = 9; jump = 1 } } },
    )
    ∷ (codes "--input" ∷ codes "--cores=1" ∷ codes "in" ∷ codes "p" ∷ [], record { profile = record profile_one { input = Some (codes "in") }; timing = record usual { cores = 1 } })
    ∷ []

requests : map (λ row. gain_request row.0) made ≡ map (λ row. Some row.1) made
unfolding gain_request request_of items_in request_of_items pieces
requests = refl

-- ---- word lists with no request

abbrev none_of : List (List Text)
none_of =
    []
    ∷ (codes "p" ∷ codes "q" ∷ [])
    ∷ (codes "p" ∷ codes "--cores" ∷ [])
    ∷ (codes "p" ∷ codes "--cores" ∷ codes "0" ∷ [])
    ∷ (codes "p" ∷ codes "--cores" ∷ codes "257" ∷ [])
    ∷ (codes "p" ∷ codes "--cores=" ∷ [])
    ∷ (codes "p" ∷ codes "--cores=1" ∷ codes "--cores" ∷ codes "1" ∷ [])
    ∷ (codes "p" ∷ codes "--slice" ∷ codes "0" ∷ [])
    ∷ (codes "p" ∷ codes "--slice" ∷ codes "1000000001" ∷ [])
    ∷ (codes "p" ∷ codes "--costs" ∷ codes "load=2,load=2" ∷ [])
    ∷ (codes "p" ∷ codes "--charge" ∷ codes "first" ∷ [])
    ∷ (codes "p" ∷ codes "--seed" ∷ codes "18446744073709551616" ∷ [])
    ∷ (codes "p" ∷ codes "--seed" ∷ codes "-1" ∷ [])
    ∷ (codes "p" ∷ codes "--budget" ∷ codes "10000000001" ∷ [])
    ∷ (codes "p" ∷ codes "--speedups" ∷ codes "96" ∷ [])
    ∷ (codes "p" ∷ codes "--line" ∷ codes "p.s:3" ∷ [])
    ∷ []

refused : map gain_request none_of ≡ map (λ words. None) none_of
unfolding gain_request request_of items_in request_of_items is_line pieces
refused = refl
