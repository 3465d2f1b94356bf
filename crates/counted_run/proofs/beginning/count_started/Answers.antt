use Rattle.std.proofs.Common.{◌≡◌, ℕ, ◌∙◌, true, List, [], fold, length, ap, sym, subst, arith}
use Rattle.std.proofs.lemmas.List.{length-map}
use Rattle.coz_types.specs.declared.HartId.{HartId}
use Rattle.machines.specs.Places.{is_among}
use Rattle.run_engine.specs.Begin.{started_by}
use Rattle.run_counts.specs.Counts.{Counts, counts_of, IsWithin}
use Rattle.counted_run.specs.Begun.{with_hart}
use Rattle.counted_run.proofs.Folding.{fold_within, fold_begun, both_folded, one_at_most, other_started, self_started}
use Rattle.counted_run.proofs.beginning.count_started.Goals as goal

pub count_again-requires-clause-made : goal.count_again-requires-clause-made
count_again-requires-clause-made c = λ k among. c.requires.made k (self_started c.args.retired.hart.0 c.args.retired.fate c.args.engine.now.started k among)

pub count_each-requires-clause-made : goal.count_each-requires-clause-made
count_each-requires-clause-made c = λ k among.
    c.requires.made k (other_started c.args.retired.hart.0 c.args.retired.fate c.args.engine.now.started k (subst (λ (hs : List ℕ). is_among k hs ≡ true) c.started.ensures among))

pub count_each-requires-clause-within : goal.count_each-requires-clause-within
count_each-requires-clause-within c =
    subst IsWithin (sym c.count_again.ensures.counts)
    (fold_within c.args.engine.now.guest (started_by c.args.retired.hart.0 c.args.retired.fate []) (counts_of c.args.tallies.now) c.requires.within)

pub count_each-requires-clause-few : goal.count_each-requires-clause-few
count_each-requires-clause-few c =
    let started = started_by c.args.retired.hart.0 c.args.retired.fate [] in
    let more = ap (λ (c : Counts). c.begun) c.count_again.ensures.counts ∙ fold_begun c.args.engine.now.guest started (counts_of c.args.tallies.now) in
    let one = one_at_most c.args.retired.hart.0 c.args.retired.fate in
    let long = sym (length-map c.started.result.now (λ (hart : HartId). hart.0)) ∙ ap length c.started.ensures in
    let few = c.requires.few in
    omega arith

pub count_each-requires-clause-room : goal.count_each-requires-clause-room
count_each-requires-clause-room c =
    let small = c.count_again.ensures.small in
    let long = sym (length-map c.started.result.now (λ (hart : HartId). hart.0)) ∙ ap length c.started.ensures in
    let room = c.requires.room in
    omega arith

pub returns : goal.returns
returns c =
    let g = c.args.engine.now.guest in
    c.count_each.ensures
    ∙ ap (fold (with_hart g) (counts_of c.count_again.new.tallies)) c.started.ensures
    ∙ ap (λ (n : Counts). fold (with_hart g) n c.args.engine.now.started) c.count_again.ensures.counts
    ∙ both_folded g c.args.retired.hart.0 c.args.retired.fate c.args.engine.now.started (counts_of c.args.tallies.now)
