use Rattle.std.proofs.Common.{◌≡◌, ℕ, ◌+◌, ◌∙◌, List, fold, map, drop, get_or, ap, sym, subst, refl, arith}
use Rattle.std.proofs.lemmas.List.{drop_all}
use Rattle.coz_types.specs.declared.HartId.{HartId}
use Rattle.run_counts.specs.Counts.{Counts, counts_of, IsWithin}
use Rattle.counted_run.specs.Begun.{with_hart}
use Rattle.counted_run.proofs.Folding.{hart_within, hart_begun, numbers_from, number_among}
use Rattle.counted_run.proofs.beginning.count_each.Goals as goal

pub loop-hart-init : goal.loop-hart-init
loop-hart-init c = (c.requires.within, omega arith, omega arith, refl)

pub count-requires-clause-made : goal.count-requires-clause-made
count-requires-clause-made c = c.requires.made _ (number_among c.args.harts.now c.loop-hart.hart-index c.loop-hart-test.true)

pub count-requires-clause-within : goal.count-requires-clause-within
count-requires-clause-within c = c.loop-hart.invariant.0

pub count-requires-clause-few : goal.count-requires-clause-few
count-requires-clause-few c = let so_far = c.loop-hart.invariant.1 in let few = c.requires.few in let below = c.loop-hart-test.true in omega arith

pub count-requires-clause-room : goal.count-requires-clause-room
count-requires-clause-room c = let so_far = c.loop-hart.invariant.2 in let room = c.requires.room in let below = c.loop-hart-test.true in omega arith

pub loop-hart-preserved : goal.loop-hart-preserved
loop-hart-preserved c =
    let l = c.loop-hart in
    let g = c.args.guest.now in
    let harts : List HartId = c.args.harts.now in
    let h : ℕ = (get_or harts l.hart-index (record { 0 = 0 })).0 in
    let old : Counts = counts_of l.tallies in
    let is : counts_of c.count.new.tallies ≡ with_hart g old h = c.count.ensures.counts in
    let more = ap (λ (c : Counts). c.begun) is ∙ hart_begun g old h in
    let so_far = l.invariant.1 in (
      subst IsWithin (sym is) (hart_within g old h l.invariant.0),
      omega arith,
      omega (arith, c.count.ensures.small, l.invariant.2),
      ap (λ (c : Counts). fold (with_hart g) c (map (λ (hart : HartId). hart.0) (drop (l.hart-index + 1) harts))) is
          ∙ ap (fold (with_hart g) old) (sym (numbers_from harts l.hart-index c.loop-hart-test.true))
          ∙ l.invariant.3,
    )

pub returns : goal.returns
returns c =
    let l = c.loop-hart in
    let harts : List HartId = c.args.harts.now in
    ap (λ (left : List HartId). fold (with_hart c.args.guest.now) (counts_of l.tallies) (map (λ (hart : HartId). hart.0) left)) (sym (drop_all l.hart-index harts c.loop-hart-test.false))
    ∙ l.invariant.3
