use Rattle.std.proofs.Common.{◌≡◌, length, ◌∙◌, get_or, map}
use Rattle.std.specs.List.{filter, range_with_len}
use Rattle.line_index.specs.Index.{position_at}
use Rattle.profile_labels.specs.Sorted.{sorted_by}
use Rattle.path_chains.specs.Shares.{has_more}
use Rattle.path_texts.specs.PathText.{events_on, has_some, shares_of, slept_on, work_elsewhere}
use Rattle.path_texts.specs.Shares.{share_in}
use Rattle.path_texts.proofs.PathShares.{if_shares, lines_are, none_are}
use Rattle.path_texts.proofs.shares.shares_of_path.Goals as goal

pub returns-clause-lines : goal.returns-clause-lines
returns-clause-lines c =
    let sums = c.in_ok-sums.sums in
    let count = length c.args.index.now.lines in
    if_shares c.shares_in_order.result
    (λ shares. shares.lines ≡ sorted_by has_more (filter has_some (map (share_in sums.work.items) (range_with_len 0 count))))
    (λ shares. shares.lines ≡ shares_of (position_at c.args.index.now) count (events_on c.args.events.now c.args.chain.now))
    (λ shares is. is ∙ lines_are (position_at c.args.index.now) count (events_on c.args.events.now c.args.chain.now) sums c.in_ok-sums.ensures) c.shares_in_order.ensures.lines

pub returns-clause-none : goal.returns-clause-none
returns-clause-none c =
    let sums = c.in_ok-sums.sums in
    let count = length c.args.index.now.lines in
    if_shares c.shares_in_order.result
    (λ shares. shares.none ≡ get_or sums.work.items count 0)
    (λ shares. shares.none ≡ work_elsewhere (position_at c.args.index.now) (events_on c.args.events.now c.args.chain.now))
    (λ shares is. is ∙ none_are (position_at c.args.index.now) count (events_on c.args.events.now c.args.chain.now) sums c.in_ok-sums.ensures) c.shares_in_order.ensures.none

pub returns-clause-sleep : goal.returns-clause-sleep
returns-clause-sleep c =
    if_shares c.shares_in_order.result
    (λ shares. shares.sleep ≡ c.in_ok-sums.sums.sleep)
    (λ shares. shares.sleep ≡ slept_on (events_on c.args.events.now c.args.chain.now))
    (λ shares is. is ∙ c.in_ok-sums.ensures.sleep) c.shares_in_order.ensures.sleep
