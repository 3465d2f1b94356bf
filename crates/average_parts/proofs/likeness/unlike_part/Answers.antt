use Rattle.std.proofs.Common.{rules, ◌≡◌, ◌<◌, ◌∙◌, take, get_or, length, Option, None, subst}
use Rattle.average_parts.specs.declared.part.Part.{Part}
use Rattle.average_parts.specs.Likeness.{count_points, count_runs, first_full, kind_of, IsLike}
use Rattle.average_parts.proofs.Alike.{all_like, first_count, one_later, one_like}
use Rattle.average_parts.proofs.likeness.unlike_part.Goals as goal

pub loop-i-preserved : goal.loop-i-preserved
loop-i-preserved c =
    let parts = c.args.parts.now in
    let first = c.index-parts-0.result in
    let part = c.index-parts-i.result in
    let lt : c.loop-i.i < length parts = search rules in
    let is : first ≡ get_or parts 0 first = search rules in
    let at : part ≡ get_or parts c.loop-i.i part = search rules in
    let none : c.kind_of.result ≡ None = search rules in
    let kind : kind_of first (first_full parts) (take c.loop-i.i parts) part ≡ None = search rules in
    let like : IsLike (length first.profile.points) (count_runs (first_full parts)) part = subst (λ (full : Option Part). IsLike (length first.profile.points) (count_runs full) part) c.first_full-full.ensures (c.kind_of.ensures.like none) in
    record {
      so_far = one_later parts c.loop-i.i first part lt is at kind ∙ c.loop-i.invariant.so_far;
      like = one_like (IsLike (count_points parts) (count_runs (first_full parts))) parts c.loop-i.i part lt at c.loop-i.invariant.like
          (subst (λ (n : _). IsLike n (count_runs (first_full parts)) part) (first_count parts c.loop-i.i first lt is) like);
    }

pub returns-clause-like : goal.returns-clause-like
returns-clause-like c = λ _. all_like (IsLike (count_points c.args.parts.now) (count_runs (first_full c.args.parts.now))) c.args.parts.now c.loop-i.i (search rules) c.loop-i.invariant.like
