use Rattle.std.proofs.Common.{rules, ◌≡◌, true, nat_lt, List, [], ◌∷◌, ◌++◌, ap, sym, ◌∙◌, append_assoc}
use Rattle.average_parts.specs.declared.part.Part.{Part}
use Rattle.average_parts.specs.Likeness.{is_exact}
use Rattle.average_parts.proofs.Roles.{exact_bases, exact_more, exact_seeds}
use Rattle.average_parts.proofs.chosen.choose.Goals as goal

pub loop-part-preserved-then-has_exact_schedule : goal.loop-part-preserved-then-has_exact_schedule
loop-part-preserved-then-has_exact_schedule c =
    let several = nat_lt 1 c.len-several.result in
    let is : is_exact several c.in-Some.part ≡ true = search rules in
    let next : c.loop-part.part-iterator.rest.items ≡ c.in-Some.part ∷ c.next.new.self.rest.items = search rules in
    record {
      seeds = c.loop-part.invariant.seeds ∙ sym (exact_seeds several c.loop-part.yielded c.in-Some.part is);
      bases = c.loop-part.invariant.bases ∙ sym (exact_bases several c.loop-part.yielded c.in-Some.part is);
      exact = sym (exact_more several c.loop-part.yielded c.in-Some.part is);
      all = append_assoc c.loop-part.yielded (c.in-Some.part ∷ []) c.next.new.self.rest.items ∙ ap (λ (ps : List Part). c.loop-part.yielded ++ ps) (sym next) ∙ c.loop-part.invariant.all;
    }
