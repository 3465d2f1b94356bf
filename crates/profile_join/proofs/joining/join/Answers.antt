use Rattle.std.proofs.Common.{rules, ◌≡◌, inl, Some, None, List, All, option_copied, sym, ap, subst, ◌∙◌}
use Rattle.profile_book.specs.declared.profile.Profile.{Profile}
use Rattle.profile_join.specs.Parts.{IsKind, IsUnlike, head_of, first_alike}
use Rattle.profile_join.proofs.Heads.{head_budget, head_points}
use Rattle.profile_join.proofs.Joined.{joins, twice_is}
use Rattle.profile_join.proofs.One.{one}
use Rattle.profile_join.proofs.Within.{within}
use Rattle.profile_join.proofs.joining.join.Goals as goal

pub returns-in-Some-clause-join : goal.returns-in-Some-clause-join
returns-in-Some-clause-join c =
    let is : c.unlike.result ≡ Some c.in-Some.fault = search rules in
    let parts = c.args.parts.items in
    inl (subst (λ o. IsUnlike (head_of parts) parts o) is (subst (λ ps. IsUnlike (head_of ps) ps c.unlike.result) c.deref.ensures.value c.unlike.ensures))

pub returns-in-Some-first_alike-clause-join : goal.returns-in-Some-first_alike-clause-join
returns-in-Some-first_alike-clause-join c =
    let parts : List Profile = c.args.parts.items in
    let none : c.unlike.result ≡ None = search rules in
    let fine : All (λ (p : Profile). IsKind (head_of parts) p None) parts = subst (λ o. IsUnlike (head_of parts) parts o) none (subst (λ ps. IsUnlike (head_of ps) ps c.unlike.result) c.deref.ensures.value c.unlike.ensures) in
    let res : c.first_alike.result ≡ Some c.in-Some-first_alike.tag = search rules in
    twice_is parts c.requires.some c.requires.right fine c.in_ok-tags.tags.items c.in-Some-first_alike.tag.now
    c.in_ok-tags.ensures.ordered
    (ap option_copied (sym res) ∙ c.first_alike.ensures ∙ ap first_alike c.deref-2.ensures.value)
    _ (c.in_ok-label.ensures ∙ c.bytes.ensures)

pub returns-clause-join : goal.returns-clause-join
returns-clause-join c =
    let parts : List Profile = c.args.parts.items in
    let none : c.unlike.result ≡ None = search rules in
    let fine : All (λ (p : Profile). IsKind (head_of parts) p None) parts = subst (λ o. IsUnlike (head_of parts) parts o) none (subst (λ ps. IsUnlike (head_of ps) ps c.unlike.result) c.deref.ensures.value c.unlike.ensures) in
    let res : c.first_alike.result ≡ None = search rules in
    joins parts c.requires.some c.requires.right fine c.in_ok-tags.tags.items
    c.in_ok-tags.ensures.ordered
    (ap option_copied (sym res) ∙ c.first_alike.ensures ∙ ap first_alike c.deref-2.ensures.value)
    c.index.result.now.budget c.in_ok-points.points c.new.result
    (head_budget parts c.index.result.now c.requires.some (search rules))
    (head_points parts c.index-2.result.now c.in_ok-points.points c.requires.some (search rules) (search rules))
    (c.new.ensures ∙ c.in_ok-summaries.ensures)

pub returns-clause-one : goal.returns-clause-one
returns-clause-one c = λ others other moved joined. one c.args.parts.items c.requires.some others _ other moved (returns-clause-join c).1 joined

pub returns-in-Some-clause-within : goal.returns-in-Some-clause-within
returns-in-Some-clause-within c = within c.args.parts.items _ (returns-in-Some-clause-join c)

pub returns-in-Some-first_alike-clause-within : goal.returns-in-Some-first_alike-clause-within
returns-in-Some-first_alike-clause-within c = within c.args.parts.items _ (returns-in-Some-first_alike-clause-join c)
