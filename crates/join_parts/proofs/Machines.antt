-- Parts of one machine.
use Rattle.std.proofs.Common.{◌≡◌, ℕ, ◌<◌, List, [], ◌∷◌, length, get_or, All, Option, None, sym, refl, ap, ◌∙◌, subst, arith}
use Rattle.std.specs.List.{AllByRecursion}
use Rattle.std.proofs.lemmas.List.Elements.{recursion_from_All, All-from_recursion}
use Rattle.coz_types.specs.Labels.{Text}
use Rattle.coz_files.specs.Verdict.{Verdict}
use Rattle.profile_book.specs.Profile.{IsProfile}
use Rattle.profile_book.specs.declared.profile.Profile.{Profile as Book}
use Rattle.timing_model.specs.declared.timing.Timing.{Timing}
use Rattle.join_parts.specs.declared.part.Part.{Part}
use Rattle.join_parts.specs.Machines.{machine_of, unlike_part}
use Rattle.join_parts.specs.Verdict.{profiles_of, IsJoinVerdict, IsLikeVerdict, IsRightPart, IsTimedVerdict}

profiles_by : (parts : List Part) → AllByRecursion IsRightPart parts → AllByRecursion IsProfile (profiles_of parts)
profiles_by [] all = tt
profiles_by (part ∷ parts) all = (all.0, profiles_by parts all.1)

pub profiles_right : (parts : List Part) (profiles : List Book) → profiles ≡ profiles_of parts → All IsRightPart parts → All IsProfile profiles
profiles_right parts profiles is right =
    subst (λ (ps : List Book). All IsProfile ps) (sym is)
    (All-from_recursion IsProfile (profiles_of parts) (profiles_by parts (recursion_from_All IsRightPart parts right)))

first_machine : (parts : List Part) (d : Part) → 0 < length parts → (get_or parts 0 d).timing ≡ machine_of parts
first_machine [] d some = absurd (omega (arith, some))
first_machine (part ∷ parts) d some = refl

pub first_is : (parts : List Part) (part : Part) → 0 < length parts → part ≡ get_or parts 0 part → part.timing ≡ machine_of parts
first_is parts part some is = ap (λ (p : Part). p.timing) is ∙ first_machine parts part some

-- the verdict of parts of one machine
pub one_machine : (paths : List Text) (parts : List Part) (profiles : List Book) (t : Timing) (v : Verdict) → unlike_part parts ≡ None → profiles ≡ profiles_of parts → t ≡ machine_of parts
    → IsJoinVerdict t paths profiles v → IsTimedVerdict paths parts v
one_machine paths parts profiles t v none are is joined =
    subst (λ (o : Option ℕ). IsLikeVerdict o paths parts v) (sym none)
    (subst (λ (ps : List Book). IsJoinVerdict (machine_of parts) paths ps v) are (subst (λ (u : Timing). IsJoinVerdict u paths profiles v) is joined))
