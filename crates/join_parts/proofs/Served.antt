-- What the words come to, by the reading of the files and the join of the parts.
use Rattle.std.proofs.Common.{◌≡◌, ℕ, ◌≤◌, Bool, true, false, cond, List, Option, Some, None, IfSome, Result, Ok, Err, refl, sym, subst, arith, inl, inr}
use Rattle.std.specs.List.{list_all}
use Rattle.coz_types.specs.Labels.{Text}
use Rattle.coz_types.specs.declared.record.Summary.{Summary}
use Rattle.coz_files.specs.Held.{Held}
use Rattle.coz_files.specs.Verdict.{Verdict}
use Rattle.profile_book.specs.declared.profile.Profile.{Profile as Book}
use Rattle.join_parts.specs.declared.joined.Joined.{Joined}
use Rattle.join_parts.specs.declared.part.Part.{Part}
use Rattle.join_parts.specs.declared.fault.Fault.{Fault}
use Rattle.join_parts.specs.Words.{paths_in}
use Rattle.join_parts.specs.Verdict.{parts_in, profile_status, has_exited, IsVerdict, IsPathsVerdict, IsPartsVerdict, IsTimedVerdict}
use Rattle.join_parts.specs.Answer.{verdict_of, fault_verdict, IsMemory, Settles, IsSettled}

-- ---- the verdict of the words

module _ (words : List Text) (held : Held) where
  module _ (paths : List Text) (named : paths_in words ≡ Some paths) where
    of_parts : (v : Verdict) → IsPartsVerdict paths (parts_in paths held) v → IsVerdict words held v
    of_parts v is = subst (λ (ps : Option (List Text)). IsPathsVerdict ps held v) (sym named) is

    -- a file without a part
    pub stopped : {A : Type 0} (view : A → List Part) (fault : Fault) (before now : ℕ) → Settles {A = A} view (parts_in paths held) before now (Err fault) → IsSettled words held before now (Err fault)
    stopped view fault before now (inl is) = inl (of_parts (fault_verdict fault) (subst (λ (r : Result (List Part) Verdict). IsPartsVerdict paths r (fault_verdict fault)) is refl))
    stopped view fault before now (inr failed) = inr failed

    -- parts that are joined or unlike
    pub joined_verdict : (parts : List Part) (v : Verdict) → parts_in paths held ≡ Ok parts → IsTimedVerdict paths parts v → IsVerdict words held v
    joined_verdict parts v read is = of_parts v (subst (λ (r : Result (List Part) Verdict). IsPartsVerdict paths r v) (sym read) is)

-- the verdict of files without parts
pub stopped_in : {A : Type 0} (view : A → List Part) (words paths : List Text) (told : Option Held) (before now : ℕ) (fault : Fault) → paths_in words ≡ Some paths
    → IfSome told (λ held. (IsMemory {A = A} (Err fault) → ⊥) → Settles {A = A} view (parts_in paths held) before now (Err fault))
    → IfSome told (λ held. (IsMemory {A = Joined} (Err fault) → ⊥) → IsSettled words held before now (Err fault))
stopped_in view words paths None before now fault named settled = tt
stopped_in view words paths (Some held) before now fault named settled = λ other. stopped words held paths named view fault before now (settled other)

-- the verdict of parts that are judged
pub joined_in : {A : Type 0} (view : A → List Part) (words paths : List Text) (told : Option Held) (before now : ℕ) (x : A) (answer : Result Joined Fault) → paths_in words ≡ Some paths
    → IfSome told (λ held. (IsMemory {A = A} (Ok x) → ⊥) → Settles {A = A} view (parts_in paths held) before now (Ok x))
    → ((IsMemory answer → ⊥) → IsTimedVerdict paths (view x) (verdict_of answer))
    → IfSome told (λ held. (IsMemory answer → ⊥) → IsSettled words held before now answer)
joined_in view words paths None before now x answer named settled is = tt
joined_in view words paths (Some held) before now x answer named settled is = λ other. elim (settled (λ no. no)) [
  | inl read ↦ inl (joined_verdict words held paths named (view x) (verdict_of answer) (sym read) (is other))
  | inr failed ↦ absurd failed.0
]

-- the status of a profile

low_by : (b : Bool) → cond b 0 1 ≤ 1
low_by true = omega arith
low_by false = omega arith

pub low_status : (p : Book) → profile_status p ≤ 1
low_status p = low_by (list_all (λ (s : Summary). has_exited s.outcome.ending) p.summaries)
