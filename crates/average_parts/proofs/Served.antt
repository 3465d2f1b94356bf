-- What the words come to, by the reading of the files and the averages of their profiles.
use Rattle.std.proofs.Common.{◌≡◌, ℕ, List, Option, Some, None, IfSome, Result, Ok, Err, refl, sym, subst, inl, inr}
use Rattle.coz_types.specs.Labels.{Text}
use Rattle.coz_files.specs.Held.{Held}
use Rattle.coz_files.specs.Verdict.{Verdict}
use Rattle.average_parts.specs.declared.table.Table.{Table}
use Rattle.average_parts.specs.declared.part.Part.{Part}
use Rattle.average_parts.specs.declared.fault.Fault.{Fault}
use Rattle.average_parts.specs.Words.{paths_in}
use Rattle.average_parts.specs.Verdict.{parts_in, parts_verdict, IsVerdict, IsPathsVerdict, IsPartsVerdict}
use Rattle.average_parts.specs.Answer.{verdict_of, fault_verdict, IsMemory, Settles, IsSettled}

-- ---- the verdict of the words

module _ (words : List Text) (held : Held) where
  module _ (paths : List Text) (named : paths_in words ≡ Some paths) where
    of_parts : (v : Verdict) → IsPartsVerdict paths (parts_in paths held) v → IsVerdict words held v
    of_parts v is = subst (λ (ps : Option (List Text)). IsPathsVerdict ps held v) (sym named) is

    -- a file without a part
    pub stopped : {A : Type 0} (view : A → List Part) (fault : Fault) (before now : ℕ) → Settles {A = A} view (parts_in paths held) before now (Err fault) → IsSettled words held before now (Err fault)
    stopped view fault before now (inl is) = inl (of_parts (fault_verdict fault) (subst (λ (r : Result (List Part) Verdict). IsPartsVerdict paths r (fault_verdict fault)) is refl))
    stopped view fault before now (inr failed) = inr failed

    -- profiles that are averaged, or unlike
    pub table_verdict : (parts : List Part) (v : Verdict) → parts_in paths held ≡ Ok parts → v ≡ parts_verdict paths parts → IsVerdict words held v
    table_verdict parts v read is = of_parts v (subst (λ (r : Result (List Part) Verdict). IsPartsVerdict paths r v) (sym read) is)

-- the verdict of files without parts
pub stopped_in : {A : Type 0} (view : A → List Part) (words paths : List Text) (told : Option Held) (before now : ℕ) (fault : Fault) → paths_in words ≡ Some paths
    → IfSome told (λ held. (IsMemory {A = A} (Err fault) → ⊥) → Settles {A = A} view (parts_in paths held) before now (Err fault))
    → IfSome told (λ held. (IsMemory {A = Table} (Err fault) → ⊥) → IsSettled words held before now (Err fault))
stopped_in view words paths None before now fault named settled = tt
stopped_in view words paths (Some held) before now fault named settled = λ other. stopped words held paths named view fault before now (settled other)

-- the verdict of parts that are judged
pub table_in : {A : Type 0} (view : A → List Part) (words paths : List Text) (told : Option Held) (before now : ℕ) (x : A) (answer : Result Table Fault) → paths_in words ≡ Some paths
    → IfSome told (λ held. (IsMemory {A = A} (Ok x) → ⊥) → Settles {A = A} view (parts_in paths held) before now (Ok x))
    → ((IsMemory answer → ⊥) → verdict_of answer ≡ parts_verdict paths (view x))
    → IfSome told (λ held. (IsMemory answer → ⊥) → IsSettled words held before now answer)
table_in view words paths None before now x answer named settled is = tt
table_in view words paths (Some held) before now x answer named settled is = λ other. elim (settled (λ no. no)) [
  | inl read ↦ inl (table_verdict words held paths named (view x) (verdict_of answer) (sym read) (is other))
  | inr failed ↦ absurd failed.0
]
