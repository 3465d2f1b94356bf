-- The operations of the table and their codes.
use Rattle.std.proofs.Common.{◌≡◌, ℕ, ◌%◌, ◌<◌, ◌^◌, Bool, true, false, cond, List, [], ◌∷◌, Some, refl, ap, subst, arith, lit<}
use Rattle.std.specs.Prelude.{T, not, ◌&&◌, find, IsTrue, ◌==◌, unwrap_or, is_some}
use Rattle.rv_decode.specs.declared.UpperOp.{UpperOp}
use Rattle.rv_decode.specs.declared.UpperOp.TheVariants.{Lui}
use Rattle.rv_decode.specs.declared.BranchOp.{BranchOp}
use Rattle.rv_decode.specs.declared.BranchOp.TheVariants.{Beq}
use Rattle.rv_decode.specs.declared.LoadOp.{LoadOp}
use Rattle.rv_decode.specs.declared.LoadOp.TheVariants.{Lb}
use Rattle.rv_decode.specs.declared.StoreOp.{StoreOp}
use Rattle.rv_decode.specs.declared.StoreOp.TheVariants.{Sb}
use Rattle.rv_decode.specs.declared.ImmOp.{ImmOp}
use Rattle.rv_decode.specs.declared.ImmOp.TheVariants.{Addi}
use Rattle.rv_decode.specs.declared.ShiftOp.{ShiftOp}
use Rattle.rv_decode.specs.declared.ShiftOp.TheVariants.{Slli}
use Rattle.rv_decode.specs.declared.RegOp.{RegOp}
use Rattle.rv_decode.specs.declared.RegOp.TheVariants.{Add}
use Rattle.rv_decode.specs.declared.AtomicOp.{AtomicOp}
use Rattle.rv_decode.specs.declared.AtomicOp.TheVariants.{Amoadd}
use Rattle.rv_decode.specs.Table.{Code, code, is_same_code, operation_with, upper_code, branch_code, load_code, store_code, imm_code, shift_code, register_code, atomic_code}

-- what is found passes the test
pub found_passes : {A : Type 0} (test : A → Bool) (xs : List A) (x : A) → find test xs ≡ Some x → IsTrue (test x)
found_passes test [] x e = absurd (subst (λ o. T (not (is_some o))) e tt)
found_passes test (y ∷ ys) x e =
    elim (test y) as (λ b. test y ≡ b → cond b (Some y) (find test ys) ≡ Some x → IsTrue (test x)) [
      | true ↦ λ t s. subst (λ z. IsTrue (test z)) (ap (λ o. unwrap_or o y) s) t
      | false ↦ λ t s. found_passes test ys x s
    ] refl e

pub both : (a b : Bool) → IsTrue (a && b) → IsTrue a × IsTrue b
both true true e = (refl, refl)
both true false e = (refl, e)
both false b e = (e, absurd (subst (λ c. T (not c)) e tt))

pub same : (a b : ℕ) → IsTrue (a == b) → a ≡ b
same a b e = grind (arith, e)

-- a code with these fields
pub record HasCode (c : Code) (opcode funct3 funct7 : ℕ) : Type 0 where
  pub same_opcode : c.opcode ≡ opcode
  pub same_funct3 : c.funct3 ≡ funct3
  pub same_funct7 : c.funct7 ≡ funct7

pub operation_has_code : {Op : Type 0} (code_of : Op → Code) (ops : List Op) (opcode funct3 funct7 : ℕ) (op : Op)
    → operation_with code_of ops (code opcode funct3 funct7) ≡ Some op → HasCode (code_of op) opcode funct3 funct7
operation_has_code code_of ops opcode funct3 funct7 op e =
    let c : Code = code opcode funct3 funct7 in
    let passed : IsTrue (is_same_code (code_of op) c) = found_passes (λ x. is_same_code (code_of x) c) ops op e in
    let outer = both _ _ passed in
    let inner = both _ _ outer.0 in
    record { same_opcode = same _ _ inner.0; same_funct3 = same _ _ inner.1; same_funct7 = same _ _ outer.1 }

-- a code whose fields fit their places
pub record Fits (c : Code) : Type 0 where
  pub opcode_fits : c.opcode < 2 ^ 7
  pub funct3_fits : c.funct3 < 2 ^ 3
  pub funct7_fits : c.funct7 < 2 ^ 7

-- and whose funct7 is 0
pub record FitsAlone (c : Code) : Type 0 where
  pub opcode_fits : c.opcode < 2 ^ 7
  pub funct3_fits : c.funct3 < 2 ^ 3
  pub no_funct7 : c.funct7 ≡ 0

-- and whose funct3 is 0 too
pub record FitsOpcode (c : Code) : Type 0 where
  pub opcode_fits : c.opcode < 2 ^ 7
  pub no_funct3 : c.funct3 ≡ 0
  pub no_funct7 : c.funct7 ≡ 0

-- the code of an atomic operation leaves room for its width and its two flags
pub record FitsAtomic (c : Code) : Type 0 where
  pub its_opcode : c.opcode ≡ 0x2F
  pub its_funct3 : c.funct3 ≡ 2
  pub funct7_fits : c.funct7 < 2 ^ 7
  pub no_flags : c.funct7 % 4 ≡ 0

pub upper_fits : (op : UpperOp) → FitsOpcode (upper_code op)
upper_fits Lui = record { opcode_fits = lit< tt; no_funct3 = refl; no_funct7 = refl }
upper_fits _ = record { opcode_fits = lit< tt; no_funct3 = refl; no_funct7 = refl }

pub branch_fits : (op : BranchOp) → FitsAlone (branch_code op)
branch_fits Beq = record { opcode_fits = lit< tt; funct3_fits = lit< tt; no_funct7 = refl }
branch_fits _ = record { opcode_fits = lit< tt; funct3_fits = lit< tt; no_funct7 = refl }

pub load_fits : (op : LoadOp) → FitsAlone (load_code op)
load_fits Lb = record { opcode_fits = lit< tt; funct3_fits = lit< tt; no_funct7 = refl }
load_fits _ = record { opcode_fits = lit< tt; funct3_fits = lit< tt; no_funct7 = refl }

pub store_fits : (op : StoreOp) → FitsAlone (store_code op)
store_fits Sb = record { opcode_fits = lit< tt; funct3_fits = lit< tt; no_funct7 = refl }
store_fits _ = record { opcode_fits = lit< tt; funct3_fits = lit< tt; no_funct7 = refl }

pub imm_fits : (op : ImmOp) → FitsAlone (imm_code op)
imm_fits Addi = record { opcode_fits = lit< tt; funct3_fits = lit< tt; no_funct7 = refl }
imm_fits _ = record { opcode_fits = lit< tt; funct3_fits = lit< tt; no_funct7 = refl }

pub shift_fits : (op : ShiftOp) → Fits (shift_code op)
shift_fits Slli = record { opcode_fits = lit< tt; funct3_fits = lit< tt; funct7_fits = lit< tt }
shift_fits _ = record { opcode_fits = lit< tt; funct3_fits = lit< tt; funct7_fits = lit< tt }

pub register_fits : (op : RegOp) → Fits (register_code op)
register_fits Add = record { opcode_fits = lit< tt; funct3_fits = lit< tt; funct7_fits = lit< tt }
register_fits _ = record { opcode_fits = lit< tt; funct3_fits = lit< tt; funct7_fits = lit< tt }

pub atomic_fits : (op : AtomicOp) → FitsAtomic (atomic_code op)
atomic_fits Amoadd = record { its_opcode = refl; its_funct3 = refl; funct7_fits = lit< tt; no_flags = refl }
atomic_fits _ = record { its_opcode = refl; its_funct3 = refl; funct7_fits = lit< tt; no_flags = refl }
