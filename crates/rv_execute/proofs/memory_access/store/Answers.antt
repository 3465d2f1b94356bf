use Rattle.std.proofs.Common.{ℕ, ◌≡◌, ap, ap₂, sym, ◌∙◌, rules}
use Rattle.rv_decode.specs.declared.StoreOp.{StoreOp}
use Rattle.rv_decode.specs.declared.StoreOp.TheVariants.{Sb, Sh, Sw, Sd}
use Rattle.rv_execute.specs.Execution.{setting, store_at, store_size, address_at, register}
use Rattle.rv_execute.proofs.memory_access.store.Goals as goal

pub returns-in-Sb : goal.returns-in-Sb
returns-in-Sb c =
    let s = setting c.args.hart.now c.args.memory.now c.args.reservations.now in
    let at : c.address_at-address.result ≡ address_at (register c.args.hart.now c.args.rs1) c.args.offset = search (rules, c.address_at-address.ensures, c.value.ensures) in
    c.store_at.ensures
    ∙ ap₂ (λ (a : ℕ) (n : ℕ). store_at a (store_size Sb) n s) at c.value-value.ensures
    ∙ ap (λ (op : StoreOp). store_at (address_at (register c.args.hart.now c.args.rs1) c.args.offset) (store_size op) (register c.args.hart.now c.args.rs2) s) (sym c.in-Sb.is)

pub returns-in-Sh : goal.returns-in-Sh
returns-in-Sh c =
    let s = setting c.args.hart.now c.args.memory.now c.args.reservations.now in
    let at : c.address_at-address.result ≡ address_at (register c.args.hart.now c.args.rs1) c.args.offset = search (rules, c.address_at-address.ensures, c.value.ensures) in
    c.store_at-in-Sh.ensures
    ∙ ap₂ (λ (a : ℕ) (n : ℕ). store_at a (store_size Sh) n s) at c.value-value.ensures
    ∙ ap (λ (op : StoreOp). store_at (address_at (register c.args.hart.now c.args.rs1) c.args.offset) (store_size op) (register c.args.hart.now c.args.rs2) s) (sym c.in-Sh.is)

pub returns-in-Sw : goal.returns-in-Sw
returns-in-Sw c =
    let s = setting c.args.hart.now c.args.memory.now c.args.reservations.now in
    let at : c.address_at-address.result ≡ address_at (register c.args.hart.now c.args.rs1) c.args.offset = search (rules, c.address_at-address.ensures, c.value.ensures) in
    c.store_at-in-Sw.ensures
    ∙ ap₂ (λ (a : ℕ) (n : ℕ). store_at a (store_size Sw) n s) at c.value-value.ensures
    ∙ ap (λ (op : StoreOp). store_at (address_at (register c.args.hart.now c.args.rs1) c.args.offset) (store_size op) (register c.args.hart.now c.args.rs2) s) (sym c.in-Sw.is)

pub returns-in-Sd : goal.returns-in-Sd
returns-in-Sd c =
    let s = setting c.args.hart.now c.args.memory.now c.args.reservations.now in
    let at : c.address_at-address.result ≡ address_at (register c.args.hart.now c.args.rs1) c.args.offset = search (rules, c.address_at-address.ensures, c.value.ensures) in
    c.store_at-in-Sd.ensures
    ∙ ap₂ (λ (a : ℕ) (n : ℕ). store_at a (store_size Sd) n s) at c.value-value.ensures
    ∙ ap (λ (op : StoreOp). store_at (address_at (register c.args.hart.now c.args.rs1) c.args.offset) (store_size op) (register c.args.hart.now c.args.rs2) s) (sym c.in-Sd.is)
