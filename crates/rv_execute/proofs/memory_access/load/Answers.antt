use Rattle.std.proofs.Common.{ℕ, ◌≡◌, ap, ap₂, sym, ◌∙◌, rules}
use Rattle.rv_decode.specs.declared.LoadOp.{LoadOp}
use Rattle.rv_execute.specs.Execution.{setting, load_to, address_at, register}
use Rattle.rv_execute.proofs.memory_access.load.Goals as goal

pub returns-in-Lb : goal.returns-in-Lb
returns-in-Lb c r =
    let at : c.address_at-address.result ≡ address_at (register c.args.hart.now c.args.rs1) c.args.offset = search (rules, c.address_at-address.ensures, c.value.ensures) in
    c.load_from.ensures r ∙ ap₂ (λ (op : LoadOp) (a : ℕ). load_to op c.args.rd a (setting c.args.hart.now c.args.memory.now r)) (sym c.in-Lb.is) at

pub returns-in-Lh : goal.returns-in-Lh
returns-in-Lh c r =
    let at : c.address_at-address.result ≡ address_at (register c.args.hart.now c.args.rs1) c.args.offset = search (rules, c.address_at-address.ensures, c.value.ensures) in
    c.load_from-in-Lh.ensures r ∙ ap₂ (λ (op : LoadOp) (a : ℕ). load_to op c.args.rd a (setting c.args.hart.now c.args.memory.now r)) (sym c.in-Lh.is) at

pub returns-in-Lw : goal.returns-in-Lw
returns-in-Lw c r =
    let at : c.address_at-address.result ≡ address_at (register c.args.hart.now c.args.rs1) c.args.offset = search (rules, c.address_at-address.ensures, c.value.ensures) in
    c.load_from-in-Lw.ensures r ∙ ap₂ (λ (op : LoadOp) (a : ℕ). load_to op c.args.rd a (setting c.args.hart.now c.args.memory.now r)) (sym c.in-Lw.is) at

pub returns-in-Ld : goal.returns-in-Ld
returns-in-Ld c r =
    let at : c.address_at-address.result ≡ address_at (register c.args.hart.now c.args.rs1) c.args.offset = search (rules, c.address_at-address.ensures, c.value.ensures) in
    c.load_from-in-Ld.ensures r ∙ ap₂ (λ (op : LoadOp) (a : ℕ). load_to op c.args.rd a (setting c.args.hart.now c.args.memory.now r)) (sym c.in-Ld.is) at

pub returns-in-Lbu : goal.returns-in-Lbu
returns-in-Lbu c r =
    let at : c.address_at-address.result ≡ address_at (register c.args.hart.now c.args.rs1) c.args.offset = search (rules, c.address_at-address.ensures, c.value.ensures) in
    c.load_from-in-Lbu.ensures r ∙ ap₂ (λ (op : LoadOp) (a : ℕ). load_to op c.args.rd a (setting c.args.hart.now c.args.memory.now r)) (sym c.in-Lbu.is) at

pub returns-in-Lhu : goal.returns-in-Lhu
returns-in-Lhu c r =
    let at : c.address_at-address.result ≡ address_at (register c.args.hart.now c.args.rs1) c.args.offset = search (rules, c.address_at-address.ensures, c.value.ensures) in
    c.load_from-in-Lhu.ensures r ∙ ap₂ (λ (op : LoadOp) (a : ℕ). load_to op c.args.rd a (setting c.args.hart.now c.args.memory.now r)) (sym c.in-Lhu.is) at

pub returns-in-Lwu : goal.returns-in-Lwu
returns-in-Lwu c r =
    let at : c.address_at-address.result ≡ address_at (register c.args.hart.now c.args.rs1) c.args.offset = search (rules, c.address_at-address.ensures, c.value.ensures) in
    c.load_from-in-Lwu.ensures r ∙ ap₂ (λ (op : LoadOp) (a : ℕ). load_to op c.args.rd a (setting c.args.hart.now c.args.memory.now r)) (sym c.in-Lwu.is) at
