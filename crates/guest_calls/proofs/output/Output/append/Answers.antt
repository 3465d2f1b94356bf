use Rattle.std.proofs.Common.{ℕ, ◌≡◌, ◌+◌, ◌-◌, ◌≤◌, List, length, min, arith, ap, ◌∙◌}
use Rattle.std.proofs.lemmas.List.{length-append}
use Rattle.guest_memory.specs.Memory.{bytes_at}
use Rattle.guest_memory.proofs.Runs.{length-bytes_at}
use Rattle.guest_calls.proofs.Rows.{appended, readable-part}
use Rattle.guest_calls.proofs.output.Output.append.Goals as goal

pub read_on-requires-clause-readable : goal.read_on-requires-clause-readable
read_on-requires-clause-readable c =
    let less : c.min.result ≤ c.args.count = omega arith in
    readable-part c.args.memory.now c.args.address c.args.count c.min.result c.requires less

pub returns : goal.returns
returns c =
    let size : c.len.result ≡ length c.self.inside.places.items = c.len.ensures ∙ c.self.inside.places.ok.0 in
    appended c.self.inside.places.items c.read_on.new.places.items c.self.inside.limit c.args.count c.min.result c.args.memory.now c.args.address c.args.self.now
    c.self.invariant.0 (c.min.ensures ∙ ap (λ (n : ℕ). min c.args.count (c.self.inside.limit - n)) size) c.read_on.ensures.bytes c.self.view_is

pub invariant_of-self : goal.invariant_of-self
invariant_of-self c =
    let s = c.self.inside in
    let read = bytes_at c.args.memory.now c.args.address c.min.result in
    let size : c.len.result ≡ length s.places.items = c.len.ensures ∙ s.places.ok.0 in
    let more : length c.read_on.new.places.items ≡ length s.places.items + c.min.result =
    ap (λ (bs : List ℕ). length bs) c.read_on.ensures.bytes ∙ length-append s.places.items read
    ∙ ap (λ (n : ℕ). length s.places.items + n) (length-bytes_at c.args.memory.now c.args.address c.min.result) in
    (omega (arith, more, size, c.self.invariant.0, c.min.ensures), c.self.invariant.1, omega (arith, c.self.invariant.2, c.read_on.ensures.room))
