use Rattle.std.proofs.Common.{◌≡◌, Bool, true, false, ◌||◌, not, eqb, sym, ap, ◌∙◌}
use lib.Bits.{bit_and}
use Rattle.std.proofs.lemmas.Bool.{or_left, ne_eqb, eq-eqb}
use Rattle.coz_types.specs.declared.image.Rights.{Rights}
use Rattle.guest_areas.specs.Space.{has_power}
use Rattle.guest_areas.proofs.Bits.{has-read, has-write}
use Rattle.guest_areas.proofs.pages.rights_of.Goals as goal

abbrev made : Bool → Bool → Rights
made read write = record { read = read; write = write; execute = false }

pub returns-then-protection-ne0 : goal.returns-then-protection-ne0
returns-then-protection-ne0 c =
    let set : not (eqb (bit_and c.args.protection 1) 0) ≡ true = ap not (ne_eqb (bit_and c.args.protection 1) 0 c.if-protection-ne0.true) in
    let read : not (eqb (bit_and c.args.protection 1) 0) ≡ (has_power c.args.protection 1 || has_power c.args.protection 2) =
    set ∙ sym (or_left (has_power c.args.protection 1) (has_power c.args.protection 2) (sym (has-read c.args.protection) ∙ set)) in
    ap (λ (b : Bool). made b (not (eqb (bit_and c.args.protection 2) 0))) read
    ∙ ap (λ (b : Bool). made (has_power c.args.protection 1 || has_power c.args.protection 2) b) (has-write c.args.protection)

pub returns-else-protection-ne0 : goal.returns-else-protection-ne0
returns-else-protection-ne0 c =
    let clear : has_power c.args.protection 1 ≡ false = sym (has-read c.args.protection) ∙ ap not (eq-eqb (bit_and c.args.protection 1) 0 c.if-protection-ne0.false) in
    let read : not (eqb (bit_and c.args.protection 2) 0) ≡ (has_power c.args.protection 1 || has_power c.args.protection 2) =
    has-write c.args.protection ∙ sym (ap (λ (b : Bool). b || has_power c.args.protection 2) clear) in
    ap (λ (b : Bool). made b (not (eqb (bit_and c.args.protection 2) 0))) read
    ∙ ap (λ (b : Bool). made (has_power c.args.protection 1 || has_power c.args.protection 2) b) (has-write c.args.protection)
