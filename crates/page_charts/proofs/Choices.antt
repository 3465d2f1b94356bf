-- A text that is put only if a condition holds.
use Rattle.std.proofs.Common.{◌≡◌, ℕ, Bool, true, false, [], Option, sym, ap, if◌then◌else◌}
use Rattle.coz_types.specs.Labels.{Text}
use Rattle.coz_files.specs.Gathered.{Rest, Gathers}
use Rattle.coz_files.proofs.GatheredLemmas.{gathers_nothing}
use Rattle.profile_book.proofs.Gathering.{gathers_as}

pub put_if : {S : Type 0} {holds : S → Option Text} {faults : S → ℕ} {old new : S} {rest left : Rest} {text : Text} {b : Bool} → b ≡ true → Gathers holds faults old new rest left text → Gathers holds faults old new rest left (if b then text else [])
put_if {text = text} is all = gathers_as (sym (ap (λ (b : Bool). if b then text else []) is)) all

pub put_else : {S : Type 0} {holds : S → Option Text} {faults : S → ℕ} {b : Bool} (sink : S) (rest : Rest) (text : Text) → b ≡ false → Gathers holds faults sink sink rest rest (if b then text else [])
put_else sink rest text is = gathers_as (sym (ap (λ (b : Bool). if b then text else []) is)) (gathers_nothing sink rest)

pub put_unless : {S : Type 0} {holds : S → Option Text} {faults : S → ℕ} {old new : S} {rest left : Rest} {text : Text} {b : Bool} → b ≡ false → Gathers holds faults old new rest left text → Gathers holds faults old new rest left (if b then [] else text)
put_unless {text = text} is all = gathers_as (sym (ap (λ (b : Bool). if b then [] else text) is)) all

pub put_nothing : {S : Type 0} {holds : S → Option Text} {faults : S → ℕ} {b : Bool} (sink : S) (rest : Rest) (text : Text) → b ≡ true → Gathers holds faults sink sink rest rest (if b then [] else text)
put_nothing sink rest text is = gathers_as (sym (ap (λ (b : Bool). if b then [] else text) is)) (gathers_nothing sink rest)
