-- Bytes that are a text, and others.
use Rattle.std.proofs.Common.{◌≡◌, Bool, true, false, Some, None, refl, ap}
use Rattle.std.specs.Str.{is_utf8, IsUtf8}
use Rattle.std.proofs.lemmas.Str.{is_utf8-from_IsUtf8, IsUtf8-from_is_utf8}
use Rattle.coz_types.specs.Labels.{Text}
use Rattle.page_values.specs.Sources.{IsText}

pub text_is : (bytes text : Text) → text ≡ bytes → IsUtf8 bytes → IsText bytes (Some text)
text_is bytes text same is = rw (is_utf8-from_IsUtf8 bytes is) (ap Some same)

not_so : (b : Bool) → (b ≡ true → ⊥) → b ≡ false
not_so true never = absurd (never refl)
not_so false never = refl

pub no_text : (bytes : Text) → (IsUtf8 bytes → ⊥) → IsText bytes None
no_text bytes never = rw (not_so (is_utf8 bytes) (λ is. never (IsUtf8-from_is_utf8 bytes is))) refl
