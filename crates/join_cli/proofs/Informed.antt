-- Words that ask for the program's help or its version name no paths.
use Rattle.std.proofs.Common.{◌≡◌, List, [], ◌∷◌, Option, Some, None, refl}
use Rattle.coz_types.specs.Labels.{Text}
use Rattle.coz_serve.specs.declared.info.Info.{Info}
use Rattle.coz_serve.specs.Info.{info_in}
use Rattle.coz_serve.proofs.Informed.{of_info}
use Rattle.join_parts.specs.Words.{paths_in}

pub no_paths : (words : List Text) (info : Info) → info_in words ≡ Some info → paths_in words ≡ None
no_paths [] info is = refl
no_paths (word ∷ words) info is = of_info (λ (w : Text). paths_in (w ∷ words) ≡ None) word refl refl refl refl info is
