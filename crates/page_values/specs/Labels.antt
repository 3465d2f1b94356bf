-- Labels in a page.
use Rattle.std.specs.Prelude.{ℕ, Bool, not, ◌||◌, ◌==◌, [], ◌∷◌, codes, flat_map, if◌then◌else◌}
use Rattle.coz_types.specs.Labels.{Text}

-- a byte as a page has it: `&`, `<`, `>` and `"` by their names
abbrev pub html_byte : ℕ → Text
html_byte b =
    if b == 38 then codes "&amp;"
    else (if b == 60 then codes "&lt;"
    else (if b == 62 then codes "&gt;"
    else (if b == 34 then codes "&quot;" else b ∷ [])))

abbrev pub html : Text → Text
html text = flat_map html_byte text

-- a byte that begins or ends no markup, and no text in quotes
abbrev pub is_plain : ℕ → Bool
is_plain b = not (b == 60 || (b == 62 || b == 34))
