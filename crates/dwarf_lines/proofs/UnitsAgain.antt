-- Each table of a section is read, so a section has exactly one table or exactly one fault.
use Rattle.std.proofs.Common.{◌≡◌, ℕ, zero, suc, ◌+◌, ◌^◌, ◌<◌, ◌⊎◌, inl, inr, Bool, true, false, cond, ◌&&◌, nat_lt, nat_le, List, [], ◌∷◌, ◌++◌, length, Result, Ok, Err, refl, sym, ap, ◌∙◌, arith, append_assoc}
use Rattle.std.specs.List.{concat}
use Rattle.std.specs.Int.{w16, w32, to_le_bytes}
use Rattle.std.proofs.lemmas.Bool.{le-leb, lt-ltb, leb-true}
use Rattle.std.proofs.lemmas.List.{length-append}
use Rattle.leb_cursor.specs.Ahead.{Ahead, Reading, part_at}
use Rattle.leb_cursor.proofs.Exact.{IsBytes, ahead}
use Rattle.leb_cursor.proofs.Again.{word_again, half_again, part_again}
use Rattle.dwarf_lines.specs.declared.LineFault.{LineFault}
use Rattle.dwarf_lines.specs.declared.LineKind.TheVariants as kinds
use Rattle.dwarf_lines.specs.Registers.{Table, Header, State, first_state, empty_table}
use Rattle.dwarf_lines.specs.Names.{Strings}
use Rattle.dwarf_lines.specs.Spelling as spelled
use Rattle.dwarf_lines.specs.Spelling.{SpellsHeader, IsSupported, ReadsUnit, TakesUnit, Takes, IsTable}
use Rattle.dwarf_lines.specs.Reading.{fault, field, check, word, half_field, announced_bytes, header, program, is_read, sizes, unit_body, unit, units, reading}
use Rattle.dwarf_lines.specs.Law.{HasOne}
use Rattle.dwarf_lines.proofs.Again.{programs_again}
use Rattle.dwarf_lines.proofs.HeadersAgain.{bind_through, wanted_back}
use Rattle.dwarf_lines.proofs.HeadsAgain.{header_again, sizes_back}
use Rattle.dwarf_lines.proofs.Law.{one_or_other}
use Rattle.dwarf_lines.proofs.Units.{both_true}

announced_back : (place n first : ℕ) (x rest : List ℕ) → length x ≡ n → announced_bytes place n (ahead first (x ++ rest)) ≡ Ok (ahead first x, ahead (first + n) rest)
announced_back place n first x rest len =
    let room : nat_le n (length (x ++ rest)) ≡ true = le-leb _ _ (omega (arith, length-append x rest)) in
    ap (λ (b : Bool). cond {A = Reading Ahead LineFault} b (field (part_at n (ahead first (x ++ rest)))) (Err (fault kinds.Short place))) room ∙ ap field (part_again n first x rest len)

header_small : (x y w v : List ℕ) (bytes : List ℕ) → bytes ≡ v ++ (w ++ x ++ y) → 2 + length bytes < 0xFFFFFFF0 → length x < 2 ^ 32
header_small x y w v bytes e lt = omega (arith, ap (λ (z : List ℕ). length z) e, length-append v (w ++ x ++ y), length-append (w ++ x) y, length-append w x)

body_by : (version : ℕ) (strings : Strings) (t : Table) (start place : ℕ) (h : Header) (x : List ℕ) (codes : List (List ℕ)) (s : State) → length x < 2 ^ 32 → SpellsHeader version strings h x → 0 < h.opcode_base
    → sizes version (ahead start (spelled.sizes version ++ (to_le_bytes w32 (length x) ++ (x ++ concat codes)))) ≡ Ok (ahead place (to_le_bytes w32 (length x) ++ (x ++ concat codes)))
    → program (suc (length (concat codes))) h (first_state h t) (ahead (place + 4 + length x) (concat codes)) ≡ Ok s
    → unit_body version strings t (ahead start (spelled.sizes version ++ (to_le_bytes w32 (length x) ++ (x ++ concat codes)))) ≡ Ok s.table
unfolding unit_body
body_by version strings t start place h x codes s small spells some two run =
    bind_through (sizes version (ahead start (spelled.sizes version ++ (to_le_bytes w32 (length x) ++ (x ++ concat codes))))) _ (ahead place (to_le_bytes w32 (length x) ++ (x ++ concat codes))) _ two
    (bind_through (word (ahead place (to_le_bytes w32 (length x) ++ (x ++ concat codes)))) _ (length x, ahead (place + 4) (x ++ concat codes)) _ (ap field (word_again (length x) place (x ++ concat codes) small))
    (bind_through (announced_bytes place (length x) (ahead (place + 4) (x ++ concat codes))) _ (ahead (place + 4) x, ahead (place + 4 + length x) (concat codes)) _ (announced_back place (length x) (place + 4) x (concat codes) refl)
    (bind_through (header version strings (ahead (place + 4) x)) _ h _ (header_again version strings h x (place + 4) spells)
    (bind_through (program (suc (length (concat codes))) h (first_state h t) (ahead (place + 4 + length x) (concat codes))) _ s _ run refl))))

count_some : (o n : ℕ) → o ≡ 1 + n → 0 < o
count_some o n e = omega arith

body_back : (version : ℕ) (strings : Strings) (t u : Table) (place : ℕ) (bytes : List ℕ) → 2 + length bytes < 0xFFFFFFF0 → ReadsUnit version strings bytes t u → unit_body version strings t (ahead place bytes) ≡ Ok u
body_back version strings t u place bytes small (h, x, codes, s, whole, spells, goes, closed, is) =
    let w : List ℕ = to_le_bytes w32 (length x) in
    let grouped : bytes ≡ spelled.sizes version ++ (w ++ (x ++ concat codes)) = whole ∙ ap (λ (z : List ℕ). spelled.sizes version ++ z) (append_assoc w x (concat codes)) in
    let two = sizes_back version place (w ++ (x ++ concat codes)) in
    let p : ℕ = two.0 in
    let some : 0 < h.opcode_base = count_some h.opcode_base (length h.lengths) spells.9 in
    let steps : length (concat codes) < suc (length (concat codes)) = omega arith in
    let run = programs_again h some (suc (length (concat codes))) codes (first_state h t) s (p + 4 + length x) steps goes closed in
    ap (λ (z : List ℕ). unit_body version strings t (ahead place z)) grouped ∙ body_by version strings t place p h x codes s (header_small x (concat codes) w (spelled.sizes version) bytes whole small) spells some two.1 run ∙ ap (λ (v : Table). Ok v) (sym is)

-- what a unit's reading goes on with, after its version
abbrev after_version : Bool → ℕ → Strings → Table → Ahead → Result Table LineFault
after_version reads version strings t a = elim reads [ true ↦ unit_body version strings t a | false ↦ Ok (record t { skipped = t.skipped + 1 }) ]

both_are : (a b : Bool) → a ≡ true → b ≡ true → (a && b) ≡ true
both_are a b e f = ap (λ (x : Bool). x && b) e ∙ f

not_read : (version : ℕ) (b : Bool) → is_read version ≡ b → (IsSupported version → ⊥) → b ≡ false
not_read version false e never = refl
not_read version true e never = let both = both_true (nat_le 2 version) (nat_le version 5) e in absurd (never (leb-true _ _ both.0, leb-true _ _ both.1))

decided_back : (version : ℕ) (strings : Strings) (t u : Table) (place : ℕ) (bytes : List ℕ) → 2 + length bytes < 0xFFFFFFF0
    → (IsSupported version × ReadsUnit version strings bytes t u) ⊎ ((IsSupported version → ⊥) × (u ≡ record t { skipped = t.skipped + 1 }))
    → after_version (is_read version) version strings t (ahead place bytes) ≡ Ok u
decided_back version strings t u place bytes small (inl is) =
    ap (λ (b : Bool). after_version b version strings t (ahead place bytes)) (both_are (nat_le 2 version) (nat_le version 5) (le-leb _ _ is.0.0) (le-leb _ _ is.0.1)) ∙ body_back version strings t u place bytes small is.1
decided_back version strings t u place bytes small (inr is) =
    ap (λ (b : Bool). after_version b version strings t (ahead place bytes)) (not_read version (is_read version) refl is.0) ∙ ap (λ (v : Table). Ok v) (sym is.1)

unit_by : (version : ℕ) (strings : Strings) (t u : Table) (place n : ℕ) (bytes rest : List ℕ) → n ≡ 2 + length bytes → n < 0xFFFFFFF0 → version < 2 ^ 16 → after_version (is_read version) version strings t (ahead (place + 4 + 2) bytes) ≡ Ok u
    → unit strings t (ahead place (to_le_bytes w32 n ++ ((to_le_bytes w16 version ++ bytes) ++ rest))) ≡ Ok (u, ahead (place + 4 + n) rest)
unfolding unit
unit_by version strings t u place n bytes rest len small fits reads =
    let inside : List ℕ = to_le_bytes w16 version ++ bytes in
    let size : length inside ≡ n = length-append (to_le_bytes w16 version) bytes ∙ sym len in
    let wide : n < 2 ^ 32 = omega arith in
    bind_through (word (ahead place (to_le_bytes w32 n ++ (inside ++ rest)))) _ (n, ahead (place + 4) (inside ++ rest)) _ (ap field (word_again n place (inside ++ rest) wide))
    (bind_through (check (nat_lt n 0xFFFFFFF0) kinds.LongForm place (n, ahead (place + 4) (inside ++ rest))) _ (n, ahead (place + 4) (inside ++ rest)) _ (wanted_back (nat_lt n 0xFFFFFFF0) kinds.LongForm place (n, ahead (place + 4) (inside ++ rest)) (lt-ltb _ _ small))
    (bind_through (announced_bytes place n (ahead (place + 4) (inside ++ rest))) _ (ahead (place + 4) inside, ahead (place + 4 + n) rest) _ (announced_back place n (place + 4) inside rest size)
    (bind_through (half_field (ahead (place + 4) inside)) _ (version, ahead (place + 4 + 2) bytes) _ (ap field (half_again version (place + 4) bytes fits))
    (bind_through (after_version (is_read version) version strings t (ahead (place + 4 + 2) bytes)) _ u _ reads refl))))

unit_again : (strings : Strings) (t u : Table) (bytes rest : List ℕ) (place : ℕ) → TakesUnit strings bytes t u → (q : ℕ) × (unit strings t (ahead place (bytes ++ rest)) ≡ Ok (u, ahead q rest))
unit_again strings t u bytes rest place (version, body, whole, small, fits, which) =
    let n : ℕ = 2 + length body in
    let parts : bytes ++ rest ≡ to_le_bytes w32 n ++ ((to_le_bytes w16 version ++ body) ++ rest) =
    ap (λ (z : List ℕ). z ++ rest) (whole ∙ append_assoc (to_le_bytes w32 n) (to_le_bytes w16 version) body) ∙ append_assoc (to_le_bytes w32 n) (to_le_bytes w16 version ++ body) rest in
    (place + 4 + n, ap (λ (z : List ℕ). unit strings t (ahead place z)) parts ∙ unit_by version strings t u place n body rest refl small fits (decided_back version strings t u (place + 4 + 2) body small which))

first_of : (strings : Strings) (t u : Table) (bytes : List ℕ) → TakesUnit strings bytes t u → (b : ℕ) × (bs : List ℕ) × (bytes ≡ b ∷ bs)
first_of strings t u bytes is = (_, _, is.2)

units_on : (n : ℕ) (strings : Strings) (t u : Table) (place b : ℕ) (bytes bs : List ℕ) (m : Table) (after : Ahead) → bytes ≡ b ∷ bs → unit strings t (ahead place bytes) ≡ Ok (m, after) → units n strings m after ≡ Ok u → units (suc n) strings t (ahead place bytes) ≡ Ok u
unfolding units
units_on n strings t u place b bytes bs m after e one more =
    let read : unit strings t (ahead place (b ∷ bs)) ≡ Ok (m, after) = ap (λ (z : List ℕ). unit strings t (ahead place z)) (sym e) ∙ one in
    ap (λ (z : List ℕ). units (suc n) strings t (ahead place z)) e ∙ bind_through (unit strings t (ahead place (b ∷ bs))) (λ u. units n strings u.0 u.1) (m, after) (Ok u) read more

units_again : (n : ℕ) (strings : Strings) (us : List (List ℕ)) (t u : Table) (place : ℕ) → length (concat us) < n → Takes strings us t u → units n strings t (ahead place (concat us)) ≡ Ok u
unfolding units
units_again zero strings us t u place lt is = absurd (omega arith)
units_again (suc n) strings [] t u place lt is = ap (λ (v : Table). Ok v) (sym is)
units_again (suc n) strings (bytes ∷ us) t u place lt (m, takes, more) =
    let f = first_of strings t m bytes takes in
    let one = unit_again strings t m bytes (concat us) place takes in
    let less : length (concat us) < n = omega (arith, length-append bytes (concat us), ap (λ (z : List ℕ). length z) f.2) in
    units_on n strings t u place f.0 (bytes ++ concat us) (f.1 ++ concat us) m (ahead one.0 (concat us)) (ap (λ (z : List ℕ). z ++ concat us) f.2) one.1 (units_again n strings us m u one.0 less more)

-- each table of a section is read
pub reading_again : (strings : Strings) (section : List ℕ) (t : Table) → IsTable strings section t → reading strings section ≡ Ok t
unfolding reading
reading_again strings section t is =
    let lt : length (concat is.units) < suc (length section) = omega (arith, ap (λ (z : List ℕ). length z) is.whole) in
    ap (λ (z : List ℕ). units (suc (length section)) strings empty_table (ahead 0 z)) is.whole ∙ units_again (suc (length section)) strings is.units empty_table t 0 lt is.takes

-- each section has exactly one table, or exactly one fault
pub one_table_or_one_fault : (strings : Strings) (section : List ℕ) → IsBytes section → HasOne strings section
one_table_or_one_fault strings section fits = one_or_other strings (reading_again strings) section fits
