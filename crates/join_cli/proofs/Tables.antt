-- A line table that is read from bytes has texts of bytes and lines of 32 bits.
use Rattle.std.proofs.Common.{◌≡◌, ℕ, zero, suc, ◌+◌, ◌<◌, ◌^◌, ℤ, pos, negsuc, Bool, true, false, ◌==◌, if◌then◌else◌, ◌⊎◌, inl, inr, List, [], ◌∷◌, ◌++◌, take, drop, length, get_or, Option, Some, None, refl, sym, subst}
use Rattle.std.specs.List.{AllByRecursion, concat}
use Rattle.std.specs.Int.{w16, w32, to_le_bytes}
use Rattle.std.proofs.lemmas.Bool.{ltb-true}
use Rattle.dwarf_lines.specs.declared.Row.{Row}
use Rattle.dwarf_lines.specs.declared.forms.Form.{Form}
use Rattle.dwarf_lines.specs.declared.forms.Form.TheVariants.{String, Strp, LineStrp, Data1, Data2, Udata, Data4, Data8, Data16, Block}
use Rattle.dwarf_lines.specs.declared.forms.Format.{Format}
use Rattle.dwarf_lines.specs.Names.{Strings, Value, Text, Number, Other, Entry, empty_entry, entry_of, with_value, directory_of, paths, files_of}
use Rattle.dwarf_lines.specs.Registers.{File, Table, Header, Operation, Copy, AdvancePc, AdvanceLine, SetFile, SetColumn, NegateStmt, ConstAddPc, FixedAdvancePc, Special, EndSequence, SetAddress, DefineFile, Pass, State, empty_table, natural, fits_line, row, state_after, registers_after, is_appending, is_ending, defined_files, has_line, first_state, directory}
use Rattle.dwarf_lines.specs.Spelling.{SpellsText, SpellsFile, SpellsAll, Spells, Goes, SpellsPlace, SpellsValue, SpellsValues, SpellsEntry, SpellsListed, sizes, operations, SpellsNames, SpellsHeader, IsSupported, ReadsUnit, TakesUnit, Takes, IsTable}

-- ---- bytes

abbrev pub AreBytes : List ℕ → Type 0
AreBytes bytes = AllByRecursion (λ b. b < 256) bytes

abbrev AllBytes : List (List ℕ) → Type 0
AllBytes lists = AllByRecursion AreBytes lists

-- the texts of a file are bytes
pub record HasBytes (file : File) : Type 0 where
  pub directory : AreBytes file.directory
  pub name : AreBytes file.name

-- the line of a row is a number of 32 bits
abbrev pub HasLine : Row → Type 0
HasLine row = row.line < 2 ^ 32

pub record IsPlain (table : Table) : Type 0 where
  pub files : AllByRecursion HasBytes table.files
  pub rows : AllByRecursion HasLine table.rows

pub both : {X : Type 0} (P : X → Type 0) (xs ys : List X) → AllByRecursion P xs → AllByRecursion P ys → AllByRecursion P (xs ++ ys)
both P [] ys one two = two
both P (x ∷ xs) ys one two = (one.0, both P xs ys one.1 two)

left : (xs ys : List ℕ) → AreBytes (xs ++ ys) → AreBytes xs
left [] ys all = tt
left (x ∷ xs) ys all = (all.0, left xs ys all.1)

right : (xs ys : List ℕ) → AreBytes (xs ++ ys) → AreBytes ys
right [] ys all = all
right (x ∷ xs) ys all = right xs ys all.1

pub dropped : (n : ℕ) (xs : List ℕ) → AreBytes xs → AreBytes (drop n xs)
dropped n [] all = by n
  where
    by : (n : ℕ) → AreBytes (drop n [])
    by zero = tt
    by (suc n) = tt
dropped zero (x ∷ xs) all = all
dropped (suc n) (x ∷ xs) all = dropped n xs all.1

pub taken : (n : ℕ) (xs : List ℕ) → AreBytes xs → AreBytes (take n xs)
taken zero xs all = tt
taken (suc n) [] all = tt
taken (suc n) (x ∷ xs) all = (all.0, taken n xs all.1)

each_bytes : (lists : List (List ℕ)) → AreBytes (concat lists) → AllBytes lists
each_bytes [] all = tt
each_bytes (x ∷ lists) all = (left x (concat lists) all, each_bytes lists (right x (concat lists) all))

picked : (lists : List (List ℕ)) (k : ℕ) → AllBytes lists → AreBytes (get_or lists k [])
picked [] k all = tt
picked (x ∷ lists) zero all = all.0
picked (x ∷ lists) (suc k) all = picked lists k all.1

module _ {A : Type 0} (Spelt : A → List ℕ → Type 0) (P : A → Type 0) (each : (x : A) (bytes : List ℕ) → Spelt x bytes → AreBytes bytes → P x) where
  all_spelt : (xs : List A) (bytes : List ℕ) → SpellsAll Spelt xs bytes → AreBytes bytes → AllByRecursion P xs
  all_spelt [] bytes is are = tt
  all_spelt (x ∷ xs) bytes is are =
      let h : AreBytes (is.0 ++ is.1) = subst AreBytes is.2 are in
      (each x is.0 is.3 (left is.0 is.1 h), all_spelt xs is.1 is.4 (right is.0 is.1 h))

-- ---- texts and files

text_bytes : (text bytes : List ℕ) → SpellsText text bytes → AreBytes bytes → AreBytes text
text_bytes text bytes is are = left text (0 ∷ []) (subst AreBytes is.1 are)

directory_bytes : (directories : List (List ℕ)) (n : ℕ) → AllBytes directories → AreBytes (directory directories n)
directory_bytes directories zero all = tt
directory_bytes directories (suc k) all = picked directories k all

file_bytes : (directories : List (List ℕ)) → AllBytes directories → (file : File) (bytes : List ℕ) → SpellsFile directories file bytes → AreBytes bytes → HasBytes file
file_bytes directories all file bytes is are = record {
  directory = subst AreBytes (sym is.12) (directory_bytes directories is.4 all);
  name = text_bytes file.name is.0 is.8 (left is.0 (is.1 ++ (is.2 ++ is.3)) (subst AreBytes is.7 are));
}

-- ---- programs

defined_bytes : (h : Header) (op : Operation) (code : List ℕ) → AllBytes h.directories → Spells h op code → AreBytes code → AllByRecursion HasBytes (defined_files op)
defined_bytes h Copy code all is are = tt
defined_bytes h (AdvancePc n) code all is are = tt
defined_bytes h (AdvanceLine z) code all is are = tt
defined_bytes h (SetFile n) code all is are = tt
defined_bytes h (SetColumn n) code all is are = tt
defined_bytes h NegateStmt code all is are = tt
defined_bytes h ConstAddPc code all is are = tt
defined_bytes h (FixedAdvancePc n) code all is are = tt
defined_bytes h (Special o) code all is are = tt
defined_bytes h EndSequence code all is are = tt
defined_bytes h (SetAddress a) code all is are = tt
defined_bytes h (DefineFile f) code all is are =
    let size : List ℕ = is.2.0 in
    let body : AreBytes ((3 ∷ is.0) ++ is.1) = right (0 ∷ size) ((3 ∷ is.0) ++ is.1) (subst AreBytes is.2.1 are) in
    (file_bytes h.directories all f is.0 is.3 (left (3 ∷ is.0) is.1 body).1, tt)
defined_bytes h Pass code all is are = tt

small_line : (z : ℤ) → fits_line z ≡ true → natural z < 2 ^ 32
small_line (pos n) e = ltb-true n (2 ^ 32) e
small_line (negsuc n) e = absurd (let no : ⊥ = cc in no)

row_small : (r : Row) (z : ℤ) (b : Bool) → r.line ≡ natural z → (if b then fits_line z else true) ≡ true → AllByRecursion HasLine (if b then r ∷ [] else [])
row_small r z true is e = (subst (λ n. n < 2 ^ 32) (sym is) (small_line z e), tt)
row_small r z false is e = tt

step_plain : (h : Header) (op : Operation) (code : List ℕ) (s : State) → AllBytes h.directories → Spells h op code → AreBytes code → has_line h op s ≡ true → IsPlain s.table → IsPlain (state_after h op s).table
step_plain h op code s all is are fits plain = record {
  files = both HasBytes s.table.files (defined_files op) plain.files (defined_bytes h op code all is are);
  rows = both HasLine s.table.rows (if is_appending op then row h s (is_ending op) (registers_after h op s.registers) ∷ [] else []) plain.rows
      (row_small (row h s (is_ending op) (registers_after h op s.registers)) (registers_after h op s.registers).line (is_appending op) refl fits);
}

goes_plain : (h : Header) (codes : List (List ℕ)) (s t : State) → AllBytes h.directories → AllBytes codes → Goes h codes s t → IsPlain s.table → IsPlain t.table
goes_plain h [] s t all are goes plain = subst (λ (u : State). IsPlain u.table) (sym goes) plain
goes_plain h (code ∷ codes) s t all are goes plain =
    goes_plain h codes (state_after h goes.0 s) t all are.1 goes.3 (step_plain h goes.0 code s all goes.1 are.0 goes.2 plain)

-- ---- directories and files of version 5

module _ (strings : Strings) (general : AreBytes strings.general) (line : AreBytes strings.line) where
  HasText : Value → Type 0
  HasText (Text t) = AreBytes t
  HasText (Number n) = Unit {0}
  HasText Other = Unit {0}

  place_bytes : (texts : List ℕ) → AreBytes texts → (v : Value) (bytes : List ℕ) → SpellsPlace texts v bytes → HasText v
  unfolding HasText
  place_bytes texts all v bytes is =
      let rest : List ℕ = is.4.0 in
      let whole : AreBytes ((is.1 ++ 0 ∷ []) ++ rest) = subst AreBytes is.4.1 (dropped is.0 texts all) in
      subst HasText (sym is.5) (left is.1 (0 ∷ []) (left (is.1 ++ 0 ∷ []) rest whole))

  value_bytes : (form : Form) (v : Value) (bytes : List ℕ) → SpellsValue strings form v bytes → AreBytes bytes → HasText v
  unfolding HasText
  value_bytes String v bytes is are = subst HasText (sym is.2) (text_bytes is.0 bytes is.1 are)
  value_bytes Strp v bytes is are = place_bytes strings.general general v bytes is
  value_bytes LineStrp v bytes is are = place_bytes strings.line line v bytes is
  value_bytes Data1 v bytes is are = subst HasText (sym is.2) tt
  value_bytes Data2 v bytes is are = subst HasText (sym is.3) tt
  value_bytes Udata v bytes is are = subst HasText (sym is.2) tt
  value_bytes Data4 v bytes is are = subst HasText (sym is.1) tt
  value_bytes Data8 v bytes is are = subst HasText (sym is.1) tt
  value_bytes Data16 v bytes is are = subst HasText (sym is.1) tt
  value_bytes Block v bytes is are = subst HasText (sym is.4) tt

  values_bytes : (fs : List Format) (vs : List Value) (bytes : List ℕ) → SpellsValues strings fs vs bytes → AreBytes bytes → AllByRecursion HasText vs
  values_bytes [] [] bytes is are = tt
  values_bytes [] (v ∷ vs) bytes is are = absurd is
  values_bytes (f ∷ fs) [] bytes is are = absurd is
  values_bytes (f ∷ fs) (v ∷ vs) bytes is are =
      let h : AreBytes (is.0 ++ is.1) = subst AreBytes is.2 are in
      (value_bytes f.form v is.0 is.3 (left is.0 is.1 h), values_bytes fs vs is.1 is.4 (right is.0 is.1 h))

  HasPath : Entry → Type 0
  HasPath e = AreBytes e.path

  with_bytes : (content : ℕ) (v : Value) (e : Entry) → HasText v → HasPath e → HasPath (with_value content v e)
  unfolding HasText HasPath
  with_bytes content (Text t) e text path = by (content == 1)
    where
      by : (b : Bool) → HasPath (if b then record e { path = t } else e)
      by true = text
      by false = path
  with_bytes content (Number n) e text path = by (content == 2)
    where
      by : (b : Bool) → HasPath (if b then record e { directory = Some n } else e)
      by true = path
      by false = path
  with_bytes content Other e text path = path

  entry_bytes : (fs : List Format) (vs : List Value) (e : Entry) → AllByRecursion HasText vs → HasPath e → HasPath (entry_of fs vs e)
  entry_bytes [] vs e texts path = path
  entry_bytes (f ∷ fs) [] e texts path = path
  entry_bytes (f ∷ fs) (v ∷ vs) e texts path = entry_bytes fs vs (with_value f.content v e) texts.1 (with_bytes f.content v e texts.0 path)

  spelt_bytes : (fs : List Format) (e : Entry) (bytes : List ℕ) → SpellsEntry strings fs e bytes → AreBytes bytes → HasPath e
  unfolding HasPath
  spelt_bytes fs e bytes is are = subst HasPath (sym is.2) (entry_bytes fs is.0 empty_entry (values_bytes fs is.0 bytes is.1 are) tt)

  listed_bytes : (entries : List Entry) (bytes : List ℕ) → SpellsListed strings entries bytes → AreBytes bytes → AllByRecursion HasPath entries
  listed_bytes entries bytes is are =
      let h : AreBytes (length is.0 ∷ (is.1 ++ (is.2 ++ is.3))) = subst AreBytes is.4 are in
      all_spelt (SpellsEntry strings is.0) HasPath (spelt_bytes is.0) entries is.3 is.7 (right is.2 is.3 (right is.1 (is.2 ++ is.3) h.1))

  paths_bytes : (entries : List Entry) → AllByRecursion HasPath entries → AllBytes (paths entries)
  unfolding HasPath
  paths_bytes [] all = tt
  paths_bytes (e ∷ entries) all = (all.0, paths_bytes entries all.1)

  found_bytes : (directories : List (List ℕ)) (place : Option ℕ) → AllBytes directories → AreBytes (directory_of directories place)
  found_bytes directories None all = tt
  found_bytes directories (Some zero) all = tt
  found_bytes directories (Some (suc k)) all = picked directories (suc k) all

  files_bytes : (directories : List (List ℕ)) (entries : List Entry) → AllBytes directories → AllByRecursion HasPath entries → AllByRecursion HasBytes (files_of directories entries)
  unfolding HasPath
  files_bytes directories [] all paths = tt
  files_bytes directories (e ∷ entries) all paths = (record { directory = found_bytes directories e.directory all; name = paths.0 }, files_bytes directories entries all paths.1)

  -- ---- units

  names_bytes : (fifth : Bool) (directories : List (List ℕ)) (files : List File) (bytes : List ℕ) → SpellsNames fifth strings directories files bytes → AreBytes bytes → AllBytes directories × AllByRecursion HasBytes files
  names_bytes true directories files bytes is are =
      let h : AreBytes (is.2 ++ is.3) = subst AreBytes is.4 are in
      let ds : AllBytes directories = subst AllBytes (sym is.7) (paths_bytes is.0 (listed_bytes is.0 is.2 is.5 (left is.2 is.3 h))) in
      (ds, subst (AllByRecursion HasBytes) (sym is.8) (files_bytes directories is.1 ds (listed_bytes is.1 is.3 is.6 (right is.2 is.3 h))))
  names_bytes false directories files bytes is are =
      let h : AreBytes ((is.0 ++ 0 ∷ []) ++ (is.1 ++ 0 ∷ [])) = subst AreBytes is.2 are in
      let ds : AllBytes directories = all_spelt SpellsText AreBytes text_bytes directories is.0 is.3 (left is.0 (0 ∷ []) (left (is.0 ++ 0 ∷ []) (is.1 ++ 0 ∷ []) h)) in
      (ds, all_spelt (SpellsFile directories) HasBytes (file_bytes directories ds) files is.1 is.4 (left is.1 (0 ∷ []) (right (is.0 ++ 0 ∷ []) (is.1 ++ 0 ∷ []) h)))

  header_bytes : (version : ℕ) (h : Header) (bytes : List ℕ) → SpellsHeader version strings h bytes → AreBytes bytes → AllBytes h.directories × AllByRecursion HasBytes h.files
  header_bytes version h bytes is are =
      let front : List ℕ = h.minimum_length ∷ operations version in
      let more : List ℕ = is.0 ∷ is.1 ∷ h.line_range ∷ h.opcode_base ∷ h.lengths in
      let all : AreBytes (((front ++ more) ++ is.2) ++ is.3) = subst AreBytes is.4 are in
      names_bytes (version == 5) h.directories h.files is.2 is.10 (right (front ++ more) is.2 (left ((front ++ more) ++ is.2) is.3 all))

  unit_plain : (version : ℕ) (bytes : List ℕ) (t u : Table) → ReadsUnit version strings bytes t u → AreBytes bytes → IsPlain t → IsPlain u
  unit_plain version bytes t u is are plain =
      let h : Header = is.0 in
      let size : List ℕ = to_le_bytes w32 (length is.1) in
      let after : AreBytes ((size ++ is.1) ++ concat is.2) = right (sizes version) ((size ++ is.1) ++ concat is.2) (subst AreBytes is.4 are) in
      let names = header_bytes version h is.1 is.5 (right size is.1 (left (size ++ is.1) (concat is.2) after)) in
      let first : IsPlain (first_state h t).table = record { files = both HasBytes t.files h.files plain.files names.1; rows = plain.rows } in
      subst IsPlain (sym is.8) (goes_plain h is.2 (first_state h t) is.3 names.0 (each_bytes is.2 (right (size ++ is.1) (concat is.2) after)) is.6 first)

  taken_plain : (unit : List ℕ) (t m : Table) → TakesUnit strings unit t m → AreBytes unit → IsPlain t → IsPlain m
  taken_plain unit t m takes are plain = by takes.5
    where
      front : List ℕ
      front = to_le_bytes w32 (2 + length takes.1) ++ to_le_bytes w16 takes.0

      bytes : AreBytes takes.1
      bytes = right front takes.1 (subst AreBytes takes.2 are)

      by : (IsSupported takes.0 × ReadsUnit takes.0 strings takes.1 t m) ⊎ ((IsSupported takes.0 → ⊥) × (m ≡ record t { skipped = t.skipped + 1 })) → IsPlain m
      by (inl read) = unit_plain takes.0 takes.1 t m read.1 bytes plain
      by (inr passed) = subst IsPlain (sym passed.1) (record { files = plain.files; rows = plain.rows })

  takes_plain : (units : List (List ℕ)) (t u : Table) → Takes strings units t u → AllBytes units → IsPlain t → IsPlain u
  takes_plain [] t u is are plain = subst IsPlain (sym is) plain
  takes_plain (unit ∷ units) t u is are plain = takes_plain units is.0 u is.2 are.1 (taken_plain unit t is.0 is.1 are.0 plain)

  pub table_plain : (section : List ℕ) (table : Table) → IsTable strings section table → AreBytes section → IsPlain table
  table_plain section table is are =
      takes_plain is.units empty_table table is.takes (each_bytes is.units (subst AreBytes is.whole are)) (record { files = tt; rows = tt })
