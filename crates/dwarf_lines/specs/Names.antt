-- Directories and files of version 5: entries, each a value for each format.
use Rattle.std.specs.Prelude.{ℕ, zero, suc, Bool, true, false, ◌&&◌, ◌==◌, List, [], ◌∷◌, map, get_or, find, option_map, Option, Some, None, if◌then◌else◌}
use Rattle.dwarf_lines.specs.declared.forms.Form.{Form}
use Rattle.dwarf_lines.specs.declared.forms.Form.TheVariants.{String, Strp, LineStrp, Data1, Data2, Udata, Data4, Data8, Data16, Block}
use Rattle.dwarf_lines.specs.declared.forms.Format.{Format}
use Rattle.dwarf_lines.specs.Registers.{File}

-- the sections that texts may stand in
pub record Strings : Type 0 where
  pub general : List ℕ
  pub line : List ℕ

abbrev pub strings : List ℕ → List ℕ → Strings
strings general line = record { general = general; line = line }

-- a form's number, whether a path and whether a directory's number may have it
pub record FormLine : Type 0 where
  pub code : ℕ
  pub is_path : Bool
  pub is_directory : Bool
  pub form : Form

abbrev pub line : ℕ → Bool → Bool → Form → FormLine
line code path directory form = record {
  code = code;
  is_path = path;
  is_directory = directory;
  form = form;
}

abbrev pub forms : List FormLine
forms =
    line 0x08 true false String
    ∷ line 0x0e true false Strp
    ∷ line 0x1f true false LineStrp
    ∷ line 0x0b false true Data1
    ∷ line 0x05 false true Data2
    ∷ line 0x06 false false Data4
    ∷ line 0x07 false false Data8
    ∷ line 0x1e false false Data16
    ∷ line 0x0f false true Udata
    ∷ line 0x09 false false Block
    ∷ []

-- content 1 is the path, 2 the directory's number
abbrev pub is_allowed : ℕ → ℕ → FormLine → Bool
is_allowed content code f =
    f.code == code
    && (if content == 1 then f.is_path else if content == 2 then f.is_directory else true)

-- the form of a content, if it may have it
unfoldable pub form_for : ℕ → ℕ → Option Form
form_for content code = option_map (λ (f : FormLine). f.form) (find (is_allowed content code) forms)

pub data Value : Type 0 where
  Text : List ℕ → Value
  Number : ℕ → Value
  -- bytes that nothing is made of
  Other : Value

pub record Entry : Type 0 where
  pub path : List ℕ
  pub directory : Option ℕ

abbrev pub empty_entry : Entry
empty_entry = record { path = []; directory = None }

-- of several values with one content the last counts
abbrev pub with_value : ℕ → Value → Entry → Entry
with_value content (Text t) e = if content == 1 then record e { path = t } else e
with_value content (Number n) e = if content == 2 then record e { directory = Some n } else e
with_value content Other e = e

-- the entry of these values
abbrev pub entry_of : List Format → List Value → Entry → Entry
entry_of [] vs e = e
entry_of (f ∷ fs) [] e = e
entry_of (f ∷ fs) (v ∷ vs) e = entry_of fs vs (with_value f.content v e)

-- the directory of that number, counted from 0; the number 0 is that of no directory
abbrev pub directory_of : List (List ℕ) → Option ℕ → List ℕ
directory_of directories None = []
directory_of directories (Some zero) = []
directory_of directories (Some (suc k)) = get_or directories (suc k) []

abbrev pub paths : List Entry → List (List ℕ)
paths entries = map (λ (e : Entry). e.path) entries

abbrev pub files_of : List (List ℕ) → List Entry → List File
files_of directories entries =
    map (λ (e : Entry).
    record { directory = directory_of directories e.directory; name = e.path }) entries
