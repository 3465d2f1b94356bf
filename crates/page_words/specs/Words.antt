-- The request of the words, computed word by word. `Grammar.antt` says what the words are.
use Rattle.std.specs.Prelude.{ℕ, Bool, true, false, not, ◌&&◌, ◌||◌, ◌==◌, nat_lt, List, [], ◌∷◌, take, drop, fold, codes, Option, Some, None, is_some, if◌then◌else◌}
use Rattle.std.specs.Option.{option_copied}
use Rattle.std.specs.Str.{bytes_eq}
use Rattle.std.specs.Str.Parse.{digits_value}
use Rattle.coz_types.specs.Labels.{Text, is_empty, is_decimal}
use Rattle.page_words.specs.declared.asked.Asked.{Asked}
use Rattle.page_words.specs.declared.asked.TheConstants.{MAX_TOP, USUAL_TOP}
use Rattle.page_words.specs.declared.scan.Next.{Next}
use Rattle.page_words.specs.declared.scan.Next.TheVariants.{Free, Top, File, Source, Title, Link}
use Rattle.page_words.specs.declared.scan.Scan.{Scan}

-- ---- what the words ask for

-- the path of the profile, how many lines a table shows, what the path of a line begins or ends
-- with, the folder of the source files, the title of the page, and the path of another page
pub record Request : Type 0 where
  pub profile : Text
  pub top : ℕ
  pub file : Option Text
  pub source : Option Text
  pub title : Option Text
  pub link : Option Text

abbrev pub asked_of : Asked → Request
asked_of asked = record {
  profile = asked.profile.now;
  top = asked.top;
  file = option_copied asked.file;
  source = option_copied asked.source;
  title = option_copied asked.title;
  link = option_copied asked.link;
}

-- ---- the scan of the words

-- the path and the values, what the next word is, and whether the path or an option came twice
pub record Given : Type 0 where
  pub profile : Option Text
  pub top : Option Text
  pub file : Option Text
  pub source : Option Text
  pub title : Option Text
  pub link : Option Text
  pub next : Next
  pub twice : Bool

abbrev pub scanned : Scan → Given
scanned scan = record {
  profile = option_copied scan.profile;
  top = option_copied scan.top;
  file = option_copied scan.file;
  source = option_copied scan.source;
  title = option_copied scan.title;
  link = option_copied scan.link;
  next = scan.next;
  twice = scan.twice;
}

abbrev pub no_words : Given
no_words = record {
  profile = None;
  top = None;
  file = None;
  source = None;
  title = None;
  link = None;
  next = Free;
  twice = false;
}

abbrev pub with_next : Next → Given → Given
with_next next g = record g { next = next }

abbrev pub with_profile : Text → Given → Given
with_profile path g = record g { profile = Some path; twice = g.twice || is_some g.profile }

abbrev pub with_top : Text → Given → Given
with_top value g = record g { top = Some value; next = Free; twice = g.twice || is_some g.top }

abbrev pub with_file : Text → Given → Given
with_file value g = record g { file = Some value; next = Free; twice = g.twice || is_some g.file }

abbrev pub with_source : Text → Given → Given
with_source value g =
    record g { source = Some value; next = Free; twice = g.twice || is_some g.source }

abbrev pub with_title : Text → Given → Given
with_title value g =
    record g { title = Some value; next = Free; twice = g.twice || is_some g.title }

abbrev pub with_link : Text → Given → Given
with_link value g =
    record g { link = Some value; next = Free; twice = g.twice || is_some g.link }

-- an option and its value in one word, or else the path
abbrev pub word_with_value : Given → Text → Given
word_with_value g word =
    if bytes_eq (take 6 word) (codes "--top=") then with_top (drop 6 word) g
    else if bytes_eq (take 7 word) (codes "--file=") then with_file (drop 7 word) g
    else if bytes_eq (take 9 word) (codes "--source=") then with_source (drop 9 word) g
    else if bytes_eq (take 8 word) (codes "--title=") then with_title (drop 8 word) g
    else if bytes_eq (take 7 word) (codes "--link=") then with_link (drop 7 word) g
    else with_profile word g

-- a word that is no value of its own
abbrev pub free_word : Given → Text → Given
free_word g word =
    if bytes_eq word (codes "--top") then with_next Top g
    else if bytes_eq word (codes "--file") then with_next File g
    else if bytes_eq word (codes "--source") then with_next Source g
    else if bytes_eq word (codes "--title") then with_next Title g
    else if bytes_eq word (codes "--link") then with_next Link g
    else word_with_value g word

abbrev pub word_at : Next → Given → Text → Given
word_at Free g word = free_word g word
word_at Top g word = with_top word g
word_at File g word = with_file word g
word_at Source g word = with_source word g
word_at Title g word = with_title word g
word_at Link g word = with_link word g

abbrev pub take_word : Given → Text → Given
take_word g word = word_at g.next g word

-- ---- the request

abbrev pub has_hyphen : Text → Bool
has_hyphen [] = false
has_hyphen (b ∷ rest) = b == 45

-- it has a byte, and no hyphen first
abbrev pub is_path : Text → Bool
is_path word = not (is_empty word) && not (has_hyphen word)

abbrev pub is_free : Next → Bool
is_free Free = true
is_free _ = false

abbrev pub none_or_some : Option Text → Bool
none_or_some None = true
none_or_some (Some value) = not (is_empty value)

abbrev pub have_bytes : Given → Bool
have_bytes g =
    none_or_some g.file && none_or_some g.source && none_or_some g.title && none_or_some g.link

-- each option came once, with a value that is not empty
abbrev pub is_right : Given → Bool
is_right g = not g.twice && is_free g.next && have_bytes g

-- a number of 1 to 1,000 in its one decimal spelling
abbrev pub number_in : Text → Option ℕ
number_in text =
    if is_decimal MAX_TOP text && nat_lt 0 (digits_value 10 text) then Some (digits_value 10 text)
    else None

-- how many lines a table shows: 20, or the value of `--top`
abbrev pub top_in : Option Text → Option ℕ
top_in None = Some USUAL_TOP
top_in (Some value) = number_in value

abbrev pub request_by : Given → Text → ℕ → Option Request
request_by g profile top =
    if is_right g && is_path profile then Some (record {
      profile = profile;
      top = top;
      file = g.file;
      source = g.source;
      title = g.title;
      link = g.link;
    }) else None

abbrev pub request_for : Given → Option Text → Option ℕ → Option Request
request_for g None top = None
request_for g (Some profile) None = None
request_for g (Some profile) (Some top) = request_by g profile top

abbrev pub request_of : Given → Option Request
request_of g = request_for g g.profile (top_in g.top)

-- the request of the words after the program's name
unfoldable pub request_in : List Text → Option Request
request_in words = request_of (fold take_word no_words words)
