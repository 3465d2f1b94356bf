-- The image that a written file loads as.
use Rattle.std.specs.Prelude.{ℕ, ◌+◌, true, false, List, [], ◌∷◌, length, if◌then◌else◌}
use Rattle.coz_types.specs.declared.TheConstants.{PAGE}
use Rattle.coz_types.specs.declared.image.Area.{Area}
use Rattle.coz_types.specs.Image.{ImageParts}
use Rattle.asm_values.specs.declared.TheConstants.{TEXT_START}
use Rattle.asm_values.specs.Addresses.{up_to_multiple}
use Rattle.rv_asm.specs.Assembled.{Program}
use Rattle.image_write.specs.File.{has_content, whole_pages, segment_count}

-- the text is read and executed
abbrev pub text_area : Program → Area
text_area p = record {
  start = TEXT_START;
  size = whole_pages p;
  rights = record { read = true; write = false; execute = true };
  vaddr = TEXT_START;
  offset = PAGE;
  filled = length p.text;
}

-- the data is read and written, on the pages after it
abbrev pub data_area : Program → Area
data_area p = record {
  start = TEXT_START + whole_pages p;
  size = up_to_multiple PAGE (length p.content);
  rights = record { read = true; write = true; execute = false };
  vaddr = TEXT_START + whole_pages p;
  offset = PAGE + whole_pages p;
  filled = length p.content;
}

-- Of the program headers, which stand before the text, none is loaded.
unfoldable pub image_of : Program → List ℕ → ImageParts
image_of p file = record {
  file = file;
  areas = text_area p ∷ (if has_content p then data_area p ∷ [] else []);
  entry = p.entry;
  headers = 0;
  header_count = segment_count p;
}
