-- Which faults a request may have.
use Rattle.std.specs.Prelude.{◌≡◌, ◌⊎◌, ℕ, List, Option, None, Some}
use Rattle.file_read.specs.declared.fault.FileFault.TheVariants.{Usage, Read, Write, Long, Memory}
use Rattle.program_load.specs.declared.fault.Fault.{Fault}
use Rattle.program_load.specs.declared.fault.Fault.TheVariants.{File}
use Rattle.coz_words.specs.declared.request.Request.{Request}

-- the path is one of those that a request names: its target's, or its input's
abbrev pub Names : Option Request → List ℕ → Type 0
Names None path = ⊥
Names (Some asked) path = (path ≡ asked.target) ⊎ (asked.input ≡ Some path)

-- before anything is printed: no fault of the words or the output, and of files the named ones
abbrev pub IsOfRequest : Request → Fault → Type 0
IsOfRequest asked (File Usage) = ⊥
IsOfRequest asked (File (Read path)) = Names (Some asked) path.now
IsOfRequest asked (File (Long path)) = Names (Some asked) path.now
IsOfRequest asked (File Write) = ⊥
IsOfRequest asked _ = Unit {0}

-- as its files are read
abbrev pub IsOfFiles : Request → Fault → Type 0
IsOfFiles asked (File (Read path)) = Names (Some asked) path.now
IsOfFiles asked (File (Long path)) = Names (Some asked) path.now
IsOfFiles asked (File Memory) = Unit {0}
IsOfFiles asked _ = ⊥
