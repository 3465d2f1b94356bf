-- The profile that a text tells.
use Rattle.std.specs.Prelude.{[], length, Result, Ok, Err}
use Rattle.coz_types.specs.Labels.{Text}
use Rattle.profile_reader.specs.Items.{items_of}
use Rattle.profile_reader.specs.Reading.{profile_at}
use Rattle.profile_book.specs.declared.profile.Profile.{Profile}
use Rattle.profile_reader.specs.declared.fault.BookFault.{BookFault}

abbrev pub or_nothing : Result Profile BookFault → Profile
or_nothing (Ok p) = p
or_nothing (Err fault) = record { budget = 0; points = []; summaries = [] }

-- the profile of which the bytes are the text, read off their items; if they are no profile's
-- text, one of nothing
unfoldable pub parsed_profile : Text → Profile
parsed_profile bytes = or_nothing (profile_at (length bytes) (items_of bytes))
