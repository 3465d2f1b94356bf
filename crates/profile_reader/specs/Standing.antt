-- Where a reader stands, as the items ahead.
use Rattle.profile_reader.specs.Items.{items_of}
use Rattle.profile_reader.specs.Reading.{Ahead}
use Rattle.profile_reader.specs.declared.cursor.Cursor.{Cursor}

abbrev pub ahead : Cursor → Ahead
ahead c = record { items = items_of c.rest.now; place = c.place }
