use Rattle.profile_reader.proofs.fault_line.put_book_fault.Goals as goal

pub returns : goal.returns
returns g c = rw c.name.ensures at c.put_kind_at.ensures
