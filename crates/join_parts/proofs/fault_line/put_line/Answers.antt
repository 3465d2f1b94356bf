use Rattle.join_parts.proofs.fault_line.put_line.Goals as goal

pub returns-in-Profile : goal.returns-in-Profile
returns-in-Profile g c = rw c.in-Profile.is c.put_profile.ensures

pub returns-in-Parts : goal.returns-in-Parts
returns-in-Parts g c = rw c.in-Parts.is c.put_parts.ensures
