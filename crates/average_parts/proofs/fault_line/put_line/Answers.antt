use Rattle.average_parts.proofs.fault_line.put_line.Goals as goal

pub returns-in-Profile : goal.returns-in-Profile
returns-in-Profile g c = rw c.in-Profile.is c.put_profile.ensures

pub returns-in-Unlike : goal.returns-in-Unlike
returns-in-Unlike g c = rw c.in-Unlike.is c.put_unlike.ensures
