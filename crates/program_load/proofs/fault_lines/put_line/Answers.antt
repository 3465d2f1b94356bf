use Rattle.program_load.proofs.fault_lines.put_line.Goals as goal

pub returns-in-Program : goal.returns-in-Program
returns-in-Program g c = rw c.in-Program.is (rw c.elf_kind_name.ensures at c.put_kind_at.ensures)

pub returns-in-Lines : goal.returns-in-Lines
returns-in-Lines g c = rw c.in-Lines.is (rw c.line_kind_name.ensures at c.put_kind_at-in-Lines.ensures)

pub returns-in-Profile : goal.returns-in-Profile
returns-in-Profile g c = rw c.in-Profile.is c.put_book_fault.ensures

pub returns-in-NoLine : goal.returns-in-NoLine
returns-in-NoLine g c = rw c.in-NoLine.is c.put_two.ensures

pub returns-in-ManyPoints : goal.returns-in-ManyPoints
returns-in-ManyPoints g c = rw c.in-ManyPoints.is c.put_count.ensures

pub returns-in-ManyExperiments : goal.returns-in-ManyExperiments
returns-in-ManyExperiments g c = rw c.in-ManyExperiments.is c.put_count-in-ManyExperiments.ensures

pub returns-in-Source : goal.returns-in-Source
returns-in-Source g c = rw c.in-Source.is c.put_source.ensures
