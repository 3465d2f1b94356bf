use Rattle.profile_reader.proofs.Only.{text_of_no_fault, no_fault_of_text}
use Rattle.profile_reader.proofs.reader.texts_have_no_fault.Goals as goal

pub returns : goal.returns
returns c = λ bytes. (text_of_no_fault bytes, λ t. no_fault_of_text bytes t.0 t.1)
