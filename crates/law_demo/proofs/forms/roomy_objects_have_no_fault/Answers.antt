use Rattle.law_demo.proofs.FormLaws.{roomy_objects}
use Rattle.law_demo.proofs.forms.roomy_objects_have_no_fault.Goals as goal

pub returns : goal.returns
returns c = roomy_objects
