use Rattle.law_demo.proofs.RoleLaws.{roles_stand}
use Rattle.law_demo.proofs.files.roles_stand.Goals as goal

pub returns : goal.returns
returns c = roles_stand
