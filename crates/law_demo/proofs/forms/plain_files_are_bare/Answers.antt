use Rattle.law_demo.proofs.BareLaws.{plain_bare}
use Rattle.law_demo.proofs.BytesLaws.{plain_bytes}
use Rattle.law_demo.proofs.forms.plain_files_are_bare.Goals as goal

pub returns-clause-bytes : goal.returns-clause-bytes
returns-clause-bytes c = plain_bytes

pub returns-clause-bare : goal.returns-clause-bare
returns-clause-bare c = plain_bare
