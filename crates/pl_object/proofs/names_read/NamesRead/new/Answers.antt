use Rattle.pl_object.proofs.NamesReadLaws.{unread}
use Rattle.pl_object.proofs.names_read.NamesRead.new.Goals as goal

pub returns : goal.returns
returns c = unread c.new.result c.new.ensures.empty
