use Rattle.pl_object.specs.Names.{needed_name}
use Rattle.pl_object.proofs.NamesReadLaws.{more_read}
use Rattle.pl_object.proofs.names.read_name.Goals as goal

pub returns-clause-read : goal.returns-clause-read
unfolding needed_name
returns-clause-read c = more_read c.args.strings.now c.args.read.now c.keep.new.self c.args.tag.now.value c.in_ok-name.name c.requires c.in_ok-keep.ensures c.in_ok-name.ensures
