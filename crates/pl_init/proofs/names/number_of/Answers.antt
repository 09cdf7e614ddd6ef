use Rattle.std.proofs.Common.{◌∙◌}
use Rattle.std.specs.Prelude.{string_bytes}
use Rattle.std.specs.Str.{bytes_eq}
use Rattle.pl_init.proofs.NameLaws.{position_map}
use Rattle.pl_init.proofs.names.number_of.Goals as goal

pub returns-clause-value : goal.returns-clause-value
returns-clause-value c = c.get_index_of.ensures.index ∙ position_map string_bytes (bytes_eq c.args.name.now) c.args.names.now.keys
