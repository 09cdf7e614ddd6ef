use Rattle.std.proofs.Common.{◌∙◌}
use Rattle.pl_change.proofs.RoomLemmas.{has_name_map}
use Rattle.pl_change.proofs.room.has_name.Goals as goal

pub returns : goal.returns
returns c = c.has_file.ensures ∙ has_name_map c.args.name.now c.args.names.now
