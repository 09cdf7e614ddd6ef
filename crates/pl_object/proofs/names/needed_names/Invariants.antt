use Rattle.std.proofs.Common.{◌≡◌, drop}
use Rattle.std.specs.Prelude.{filter}
use Rattle.pl_base.specs.Each.{each, with_front}
use Rattle.pl_dyn.specs.Read.{has_number}
use Rattle.pl_dyn.specs.declared.constants.TheConstants.{DT_NEEDED}
use Rattle.pl_object.specs.Names.{needed_name}
use Rattle.pl_object.specs.NamesRead.{AreRead}
use Rattle.pl_object.proofs.names.needed_names.Given as goal

abbrev pub invariant-loop-tag : goal.invariant-loop-tag
invariant-loop-tag l = record {
  rest : with_front l.names (each (needed_name l.strings) (filter (has_number DT_NEEDED) (drop l.tag-index l.tags))) ≡ each (needed_name l.strings) (filter (has_number DT_NEEDED) l.tags);
  read : AreRead l.strings l.read;
}
