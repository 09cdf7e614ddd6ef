use Rattle.std.proofs.Common.{subst, ap, ◌∙◌}
use Rattle.pl_base.specs.Bytes.{IsBytes}
use Rattle.pl_cone.specs.Taken.{entry_in}
use Rattle.pl_cone.proofs.TakenLaws.{taken_made, taken_is}
use Rattle.pl_cone.proofs.taken.take_file.Goals as goal

pub returns-clause-value : goal.returns-clause-value
returns-clause-value c =
    taken_made c.args.region c.args.name c.args.bytes.items c.from_vec.result c.in_ok-entry.entry c.fault_of_entry-fault.result
    c.from_vec.ensures (c.in_ok-entry.ensures.value ∙ ap entry_in c.deref.ensures.value) c.fault_of_entry-fault.ensures

pub returns-clause-is : goal.returns-clause-is
returns-clause-is c =
    taken_is c.args.region c.args.name c.args.bytes.items c.from_vec.result c.in_ok-entry.entry c.fault_of_entry-fault.result
    c.from_vec.ensures (c.in_ok-entry.ensures.value ∙ ap entry_in c.deref.ensures.value) c.fault_of_entry-fault.ensures (subst IsBytes c.deref.ensures.value c.entry_of.ensures.bytes) c.requires
