use Rattle.std.proofs.Common.{refl, arith}
use Rattle.pl_pie.proofs.ReadAtLaws.{file_small, object_read, windows_low}
use Rattle.pl_pie.proofs.objects.move_in_file.Goals as goal

pub move_object-requires : goal.move_object-requires
move_object-requires c = omega (arith, c.requires.may.ends)

pub tables_in-requires-clause-few : goal.tables_in-requires-clause-few
tables_in-requires-clause-few c = file_small c.args.object.now c.args.address c.args.file.now c.requires

pub tables_in-requires-clause-low : goal.tables_in-requires-clause-low
tables_in-requires-clause-low c = windows_low c.args.object.now c.args.address c.args.file.now c.requires c.move_object.new.object c.in_ok-move_object.ensures

pub returns : goal.returns
returns c = object_read c.args.object.now c.args.address c.args.file.now c.requires c.move_object.new.object _ c.in_ok-tables.tables c.in_ok-move_object.ensures c.in_ok-tables.ensures refl
