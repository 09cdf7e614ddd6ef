use Rattle.std.proofs.Common.{◌≡◌, length, Some, rules}
use Rattle.pl_form.proofs.MarkedLaws.{library_spelled}
use Rattle.pl_form.proofs.read.library_lists.Goals as goal

pub returns-clause-spelled : goal.returns-clause-spelled
returns-clause-spelled c =
    let is : c.in_ok-list.field-0 ≡ Some c.in-Some.list = search rules in
    library_spelled c.args.file.now (length c.section_from_end-2.result.now) c.in_ok-list.field-0 c.in-Some.list c.new.result c.in_ok-list.ensures.spelled is c.section_from_end-2.ensures.within c.new.ensures
