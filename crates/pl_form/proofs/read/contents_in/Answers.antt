use Rattle.std.proofs.Common.{◌≡◌, Some, rules}
use Rattle.pl_elf.specs.Kinds.{is_library}
use Rattle.pl_form.specs.Reading.{lists_in}
use Rattle.pl_form.proofs.MarkedLaws.{spelled_here}
use Rattle.pl_form.proofs.read.contents_in.Goals as goal

pub returns : goal.returns
returns c =
    let x = c.args.object.now in
    let l = c.in-Some.lists in
    let file = c.args.file.now in
    let listed : c.in_ok-lists.field-0 ≡ Some l = search rules in
    let found : Some l ≡ lists_in (is_library x.kind) file = search rules in
    record {
      lists = spelled_here (is_library x.kind) file c.in_ok-lists.field-0 l c.in_ok-lists.ensures.spelled listed;
      layout = c.in_ok-standing.ensures.layout;
      stamp = c.in_ok-standing.ensures.stamp;
      flat = c.in_ok-standing.ensures.flat;
      found = found;
    }
