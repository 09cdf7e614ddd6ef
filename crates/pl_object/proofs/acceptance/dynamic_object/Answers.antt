use Rattle.pl_object.proofs.ReadLaws.{dynamic_object_is}
use Rattle.pl_object.proofs.acceptance.dynamic_object.Goals as goal

pub returns : goal.returns
returns c =
    let tables = rw (c.as_slice.ensures, c.as_slice-2.ensures, c.as_slice-3.ensures) at c.in_ok-check_tables.ensures in
    rw (dynamic_object_is c.args.bytes.now c.args.headers c.args.dynamic.now c.in_ok-check_tables.field-0 c.in_ok-contents.contents.linking c.in_ok-contents.contents.layout tables c.in_ok-contents.ensures.linking c.in_ok-contents.ensures.layout) c.checked.ensures
