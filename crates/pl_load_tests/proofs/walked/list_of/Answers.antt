use Rattle.std.proofs.Common.{◌≡◌, ◌+◌, ◌∙◌, arith, ap, length, length-append}
use Rattle.pl_lists.specs.Lists.{list_strings}
use Rattle.pl_load_tests.proofs.walked.list_of.Goals as goal

pub returns : goal.returns
returns c =
    let found = c.in_ok-read_list.ensures.found in
    let size : length c.deref-2.result.now ≡ length found.before + length (list_strings c.in_ok-read_list.field-0) = ap length found.in_strings ∙ length-append found.before (list_strings c.in_ok-read_list.field-0) in
    record { spelled = found.is_spelled; names = omega (arith, size, ap length c.deref-2.ensures.value) }
