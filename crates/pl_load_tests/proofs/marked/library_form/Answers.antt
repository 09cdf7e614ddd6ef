use Rattle.std.proofs.Common.{refl, arith}
use Rattle.pl_lists.specs.Lists.{are_distinct, list_strings}
use Rattle.pl_load_tests.proofs.marked.library_form.Goals as goal

pub form_library-requires-clause-list : goal.form_library-requires-clause-list
unfolding are_distinct list_strings
form_library-requires-clause-list c = record { spelled = refl; names = omega arith }
