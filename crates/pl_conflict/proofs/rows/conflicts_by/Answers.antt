use Rattle.std.proofs.Common.{ap, sym, ◌∙◌}
use Rattle.pl_base.specs.Answers.{because}
use Rattle.pl_base.proofs.AnswerLaws.{because_ok}
use Rattle.pl_scope.specs.Scope.{objects}
use Rattle.pl_scope.proofs.MemberLaws.{length_objects}
use Rattle.pl_value.specs.declared.fault.OrdinaryFault.TheVariants.{Link}
use Rattle.pl_conflict.specs.Conflicts as spec
use Rattle.pl_conflict.proofs.ConflictLaws.{loaded_within, conflicts_ok}
use Rattle.pl_conflict.proofs.rows.conflicts_by.Goals as goal

pub load-requires-clause-one_each : goal.load-requires-clause-one_each
load-requires-clause-one_each c = c.requires.compared.one_each ∙ length_objects c.args.scope.now

pub load-requires-clause-parts : goal.load-requires-clause-parts
load-requires-clause-parts c = c.requires.compared.each_part ∙ length_objects c.args.scope.now

pub load-requires-clause-placed : goal.load-requires-clause-placed
load-requires-clause-placed c = c.requires.compared.placed

pub rows_of-requires-clause-members : goal.rows_of-requires-clause-members
rows_of-requires-clause-members c =
    rw (c.deref.ensures.value, c.in_ok-files.ensures.value) (loaded_within (objects c.args.scope.now) c.args.parts.now c.args.places.now c.args.meanings.now c.requires.given.within)

pub returns-clause-exact : goal.returns-clause-exact
returns-clause-exact c = λ tls all is same.
    let found = rw (c.deref.ensures.value, c.in_ok-files.ensures.value) at c.in_ok-rows.ensures in
    let both = conflicts_ok (objects c.args.scope.now) c.args.parts.now c.args.places.now tls all c.in_ok-rows.rows.items c.sort_rows.new.rows.items c.requires.compared.accepted c.requires.compared.placed (ap (because Link) is) (found ∙ sym same) c.sort_rows.ensures.rows c.sort_rows.ensures.sorted in
    rw c.from_vec.ensures (because_ok Link (spec.conflicts (objects c.args.scope.now) c.args.parts.now c.args.places.now tls) c.sort_rows.new.rows.items both.0)

pub returns-clause-ascending : goal.returns-clause-ascending
returns-clause-ascending c =
    let given = c.requires.given in
    let found = rw (c.deref.ensures.value, c.in_ok-files.ensures.value) at c.in_ok-rows.ensures in
    let both = conflicts_ok (objects c.args.scope.now) c.args.parts.now c.args.places.now given.tls given.all c.in_ok-rows.rows.items c.sort_rows.new.rows.items c.requires.compared.accepted c.requires.compared.placed (ap (because Link) given.given) (found ∙ sym given.rows) c.sort_rows.ensures.rows c.sort_rows.ensures.sorted in
    rw c.from_vec.ensures both.1
