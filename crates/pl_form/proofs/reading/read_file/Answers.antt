use Rattle.std.proofs.Common.{◌≡◌, Some, None, true, false, subst, arith, rules}
use Rattle.pl_form.specs.Marks.{has_mark, IsFormOf}
use Rattle.pl_form.specs.Reading.{marked_of, FormIfAny}
use Rattle.pl_form.proofs.FilesLaws.{bad_are_told, forms_are_told}
use Rattle.pl_form.proofs.PlannedLaws.{forms_bear}
use Rattle.pl_form.proofs.ReadFileLaws.{is_bad, is_plain, object_told, refused_told, refused_fault}
use Rattle.pl_form.proofs.reading.read_file.Goals as goal

pub returns-in-Some-clause-exact : goal.returns-in-Some-clause-exact
returns-in-Some-clause-exact c =
    let found : c.in_ok-marked.field-0 ≡ Some c.in-Some.marked = search rules in
    let form : IsFormOf c.args.bytes.now c.in-Some.marked = subst (FormIfAny c.args.bytes.now) found c.in_ok-marked.ensures.form in
    forms_are_told c.args.bytes.now c.in-Some.marked (λ i. omega (arith, c.type_inv.bytes i)) form

pub returns-in-Some-clause-segments : goal.returns-in-Some-clause-segments
returns-in-Some-clause-segments c =
    let found : c.in_ok-marked.field-0 ≡ Some c.in-Some.marked = search rules in
    let form : IsFormOf c.args.bytes.now c.in-Some.marked = subst (FormIfAny c.args.bytes.now) found c.in_ok-marked.ensures.form in
    forms_bear c.args.bytes.now c.in-Some.marked form

pub returns-then-branch-clause-refused : goal.returns-then-branch-clause-refused
returns-then-branch-clause-refused c =
    let none : None ≡ marked_of c.args.bytes.now = search rules in
    let mark : true ≡ has_mark c.args.bytes.now = search rules in
    is_bad c.args.bytes.now none mark

pub returns-then-branch-clause-exact : goal.returns-then-branch-clause-exact
returns-then-branch-clause-exact c =
    let none : None ≡ marked_of c.args.bytes.now = search rules in
    let mark : true ≡ has_mark c.args.bytes.now = search rules in
    bad_are_told c.args.bytes.now (is_bad c.args.bytes.now none mark)

pub returns-in-Ok-clause-is : goal.returns-in-Ok-clause-is
returns-in-Ok-clause-is c =
    let none : None ≡ marked_of c.args.bytes.now = search rules in
    let mark : false ≡ has_mark c.args.bytes.now = search rules in
    (is_plain c.args.bytes.now none mark, c.in-Ok.ensures.exact)

pub returns-in-Ok-clause-exact : goal.returns-in-Ok-clause-exact
returns-in-Ok-clause-exact c =
    let none : None ≡ marked_of c.args.bytes.now = search rules in
    let mark : false ≡ has_mark c.args.bytes.now = search rules in
    object_told c.args.bytes.now c.in-Ok.object none mark c.in-Ok.ensures.exact

pub returns-in-Err-clause-refused : goal.returns-in-Err-clause-refused
returns-in-Err-clause-refused c =
    let none : None ≡ marked_of c.args.bytes.now = search rules in
    let mark : false ≡ has_mark c.args.bytes.now = search rules in
    refused_fault c.args.bytes.now c.in-Err.refusal none mark c.in-Err.ensures.exact

pub returns-in-Err-clause-exact : goal.returns-in-Err-clause-exact
returns-in-Err-clause-exact c =
    let none : None ≡ marked_of c.args.bytes.now = search rules in
    let mark : false ≡ has_mark c.args.bytes.now = search rules in
    refused_told c.args.bytes.now c.in-Err.refusal none mark c.in-Err.ensures.exact
