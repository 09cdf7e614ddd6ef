use Rattle.std.proofs.Common.{◌≡◌, Some, refl, subst, rules}
use Rattle.pl_form.specs.Reading.{firm_object, AreContentsOf, ContentsIfAny}
use Rattle.pl_form.proofs.MarkedLaws.{own_here, steps, no_lists}
use Rattle.pl_form.proofs.read.parts_in.Goals as goal

pub contents_in-requires-clause-own : goal.contents_in-requires-clause-own
contents_in-requires-clause-own c =
    let o = c.args.original.now in
    let x = c.in-Some.object in
    let found : c.in_ok-object.field-0 ≡ Some x = search rules in
    own_here o o c.in_ok-object.field-0 x c.in_ok-object.ensures.own found refl

pub returns-in-Ok-None : goal.returns-in-Ok-None
returns-in-Ok-None c =
    let o = c.args.original.now in
    let x = c.in-Some.object in
    let file = c.args.file.now in
    let u = c.args.undo.now in
    let firm : Some x ≡ firm_object o = search rules in
    no_lists file o u x firm (subst (ContentsIfAny file u o x) c.in-Ok-None.field-0-is c.in-Ok-None.ensures)

pub returns-in-Ok-Some : goal.returns-in-Ok-Some
returns-in-Ok-Some c =
    let o = c.args.original.now in
    let x = c.in-Some.object in
    let p = c.in-Ok-Some.contents in
    let file = c.args.file.now in
    let u = c.args.undo.now in
    let found : c.in_ok-object.field-0 ≡ Some x = search rules in
    let firm : Some x ≡ firm_object o = search rules in
    let are : AreContentsOf file u o x p = subst (ContentsIfAny file u o x) c.in-Ok-Some.field-0-is c.in-Ok-Some.ensures in
    record {
      own = own_here o o c.in_ok-object.field-0 x c.in_ok-object.ensures.own found refl;
      contents = are;
      by = steps file o u x p.lists firm are.found;
    }
