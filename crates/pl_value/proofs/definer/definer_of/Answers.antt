use Rattle.std.proofs.Common.{◌≡◌, Some, length, refl, sym, ◌∙◌, arith}
use Rattle.std.specs.Prelude.{slice_get}
use Rattle.std.proofs.lemmas.Option.{slice_get_read}
use Rattle.pl_scope.specs.Scope.{objects}
use Rattle.pl_scope.specs.Finds.{finds}
use Rattle.pl_scope.proofs.MemberLaws.{length_objects}
use Rattle.pl_scope.proofs.FoundLaws.{finds_symbol}
use Rattle.pl_value.specs.Definers.{definer}
use Rattle.pl_value.proofs.definer.definer_of.Goals as goal

pub object-object-requires : goal.object-object-requires
object-object-requires c =
    let os = objects c.args.scope.now in
    let found : finds os c.args.reference ≡ Some c.in-Some.found = sym c.requires ∙ c.in-Some.is in
    omega (arith, (finds_symbol os c.args.reference c.in-Some.found found).member, length_objects c.args.scope.now)

pub bounds-as_slice-found : goal.bounds-as_slice-found
bounds-as_slice-found c =
    let os = objects c.args.scope.now in
    let found : finds os c.args.reference ≡ Some c.in-Some.found = sym c.requires ∙ c.in-Some.is in
    rw c.as_slice.ensures ((finds_symbol os c.args.reference c.in-Some.found found).symbol c.object-object.result.now c.object-object.ensures.object)

pub returns-clause-exact : goal.returns-clause-exact
unfolding definer
returns-clause-exact c =
    let os = objects c.args.scope.now in
    let found : finds os c.args.reference ≡ Some c.in-Some.found = sym c.requires ∙ c.in-Some.is in
    let object = c.object-object.result.now in
    let within = (finds_symbol os c.args.reference c.in-Some.found found).symbol object c.object-object.ensures.object in
    let symbol : slice_get object.symbols c.in-Some.found.symbol ≡ Some c.index-as_slice-found.result =
    slice_get_read object.symbols (length object.symbols) c.in-Some.found.symbol c.index-as_slice-found.result refl within (rw c.as_slice.ensures at c.index-as_slice-found.is) in
    rw (found, c.object-object.ensures.object, symbol) refl

pub returns-clause-within : goal.returns-clause-within
returns-clause-within c =
    let os = objects c.args.scope.now in
    let found : finds os c.args.reference ≡ Some c.in-Some.found = sym c.requires ∙ c.in-Some.is in
    omega (arith, (finds_symbol os c.args.reference c.in-Some.found found).member, length_objects c.args.scope.now)
