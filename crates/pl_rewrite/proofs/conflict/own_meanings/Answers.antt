use Rattle.std.proofs.Common.{◌≡◌, ◌<◌, List, Result, Ok, Err, Some, ap, subst, sym, ◌∙◌, length, arith, Option}
use Rattle.std.specs.Prelude.{slice_get}
use Rattle.std.specs.List.{All, AllZip}
use Rattle.std.proofs.lemmas.Result.{err_from_is_err_and}
use Rattle.std.proofs.lemmas.Slice.Zip.{AllZip-long}
use Rattle.pl_base.specs.Answers.{because}
use Rattle.pl_base.proofs.EachLaws.{front_nothing}
use Rattle.pl_conflict.proofs.OwnLaws.{sought_at}
use Rattle.pl_cone.specs.Links.{objects_of}
use Rattle.pl_scope.specs.Scope.{IsSymbol, objects}
use Rattle.pl_value.specs.Meanings.{meaning}
use Rattle.pl_value.specs.declared.fault.OrdinaryFault.TheVariants.{Link}
use Rattle.pl_value.proofs.CollectingLaws.{reloc_more, reloc_stops, relocs_done}
use Rattle.pl_value.proofs.LinkableLaws.{all_symbols}
use Rattle.pl_cone.specs.declared.scopes.WalkLinking.{WalkLinking}
use Rattle.pl_object.specs.declared.object.Object.{Object}
use Rattle.pl_value.specs.declared.fault.OrdinaryFault.{OrdinaryFault}
use Rattle.pl_value.specs.declared.meaning.Meaning.{Meaning}
use Rattle.pl_rewrite.specs.RemainingRows.{FindFirst, GivesFirst, GivesOf, given_in}
use Rattle.pl_object.specs.declared.reloc.Reloc.{Reloc}
use Rattle.pl_scope.specs.declared.found.Found.{Found}
use Rattle.pl_value.specs.Definers.{IsSought}
use Rattle.pl_value.specs.Values.{reference, relocations_in}
use Rattle.pl_rewrite.proofs.conflict.own_meanings.Goals as goal

-- what the program's relocations find
finds : (l : WalkLinking) (o : Object) (rs : List Reloc) (found : List (Option Found)) → slice_get (objects_of l) 0 ≡ Some o → rs ≡ o.relocations → FindFirst l found → AllZip (λ (r : Reloc) (x : Option Found). IsSought (objects_of l) (reference 0 r) x) rs found
finds l o rs found at is told = subst (λ (xs : List Reloc). AllZip (λ (r : Reloc) (x : Option Found). IsSought (objects_of l) (reference 0 r) x) xs found) (ap relocations_in at ∙ sym is) told

gives : (l : WalkLinking) (o : Object) (rs : List Reloc) (r : Result (List Meaning) OrdinaryFault) → slice_get (objects_of l) 0 ≡ Some o → rs ≡ o.relocations → GivesOf l rs r → GivesFirst l r
gives l o rs r at is told = subst (λ (xs : List Reloc). GivesOf l xs r) (is ∙ sym (ap relocations_in at)) told

pub loop-index-init : goal.loop-index-init
loop-index-init c = rw (c.from_vec-all.ensures ∙ c.in_ok-with_capacity.ensures.items) (front_nothing (given_in c.args.linking.now 0 c.as_slice-relocs.result.now))

pub meaning_with-requires-clause-reference : goal.meaning_with-requires-clause-reference
meaning_with-requires-clause-reference c =
    let lt : c.loop-index.index < length c.as_slice-relocs.result.now = omega arith in
    let all : All (λ (r : Reloc). IsSymbol (objects_of c.args.linking.now) 0 r.symbol) c.as_slice-relocs.result.now =
    rw c.as_slice-relocs.ensures (all_symbols (objects c.args.linking.now.scope.now) 0 c.object.result.now c.object.ensures.fit c.object.ensures.object) in
    all c.loop-index.index _ lt

pub meaning_with-requires-clause-found : goal.meaning_with-requires-clause-found
meaning_with-requires-clause-found c =
    let lt : c.loop-index.index < length c.as_slice-relocs.result.now = omega arith in
    let told = finds c.args.linking.now c.object.result.now c.as_slice-relocs.result.now c.args.found.now c.object.ensures.object c.as_slice-relocs.ensures c.requires.found in
    sought_at (objects_of c.args.linking.now) c.as_slice-relocs.result.now c.args.found.now c.loop-index.index _ _ told lt

pub bounds-found-index : goal.bounds-found-index
bounds-found-index c =
    let told = finds c.args.linking.now c.object.result.now c.as_slice-relocs.result.now c.args.found.now c.object.ensures.object c.as_slice-relocs.ensures c.requires.found in
    omega (arith, AllZip-long (λ (r : Reloc) (x : Option Found). IsSought (objects_of c.args.linking.now) (reference 0 r) x) c.as_slice-relocs.result.now c.args.found.now told)

pub returns-in_err-meaning_with : goal.returns-in_err-meaning_with
returns-in_err-meaning_with c =
    let l = c.args.linking.now in
    let rs = c.as_slice-relocs.result.now in
    let p = err_from_is_err_and c.from_residual-in_err-meaning_with.result c.from_residual-in_err-meaning_with.ensures.1 in
    rw p.1 (gives l c.object.result.now rs (Err p.0) c.object.ensures.object c.as_slice-relocs.ensures
    (rw p.2 (ap (because Link) (reloc_stops (meaning (objects_of l) l.places.now l.modules.now) 0 rs c.loop-index.index _ c.loop-index.all _ _ (omega arith) c.in_err-meaning_with.ensures c.loop-index.invariant))))

pub loop-index-preserved : goal.loop-index-preserved
loop-index-preserved c =
    reloc_more (meaning (objects_of c.args.linking.now) c.args.linking.now.places.now c.args.linking.now.modules.now) 0 c.as_slice-relocs.result.now c.loop-index.index _ c.loop-index.all _ _ _ (omega arith) c.in_ok-meaning_with.ensures c.in_ok-push.ensures.ok c.loop-index.invariant

pub returns : goal.returns
returns c =
    let l = c.args.linking.now in
    let rs = c.as_slice-relocs.result.now in
    let told : GivesOf l rs (Ok c.loop-index.all) = ap (because Link) (relocs_done (meaning (objects_of l) l.places.now l.modules.now) 0 rs c.loop-index.index c.loop-index.all _ (omega arith) c.loop-index.invariant) in
    gives l c.object.result.now rs (Ok c.loop-index.all) c.object.ensures.object c.as_slice-relocs.ensures told
