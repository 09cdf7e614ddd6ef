use Rattle.std.proofs.Common.{List, Option, map, sym, ap, subst, ◌∙◌}
use Rattle.std.specs.List.{All, AllZip}
use Rattle.std.proofs.lemmas.List.{take_all}
use Rattle.pl_object.specs.declared.reloc.Reloc.{Reloc}
use Rattle.pl_scope.specs.Scope.{IsSymbol}
use Rattle.pl_scope.specs.declared.found.Found.{Found}
use Rattle.pl_value.specs.Definers.{IsSought}
use Rattle.pl_value.specs.Meanings.{row}
use Rattle.pl_value.specs.Values.{reference, relocations_in}
use Rattle.pl_value.proofs.LinkableLaws.{all_symbols}
use Rattle.pl_cone.specs.Links.{meaning_in, objects_of, rows_have_in}
use Rattle.pl_cone.proofs.ProgramLinkLaws.{own_stops}
use Rattle.pl_cone.proofs.StepLaws.{zip_more}
use Rattle.pl_cone.proofs.ValueLaws.{row_linked, row_stops, all_rows}
use Rattle.pl_cone.proofs.scopes.WalkLinking.first_found.Goals as goal

pub valued-requires-clause-reference : goal.valued-requires-clause-reference
valued-requires-clause-reference c =
    let all = subst (λ (rs : List Reloc). All (λ r. IsSymbol (objects_of c.args.self.now) 0 r.symbol) rs) (sym c.as_slice-relocs.ensures) (all_symbols (objects_of c.args.self.now) 0 c.object.result.now c.object.ensures.fit c.object.ensures.object) in
    all c.loop-reloc.reloc-index _ c.loop-reloc-test.true

pub returns-in-Err : goal.returns-in-Err
returns-in-Err c =
    let same = ap relocations_in c.object.ensures.object ∙ sym c.as_slice-relocs.ensures in
    own_stops c.args.self.now c.in-Err.fault _
    (ap (λ (rs : List Reloc). rows_have_in c.args.self.now (map (row 0) rs)) same
    ∙ row_stops (meaning_in c.args.self.now) 0 c.as_slice-relocs.result.now c.loop-reloc.reloc-index _ _ _ c.loop-reloc-test.true (sym c.in-Err.ensures.value) c.loop-reloc.invariant.values)
    c.in_ok-refused-in-Err.ensures

pub loop-reloc-preserved : goal.loop-reloc-preserved
loop-reloc-preserved c = record {
  found = zip_more (λ r f. IsSought (objects_of c.args.self.now) (reference 0 r) f) c.as_slice-relocs.result.now c.loop-reloc.reloc-index _ c.loop-reloc.all _ _ c.loop-reloc-test.true c.loop-reloc.invariant.found c.in-Ok.ensures.found c.in_ok-push-in-Ok.ensures.ok;
  values = row_linked (meaning_in c.args.self.now) 0 c.as_slice-relocs.result.now c.loop-reloc.reloc-index _ _ c.loop-reloc-test.true (sym c.in-Ok.ensures.value) c.loop-reloc.invariant.values;
}

pub returns : goal.returns
returns c =
    let same = ap relocations_in c.object.ensures.object ∙ sym c.as_slice-relocs.ensures in
    let r = λ (q : Reloc) (f : Option Found). IsSought (objects_of c.args.self.now) (reference 0 q) f in (
      subst (λ (rs : List Reloc). AllZip r rs c.loop-reloc.all) (take_all c.loop-reloc.reloc-index c.as_slice-relocs.result.now c.loop-reloc-test.false ∙ sym same) c.loop-reloc.invariant.found,
      ap (λ (rs : List Reloc). rows_have_in c.args.self.now (map (row 0) rs)) same ∙ all_rows (meaning_in c.args.self.now) 0 c.as_slice-relocs.result.now c.loop-reloc.reloc-index _ c.loop-reloc-test.false c.loop-reloc.invariant.values,
    )
