use Rattle.std.proofs.Common.{◌≡◌, ◌≤◌, ℕ, false, List, Result, Ok, None, length, get_or, refl, sym, ap, ◌∙◌, arith, inl, inr}
use Rattle.std.specs.Prelude.{slice_get}
use Rattle.std.proofs.lemmas.List.{get_or_default}
use Rattle.std.proofs.lemmas.Option.{slice_get_cases, slice_get_read}
use Rattle.std.proofs.lemmas.Result.{err_from_is_err_and}
use Rattle.pl_base.proofs.RunLaws.{run_more, run_fails, run_done}
use Rattle.pl_object.specs.declared.reloc.Reloc.{Reloc}
use Rattle.pl_value.specs.declared.fault.LinkFault.{LinkFault}
use Rattle.pl_scope.specs.Scope.{IsSymbol}
use Rattle.pl_scope.proofs.MemberLaws.{all_at}
use Rattle.pl_cone.specs.Links.{meaning_in, objects_of, reloc_has_in, value_at}
use Rattle.pl_cone.specs.declared.scopes.WalkLinking.{WalkLinking}
use Rattle.pl_cone.proofs.RemainingLaws.{numbers_decide}
use Rattle.pl_cone.proofs.scopes.WalkLinking.member_has_values.Goals.{in-Some+in_ok-valued, in_default}
use Rattle.pl_cone.proofs.scopes.WalkLinking.member_has_values.Goals as goal

abbrev step : WalkLinking → ℕ → List Reloc → Unit {0} → ℕ → Result (Unit {0}) LinkFault
step linking member relocs u i = value_at linking member relocs i

past : (rs : List Reloc) (i : ℕ) → length rs ≤ i → slice_get rs i ≡ None
past rs i le = elim (slice_get_cases rs i).1 [
  | inl p ↦ absurd (omega (arith, le, p.1))
  | inr none ↦ none.1
]

pub valued-requires-clause-reference : goal.valued-requires-clause-reference
valued-requires-clause-reference c =
    let at = slice_get_read c.args.relocs.now (length c.args.relocs.now) _ c.in-Some.reloc.now refl c.in-Some.ensures.lookup.3.0 c.in-Some.ensures.lookup.1 in
    all_at (λ (r : Reloc). IsSymbol (objects_of c.args.self.now) c.args.member r.symbol) c.args.relocs.now _ c.in-Some.reloc.now c.requires.references at

pub loop-index-preserved : goal.loop-index-preserved
loop-index-preserved c =
    let rs = c.args.relocs.now in
    let x : ℕ = get_or c.args.remaining.now c.loop-index.index-index 0 in
    let here : step c.args.self.now c.args.member rs tt x ≡ Ok tt = elim c.match-get.branch [
      | in-Some+in_ok-valued w ↦
          let at = slice_get_read rs (length rs) x w.in-Some.reloc.now refl w.in-Some.ensures.lookup.3.0 w.in-Some.ensures.lookup.1 in
          ap (reloc_has_in c.args.self.now c.args.member) at ∙ sym w.in_ok-valued.ensures.value
      | in_default w ↦ ap (reloc_has_in c.args.self.now c.args.member) (past rs x w.in_default.ensures.lookup.3)
    ] in
    run_more (step c.args.self.now c.args.member rs) tt tt c.args.remaining.now c.loop-index.index-index x _ c.loop-index-test.true (get_or_default c.args.remaining.now c.loop-index.index-index 0 x c.loop-index-test.true) here c.loop-index.invariant

pub returns-in_err-valued : goal.returns-in_err-valued
returns-in_err-valued c =
    let rs = c.args.relocs.now in
    let x : ℕ = get_or c.args.remaining.now c.loop-index.index-index 0 in
    let p = err_from_is_err_and c.from_residual.result c.from_residual.ensures.1 in
    let at = slice_get_read rs (length rs) x c.in-Some.reloc.now refl c.in-Some.ensures.lookup.3.0 c.in-Some.ensures.lookup.1 in
    let stop = run_fails (λ e. false) (step c.args.self.now c.args.member rs) tt c.args.remaining.now c.loop-index.index-index x _ _ c.loop-index-test.true (get_or_default c.args.remaining.now c.loop-index.index-index 0 x c.loop-index-test.true)
    (ap (reloc_has_in c.args.self.now c.args.member) at ∙ sym c.in_err-valued.ensures.value) c.loop-index.invariant in
    rw (p.1, p.2) (sym (sym (numbers_decide (meaning_in c.args.self.now) c.args.member rs 0 c.args.remaining.now (omega arith) c.requires.remaining) ∙ stop))

pub returns : goal.returns
returns c =
    let whole = run_done (step c.args.self.now c.args.member c.args.relocs.now) tt c.args.remaining.now c.loop-index.index-index _ c.loop-index-test.false c.loop-index.invariant in
    sym (sym (numbers_decide (meaning_in c.args.self.now) c.args.member c.args.relocs.now 0 c.args.remaining.now (omega arith) c.requires.remaining) ∙ whole)
