use Rattle.std.proofs.Common.{ℕ, ◌+◌, ◌<◌, List, length, sym, subst, arith}
use Rattle.std.specs.List.{All}
use Rattle.std.proofs.lemmas.List.{get_or_default}
use Rattle.pl_conflict.specs.Between.{HoldsBetween}
use Rattle.pl_conflict.proofs.BetweenLaws.{between_grown, between_pushed}
use Rattle.pl_object.specs.declared.reloc.Reloc.{Reloc}
use Rattle.pl_scope.specs.Scope.{objects, IsSymbol}
use Rattle.pl_value.specs.Definers.{IsSought}
use Rattle.pl_value.specs.Values.{reference}
use Rattle.pl_value.proofs.LinkableLaws.{all_symbols}
use Rattle.pl_cone.specs.OneWord.{GivesOneWordBy}
use Rattle.pl_cone.specs.Links.{GivesOneWordOf}
use Rattle.pl_cone.proofs.StepLaws.{zip_more}
use Rattle.pl_cone.proofs.linking.library_link.Goals.{then-not-gives_one_word+in_ok-push, else-not-gives_one_word}
use Rattle.pl_cone.proofs.linking.library_link.Goals as goal

pub sought-symbol-requires-clause-reference : goal.sought-symbol-requires-clause-reference
sought-symbol-requires-clause-reference c =
    let all = subst (λ (rs : List Reloc). All (λ r. IsSymbol (objects c.args.own.now.scope) 0 r.symbol) rs) (sym c.as_slice-relocs.ensures) (all_symbols (objects c.args.own.now.scope) 0 c.object.result.now c.object.ensures.fit c.object.ensures.object) in
    rw c.reference_of.ensures (all c.loop-number.number _ c.loop-number-test.true)

pub gives_one_word-requires-clause-reference : goal.gives_one_word-requires-clause-reference
gives_one_word-requires-clause-reference c =
    let all = subst (λ (rs : List Reloc). All (λ r. IsSymbol (objects c.args.own.now.scope) 0 r.symbol) rs) (sym c.as_slice-relocs.ensures) (all_symbols (objects c.args.own.now.scope) 0 c.object.result.now c.object.ensures.fit c.object.ensures.object) in
    all c.loop-number.number _ c.loop-number-test.true

pub loop-number-preserved : goal.loop-number-preserved
loop-number-preserved c =
    let relocs : List Reloc = c.as_slice-relocs.result.now in
    let number : ℕ = c.loop-number.number in
    let lt : number < length relocs = c.loop-number-test.true in
    let gives = GivesOneWordOf c.args.index.now (objects c.args.own.now.scope) relocs in
    record {
      found = zip_more (λ r f. IsSought (objects c.args.own.now.scope) (reference 0 r) f) relocs number _ c.loop-number.found _ _ lt c.loop-number.invariant.found (rw c.reference_of.ensures at c.sought-symbol.ensures) c.in_ok-push-2.ensures.ok;
      remaining = elim c.if-not-gives_one_word.branch [
        | then-not-gives_one_word+in_ok-push w ↦
            rw w.remaining-is (subst (λ (ks : List ℕ). HoldsBetween gives (number + 1) 0 ks) (sym w.in_ok-push.ensures.ok) (between_pushed gives number 0 c.loop-number.remaining (omega arith) c.loop-number.invariant.remaining))
        | else-not-gives_one_word w ↦
            rw w.remaining-is (between_grown gives number 0 c.loop-number.remaining
            (λ e. subst (GivesOneWordBy c.args.index.now (objects c.args.own.now.scope)) (get_or_default relocs number _ e lt) (rw w.if-not-gives_one_word.false at c.gives_one_word.ensures)) c.loop-number.invariant.remaining)
      ];
    }
