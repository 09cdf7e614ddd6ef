use Rattle.std.proofs.Common.{◌≡◌, List, Some, sym, subst, ap, ◌∙◌}
use Rattle.pl_elf.specs.declared.range.Range.{Range}
use Rattle.pl_place.specs.Policy.{MayAnswer}
use Rattle.pl_pie.specs.Pie.{pie}
use Rattle.pl_pie.proofs.CallLaws.{pie_placed}
use Rattle.pl_pie.specs.Placed.{IsSmall, fixed_at, placed}
use Rattle.pl_pie.proofs.BareLaws.{small_at}
use Rattle.pl_pie.proofs.placed.fix_placed.Goals as goal

-- `is_pie` gave the object
pub place-place-requires-clause-asked : goal.place-place-requires-clause-asked
place-place-requires-clause-asked g c =
    let both = pie_placed c.args.bytes.now c.in-Some.object (sym c.in_ok-is_pie.ensures ∙ c.in-Some.is) in
    record { some = both.0; power = both.1 }

pub fix_at-requires-clause-object : goal.fix_at-requires-clause-object
fix_at-requires-clause-object g c = sym c.in_ok-is_pie.ensures ∙ c.in-Some.is

pub fix_at-requires-clause-place : goal.fix_at-requires-clause-place
fix_at-requires-clause-place g c =
    let o = c.in-Some.object in
    subst (λ (holes : List Range). MayAnswer holes o.span o.align c.place-place.result) c.in_ok-holes-in-Some.ensures c.place-place.ensures.fits

pub returns-in_ok-fix_at-in-Some-clause-placed : goal.returns-in_ok-fix_at-in-Some-clause-placed
unfolding placed
returns-in_ok-fix_at-in-Some-clause-placed g c =
    let o = c.in-Some.object in
    let pied : pie c.args.bytes.now ≡ Some o = sym c.in_ok-is_pie.ensures ∙ c.in-Some.is in
    let call = c.place-place.ensures.answer in
    record {
      asked = Some (record { span = o.span; align = o.align; answer = c.place-place.result });
      was = ((call.0, call.1 ∙ c.in_ok-holes-in-Some.ensures, call.2), subst (λ (holes : List Range). MayAnswer holes o.span o.align c.place-place.result) c.in_ok-holes-in-Some.ensures c.place-place.ensures.fits);
      holds = λ choose so. rw pied (c.in_ok-fix_at-in-Some.ensures ∙ ap (fixed_at c.args.bytes.now o) (sym so));
    }

pub returns-in_ok-fix_at-in-Some-clause-small : goal.returns-in_ok-fix_at-in-Some-clause-small
returns-in_ok-fix_at-in-Some-clause-small g c =
    subst IsSmall (sym c.in_ok-fix_at-in-Some.ensures) (small_at c.args.bytes.now c.in-Some.object (sym c.in_ok-is_pie.ensures ∙ c.in-Some.is) c.requires.few c.place-place.result)
