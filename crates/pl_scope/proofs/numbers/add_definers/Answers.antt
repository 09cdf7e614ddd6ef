use Rattle.std.proofs.Common.{◌≡◌, ℕ, List, ap, subst, sym, get_or, ◌∙◌, length, ◌≤◌}
use Rattle.pl_sym.specs.declared.symbol.Symbol.{Symbol}
use Rattle.pl_scope.specs.Numbers.{IsNumberAdded}
use Rattle.pl_scope.proofs.NumberLaws.{definers_done, definers_more, definers_none, definers_skip}
use Rattle.pl_scope.proofs.numbers.add_definers.Goals.{then-is_definer+in_ok-add_number, else-is_definer}
use Rattle.pl_scope.proofs.numbers.add_definers.Goals as goal

pub loop-symbol-init : goal.loop-symbol-init
loop-symbol-init c = definers_none c.args.object.now c.args.numbers.now

pub loop-symbol-preserved : goal.loop-symbol-preserved
loop-symbol-preserved c =
    let o = c.args.object.now in
    let n = c.loop-symbol.symbol-index in
    let s = c.symbol-item.result in
    let front = c.loop-symbol.numbers in
    let same : c.as_slice-symbol-items.result.now ≡ o.symbols = cc in
    let is : s ≡ get_or o.symbols n s = c.symbol-item.is ∙ ap (λ (xs : List Symbol). get_or xs n s) same in
    elim c.if-is_definer.branch [
      | then-is_definer+in_ok-add_number w ↦
          rw w.numbers-is (definers_more o n s c.args.numbers.now front _ is (subst (λ (name : List ℕ). IsNumberAdded name front w.add_number.new.numbers) w.as_slice.ensures w.in_ok-add_number.ensures) c.loop-symbol.invariant)
      | else-is_definer w ↦ rw w.numbers-is (definers_skip o n s c.args.numbers.now front is (sym (rw c.is_program.ensures at c.is_definer.ensures) ∙ w.if-is_definer.false) c.loop-symbol.invariant)
    ]

pub returns : goal.returns
returns c =
    let same : c.as_slice-symbol-items.result.now ≡ c.args.object.now.symbols = cc in
    definers_done c.args.object.now c.loop-symbol.symbol-index c.args.numbers.now c.loop-symbol.numbers (subst (λ (xs : List Symbol). length xs ≤ c.loop-symbol.symbol-index) same c.loop-symbol-test.false) c.loop-symbol.invariant
