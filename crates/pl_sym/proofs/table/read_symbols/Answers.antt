use Rattle.std.proofs.Common.{ℕ, List, ◌/◌, length, subst}
use Rattle.std.specs.Prelude.{Ok, Err}
use Rattle.std.proofs.lemmas.Result.{err_from_is_err_and}
use Rattle.pl_base.specs.Answers.{Answers}
use Rattle.pl_base.proofs.EachLaws.{rows_begin, rows_more, rows_fail, rows_done}
use Rattle.pl_sym.specs.Table as spec
use Rattle.pl_sym.specs.Table.{symbols}
use Rattle.pl_sym.specs.declared.constants.TheConstants.{SYMBOL_SIZE}
use Rattle.pl_sym.proofs.table.read_symbols.Goals as goal

pub loop-index-init : goal.loop-index-init
unfolding symbols
loop-index-init c = rw (c.from_vec-symbols.ensures, c.in_ok-with_capacity.ensures.items) (rows_begin (spec.symbol c.args.table.now c.args.strings.now) (length c.args.table.now / SYMBOL_SIZE))

pub returns-in_err-symbol_at : goal.returns-in_err-symbol_at
returns-in_err-symbol_at c =
    let p = err_from_is_err_and c.from_residual-in_err-symbol_at.result c.from_residual-in_err-symbol_at.ensures.1 in
    let exact = subst (λ (ss : List ℕ). Answers spec.is_memory (Err c.in_err-symbol_at.field-0.0) (spec.symbol c.args.table.now ss c.loop-index.index)) c.in_ok-ends.ensures c.in_err-symbol_at.ensures in
    rw (p.1, p.2) (rows_fail spec.is_memory (spec.symbol c.args.table.now c.args.strings.now) _ _ _ _ _ c.loop-index-test.true exact c.loop-index.invariant)

pub loop-index-preserved : goal.loop-index-preserved
loop-index-preserved c =
    let exact = subst (λ (ss : List ℕ). Answers spec.is_memory (Ok c.in_ok-symbol_at.field-0) (spec.symbol c.args.table.now ss c.loop-index.index)) c.in_ok-ends.ensures c.in_ok-symbol_at.ensures in
    rw c.in_ok-push.ensures.ok (rows_more (spec.symbol c.args.table.now c.args.strings.now) _ _ _ _ _ c.loop-index-test.true exact c.loop-index.invariant)

pub returns : goal.returns
returns c = rows_done (spec.symbol c.args.table.now c.args.strings.now) _ _ _ _ c.loop-index-test.false c.loop-index.invariant
