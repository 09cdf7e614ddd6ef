use Rattle.std.proofs.Common.{◌≡◌, List, ℕ, length, ap, ◌∙◌, arith}
use Rattle.pl_base.specs.Windows.{◌⊕◌}
use Rattle.pl_form.specs.Ends.{rows_behind}
use Rattle.pl_form.proofs.WriteLaws.{two_joined}
use Rattle.pl_form.proofs.write.push_ends.Goals as goal

pub ended_rows-requires-clause-end : goal.ended_rows-requires-clause-end
ended_rows-requires-clause-end c = omega (arith, c.requires, c.len-before.ensures, c.len.ensures, ap length c.in_ok-names.ensures)

pub returns-clause-file : goal.returns-clause-file
returns-clause-file c =
    two_joined c.args.file.now.items c.args.undo.now _ _ _ c.in_ok-push_part.ensures
    (c.in_ok-push_part-2.ensures ∙ ap (λ (xs : List ℕ). c.push_part.new.file.items ⊕ xs) (c.deref.ensures.value ∙ c.in_ok-names.ensures))

pub returns-clause-rows : goal.returns-clause-rows
returns-clause-rows c =
    let before : c.len-before.result ≡ length c.args.file.now.items = omega (arith, c.len-before.ensures) in
    let size : c.len.result ≡ length c.in_ok-names.names.items = omega (arith, c.len.ensures) in
    c.in_ok-rows.ensures
    ∙ ap (λ (n : ℕ). rows_behind c.args.plan.now n (length c.args.old.now) (length c.args.undo.now) c.len.result) before
    ∙ ap (rows_behind c.args.plan.now (length c.args.file.now.items) (length c.args.old.now) (length c.args.undo.now)) (size ∙ ap length c.in_ok-names.ensures)
