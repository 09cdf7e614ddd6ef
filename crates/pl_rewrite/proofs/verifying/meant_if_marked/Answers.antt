use Rattle.std.proofs.Common.{◌≡◌, ◌≤◌, ℕ, List, [], ◌∷◌, false, length, sym, ap, ◌∙◌, arith}
use Rattle.std.specs.Prelude.{◌==◌}
use Rattle.std.proofs.lemmas.Bool.{false≢true}
use Rattle.std.proofs.lemmas.Result.{IfOk-weaker}
use Rattle.pl_rewrite.specs.Rows.{walk_of}
use Rattle.pl_rewrite.specs.Verify.{are_marked}
use Rattle.pl_rewrite.proofs.NumberedLaws.{walk_rows}
use Rattle.pl_rewrite.proofs.RowsLaws.{empty_is}
use Rattle.pl_rewrite.proofs.VerifyFileLaws.{borne_meant, marked_walk, refused_none, unmarked_none}
use Rattle.pl_rewrite.proofs.verifying.meant_if_marked.Goals as goal

some_rows : (xs : List ℕ) → (length xs == 0) ≡ false → 1 ≤ length xs
some_rows [] e = absurd (false≢true (sym e))
some_rows (x ∷ xs) e = omega arith

pub returns-then-is_empty : goal.returns-then-is_empty
returns-then-is_empty c = λ x m at mark same.
    let n = c.args.numbered.now in
    refused_none n c.args.row x c.requires.numbered at (sym c.walk-walk.ensures ∙ empty_is c.walk-walk.result.now (sym c.is_empty.ensures ∙ c.if-is_empty.true))

pub are_marked-requires : goal.are_marked-requires
are_marked-requires c = rw c.walk-walk.ensures (walk_rows c.args.numbered.now c.args.row c.requires.numbered).within

pub returns-then-not-are_marked : goal.returns-then-not-are_marked
returns-then-not-are_marked c = λ x m at mark same.
    let n = c.args.numbered.now in
    let none = ap (are_marked n.files.now) (sym c.walk-walk.ensures) ∙ (sym c.are_marked.ensures ∙ c.if-not-are_marked.true) in
    unmarked_none n c.requires.numbered.taken.0 c.requires.numbered.taken.1 c.requires.borne.places c.requires.borne.stamps c.args.row x c.requires.numbered none at

pub meant_by-requires-clause-walk : goal.meant_by-requires-clause-walk
meant_by-requires-clause-walk c =
    let n = c.args.numbered.now in
    let all = ap (are_marked n.files.now) (sym c.walk-walk.ensures) ∙ (sym c.are_marked.ensures ∙ c.if-not-are_marked.false) in
    let some : 1 ≤ length (walk_of n c.args.row) = omega (arith, some_rows c.walk-walk.result.now (sym c.is_empty.ensures ∙ c.if-is_empty.false), ap length c.walk-walk.ensures) in
    marked_walk n c.args.row c.requires.numbered all some

pub returns : goal.returns
returns c =
    let n = c.args.numbered.now in
    let all = ap (are_marked n.files.now) (sym c.walk-walk.ensures) ∙ (sym c.are_marked.ensures ∙ c.if-not-are_marked.false) in
    let some : 1 ≤ length (walk_of n c.args.row) = omega (arith, some_rows c.walk-walk.result.now (sym c.is_empty.ensures ∙ c.if-is_empty.false), ap length c.walk-walk.ensures) in
    let walk = marked_walk n c.args.row c.requires.numbered all some in
    IfOk-weaker c.meant_by.result _ _
    (λ file is. λ x m at mark same. borne_meant n c.requires.numbered.taken.0 c.requires.numbered.taken.1 c.requires.borne.places c.requires.borne.stamps c.args.row x m c.args.version _ c.requires.numbered walk all at mark same is) c.meant_by.ensures
