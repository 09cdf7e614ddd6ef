use Rattle.std.proofs.Common.{◌≡◌, ◌<◌, ◌+◌, ℕ, Bool, true, false, List, length, get_or, take, refl, ap, sym, ◌∙◌, arith}
use Rattle.std.specs.Prelude.{◌&&◌}
use Rattle.std.specs.List.{list_all}
use Rattle.std.proofs.lemmas.List.{take_all}
use Rattle.std.proofs.lemmas.List.Folds.{list_all_at, list_all_more}
use Rattle.pl_rewrite.specs.Rows.{has_numbers}
use Rattle.pl_rewrite.specs.declared.numbers.Numbered.{Numbered}
use Rattle.pl_rewrite.proofs.RowTestLaws.{column_at, file_or, firm_there, numbers_none, numbers_told}
use Rattle.pl_rewrite.proofs.apart.all_have_numbers.Goals as goal

-- one more row that has its numbers
more : (n : Numbered) (rows : List ℕ) (i : ℕ) (b : Bool) → i < length rows → b ≡ has_numbers n (get_or rows i 0) → b ≡ true → list_all (has_numbers n) (take i rows) ≡ true → list_all (has_numbers n) (take (i + 1) rows) ≡ true
more n rows i b lt is has so_far = list_all_more (has_numbers n) rows i 0 lt ∙ ap (λ (a : Bool). a && has_numbers n (get_or rows i 0)) so_far ∙ sym is ∙ has

-- one that has not
stops : (n : Numbered) (rows : List ℕ) (i : ℕ) (b : Bool) → i < length rows → b ≡ has_numbers n (get_or rows i 0) → b ≡ false → false ≡ list_all (has_numbers n) rows
stops n rows i b lt is lacks = sym (list_all_at (has_numbers n) rows i 0 lt (sym is ∙ lacks))

pub returns-in_default : goal.returns-in_default
returns-in_default c =
    let n = c.args.numbered.now in
    let k : ℕ = get_or c.args.walk.now c.loop-member.member-index 0 in
    let lt : k < length n.files.now = c.requires.rows c.loop-member.member-index 0 c.loop-member-test.true in
    stops n c.args.walk.now c.loop-member.member-index false c.loop-member-test.true (numbers_none n k _ (file_or n k c.index-numbered-row.result lt) c.in_default.ensures) refl

pub numbers_fit-requires : goal.numbers_fit-requires
numbers_fit-requires c =
    let n = c.args.numbered.now in
    let k : ℕ = get_or c.args.walk.now c.loop-member.member-index 0 in
    let lt : k < length n.files.now = c.requires.rows c.loop-member.member-index 0 c.loop-member-test.true in
    c.requires.aligned c.loop-member.member-index 0 c.loop-member-test.true _ (firm_there n k _ c.in-Some.object.now (file_or n k c.index-numbered-row.result lt) c.in-Some.ensures)

pub returns-then-not-numbers_fit : goal.returns-then-not-numbers_fit
returns-then-not-numbers_fit c =
    let n = c.args.numbered.now in
    let k : ℕ = get_or c.args.walk.now c.loop-member.member-index 0 in
    let lt : k < length n.files.now = c.requires.rows c.loop-member.member-index 0 c.loop-member-test.true in
    let told =
    numbers_told n k _ c.in-Some.object.now c.numbers_fit.result _ _ (file_or n k c.index-numbered-row.result lt) c.in-Some.ensures (column_at n.places.now k _ (omega (arith, lt, c.requires.numbered.places))) (column_at n.stamps.now k _ (omega (arith, lt, c.requires.numbered.stamps)))
    c.numbers_fit.ensures in
    stops n c.args.walk.now c.loop-member.member-index c.numbers_fit.result c.loop-member-test.true told c.if-not-numbers_fit.true

pub loop-member-preserved : goal.loop-member-preserved
loop-member-preserved c =
    let n = c.args.numbered.now in
    let k : ℕ = get_or c.args.walk.now c.loop-member.member-index 0 in
    let lt : k < length n.files.now = c.requires.rows c.loop-member.member-index 0 c.loop-member-test.true in
    let told =
    numbers_told n k _ c.in-Some.object.now c.numbers_fit.result _ _ (file_or n k c.index-numbered-row.result lt) c.in-Some.ensures (column_at n.places.now k _ (omega (arith, lt, c.requires.numbered.places))) (column_at n.stamps.now k _ (omega (arith, lt, c.requires.numbered.stamps)))
    c.numbers_fit.ensures in
    more n c.args.walk.now c.loop-member.member-index c.numbers_fit.result c.loop-member-test.true told c.if-not-numbers_fit.false c.loop-member.invariant

pub returns : goal.returns
returns c = sym (ap (list_all (has_numbers c.args.numbered.now)) (sym (take_all c.loop-member.member-index c.args.walk.now c.loop-member-test.false)) ∙ c.loop-member.invariant)
