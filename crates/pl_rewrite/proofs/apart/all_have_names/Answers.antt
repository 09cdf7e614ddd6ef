use Rattle.std.proofs.Common.{◌<◌, ℕ, length, get_or, ap, sym, ◌∙◌}
use Rattle.pl_base.specs.Names.{is_valid_name}
use Rattle.pl_cone.proofs.ListLaws.{all_fails, all_more}
use Rattle.pl_rewrite.specs.Rows.{is_named_well}
use Rattle.pl_rewrite.proofs.RowTestLaws.{file_or, named_none, named_well}
use Rattle.pl_rewrite.proofs.apart.all_have_names.Goals as goal

pub bounds-numbered-row : goal.bounds-numbered-row
bounds-numbered-row c = c.requires c.loop-row.row-index 0 c.loop-row-test.true

pub returns-in_default : goal.returns-in_default
returns-in_default c =
    let n = c.args.numbered.now in
    let k : ℕ = get_or c.args.others.now c.loop-row.row-index 0 in
    let lt : k < length n.files.now = c.requires c.loop-row.row-index 0 c.loop-row-test.true in
    let none = named_none n k _ (file_or n k c.index-numbered-row.result lt) c.in_default.ensures in
    sym (all_fails (is_named_well n) c.args.others.now c.loop-row.row-index 0 _ c.loop-row-test.true (sym none) c.loop-row.invariant)

pub returns-then-not-is_valid_name : goal.returns-then-not-is_valid_name
returns-then-not-is_valid_name c =
    let n = c.args.numbered.now in
    let k : ℕ = get_or c.args.others.now c.loop-row.row-index 0 in
    let lt : k < length n.files.now = c.requires c.loop-row.row-index 0 c.loop-row-test.true in
    let name = c.is_valid_name.ensures ∙ ap is_valid_name (c.as_bytes.ensures.value ∙ c.as_str.ensures) in
    let told = named_well n k _ _ c.is_valid_name.result (file_or n k c.index-numbered-row.result lt) c.in-Some.ensures name in
    sym (all_fails (is_named_well n) c.args.others.now c.loop-row.row-index 0 _ c.loop-row-test.true (sym told ∙ c.if-not-is_valid_name.true) c.loop-row.invariant)

pub loop-row-preserved : goal.loop-row-preserved
loop-row-preserved c =
    let n = c.args.numbered.now in
    let k : ℕ = get_or c.args.others.now c.loop-row.row-index 0 in
    let lt : k < length n.files.now = c.requires c.loop-row.row-index 0 c.loop-row-test.true in
    let name = c.is_valid_name.ensures ∙ ap is_valid_name (c.as_bytes.ensures.value ∙ c.as_str.ensures) in
    let told = named_well n k _ _ c.is_valid_name.result (file_or n k c.index-numbered-row.result lt) c.in-Some.ensures name in
    all_more (is_named_well n) c.args.others.now c.loop-row.row-index 0 _ c.loop-row-test.true (sym told ∙ c.if-not-is_valid_name.false) c.loop-row.invariant
