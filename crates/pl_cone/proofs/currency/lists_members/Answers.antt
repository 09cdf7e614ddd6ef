use Rattle.std.proofs.Common.{◌≡◌, ℕ, suc, ◌+◌, ◌<◌, ◌≤◌, Bool, true, false, List, [], ◌∷◌, length, drop, get_or, Option, refl, sym, ap, ◌∙◌, arith}
use Rattle.std.specs.Prelude.{◌≢◌, ◌&&◌, slice_get}
use Rattle.std.proofs.lemmas.List.{at_drop_more, at_drop_all}
use Rattle.std.proofs.lemmas.Option.{slice_get_read}
use Rattle.pl_lists.specs.declared.list_row.ListRow.{ListRow}
use Rattle.pl_cone.specs.Currency.{is_row, is_row_of, lists_members}
use Rattle.pl_cone.specs.declared.taken.Taken.{Taken}
use Rattle.pl_cone.proofs.ListLaws.{off}
use Rattle.pl_cone.proofs.currency.lists_members.Goals as goal

abbrev tells_from : List Taken → List ListRow → List ℕ → ℕ → Bool
tells_from ts rs rows i = lists_members ts (drop i rs) (drop i rows)

step : (ts : List Taken) (rs : List ListRow) (rows : List ℕ) (i : ℕ) (r : ListRow) (t : Taken) → i < length rs → i < length rows → get_or rows i 0 < length ts → r ≡ get_or rs i r → t ≡ get_or ts (get_or rows i 0) t
    → tells_from ts rs rows i ≡ (is_row t r && tells_from ts rs rows (i + 1))
unfolding lists_members
step ts rs rows i r t in_list in_rows in_files is file =
    at_drop_more (λ (zs : List ListRow). lists_members ts zs (drop i rows)) rs i r in_list
    ∙ (at_drop_more (λ (ys : List ℕ). lists_members ts (get_or rs i r ∷ drop (i + 1) rs) ys) rows i 0 in_rows
    ∙ (ap (λ (x : Option Taken). is_row_of x (get_or rs i r) && tells_from ts rs rows (i + 1)) (slice_get_read ts (length ts) (get_or rows i 0) t refl in_files file)
    ∙ ap (λ (q : ListRow). is_row t q && tells_from ts rs rows (i + 1)) (sym is)))

done : (ts : List Taken) (rs : List ListRow) (rows : List ℕ) (i : ℕ) (whole : Bool) → length rs ≤ i → length rows ≤ i → tells_from ts rs rows i ≡ whole → whole ≡ true
unfolding lists_members
done ts rs rows i whole past also so_far =
    sym so_far ∙ (at_drop_all (λ (zs : List ListRow). lists_members ts zs (drop i rows)) rs i past ∙ at_drop_all (λ (ys : List ℕ). lists_members ts [] ys) rows i also)

none : (ts : List Taken) (rs : List ListRow) (rows : List ℕ) → length rs ≢ length rows → lists_members ts rs rows ≡ false
unfolding lists_members
none ts [] [] differs = absurd (differs refl)
none ts [] (row ∷ rows) differs = refl
none ts (r ∷ rs) [] differs = refl
none ts (r ∷ rs) (row ∷ rows) differs =
    let fewer : length rs ≢ length rows = λ same. differs (ap (λ (k : ℕ). suc k) same) in
    ap (λ (b : Bool). is_row_of (slice_get ts row) r && b) (none ts rs rows fewer) ∙ off (is_row_of (slice_get ts row) r)

pub returns-then-list-others : goal.returns-then-list-others
returns-then-list-others c = sym (none c.args.files.now c.args.list.now c.args.others.now c.if-list-others.true)

pub returns-then-not-is_row : goal.returns-then-not-is_row
returns-then-not-is_row c =
    let i : ℕ = c.loop-index.index in
    let same : length c.args.list.now ≡ length c.args.others.now = c.if-list-others.false in
    let in_rows : i < length c.args.others.now = omega (arith, same, c.loop-index-test.true) in
    let one = step c.args.files.now c.args.list.now c.args.others.now i c.index-list-index.result c.index-files-others.result c.loop-index-test.true in_rows (c.requires.within i 0 in_rows) c.index-list-index.is c.index-files-others.is in
    sym (sym c.loop-index.invariant ∙ (one ∙ ap (λ (b : Bool). b && tells_from c.args.files.now c.args.list.now c.args.others.now (i + 1)) (sym c.is_row.ensures ∙ c.if-not-is_row.true)))

pub loop-index-preserved : goal.loop-index-preserved
loop-index-preserved c =
    let i : ℕ = c.loop-index.index in
    let same : length c.args.list.now ≡ length c.args.others.now = c.if-list-others.false in
    let in_rows : i < length c.args.others.now = omega (arith, same, c.loop-index-test.true) in
    let one = step c.args.files.now c.args.list.now c.args.others.now i c.index-list-index.result c.index-files-others.result c.loop-index-test.true in_rows (c.requires.within i 0 in_rows) c.index-list-index.is c.index-files-others.is in
    sym (one ∙ ap (λ (b : Bool). b && tells_from c.args.files.now c.args.list.now c.args.others.now (i + 1)) (sym c.is_row.ensures ∙ c.if-not-is_row.false)) ∙ c.loop-index.invariant

pub returns : goal.returns
returns c =
    let same : length c.args.list.now ≡ length c.args.others.now = c.if-list-others.false in
    sym (done c.args.files.now c.args.list.now c.args.others.now c.loop-index.index _ c.loop-index-test.false (omega (arith, same, c.loop-index-test.false)) c.loop-index.invariant)
