use Rattle.std.proofs.Common.{false, true, length, refl, sym, ◌∙◌, ◌-◌, take, drop, ◌<◌}
use Rattle.std.specs.Prelude.{not}
use Rattle.std.specs.List.{flat_map, list_all}
use Rattle.pl_base.specs.Windows.{any_share}
use Rattle.pl_rewrite.specs.Rows.{is_named_well, walk_of, windows_of}
use Rattle.pl_rewrite.proofs.RowTestLaws.{all_aligned, rest_all, set_none, set_walk}
use Rattle.pl_rewrite.proofs.apart.are_set.Goals as goal

pub returns-in_default : goal.returns-in_default
returns-in_default c = set_none c.args.numbered.now c.args.row c.walk-walk.result.now c.walk-walk.ensures c.in_default.len_below c.requires.rows

pub all_have_numbers-requires-clause-rows : goal.all_have_numbers-requires-clause-rows
all_have_numbers-requires-clause-rows c = rw c.walk-walk.ensures c.requires.rows.within

pub all_have_numbers-requires-clause-aligned : goal.all_have_numbers-requires-clause-aligned
all_have_numbers-requires-clause-aligned c = rw c.walk-walk.ensures (all_aligned c.args.numbered.now c.args.row c.requires.rows c.requires.sources)

pub returns-then-not-all_have_numbers : goal.returns-then-not-all_have_numbers
returns-then-not-all_have_numbers c =
    set_walk c.args.numbered.now c.args.row c.walk-walk.result.now false (not (any_share (flat_map (windows_of c.args.numbered.now) c.walk-walk.result.now))) (list_all (is_named_well c.args.numbered.now) (take (length c.walk-walk.result.now - 1) (drop 1 c.walk-walk.result.now))) c.walk-walk.ensures c.in-len1-up.len_at_least c.requires.rows c.requires.sources
    (sym c.if-not-all_have_numbers.true ∙ c.all_have_numbers.ensures) refl refl

pub are_apart-requires-clause-rows : goal.are_apart-requires-clause-rows
are_apart-requires-clause-rows c = rw c.walk-walk.ensures c.requires.rows.within

pub returns-then-not-apart : goal.returns-then-not-apart
returns-then-not-apart c =
    set_walk c.args.numbered.now c.args.row c.walk-walk.result.now true false (list_all (is_named_well c.args.numbered.now) (take (length c.walk-walk.result.now - 1) (drop 1 c.walk-walk.result.now))) c.walk-walk.ensures c.in-len1-up.len_at_least c.requires.rows c.requires.sources
    (sym c.if-not-all_have_numbers.false ∙ c.all_have_numbers.ensures) (sym c.if-not-apart.true ∙ c.in_ok-apart.ensures) refl

pub all_have_names-requires : goal.all_have_names-requires
all_have_names-requires c = rw c.walk-walk.ensures (rest_all (λ r. r < length c.args.numbered.now.files.now) (walk_of c.args.numbered.now c.args.row) c.requires.rows.within)

pub returns : goal.returns
returns c =
    set_walk c.args.numbered.now c.args.row c.walk-walk.result.now true true c.all_have_names.result c.walk-walk.ensures c.in-len1-up.len_at_least c.requires.rows c.requires.sources
    (sym c.if-not-all_have_numbers.false ∙ c.all_have_numbers.ensures) (sym c.if-not-apart.false ∙ c.in_ok-apart.ensures) c.all_have_names.ensures
