use Rattle.std.proofs.Common.{◌≡◌, ◌<◌, Bool, true, false, ℕ, List, length, refl, sym, ap, subst, ◌∙◌}
use Rattle.std.specs.Prelude.{◌&&◌, not}
use Rattle.std.specs.List.{All, list_all}
use Rattle.std.proofs.lemmas.List.{at_drop_all}
use Rattle.std.proofs.lemmas.Option.{slice_get-get_or}
use Rattle.pl_cone.specs.Currency.{all_held, is_held_row, is_set, stale_at}
use Rattle.pl_cone.specs.Table.{is_candidate_row, walk_of}
use Rattle.pl_cone.specs.declared.table.RunTable.{RunTable}
use Rattle.pl_cone.proofs.ListLaws.{all_more, all_fails, off}
use Rattle.pl_cone.proofs.currency.is_stale.Goals as goal

on : (b : Bool) → (b && true) ≡ b
on true = refl
on false = refl

-- by whether all of a walk's rows are held
by_held : (t : RunTable) (held : List Bool) (row : ℕ) (walk : List ℕ) (all : Bool) → walk ≡ walk_of t row → all_held held walk ≡ all → stale_at t held row ≡ (is_candidate_row t row && not all)
by_held t held row walk all same is = ap (λ (rows : List ℕ). is_candidate_row t row && not (all_held held rows)) (sym same) ∙ ap (λ (b : Bool). is_candidate_row t row && not b) is

pub bounds-held-member : goal.bounds-held-member
bounds-held-member c = subst (λ (rows : List ℕ). All (λ r. r < length c.args.held.now) rows) (sym c.walk-walk.ensures) c.requires c.loop-member.member-index 0 c.loop-member-test.true

pub returns-then-not-held-member : goal.returns-then-not-held-member
returns-then-not-held-member c =
    let below = subst (λ (rows : List ℕ). All (λ r. r < length c.args.held.now) rows) (sym c.walk-walk.ensures) c.requires in
    let fails : all_held c.args.held.now c.walk-walk.result.now ≡ false =
    all_fails (is_held_row c.args.held.now) c.walk-walk.result.now c.loop-member.member-index 0 _ c.loop-member-test.true (ap is_set (slice_get-get_or c.args.held.now _ false (below c.loop-member.member-index 0 c.loop-member-test.true)) ∙ c.if-not-held-member.true) c.loop-member.invariant in
    c.is_candidate.ensures ∙ sym (by_held c.args.table.now c.args.held.now c.args.row c.walk-walk.result.now false c.walk-walk.ensures fails ∙ on (is_candidate_row c.args.table.now c.args.row))

pub loop-member-preserved : goal.loop-member-preserved
loop-member-preserved c =
    let below = subst (λ (rows : List ℕ). All (λ r. r < length c.args.held.now) rows) (sym c.walk-walk.ensures) c.requires in
    all_more (is_held_row c.args.held.now) c.walk-walk.result.now c.loop-member.member-index 0 _ c.loop-member-test.true (ap is_set (slice_get-get_or c.args.held.now _ false (below c.loop-member.member-index 0 c.loop-member-test.true)) ∙ c.if-not-held-member.false) c.loop-member.invariant

pub returns : goal.returns
returns c =
    let all : all_held c.args.held.now c.walk-walk.result.now ≡ true = sym c.loop-member.invariant ∙ at_drop_all (list_all (is_held_row c.args.held.now)) c.walk-walk.result.now c.loop-member.member-index c.loop-member-test.false in
    sym (by_held c.args.table.now c.args.held.now c.args.row c.walk-walk.result.now true c.walk-walk.ensures all ∙ off (is_candidate_row c.args.table.now c.args.row))
