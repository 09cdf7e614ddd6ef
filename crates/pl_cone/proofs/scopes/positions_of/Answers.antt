use Rattle.std.proofs.Common.{◌≡◌, ℕ, List, length, replicate, Option, Some, None, refl, sym, ap, ◌∙◌}
use Rattle.std.proofs.lemmas.List.{at_drop_more, at_drop_all}
use Rattle.pl_cone.specs.Table.{positions_from, positions_of}
use Rattle.pl_cone.proofs.AmongLaws.{length_none, length_set}
use Rattle.pl_cone.proofs.scopes.positions_of.Goals as goal

none_only : (is : Option ℕ → Type 0) → ((member : ℕ) → is (Some member) → ⊥) → (position : Option ℕ) → is position → position ≡ None
none_only is never None e = refl
none_only is never (Some member) e = absurd (never member e)

pub loop-member-init : goal.loop-member-init
unfolding positions_of
loop-member-init c =
    let none : c.in_ok-positions.positions.items ≡ replicate c.args.count None = c.in_ok-positions.ensures.items_if_clones_equal (none_only _ (λ member e. e)) in
    record {
      places = ap (λ (ps : List (Option ℕ)). positions_from 0 ps c.args.rows.now) none;
      size = ap length none ∙ length_none c.args.count None;
    }

pub loop-member-preserved : goal.loop-member-preserved
unfolding positions_from
loop-member-preserved c = record {
  places = sym (at_drop_more (positions_from c.loop-member.member c.loop-member.positions.items) c.args.rows.now c.loop-member.member 0 c.loop-member-test.true) ∙ c.loop-member.invariant.places;
  size = length_set c.loop-member.positions.items _ _ ∙ c.loop-member.invariant.size;
}

pub returns : goal.returns
unfolding positions_from
returns c = sym (at_drop_all (positions_from c.loop-member.member c.loop-member.positions.items) c.args.rows.now c.loop-member.member c.loop-member-test.false) ∙ c.loop-member.invariant.places
