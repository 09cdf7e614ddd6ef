use Rattle.std.proofs.Common.{◌≡◌, ℕ, List, map, sym, ap, subst, ◌∙◌}
use Rattle.std.specs.List.{All}
use Rattle.pl_object.specs.declared.object.Object.{Object}
use Rattle.pl_scope.specs.Scope.{objects, IsAccepted}
use Rattle.pl_scope.specs.declared.member.Member.{Member}
use Rattle.pl_load_tests.proofs.MapLaws.{mapped_all, fused, all_mapped}
use Rattle.pl_load_tests.proofs.walked.scope_of.Goals as goal

pub returns-clause-objects : goal.returns-clause-objects
returns-clause-objects c =
    ap objects c.new.ensures ∙ (fused (λ (m : Member). (m.name, m.object.now)) (λ (p : List ℕ × Object). p.1) c.loop-original.members.items ∙ mapped_all (λ m. m.object.now) (λ f. f.object) c.args.order.now _ c.loop-original.members.items _ c.loop-original-test.false c.loop-original.invariant.objects)

pub returns-clause-accepted : goal.returns-clause-accepted
returns-clause-accepted c =
    subst (All IsAccepted) (sym (ap objects c.new.ensures ∙ fused (λ (m : Member). (m.name, m.object.now)) (λ (p : List ℕ × Object). p.1) c.loop-original.members.items))
    (all_mapped IsAccepted (λ (m : Member). m.object.now) c.loop-original.members.items c.loop-original.invariant.accepted)
