use Rattle.std.proofs.Common.{◌≡◌, length, map, sym, ap, ◌∙◌}
use Rattle.std.proofs.lemmas.List.{length-map}
use Rattle.pl_scope.specs.Scope.{objects}
use Rattle.pl_load_tests.proofs.PlacedLaws.{placed}
use Rattle.pl_load_tests.proofs.walked.places_of.Goals as goal

pub returns : goal.returns
returns c =
    let starts : map (λ s. s.start) c.args.slots.now ≡ c.new.result = sym (c.new.ensures ∙ (c.from_vec.ensures ∙ c.in_ok-starts.ensures)) in
    record {
      one_each = ap length (sym starts) ∙ (length-map c.args.slots.now (λ s. s.start) ∙ (sym (length-map c.args.slots.now (λ s. s.span)) ∙ (ap length c.requires.spans ∙ (length-map (objects c.args.scope.now) (λ o. o.span) ∙ length-map c.args.scope.now (λ m. m.1)))));
      placed = placed c.new.result (objects c.args.scope.now) c.args.slots.now starts c.requires.spans (sym c.are_apart.ensures ∙ c.if-not-are_apart.false) c.if-not-are_low.ensures c.requires.accepted;
    }
