use Rattle.std.proofs.Common.{ℕ, ◌+◌, ◌++◌, ◌∷◌, [], List, refl, ap, ◌∙◌, arith}
use Rattle.std.proofs.lemmas.Option.{slice_get_within}
use Rattle.std.specs.Vec.{with_item}
use Rattle.pl_cone.specs.declared.walking.NumberWalk.{NumberWalk}
use Rattle.pl_cone.proofs.WalkingLaws.{begun_ready, begun_walking, ready_after}
use Rattle.pl_cone.proofs.walking.NumberWalk.begin.Goals as goal

pub returns-in_err-push-clause-ready : goal.returns-in_err-push-clause-ready
returns-in_err-push-clause-ready c =
    let after : NumberWalk = record { numbers = c.push.new.self; last = c.args.self.now.last; walk = c.args.row + 1 } in
    begun_ready c.args.needs.now c.args.row c.args.self.now after c.requires.walking c.requires.row refl

pub index_mut-requires : goal.index_mut-requires
index_mut-requires c =
    let old = c.requires.walking.seen c.args.row c.requires.row in
    let within = slice_get_within c.args.self.now.last.items c.args.row old.last old.at in
    omega (arith, within, c.args.self.now.last.ok)

pub returns-clause-ready : goal.returns-clause-ready
returns-clause-ready c =
    let numbers = c.in_ok-push.ensures.items ∙ ap (λ (xs : List ℕ). xs ++ c.args.row ∷ []) c.clear.ensures.items in
    let after : NumberWalk = record { numbers = c.push.new.self; last = with_item c.args.self.now.last c.args.row (c.args.row + 1); walk = c.args.row + 1 } in
    ready_after c.args.needs.now (c.args.row + 1) after (begun_walking c.args.needs.now c.args.row c.args.self.now after c.requires.walking c.requires.row numbers refl refl) refl

pub returns-clause-begun : goal.returns-clause-begun
returns-clause-begun c =
    let numbers = c.in_ok-push.ensures.items ∙ ap (λ (xs : List ℕ). xs ++ c.args.row ∷ []) c.clear.ensures.items in
    let after : NumberWalk = record { numbers = c.push.new.self; last = with_item c.args.self.now.last c.args.row (c.args.row + 1); walk = c.args.row + 1 } in
    record {
      walking = begun_walking c.args.needs.now c.args.row c.args.self.now after c.requires.walking c.requires.row numbers refl refl;
      walk = refl;
      numbers = numbers;
    }
