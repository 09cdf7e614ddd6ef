use Rattle.std.proofs.Common.{◌≡◌, ◌∙◌, Some, sym, ap, subst}
use Rattle.pl_scope.specs.Walk.{Walked}
use Rattle.pl_scope.specs.Scope.{objects, IsSymbol}
use Rattle.pl_scope.specs.Finds.{finds}
use Rattle.pl_scope.specs.Kept.{answer_of}
use Rattle.pl_scope.proofs.FoundLaws.{found_within}
use Rattle.pl_scope.proofs.KeptLaws.{row_below, place_below, kept_is}
use Rattle.pl_scope.proofs.kept.Kept.find.Goals as goal

pub index-requires : goal.index-requires
index-requires c =
    let view : c.self.inside.scope.now ≡ c.args.self.now = c.self.view_is in
    let is = subst (λ (w : Walked). IsSymbol (objects w) c.args.reference.member c.args.reference.symbol) (sym view) c.requires in
    row_below (objects c.self.inside.scope.now) c.self.inside.rows c.args.reference c.self.invariant.rows is

pub index-requires-2 : goal.index-requires-2
index-requires-2 c =
    let view : c.self.inside.scope.now ≡ c.args.self.now = c.self.view_is in
    let is = subst (λ (w : Walked). IsSymbol (objects w) c.args.reference.member c.args.reference.symbol) (sym view) c.requires in
    place_below (objects c.self.inside.scope.now) c.self.inside.rows.items c.args.reference c.index.result.now c.self.invariant.rows is c.index.ensures

pub returns-in-Some-clause-exact : goal.returns-in-Some-clause-exact
returns-in-Some-clause-exact c =
    let view : c.self.inside.scope.now ≡ c.args.self.now = c.self.view_is in
    let is = subst (λ (w : Walked). IsSymbol (objects w) c.args.reference.member c.args.reference.symbol) (sym view) c.requires in
    let kept : answer_of c.index-2.result.now c.args.reference.kind ≡ Some c.in-Some.found = sym c.of.ensures ∙ c.in-Some.is in
    kept_is (objects c.self.inside.scope.now) c.self.inside.rows.items c.args.reference c.index.result.now c.index-2.result.now c.in-Some.found c.self.invariant.rows is c.index.ensures c.index-2.ensures kept
    ∙ ap (λ (w : Walked). finds (objects w) c.args.reference) view

pub returns-in-Some-clause-within : goal.returns-in-Some-clause-within
returns-in-Some-clause-within c =
    let view : c.self.inside.scope.now ≡ c.args.self.now = c.self.view_is in
    let is = subst (λ (w : Walked). IsSymbol (objects w) c.args.reference.member c.args.reference.symbol) (sym view) c.requires in
    let kept : answer_of c.index-2.result.now c.args.reference.kind ≡ Some c.in-Some.found = sym c.of.ensures ∙ c.in-Some.is in
    found_within (objects c.args.self.now) c.args.reference c.in-Some.found
    (kept_is (objects c.self.inside.scope.now) c.self.inside.rows.items c.args.reference c.index.result.now c.index-2.result.now c.in-Some.found c.self.invariant.rows is c.index.ensures c.index-2.ensures kept
    ∙ ap (λ (w : Walked). finds (objects w) c.args.reference) view)

pub returns-clause-within : goal.returns-clause-within
returns-clause-within c =
    let view : c.self.inside.scope.now ≡ c.args.self.now = c.self.view_is in
    found_within (objects c.args.self.now) c.args.reference c.find_by-found.result (c.find_by-found.ensures ∙ ap (λ (w : Walked). finds (objects w) c.args.reference) view)

pub find_by-found-requires-clause-way : goal.find_by-found-requires-clause-way
find_by-found-requires-clause-way c = c.way_by.ensures (objects c.self.inside.scope.now) c.self.invariant.index
