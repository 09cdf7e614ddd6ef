use Rattle.std.proofs.Common.{◌≡◌, ℕ, ◌<◌, length, sym, arith, ◌∙◌}
use Rattle.std.specs.List.{All}
use Rattle.std.specs.Option.{option_map}
use Rattle.pl_scope.specs.Scope.{objects}
use Rattle.pl_scope.specs.declared.entries.Entry.{Entry}
use Rattle.pl_scope.proofs.MemberLaws.{length_objects}
use Rattle.pl_scope.proofs.ScopeIndexLaws.{best_more, best_done, index_whole, none_keyed}
use Rattle.pl_scope.proofs.lookup.first_indexed.Goals as goal

below_same : (n a b : ℕ) → n < a → a ≡ b → n < b
below_same n a b lt is = omega (arith, lt, is)

pub returns-in_default : goal.returns-in_default
returns-in_default c =
    let wanted = c.args.wanted.now in
    sym (none_keyed (objects c.args.scope.now) c.args.definers.now wanted.name.now wanted.class (option_map (λ x. x.now) wanted.version) c.args.start (length c.args.scope.now) c.requires.index (sym c.key_of.ensures ∙ c.in_default.is))

pub members_under-entry-items-requires : goal.members_under-entry-items-requires
members_under-entry-items-requires c = c.requires.index.rising

pub best_of-best-requires-clause-within : goal.best_of-best-requires-clause-within
best_of-best-requires-clause-within c =
    let os = objects c.args.scope.now in
    let items = c.members_under-entry-items.result.now in
    let all : All (λ (e : Entry). e.value < length os) items = c.members_under-entry-items.ensures.among (length os) c.requires.index.within in
    below_same _ _ _ (all c.loop-entry.entry-index _ c.loop-entry-test.true) (length_objects c.args.scope.now)

pub best_of-best-requires-clause-way : goal.best_of-best-requires-clause-way
best_of-best-requires-clause-way c = c.requires.index

pub loop-entry-preserved : goal.loop-entry-preserved
loop-entry-preserved c =
    let wanted = c.args.wanted.now in
    best_more (objects c.args.scope.now) wanted.name.now wanted.class (option_map (λ x. x.now) wanted.version) c.args.start c.members_under-entry-items.result.now c.loop-entry.entry-index _ c.loop-entry.best _ c.loop-entry-test.true
    c.loop-entry.invariant c.best_of-best.ensures

pub returns : goal.returns
returns c =
    let wanted = c.args.wanted.now in
    let os = objects c.args.scope.now in
    let version = option_map (λ x. x.now) wanted.version in
    best_done os wanted.name.now wanted.class version c.args.start c.members_under-entry-items.result.now c.loop-entry.entry-index (length c.args.scope.now) c.loop-entry.best c.loop-entry-test.false
    (sym (length_objects c.args.scope.now)) c.loop-entry.invariant
    (λ m f at. index_whole os c.args.definers.now wanted.name.now c.in-Some.key wanted.class version m f c.members_under-entry-items.result.now c.requires.index (sym c.key_of.ensures ∙ c.in-Some.is) c.members_under-entry-items.ensures at)
