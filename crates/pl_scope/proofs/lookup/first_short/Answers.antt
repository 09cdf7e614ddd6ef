use Rattle.std.proofs.Common.{◌≡◌, ℕ, ◌<◌, ◌^◌, ◌∙◌, length, refl, sym, ap, subst, arith}
use Rattle.std.specs.Option.{option_map}
use Rattle.pl_scope.specs.Definers.{pair}
use Rattle.pl_scope.specs.Entries.{AreBetween}
use Rattle.pl_scope.specs.Scope.{objects}
use Rattle.pl_scope.specs.ShortIndex.{mixed, end_of_hash}
use Rattle.pl_scope.proofs.MemberLaws.{length_objects}
use Rattle.pl_scope.proofs.ScopeIndexLaws.{best_none}
use Rattle.pl_scope.proofs.ShortIndexLaws.{short_done, short_more, short_whole}
use Rattle.pl_scope.proofs.lookup.first_short.Goals as goal

pub under_hash-entries-requires : goal.under_hash-entries-requires
under_hash-entries-requires c = c.requires.index.definers.rising

pub best_under-best-requires-clause-under : goal.best_under-best-requires-clause-under
best_under-best-requires-clause-under c =
    let es = c.args.definers.now.definers.entries.items in
    let items = c.under_hash-entries.result.now in
    let hash = c.mixed.result in
    let all : c.count-count.result ≡ length (objects c.args.scope.now) = omega (arith, length_objects c.args.scope.now, c.count-count.ensures.count) in
    let between = subst (λ (n : ℕ). AreBetween es (pair hash 0) (end_of_hash hash n) items) all c.under_hash-entries.ensures in
    record { index = c.requires.index; entries = subst (λ (h : ℕ). AreBetween es (pair h 0) (end_of_hash h (length (objects c.args.scope.now))) items) c.mixed.ensures between }

pub loop-entry-init : goal.loop-entry-init
loop-entry-init c =
    let wanted = c.args.wanted.now in
    best_none (objects c.args.scope.now) wanted.name.now wanted.class (option_map (λ x. x.now) wanted.version) c.args.start _ refl

pub loop-entry-preserved : goal.loop-entry-preserved
loop-entry-preserved c =
    short_more (objects c.args.scope.now) c.args.wanted.now c.args.start c.under_hash-entries.result.now c.loop-entry.entry-index _ c.loop-entry.best _ c.loop-entry-test.true c.loop-entry.invariant c.best_under-best.ensures

pub returns : goal.returns
returns c =
    let wanted = c.args.wanted.now in
    let os = objects c.args.scope.now in
    let version = option_map (λ x. x.now) wanted.version in
    let items = c.under_hash-entries.result.now in
    let power : 2 ^ 32 ≡ 4294967296 = refl in
    let all : c.count-count.result ≡ length os = omega (arith, length_objects c.args.scope.now, c.count-count.ensures.count) in
    let few : c.count-count.result < 2 ^ 32 = omega (arith, power) in
    short_done os wanted c.args.start items c.loop-entry.entry-index (length c.args.scope.now) c.loop-entry.best c.loop-entry-test.false (sym (length_objects c.args.scope.now)) c.loop-entry.invariant
    (λ m f at. short_whole os c.args.definers.now wanted.name.now c.mixed.result c.count-count.result wanted.class version m f items c.requires.index (c.mixed.ensures ∙ ap mixed c.requires.wanted.gnu) all few c.under_hash-entries.ensures at)
