use Rattle.std.proofs.Common.{ℕ, List, sym, ◌∙◌, ap, Some, slice_get}
use Rattle.std.specs.Prelude.{IsSome}
use Rattle.pl_hash.specs.Chain.{chain}
use Rattle.pl_hash.proofs.ChainSymbolLaws.{IsLinked-from, opens, none_left, hit, miss, still_ends, fewer_left}
use Rattle.pl_hash.proofs.lookup.first_matching.Goals as goal

pub matches-requires-clause-linked : goal.matches-requires-clause-linked
matches-requires-clause-linked c =
    let t = c.args.table.now in
    let ends : IsSome (chain t (Some c.in-Some.index)) = rw c.in-Some.is at c.loop-at.invariant.0 in
    IsLinked-from t c.in-Some.index (opens t c.in-Some.index ends).linked

pub returns-then-matches : goal.returns-then-matches
returns-then-matches c =
    let t = c.args.table.now in
    let ends : IsSome (chain t (Some c.in-Some.index)) = rw c.in-Some.is at c.loop-at.invariant.0 in
    sym (hit t c.args.hash c.in-Some.index ends (sym c.if-matches.ensures)) ∙ rw c.in-Some.is at c.loop-at.invariant.1

pub following-at-requires-clause-linked : goal.following-at-requires-clause-linked
following-at-requires-clause-linked c =
    let t = c.args.table.now in
    let ends : IsSome (chain t (Some c.in-Some.index)) = rw c.in-Some.is at c.loop-at.invariant.0 in
    IsLinked-from t c.in-Some.index (opens t c.in-Some.index ends).linked

pub loop-at-smaller : goal.loop-at-smaller
loop-at-smaller c =
    let t = c.args.table.now in
    let ends : IsSome (chain t (Some c.in-Some.index)) = rw c.in-Some.is at c.loop-at.invariant.0 in
    rw (c.following-at.ensures, c.in-Some.is) (fewer_left t c.in-Some.index ends)

pub loop-at-preserved : goal.loop-at-preserved
loop-at-preserved c =
    let t = c.args.table.now in
    let ends : IsSome (chain t (Some c.in-Some.index)) = rw c.in-Some.is at c.loop-at.invariant.0 in
    rw c.following-at.ensures (
      still_ends t c.in-Some.index ends,
      sym (ap (λ (xs : List ℕ). slice_get xs 0) (miss t c.args.hash c.in-Some.index ends (sym c.if-matches.ensures))) ∙ rw c.in-Some.is at c.loop-at.invariant.1,
    )

pub returns : goal.returns
returns c = sym (none_left c.args.table.now c.args.hash) ∙ rw c.in_default.is at c.loop-at.invariant.1
