use Rattle.std.proofs.Common.{◌<◌, ℕ, List, length, subst, sym, slice_set}
use Rattle.pl_folder.specs.Calls.{Calls}
use Rattle.pl_folder.specs.Effects.{Asks}
use Rattle.pl_weave.specs.Opening.{Opened, OpensAt, asks_at}
use Rattle.pl_weave.specs.Taking.{ending}
use Rattle.pl_weave.specs.Running.{AreChosen}
use Rattle.pl_weave.proofs.ManyLaws.{asks_one, may_open, opens_at}
use Rattle.pl_weave.proofs.weave.Weave.open.Goals as goal

pub returns-clause-opens : goal.returns-clause-opens
returns-clause-opens g c =
    let w = c.self.inside.loaders.items in
    let lt : c.args.loader < length w = subst (λ (v : List (Opened _)). c.args.loader < length v) (sym c.self.view_is) c.requires.below in
    subst (λ (v : List (Opened _)). OpensAt (goal.F-post g) c.open.result c.args.loader v (slice_set w c.args.loader c.open.new.self) (g.T.Takes.seen c.args.held.now)) c.self.view_is
    (opens_at (goal.F-post g) w c.args.loader c.index_mut.result.now c.open.new.self c.open.result (g.T.Takes.seen c.args.held.now) lt c.index_mut.ensures.value c.open.ensures.opens)

pub returns-clause-calls : goal.returns-clause-calls
returns-clause-calls g c =
    let seen = g.T.Takes.seen in
    let w = c.self.inside.loaders.items in
    let lt : c.args.loader < length w = subst (λ (v : List (Opened _)). c.args.loader < length v) (sym c.self.view_is) c.requires.below in
    subst (λ (v : List (Opened _)). Calls (ending c.open.result) (Asks (asks_at v c.args.loader)) (seen c.args.held.now) (seen c.open.new.held)) c.self.view_is
    (subst (λ (n : ℕ). Calls (ending c.open.result) (Asks n) (seen c.args.held.now) (seen c.open.new.held)) (asks_one w c.args.loader c.index_mut.result.now lt c.index_mut.ensures.value) c.open.ensures.calls)

pub open-requires : goal.open-requires
open-requires g c =
    let w = c.self.inside.loaders.items in
    let lt : c.args.loader < length w = subst (λ (v : List (Opened _)). c.args.loader < length v) (sym c.self.view_is) c.requires.below in
    let chosen : AreChosen (goal.F-pre g) (goal.F-post g) w = subst (λ (v : List (Opened _)). AreChosen (goal.F-pre g) (goal.F-post g) v) (sym c.self.view_is) c.requires.chosen in
    may_open (goal.F-pre g) (goal.F-post g) w c.args.loader c.index_mut.result.now chosen lt c.index_mut.ensures.value
