use Rattle.std.proofs.Common.{◌≡◌, ◌+◌, ℕ, List, [], false, length, sym, ap, subst, ◌∙◌, arith}
use Rattle.std.specs.Vec.Iter.{into_iter_items, into_iter_len}
use Rattle.std.proofs.lemmas.Iterator.Adapters.{YieldsList-from_vec}
use Rattle.std.proofs.lemmas.Iterator.Consumers.{YieldsList-end, YieldsList-turn}
use Rattle.std.proofs.lemmas.List.{length_push}
use Rattle.std.proofs.lemmas.Slice.Zip.{AllZip-long}
use Rattle.pl_cone.specs.Taken.{HasItsEntry}
use Rattle.pl_rewrite.specs.Outcomes.{MayBe, made_by, with_made}
use Rattle.pl_rewrite.specs.declared.rewriting.Made.{Made}
use Rattle.pl_rewrite.specs.declared.rewriting.MadeFiles.{MadeFiles}
use Rattle.pl_rewrite.proofs.FinishingLaws.{made_begin, made_next, made_whole, more_left, next_is, some_left}
use Rattle.pl_rewrite.proofs.rewriting.all_made.Goals as goal

pub loop-taken-init : goal.loop-taken-init
loop-taken-init c =
    let os = c.args.outcomes in
    let count : into_iter_len c.into_iter-outcomes.result + 0 ≡ length os.items = omega (arith, c.into_iter-outcomes.ensures.len, os.ok.0) in
    (made_begin c.new.result c.new-2.result c.args.files os.items c.new.ensures c.new-2.ensures, c.into_iter-outcomes.ensures.rest, count)

pub made_last-made-requires-clause-read : goal.made_last-made-requires-clause-read
made_last-made-requires-clause-read c =
    let given = c.into_iter-taken-iterator.ensures.into_iter_gives in
    let items = c.into_vec-items.ensures in
    let turn = YieldsList-turn (YieldsList-from_vec {s = c.into_iter-taken-iterator.result} c.args.files (given.0 ∙ items) (given.1 ∙ (c.into_vec-items.result.ok.0 ∙ ap length items))) c.loop-taken.yielded c.loop-taken.taken-iterator c.loop-taken.yielded_by c.next.result c.next.new.self c.in-Some.taken c.in-Some.is c.next.ensures.steps in
    subst HasItsEntry (sym turn.1) (c.requires.read (length c.loop-taken.yielded) c.in-Some.taken turn.0)

pub made_last-made-requires-clause-may : goal.made_last-made-requires-clause-may
made_last-made-requires-clause-may c =
    let ts = c.args.files in
    let os = c.args.outcomes.items in
    let given = c.into_iter-taken-iterator.ensures.into_iter_gives in
    let items = c.into_vec-items.ensures in
    let turn = YieldsList-turn (YieldsList-from_vec {s = c.into_iter-taken-iterator.result} ts (given.0 ∙ items) (given.1 ∙ (c.into_vec-items.result.ok.0 ∙ ap length items))) c.loop-taken.yielded c.loop-taken.taken-iterator c.loop-taken.yielded_by c.next.result c.next.new.self c.in-Some.taken c.in-Some.is c.next.ensures.steps in
    let i = length c.loop-taken.yielded in
    (next_is MayBe ts os i c.in-Some.taken c.in-Some-next.outcome (into_iter_items c.next-in-loop-taken.new.self) c.requires.may turn.0 turn.1 (sym c.loop-taken.invariant.1 ∙ c.in-Some-next.ensures.cases.0)).decided

pub loop-taken-preserved-in_ok-add_made : goal.loop-taken-preserved-in_ok-add_made
loop-taken-preserved-in_ok-add_made c =
    let ts = c.args.files in
    let os = c.args.outcomes.items in
    let given = c.into_iter-taken-iterator.ensures.into_iter_gives in
    let items = c.into_vec-items.ensures in
    let turn = YieldsList-turn (YieldsList-from_vec {s = c.into_iter-taken-iterator.result} ts (given.0 ∙ items) (given.1 ∙ (c.into_vec-items.result.ok.0 ∙ ap length items))) c.loop-taken.yielded c.loop-taken.taken-iterator c.loop-taken.yielded_by c.next.result c.next.new.self c.in-Some.taken c.in-Some.is c.next.ensures.steps in
    let i = length c.loop-taken.yielded in
    let t = c.in-Some.taken in
    let rest = into_iter_items c.next-in-loop-taken.new.self in
    let o = c.in-Some-next.outcome in
    let n = next_is MayBe ts os i t o rest c.requires.may turn.0 turn.1 (sym c.loop-taken.invariant.1 ∙ c.in-Some-next.ensures.cases.0) in
    let count : into_iter_len c.next-in-loop-taken.new.self + (i + 1) ≡ length os = omega (arith, c.in-Some-next.ensures.cases.1, c.loop-taken.invariant.2) in
    let none : MadeFiles = record { rows = []; states = []; given = false } in
    let next = made_next none ts os i t o turn.0 (AllZip-long MayBe ts os c.requires.may) turn.1 n.that in
    rw (length_push c.loop-taken.yielded t) (
      c.in_ok-add_made.ensures ∙ ap (λ (k : List ℕ). with_made c.loop-taken.all k c.in_ok-made.field-0) c.name_of-name.ensures
          ∙ (ap (λ (m : Made). with_made c.loop-taken.all t.name m) c.in_ok-made.ensures ∙ (ap (λ (x : MadeFiles). with_made x t.name (made_by t o)) c.loop-taken.invariant.0 ∙ sym next)),
      more_left os rest i n.left,
      count,
    )

pub loop-taken-preserved : goal.loop-taken-preserved
loop-taken-preserved c =
    let ts = c.args.files in
    let os = c.args.outcomes.items in
    let given = c.into_iter-taken-iterator.ensures.into_iter_gives in
    let items = c.into_vec-items.ensures in
    let turn = YieldsList-turn (YieldsList-from_vec {s = c.into_iter-taken-iterator.result} ts (given.0 ∙ items) (given.1 ∙ (c.into_vec-items.result.ok.0 ∙ ap length items))) c.loop-taken.yielded c.loop-taken.taken-iterator c.loop-taken.yielded_by c.next.result c.next.new.self c.in-Some.taken c.in-Some.is c.next.ensures.steps in
    let i = length c.loop-taken.yielded in
    absurd (some_left MayBe ts os i (into_iter_len c.loop-taken.outcomes) c.requires.may turn.0 c.loop-taken.invariant.2 c.in_default.ensures.cases.0)

pub returns : goal.returns
returns c =
    let ts = c.args.files in
    let os = c.args.outcomes.items in
    let given = c.into_iter-taken-iterator.ensures.into_iter_gives in
    let items = c.into_vec-items.ensures in
    let end = YieldsList-end (YieldsList-from_vec {s = c.into_iter-taken-iterator.result} ts (given.0 ∙ items) (given.1 ∙ (c.into_vec-items.result.ok.0 ∙ ap length items))) c.loop-taken.yielded c.loop-taken.taken-iterator c.loop-taken.yielded_by c.next.result c.next.new.self c.in-None.is c.next.ensures.steps in
    c.loop-taken.invariant.0 ∙ made_whole _ ts os (length c.loop-taken.yielded) (omega (arith, end.1)) (AllZip-long MayBe ts os c.requires.may)
