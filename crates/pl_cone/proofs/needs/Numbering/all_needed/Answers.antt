use Rattle.std.proofs.Common.{◌≡◌, ◌∙◌, ◌++◌, ◌∷◌, [], ap, subst, ℕ, List, Vec, Global}
use Rattle.std.proofs.lemmas.List.{map_push}
use Rattle.pl_cone.specs.Needs.{Tell, items_of, words}
use Rattle.pl_cone.proofs.NeedLaws.{goes_on_trans, tell_all_more}
use Rattle.pl_cone.proofs.needs.Numbering.all_needed.Goals as goal

pub numbers_of-requires : goal.numbers_of-requires
numbers_of-requires c = record { numbers = c.loop-taken.invariant.numbers; few = c.loop-taken.invariant.few }

pub loop-taken-preserved : goal.loop-taken-preserved
loop-taken-preserved c =
    let old = words c.loop-taken.self.names.items in
    let new = words c.numbers_of.new.self.names.items in
    let told = c.in_ok-numbers_of.field-0 in
    let goes = c.in_ok-numbers_of.ensures.goes_on in
    let made : items_of c.push.new.self.items ≡ items_of c.loop-taken.needed.items ++ told.items ∷ [] = ap items_of c.in_ok-push.ensures.items ∙ map_push (λ (v : Vec ℕ Global). v.items) c.loop-taken.needed.items told in
    record {
      numbers = goes.is.numbers;
      goes_on = goes_on_trans (words c.args.self.now.names.items) old new c.loop-taken.invariant.goes_on goes.keep;
      few = goes.is.few;
      told = tell_all_more c.args.files.now old new c.loop-taken.taken-index c.taken-item.result told.items (items_of c.loop-taken.needed.items) (items_of c.push.new.self.items) c.loop-taken-test.true c.taken-item.is goes.keep
          (subst (λ (needed : List (List ℕ)). Tell new needed told.items) c.needed_by.ensures c.in_ok-numbers_of.ensures.told) made c.loop-taken.invariant.told;
    }

pub returns-clause-goes_on : goal.returns-clause-goes_on
returns-clause-goes_on c = record { is = record { numbers = c.loop-taken.invariant.numbers; few = c.loop-taken.invariant.few }; keep = c.loop-taken.invariant.goes_on }
