use Rattle.std.proofs.Common.{◌≡◌, ℕ, ◌<◌, List, length, Some, Result, Err, refl, sym, ap, ◌∙◌, subst, arith}
use Rattle.std.specs.Prelude.{MatchBool, ⊤, slice_get}
use Rattle.std.proofs.lemmas.List.{take_all}
use Rattle.std.proofs.lemmas.Option.{slice_get_read}
use Rattle.std.proofs.lemmas.Result.{err_from_is_err_and}
use Rattle.pl_cone.specs.Needs.{AreNameNumbers, IsMore, entered, entered_at, name_of, object_by_number, state}
use Rattle.pl_base.specs.Answers.{◌>>=◌, because}
use Rattle.pl_cone.specs.Skips.{of_walk, skip_is_memory}
use Rattle.pl_cone.specs.declared.needs.Needs.{Needs}
use Rattle.pl_cone.specs.declared.skip.Skip.{Skip}
use Rattle.pl_cone.specs.declared.walking.NumberWalk.{NumberWalk}
use Rattle.pl_object.specs.declared.object.Object.{Object}
use Rattle.pl_scope.specs.Walk as scope
use Rattle.pl_cone.proofs.WalkingLaws.{enter_by, enter_checks, needed_is, answers_err}
use Rattle.pl_cone.proofs.walking.NumberWalk.enter.Goals as goal

same_walk : (w : NumberWalk) → IsMore w w
same_walk w = record { walk = refl; front = take_all (length w.numbers.items) w.numbers.items (omega arith) }

-- where an index has no object the walk stops
enter_stops : (n : Needs) (index : ℕ) (w : NumberWalk) (number : ℕ) → slice_get w.numbers.items index ≡ Some number → (e : Skip) → MatchBool (skip_is_memory e) ⊤ (object_by_number n number ≡ Err e) → MatchBool (skip_is_memory e) ⊤ (entered n index w ≡ Err e)
enter_stops n index w number at e =
    answers_err e (object_by_number n number) (entered n index w)
    (λ refused. ap (entered_at n index w) at ∙ ap (λ (r : Result Object Skip). r >>= λ o. because of_walk (scope.entered (state n index w) (name_of n number) o)) refused)

pub check-requires-clause-walking : goal.check-requires-clause-walking
check-requires-clause-walking c = c.requires

pub append-requires-clause-walking : goal.append-requires-clause-walking
append-requires-clause-walking c = c.requires

pub returns-in_err-check-clause-state : goal.returns-in_err-check-clause-state
returns-in_err-check-clause-state c =
    let w = c.args.self.now in
    let number = c.index-number.result.now in
    let lt : c.args.index < length w.numbers.items = omega (arith, c.if-index-len.false, c.len.ensures, w.numbers.ok) in
    let at : slice_get w.numbers.items c.args.index ≡ Some number = slice_get_read w.numbers.items (length w.numbers.items) c.args.index number refl lt c.index-number.ensures in
    let p = err_from_is_err_and c.from_residual-in_err-check.result c.from_residual-in_err-check.ensures.1 in
    rw (p.1, p.2) (enter_checks c.args.needs.now c.requires.needs c.args.index w number c.in_ok-object.object.now at c.in_ok-object.ensures.ok _ c.in_err-check.ensures)

pub append-requires-clause-needed : goal.append-requires-clause-needed
append-requires-clause-needed c =
    let number = c.index-number.result.now in
    subst (λ (xs : List ℕ). AreNameNumbers c.args.needs.now xs) (sym c.of_row.ensures) (needed_is c.args.needs.now c.requires.needs number c.in_ok-object.object.now c.in_ok-object.ensures.ok).within

pub returns-clause-state : goal.returns-clause-state
returns-clause-state c =
    let w = c.args.self.now in
    let number = c.index-number.result.now in
    let lt : c.args.index < length w.numbers.items = omega (arith, c.if-index-len.false, c.len.ensures, w.numbers.ok) in
    let at : slice_get w.numbers.items c.args.index ≡ Some number = slice_get_read w.numbers.items (length w.numbers.items) c.args.index number refl lt c.index-number.ensures in
    enter_by c.args.needs.now c.requires.needs c.args.index w number c.in_ok-object.object.now at c.in_ok-object.ensures.ok c.append.new.self c.append.result c.of_row.result.now c.of_row.ensures c.append.ensures.more c.in_ok-check.ensures c.append.ensures.names

pub returns-then-index-len-clause-walking : goal.returns-then-index-len-clause-walking
returns-then-index-len-clause-walking c = c.requires.walking

pub returns-then-index-len-clause-more : goal.returns-then-index-len-clause-more
returns-then-index-len-clause-more c = same_walk c.args.self.now

pub returns-in_err-object-clause-walking : goal.returns-in_err-object-clause-walking
returns-in_err-object-clause-walking c = c.requires.walking

pub returns-in_err-object-clause-more : goal.returns-in_err-object-clause-more
returns-in_err-object-clause-more c = same_walk c.args.self.now

pub returns-in_err-object-clause-state : goal.returns-in_err-object-clause-state
returns-in_err-object-clause-state c =
    let w = c.args.self.now in
    let number = c.index-number.result.now in
    let lt : c.args.index < length w.numbers.items = omega (arith, c.if-index-len.false, c.len.ensures, w.numbers.ok) in
    let at : slice_get w.numbers.items c.args.index ≡ Some number = slice_get_read w.numbers.items (length w.numbers.items) c.args.index number refl lt c.index-number.ensures in
    let p = err_from_is_err_and c.from_residual.result c.from_residual.ensures.1 in
    rw (p.1, p.2) (enter_stops c.args.needs.now c.args.index w number at _ c.in_err-object.ensures.err)

pub returns-in_err-check-clause-walking : goal.returns-in_err-check-clause-walking
returns-in_err-check-clause-walking c = c.requires.walking

pub returns-in_err-check-clause-more : goal.returns-in_err-check-clause-more
returns-in_err-check-clause-more c = same_walk c.args.self.now

pub returns-clause-walking : goal.returns-clause-walking
returns-clause-walking c = c.append.ensures.walking

pub returns-clause-more : goal.returns-clause-more
returns-clause-more c = c.append.ensures.more
