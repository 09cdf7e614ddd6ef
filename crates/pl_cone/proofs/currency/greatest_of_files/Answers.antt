use Rattle.std.proofs.Common.{◌≡◌, ℕ, ◌+◌, ◌<◌, ◌++◌, List, [], ◌∷◌, length, take, get_or, sym, ap, ◌∙◌, arith}
use Rattle.std.specs.Prelude.{fold, max}
use Rattle.std.proofs.lemmas.List.{take_more}
use Rattle.std.proofs.lemmas.List.Sums.{fold-append}
use Rattle.pl_cone.specs.Currency.{greatest_by, greatest_of_file}
use Rattle.pl_cone.specs.declared.taken.Taken.{Taken}
use Rattle.pl_cone.proofs.currency.greatest_of_files.Goals.{in-Some, in_default}
use Rattle.pl_cone.proofs.currency.greatest_of_files.Goals as goal

abbrev by_file : ℕ → Taken → ℕ
by_file most t = max most (greatest_of_file t)

step : (ts : List Taken) (i : ℕ) (t : Taken) (last : ℕ) → i < length ts → t ≡ get_or ts i t → fold by_file last (take (i + 1) ts) ≡ max (fold by_file last (take i ts)) (greatest_of_file t)
step ts i t last lt is = ap (λ (xs : List Taken). fold by_file last xs) (take_more ts i t lt ∙ ap (λ (x : Taken). take i ts ++ x ∷ []) (sym is)) ∙ fold-append by_file last (take i ts) (t ∷ [])

top : (m : ℕ) → max m 0 ≡ m
top m = omega arith

pub loop-taken-preserved : goal.loop-taken-preserved
loop-taken-preserved c =
    let ts = c.args.files.now in
    let i : ℕ = c.loop-taken.taken-index in
    let t : Taken = c.taken-item.result in
    let so_far : ℕ = fold by_file c.args.last (take i ts) in
    let next : fold by_file c.args.last (take (i + 1) ts) ≡ max so_far (greatest_of_file t) = step ts i t c.args.last c.loop-taken-test.true c.taken-item.is in
    elim c.match-marked.branch [
      | in-Some w ↦
          rw w.most-is (w.max-most.ensures ∙ (ap (λ (k : ℕ). max c.loop-taken.most k) (w.greatest_in.ensures ∙ ap greatest_by w.in-Some.ensures.value) ∙ (ap (λ (m : ℕ). max m (greatest_of_file t)) c.loop-taken.invariant ∙ sym next)))
      | in_default w ↦
          rw w.most-is (c.loop-taken.invariant ∙ (sym (top so_far) ∙ (ap (λ (k : ℕ). max so_far k) (ap greatest_by w.in_default.ensures.value) ∙ sym next)))
    ]
