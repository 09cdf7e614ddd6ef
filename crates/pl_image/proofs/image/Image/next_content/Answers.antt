use Rattle.std.proofs.Common.{◌≡◌, ◌⊎◌, ◌^◌, inr, arith, sym, subst, List}
use Rattle.std.specs.List.{list_any}
use Rattle.pl_image.specs.declared.touched.Touch.{Touch}
use Rattle.pl_image.specs.Image.{Image, stores_in}
use Rattle.pl_image.specs.Index.{IsIndex}
use Rattle.pl_image.proofs.ByteLemmas.{own_clear}
use Rattle.pl_image.proofs.TouchLemmas.{word_found}
use Rattle.pl_image.proofs.image.Image.next_content.Goals as goal

pub returns-then-touched-from-clause-found : goal.returns-then-touched-from-clause-found
returns-then-touched-from-clause-found c = λ lt.
    let index = subst (λ (i : Image). IsIndex i.patches c.self.inside.touched.items) c.self.view_is c.self.invariant.index in
    let same : c.args.from ≡ c.next_touched-touched.result = omega (arith, c.if-touched-from.true) in
    word_found c.args.self.now.patches c.deref.result.now (λ n. list_any (stores_in n) c.args.pieces.now) (2 ^ 44) c.next_touched-touched.result c.args.from (2 ^ 44)
    (subst (λ (ts : List Touch). IsIndex c.args.self.now.patches ts) (sym c.deref.ensures.value) index) (inr same) (λ less. absurd (omega (arith, less))) c.next_touched-touched.ensures.found lt

pub returns-else-touched-from-clause-clear : goal.returns-else-touched-from-clause-clear
returns-else-touched-from-clause-clear c =
    let index = subst (λ (i : Image). IsIndex i.patches c.self.inside.touched.items) c.self.view_is c.self.invariant.index in
    own_clear c.args.self.now c.args.pieces.now c.deref.result.now c.args.from c.min.result c.requires.own (subst (λ (ts : List Touch). IsIndex c.args.self.now.patches ts) (sym c.deref.ensures.value) index)
    (λ a low high. c.next_stored.ensures.none a low (omega (arith, high, c.min.ensures))) (λ n low high. c.next_touched-touched.ensures.none n low (omega (arith, high, c.min.ensures)))

pub returns-else-touched-from-clause-found : goal.returns-else-touched-from-clause-found
returns-else-touched-from-clause-found c = λ lt.
    let index = subst (λ (i : Image). IsIndex i.patches c.self.inside.touched.items) c.self.view_is c.self.invariant.index in
    let either : (c.min.result ≡ c.next_stored.result) ⊎ (c.min.result ≡ c.next_touched-touched.result) = grind (arith, c.min.ensures) in
    word_found c.args.self.now.patches c.deref.result.now (λ n. list_any (stores_in n) c.args.pieces.now) c.next_stored.result c.next_touched-touched.result c.min.result (2 ^ 44)
    (subst (λ (ts : List Touch). IsIndex c.args.self.now.patches ts) (sym c.deref.ensures.value) index) either c.next_stored.ensures.found c.next_touched-touched.ensures.found lt
