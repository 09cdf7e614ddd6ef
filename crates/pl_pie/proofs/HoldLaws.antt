-- What holds by a policy that is asked at most once.
use Rattle.std.proofs.Common.{List, Option, Some, None, refl, sym, ap, ◌∙◌}
use Rattle.pl_elf.specs.declared.range.Range.{Range}
use Rattle.pl_place.specs.Policy.{Answering, Choice, Follows}
use Rattle.pl_pie.specs.Placed.{AnswersSo, Asked, HoldsBy, WasAsked}

answers_so : (post : Answering) (choose : Choice) → Follows post choose → (asked : Option Asked) → WasAsked post asked → AnswersSo asked choose
answers_so post choose follows None was = tt
answers_so post choose follows (Some a) was =
    let call = was.0 in
    sym (follows call.0 a.span a.align a.answer call.2 ∙ ap (λ (holes : List Range). choose holes a.span a.align) call.1)

-- where the policy follows a function, it holds of that
pub by_function : {post : Answering} {P : Choice → Type 0} → HoldsBy post P → (choose : Choice) → Follows post choose → P choose
by_function {post} {P} h choose follows = h.holds choose (answers_so post choose follows h.asked h.was)

-- there is such a function, whatever the policy
constant : Option Asked → Choice
constant None holes span align = None
constant (Some a) holes span align = a.answer

constant_so : (asked : Option Asked) → AnswersSo asked (constant asked)
unfolding constant
constant_so None = tt
constant_so (Some a) = refl

pub by_some : {post : Answering} {P : Choice → Type 0} → HoldsBy post P → (choose : Choice) × P choose
by_some {post} {P} h = (constant h.asked, h.holds (constant h.asked) (constant_so h.asked))

-- what follows of each function
pub then_holds : {post : Answering} {P Q : Choice → Type 0} → HoldsBy post P → ((choose : Choice) → P choose → Q choose) → HoldsBy post Q
then_holds {post} {P} {Q} h next = record { asked = h.asked; was = h.was; holds = λ choose so. next choose (h.holds choose so) }

-- what holds of all functions
pub unasked : {post : Answering} {P : Choice → Type 0} → ((choose : Choice) → P choose) → HoldsBy post P
unasked {post} {P} all = record { asked = None; was = tt; holds = λ choose so. all choose }
