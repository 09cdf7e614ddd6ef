-- The alignment of accepted objects, and the span of accepted libraries.
use Rattle.std.proofs.Common.{◌≡◌, ℕ, ◌<◌, true, List, [], ◌∷◌, refl, arith}
use Rattle.std.specs.Prelude.{fold, max}
use Rattle.pl_elf.specs.Headers.{loads}
use Rattle.pl_elf.specs.Kinds.{is_library}
use Rattle.pl_elf.specs.declared.constants.TheConstants.{PAGE}
use Rattle.pl_elf.specs.declared.segment.Segment.{Segment}
use Rattle.pl_object.specs.Reads.{align}
use Rattle.pl_object.specs.declared.object.Object.{Object}
use Rattle.pl_object.proofs.AcceptedLaws.{accepted}
use Rattle.pl_scope.specs.Scope.{IsAccepted}

page_is : PAGE ≡ 4096
page_is = refl

above : (most : ℕ) (ss : List Segment) → 0 < most → 0 < fold (λ m s. max m s.align) most ss
above most [] some = some
above most (s ∷ ss) some = above (max most s.align) ss (omega (arith, some))

pub aligned : (o : Object) → IsAccepted o → 0 < o.align
unfolding align
aligned o is =
    let facts = accepted is.bytes o is.read in
    rw facts.align (above PAGE (loads o.segments) (omega (arith, page_is)))

pub spanned : (o : Object) → IsAccepted o → is_library o.kind ≡ true → 0 < o.span
spanned o is library = (accepted is.bytes o is.read).some library
