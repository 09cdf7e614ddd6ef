-- What a program's relocations find, and the refusals of its walk, by the steps of its linking.
use Rattle.std.proofs.Common.{◌≡◌, ◌<◌, Bool, true, false, length, Result, Ok, Err, refl, sym, ap, ◌∙◌}
use Rattle.std.specs.Prelude.{MatchBool, ⊤}
use Rattle.pl_base.specs.Answers.{because}
use Rattle.pl_scope.specs.Walk.{Walked}
use Rattle.pl_tls.specs.Layout as tls
use Rattle.pl_tls.specs.declared.fault.TlsFault.{TlsFault}
use Rattle.pl_tls.specs.declared.fault.TlsFault.TheVariants.{TooLarge, NoMemory}
use Rattle.pl_value.specs.declared.fault.LinkFault.{LinkFault}
use Rattle.pl_scope.proofs.StepLaws.{err_ok}
use Rattle.pl_cone.specs.Candidates.{blocks, check_links, of_link}
use Rattle.pl_cone.specs.Links.{FindsOwn, IsLinkingAtZero, LinksProgram, first_rows, others_have, rows_have_in}
use Rattle.pl_cone.specs.Skips.{skip_is_memory, of_tls}
use Rattle.pl_cone.specs.declared.skip.Skip.{Skip}
use Rattle.pl_cone.specs.declared.scopes.WalkLinking.{WalkLinking}
use Rattle.pl_cone.proofs.ProgramLaws.{first_refuses, linked_stops, others_decide}

-- ---- refusals that are no want of memory

same_unless : (m : Bool) (skip : Skip) (a b : Result (Unit {0}) Skip) → (a ≡ Err skip → b ≡ Err skip) → MatchBool m ⊤ (a ≡ Err skip) → MatchBool m ⊤ (b ≡ Err skip)
same_unless true skip a b goes h = tt
same_unless false skip a b goes h = goes h

meant_anyway : (m : Bool) (skip : Skip) (r : Result (Unit {0}) Skip) → r ≡ Err skip → MatchBool m ⊤ (r ≡ Err skip)
meant_anyway true skip r is = tt
meant_anyway false skip r is = is

-- ---- thread-local storage

pub tls_refuses : (own : Walked) (e : TlsFault) → MatchBool (tls.is_memory e) ⊤ (tls.offsets (blocks own) ≡ Err e) → MatchBool (skip_is_memory (of_tls e)) ⊤ (check_links own ≡ Err (of_tls e))
tls_refuses own TooLarge is = linked_stops own TooLarge is
tls_refuses own NoMemory is = tt

-- ---- the first member

pub own_stops : (l : WalkLinking) (fault : LinkFault) (skip : Skip) → rows_have_in l (first_rows l) ≡ Err fault → skip ≡ of_link l.scope.now fault → FindsOwn l (Err skip)
own_stops l fault skip is same =
    meant_anyway (skip_is_memory skip) skip (because (of_link l.scope.now) (rows_have_in l (first_rows l))) (ap (because (of_link l.scope.now)) is ∙ ap (λ (s : Skip). Err s) (sym same))

-- ---- the whole walk

module _ (l : WalkLinking) (is : IsLinkingAtZero l) (some : 0 < length l.scope.now) where
  own_goes : (skip : Skip) (r : Result (Unit {0}) LinkFault) → rows_have_in l (first_rows l) ≡ r → because (of_link l.scope.now) r ≡ Err skip → check_links l.scope.now ≡ Err skip
  own_goes skip (Ok u) at stop = absurd (err_ok skip u (sym stop))
  own_goes skip (Err fault) at stop = first_refuses l.scope.now l refl is.places is.tls some fault at ∙ stop

  -- its own relocations refuse the walk
  pub own_refuses : (skip : Skip) → FindsOwn l (Err skip) → LinksProgram l.scope.now (Err skip)
  own_refuses skip stops =
      same_unless (skip_is_memory skip) skip (because (of_link l.scope.now) (rows_have_in l (first_rows l))) (check_links l.scope.now) (own_goes skip (rows_have_in l (first_rows l)) refl) stops

  -- and else those of the others decide
  pub others_are : rows_have_in l (first_rows l) ≡ Ok tt → check_links l.scope.now ≡ because (of_link l.scope.now) (others_have l)
  others_are first = others_decide l.scope.now l refl is.places is.tls some (others_have l) first refl

  others_refuse : (skip : Skip) → rows_have_in l (first_rows l) ≡ Ok tt → MatchBool (skip_is_memory skip) ⊤ (because (of_link l.scope.now) (others_have l) ≡ Err skip) → LinksProgram l.scope.now (Err skip)
  others_refuse skip first stops =
      same_unless (skip_is_memory skip) skip (because (of_link l.scope.now) (others_have l)) (check_links l.scope.now) (λ stop. others_are first ∙ stop) stops

  pub others_stop : (fault : LinkFault) (skip : Skip) → rows_have_in l (first_rows l) ≡ Ok tt → others_have l ≡ Err fault → skip ≡ of_link l.scope.now fault → LinksProgram l.scope.now (Err skip)
  others_stop fault skip first stop same =
      others_refuse skip first (meant_anyway (skip_is_memory skip) skip (because (of_link l.scope.now) (others_have l)) (ap (because (of_link l.scope.now)) stop ∙ ap (λ (s : Skip). Err s) (sym same)))
