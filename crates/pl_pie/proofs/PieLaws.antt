-- What is known of a position-independent program that can be fixed.
use Rattle.std.proofs.Common.{◌≡◌, ℕ, Bool, true, false, List, Some, None, Result, Ok, Err, refl, ap, subst, ◌∙◌}
use Rattle.std.specs.Prelude.{◌&&◌, ◌==◌, not, if◌then◌else◌}
use Rattle.std.proofs.lemmas.Bool.{false≢true, eqb-true}
use Rattle.pl_base.specs.Bytes.{word16}
use Rattle.pl_elf.specs.Headers.{header}
use Rattle.pl_elf.specs.Kinds.{is_program, is_static}
use Rattle.pl_elf.specs.declared.kind.Kind.{Kind}
use Rattle.pl_elf.specs.declared.kind.Kind.TheVariants.{Program, Library, Static}
use Rattle.pl_object.specs.Accepted.{Accepted}
use Rattle.pl_object.specs.Reads.{reads}
use Rattle.pl_object.specs.Reads as object
use Rattle.pl_object.specs.declared.object.Object.{Object}
use Rattle.pl_object.specs.declared.refusal.Refusal.{Refusal}
use Rattle.pl_object.proofs.AcceptedLaws.{accepted}
use Rattle.pl_pie.specs.Pie.{as_program, is_marked, is_laid_out, is_linked, is_pie, pie_by, pie}

pub and_both : (a b : Bool) → (a && b) ≡ true → (a ≡ true) × (b ≡ true)
and_both true b h = (refl, h)
and_both false b h = absurd (false≢true h)

pub not_true : (b : Bool) → not b ≡ true → b ≡ false
not_true true h = absurd (false≢true h)
not_true false h = refl

pub not_static : (k : Kind) → is_program k ≡ true → is_static k ≡ false
not_static Program h = refl
not_static Library h = absurd (false≢true h)
not_static Static h = absurd (false≢true h)

-- a program of which all the points hold
pub record IsPie (bytes : List ℕ) (o : Object) : Type 0 where
  pub read : reads (as_program bytes) ≡ Ok o
  pub accepted : Accepted (as_program bytes) o
  pub program : is_program o.kind ≡ true
  pub marked : is_marked bytes o ≡ true
  pub laid_out : is_laid_out bytes o ≡ true
  pub linked : is_linked o ≡ true

pie_points : (bytes : List ℕ) (o : Object) → reads (as_program bytes) ≡ Ok o → is_pie bytes o ≡ true → IsPie bytes o
unfolding is_pie
pie_points bytes o read is =
    let a = and_both (is_program o.kind && is_marked bytes o && is_laid_out bytes o) (is_linked o) is in
    let b = and_both (is_program o.kind && is_marked bytes o) (is_laid_out bytes o) a.0 in
    let c = and_both (is_program o.kind) (is_marked bytes o) b.0 in
    record { read = read; accepted = accepted (as_program bytes) o read; program = c.0; marked = c.1; laid_out = b.1; linked = a.1 }

pub pie_is : (bytes : List ℕ) (o : Object) → pie bytes ≡ Some o → IsPie bytes o
unfolding pie
pie_is bytes o h = of_read (reads (as_program bytes)) refl h
  where
    of_test : (x : Object) (b : Bool) → reads (as_program bytes) ≡ Ok x → is_pie bytes x ≡ b → (if b then Some x else None) ≡ Some o → (reads (as_program bytes) ≡ Ok o) × (is_pie bytes o ≡ true)
    of_test x false read is e = absurd cc
    of_test x true read is e = let same : x ≡ o = cc in (read ∙ ap (λ (y : Object). Ok y) same, subst (λ (y : Object). is_pie bytes y ≡ true) same is)

    all : (reads (as_program bytes) ≡ Ok o) × (is_pie bytes o ≡ true) → IsPie bytes o
    all both = pie_points bytes o both.0 both.1

    of_read : (r : Result Object Refusal) → reads (as_program bytes) ≡ r → pie_by bytes r ≡ Some o → IsPie bytes o
    of_read (Err fault) is e = absurd cc
    of_read (Ok x) is e = all (of_test x (is_pie bytes x) is refl e)

-- its type is that of a position-independent program
pub pie_type : (bytes : List ℕ) (o : Object) → IsPie bytes o → word16 16 bytes ≡ 3
unfolding is_marked object.is_pie header
pie_type bytes o is =
    eqb-true (word16 16 bytes) 3 (and_both (word16 16 bytes == 3) _ is.marked).0
