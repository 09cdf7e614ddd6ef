-- Own words one relocation after the other.
use Rattle.std.proofs.Common.{◌≡◌, ℕ, zero, suc, ◌+◌, ◌<◌, true, false, List, [], ◌∷◌, ◌++◌, length, map, take, get_or, Option, None, refl, sym, ap, ◌∙◌, arith, inl, inr}
use Rattle.std.specs.List.{AllZip}
use Rattle.std.specs.Prelude.{◌==◌}
use Rattle.std.proofs.lemmas.Bool.{cases_Bool}
use Rattle.std.proofs.lemmas.List.{map-append, take_more}
use Rattle.pl_elf.specs.declared.constants.TheConstants.{R_X86_64_RELATIVE}
use Rattle.pl_object.specs.declared.object.Object.{Object}
use Rattle.pl_object.specs.declared.reloc.Reloc.{Reloc}
use Rattle.pl_scope.specs.Finds.{finds}
use Rattle.pl_scope.specs.declared.found.Found.{Found}
use Rattle.pl_value.specs.Definers.{IsSought}
use Rattle.pl_value.specs.Values.{reference, value_of}
use Rattle.pl_conflict.specs.Own.{put_in, is_of_start, lacks_definer, own_word}

-- what is sought tells whether there is a definer
same_lack : (objects : List Object) (r : Reloc) (found : Option Found) → IsSought objects (reference 0 r) found → lacks_definer r found ≡ lacks_definer r (finds objects (reference 0 r))
unfolding lacks_definer
same_lack objects r found sought = elim (cases_Bool (r.symbol == 0)) [
  | inl none ↦ elim (cases_Bool (r.kind == R_X86_64_RELATIVE)) [
    | inl kind ↦ rw (none, kind) refl
    | inr kind ↦ rw (none, kind) refl
  ]
  | inr some ↦ rw (sought some) refl
]

pub own_none : (objects : List Object) (places : List ℕ) (r : Reloc) (found : Option Found) → IsSought objects (reference 0 r) found → is_of_start r.kind ≡ false → lacks_definer r found ≡ true → own_word objects places r ≡ None
unfolding own_word
own_none objects places r found sought start lack = rw (start, sym (same_lack objects r found sought) ∙ lack) refl

pub own_put : (objects : List Object) (places : List ℕ) (r : Reloc) (found : Option Found) → IsSought objects (reference 0 r) found → is_of_start r.kind ≡ false → lacks_definer r found ≡ false → own_word objects places r ≡ put_in (value_of objects places [] 0 r)
unfolding own_word
own_put objects places r found sought start lack = rw (start, sym (same_lack objects r found sought) ∙ lack) refl

pub words_more : (f : Reloc → Option ℕ) (rs : List Reloc) (i : ℕ) (d : Reloc) (front new : List (Option ℕ)) (word : Option ℕ) → i < length rs → word ≡ f (get_or rs i d) → new ≡ front ++ word ∷ [] → front ≡ map f (take i rs) → new ≡ map f (take (i + 1) rs)
words_more f rs i d front new word lt is more so_far =
    more ∙ ap (λ (w : Option ℕ). front ++ w ∷ []) is ∙ ap (λ (ws : List (Option ℕ)). ws ++ f (get_or rs i d) ∷ []) so_far
    ∙ sym (map-append f (take i rs) (get_or rs i d ∷ [])) ∙ ap (map f) (sym (take_more rs i d lt))

-- what a relocation of an index finds
pub sought_at : (objects : List Object) (rs : List Reloc) (found : List (Option Found)) (i : ℕ) (d : Reloc) (e : Option Found) → AllZip (λ r f. IsSought objects (reference 0 r) f) rs found → i < length rs → IsSought objects (reference 0 (get_or rs i d)) (get_or found i e)
sought_at objects [] found i d e zip lt = absurd (omega (arith, lt))
sought_at objects (r ∷ rs) [] i d e zip lt = absurd zip
sought_at objects (r ∷ rs) (f ∷ fs) zero d e zip lt = zip.0
sought_at objects (r ∷ rs) (f ∷ fs) (suc i) d e zip lt = sought_at objects rs fs i d e zip.1 (omega (arith, lt))
