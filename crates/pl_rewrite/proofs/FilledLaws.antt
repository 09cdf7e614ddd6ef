-- The fills that are made are those of a program's file.
use Rattle.std.proofs.Common.{◌≡◌, ℕ, true, false, List, [], ◌∷◌, ◌++◌, refl, sym, ap, subst, ◌∙◌, inl, inr}
use Rattle.std.specs.Prelude.{if◌then◌else◌}
use Rattle.std.specs.List.{AllZip}
use Rattle.std.proofs.lemmas.Bool.{cases_Bool}
use Rattle.pl_base.specs.Memory.{Memory, read}
use Rattle.pl_form.specs.Words.{has_place}
use Rattle.pl_form.specs.declared.file.Fill.{Fill}
use Rattle.pl_object.specs.declared.reloc.Reloc.{Reloc}
use Rattle.pl_rewrite.specs.Copies.{FillsBy, IsFill, given_places}
use Rattle.pl_rewrite.specs.Fills.{fill_at, fills}
use Rattle.pl_rewrite.specs.declared.copies.Filling.{Filling}
use Rattle.pl_value.specs.declared.meaning.Meaning.{Meaning}

-- what fills a place are the bytes of a memory there
abbrev pub IsOf : Filling → Memory → Reloc → Meaning → Type 0
IsOf f m r g = (bytes : List ℕ) → has_place r ≡ true → FillsBy f r g.word bytes → bytes ≡ read m r.address r.width

fills_first : (m : Memory) (r : Reloc) (rs : List Reloc) → has_place r ≡ true → fills m (r ∷ rs) ≡ fill_at m r ∷ fills m rs
unfolding fills
fills_first m r rs some = rw some refl

fills_later : (m : Memory) (r : Reloc) (rs : List Reloc) → has_place r ≡ false → fills m (r ∷ rs) ≡ fills m rs
unfolding fills
fills_later m r rs none = rw none refl

places_first : (r : Reloc) (g : Meaning) (rs : List Reloc) (gs : List Meaning) → has_place r ≡ true → given_places (r ∷ rs) (g ∷ gs) ≡ (r, g) ∷ given_places rs gs
unfolding given_places
places_first r g rs gs some = rw some refl

places_later : (r : Reloc) (g : Meaning) (rs : List Reloc) (gs : List Meaning) → has_place r ≡ false → given_places (r ∷ rs) (g ∷ gs) ≡ given_places rs gs
unfolding given_places
places_later r g rs gs none = rw none refl

none_made : (f : Filling) (m : Memory) (made : List Fill) → AllZip (IsFill f) [] made → made ≡ fills m []
unfolding fills
none_made f m [] zip = refl
none_made f m (x ∷ xs) zip = absurd zip

first_made : (f : Filling) (m : Memory) (r : Reloc) (g : Meaning) (ps : List (Reloc × Meaning)) (rest made : List Fill) → has_place r ≡ true → IsOf f m r g → ((xs : List Fill) → AllZip (IsFill f) ps xs → xs ≡ rest) → AllZip (IsFill f) ((r, g) ∷ ps) made → made ≡ fill_at m r ∷ rest
first_made f m r g ps rest [] some is later zip = absurd zip
first_made f m r g ps rest (x ∷ xs) some is later zip =
    ap (λ (n : ℕ). record { address = n; bytes = x.bytes } ∷ xs) zip.0.0 ∙ ap (λ (bs : List ℕ). record { address = r.address; bytes = bs } ∷ xs) (is x.bytes some zip.0.1)
    ∙ ap (λ (ys : List Fill). fill_at m r ∷ ys) (later xs zip.1)

nothing_of : (gs : List Meaning) → given_places [] gs ≡ []
unfolding given_places
nothing_of gs = refl

pub fills_same : (f : Filling) (m : Memory) (rs : List Reloc) (gs : List Meaning) (made : List Fill) → AllZip (IsOf f m) rs gs → AllZip (IsFill f) (given_places rs gs) made → made ≡ fills m rs
fills_same f m [] gs made each zip = none_made f m made (subst (λ ps. AllZip (IsFill f) ps made) (nothing_of gs) zip)
fills_same f m (r ∷ rs) [] made each zip = absurd each
fills_same f m (r ∷ rs) (g ∷ gs) made each zip = elim (cases_Bool (has_place r)) [
  | inl some ↦
      first_made f m r g (given_places rs gs) (fills m rs) made some each.0 (λ xs later. fills_same f m rs gs xs each.1 later) (subst (λ ps. AllZip (IsFill f) ps made) (places_first r g rs gs some) zip)
      ∙ sym (fills_first m r rs some)
  | inr none ↦
      fills_same f m rs gs made each.1 (subst (λ ps. AllZip (IsFill f) ps made) (places_later r g rs gs none) zip)
      ∙ sym (fills_later m r rs none)
]
