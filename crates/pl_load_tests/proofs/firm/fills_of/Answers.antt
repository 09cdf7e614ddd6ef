use Rattle.std.proofs.Common.{◌≡◌, ℕ, ◌+◌, ◌<◌, ◌≤◌, true, false, List, [], ◌∷◌, ◌++◌, length, get_or, drop, refl, sym, ap, ◌∙◌, append_assoc, inl, inr}
use Rattle.std.specs.Prelude.{map, filter}
use Rattle.std.proofs.lemmas.Bool.{cases_Bool}
use Rattle.std.proofs.lemmas.List.{append-nil, at_drop_more, at_drop_all}
use Rattle.pl_base.specs.Windows.{Window}
use Rattle.pl_form.specs.Words.{has_place}
use Rattle.pl_object.specs.Relocations.{places}
use Rattle.pl_object.specs.declared.reloc.Reloc.{Reloc}
use Rattle.pl_load_tests.proofs.firm.fills_of.Goals as goal

abbrev placed : List Reloc → List Window
placed rs = places (filter has_place rs)

one_then : (r : Reloc) (rs : List Reloc) → placed (r ∷ rs) ≡ placed (r ∷ []) ++ placed rs
one_then r rs = elim (cases_Bool (has_place r)) [
  | inl hit ↦ rw hit refl
  | inr miss ↦ rw miss refl
]

more : (rs : List Reloc) (i : ℕ) (d : Reloc) (out new whole : List Window) → i < length rs → new ≡ out ++ placed (get_or rs i d ∷ []) → out ++ placed (drop i rs) ≡ whole → new ++ placed (drop (i + 1) rs) ≡ whole
more rs i d out new whole lt step so_far =
    let one : placed (drop i rs) ≡ placed (get_or rs i d ∷ []) ++ placed (drop (i + 1) rs) = at_drop_more placed rs i d lt ∙ one_then (get_or rs i d) (drop (i + 1) rs) in
    ap (λ (u : List Window). u ++ placed (drop (i + 1) rs)) step ∙ append_assoc out (placed (get_or rs i d ∷ [])) (placed (drop (i + 1) rs)) ∙ sym (ap (λ (u : List Window). out ++ u) one) ∙ so_far

done : (rs : List Reloc) (i : ℕ) (out whole : List Window) → length rs ≤ i → out ++ placed (drop i rs) ≡ whole → out ≡ whole
done rs i out whole le so_far = sym (append-nil out) ∙ sym (ap (λ (u : List Window). out ++ u) (at_drop_all placed rs i le)) ∙ so_far

pub loop-reloc-preserved : goal.loop-reloc-preserved
loop-reloc-preserved c = more c.args.relocations.now _ _ _ _ _ c.loop-reloc-test.true c.in_ok-push_fill.ensures c.loop-reloc.invariant

pub returns : goal.returns
returns c = done c.args.relocations.now _ _ _ c.loop-reloc-test.false c.loop-reloc.invariant
