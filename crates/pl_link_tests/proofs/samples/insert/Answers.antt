use Rattle.std.proofs.Common.{◌≡◌, List, [], ◌∷◌, Bool, true, false, sym, subst, inl, inr}
use Rattle.std.specs.List.{All}
use Rattle.std.proofs.lemmas.Bool.{cases_Bool}
use Rattle.std.proofs.lemmas.List.Elements.{All-cons, All-head, All-nil, All-tail}
use Rattle.std.specs.Map.{values_of}
use Rattle.indexmap.specs.IndexMap.{insert_entry}
use Rattle.pl_scope.specs.Scope.{IsAccepted}
use Rattle.pl_link_tests.proofs.samples.insert.Goals as goal

-- what all values of a map are, they are after one more was inserted that is so
module _ {K X : Type 0} (eq : K → K → Bool) (P : X → Type 0) (key : K) (value : X) (is : P value) where
  insert_keeps : (es : List (K × X)) → All P (values_of es) → All P (values_of (insert_entry eq es key value))
  insert_keeps [] all = All-cons P value [] is (All-nil P)
  insert_keeps (e ∷ es) all = elim (cases_Bool (eq key e.0)) [
    | inl same ↦ rw same (All-cons P value (values_of es) is (All-tail P e.1 (values_of es) all))
    | inr other ↦ rw other (All-cons P e.1 (values_of (insert_entry eq es key value)) (All-head P e.1 (values_of es) all) (insert_keeps es (All-tail P e.1 (values_of es) all)))
  ]

pub returns : goal.returns
returns c = subst (λ es. All IsAccepted (values_of es)) (sym c.in_ok-insert.ensures.entries) (insert_keeps _ IsAccepted _ _ c.in_ok-object.ensures _ c.requires)
