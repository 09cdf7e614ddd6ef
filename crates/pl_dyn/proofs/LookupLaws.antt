-- When a tag is found.
use Rattle.std.proofs.Common.{◌≡◌, ◌≢◌, ◌↔◌, ℕ, List, [], ◌∷◌, true, false, ◌||◌, cond, Option, Some, refl, sym, ◌∙◌}
use Rattle.std.proofs.lemmas.Bool.{true≢false, eq-eqb, ne_eqb}
use Rattle.std.proofs.lemmas.List.Folds.{list_any_at, list_any_none}
use Rattle.std.specs.List.{All, find, list_any}
use Rattle.std.specs.Option.{IsNone, is_some}
use Rattle.pl_dyn.specs.declared.tags.Tag.{Tag}
use Rattle.pl_dyn.specs.Read.{has_number, first_of, value_in, value_of}

found : (number : ℕ) (ts : List Tag) → is_some (value_of number ts) ≡ list_any (has_number number) ts
unfolding value_of first_of
found number [] = refl
found number (t ∷ ts) =
    elim (has_number number t) as (λ b. is_some (value_in (cond b (Some t) (find (has_number number) ts))) ≡ (b || list_any (has_number number) ts)) [
      | true ↦ refl
      | false ↦ found number ts
    ]

-- a tag has no value exactly where no entry has it
pub absent : (o : Option ℕ) (number : ℕ) (ts : List Tag) → o ≡ value_of number ts → IsNone o ↔ All (λ tag. tag.number ≢ number) ts
absent o number ts is =
    let same : is_some o ≡ list_any (has_number number) ts = rw is (found number ts) in (
      λ none k d lt hit. true≢false (sym (list_any_at (has_number number) ts k d lt (eq-eqb _ _ hit)) ∙ (sym same ∙ none)),
      λ all. same ∙ list_any_none (has_number number) ts (λ k d lt. ne_eqb _ _ (all k d lt)),
    )
