-- What rows make of files of which only some are made.
use Rattle.std.proofs.Common.{◌≡◌, ℕ, ◌+◌, ◌&&◌, Bool, true, List, [], ◌∷◌, ◌++◌, Option, Some, None, refl, sym, ◌∙◌, subst, inl, inr, ⊎_elim}
use Rattle.std.proofs.lemmas.Bool.{and_parts, cases_Bool, cond-false, cond-true}
use Rattle.std.specs.Prelude.{◌⊎◌}
use Rattle.pl_folder.specs.Disk.{Name, View, same}
use Rattle.pl_journal.specs.Meaning.{mixed}
use Rattle.pl_journal.specs.declared.change.Change.{Change}
use Rattle.pl_journal.specs.declared.change.Change.TheVariants.{Drop, Put}
use Rattle.pl_journal.proofs.NameLemmas.{equal}

-- each of these rows gives its name a file, or none, of which R holds
abbrev pub Each : (Name → Option (List ℕ) → Type 0) → List Change → Type 0
Each R [] = Unit {0}
Each R (Put name bytes ∷ rows) = R name (Some bytes) × Each R rows
Each R (Drop name ∷ rows) = R name None × Each R rows

module _ (R : Name → Option (List ℕ) → Type 0) where
  pub each_append : (rows more : List Change) → Each R rows → Each R more → Each R (rows ++ more)
  each_append [] more one two = two
  each_append (Put name bytes ∷ rows) more one two = (one.0, each_append rows more one.1 two)
  each_append (Drop name ∷ rows) more one two = (one.0, each_append rows more one.1 two)

  hit : (name : Name) (file : Option (List ℕ)) (n : Name) (k : Bool) (r : Option (List ℕ)) → (k && same n name) ≡ true → r ≡ file → R name file → R n r
  hit name file n k r on is holds =
      let here : n ≡ name = equal n name (and_parts k (same n name) on).1 in
      subst (λ (o : Option (List ℕ)). R n o) (sym is) (subst (λ (m : Name). R m file) (sym here) holds)

  miss : (v : View) (n : Name) (r s : Option (List ℕ)) → r ≡ s → (s ≡ v n) ⊎ R n s → (r ≡ v n) ⊎ R n r
  miss v n r s is other = ⊎_elim (λ old. inl (is ∙ old)) (λ new. inr (subst (λ (o : Option (List ℕ)). R n o) (sym is) new)) other

  -- a name has its old file, or one of which R holds
  pub old_or_new : (i : ℕ) (rows : List Change) (keep : ℕ → Bool) (v : View) (n : Name) → Each R rows → (mixed i rows keep v n ≡ v n) ⊎ R n (mixed i rows keep v n)
  old_or_new i [] keep v n each = inl refl
  old_or_new i (Put name bytes ∷ rows) keep v n each = elim (cases_Bool (keep i && same n name)) [
    | inl on ↦ inr (hit name (Some bytes) n (keep i) (mixed i (Put name bytes ∷ rows) keep v n) on (cond-true (keep i && same n name) _ _ on) each.0)
    | inr off ↦ miss v n (mixed i (Put name bytes ∷ rows) keep v n) (mixed (i + 1) rows keep v n) (cond-false (keep i && same n name) _ _ off) (old_or_new (i + 1) rows keep v n each.1)
  ]
  old_or_new i (Drop name ∷ rows) keep v n each = elim (cases_Bool (keep i && same n name)) [
    | inl on ↦ inr (hit name None n (keep i) (mixed i (Drop name ∷ rows) keep v n) on (cond-true (keep i && same n name) _ _ on) each.0)
    | inr off ↦ miss v n (mixed i (Drop name ∷ rows) keep v n) (mixed (i + 1) rows keep v n) (cond-false (keep i && same n name) _ _ off) (old_or_new (i + 1) rows keep v n each.1)
  ]
