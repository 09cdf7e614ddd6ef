-- The column of walks, row by row.
use Rattle.std.proofs.Common.{◌≡◌, ℕ, zero, suc, ◌+◌, ◌<◌, ◌≤◌, true, false, List, [], ◌∷◌, ◌++◌, length, Option, Some, None, Result, Ok, Err, refl, sym, ap, ◌∙◌, subst, arith, inl, inr}
use Rattle.std.specs.Option.{option_map}
use Rattle.std.specs.Prelude.{slice_get, IfOk, IfErr, MatchBool, ⊤}
use Rattle.std.proofs.lemmas.List.{length_push, length-map}
use Rattle.std.proofs.lemmas.Option.{same_Some, slice_get-map, slice_get_within}
use Rattle.pl_base.specs.Answers.{Answers}
use Rattle.pl_scope.specs.Walk.{Walked}
use Rattle.pl_cone.specs.Needs.{AddsWalk}
use Rattle.pl_cone.specs.Skips.{skip_is_memory}
use Rattle.pl_cone.specs.Table.{AreWalks, IsWalkAt, IsWalkOfFile, refusal_of, refusals_in, walk_at, walk_for, walk_named}
use Rattle.pl_cone.specs.declared.skip.Skip.{Skip}
use Rattle.pl_cone.specs.declared.taken.Taken.{Taken}
use Rattle.pl_cone.specs.declared.walking.FolderWalks.{FolderWalks}
use Rattle.pl_cone.proofs.NeedLaws.{slice_get_at, slice_get_push}

-- the walks of the first files
pub record AreFirst (ts : List Taken) (i : ℕ) (w : FolderWalks) : Type 0 where
  pub walks : length w.walks ≡ i
  pub causes : length w.causes ≡ i
  pub each : (k : ℕ) (t : Taken) (rows : List ℕ) (cause : Option Skip) → slice_get ts k ≡ Some t → slice_get w.walks k ≡ Some rows → slice_get w.causes k ≡ Some cause → IsWalkOfFile ts t rows cause

-- the walk of one file more
push_first : (ts : List Taken) (i : ℕ) (before after : FolderWalks) (rows : List ℕ) (cause : Option Skip) → after.walks ≡ before.walks ++ rows ∷ [] → after.causes ≡ before.causes ++ cause ∷ []
    → ((t : Taken) → slice_get ts i ≡ Some t → IsWalkOfFile ts t rows cause) → AreFirst ts i before → AreFirst ts (i + 1) after
push_first ts i before after rows cause walks causes is first = record {
  walks = ap length walks ∙ length_push before.walks rows ∙ ap (λ (n : ℕ). n + 1) first.walks;
  causes = ap length causes ∙ length_push before.causes cause ∙ ap (λ (n : ℕ). n + 1) first.causes;
  each = λ k t r c at row told.
      elim (slice_get_push before.walks rows r k (ap (λ (xs : List (List ℕ)). slice_get xs k) (sym walks) ∙ row)) [
        | inl old ↦
            elim (slice_get_push before.causes cause c k (ap (λ (xs : List (Option Skip)). slice_get xs k) (sym causes) ∙ told)) [
              | inl known ↦ first.each k t r c at old known
              | inr last ↦ absurd (omega (arith, last.0, first.walks, first.causes, slice_get_within before.walks k r old))
            ]
        | inr here ↦
            elim (slice_get_push before.causes cause c k (ap (λ (xs : List (Option Skip)). slice_get xs k) (sym causes) ∙ told)) [
              | inl known ↦ absurd (omega (arith, here.0, first.walks, first.causes, slice_get_within before.causes k c known))
              | inr last ↦ subst (λ (x : Option Skip). IsWalkOfFile ts t r x) last.1 (subst (λ (xs : List ℕ). IsWalkOfFile ts t xs cause) here.1 (is t (ap (slice_get ts) (sym (here.0 ∙ first.walks)) ∙ at)))
            ]
      ];
}

walk_of_row : (ts : List Taken) (i : ℕ) (t : Taken) → slice_get ts i ≡ Some t → walk_at ts i ≡ walk_for ts t.name
walk_of_row ts i t at = ap (walk_named ts) at

told_by : (skip : Skip) (meant : Result Walked Skip) → skip_is_memory skip ≡ false → Answers skip_is_memory (Err skip) meant → meant ≡ Err skip
told_by skip meant other = elim (skip_is_memory skip) as (λ b. b ≡ false → MatchBool b ⊤ (meant ≡ Err skip) → meant ≡ Err skip) [ true ↦ λ never. absurd cc | false ↦ λ _ h. h ] other

pub first_more : (ts : List Taken) (i : ℕ) (walk : Result (List ℕ) Skip) (before after : FolderWalks) → IfOk walk (IsWalkAt ts i) → IfErr walk (λ skip. Answers skip_is_memory (Err skip) (walk_at ts i)) → AddsWalk walk before after (Ok tt)
    → AreFirst ts i before → AreFirst ts (i + 1) after
first_more ts i (Ok rows) before after ok err adds first =
    push_first ts i before after rows None adds.0 adds.1 (λ t at. (ok.0, sym (walk_of_row ts i t at) ∙ ok.1)) first
first_more ts i (Err skip) before after ok err adds first =
    push_first ts i before after [] (Some skip) adds.0 adds.1.0 (λ t at. (refl, sym (walk_of_row ts i t at) ∙ told_by skip (walk_at ts i) adds.1.1 err)) first

-- ---- refusals

-- lists that are as long, and tell the same
pub same_by : {X : Type 0} (xs ys : List X) → length xs ≡ length ys → ((k : ℕ) (x : X) → slice_get xs k ≡ Some x → slice_get ys k ≡ Some x) → xs ≡ ys
same_by [] [] long each = refl
same_by [] (y ∷ ys) long each = absurd (omega (arith, long))
same_by (x ∷ xs) [] long each = absurd (omega (arith, long))
same_by {X = X} (x ∷ xs) (y ∷ ys) long each =
    let here : x ≡ y = sym (same_Some y x (each zero x refl)) in
    ap (λ (z : X). z ∷ xs) here ∙ ap (λ (zs : List X). y ∷ zs) (same_by xs ys (omega (arith, long)) (λ k z at. each (suc k) z at))

refusal_is : (ts : List Taken) (t : Taken) (rows : List ℕ) (cause : Option Skip) → IsWalkOfFile ts t rows cause → cause ≡ refusal_of (walk_for ts t.name)
refusal_is ts t rows None is = sym (ap refusal_of is.1)
refusal_is ts t rows (Some skip) is = sym (ap refusal_of is.1)

-- the causes that walks tell are those of the names of the files
pub refusals_are : (ts : List Taken) (w : FolderWalks) → AreWalks ts w → w.causes ≡ refusals_in ts
refusals_are ts w are = same_by (w.causes) (refusals_in ts) (are.causes ∙ sym (length-map ts (λ x. refusal_of (walk_for ts x.name)))) each
  where
    each : (k : ℕ) (c : Option Skip) → slice_get w.causes k ≡ Some c → slice_get (refusals_in ts) k ≡ Some c
    each k c at =
        let lt = slice_get_within w.causes k c at in
        let file = slice_get_at ts k (omega (arith, lt, are.causes)) in
        let row = slice_get_at w.walks k (omega (arith, lt, are.causes, are.walks)) in
        slice_get-map (λ x. refusal_of (walk_for ts x.name)) ts k
        ∙ ap (option_map (λ x. refusal_of (walk_for ts x.name))) file.1
        ∙ ap (λ (x : Option Skip). Some x) (sym (refusal_is ts file.0 row.0 c (are.each k file.0 row.0 c file.1 row.1 at)))
