-- The laws of law_sound at what a run makes.
use Rattle.std.proofs.Common.{◌≡◌, ℕ, ◌+◌, ◌<◌, ◌≤◌, Bool, true, false, List, [], ◌∷◌, length, Option, Some, None, Ok, refl, sym, ap, subst, ◌∙◌, arith, inl, inr}
use Rattle.std.specs.Prelude.{◌⊎◌, is_some, not, max, ◌==◌}
use Rattle.std.specs.List.{All, fold}
use Rattle.std.specs.Option.{option_map, option_or}
use Rattle.std.specs.Str.{bytes_eq}
use Rattle.std.proofs.lemmas.Bool.{and_from, cases_Bool, eqb-true, false≢true, true≢false}
use Rattle.std.proofs.lemmas.List.Elements.{All-nil, All-cons, All-weaker}
use Rattle.std.proofs.lemmas.Option.{none-some}
use Rattle.pl_base.specs.Answers.{because}
use Rattle.pl_base.proofs.AnswerLaws.{because_ok, ok_same, unless_ok}
use Rattle.pl_cone.specs.Plans.{stamp_after}
use Rattle.pl_cone.specs.Plans.{slot_of}
use Rattle.pl_cone.specs.declared.currency.TheConstants.{LAST_STAMP}
use Rattle.pl_cone.specs.declared.skip.ConeFault.TheVariants.{StampsSpent}
use Rattle.pl_conflict.specs.Format.{format, mark_in, mark_of}
use Rattle.pl_conflict.proofs.FormatLaws.{format_kept}
use Rattle.pl_elf.specs.declared.range.Range.{Range}
use Rattle.pl_form.specs.Files.{marked_in, original_or_file, original_in}
use Rattle.pl_form.specs.declared.file.Marked.{Marked}
use Rattle.pl_cone.specs.Fits.{fit_in}
use Rattle.pl_cone.specs.Plans.{greatest, greatest_of, is_candidate, is_current, is_stale, stale, stamp_for}
use Rattle.pl_cone.specs.Skipped.{skip_causes}
use Rattle.pl_cone.specs.Faulted.{of_cone}
use Rattle.pl_cone.specs.declared.planning.Asked.{Asked}
use Rattle.pl_cone.specs.Plans.{RunPlan}
use Rattle.pl_scope.specs.Members.{has}
use Rattle.pl_scope.proofs.NameLaws.{same_name}
use Rattle.law_sound.specs.History.{IsEdit}
use Rattle.law_sound.specs.Plan.{IsBounded, fits}
use Rattle.law_sound.specs.Rule as sound
use Rattle.law_sound.specs.Rule.{Files, Mark, Row, mark_at, object_at}
use Rattle.law_sound.proofs.PlanLaws.{all_planned}
use Rattle.law_sound.proofs.Theorems as theorems
use Rattle.pl_rewrite.specs.Changes.{from_scratch, prelinked}
use Rattle.pl_rewrite.specs.Laws.{AreNames, IsMixed, NamesStay, NextIsFromScratch, OriginalsStay, MixturesKeepTheRule}
use Rattle.pl_rewrite.proofs.NextLaws.{next_on, next_off, scratch_by}
use Rattle.pl_rewrite.proofs.NamedLaws.{passed_at}
use Rattle.pl_rewrite.proofs.PlanLaws.{plan_stamp}

-- ---- current names

pub next_is_from_scratch : NextIsFromScratch
next_is_from_scratch files region p rule n = elim (cases_Bool (is_current files region p.slots n)) [
  | inl on ↦ next_on files region p n on ∙ sym (theorems.from_scratch (format skip_causes) (format_kept skip_causes) (fit_in region) files (slot_of p.slots) p.stamp n rule on).0
  | inr off ↦ next_off files region p n off
]

-- ---- originals

-- a file without a mark is its own original
bare : (file : List ℕ) → mark_in file ≡ None → original_in file ≡ file
unfolding mark_in original_in
bare file none = by_mark (marked_in file) none
  where
    by_mark : (o : Option Marked) → option_map mark_of o ≡ None → original_or_file file o ≡ file
    by_mark None e = refl
    by_mark (Some m) e = absurd (none-some (mark_of m) (sym e))

pub originals_stay : OriginalsStay
originals_stay files region p n file is = elim (cases_Bool (is_current files region p.slots n)) [
  | inl on ↦ (file, sym (next_on files region p n on) ∙ is, refl)
  | inr off ↦ theorems.originals (format skip_causes) (format_kept skip_causes) bare (fit_in region) files (slot_of p.slots) p.stamp n file (sym (next_off files region p n off) ∙ is)
]

-- ---- the greatest stamp

pub fold_from : {X : Type 0} (f : X → ℕ) (xs : List X) (a : ℕ) → a ≤ fold (λ (most : ℕ) (x : X). max most (f x)) a xs
fold_from f [] a = omega arith
fold_from f (x ∷ xs) a = omega (arith, fold_from f xs (max a (f x)))

fold_each : {X : Type 0} (f : X → ℕ) (xs : List X) (a : ℕ) → All (λ (y : X). f y ≤ fold (λ (most : ℕ) (x : X). max most (f x)) a xs) xs
fold_each {X = X} f [] a = All-nil (λ (y : X). f y ≤ a)
fold_each {X = X} f (x ∷ xs) a =
    let first : f x ≤ fold (λ (most : ℕ) (y : X). max most (f y)) (max a (f x)) xs = omega (arith, fold_from f xs (max a (f x))) in
    All-cons (λ (y : X). f y ≤ fold (λ (most : ℕ) (z : X). max most (f z)) (max a (f x)) xs) x xs first (fold_each f xs (max a (f x)))

fold_at : (f : List ℕ → ℕ) (n : List ℕ) (ns : List (List ℕ)) (a : ℕ) → has ns n ≡ true → f n ≤ fold (λ (most : ℕ) (m : List ℕ). max most (f m)) a ns
fold_at f n [] a there = absurd (false≢true there)
fold_at f n (m ∷ ns) a there = elim (cases_Bool (bytes_eq m n)) [
  | inl hit ↦
      let same : f m ≡ f n = ap f (same_name m n hit) in
      omega (arith, same, fold_from f ns (max a (f m)))
  | inr miss ↦
      let rest : has ns n ≡ true = rw miss at there in
      fold_at f n ns (max a (f m)) rest
]

-- a file's name is among the names
named : (files : Files) (ns : List (List ℕ)) (n file : List ℕ) → AreNames files ns → files n ≡ Some file → has ns n ≡ true
named files ns n file names there = elim (cases_Bool (has ns n)) [ inl found ↦ found | inr missing ↦ absurd (none-some file (sym (names n missing) ∙ there)) ]

marked_below : (files : Files) (ns : List (List ℕ)) (last : ℕ) (n file : List ℕ) (k : Mark) → AreNames files ns → files n ≡ Some file → mark_in file ≡ Some k → greatest_of (Some k) ≤ greatest files last ns
unfolding greatest
marked_below files ns last n file k names there marked =
    let at : mark_at (format skip_causes) (files n) ≡ Some k = ap (mark_at (format skip_causes)) there ∙ marked in
    subst (λ (o : Option Mark). greatest_of o ≤ greatest files last ns) at (fold_at (λ (m : List ℕ). greatest_of (mark_at (format skip_causes) (files m))) n ns last (named files ns n file names there))

own_below : (k : Mark) (most : ℕ) → greatest_of (Some k) ≤ most → k.stamp ≤ most
own_below k most le = omega (arith, le, fold_from (λ (r : Row). r.stamp) k.list k.stamp)

rows_below : (k : Mark) (most : ℕ) → greatest_of (Some k) ≤ most → All (λ r. r.stamp ≤ most) k.list
rows_below k most le = All-weaker (λ (r : Row). r.stamp ≤ greatest_of (Some k)) (λ (r : Row). r.stamp ≤ most) (λ r below. omega (arith, below, le)) k.list (fold_each (λ (r : Row). r.stamp) k.list k.stamp)

bounded : (files : Files) (ns : List (List ℕ)) (last : ℕ) → AreNames files ns → IsBounded (format skip_causes) files (greatest files last ns)
bounded files ns last names = record {
  stamps = λ n file k there marked. own_below k (greatest files last ns) (marked_below files ns last n file k names there marked);
  lists = λ n file k there marked. rows_below k (greatest files last ns) (marked_below files ns last n file k names there marked);
}

-- ---- the stamp of a run

past_of : (most now stamp : ℕ) → stamp_after most now ≡ Ok stamp → most < stamp
unfolding stamp_after
past_of most now stamp e =
    let p = unless_ok (most == LAST_STAMP) (StampsSpent most) (Ok (max now (most + 1))) stamp e in
    let is : max now (most + 1) ≡ stamp = ok_same (max now (most + 1)) stamp p.1 in
    omega (arith, is)

pub stamp_past : (files : Files) (ns : List (List ℕ)) (a : Asked) (old : List (List ℕ)) (stamp : ℕ) → (length old == 0) ≡ false → stamp_for files ns a old ≡ Ok stamp → greatest files a.last ns < stamp
unfolding stamp_for
stamp_past files ns a old stamp some e =
    let given : because of_cone (stamp_after (greatest files a.last ns) a.moment) ≡ Ok stamp = rw some at e in
    past_of (greatest files a.last ns) a.moment stamp (because_ok of_cone (stamp_after (greatest files a.last ns) a.moment) stamp given)

-- ---- a run without a stale name

pub empty : (ns : List (List ℕ)) (n : List ℕ) → (length ns == 0) ≡ true → has ns n ≡ false
empty [] n e = refl
empty (m ∷ ns) n e =
    let none : length (m ∷ ns) ≡ 0 = eqb-true (length (m ∷ ns)) 0 e in
    absurd (omega (arith, none))

pub candidate_named : (files : Files) (ns : List (List ℕ)) (region : Range) (n : List ℕ) → AreNames files ns → is_candidate files region n ≡ true → has ns n ≡ true
candidate_named files ns region n names candidate = elim (cases_Bool (has ns n)) [
  | inl found ↦ found
  | inr missing ↦
      let off : is_candidate files region n ≡ false = ap (λ (o : Option (List ℕ)). fits (format skip_causes) (fit_in region) files (object_at (format skip_causes) n o) (sound.walk_in (format skip_causes) files n)) (names n missing) in
      absurd (true≢false (sym candidate ∙ off))
]

-- it takes marks away at most
pub only_edits : (files : Files) (ns : List (List ℕ)) (region : Range) (p : RunPlan) (mixed : Files) → AreNames files ns → (length (stale files region p.slots ns) == 0) ≡ true → IsMixed files region p mixed → IsEdit (format skip_causes) files mixed
only_edits files ns region p mixed names none each n file there = by_mark (mark_in file) refl
  where
    by_mark : (o : Option Mark) → mark_in file ≡ o → (files n ≡ Some file) ⊎ (mark_in file ≡ None)
    by_mark None marked = inr marked
    by_mark (Some k) marked = elim (each n) [
      | inl was ↦ inl (sym was ∙ there)
      | inr now ↦ elim (cases_Bool (is_current files region p.slots n)) [
        | inl on ↦ inl (sym (next_on files region p n on) ∙ (sym now ∙ there))
        | inr off ↦
            let q = all_planned (format skip_causes) (format_kept skip_causes) (fit_in region) files (slot_of p.slots) p.stamp n file k (sym (next_off files region p n off) ∙ (sym now ∙ there)) marked in
            let candidate : is_candidate files region n ≡ true = q.0 in
            let old : is_stale files region p.slots n ≡ true = and_from (is_candidate files region n) (not (is_current files region p.slots n)) candidate (ap not off) in
            let fresh : is_stale files region p.slots n ≡ false =
            sym (passed_at (is_stale files region p.slots) n ns (candidate_named files ns region n names candidate)) ∙ empty (stale files region p.slots ns) n none in
            absurd (true≢false (sym old ∙ fresh))
      ]
    ]

-- ---- names

mapped : (o : Option (List ℕ)) → is_some (option_map original_in o) ≡ is_some o
mapped None = refl
mapped (Some file) = refl

either : (first second : Option (List ℕ)) → is_some second ≡ true → is_some (option_or first second) ≡ true
either None second there = there
either (Some file) second there = refl

no_candidate : (files : Files) (region : Range) (n : List ℕ) → files n ≡ None → is_candidate files region n ≡ false
no_candidate files region n none = ap (λ (o : Option (List ℕ)). fits (format skip_causes) (fit_in region) files (object_at (format skip_causes) n o) (sound.walk_in (format skip_causes) files n)) none

scratch_stays : (files : Files) (region : Range) (p : RunPlan) (n : List ℕ) (b : Bool) (file : Option (List ℕ)) → is_candidate files region n ≡ b → files n ≡ file → is_some (from_scratch files region p n) ≡ is_some (files n)
scratch_stays files region p n false file off at =
    ap (λ (o : Option (List ℕ)). is_some o) (scratch_by files region p n false off) ∙ mapped (files n)
scratch_stays files region p n true None on at = absurd (true≢false (sym on ∙ no_candidate files region n at))
scratch_stays files region p n true (Some file) on at =
    let there : is_some (files n) ≡ true = ap (λ (o : Option (List ℕ)). is_some o) at in
    ap (λ (o : Option (List ℕ)). is_some o) (scratch_by files region p n true on)
    ∙ (either (prelinked files region p n) (option_map original_in (files n)) (mapped (files n) ∙ there) ∙ sym there)

pub names_stay : NamesStay
names_stay files region p n = elim (cases_Bool (is_current files region p.slots n)) [
  | inl on ↦ ap (λ (o : Option (List ℕ)). is_some o) (next_on files region p n on)
  | inr off ↦ ap (λ (o : Option (List ℕ)). is_some o) (next_off files region p n off) ∙ scratch_stays files region p n (is_candidate files region n) (files n) refl refl
]

-- ---- mixtures

pub mixtures_keep_the_rule : MixturesKeepTheRule
mixtures_keep_the_rule files ns a p mixed names plan rule each = elim (cases_Bool (length (stale files a.region p.slots ns) == 0)) [
  | inl none ↦ theorems.edits (format skip_causes) (format_kept skip_causes) files mixed rule (only_edits files ns a.region p mixed names none each)
  | inr some ↦
      theorems.mixtures (format skip_causes) (format_kept skip_causes) (fit_in a.region) files mixed (slot_of p.slots) (greatest files a.last ns) p.stamp rule (bounded files ns a.last names)
      (stamp_past files ns a (stale files a.region p.slots ns) p.stamp some (plan_stamp files ns a p plan))
      (λ n. elim (each n) [ inl was ↦ inl was | inr now ↦ inr (now ∙ next_is_from_scratch files a.region p rule n) ])
]
