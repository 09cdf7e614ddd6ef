-- What becomes of a folder by runs and edits, one after another, and what their rows make of it.
use Rattle.std.proofs.Common.{◌≡◌, ℕ, ◌+◌, ◌≤◌, Bool, true, false, List, [], ◌∷◌, length, Option, Some, None, Ok, refl, sym, ap, subst, ◌∙◌, arith, inl, inr}
use Rattle.std.specs.Prelude.{◌⊎◌, ◌&&◌, ◌==◌, cond, is_some, not, nat_lt, if◌then◌else◌}
use Rattle.std.specs.List.{cons_option, filter_map, list_any}
use Rattle.std.specs.Option.{option_map}
use Rattle.std.specs.Cmp.Lexicographic.{slice_cmp}
use Rattle.std.specs.Ordering.{eq_by_cmp, nat_cmp}
use Rattle.std.proofs.lemmas.Bool.{and_from, and_left, and_parts, cases_Bool, false≢true, true≢false, le-ltb, or_from, or_parts}
use Rattle.std.proofs.lemmas.Option.{none-some, same_Some}
use Rattle.pl_base.proofs.FilesLaws as folder
use Rattle.pl_cone.specs.Plans.{slot_of}
use Rattle.pl_conflict.specs.Format.{Causes, format, mark_in, mark_of, read_original}
use Rattle.pl_conflict.proofs.FormatLaws.{format_kept}
use Rattle.pl_elf.specs.Kinds.{is_library}
use Rattle.pl_elf.specs.declared.kind.Kind.{Kind}
use Rattle.pl_elf.specs.declared.kind.Kind.TheVariants.{Program, Library, Static}
use Rattle.pl_elf.specs.declared.range.Range.{Range}
use Rattle.pl_form.specs.Files.{marked_in, original_in}
use Rattle.pl_form.specs.Marks.{IsFormOf}
use Rattle.pl_form.specs.declared.constants.TheConstants.{STORED}
use Rattle.pl_form.specs.declared.file.Marked.{Marked}
use Rattle.pl_form.proofs.FilesLaws.{nothing_else_is_read, originals_are_bare}
use Rattle.pl_form.proofs.LengthLaws.{accepted_small}
use Rattle.pl_journal.specs.Meaning.{mixed}
use Rattle.pl_journal.specs.declared.change.Change.{Change}
use Rattle.pl_journal.specs.declared.change.Change.TheVariants.{Put}
use Rattle.pl_cone.specs.Fits.{fit_in}
use Rattle.pl_cone.specs.Plans.{greatest, greatest_of, is_candidate, is_current, is_stale, stale}
use Rattle.pl_cone.specs.Skipped.{skip_causes}
use Rattle.pl_cone.specs.Plans.{RunPlan}
use Rattle.pl_scope.specs.Members.{has}
use Rattle.pl_scope.proofs.NameLaws.{has_cons, has_head, has_tail, same_name}
use Rattle.law_sound.specs.Rule.{Files, mark_at}
use Rattle.law_sound.proofs.Theorems as theorems
use Rattle.pl_rewrite.specs.Changes.{change, changes, is_file, is_given, next, next_cache, prelinked, put}
use Rattle.pl_rewrite.specs.History.{HistoriesKeepTheRule, RowsKeepTheRule, RowsMakeTheFiles, RunsAreSteps, StampsNameFiles, UndoingIsEditing, VerifiedKeepTheRule}
use Rattle.pl_rewrite.specs.Laws.{AreNames}
use Rattle.pl_rewrite.proofs.NamedLaws.{passed_at}
use Rattle.pl_rewrite.proofs.PlanLaws.{plan_stamp}
use Rattle.pl_rewrite.proofs.SoundLaws.{candidate_named, empty, fold_from, mixtures_keep_the_rule, names_stay, next_is_from_scratch, only_edits, stamp_past}
use Rattle.pl_rewrite.proofs.VerifyLaws.{mark_read, original_read}

-- ---- the rows of a run

-- what a row makes of a name
row_at : (files : Files) (region : Range) (p : RunPlan) (m : List ℕ) (row : Change) → change files region p m ≡ Some row → (file : List ℕ) × (next files region p m ≡ Some file) × (row ≡ Put m file)
row_at files region p m row e = by_next (next files region p m) refl e
  where
    by_test : (file : List ℕ) (b : Bool) → (if b then None else Some (Put m file)) ≡ Some row → row ≡ Put m file
    by_test file true h = absurd (none-some row h)
    by_test file false h = sym (same_Some (Put m file) row h)

    by_next : (o : Option (List ℕ)) → next files region p m ≡ o → put (files m) m o ≡ Some row → (file : List ℕ) × (next files region p m ≡ Some file) × (row ≡ Put m file)
    by_next None is h = absurd (none-some row h)
    by_next (Some file) is h = (file, is, by_test file (is_file (files m) file) h)

-- where a name has no row its file stays
no_row : (files : Files) (region : Range) (p : RunPlan) (m : List ℕ) → change files region p m ≡ None → next files region p m ≡ files m
no_row files region p m e = by_next (next files region p m) refl e
  where
    same_file : (old : Option (List ℕ)) (file : List ℕ) → is_file old file ≡ true → Some file ≡ old
    same_file None file h = absurd (false≢true h)
    same_file (Some old) file h = ap (λ (x : List ℕ). Some x) (sym (same_name old file h))

    by_test : (file : List ℕ) (b : Bool) → is_file (files m) file ≡ b → (if b then None else Some (Put m file)) ≡ None → Some file ≡ files m
    by_test file true is h = same_file (files m) file is
    by_test file false is h = absurd (none-some (Put m file) (sym h))

    by_file : (old : Option (List ℕ)) → files m ≡ old → is_some (next files region p m) ≡ is_some old → next files region p m ≡ None → next files region p m ≡ files m
    by_file None is stays none = none ∙ sym is
    by_file (Some old) is stays none = absurd (true≢false (sym stays ∙ ap (λ (o : Option (List ℕ)). is_some o) none))

    by_next : (o : Option (List ℕ)) → next files region p m ≡ o → put (files m) m o ≡ None → next files region p m ≡ files m
    by_next None is h = by_file (files m) refl (names_stay files region p m) is
    by_next (Some file) is h = is ∙ by_test file (is_file (files m) file) refl h

-- the rows of these names, where the first of them has this row or none
abbrev rows_from : Files → Range → RunPlan → List (List ℕ) → Option Change → List Change
rows_from files region p ns row = cons_option row (filter_map (change files region p) ns)

abbrev is_same : List ℕ → List ℕ → Bool
is_same n m = eq_by_cmp (slice_cmp nat_cmp) n m

-- the first row is made of a name, or is not
put_on : (files : Files) (rows : List Change) (m file : List ℕ) (i : ℕ) (keep : ℕ → Bool) (n : List ℕ) (b : Bool) → (keep i && is_same n m) ≡ b → mixed i (Put m file ∷ rows) keep files n ≡ cond b (Some file) (mixed (i + 1) rows keep files n)
put_on files rows m file i keep n b is = ap (λ (c : Bool). cond c (Some file) (mixed (i + 1) rows keep files n)) is

-- with any of them made a name has its old file or the run's
abbrev IsEither : Files → Range → RunPlan → List ℕ → Option (List ℕ) → Type 0
IsEither files region p n file = (file ≡ files n) ⊎ (file ≡ next files region p n)

rows_mix : (files : Files) (region : Range) (p : RunPlan) (ns : List (List ℕ)) (i : ℕ) (keep : ℕ → Bool) (n : List ℕ) → IsEither files region p n (mixed i (filter_map (change files region p) ns) keep files n)
rows_mix files region p [] i keep n = inl refl
rows_mix files region p (m ∷ ns) i keep n = by_row (λ j. rows_mix files region p ns j keep n) (change files region p m) refl
  where
    rows : List Change
    rows = filter_map (change files region p) ns

    by_test : ((j : ℕ) → IsEither files region p n (mixed j rows keep files n)) → (file : List ℕ) → next files region p m ≡ Some file → (b : Bool) → (keep i && is_same n m) ≡ b → IsEither files region p n (mixed i (Put m file ∷ rows) keep files n)
    by_test later file made true is =
        let name : n ≡ m = folder.same_name n m (and_parts (keep i) (is_same n m) is).1 in
        inr (put_on files rows m file i keep n true is ∙ (sym made ∙ ap (next files region p) (sym name)))
    by_test later file made false is = elim (later (i + 1)) [
      | inl old ↦ inl (put_on files rows m file i keep n false is ∙ old)
      | inr new ↦ inr (put_on files rows m file i keep n false is ∙ new)
    ]

    by_row : ((j : ℕ) → IsEither files region p n (mixed j rows keep files n)) → (o : Option Change) → change files region p m ≡ o → IsEither files region p n (mixed i (rows_from files region p ns o) keep files n)
    by_row later None is = later i
    by_row later (Some row) is =
        let r = row_at files region p m row is in
        subst (λ (x : Change). IsEither files region p n (mixed i (x ∷ rows) keep files n)) (sym r.2) (by_test later r.0 r.1 (keep i && is_same n m) refl)

-- with all of them made a name that is there has the run's
rows_made : (files : Files) (region : Range) (p : RunPlan) (ns : List (List ℕ)) (i : ℕ) (n : List ℕ) → has ns n ≡ true → mixed i (filter_map (change files region p) ns) (λ _. true) files n ≡ next files region p n
rows_made files region p [] i n there = absurd (false≢true there)
rows_made files region p (m ∷ ns) i n there = by_row (λ j rest. rows_made files region p ns j n rest) (change files region p m) refl
  where
    rows : List Change
    rows = filter_map (change files region p) ns

    by_test : ((j : ℕ) → has ns n ≡ true → mixed j rows (λ _. true) files n ≡ next files region p n) → (file : List ℕ) → next files region p m ≡ Some file → (b : Bool) → is_same n m ≡ b → mixed i (Put m file ∷ rows) (λ _. true) files n ≡ next files region p n
    by_test later file made true is = put_on files rows m file i (λ _. true) n true is ∙ (sym made ∙ ap (next files region p) (sym (folder.same_name n m is)))
    by_test later file made false is = put_on files rows m file i (λ _. true) n false is ∙ later (i + 1) (elim (has_cons m n ns there) [
      | inl same ↦ absurd (true≢false (sym (subst (λ (x : List ℕ). is_same n x ≡ true) (sym same) (folder.same_refl n)) ∙ is))
      | inr rest ↦ rest
    ])

    by_name : ((j : ℕ) → has ns n ≡ true → mixed j rows (λ _. true) files n ≡ next files region p n) → change files region p m ≡ None → (m ≡ n) ⊎ (has ns n ≡ true) → mixed i rows (λ _. true) files n ≡ next files region p n
    by_name later none (inl same) =
        let stays : next files region p n ≡ files n = subst (λ (x : List ℕ). next files region p x ≡ files x) same (no_row files region p m none) in
        elim (rows_mix files region p ns i (λ _. true) n) [ inl old ↦ old ∙ sym stays | inr new ↦ new ]
    by_name later none (inr rest) = later i rest

    by_row : ((j : ℕ) → has ns n ≡ true → mixed j rows (λ _. true) files n ≡ next files region p n) → (o : Option Change) → change files region p m ≡ o → mixed i (rows_from files region p ns o) (λ _. true) files n ≡ next files region p n
    by_row later None is = by_name later is (has_cons m n ns there)
    by_row later (Some row) is =
        let r = row_at files region p m row is in
        subst (λ (x : Change). mixed i (x ∷ rows) (λ _. true) files n ≡ next files region p n) (sym r.2) (by_test later r.0 r.1 (is_same n m) refl)

-- a name that is not there has no file, before the run and after it
no_next : (files : Files) (region : Range) (p : RunPlan) (n : List ℕ) → files n ≡ None → next files region p n ≡ None
no_next files region p n none = by_next (next files region p n) refl
  where
    by_next : (o : Option (List ℕ)) → next files region p n ≡ o → next files region p n ≡ None
    by_next None is = is
    by_next (Some file) is = absurd (true≢false (sym (ap (λ (o : Option (List ℕ)). is_some o) is) ∙ (names_stay files region p n ∙ ap (λ (o : Option (List ℕ)). is_some o) none)))

pub rows_make_the_files : RowsMakeTheFiles
unfolding changes
rows_make_the_files files ns region p names n = elim (cases_Bool (has ns n)) [
  | inl there ↦ rows_made files region p ns 0 n there
  | inr missing ↦
      let none : files n ≡ None = names n missing in
      elim (rows_mix files region p ns 0 (λ _. true) n) [ inl old ↦ old ∙ (none ∙ sym (no_next files region p n none)) | inr new ↦ new ]
]

pub rows_keep_the_rule : RowsKeepTheRule
unfolding changes
rows_keep_the_rule files ns a p keep names plan rule =
    mixtures_keep_the_rule files ns a p (mixed 0 (filter_map (change files a.region p) ns) keep files) names plan rule (λ n. rows_mix files a.region p ns 0 keep n)

-- ---- folders whoever wrote them

pub verified_keep_the_rule : VerifiedKeepTheRule
verified_keep_the_rule files each = theorems.verified (format skip_causes) files each

-- ---- steps

-- no name gets the stamp of a run without a stale name
none_given : (files : Files) (region : Range) (p : RunPlan) (ns : List (List ℕ)) → (length (stale files region p.slots ns) == 0) ≡ true → list_any (is_given files region p) ns ≡ false
none_given files region p ns none = each_off ns (λ n there. and_left (is_stale files region p.slots n) (is_some (prelinked files region p n)) (sym (passed_at (is_stale files region p.slots) n ns there) ∙ empty (stale files region p.slots ns) n none))
  where
    each_off : (ms : List (List ℕ)) → ((n : List ℕ) → has ms n ≡ true → is_given files region p n ≡ false) → list_any (is_given files region p) ms ≡ false
    each_off [] each = refl
    each_off (m ∷ ms) each =
        or_from (is_given files region p m) (list_any (is_given files region p) ms) (each m (has_head m ms)) (each_off ms (λ n there. each n (has_tail m n ms there)))

-- where no name got it, none that is stale was prelinked
not_given : (files : Files) (ns : List (List ℕ)) (region : Range) (p : RunPlan) → AreNames files ns → list_any (is_given files region p) ns ≡ false
    → (n : List ℕ) → is_candidate files region n ≡ true → is_current files region p.slots n ≡ false → prelinked files region p n ≡ None
not_given files ns region p names none n candidate old =
    let stale_is : is_stale files region p.slots n ≡ true = and_from (is_candidate files region n) (not (is_current files region p.slots n)) candidate (ap not old) in
    let off : is_given files region p n ≡ false = any_off (is_given files region p) n ns none (candidate_named files ns region n names candidate) in
    by_file (prelinked files region p n) (sym (ap (λ (b : Bool). b && is_some (prelinked files region p n)) stale_is) ∙ off)
  where
    by_file : (o : Option (List ℕ)) → is_some o ≡ false → o ≡ None
    by_file None e = refl
    by_file (Some file) e = absurd (true≢false e)

    any_off : (q : List ℕ → Bool) (n : List ℕ) (ms : List (List ℕ)) → list_any q ms ≡ false → has ms n ≡ true → q n ≡ false
    any_off q n [] none there = absurd (false≢true there)
    any_off q n (m ∷ ms) none there =
        let p = or_parts (q m) (list_any q ms) none in
        elim (has_cons m n ms there) [ inl same ↦ subst (λ (x : List ℕ). q x ≡ false) same p.0 | inr rest ↦ any_off q n ms p.1 rest ]

-- the last stamp after a run
last_is : (files : Files) (ns : List (List ℕ)) (region : Range) (last : ℕ) (p : RunPlan) (b : Bool) → list_any (is_given files region p) ns ≡ b → (next_cache files ns region last p).last ≡ (if b then p.stamp else last)
unfolding next_cache
last_is files ns region last p b is = ap (λ (c : Bool). if c then p.stamp else last) is

last_below : (files : Files) (ns : List (List ℕ)) (last : ℕ) → last ≤ greatest files last ns
unfolding greatest
last_below files ns last = fold_from (λ (n : List ℕ). greatest_of (mark_at (format skip_causes) (files n))) ns last

pub runs_are_steps : RunsAreSteps
unfolding prelinked
runs_are_steps files ns a p names plan rule = elim (cases_Bool (length (stale files a.region p.slots ns) == 0)) [
  | inl none ↦ inr (
    only_edits files ns a.region p (next files a.region p) names none (λ n. inr refl),
    sym (last_is files ns a.region a.last p false (none_given files a.region p ns none)),
  )
  | inr some ↦ inl (record {
    fit = fit_in a.region;
    slots = slot_of p.slots;
    stamp = p.stamp;
    past = omega (arith, stamp_past files ns a (stale files a.region p.slots ns) p.stamp some (plan_stamp files ns a p plan), last_below files ns a.last);
    is = next_is_from_scratch files a.region p rule;
    counted = by_given (list_any (is_given files a.region p) ns) refl;
  })
]
  where
    by_given : (b : Bool) → list_any (is_given files a.region p) ns ≡ b
        → ((next_cache files ns a.region a.last p).last ≡ p.stamp) ⊎ (((next_cache files ns a.region a.last p).last ≡ a.last) × ((n : List ℕ) → is_candidate files a.region n ≡ true → is_current files a.region p.slots n ≡ false → prelinked files a.region p n ≡ None))
    by_given true is = inl (last_is files ns a.region a.last p true is)
    by_given false is = inr (last_is files ns a.region a.last p false is, not_given files ns a.region p names is)

pub undoing_is_editing : UndoingIsEditing
undoing_is_editing files after each n file there = elim (each n) [
  | inl was ↦ inl (sym was ∙ there)
  | inr undone ↦ inr (by_file (files n) (sym undone ∙ there))
]
  where
    by_file : (o : Option (List ℕ)) → option_map original_in o ≡ Some file → mark_in file ≡ None
    by_file None e = absurd (none-some file e)
    by_file (Some before) e = subst (λ (x : List ℕ). mark_in x ≡ None) (same_Some (original_in before) file e) (mark_read (original_in before) None (originals_are_bare before))

-- ---- histories

pub histories_keep_the_rule : HistoriesKeepTheRule
histories_keep_the_rule now past last happened = theorems.histories (format skip_causes) (format_kept skip_causes) now past last happened

-- what is read of a form's original
pub form_reads : {E : Type 0} (causes : Causes E) (n file : List ℕ) (m : Marked) → marked_in file ≡ Some m → read_original causes n (original_in file) ≡ Ok m.object
unfolding read_original
form_reads causes n file m is =
    let form : IsFormOf file m = nothing_else_is_read file m is in
    let original : original_in file ≡ m.original = original_read file m is in
    let small : nat_lt STORED (length m.original) ≡ false = le-ltb STORED (length m.original) (omega (arith, accepted_small m.original m.object form.firm.accepted, stored_is)) in
    rw (original, small, form.plain, form.firm.accepted) refl
  where
    stored_is : STORED ≡ 268435456
    stored_is = refl

library_is : (kind : Kind) → is_library kind ≡ true → kind ≡ Library
library_is Program e = absurd (false≢true e)
library_is Library e = refl
library_is Static e = absurd (false≢true e)

pub stamps_name_files : StampsNameFiles
stamps_name_files now past last happened n a b j k held_a held_b read_a read_b library_a library_b same_stamp =
    theorems.one_file (format skip_causes) (format_kept skip_causes) now past last happened n a b (mark_of j) (mark_of k) j.object k.object held_a held_b
    (mark_read a (Some j) read_a) (mark_read b (Some k) read_b) (form_reads skip_causes n a j read_a) (form_reads skip_causes n b k read_b)
    (library_is j.object.kind library_a) (library_is k.object.kind library_b) same_stamp
