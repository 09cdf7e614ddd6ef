-- What a run makes of a file by its outcome is what it makes of its name.
use Rattle.std.proofs.Common.{◌≡◌, ℕ, Bool, true, false, List, [], ◌∷◌, Option, Some, None, Result, Ok, Err, refl, sym, ap, ◌∙◌}
use Rattle.std.specs.Prelude.{◌&&◌, not, is_some}
use Rattle.std.specs.Option.{option_map, option_or}
use Rattle.std.specs.Result.{is_ok}
use Rattle.std.proofs.lemmas.Bool.{and_left, and_parts, false≢true, not-true, true≢false}
use Rattle.std.proofs.lemmas.Option.{none-some, same_Some}
use Rattle.pl_cone.specs.Plans as plans
use Rattle.pl_cone.specs.Plans.{RunPlan}
use Rattle.pl_cone.specs.Skipped.{skip_of}
use Rattle.pl_cone.specs.declared.skip.Skip.{Skip}
use Rattle.pl_cone.specs.declared.skip.Skip.TheVariants as skips
use Rattle.pl_cone.proofs.CandidateLaws.{candidate_is}
use Rattle.pl_elf.specs.declared.range.Range.{Range}
use Rattle.pl_form.specs.Files.{marked_in, original_in}
use Rattle.pl_form.proofs.FilesLaws.{originals_are_bare}
use Rattle.pl_journal.specs.declared.change.Change.{Change}
use Rattle.pl_scope.proofs.NameLaws.{eq_refl}
use Rattle.law_sound.specs.Rule.{Files}
use Rattle.pl_rewrite.specs.Changes as changes
use Rattle.pl_rewrite.specs.Changes.{next, put}
use Rattle.pl_rewrite.specs.Outcomes.{made_in}
use Rattle.pl_rewrite.specs.Reports as reports
use Rattle.pl_rewrite.specs.Reports.{marked_at, state_by}
use Rattle.pl_rewrite.specs.declared.rewriting.Made.{Made}
use Rattle.pl_rewrite.specs.declared.rewriting.RowState.{RowState}
use Rattle.pl_rewrite.specs.declared.rewriting.RowState.TheVariants.{Skipped}
use Rattle.pl_rewrite.proofs.NextLaws.{next_off, next_on, scratch_by}

-- ---- the parts of what is made

abbrev make : Option Change → RowState → Bool → Made
make change state given = record { change = change; state = state; given = given }

made_parts : (files : Files) (region : Range) (p : RunPlan) (n : List ℕ) (change : Option Change) (state : RowState) (given : Bool) → changes.change files region p n ≡ change → reports.state_after files region p n ≡ state → changes.is_given files region p n ≡ given
    → made_in files region p n ≡ record { change = change; state = state; given = given }
made_parts files region p n change state given c s g =
    ap (λ (x : Option Change). make x (reports.state_after files region p n) (changes.is_given files region p n)) c
    ∙ (ap (λ (x : RowState). make change x (changes.is_given files region p n)) s ∙ ap (make change state) g)

change_by : (files : Files) (region : Range) (p : RunPlan) (n : List ℕ) (old new : Option (List ℕ)) → files n ≡ old → next files region p n ≡ new → changes.change files region p n ≡ put old n new
change_by files region p n old new before after = ap (λ (o : Option (List ℕ)). put o n (next files region p n)) before ∙ ap (put old n) after

state_of : (files : Files) (region : Range) (p : RunPlan) (n : List ℕ) (b : Bool) (r : Result (Unit {0}) Skip) (new : Option (List ℕ)) → plans.is_current files region p.slots n ≡ b → skip_of files region n ≡ r → next files region p n ≡ new
    → reports.state_after files region p n ≡ state_by n b r (marked_at new)
unfolding reports.state_after
state_of files region p n b r new current skip after =
    ap (λ (c : Bool). state_by n c (skip_of files region n) (marked_at (next files region p n))) current
    ∙ (ap (λ (s : Result (Unit {0}) Skip). state_by n b s (marked_at (next files region p n))) skip ∙ ap (λ (o : Option (List ℕ)). state_by n b r (marked_at o)) after)

given_by : (files : Files) (region : Range) (p : RunPlan) (n : List ℕ) (b : Bool) (new : Option (List ℕ)) → plans.is_stale files region p.slots n ≡ b → changes.prelinked files region p n ≡ new → changes.is_given files region p n ≡ (b && is_some new)
given_by files region p n b new stale file = ap (λ (c : Bool). c && is_some (changes.prelinked files region p n)) stale ∙ ap (λ (o : Option (List ℕ)). b && is_some o) file

-- ---- causes

ok_unit : (r : Result (Unit {0}) Skip) → is_ok r ≡ true → r ≡ Ok tt
ok_unit (Ok u) e = refl
ok_unit (Err cause) e = absurd (false≢true e)

skip_none : (files : Files) (region : Range) (n : List ℕ) → plans.is_candidate files region n ≡ true → skip_of files region n ≡ Ok tt
skip_none files region n candidate = ok_unit (skip_of files region n) (sym (candidate_is region files n) ∙ candidate)

pub by_cause : (r : Result (Unit {0}) Skip) (cause : Skip) → plans.cause_of r ≡ Some cause → r ≡ Err cause
by_cause (Ok u) cause e = absurd (none-some cause e)
by_cause (Err other) cause e = ap (λ (x : Skip). Err x) (same_Some other cause e)

pub no_cause : (r : Result (Unit {0}) Skip) → plans.cause_of r ≡ None → is_ok r ≡ true
no_cause (Ok u) e = refl
no_cause (Err cause) e = absurd (none-some cause (sym e))

-- ---- what is made of a name

module _ (files : Files) (region : Range) (p : RunPlan) (n bytes : List ℕ) (at : files n ≡ Some bytes) where
  -- of a stale name
  stale_parts : plans.is_stale files region p.slots n ≡ true → (plans.is_candidate files region n ≡ true) × (plans.is_current files region p.slots n ≡ false)
  stale_parts stale =
      let both = and_parts (plans.is_candidate files region n) (not (plans.is_current files region p.slots n)) stale in
      (both.0, not-true (plans.is_current files region p.slots n) both.1)

  pub new_is : (file : List ℕ) → plans.is_stale files region p.slots n ≡ true → Some file ≡ changes.prelinked files region p n
      → made_in files region p n ≡ record { change = put (Some bytes) n (Some file); state = reports.state_in n false (marked_in file); given = true }
  new_is file stale new =
      let s = stale_parts stale in
      let after : next files region p n ≡ Some file =
      next_off files region p n s.1 ∙ (scratch_by files region p n true s.0 ∙ ap (λ (o : Option (List ℕ)). option_or o (option_map original_in (files n))) (sym new)) in
      made_parts files region p n (put (Some bytes) n (Some file)) (reports.state_in n false (marked_in file)) true (change_by files region p n (Some bytes) (Some file) at after)
      (state_of files region p n false (Ok tt) (Some file) s.1 (skip_none files region n s.0) after) (given_by files region p n true (Some file) stale (sym new))

  pub large_is : plans.is_stale files region p.slots n ≡ true → None ≡ changes.prelinked files region p n
      → made_in files region p n ≡ record { change = put (Some bytes) n (Some (original_in bytes)); state = Skipped (skips.Form n 6); given = false }
  large_is stale none =
      let s = stale_parts stale in
      let after : next files region p n ≡ Some (original_in bytes) =
      next_off files region p n s.1
      ∙ (scratch_by files region p n true s.0 ∙ (ap (λ (o : Option (List ℕ)). option_or o (option_map original_in (files n))) (sym none) ∙ ap (option_map original_in) at)) in
      made_parts files region p n (put (Some bytes) n (Some (original_in bytes))) (Skipped (skips.Form n 6)) false (change_by files region p n (Some bytes) (Some (original_in bytes)) at after)
      (state_of files region p n false (Ok tt) (Some (original_in bytes)) s.1 (skip_none files region n s.0) after ∙ ap (reports.state_in n false) (originals_are_bare bytes)) (given_by files region p n true None stale (sym none))

  -- of one that may not be prelinked
  pub skipped_is : (cause : Skip) → skip_of files region n ≡ Err cause → made_in files region p n ≡ record { change = put (Some bytes) n (Some (original_in bytes)); state = Skipped cause; given = false }
  skipped_is cause skip =
      let none : plans.is_candidate files region n ≡ false = candidate_is region files n ∙ ap (λ (r : Result (Unit {0}) Skip). is_ok r) skip in
      let current : plans.is_current files region p.slots n ≡ false = and_left (plans.is_candidate files region n) _ none in
      let stale : plans.is_stale files region p.slots n ≡ false = and_left (plans.is_candidate files region n) (not (plans.is_current files region p.slots n)) none in
      let after : next files region p n ≡ Some (original_in bytes) = next_off files region p n current ∙ (scratch_by files region p n false none ∙ ap (option_map original_in) at) in
      made_parts files region p n (put (Some bytes) n (Some (original_in bytes))) (Skipped cause) false (change_by files region p n (Some bytes) (Some (original_in bytes)) at after)
      (state_of files region p n false (Err cause) (Some (original_in bytes)) current skip after) (given_by files region p n false (changes.prelinked files region p n) stale refl)

  -- of a current one
  current_of : (candidate current : Bool) → candidate ≡ true → (candidate && not current) ≡ false → current ≡ true
  current_of true true is fresh = refl
  current_of true false is fresh = absurd (true≢false fresh)
  current_of false current is fresh = absurd (false≢true is)

  pub current_is : plans.is_candidate files region n ≡ true → plans.is_stale files region p.slots n ≡ false → made_in files region p n ≡ record { change = None; state = reports.state_in n true (marked_in bytes); given = false }
  current_is candidate fresh =
      let current : plans.is_current files region p.slots n ≡ true = current_of (plans.is_candidate files region n) (plans.is_current files region p.slots n) candidate fresh in
      let after : next files region p n ≡ Some bytes = next_on files region p n current ∙ at in
      let same : put (Some bytes) n (Some bytes) ≡ None = rw (eq_refl bytes) refl in
      made_parts files region p n None (reports.state_in n true (marked_in bytes)) false (change_by files region p n (Some bytes) (Some bytes) at after ∙ same)
      (state_of files region p n true (Ok tt) (Some bytes) current (skip_none files region n candidate) after) (given_by files region p n false (changes.prelinked files region p n) fresh refl)
