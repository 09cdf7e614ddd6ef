-- What the views of each phase stand for.
use Rattle.std.proofs.Common.{◌≡◌, ◌⊎◌, inl, inr, ⊎_elim, ℕ, ◌+◌, ◌≤◌, ◌<◌, ◌^◌, ◌&&◌, ◌||◌, Bool, true, false, cond, List, [], ◌∷◌, Option, Some, None, is_some, refl, sym, ◌∙◌, ap, subst, arith}
use Rattle.std.proofs.lemmas.Bool.{both_ways, cases_Bool, and_left, and_right, cond-true, cond-false}
use Rattle.pl_folder.specs.Disk.{Name, View, same}
use Rattle.pl_journal.specs.Names.{is_journal_name, beside, journal, journal_new}
use Rattle.pl_journal.specs.Rows.{all_done, rows_in, rows_of, done_from, done, clean, recovered}
use Rattle.pl_journal.specs.Spelling.{are_rows}
use Rattle.pl_journal.specs.declared.row.Row.{Row}
use Rattle.pl_journal.specs.declared.row.Row.TheVariants.{Put, Drop}
use Rattle.pl_journal.specs.Meaning.{Edit, rows_for, mixed, applied, Agree, Same, StandsFor, StandsBetween, HasNoOwn}
use Rattle.pl_journal.specs.declared.change.Change.TheVariants.{Put as Write, Drop as Erase}
use Rattle.pl_journal.specs.Phases.{Untouched, staged, all_staged, shifted, Midway, Gone, Clearing}
use Rattle.pl_folder.proofs.ImageLaws.{itself}
use Rattle.pl_journal.proofs.NameLemmas.{apart}
use Rattle.pl_journal.proofs.Done.{beside_own, not_beside, own_not, valid_not, beside_apart, AreDistinct, journal_stays, Sees, sees, more_done, cleaned, distinct_test, recovered_by, done_is}

or_true : (b : Bool) → true ≡ (b || true)
or_true true = refl
or_true false = refl

pub stands_self : (v w : View) → Same w v → StandsFor v w
stands_self v w is = let path : w ≡ v = λ i n. is n i in subst (StandsFor v) (sym path) (record { any = λ s. (s, λ n valid. refl); all = λ n. refl })

module _ (v : View) (rows : List Row) (is : rows_in (v journal) ≡ Some rows) (distinct : AreDistinct 0 rows) (w : View) where
  -- in the middle of its rows, a folder stands for what it stood for
  pub midway_stands : Midway v rows w → StandsFor v w
  midway_stands m = record {
    any = λ s. (
      λ j. m.keep j || s j,
      λ n valid. done_is s w rows w_is n ∙ more_done m.keep s (λ j. m.keep j || s j) (λ j. refl) v w 0 rows distinct seen n valid (m.done n) ∙ sym (done_is (λ j. m.keep j || s j) v rows is n),
    );
    all = λ n. recovered_by w rows w_is n
        ∙ cleaned (done_from 0 rows (λ _. true) w) (done_from 0 rows (λ _. true) v) n (λ valid. more_done m.keep (λ _. true) (λ _. true) (λ j. or_true (m.keep j)) v w 0 rows distinct seen n valid (m.done n))
        ∙ sym (recovered_by v rows is n);
  }
    where
      w_is : rows_in (w journal) ≡ Some rows
      w_is = ap rows_in (m.done journal ∙ journal_stays 0 rows m.keep v distinct) ∙ is

      seen : Sees 0 rows m.keep v w
      seen = sees 0 rows m.keep v w distinct (λ j le fits. m.done (beside j))

  gone_sees : (i : ℕ) (rows : List Row) → Gone i rows w → Sees i rows (λ _. true) v w
  gone_sees i [] gone = tt
  gone_sees i (Put name ∷ rows) gone = (gone.0, gone_sees (i + 1) rows gone.1)
  gone_sees i (Drop name ∷ rows) gone = gone_sees (i + 1) rows gone

  clearing_by : Agree w (done_from 0 rows (λ _. true) v) → Gone 0 rows w → (w journal ≡ None) ⊎ (w journal ≡ v journal) → StandsFor v w
  clearing_by agree gone (inl none) = record {
    any = λ s. (λ _. true, λ n valid. done_is s w [] (ap rows_in none) n ∙ agree n valid ∙ sym (done_is (λ _. true) v rows is n));
    all = λ n. recovered_by w [] (ap rows_in none) n ∙ cleaned w (done_from 0 rows (λ _. true) v) n (agree n) ∙ sym (recovered_by v rows is n);
  }
  clearing_by agree gone (inr still) =
      let w_is : rows_in (w journal) ≡ Some rows = ap rows_in still ∙ is in
      let seen : Sees 0 rows (λ _. true) v w = gone_sees 0 rows gone in
      record {
        any = λ s. (λ _. true, λ n valid. done_is s w rows w_is n ∙ more_done (λ _. true) s (λ _. true) (λ j. refl) v w 0 rows distinct seen n valid (agree n valid) ∙ sym (done_is (λ _. true) v rows is n));
        all = λ n. recovered_by w rows w_is n ∙ cleaned (done_from 0 rows (λ _. true) w) (done_from 0 rows (λ _. true) v) n (λ valid. more_done (λ _. true) (λ _. true) (λ _. true) (λ j. refl) v w 0 rows distinct seen n valid (agree n valid)) ∙ sym (recovered_by v rows is n);
      }

  -- and while own names go
  pub clearing_stands : Clearing v rows w → StandsFor v w
  clearing_stands c = clearing_by c.agree c.gone c.journal_goes

-- without own names there is nothing to recover
module _ (files : View) (no_own : HasNoOwn files) where
  pub nothing_done : (s : ℕ → Bool) → Same (done s files) files
  nothing_done s n = done_is s files [] (ap rows_in (no_own journal refl)) n

  pub clean_is : Same (clean files) files
  clean_is n = ⊎_elim (λ own. cond-true (is_journal_name n) _ _ own ∙ sym (no_own n own)) (λ valid. cond-false (is_journal_name n) _ _ valid) (cases_Bool (is_journal_name n))

  pub nothing_recovered : Same (recovered files) files
  nothing_recovered n = recovered_by files [] (ap rows_in (no_own journal refl)) n ∙ clean_is n

  pub untouched_stands : (w : View) → Untouched files w → StandsFor files w
  untouched_stands w u = record {
    any = λ s. (λ _. true, λ n valid. done_is s w [] (ap rows_in u.no_journal) n ∙ u.agree n valid ∙ sym (nothing_done (λ _. true) n));
    all = λ n. recovered_by w [] (ap rows_in u.no_journal) n ∙ cleaned w files n (u.agree n) ∙ clean_is n ∙ sym (nothing_recovered n);
  }

-- what a folder stands for has no own name
pub recovered_no_own : (v : View) (rows : List Row) → rows_in (v journal) ≡ Some rows → HasNoOwn (recovered v)
recovered_no_own v rows is n own = recovered_by v rows is n ∙ cond-true (is_journal_name n) _ _ own

-- what stands for the recovered folder stands for the folder
pub stands_recovered : (v : View) (rows : List Row) → rows_in (v journal) ≡ Some rows → (w : View) → StandsFor (recovered v) w → StandsFor v w
stands_recovered v rows is w stands = record {
  any = λ s. (
    λ _. true,
    λ n valid. (stands.any s).1 n valid
        ∙ nothing_done (recovered v) no_own (stands.any s).0 n
        ∙ recovered_by v rows is n
        ∙ cond-false (is_journal_name n) _ _ valid
        ∙ sym (done_is (λ _. true) v rows is n),
  );
  all = λ n. stands.all n ∙ nothing_recovered (recovered v) no_own n;
}
  where
    no_own : HasNoOwn (recovered v)
    no_own = recovered_no_own v rows is

-- the staged files are at their places
abbrev pub Holds : ℕ → List Edit → View → Type 0
Holds i [] w = Unit {0}
Holds i (Write name bytes ∷ edits) w = (w (beside i) ≡ Some bytes) × Holds (i + 1) edits w
Holds i (Erase name ∷ edits) w = Holds (i + 1) edits w

holds : (before : View) (i : ℕ) (edits : List Edit) (w : View) → AreDistinct i (rows_for edits) → ((j : ℕ) → i ≤ j → j < 2 ^ 64 → w (beside j) ≡ staged i edits before (beside j)) → Holds i edits w
holds before i [] w distinct is = tt
holds before i (Write name bytes ∷ edits) w distinct is = (
  is i (omega arith) distinct.2 ∙ cond-true (same (beside i) (beside i)) _ _ (itself (beside i)),
  holds before (i + 1) edits w distinct.3 (λ j le fits. is j (omega arith) fits ∙ cond-false (same (beside j) (beside i)) _ _ (beside_apart j i fits distinct.2 (λ e. omega arith))),
)
holds before i (Erase name ∷ edits) w distinct is = holds before (i + 1) edits w distinct.3 (λ j le fits. is j (omega arith) fits)

and_true : (b : Bool) → (b && true) ≡ b
and_true true = refl
and_true false = refl

mixed_is : (before : View) (i : ℕ) (edits : List Edit) (keep : ℕ → Bool) (w : View) → Holds i edits w → (n : Name) → is_journal_name n ≡ false → w n ≡ before n → done_from i (rows_for edits) keep w n ≡ mixed i edits keep before n
mixed_is before i [] keep w held n valid is = is
mixed_is before i (Write name bytes ∷ edits) keep w held n valid is =
    cond-false (keep i && same n (beside i)) _ _ (and_right (keep i) _ (not_beside n i valid))
    ∙ (λ t. cond (keep i && (same n name && is_some (held.0 t))) (held.0 t) (mixed_is before (i + 1) edits keep w held.1 n valid is t))
    ∙ ap (λ b. cond (keep i && b) (Some bytes) (mixed (i + 1) edits keep before n)) (and_true (same n name))
mixed_is before i (Erase name ∷ edits) keep w held n valid is = ap (λ r. cond (keep i && same n name) None r) (mixed_is before (i + 1) edits keep w held n valid is)

staged_valid : (i : ℕ) (edits : List Edit) (v : View) (n : Name) → is_journal_name n ≡ false → staged i edits v n ≡ v n
staged_valid i [] v n valid = refl
staged_valid i (Write name bytes ∷ edits) v n valid = cond-false (same n (beside i)) _ _ (not_beside n i valid) ∙ staged_valid (i + 1) edits v n valid
staged_valid i (Erase name ∷ edits) v n valid = staged_valid (i + 1) edits v n valid

staged_other : (q : Name) → ((i : ℕ) → same q (beside i) ≡ false) → (i : ℕ) (edits : List Edit) (v : View) → staged i edits v q ≡ v q
staged_other q other i [] v = refl
staged_other q other i (Write name bytes ∷ edits) v = cond-false (same q (beside i)) _ _ (other i) ∙ staged_other q other (i + 1) edits v
staged_other q other i (Erase name ∷ edits) v = staged_other q other (i + 1) edits v

-- of own names, all rows leave none
own_gone : (before : View) → HasNoOwn before → (i : ℕ) (edits : List Edit) (w : View) → AreDistinct i (rows_for edits) → (n : Name) → is_journal_name n ≡ true → w n ≡ staged i edits before n → done_from i (rows_for edits) (λ _. true) w n ≡ None
own_gone before no_own i [] w distinct n own is = is ∙ no_own n own
own_gone before no_own i (Write name bytes ∷ edits) w distinct n own is = ⊎_elim
    (λ hit. cond-true (same n (beside i)) _ _ hit)
    (λ missed.
    cond-false (same n (beside i)) _ _ missed
    ∙ cond-false (same n name && is_some (w (beside i))) _ _ (and_left (same n name) _ (own_not n name own distinct.0))
    ∙ own_gone before no_own (i + 1) edits w distinct.3 n own (is ∙ cond-false (same n (beside i)) _ _ missed))
    (cases_Bool (same n (beside i)))
own_gone before no_own i (Erase name ∷ edits) w distinct n own is =
    cond-false (same n name) _ _ (own_not n name own distinct.0) ∙ own_gone before no_own (i + 1) edits w distinct.3 n own is

mixed_own : (i : ℕ) (edits : List Edit) (keep : ℕ → Bool) (v : View) → AreDistinct i (rows_for edits) → (n : Name) → is_journal_name n ≡ true → mixed i edits keep v n ≡ v n
mixed_own i [] keep v distinct n own = refl
mixed_own i (Write name bytes ∷ edits) keep v distinct n own = cond-false (keep i && same n name) _ _ (and_right (keep i) _ (own_not n name own distinct.0)) ∙ mixed_own (i + 1) edits keep v distinct.3 n own
mixed_own i (Erase name ∷ edits) keep v distinct n own = cond-false (keep i && same n name) _ _ (and_right (keep i) _ (own_not n name own distinct.0)) ∙ mixed_own (i + 1) edits keep v distinct.3 n own

none_mixed : (i : ℕ) (edits : List Edit) (v : View) (n : Name) → mixed i edits (λ _. false) v n ≡ v n
none_mixed i [] v n = refl
none_mixed i (Write name bytes ∷ edits) v n = none_mixed (i + 1) edits v n
none_mixed i (Erase name ∷ edits) v n = none_mixed (i + 1) edits v n

-- the folder as it is committed, with its changes staged
module _ (before : View) (no_own : HasNoOwn before) (edits : List Edit) (bytes : List ℕ) (spelled : rows_of bytes ≡ Some (rows_for edits)) (distinct : AreDistinct 0 (rows_for edits)) where
  abbrev pub committed : View
  committed = shifted journal_new journal (all_staged edits bytes before)

  pub committed_journal : rows_in (committed journal) ≡ Some (rows_for edits)
  committed_journal = spelled

  committed_valid : (n : Name) → is_journal_name n ≡ false → committed n ≡ before n
  committed_valid n valid =
      cond-false (same n journal) _ _ (valid_not n journal valid refl)
      ∙ cond-false (same n journal_new) _ _ (valid_not n journal_new valid refl)
      ∙ cond-false (same n journal_new) _ _ (valid_not n journal_new valid refl)
      ∙ staged_valid 0 edits before n valid

  committed_own : (n : Name) → is_journal_name n ≡ true → same n journal ≡ false → committed n ≡ staged 0 edits before n
  committed_own n own other = cond-false (same n journal) _ _ other ∙ ⊎_elim
      (λ hit. cond-true (same n journal_new) _ _ hit ∙ sym (no_own n own) ∙ sym (staged_other n (λ i. apart n (beside i) (λ e. both_ways (same n journal_new) (subst (λ q. same q journal_new ≡ false) (sym e) refl) hit)) 0 edits before))
      (λ missed. cond-false (same n journal_new) _ _ missed ∙ cond-false (same n journal_new) _ _ missed)
      (cases_Bool (same n journal_new))

  pub committed_holds : Holds 0 edits committed
  committed_holds = holds before 0 edits committed distinct (λ j le fits. committed_own (beside j) (beside_own j) refl)

  committed_mixed : (keep : ℕ → Bool) → Agree (done_from 0 (rows_for edits) keep committed) (mixed 0 edits keep before)
  committed_mixed keep n valid = mixed_is before 0 edits keep committed committed_holds n valid (committed_valid n valid)

  -- all rows done, and no journal
  pub ends_applied : Same (λ n. cond (same n journal) None (done_from 0 (rows_for edits) (λ _. true) committed n)) (applied edits before)
  ends_applied n = ⊎_elim
      (λ own. ⊎_elim
      (λ hit. cond-true (same n journal) _ _ hit)
      (λ missed. cond-false (same n journal) _ _ missed ∙ own_gone before no_own 0 edits committed distinct n own (committed_own n own missed))
      (cases_Bool (same n journal))
      ∙ sym (mixed_own 0 edits (λ _. true) before distinct n own ∙ no_own n own))
      (λ valid. cond-false (same n journal) _ _ (valid_not n journal valid refl) ∙ committed_mixed (λ _. true) n valid)
      (cases_Bool (is_journal_name n))

  pub applied_no_own : HasNoOwn (applied edits before)
  applied_no_own n own = mixed_own 0 edits (λ _. true) before distinct n own ∙ no_own n own

  recovered_applied : Same (recovered committed) (applied edits before)
  recovered_applied n = recovered_by committed (rows_for edits) committed_journal n ∙ ⊎_elim
      (λ own. cond-true (is_journal_name n) _ _ own ∙ sym (applied_no_own n own))
      (λ valid. cond-false (is_journal_name n) _ _ valid ∙ committed_mixed (λ _. true) n valid)
      (cases_Bool (is_journal_name n))

  -- what stands for the committed folder is between before and after
  pub committed_between : (w : View) → StandsFor committed w → StandsBetween before edits w
  committed_between w stands = record {
    any = λ s. ((stands.any s).0, λ n valid. (stands.any s).1 n valid ∙ done_is (stands.any s).0 committed (rows_for edits) committed_journal n ∙ committed_mixed (stands.any s).0 n valid);
    all = inr (λ n. stands.all n ∙ recovered_applied n);
  }

pub before_between : (before : View) → HasNoOwn before → (edits : List Edit) (w : View) → StandsFor before w → StandsBetween before edits w
before_between before no_own edits w stands = record {
  any = λ s. (λ _. false, λ n valid. (stands.any s).1 n valid ∙ nothing_done before no_own (stands.any s).0 n ∙ sym (none_mixed 0 edits before n));
  all = inl (λ n. stands.all n ∙ nothing_recovered before no_own n);
}

-- ---- no bad journal

-- where the journal is outside its grammar a folder stands for itself
recovered_bad : (v : View) → rows_in (v journal) ≡ None → Same (recovered v) v
unfolding recovered
recovered_bad v bad n = ap (λ o. all_done o v n) bad

-- what stands for files without a journal has none, or one in its grammar
stands_without : (v files : View) → Same (recovered v) files → files journal ≡ None → is_some (rows_in (v journal)) ≡ true
stands_without v files is none = by_rows (rows_in (v journal)) refl
  where
    by_rows : (o : Option (List Row)) → rows_in (v journal) ≡ o → is_some o ≡ true
    by_rows (Some rows) found = refl
    by_rows None found =
        let gone : rows_in (v journal) ≡ Some [] = ap rows_in (sym (recovered_bad v found journal) ∙ is journal ∙ none) in
        let no : ⊥ = cc in
        absurd no

pub run_leaves : (before : View) → HasNoOwn before → (edits : List Edit) → are_rows (rows_for edits) ≡ true → (v : View) → StandsBetween before edits v → is_some (rows_in (v journal)) ≡ true
run_leaves before no_own edits fine v stands = ⊎_elim
    (λ is. stands_without v before is (no_own journal refl))
    (λ is. stands_without v (applied edits before) is (mixed_own 0 edits (λ _. true) before (distinct_test (rows_for edits) fine) journal refl ∙ no_own journal refl))
    stands.all

pub recovery_leaves : (before v : View) → is_some (rows_in (before journal)) ≡ true → StandsFor before v → is_some (rows_in (v journal)) ≡ true
recovery_leaves before v good stands = by_rows (rows_in (before journal)) refl good
  where
    by_rows : (o : Option (List Row)) → rows_in (before journal) ≡ o → is_some o ≡ true → is_some (rows_in (v journal)) ≡ true
    by_rows (Some rows) found there = stands_without v (recovered before) stands.all (recovered_no_own before rows found journal refl)
    by_rows None found there = let no : ⊥ = cc in absurd no
