-- From staging to the end: all changes or none.
use Rattle.std.proofs.Common.{◌≡◌, ⊎_elim, ℕ, suc, ◌+◌, ◌<◌, Bool, true, false, cond, List, [], ◌∷◌, length, get_or, drop, Option, Some, None, is_some, ltb, refl, sym, ◌∙◌, ap, subst, arith}
use Rattle.std.proofs.Math.Seq.{drop-cons}
use Rattle.std.proofs.lemmas.Bool.Decides.{nat_tests}
use Rattle.std.proofs.lemmas.Bool.{cases_Bool, cond-true, cond-false}
use Rattle.pl_folder.specs.Disk.{Name, View, State, IsWhole, bytes_of, same, read}
use Rattle.pl_folder.specs.Since.{Within}
use Rattle.pl_journal.specs.Names.{beside, is_journal_name, journal, journal_new}
use Rattle.pl_journal.specs.Rows.{done_from, rows_in, rows_of}
use Rattle.pl_journal.specs.Spelling.{are_rows}
use Rattle.pl_journal.specs.declared.row.Row.{Row}
use Rattle.pl_folder.specs.declared.TheConstants.{STORED}
use Rattle.pl_journal.specs.Reading.{rows_spelled}
use Rattle.pl_journal.proofs.GrammarLaws.{no_rows, spelled_rows}
use Rattle.pl_journal.specs.Meaning.{Edit, row_of, rows_for, applied, Same, StandsFor, StandsBetween, HasNoOwn, IsSettled}
use Rattle.pl_journal.specs.declared.change.Change.TheVariants.{Put as Write, Drop as Erase}
use Rattle.pl_journal.specs.Phases.{Untouched, with_bytes, staged, all_staged, Midway, Clearing, IsStaging, AreSteps, IsStep}
use Rattle.pl_journal.specs.Phases.{Committing, Finishing, finished}
use Rattle.pl_journal.specs.Leaves.{DoEdit, DoEdits}
use Rattle.pl_journal.specs.declared.step.Step.{Step}
use Rattle.pl_journal.specs.declared.step.Step.TheVariants.{Put as PutStep, Drop as DropStep, Skip}
use Rattle.pl_folder.proofs.ImageLaws.{read_image}
use Rattle.pl_journal.proofs.NameLemmas.{equal}
use Rattle.pl_journal.proofs.Done.{AreDistinct, beside_apart, distinct_test, none_done, valid_not}
use Rattle.pl_journal.proofs.Phases.{all_clearing, clearing_cut}
use Rattle.pl_journal.proofs.Meanings.{stands_self, midway_stands, clearing_stands, untouched_stands, Holds, committed, committed_holds, committed_between, before_between, ends_applied, applied_no_own}

-- an element of a list, and the rest
pub drop_at : {A : Type 0} (xs : List A) (i : ℕ) (x : A) → i < length xs → x ≡ get_or xs i x → drop i xs ≡ x ∷ drop (i + 1) xs
drop_at xs i x lt is = let e : suc i ≡ i + 1 = omega arith in drop-cons xs i x lt ∙ (λ t. sym is t ∷ drop (suc i) xs) ∙ ap (λ k. x ∷ drop k xs) e

not_long : (b : Bool) (x : Option (List Row)) (rows : List Row) → cond b None x ≡ Some rows → x ≡ Some rows
not_long true x rows is = let no : ⊥ = cc in absurd no
not_long false x rows is = is

-- the rows that a journal spells differ
pub spelled_distinct : (bytes : List ℕ) (rows : List Row) → rows_of bytes ≡ Some rows → are_rows rows ≡ true
unfolding rows_of
spelled_distinct bytes rows is = spelled_rows bytes rows (not_long (ltb STORED (length bytes)) (rows_spelled bytes) rows is)

pub rows_in_distinct : (content : Option (List ℕ)) (rows : List Row) → rows_in content ≡ Some rows → are_rows rows ≡ true
rows_in_distinct None rows is = let e : [] ≡ rows = cc in ap are_rows (sym e) ∙ no_rows
rows_in_distinct (Some bytes) rows is = spelled_distinct bytes rows is

pub too_long : (bytes : List ℕ) → STORED < length bytes → rows_of bytes ≡ None
unfolding rows_of
too_long bytes long = cond-true (ltb STORED (length bytes)) _ _ (grind (arith, nat_tests, long))

-- a folder that is settled has what a read gives
pub settled_read : {files : View} (s : State) → IsSettled files s → IsSettled (read s) s
settled_read s settled = subst (λ v. IsSettled v s) (λ i n. settled.only (read s) (read_image s) n i) settled

-- staging begins
pub settled_staging : (before : View) (s : State) → IsSettled before s → IsStaging before before s
settled_staging before s settled = record {
  whole = settled.whole;
  firm = λ n own file named.
      let none : None ≡ Some (s.files file).bytes = sym (settled.no_own n own) ∙ settled.only (read s) (read_image s) n ∙ ap (bytes_of s.files) named in
      let no : ⊥ = cc in
      absurd no;
  within = λ w image. record { agree = λ n valid. sym (settled.only w image n); no_journal = sym (settled.only w image journal) ∙ settled.no_own journal refl };
  reads = λ n. sym (settled.only (read s) (read_image s) n);
}

pub settled_within_for : (before : View) (s : State) → IsSettled before s → Within s (StandsFor before)
settled_within_for before s settled w image = stands_self before w (λ n. sym (settled.only w image n))

put_first : (i j : ℕ) (bytes : List ℕ) (edits : List Edit) (r : View) → i < j → AreDistinct j (rows_for edits) → Same (staged j edits (with_bytes (beside i) bytes r)) (with_bytes (beside i) bytes (staged j edits r))
put_first i j bytes [] r lt distinct n = refl
put_first i j bytes (Write name more ∷ edits) r lt distinct n =
    ap (λ x. cond (same n (beside j)) (Some more) x) (put_first i (j + 1) bytes edits r (omega arith) distinct.3 n) ∙ ⊎_elim
    (λ hit.
    let missed : same n (beside i) ≡ false = subst (λ q. same q (beside i) ≡ false) (sym (equal n (beside j) hit)) (beside_apart j i distinct.2 (omega (arith, lt, distinct.2)) (λ e. omega arith)) in
    cond-true (same n (beside j)) _ _ hit ∙ sym (cond-false (same n (beside i)) _ _ missed ∙ cond-true (same n (beside j)) _ _ hit))
    (λ missed. cond-false (same n (beside j)) _ _ missed ∙ ap (λ x. cond (same n (beside i)) (Some bytes) x) (sym (cond-false (same n (beside j)) _ _ missed)))
    (cases_Bool (same n (beside j)))
put_first i j bytes (Erase name ∷ edits) r lt distinct n = put_first i (j + 1) bytes edits r (omega arith) distinct.3 n

pub put_next : (i : ℕ) (name bytes : List ℕ) (edits : List Edit) (r : View) → AreDistinct (i + 1) (rows_for edits) → Same (staged (i + 1) edits (with_bytes (beside i) bytes r)) (staged i (Write name bytes ∷ edits) r)
put_next i name bytes edits r distinct = put_first i (i + 1) bytes edits r (omega arith) distinct

pub same_reads : (before r q : View) (s : State) → Same r q → IsStaging before r s → IsStaging before q s
same_reads before r q s is staging = record { whole = staging.whole; firm = staging.firm; within = staging.within; reads = λ n. staging.reads n ∙ is n }

one_step : (i : ℕ) (edit : Edit) (step : Step) (w : View) → Holds i (edit ∷ []) w → DoEdit i edit step → IsStep w i (row_of edit) step
one_step i (Write name bytes) (PutStep from to) w holds does = (does.0, does.1, ap is_some holds.0)
one_step i (Write name bytes) (DropStep n) w holds does = absurd does
one_step i (Write name bytes) Skip w holds does = absurd does
one_step i (Erase name) (PutStep from to) w holds does = absurd does
one_step i (Erase name) (DropStep n) w holds does = does
one_step i (Erase name) Skip w holds does = absurd does

first_holds : (i : ℕ) (edit : Edit) (edits : List Edit) (w : View) → Holds i (edit ∷ edits) w → Holds i (edit ∷ []) w × Holds (i + 1) edits w
first_holds i (Write name bytes) edits w holds = ((holds.0, tt), holds.1)
first_holds i (Erase name) edits w holds = (tt, holds)

-- the steps of the changes are those of the journal's rows
pub edits_steps : (i : ℕ) (edits : List Edit) (steps : List Step) (w : View) → Holds i edits w → DoEdits i edits steps → AreSteps w i (rows_for edits) steps
edits_steps i [] [] w holds does = tt
edits_steps i [] (s ∷ steps) w holds does = absurd does
edits_steps i (edit ∷ edits) [] w holds does = absurd does
edits_steps i (edit ∷ edits) (step ∷ steps) w holds does = let parts = first_holds i edit edits w holds in (one_step i edit step w parts.0 does.0, edits_steps (i + 1) edits steps w parts.1 does.1)

module _ (before : View) (no_own : HasNoOwn before) (edits : List Edit) (bytes : List ℕ) (spelled : rows_of bytes ≡ Some (rows_for edits)) where
  abbrev rows : List Row
  rows = rows_for edits

  pub distinct : are_rows rows ≡ true
  distinct = spelled_distinct bytes rows spelled

  abbrev pub v0 : View
  v0 = committed before no_own edits bytes spelled (distinct_test rows distinct)

  pub untouched_between : (w : View) → Untouched before w → StandsBetween before edits w
  untouched_between w u = before_between before no_own edits w (untouched_stands before no_own w u)

  pub midway_between : (w : View) → Midway v0 rows w → StandsBetween before edits w
  midway_between w m = committed_between before no_own edits bytes spelled (distinct_test rows distinct) w (midway_stands v0 rows spelled (distinct_test rows distinct) w m)

  clearing_between : (w : View) → Clearing v0 rows w → StandsBetween before edits w
  clearing_between w c = committed_between before no_own edits bytes spelled (distinct_test rows distinct) w (clearing_stands v0 rows spelled (distinct_test rows distinct) w c)

  pub committing_between : (w : View) → Committing before (all_staged edits bytes before) rows w → StandsBetween before edits w
  committing_between w = ⊎_elim (untouched_between w) (midway_between w)

  -- what is staged is only under own names
  staged_agree : (i : ℕ) (more : List Edit) (n : Name) → is_journal_name n ≡ false → staged i more before n ≡ before n
  staged_agree i [] n valid = refl
  staged_agree i (Write name some ∷ more) n valid = cond-false (same n (beside i)) _ _ (valid_not n (beside i) valid refl) ∙ staged_agree (i + 1) more n valid
  staged_agree i (Erase name ∷ more) n valid = staged_agree (i + 1) more n valid

  staged_journal : (i : ℕ) (more : List Edit) → staged i more before journal ≡ before journal
  staged_journal i [] = refl
  staged_journal i (Write name some ∷ more) = cond-false (same journal (beside i)) (Some some) (staged (i + 1) more before journal) refl ∙ staged_journal (i + 1) more
  staged_journal i (Erase name ∷ more) = staged_journal (i + 1) more

  pub staged_between : (w : View) → Same w (all_staged edits bytes before) → StandsBetween before edits w
  staged_between w is = untouched_between w (record {
    agree = λ n valid. is n ∙ cond-false (same n journal_new) _ _ (valid_not n journal_new valid refl) ∙ staged_agree 0 edits n valid;
    no_journal = is journal ∙ cond-false (same journal journal_new) (Some bytes) (staged 0 edits before journal) refl ∙ staged_journal 0 edits ∙ no_own journal refl;
  })

  -- no row is done yet, or all of them
  pub committed_is_between : (w : View) → Same w v0 → StandsBetween before edits w
  committed_is_between w is = midway_between w (record { keep = λ _. false; done = λ n. is n ∙ sym (none_done 0 rows v0 n) })

  pub all_between : (w : View) → Same w (done_from 0 rows (λ _. true) v0) → StandsBetween before edits w
  all_between w is = midway_between w (record { keep = λ _. true; done = is })

  pub ended_between : (w : View) → ((n : Name) → w n ≡ cond (same n journal) None (done_from 0 rows (λ _. true) v0 n)) → StandsBetween before edits w
  ended_between w is = clearing_between w (clearing_cut v0 rows (distinct_test rows distinct) journal refl (done_from 0 rows (λ _. true) v0) w is (all_clearing v0 rows (distinct_test rows distinct) (done_from 0 rows (λ _. true) v0) (λ n. refl)))

  pub finishing_between : (w : View) → Finishing v0 rows w → StandsBetween before edits w
  finishing_between w = ⊎_elim (midway_between w) (clearing_between w)

  pub steps_are : (steps : List Step) → DoEdits 0 edits steps → AreSteps v0 0 rows steps
  steps_are steps does = edits_steps 0 edits steps v0 (committed_holds before no_own edits bytes spelled (distinct_test rows distinct)) does

  pub ends_settled : (s : State) → IsWhole s × Within s (Same (finished v0 rows)) → IsSettled (applied edits before) s
  ends_settled s end = record {
    whole = end.0;
    only = λ w image n. sym (ends_applied before no_own edits bytes spelled (distinct_test rows distinct) n) ∙ end.1 w image n;
    no_own = applied_no_own before no_own edits bytes spelled (distinct_test rows distinct);
  }
