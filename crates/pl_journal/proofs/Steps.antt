-- The next row of a journal is done.
use Rattle.std.proofs.Common.{◌≡◌, inl, inr, ⊎_elim, ℕ, ◌+◌, ◌≤◌, ◌<◌, ◌^◌, ◌&&◌, ◌==◌, Bool, true, false, cond, List, [], ◌∷◌, Option, None, is_some, ltb, refl, sym, ◌∙◌, ap, subst, arith}
use Rattle.std.proofs.lemmas.Bool.{both_ways, cases_Bool, and_left, and_right, and_parts, cond-true, cond-false, eq-eqb, ne_eqb}
use Rattle.std.proofs.lemmas.Bool.Decides.{nat_tests}
use Rattle.pl_folder.specs.Disk.{Name, View, State, IsWhole, same, read}
use Rattle.pl_folder.specs.States.{renamed, removed, firmed, settled}
use Rattle.pl_folder.specs.Since.{Within}
use Rattle.pl_journal.specs.Names.{is_journal_name, beside}
use Rattle.pl_journal.specs.Rows.{done_from}
use Rattle.pl_journal.specs.Spelling.{name_of}
use Rattle.pl_journal.specs.declared.row.Row.{Row}
use Rattle.pl_journal.specs.declared.row.Row.TheVariants.{Put, Drop}
use Rattle.pl_journal.specs.Meaning.{Same}
use Rattle.pl_journal.specs.Phases.{Midway, Underway, RowAt, IsDoing}
use Rattle.pl_folder.proofs.ImageLaws.{settled_reads, settled_within, settled_whole, firmed_image, firmed_reads, firmed_whole, firmed_firm, removed_image, removed_reads, removed_whole, renamed_image, renamed_reads, renamed_firm, renamed_whole}
use Rattle.pl_journal.proofs.NameLemmas.{equal}
use Rattle.pl_journal.proofs.Done.{not_beside, own_not, beside_apart, later_rows, done_agree, none_done, Misses, AreDistinct}

-- row k too
abbrev pub plus : ℕ → (ℕ → Bool) → ℕ → Bool
plus k keep j = cond (j == k) true (keep j)

plus_other : (k : ℕ) (keep : ℕ → Bool) (j : ℕ) → (j ≡ k → ⊥) → plus k keep j ≡ keep j
plus_other k keep j differ = cond-false (j == k) _ _ (ne_eqb j k differ)

row_after : (i : ℕ) (rows : List Row) (k : ℕ) (row : Row) → RowAt i rows k row → i ≤ k
row_after i [] k row at = absurd at
row_after i (r ∷ rows) k row (inl here) = omega (arith, here.0)
row_after i (r ∷ rows) k row (inr there) = omega (arith, row_after (i + 1) rows k row there)

-- the number of a row fits 64 bits
row_fits : (i : ℕ) (rows : List Row) (k : ℕ) (row : Row) → AreDistinct i rows → RowAt i rows k row → k < 2 ^ 64
row_fits i [] k row distinct at = absurd at
row_fits i (r ∷ rows) k row distinct (inl here) = subst (λ j. j < 2 ^ 64) here.0 distinct.2
row_fits i (r ∷ rows) k row distinct (inr there) = row_fits (i + 1) rows k row distinct.3 there

misses_at : (i : ℕ) (rows : List Row) (k : ℕ) (row : Row) (n : Name) → Misses n rows → RowAt i rows k row → same n (name_of row) ≡ false
misses_at i [] k row n misses at = absurd at
misses_at i (r ∷ rows) k row n misses (inl here) = subst (λ q. same n (name_of q) ≡ false) here.1 misses.0
misses_at i (r ∷ rows) k row n misses (inr there) = misses_at (i + 1) rows k row n misses.1 there

valid_at : (i : ℕ) (rows : List Row) (k : ℕ) (row : Row) → AreDistinct i rows → RowAt i rows k row → is_journal_name (name_of row) ≡ false
valid_at i [] k row distinct at = absurd at
valid_at i (r ∷ rows) k row distinct (inl here) = subst (λ q. is_journal_name (name_of q) ≡ false) here.1 distinct.0
valid_at i (r ∷ rows) k row distinct (inr there) = valid_at (i + 1) rows k row distinct.3 there

-- an earlier row at other names may be done before or after
commute : (a b s t : Bool) (x y r : Option (List ℕ)) → (a ≡ true → (s ≡ false) × (t ≡ false)) → (b ≡ true → (s ≡ false) × (t ≡ false)) → cond a None (cond b x (cond s y (cond t None r))) ≡ cond s y (cond t None (cond a None (cond b x r)))
commute true b s t x y r first second = let h = first refl in sym (λ i. cond (h.0 i) y (cond (h.1 i) None None))
commute false true s t x y r first second = let h = second refl in sym (λ i. cond (h.0 i) y (cond (h.1 i) None x))
commute false false s t x y r first second = refl

and_true : (b : Bool) → (b && true) ≡ b
and_true true = refl
and_true false = refl

module _ (v : View) (keep : ℕ → Bool) (n : Name) where
  head_put : (i : ℕ) (rows : List Row) (name : Name) → is_journal_name name ≡ false → is_some (v (beside i)) ≡ true → keep i ≡ false → done_from i (Put name ∷ rows) (plus i keep) v n ≡ cond (same n name) (v (beside i)) (cond (same n (beside i)) None (done_from i (Put name ∷ rows) keep v n))
  head_put i rows name valid there not_yet =
      let now : plus i keep i ≡ true = cond-true (i == i) _ _ (eq-eqb i i refl) in
      let rest : done_from (i + 1) rows (plus i keep) v n ≡ done_from (i + 1) rows keep v n = done_agree (i + 1) rows (plus i keep) keep v n (λ j le. plus_other i keep j (λ e. omega arith)) in
      let left : done_from i (Put name ∷ rows) (plus i keep) v n ≡ cond (same n (beside i)) None (cond (same n name) (v (beside i)) (done_from (i + 1) rows keep v n)) =
      (λ t. cond (now t && same n (beside i)) None (cond (now t && (same n name && there t)) (v (beside i)) (rest t)))
      ∙ ap (λ b. cond (same n (beside i)) None (cond b (v (beside i)) (done_from (i + 1) rows keep v n))) (and_true (same n name)) in
      let right : done_from i (Put name ∷ rows) keep v n ≡ done_from (i + 1) rows keep v n = λ t. cond (not_yet t && same n (beside i)) None (cond (not_yet t && (same n name && is_some (v (beside i)))) (v (beside i)) (done_from (i + 1) rows keep v n)) in
      left
      ∙ ⊎_elim
      (λ hit.
      let apart_here : same n (beside i) ≡ false = not_beside n i (subst (λ m. is_journal_name m ≡ false) (sym (equal n name hit)) valid) in
      cond-false (same n (beside i)) _ _ apart_here ∙ cond-true (same n name) _ _ hit ∙ sym (cond-true (same n name) _ _ hit))
      (λ missed. ap (λ r. cond (same n (beside i)) None r) (cond-false (same n name) _ _ missed) ∙ ap (λ r. cond (same n (beside i)) None r) (sym right) ∙ sym (cond-false (same n name) _ _ missed))
      (cases_Bool (same n name))

  pub put_more : (i : ℕ) (rows : List Row) (k : ℕ) (name : Name) → RowAt i rows k (Put name) → AreDistinct i rows → is_some (v (beside k)) ≡ true → keep k ≡ false → done_from i rows (plus k keep) v n ≡ cond (same n name) (v (beside k)) (cond (same n (beside k)) None (done_from i rows keep v n))
  put_more i [] k name at distinct there not_yet = absurd at
  put_more i (r ∷ rows) k name (inl here) distinct there not_yet =
      let valid : is_journal_name name ≡ false = subst (λ q. is_journal_name (name_of q) ≡ false) here.1 distinct.0 in
      let at_i = head_put i rows name valid (subst (λ j. is_some (v (beside j)) ≡ true) (sym here.0) there) (subst (λ j. keep j ≡ false) (sym here.0) not_yet) in
      let at_k : done_from i (Put name ∷ rows) (plus k keep) v n ≡ cond (same n name) (v (beside k)) (cond (same n (beside k)) None (done_from i (Put name ∷ rows) keep v n)) =
      subst (λ j. done_from i (Put name ∷ rows) (plus j keep) v n ≡ cond (same n name) (v (beside j)) (cond (same n (beside j)) None (done_from i (Put name ∷ rows) keep v n))) here.0 at_i in
      subst (λ q. done_from i (q ∷ rows) (plus k keep) v n ≡ cond (same n name) (v (beside k)) (cond (same n (beside k)) None (done_from i (q ∷ rows) keep v n))) (sym here.1) at_k
  put_more i (Put m ∷ rows) k name (inr later) distinct there not_yet =
      let lt : i + 1 ≤ k = row_after (i + 1) rows k (Put name) later in
      let valid : is_journal_name name ≡ false = valid_at (i + 1) rows k (Put name) distinct.3 later in
      let same_keep : plus k keep i ≡ keep i = plus_other k keep i (λ e. omega arith) in
      let rest = put_more (i + 1) rows k name later distinct.3 there not_yet in
      (λ t. cond (same_keep t && same n (beside i)) None (cond (same_keep t && (same n m && is_some (v (beside i)))) (v (beside i)) (rest t)))
      ∙ commute (keep i && same n (beside i)) (keep i && (same n m && is_some (v (beside i)))) (same n name) (same n (beside k)) (v (beside i)) (v (beside k)) (done_from (i + 1) rows keep v n)
      (λ a.
      let is : n ≡ beside i = equal n (beside i) (and_parts (keep i) _ a).1 in
      (subst (λ q. same q name ≡ false) (sym is) (own_not (beside i) name refl valid), subst (λ q. same q (beside k) ≡ false) (sym is) (beside_apart i k distinct.2 (row_fits (i + 1) rows k (Put name) distinct.3 later) (λ e. omega arith))))
      (λ b.
      let is : n ≡ m = equal n m (and_parts (same n m) _ (and_parts (keep i) _ b).1).0 in
      (subst (λ q. same q name ≡ false) (sym is) (misses_at (i + 1) rows k (Put name) m distinct.1 later), subst (λ q. same q (beside k) ≡ false) (sym is) (not_beside m k distinct.0)))
  put_more i (Drop m ∷ rows) k name (inr later) distinct there not_yet =
      let lt : i + 1 ≤ k = row_after (i + 1) rows k (Put name) later in
      let same_keep : plus k keep i ≡ keep i = plus_other k keep i (λ e. omega arith) in
      let rest = put_more (i + 1) rows k name later distinct.3 there not_yet in
      (λ t. cond (same_keep t && same n m) None (rest t))
      ∙ commute (keep i && same n m) false (same n name) (same n (beside k)) None (v (beside k)) (done_from (i + 1) rows keep v n)
      (λ a.
      let is : n ≡ m = equal n m (and_parts (keep i) _ a).1 in
      (subst (λ q. same q name ≡ false) (sym is) (misses_at (i + 1) rows k (Put name) m distinct.1 later), subst (λ q. same q (beside k) ≡ false) (sym is) (not_beside m k distinct.0)))
      (λ b. absurd (both_ways false refl b))

  head_drop : (i : ℕ) (rows : List Row) (name : Name) → keep i ≡ false → done_from i (Drop name ∷ rows) (plus i keep) v n ≡ cond (same n name) None (done_from i (Drop name ∷ rows) keep v n)
  head_drop i rows name not_yet =
      let now : plus i keep i ≡ true = cond-true (i == i) _ _ (eq-eqb i i refl) in
      let rest : done_from (i + 1) rows (plus i keep) v n ≡ done_from (i + 1) rows keep v n = done_agree (i + 1) rows (plus i keep) keep v n (λ j le. plus_other i keep j (λ e. omega arith)) in
      let right : done_from i (Drop name ∷ rows) keep v n ≡ done_from (i + 1) rows keep v n = λ t. cond (not_yet t && same n name) None (done_from (i + 1) rows keep v n) in
      (λ t. cond (now t && same n name) None (rest t)) ∙ ap (λ r. cond (same n name) None r) (sym right)

  pub drop_more : (i : ℕ) (rows : List Row) (k : ℕ) (name : Name) → RowAt i rows k (Drop name) → AreDistinct i rows → keep k ≡ false → done_from i rows (plus k keep) v n ≡ cond (same n name) None (done_from i rows keep v n)
  drop_more i [] k name at distinct not_yet = absurd at
  drop_more i (r ∷ rows) k name (inl here) distinct not_yet =
      let at_i = head_drop i rows name (subst (λ j. keep j ≡ false) (sym here.0) not_yet) in
      let at_k : done_from i (Drop name ∷ rows) (plus k keep) v n ≡ cond (same n name) None (done_from i (Drop name ∷ rows) keep v n) =
      subst (λ j. done_from i (Drop name ∷ rows) (plus j keep) v n ≡ cond (same n name) None (done_from i (Drop name ∷ rows) keep v n)) here.0 at_i in
      subst (λ q. done_from i (q ∷ rows) (plus k keep) v n ≡ cond (same n name) None (done_from i (q ∷ rows) keep v n)) (sym here.1) at_k
  drop_more i (Put m ∷ rows) k name (inr later) distinct not_yet =
      let lt : i + 1 ≤ k = row_after (i + 1) rows k (Drop name) later in
      let valid : is_journal_name name ≡ false = valid_at (i + 1) rows k (Drop name) distinct.3 later in
      let same_keep : plus k keep i ≡ keep i = plus_other k keep i (λ e. omega arith) in
      let rest = drop_more (i + 1) rows k name later distinct.3 not_yet in
      (λ t. cond (same_keep t && same n (beside i)) None (cond (same_keep t && (same n m && is_some (v (beside i)))) (v (beside i)) (rest t)))
      ∙ commute (keep i && same n (beside i)) (keep i && (same n m && is_some (v (beside i)))) (same n name) false (v (beside i)) None (done_from (i + 1) rows keep v n)
      (λ a. (subst (λ q. same q name ≡ false) (sym (equal n (beside i) (and_parts (keep i) _ a).1)) (own_not (beside i) name refl valid), refl))
      (λ b. (subst (λ q. same q name ≡ false) (sym (equal n m (and_parts (same n m) _ (and_parts (keep i) _ b).1).0)) (misses_at (i + 1) rows k (Drop name) m distinct.1 later), refl))
  drop_more i (Drop m ∷ rows) k name (inr later) distinct not_yet =
      let lt : i + 1 ≤ k = row_after (i + 1) rows k (Drop name) later in
      let same_keep : plus k keep i ≡ keep i = plus_other k keep i (λ e. omega arith) in
      let rest = drop_more (i + 1) rows k name later distinct.3 not_yet in
      (λ t. cond (same_keep t && same n m) None (rest t))
      ∙ commute (keep i && same n m) false (same n name) false None None (done_from (i + 1) rows keep v n)
      (λ a. (subst (λ q. same q name ≡ false) (sym (equal n m (and_parts (keep i) _ a).1)) (misses_at (i + 1) rows k (Drop name) m distinct.1 later), refl))
      (λ b. absurd (both_ways false refl b))

  -- a row whose file isn't there changes nothing
  no_file : (keep other : Bool) (s t : Bool) (x r q : Option (List ℕ)) → x ≡ None → (s ≡ true → r ≡ None) → r ≡ q → cond (keep && s) None (cond (keep && (t && is_some x)) x r) ≡ cond (other && s) None (cond (other && (t && is_some x)) x q)
  no_file keep other s t x r q none here is = (λ i. cond (keep && s) None (cond (keep && (t && is_some (none i))) (none i) r)) ∙ flat keep s t r here ∙ is ∙ sym (flat other s t q (λ e. sym is ∙ here e)) ∙ sym (λ i. cond (other && s) None (cond (other && (t && is_some (none i))) (none i) q))
    where
      flat : (k s t : Bool) (r : Option (List ℕ)) → (s ≡ true → r ≡ None) → cond (k && s) None (cond (k && (t && false)) None r) ≡ r
      flat false s t r here = refl
      flat true true t r here = sym (here refl)
      flat true false true r here = refl
      flat true false false r here = refl

  pub skip_more : (i : ℕ) (rows : List Row) (k : ℕ) (name : Name) → RowAt i rows k (Put name) → AreDistinct i rows → v (beside k) ≡ None → done_from i rows (plus k keep) v n ≡ done_from i rows keep v n
  skip_more i [] k name at distinct none = absurd at
  skip_more i (r ∷ rows) k name (inl here) distinct none =
      let none_i : v (beside i) ≡ None = subst (λ j. v (beside j) ≡ None) (sym here.0) none in
      let rest : done_from (i + 1) rows (plus i keep) v n ≡ done_from (i + 1) rows keep v n = done_agree (i + 1) rows (plus i keep) keep v n (λ j le. plus_other i keep j (λ e. omega arith)) in
      let at_i : done_from i (Put name ∷ rows) (plus i keep) v n ≡ done_from i (Put name ∷ rows) keep v n =
      no_file (plus i keep i) (keep i) (same n (beside i)) (same n name) (v (beside i)) _ _ none_i
      (λ hit. subst (λ q. done_from (i + 1) rows (plus i keep) v q ≡ None) (sym (equal n (beside i) hit)) (later_rows (i + 1) rows (plus i keep) v i (omega arith) (subst (λ q. AreDistinct i (q ∷ rows)) here.1 distinct).3 ∙ none_i)) rest in
      let at_k : done_from i (Put name ∷ rows) (plus k keep) v n ≡ done_from i (Put name ∷ rows) keep v n = subst (λ j. done_from i (Put name ∷ rows) (plus j keep) v n ≡ done_from i (Put name ∷ rows) keep v n) here.0 at_i in
      subst (λ q. done_from i (q ∷ rows) (plus k keep) v n ≡ done_from i (q ∷ rows) keep v n) (sym here.1) at_k
  skip_more i (Put m ∷ rows) k name (inr later) distinct none =
      let lt : i + 1 ≤ k = row_after (i + 1) rows k (Put name) later in
      let same_keep : plus k keep i ≡ keep i = plus_other k keep i (λ e. omega arith) in
      let rest = skip_more (i + 1) rows k name later distinct.3 none in
      λ t. cond (same_keep t && same n (beside i)) None (cond (same_keep t && (same n m && is_some (v (beside i)))) (v (beside i)) (rest t))
  skip_more i (Drop m ∷ rows) k name (inr later) distinct none =
      let lt : i + 1 ≤ k = row_after (i + 1) rows k (Put name) later in
      let same_keep : plus k keep i ≡ keep i = plus_other k keep i (λ e. omega arith) in
      let rest = skip_more (i + 1) rows k name later distinct.3 none in
      λ t. cond (same_keep t && same n m) None (rest t)

-- a row that isn't done leaves its file where it is
pub still_there : (i : ℕ) (rows : List Row) (keep : ℕ → Bool) (v : View) (k : ℕ) (row : Row) → RowAt i rows k row → AreDistinct i rows → keep k ≡ false → done_from i rows keep v (beside k) ≡ v (beside k)
still_there i [] keep v k row at distinct not_yet = absurd at
still_there i (Put m ∷ rows) keep v k row (inl here) distinct not_yet =
    let no : keep i ≡ false = subst (λ j. keep j ≡ false) (sym here.0) not_yet in
    (λ t. cond (no t && same (beside k) (beside i)) None (cond (no t && (same (beside k) m && is_some (v (beside i)))) (v (beside i)) (done_from (i + 1) rows keep v (beside k))))
    ∙ later_rows (i + 1) rows keep v k (omega (arith, here.0)) distinct.3
still_there i (Drop m ∷ rows) keep v k row (inl here) distinct not_yet =
    let no : keep i ≡ false = subst (λ j. keep j ≡ false) (sym here.0) not_yet in
    (λ t. cond (no t && same (beside k) m) None (done_from (i + 1) rows keep v (beside k))) ∙ later_rows (i + 1) rows keep v k (omega (arith, here.0)) distinct.3
still_there i (Put m ∷ rows) keep v k row (inr later) distinct not_yet =
    let lt : i + 1 ≤ k = row_after (i + 1) rows k row later in
    cond-false (keep i && same (beside k) (beside i)) _ _ (and_right (keep i) _ (beside_apart k i (row_fits (i + 1) rows k row distinct.3 later) distinct.2 (λ e. omega arith)))
    ∙ cond-false (keep i && (same (beside k) m && is_some (v (beside i)))) _ _ (and_right (keep i) _ (and_left (same (beside k) m) _ (own_not (beside k) m refl distinct.0)))
    ∙ still_there (i + 1) rows keep v k row later distinct.3 not_yet
still_there i (Drop m ∷ rows) keep v k row (inr later) distinct not_yet =
    cond-false (keep i && same (beside k) m) _ _ (and_right (keep i) _ (own_not (beside k) m refl distinct.0)) ∙ still_there (i + 1) rows keep v k row later distinct.3 not_yet

pub below : (k : ℕ) → ltb k k ≡ false
below k = grind (arith, nat_tests)

pub one_more : (k j : ℕ) → plus k (λ j. ltb j k) j ≡ ltb j (k + 1)
one_more k j = grind (arith, nat_tests)

-- a settled folder has none of its rows done
pub begins : (s : State) (v : View) (rows : List Row) → IsWhole s → Same (read s) v → IsDoing v rows 0 (settled s)
begins s v rows whole is = record {
  whole = settled_whole s whole;
  firm = λ file. refl;
  within = settled_within s (Underway v rows 0) (record { keep = λ _. false; later = λ j le. refl; done = λ n. is n ∙ sym (none_done 0 rows v n) });
  reads = λ n. settled_reads s n ∙ is n ∙ sym (none_done 0 rows v n) ∙ done_agree 0 rows (λ _. false) (λ j. ltb j 0) v n (λ j le. grind (arith, nat_tests));
}

pub midway : (v : View) (rows : List Row) (k : ℕ) (s : State) → IsDoing v rows k s → Within s (Midway v rows)
midway v rows k s doing w image = let u = doing.within w image in record { keep = u.keep; done = u.done }

module _ (v : View) (rows : List Row) (distinct : AreDistinct 0 rows) (k : ℕ) (s : State) (doing : IsDoing v rows k s) where
  later_still : (w : View) → Underway v rows k w → Underway v rows (k + 1) w
  later_still w u = record { keep = u.keep; later = λ j le. u.later j (omega arith); done = u.done }

  pub firm_step : (name : Name) → IsDoing v rows k (firmed name s)
  firm_step name = record {
    whole = firmed_whole name s doing.whole;
    firm = firmed_firm name s doing.firm;
    within = λ w image. doing.within w (firmed_image name s w image);
    reads = λ n. firmed_reads name s n ∙ doing.reads n;
  }

  pub put_step : (name : Name) → RowAt 0 rows k (Put name) → is_some (v (beside k)) ≡ true → IsDoing v rows (k + 1) (renamed (beside k) name s)
  put_step name at there = record {
    whole = renamed_whole (beside k) name s doing.whole;
    firm = renamed_firm (beside k) name s doing.firm;
    within = λ w image. ⊎_elim (λ old. later_still w (doing.within w old)) (λ new. moved w new.0 new.2 (doing.within new.0 new.1)) (renamed_image (beside k) name s doing.firm w image);
    reads = λ n. renamed_reads (beside k) name s doing.firm (subst (λ x. is_some x ≡ true) (sym here) there) n
        ∙ (λ t. cond (same n name) (here t) (cond (same n (beside k)) None (doing.reads n t)))
        ∙ sym (put_more v (λ j. ltb j k) n 0 rows k name at distinct there (below k))
        ∙ done_agree 0 rows (plus k (λ j. ltb j k)) (λ j. ltb j (k + 1)) v n (λ j le. one_more k j);
  }
    where
      here : read s (beside k) ≡ v (beside k)
      here = doing.reads (beside k) ∙ still_there 0 rows (λ j. ltb j k) v k (Put name) at distinct (below k)

      moved : (w u : View) → ((n : Name) → w n ≡ cond (same n name) (read s (beside k)) (cond (same n (beside k)) None (u n))) → Underway v rows k u → Underway v rows (k + 1) w
      moved w u is old = record {
        keep = plus k old.keep;
        later = λ j le. plus_other k old.keep j (λ e. omega arith) ∙ old.later j (omega arith);
        done = λ n. is n ∙ (λ t. cond (same n name) (here t) (cond (same n (beside k)) None (old.done n t))) ∙ sym (put_more v old.keep n 0 rows k name at distinct there (old.later k (omega arith)));
      }

  pub drop_step : (name : Name) → RowAt 0 rows k (Drop name) → IsDoing v rows (k + 1) (removed name s)
  drop_step name at = record {
    whole = removed_whole name s doing.whole;
    firm = doing.firm;
    within = λ w image. ⊎_elim (λ old. later_still w (doing.within w old)) (λ new. cut w new.0 new.2 (doing.within new.0 new.1)) (removed_image name s w image);
    reads = λ n. removed_reads name s n
        ∙ ap (λ r. cond (same n name) None r) (doing.reads n)
        ∙ sym (drop_more v (λ j. ltb j k) n 0 rows k name at distinct (below k))
        ∙ done_agree 0 rows (plus k (λ j. ltb j k)) (λ j. ltb j (k + 1)) v n (λ j le. one_more k j);
  }
    where
      cut : (w u : View) → ((n : Name) → w n ≡ cond (same n name) None (u n)) → Underway v rows k u → Underway v rows (k + 1) w
      cut w u is old = record {
        keep = plus k old.keep;
        later = λ j le. plus_other k old.keep j (λ e. omega arith) ∙ old.later j (omega arith);
        done = λ n. is n ∙ ap (λ r. cond (same n name) None r) (old.done n) ∙ sym (drop_more v old.keep n 0 rows k name at distinct (old.later k (omega arith)));
      }

  pub skip_step : (name : Name) → RowAt 0 rows k (Put name) → v (beside k) ≡ None → IsDoing v rows (k + 1) s
  skip_step name at none = record {
    whole = doing.whole;
    firm = doing.firm;
    within = λ w image. later_still w (doing.within w image);
    reads = λ n. doing.reads n
        ∙ sym (skip_more v (λ j. ltb j k) n 0 rows k name at distinct none)
        ∙ done_agree 0 rows (plus k (λ j. ltb j k)) (λ j. ltb j (k + 1)) v n (λ j le. one_more k j);
  }
