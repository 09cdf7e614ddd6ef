-- Recovery, from a folder that is settled.
use Rattle.std.proofs.Common.{◌≡◌, inl, inr, ⊎_elim, ℕ, ◌+◌, ◌<◌, ◌&&◌, ◌||◌, Bool, true, false, cond, List, [], ◌∷◌, length, get_or, drop, Option, Some, None, is_some, ltb, zero, suc, refl, sym, ◌∙◌, ap, subst, arith, String, string_bytes}
use Rattle.std.specs.declared.alloc.Global.{Global}
use Rattle.std.proofs.lemmas.Bool.{both_ways, cases_Bool, and_left, and_right, and_parts, eqb-true, eq-eqb, false_from_ne_true, cond-true, cond-false}
use Rattle.std.proofs.lemmas.Bool.Decides.{nat_tests}
use Rattle.pl_folder.specs.Disk.{Name, View, State, Disk, IsCrashImage, IsWhole, same, read, after, waited}
use Rattle.pl_folder.specs.Since.{Within, Keeps}
use Rattle.pl_folder.specs.Effects.{StepsDiskOrNot, Waits}
use Rattle.pl_folder.specs.Seen.{Ending, Done, Broken, Undone}
use Rattle.pl_folder.specs.States.{removed, settled}
use Rattle.pl_journal.specs.Lists.{IsListOf, any_own, is_listed, texts}
use Rattle.pl_journal.specs.Names.{is_journal_name, beside, journal}
use Rattle.pl_journal.specs.Rows.{rows_in, done_from, recovered}
use Rattle.pl_journal.specs.Spelling.{are_rows}
use Rattle.pl_journal.specs.declared.row.Row.{Row}
use Rattle.pl_journal.specs.declared.row.Row.TheVariants.{Put, Drop}
use Rattle.pl_journal.specs.Meaning.{Same, StandsFor, HasNoOwn}
use Rattle.pl_journal.specs.Phases.{Clearing, IsDoing, IsClearing}
use Rattle.pl_journal.specs.Leaves.{Looks, OwnAreIn, IsCalm, IsRecovered, RecoversFirst, RecoversDisk}
use Rattle.pl_journal.specs.declared.fault.JournalFault.{JournalFault}
use Rattle.pl_journal.specs.declared.fault.JournalFault.TheVariants.{Failed as JFailed, BadJournal as JBad, NoMemory as JNoMemory}
use Rattle.pl_folder.proofs.ImageLaws.{itself, read_image, settled_reads, settled_within, settled_whole, removed_reads}
use Rattle.pl_journal.proofs.NameLemmas.{equal}
use Rattle.pl_journal.proofs.Done.{own_not, AreDistinct, distinct_test, none_done, done_agree, recovered_by}
use Rattle.pl_journal.proofs.Meanings.{stands_self, midway_stands, clearing_stands, clean_is}
use Rattle.pl_journal.proofs.Steps.{midway}
use Rattle.pl_journal.proofs.Phases.{all_read, settled_clearing, all_clearing, keeps_settle_clear}
use Rattle.pl_journal.proofs.CarryLemmas.{rows_in_distinct, drop_at}
use Rattle.pl_journal.proofs.Moments.{joined, weaker, does_or_not, one_call}

-- calls that only read
pub waited_now : (k : ℕ) (d : Disk) → (waited k d).now ≡ d.now
waited_now zero d = refl
waited_now (suc k) d = refl

waited_more : (j k : ℕ) (d : Disk) → waited j (waited k d) ≡ waited (j + k) d
waited_more zero k d = let e : 0 + k ≡ k = omega arith in rw e refl
waited_more (suc j) k d =
    let e : suc j + k ≡ suc (j + k) = omega arith in
    rw e (ap (λ (s : State). after s (waited j (waited k d))) (waited_now k d) ∙ ap (after d.now) (waited_more j k d))

pub looks_on : (a b c : Disk) → Looks a b → Looks b c → Looks a c
looks_on a b c first second = record {
  waits = (second.waits.0 + first.waits.0, second.waits.1 ∙ ap (waited second.waits.0) first.waits.1 ∙ waited_more second.waits.0 first.waits.0 a);
  now = second.now ∙ first.now;
  later = omega (arith, first.later, second.later);
  each = λ t v had. ⊎_elim (first.each t v) (λ image. inr (subst (λ s. IsCrashImage s v) first.now image)) (second.each t v had);
}

pub no_look : (d new : Disk) → new ≡ d → Looks d new
no_look d new is = subst (Looks d) (sym is) (record { waits = (0, refl); now = refl; later = omega arith; each = λ t v had. inl had })

pub one_look : (d new : Disk) → new ≡ after d.now d → Looks d new
one_look d new is = subst (Looks d) (sym is) (record { waits = (1, refl); now = refl; later = omega arith; each = λ t v had. ⊎_elim (λ here. inr here.1) inl had })

-- so many calls
pub waited_look : (k : ℕ) (d : Disk) → Looks d (waited k d)
waited_look zero d = no_look d d refl
waited_look (suc k) d = looks_on d (waited k d) (waited (suc k) d) (waited_look k d) (one_look (waited k d) (waited (suc k) d) (ap (λ (s : State). after s (waited k d)) (sym (waited_now k d))))

pub waits_look : (e : Ending) (d new : Disk) → Waits e d new → Looks d new
waits_look Done d new is = one_look d new is
waits_look Broken d new (inl is) = no_look d new is
waits_look Broken d new (inr is) = one_look d new is
waits_look Undone d new is = no_look d new is

pub looks_keep : (d new : Disk) (P : View → Type 0) → Within d.now P → Looks d new → Keeps d new P
looks_keep d new P here looks = record {
  later = looks.later;
  each = λ t v had. ⊎_elim inl (λ image. inr (here v image)) (looks.each t v had);
  now = subst (λ s. Within s P) (sym looks.now) here;
}

-- a settled folder
pub calm_self : (v : View) (s : State) → IsCalm v s → Within s (StandsFor v)
calm_self v s calm w image = stands_self v w (λ n. sym (calm.only w image n))

pub calm_reads : (v : View) (s : State) → IsCalm v s → Same (read s) v
calm_reads v s calm n = sym (calm.only (read s) (read_image s) n)

pub calm_settled : (s : State) → IsWhole s → IsCalm (read s) (settled s)
calm_settled s whole = record { whole = settled_whole s whole; firm = λ f. refl; only = settled_within s (Same (read s)) (λ n. refl) }

pub calm_doing : (v : View) (rows : List Row) (s : State) → IsCalm v s → IsDoing v rows 0 s
calm_doing v rows s calm = record {
  whole = calm.whole;
  firm = calm.firm;
  within = λ w image. record { keep = λ _. false; later = λ j le. refl; done = λ n. sym (calm.only w image n) ∙ sym (none_done 0 rows v n) };
  reads = λ n. calm_reads v s calm n ∙ sym (none_done 0 rows v n) ∙ done_agree 0 rows (λ _. false) (λ j. ltb j 0) v n (λ j le. grind (arith, nat_tests));
}

pub calm_clearing : (v : View) (s : State) → IsCalm v s → IsClearing v [] s
calm_clearing v s calm = record { whole = calm.whole; within = λ w image. all_clearing v [] tt w (λ n. sym (calm.only w image n)) }

-- own names are no more than they were
pub own_done : (i : ℕ) (rows : List Row) (keep : ℕ → Bool) (v : View) → AreDistinct i rows → (n : Name) → is_journal_name n ≡ true → is_some (done_from i rows keep v n) ≡ true → is_some (v n) ≡ true
own_done i [] keep v distinct n own some = some
own_done i (Put name ∷ rows) keep v distinct n own some = ⊎_elim
    (λ hit. absurd (both_ways false refl (sym (ap is_some (cond-true (keep i && same n (beside i)) _ _ hit)) ∙ some)))
    (λ missed. own_done (i + 1) rows keep v distinct.3 n own
    (sym (ap is_some (cond-false (keep i && same n (beside i)) _ _ missed ∙ cond-false (keep i && (same n name && is_some (v (beside i)))) _ _ (and_right (keep i) _ (and_left (same n name) _ (own_not n name own distinct.0))))) ∙ some))
    (cases_Bool (keep i && same n (beside i)))
own_done i (Drop name ∷ rows) keep v distinct n own some =
    own_done (i + 1) rows keep v distinct.3 n own (sym (ap is_some (cond-false (keep i && same n name) _ _ (and_right (keep i) _ (own_not n name own distinct.0)))) ∙ some)

pub doing_listed : (v : View) (rows : List Row) (s : State) (names : List Name) → are_rows rows ≡ true → IsListOf names v → IsDoing v rows (length rows) s → OwnAreIn names (settled s)
doing_listed v rows s names distinct listed doing n own some =
    listed n ∙ own_done 0 rows (λ _. true) v (distinct_test rows distinct) n own (sym (ap is_some (settled_reads s n ∙ all_read v rows s doing n)) ∙ some)

pub calm_listed : (v : View) (s : State) (names : List Name) → IsListOf names v → IsCalm v s → OwnAreIn names s
calm_listed v s names listed calm n own some = listed n ∙ sym (ap is_some (calm_reads v s calm n)) ∙ some

-- no journal
pub not_listed : (v : View) (names : List Name) → IsListOf names v → is_listed journal names ≡ false → v journal ≡ None
not_listed v names listed off = at (v journal) refl
  where
    at : (content : Option (List ℕ)) → v journal ≡ content → v journal ≡ None
    at None is = is
    at (Some bytes) is = absurd (both_ways false refl (sym off ∙ listed journal ∙ ap is_some is))

-- one own name is gone
or_left : (a b : Bool) → a ≡ false → (a || b) ≡ true → b ≡ true
or_left a b off is = sym (ap (λ x. x || b) off) ∙ is

cut_some : (c : Bool) (r : Option (List ℕ)) → is_some (cond c None r) ≡ true → (c ≡ false) × (is_some r ≡ true)
cut_some true r is = absurd (both_ways false refl is)
cut_some false r is = (refl, is)

pub removed_listed : (name : Name) (names : List Name) (s : State) → OwnAreIn (name ∷ names) s → OwnAreIn names (removed name s)
removed_listed name names s all n own some =
    let parts = cut_some (same n name) (read s n) (sym (ap is_some (removed_reads name s n)) ∙ some) in
    or_left (same n name) (is_listed n names) parts.0 (all n own parts.1)

pub passed_listed : (name : Name) (names : List Name) (s : State) → is_journal_name name ≡ false → OwnAreIn (name ∷ names) s → OwnAreIn names s
passed_listed name names s valid all n own some = or_left (same n name) (is_listed n names) (own_not n name own valid) (all n own some)

-- no own name is left
none_some : (r : Option (List ℕ)) → (is_some r ≡ true → ⊥) → r ≡ None
none_some None never = refl
none_some (Some x) never = absurd (never refl)

pub ends_recovered : (v : View) (rows : List Row) (s : State) → rows_in (v journal) ≡ Some rows → IsClearing v rows s → OwnAreIn [] s → IsRecovered v (settled s)
ends_recovered v rows s spelled clearing none = record {
  settled = record {
    whole = settled_whole s clearing.whole;
    only = settled_within s (Same (recovered v)) (λ n. recovered_by v rows spelled n ∙ ⊎_elim
        (λ own. cond-true (is_journal_name n) _ _ own ∙ sym (none_some (read s n) (λ some. both_ways false refl (none n own some))))
        (λ valid. cond-false (is_journal_name n) _ _ valid ∙ sym ((clearing.within (read s) (read_image s)).agree n valid))
        (cases_Bool (is_journal_name n)));
    no_own = λ n own. recovered_by v rows spelled n ∙ cond-true (is_journal_name n) _ _ own;
  };
  rows = rows;
  spelled = spelled;
}

-- nothing to recover
any_own_listed : (names : List Name) (n : Name) → is_journal_name n ≡ true → is_listed n names ≡ true → any_own names ≡ true
any_own_listed [] n own listed = absurd (both_ways false refl listed)
any_own_listed (x ∷ names) n own listed = ⊎_elim
    (λ hit. ap (λ b. b || any_own names) (ap is_journal_name (sym (equal n x hit)) ∙ own))
    (λ missed. or_right (is_journal_name x) (any_own names) (any_own_listed names n own (or_left (same n x) (is_listed n names) missed listed)))
    (cases_Bool (same n x))
  where
    or_right : (a b : Bool) → b ≡ true → (a || b) ≡ true
    or_right true b is = refl
    or_right false b is = is

pub no_own_of : (v : View) (names : List Name) → IsListOf names v → any_own names ≡ false → HasNoOwn v
no_own_of v names listed none n own = none_some (v n) (λ some. both_ways (any_own names) none (any_own_listed names n own (listed n ∙ some)))

pub has_own_some : (v : View) (names : List Name) → IsListOf names v → HasNoOwn v → any_own names ≡ false
has_own_some v names listed no_own = at names (λ n own some. both_ways false refl (sym (ap is_some (no_own n own)) ∙ (sym (listed n) ∙ some)))
  where
    or_false : (a b : Bool) → a ≡ false → b ≡ false → (a || b) ≡ false
    or_false a b p q = ap (λ x. x || b) p ∙ q

    at : (names : List Name) → ((n : Name) → is_journal_name n ≡ true → is_listed n names ≡ true → ⊥) → any_own names ≡ false
    at [] none = refl
    at (x ∷ names) none = or_false (is_journal_name x) (any_own names)
        (Rattle.std.proofs.lemmas.Bool.false_from_ne_true (is_journal_name x) (λ own. none x own (ap (λ b. b || is_listed x names) (itself x))))
        (at names (λ n own is. none n own (or_after (same n x) (is_listed n names) is)))
      where
        or_after : (a b : Bool) → b ≡ true → (a || b) ≡ true
        or_after true b is = refl
        or_after false b is = is

pub calm_recovered : (v : View) (s : State) → IsCalm v s → HasNoOwn v → IsRecovered v s
calm_recovered v s calm no_own = record {
  settled = record {
    whole = calm.whole;
    only = λ w image n. recovered_by v [] (ap rows_in (no_own journal refl)) n ∙ clean_is v no_own n ∙ calm.only w image n;
    no_own = λ n own. recovered_by v [] (ap rows_in (no_own journal refl)) n ∙ cond-true (is_journal_name n) _ _ own;
  };
  rows = [];
  spelled = ap rows_in (no_own journal refl);
}

-- walks over names
pub names_from : (names : List (String Global)) (i : ℕ) (name : String Global) → i < length names → name ≡ get_or names i name → texts (drop i names) ≡ string_bytes name ∷ texts (drop (i + 1) names)
names_from names i name lt is = ap (λ (l : List (String Global)). texts l) (drop_at names i name lt is)

-- calls that only read leave a settled folder settled
pub calm_at : (v : View) (a b : Disk) → Looks a b → IsCalm v a.now → IsCalm v b.now
calm_at v a b looks calm = subst (IsCalm v) (sym looks.now) calm

module _ (v : View) (rows : List Row) (spelled : rows_in (v journal) ≡ Some rows) (d : Disk) (doing : IsDoing v rows (length rows) d.now) where
  apart : AreDistinct 0 rows
  apart = distinct_test rows (rows_in_distinct (v journal) rows spelled)

  -- the settle after the rows
  pub settle_keeps : (e : Ending) (d1 : Disk) → StepsDiskOrNot settled e d d1 → Keeps d d1 (StandsFor v)
  settle_keeps e d1 = does_or_not d d1 (StandsFor v) (λ w image. midway_stands v rows spelled apart w (midway v rows (length rows) d.now doing w image)) e settled
      (λ w image. clearing_stands v rows spelled apart w ((settled_clearing v rows apart d.now doing).within w image))

  pub settle_at : (names : List Name) → IsListOf names v → (d1 : Disk) → d1 ≡ after (settled d.now) d → IsClearing v rows d1.now × OwnAreIn names d1.now
  settle_at names listed d1 is = subst (λ e. IsClearing v rows e.now × OwnAreIn names e.now) (sym is) (settled_clearing v rows apart d.now doing, doing_listed v rows d.now names (rows_in_distinct (v journal) rows spelled) listed doing)

-- the last settle
module _ (v : View) (rows : List Row) (spelled : rows_in (v journal) ≡ Some rows) where
  pub clearing_all : (d d1 : Disk) → Keeps d d1 (Clearing v rows) → Keeps d d1 (StandsFor v)
  clearing_all d d1 keeps = weaker d d1 (Clearing v rows) (StandsFor v) (clearing_stands v rows spelled (distinct_test rows (rows_in_distinct (v journal) rows spelled))) keeps

  pub last_keeps : (d : Disk) → IsClearing v rows d.now → (e : Ending) (d1 : Disk) → StepsDiskOrNot settled e d d1 → Keeps d d1 (StandsFor v)
  last_keeps d clearing e d1 is = clearing_all d d1 (keeps_settle_clear v rows (rows_in_distinct (v journal) rows spelled) d clearing e d1 is)

  pub last_at : (d : Disk) → IsClearing v rows d.now → OwnAreIn [] d.now → (d1 : Disk) → d1 ≡ after (settled d.now) d → IsRecovered v d1.now
  last_at d clearing none d1 is = subst (λ e. IsRecovered v e.now) (sym is) (ends_recovered v rows d.now spelled clearing none)

pub calm_recovered_at : (v : View) (a b : Disk) → Looks a b → IsCalm v a.now → HasNoOwn v → IsRecovered v b.now
calm_recovered_at v a b looks calm no_own = subst (IsRecovered v) (sym looks.now) (calm_recovered v a.now calm no_own)

-- from the folder as it was before the first settle
module _ (old mid new : Disk) (is : mid ≡ after (settled old.now) old) where
  from_settle : (P : View → Type 0) → P (read old.now) → Keeps mid new P → Keeps old new P
  from_settle P here keeps = joined old mid new P (one_call old mid (settled old.now) P is (settled_within old.now P here)) keeps

  itself_stands : StandsFor (read old.now) (read old.now)
  itself_stands = stands_self (read old.now) (read old.now) (λ n. refl)

  pub recovers_first : (fault : Option JournalFault) → RecoversDisk fault (read old.now) mid new → RecoversFirst fault old new
  recovers_first None all = (from_settle (StandsFor (read old.now)) itself_stands all.0, all.1)
  recovers_first (Some JFailed) all = inl (from_settle (StandsFor (read old.now)) itself_stands all)
  recovers_first (Some JBad) all = inl (from_settle (Same (read old.now)) (λ n. refl) all.0, all.1)
  recovers_first (Some JNoMemory) all = inl (from_settle (StandsFor (read old.now)) itself_stands all)
