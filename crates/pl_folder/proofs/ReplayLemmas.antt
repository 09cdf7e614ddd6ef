-- A disk while it is replayed.
use Rattle.std.proofs.Common.{◌≡◌, inl, inr, ⊎_elim, ℕ, zero, suc, ◌+◌, ◌==◌, ◌<◌, ◌≤◌, ◌||◌, Bool, true, false, cond, not, List, [], ◌∷◌, ◌++◌, length, map, reverse, take, drop, get_or, set, Option, Some, None, is_some, Vec, refl, sym, ◌∙◌, ap, subst, arith}
use mathlib.Core.List.{reverse_aux}
use Rattle.std.proofs.lemmas.Bool.{and_parts, cases_Bool, cond-true, cond-false, ne_eqb, false≢true}
use Rattle.std.proofs.lemmas.Bool.Decides.{nat_tests}
use Rattle.std.specs.Ordering.{nat_cmp}
use Rattle.std.specs.Cmp.Lexicographic.{slice_cmp, nat_list_cmp_total}
use Rattle.std.specs.FinMap.Entries.{find}
use Rattle.pl_base.proofs.FilesLaws.{same_name}
use Rattle.std.specs.FinMap.{get, insert, get-insert}
use Rattle.std.specs.Vec.{with_item}
use Rattle.std.specs.declared.alloc.Global.{Global}
use Rattle.std.proofs.Math.ListN.{length-set}
use Rattle.std.proofs.lemmas.List.{map-append, take_more}
use Rattle.pl_base.specs.Files.{Files}
use Rattle.pl_folder.specs.Chosen.{image_by, kept_changes, loose_before, shown}
use Rattle.pl_folder.specs.Disk.{Name, Names, Content, NameChange, Bind, Move, Unbind, State, IsBelow, IsWhole, all_kept, bytes_of, changed, kept, names_of, read, same}
use Rattle.pl_folder.specs.Entries.{are_distinct}
use Rattle.pl_folder.specs.Replay.{contents_from, names_from, started}
use Rattle.pl_folder.specs.Replaying.{Adds, Stands, any_binds, bound_after, bound_by, bound_name, changes_of, change_of, chosen_changes, content_at, content_of, contents_of, is_name, settled_view, shown_files}
use Rattle.pl_folder.specs.States as state
use Rattle.pl_folder.specs.States.{with_file}
use Rattle.pl_folder.specs.declared.directory_change.DirectoryChange.{DirectoryChange}
use Rattle.pl_folder.specs.declared.replay.FileContent.{FileContent}
use Rattle.pl_folder.specs.declared.replay.Replay.{Replay}
use Rattle.pl_folder.proofs.ImageLaws.{names_below}
use Rattle.pl_folder.proofs.StartedLemmas.{Entry, found}

-- the changes that bind the names of some files, the first of them being number i
abbrev pub binds_from : ℕ → List Entry → List NameChange
binds_from i [] = []
binds_from i (e ∷ es) = Bind e.0 i ∷ binds_from (i + 1) es

abbrev pub whole_files : List Entry → List Content
whole_files [] = []
whole_files (e ∷ es) = record { bytes = e.1; is_firm = true } ∷ whole_files es

abbrev or_else : Option ℕ → Option ℕ → Option ℕ
or_else None other = other
or_else (Some file) other = Some file

-- a file that has a name is not found where no entry has the name
no_entry : (i : ℕ) (es : List Entry) (n : Name) → find (slice_cmp nat_cmp) n es ≡ None → names_from i es n ≡ None
no_entry i es n none = at (names_from i es n) (sym (found i es n) ∙ none)
  where
    at : (o : Option ℕ) → bytes_of (contents_from i es) o ≡ None → o ≡ None
    at None e = refl
    at (Some file) e = absurd (false≢true (ap (λ (o : Option (List ℕ)). is_some o) (sym e)))

is_none : (o : Option (List ℕ)) → not (is_some o) ≡ true → o ≡ None
is_none None e = refl
is_none (Some x) e = absurd (false≢true e)

-- of distinct names the last change that binds one is the first
pub bound_first : (i : ℕ) (es : List Entry) (n : Name) (file : Option ℕ) → are_distinct es ≡ true → bound_by (binds_from i es) n file ≡ or_else (names_from i es n) file
bound_first i [] n file distinct = refl
bound_first i (e ∷ es) n file distinct =
    let parts = and_parts (not (is_some (find (slice_cmp nat_cmp) e.0 es))) (are_distinct es) distinct in
    bound_first (i + 1) es n (cond (same n e.0) (Some i) file) parts.1
    ∙ ⊎_elim
    (λ hit.
    let none : names_from (i + 1) es n ≡ None = no_entry (i + 1) es n (ap (λ k. find (slice_cmp nat_cmp) k es) (same_name n e.0 hit) ∙ is_none _ parts.0) in
    ap (λ o. or_else o (cond (same n e.0) (Some i) file)) none
    ∙ cond-true (same n e.0) _ _ hit
    ∙ ap (λ o. or_else o file) (sym (cond-true (same n e.0) _ _ hit)))
    (λ missed.
    ap (λ o. or_else (names_from (i + 1) es n) o) (cond-false (same n e.0) _ _ missed)
    ∙ ap (λ o. or_else o file) (sym (cond-false (same n e.0) _ _ missed)))
    (cases_Bool (same n e.0))

or_none : (o : Option ℕ) → or_else o None ≡ o
or_none None = refl
or_none (Some file) = refl

-- the contents of the files that a disk begins with
pub contents_at : (i : ℕ) (es : List Entry) (k : ℕ) → contents_from i es (i + k) ≡ content_at (whole_files es) k
contents_at i [] k = refl
contents_at i (e ∷ es) zero = cond-true (i + 0 == i) _ _ (grind arith)
contents_at i (e ∷ es) (suc k) =
    cond-false (i + suc k == i) _ _ (ne_eqb (i + suc k) i (λ same. omega (arith, same)))
    ∙ ap (contents_from (i + 1) es) (omega arith)
    ∙ contents_at (i + 1) es k

length-whole_files : (es : List Entry) → length (whole_files es) ≡ length es
length-whole_files [] = refl
length-whole_files (e ∷ es) = ap suc (length-whole_files es)

pub length-contents : (files : List FileContent) → length (contents_of files) ≡ length files
length-contents [] = refl
length-contents (f ∷ files) = ap suc (length-contents files)

pub started_stands : (replay : Replay) (es : List Entry) → are_distinct es ≡ true → changes_of replay.settled.items ≡ binds_from 0 es → replay.changes.items ≡ [] → contents_of replay.files.items ≡ whole_files es
    → Stands replay (started es).now
started_stands replay es distinct settled none files = record {
  base = λ n. sym (ap (λ cs. bound_by cs n None) settled ∙ bound_first 0 es n None distinct ∙ or_none (names_from 0 es n));
  changes = sym (ap (λ cs. reverse (changes_of cs)) none);
  files = λ file. ap (contents_from 0 es) (omega arith) ∙ contents_at 0 es file ∙ ap (λ fs. content_at fs file) (sym files);
  count = sym (length-whole_files es) ∙ ap length (sym files) ∙ length-contents replay.files.items;
}

-- ---- the names as they read

one_after : (c : NameChange) (base : Names) (n : Name) → changed c base n ≡ bound_after c n (base n)
one_after (Bind k file) base n = refl
one_after (Move from to file) base n = refl
one_after (Unbind k) base n = refl

-- the newest change is the first of the list, and the last that is done
kept_onto : (changes onto : List NameChange) (base : Names) (n : Name) → all_kept (reverse_aux changes onto) base n ≡ bound_by changes n (all_kept onto base n)
kept_onto [] onto base n = refl
kept_onto (c ∷ changes) onto base n = kept_onto changes (c ∷ onto) base n ∙ ap (bound_by changes n) (one_after c (all_kept onto base) n)

pub named_by : (replay : Replay) (s : State) → Stands replay s → (n : Name) → names_of s n ≡ bound_by (changes_of replay.changes.items) n (bound_by (changes_of replay.settled.items) n None)
named_by replay s is n =
    ap (λ cs. all_kept cs s.base n) is.changes
    ∙ kept_onto (changes_of replay.changes.items) [] s.base n
    ∙ ap (bound_by (changes_of replay.changes.items) n) (is.base n)

bound_both : (xs ys : List NameChange) (n : Name) (file : Option ℕ) → bound_by (xs ++ ys) n file ≡ bound_by ys n (bound_by xs n file)
bound_both [] ys n file = refl
bound_both (c ∷ xs) ys n file = bound_both xs ys n (bound_after c n file)

-- a change that is kept or not
one_kept : (b : Bool) (c : NameChange) (more : List NameChange) (keep : List Bool) (onto : List NameChange) (base : Names) (n : Name) → bound_by more n (kept (b ∷ keep) (c ∷ onto) base n) ≡ bound_by (cond b (c ∷ more) more) n (kept keep onto base n)
one_kept true c more keep onto base n = ap (bound_by more n) (one_after c (kept keep onto base) n)
one_kept false c more keep onto base n = refl

chosen_onto : (keeps : ℕ → Bool) (changes onto : List NameChange) (base : Names) (n : Name)
    → kept (kept_changes keeps (reverse_aux changes onto)) (reverse_aux changes onto) base n ≡ bound_by (chosen_changes keeps (length onto) changes) n (kept (kept_changes keeps onto) onto base n)
chosen_onto keeps [] onto base n = refl
chosen_onto keeps (c ∷ changes) onto base n =
    chosen_onto keeps changes (c ∷ onto) base n
    ∙ ap (λ k. bound_by (chosen_changes keeps k changes) n (kept (keeps (length onto) ∷ kept_changes keeps onto) (c ∷ onto) base n)) (omega arith)
    ∙ one_kept (keeps (length onto)) c (chosen_changes keeps (length onto + 1) changes) (kept_changes keeps onto) onto base n

-- ---- files that are written

pub content_set : (files : List FileContent) (i : ℕ) (x : FileContent) (file : ℕ) → i < length files → content_at (contents_of (set files i x)) file ≡ cond (file == i) (content_of x) (content_at (contents_of files) file)
content_set [] i x file within = absurd (omega (arith, within))
content_set (f ∷ files) zero x zero within = refl
content_set (f ∷ files) zero x (suc file) within = sym (cond-false (suc file == 0) _ _ (ne_eqb (suc file) 0 (λ e. omega (arith, e))))
content_set (f ∷ files) (suc i) x zero within = sym (cond-false (0 == suc i) _ _ (ne_eqb 0 (suc i) (λ e. omega (arith, e))))
content_set (f ∷ files) (suc i) x (suc file) within = content_set files i x file (omega (arith, within)) ∙ ap (λ b. cond b (content_of x) (content_at (contents_of files) file)) (same_test file i)
  where
    same_test : (a b : ℕ) → (a == b) ≡ (suc a == suc b)
    same_test a b = grind (arith, nat_tests)

-- the file of a number that there is
content_here : (files : List FileContent) (i : ℕ) (d : FileContent) → i < length files → content_at (contents_of files) i ≡ content_of (get_or files i d)
content_here [] i d within = absurd (omega (arith, within))
content_here (f ∷ files) zero d within = refl
content_here (f ∷ files) (suc i) d within = content_here files i d (omega (arith, within))

snoc_onto : (xs ys : List NameChange) (c : NameChange) → reverse_aux (xs ++ c ∷ []) ys ≡ c ∷ reverse_aux xs ys
snoc_onto [] ys c = refl
snoc_onto (x ∷ xs) ys c = snoc_onto xs (x ∷ ys) c

reverse-snoc : (xs : List NameChange) (c : NameChange) → reverse (xs ++ c ∷ []) ≡ c ∷ reverse xs
reverse-snoc xs c = snoc_onto xs [] c

-- a file of a name is one of the files
within_files : (replay : Replay) (s : State) (n : Name) (file : ℕ) → IsWhole s → Stands replay s → names_of s n ≡ Some file → file < length replay.files.items
within_files replay s n file whole is at = let below : IsBelow s.count (Some file) = subst (IsBelow s.count) at (names_below s whole n) in omega (arith, below, is.count)

module _ (replay : Replay) (n : Name) (o : Option ℕ) (at : o ≡ bound_by (changes_of replay.changes.items) n (bound_by (changes_of replay.settled.items) n None)) where
  names_at : (s : State) → Stands replay s → names_of s n ≡ o
  names_at s is = named_by replay s is n ∙ sym at

  pub nothing_appended : o ≡ None → (more : List ℕ) (s : State) → Stands replay s → Stands replay (state.appended n more s)
  nothing_appended none more s is = subst (λ file. Stands replay (state.appended_to file more s)) (sym (names_at s is ∙ none)) is

  pub nothing_firm : o ≡ None → (s : State) → Stands replay s → Stands replay (state.firmed n s)
  nothing_firm none s is = subst (λ file. Stands replay (state.firmed_at file s)) (sym (names_at s is ∙ none)) is

  pub nothing_renamed : o ≡ None → (to : Name) (s : State) → Stands replay s → Stands replay (state.renamed n to s)
  nothing_renamed none to s is = subst (λ file. Stands replay (state.moved file n to s)) (sym (names_at s is ∙ none)) is

  -- there is no file past the last one
  pub past_files : {A : Type 0} (file : ℕ) → o ≡ Some file → length replay.files.items ≤ file → (s : State) → IsWhole s → Stands replay s → A
  past_files file some past s whole is = absurd (omega (arith, past, within_files replay s n file whole is (names_at s is ∙ some)))

  -- a file gets this content
  module _ (file : ℕ) (some : o ≡ Some file) (x : FileContent) where
    abbrev pub put : Replay
    put = record { settled = replay.settled; changes = replay.changes; files = with_item replay.files file x }

    put_stands : (s : State) (content : Content) → content_of x ≡ content → file < length replay.files.items → Stands replay s → Stands put (record s { files = with_file file content s.files })
    put_stands s content same within is = record {
      base = is.base;
      changes = is.changes;
      files = λ f. (λ i. cond (f == file) (sym same i) (is.files f i)) ∙ sym (content_set replay.files.items file x f within);
      count = is.count ∙ sym (length-set replay.files.items file x);
    }

    pub appended_stands : (more : List ℕ) (d : FileContent) → x.bytes.items ≡ (get_or replay.files.items file d).bytes.items ++ more → x.is_firm ≡ false → file < length replay.files.items → (s : State) → Stands replay s → Stands put (state.appended n more s)
    appended_stands more d bytes loose within s is = subst (λ f. Stands put (state.appended_to f more s)) (sym (names_at s is ∙ some))
        (put_stands s (record { bytes = (s.files file).bytes ++ more; is_firm = false })
        (λ i. record { bytes = (bytes ∙ ap (λ (c : Content). c.bytes ++ more) (sym (is.files file ∙ content_here replay.files.items file d within))) i; is_firm = loose i })
        within is)

    pub firmed_stands : (d : FileContent) → x.bytes.items ≡ (get_or replay.files.items file d).bytes.items → x.is_firm ≡ true → file < length replay.files.items → (s : State) → Stands replay s → Stands put (state.firmed n s)
    firmed_stands d bytes firm within s is = subst (λ f. Stands put (state.firmed_at f s)) (sym (names_at s is ∙ some))
        (put_stands s (record { bytes = (s.files file).bytes; is_firm = true })
        (λ i. record { bytes = (bytes ∙ ap (λ (c : Content). c.bytes) (sym (is.files file ∙ content_here replay.files.items file d within))) i; is_firm = firm i })
        within is)

-- a rename
pub renamed_stands : (old new : Replay) (from to : Name) (file : ℕ) (o : Option ℕ) → o ≡ bound_by (changes_of old.changes.items) from (bound_by (changes_of old.settled.items) from None) → o ≡ Some file
    → new.settled ≡ old.settled → changes_of new.changes.items ≡ changes_of old.changes.items ++ Move from to file ∷ [] → new.files ≡ old.files → (s : State) → Stands old s → Stands new (state.renamed from to s)
renamed_stands old new from to file o at some settled changes files s is = subst (λ f. Stands new (state.moved f from to s)) (sym (named_by old s is from ∙ sym at ∙ some)) (record {
  base = λ n. is.base n ∙ ap (λ (v : Vec DirectoryChange Global). bound_by (changes_of v.items) n None) (sym settled);
  changes = ap (λ cs. Move from to file ∷ cs) is.changes ∙ sym (reverse-snoc (changes_of old.changes.items) (Move from to file)) ∙ ap reverse (sym changes);
  files = λ f. is.files f ∙ ap (λ (v : Vec FileContent Global). content_at (contents_of v.items) f) (sym files);
  count = is.count ∙ ap (λ (v : Vec FileContent Global). length v.items) (sym files);
})

-- ---- after a crash

-- how many of some files before one are not firm, counted on from a number
abbrev loose_in : ℕ → List Content → ℕ → ℕ
loose_in i files zero = i
loose_in i [] (suc file) = i
loose_in i (c ∷ files) (suc file) = loose_in (cond c.is_firm i (i + 1)) files file

none_loose : (i file : ℕ) → loose_in i [] file ≡ i
none_loose i zero = refl
none_loose i (suc file) = refl

loose_step : (i : ℕ) (files : List Content) (file : ℕ) → loose_in i files (suc file) ≡ cond (content_at files file).is_firm (loose_in i files file) (loose_in i files file + 1)
loose_step i [] file = sym (none_loose i file)
loose_step i (c ∷ files) zero = refl
loose_step i (c ∷ files) (suc file) = loose_step (cond c.is_firm i (i + 1)) files file

loose_is : (files : List Content) (file : ℕ) → loose_in 0 files file ≡ loose_before (content_at files) file
loose_is files zero = refl
loose_is files (suc file) = loose_step 0 files file ∙ ap (λ k. cond (content_at files file).is_firm k (k + 1)) (loose_is files file)

shown_in : (keeps : ℕ → Bool) (i : ℕ) (files : List Content) (file : ℕ) → content_at (shown_files keeps i files) file ≡ shown (keeps (loose_in i files file)) (content_at files file)
shown_in keeps i [] file = refl
shown_in keeps i (c ∷ files) zero = refl
shown_in keeps i (c ∷ files) (suc file) = shown_in keeps (cond c.is_firm i (i + 1)) files file

shown_at : (keeps : ℕ → Bool) (files : List Content) (file : ℕ) → content_at (shown_files keeps 0 files) file ≡ shown (keeps (loose_before (content_at files) file)) (content_at files file)
shown_at keeps files file = shown_in keeps 0 files file ∙ ap (λ k. shown (keeps k) (content_at files file)) (loose_is files file)

length-shown_files : (keeps : ℕ → Bool) (i : ℕ) (files : List Content) → length (shown_files keeps i files) ≡ length files
length-shown_files keeps i [] = refl
length-shown_files keeps i (c ∷ files) = ap suc (length-shown_files keeps (cond c.is_firm i (i + 1)) files)

pub image_stands : (old new : Replay) (keeps : ℕ → Bool) → changes_of new.settled.items ≡ changes_of old.settled.items ++ chosen_changes keeps 0 (changes_of old.changes.items) → new.changes.items ≡ []
    → contents_of new.files.items ≡ shown_files keeps 0 (contents_of old.files.items) → (s : State) → Stands old s → Stands new (image_by keeps s)
image_stands old new keeps settled none files s is = record {
  base = λ n.
      ap (λ cs. kept (kept_changes keeps cs) cs s.base n) is.changes
      ∙ chosen_onto keeps (changes_of old.changes.items) [] s.base n
      ∙ ap (bound_by (chosen_changes keeps 0 (changes_of old.changes.items)) n) (is.base n)
      ∙ sym (bound_both (changes_of old.settled.items) (chosen_changes keeps 0 (changes_of old.changes.items)) n None)
      ∙ ap (λ cs. bound_by cs n None) (sym settled);
  changes = sym (ap (λ cs. reverse (changes_of cs)) none);
  files = λ file.
      (let same : s.files ≡ content_at (contents_of old.files.items) = λ i f. is.files f i in
      ap (λ (fs : ℕ → Content). shown (keeps (loose_before fs file)) (fs file)) same)
      ∙ sym (shown_at keeps (contents_of old.files.items) file)
      ∙ ap (λ fs. content_at fs file) (sym files);
  count =
      is.count
      ∙ sym (length-contents old.files.items)
      ∙ sym (length-shown_files keeps 0 (contents_of old.files.items))
      ∙ ap length (sym files)
      ∙ length-contents new.files.items;
}

all_changes : (changes : List NameChange) (base : Names) (n : Name) → kept (kept_changes (λ _. true) changes) changes base n ≡ all_kept changes base n
all_changes [] base n = refl
all_changes (Bind k file ∷ changes) base n = ap (λ r. cond (same n k) (Some file) r) (all_changes changes base n)
all_changes (Move from to file ∷ changes) base n = ap (λ r. cond (same n to) (Some file) (cond (same n from) None r)) (all_changes changes base n)
all_changes (Unbind k ∷ changes) base n = ap (λ r. cond (same n k) None r) (all_changes changes base n)

or_true : (b : Bool) → (b || true) ≡ true
or_true true = refl
or_true false = refl

-- a settle is a crash that leaves all
pub settled_stands : (replay : Replay) (s : State) → Stands replay (image_by (λ _. true) s) → Stands replay (state.settled s)
settled_stands replay s is = record {
  base = λ n. sym (all_changes s.changes s.base n) ∙ is.base n;
  changes = is.changes;
  files = λ file. (λ i. record { bytes = sym (cond-true ((s.files file).is_firm || true) (s.files file).bytes [] (or_true (s.files file).is_firm)) i; is_firm = true }) ∙ is.files file;
  count = is.count;
}

-- ---- the files of a settled disk

-- a name that no change binds has no file
unbound : (changes : List NameChange) (n : Name) → any_binds n changes ≡ false → bound_by changes n None ≡ None
unbound [] n none = refl
unbound (c ∷ changes) n none =
    let parts = neither (is_name n (bound_name c)) (any_binds n changes) none in
    ap (bound_by changes n) (not_bound c parts.0) ∙ unbound changes n parts.1
  where
    neither : (a b : Bool) → (a || b) ≡ false → (a ≡ false) × (b ≡ false)
    neither true b e = absurd (false≢true (sym e))
    neither false b e = (refl, e)

    either_way : (b : Bool) (o : Option ℕ) → o ≡ None → cond b None o ≡ None
    either_way true o e = refl
    either_way false o e = e

    not_bound : (c : NameChange) → is_name n (bound_name c) ≡ false → bound_after c n None ≡ None
    not_bound (Bind k file) e = cond-false (same n k) _ _ e
    not_bound (Move from to file) e = cond-false (same n to) _ _ e ∙ either_way (same n from) None refl
    not_bound (Unbind k) e = either_way (same n k) None refl

-- the names of these changes are in the table
abbrev pub Covers : Replay → List NameChange → Files → Type 0
Covers replay changes files = (n : Name) → get files n ≡ cond (any_binds n changes) (settled_view replay n) None

any_more : (n : Name) (xs : List NameChange) (c : NameChange) → any_binds n (xs ++ c ∷ []) ≡ (any_binds n xs || is_name n (bound_name c))
any_more n [] c = or_false (is_name n (bound_name c))
  where
    or_false : (b : Bool) → (b || false) ≡ b
    or_false true = refl
    or_false false = refl
any_more n (x ∷ xs) c = ap (λ b. is_name n (bound_name x) || b) (any_more n xs c) ∙ regroup (is_name n (bound_name x)) (any_binds n xs) (is_name n (bound_name c))
  where
    regroup : (a b c : Bool) → (a || (b || c)) ≡ ((a || b) || c)
    regroup true b c = refl
    regroup false b c = refl

-- a change that binds no name
pub covers_same : (replay : Replay) (xs : List NameChange) (c : NameChange) (files : Files) → bound_name c ≡ None → Covers replay xs files → Covers replay (xs ++ c ∷ []) files
covers_same replay xs c files none so_far n = so_far n ∙ ap (λ b. cond b (settled_view replay n) None) (sym (any_more n xs c ∙ ap (λ o. any_binds n xs || is_name n o) none ∙ or_false (any_binds n xs)))
  where
    or_false : (b : Bool) → (b || false) ≡ b
    or_false true = refl
    or_false false = refl

-- a change that binds one, which is added
pub covers_more : (replay : Replay) (xs : List NameChange) (c : NameChange) (name : Name) (old new : Files) → Some name ≡ bound_name c → Adds (settled_view replay) name old new → Covers replay xs old → Covers replay (xs ++ c ∷ []) new
covers_more replay xs c name old new bound adds so_far n =
    by_case (any_binds n xs) refl (same n name) refl
    ∙ ap (λ b. cond b (settled_view replay n) None) (sym (any_more n xs c ∙ ap (λ o. any_binds n xs || is_name n o) (sym bound)))
  where
    view : Option (List ℕ)
    view = settled_view replay n

    was : (b : Bool) → any_binds n xs ≡ b → get old n ≡ cond b view None
    was b is = so_far n ∙ ap (λ t. cond t view None) is

    -- of a name that is there the file stays, else it is added
    there : (o : Option (List ℕ)) → get old n ≡ o → o ≡ view → same n name ≡ true → get new n ≡ view
    there None is none hit = adds.added n hit is
    there (Some bytes) is view_is hit = adds.there n (ap (λ (x : Option (List ℕ)). is_some x) is) ∙ is ∙ view_is

    by_case : (a : Bool) → any_binds n xs ≡ a → (b : Bool) → same n name ≡ b → get new n ≡ cond (a || b) view None
    by_case true bound_is true hit = there (get old n) refl (was true bound_is) hit
    by_case true bound_is false missed = adds.others n missed ∙ was true bound_is
    by_case false bound_is true hit = adds.added n hit (was false bound_is)
    by_case false bound_is false missed = adds.others n missed ∙ was false bound_is

pub covers_all : (replay : Replay) (files : Files) → Covers replay (changes_of replay.settled.items) files → (n : Name) → get files n ≡ settled_view replay n
covers_all replay files so_far n = by_case (any_binds n (changes_of replay.settled.items)) refl
  where
    by_case : (b : Bool) → any_binds n (changes_of replay.settled.items) ≡ b → get files n ≡ settled_view replay n
    by_case true is = so_far n ∙ ap (λ b. cond b (settled_view replay n) None) is
    by_case false is = so_far n ∙ ap (λ b. cond b (settled_view replay n) None) is ∙ sym (ap (bytes_of (content_at (contents_of replay.files.items))) (unbound (changes_of replay.settled.items) n is))

-- what is read of the state that is replayed, once it is settled
pub settled_reads : (replay : Replay) (s : State) → s.changes ≡ [] → Stands replay s → (n : Name) → settled_view replay n ≡ read s n
settled_reads replay s none is n =
    let same_files : s.files ≡ content_at (contents_of replay.files.items) = λ i f. is.files f i in
    (λ i. bytes_of (sym same_files i) (sym (is.base n) i)) ∙ ap (λ cs. bytes_of s.files (all_kept cs s.base n)) (sym none)

-- a file that is added to a table, or is there
module _ (replay : Replay) (name : Name) (old : Files) where
  pub adds_none : is_some (get old name) ≡ true → Adds (settled_view replay) name old old
  adds_none there = record {
    others = λ n missed. refl;
    there = λ n is. refl;
    added = λ n hit none. absurd (false≢true (sym (ap (λ (o : Option (List ℕ)). is_some o) (ap (get old) (sym (same_name n name hit)) ∙ none)) ∙ there));
  }

  pub adds_nothing : bound_by (changes_of replay.settled.items) name None ≡ None → Adds (settled_view replay) name old old
  adds_nothing none = record {
    others = λ n missed. refl;
    there = λ n is. refl;
    added = λ n hit is. is ∙ sym (ap (λ k. settled_view replay k) (same_name n name hit) ∙ ap (bytes_of (content_at (contents_of replay.files.items))) none);
  }

  pub adds_file : (file : ℕ) (new : Files) → is_some (get old name) ≡ false → bound_by (changes_of replay.settled.items) name None ≡ Some file → new ≡ insert old name (content_at (contents_of replay.files.items) file).bytes → Adds (settled_view replay) name old new
  adds_file file new absent bound is = record {
    others = λ n missed. got n ∙ cond-false (same n name) _ _ missed;
    there = λ n is_there. ⊎_elim
        (λ hit. absurd (false≢true (sym absent ∙ ap (λ k. is_some (get old k)) (sym (same_name n name hit)) ∙ is_there)))
        (λ missed. got n ∙ cond-false (same n name) _ _ missed)
        (cases_Bool (same n name));
    added = λ n hit none. got n ∙ cond-true (same n name) _ _ hit ∙ sym (ap (λ k. settled_view replay k) (same_name n name hit) ∙ ap (bytes_of (content_at (contents_of replay.files.items))) bound);
  }
    where
      got : (n : Name) → get new n ≡ cond (same n name) (Some (content_at (contents_of replay.files.items) file).bytes) (get old n)
      got n = ap (λ (fs : Files). get fs n) is ∙ get-insert nat_list_cmp_total old name (content_at (contents_of replay.files.items) file).bytes n

-- nothing is left of a list past its end
pub left_none : {X : Type 0} (xs : List X) (i : ℕ) → length xs ≤ i → drop i xs ≡ []
left_none [] zero all = refl
left_none [] (suc i) all = refl
left_none (x ∷ xs) zero all = absurd (omega (arith, all))
left_none (x ∷ xs) (suc i) all = left_none xs i (omega (arith, all))

-- the first changes, and one more
pub changes_more : (changes : List DirectoryChange) (i : ℕ) (d : DirectoryChange) → i < length changes → changes_of (take (i + 1) changes) ≡ changes_of (take i changes) ++ change_of (get_or changes i d) ∷ []
changes_more changes i d within = ap changes_of (take_more changes i d within) ∙ map-append change_of (take i changes) (get_or changes i d ∷ [])
