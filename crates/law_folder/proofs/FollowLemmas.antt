-- Rows whose names are some of a list's, in its order.
use Rattle.std.proofs.Common.{◌≡◌, ◌≤◌, ◌&&◌, ◌||◌, Bool, true, false, cond, List, [], ◌∷◌, refl, sym, ◌∙◌, ap, inl, inr, ⊎_elim, arith}
use Rattle.std.proofs.lemmas.Bool.{and_from, cases_Bool, le-leb, true≢false}
use Rattle.std.specs.Cmp.Lexicographic.{texts_ties}
use Rattle.std.specs.List.{AllByRecursion, IsDistinct, list_all}
use Rattle.std.specs.Prelude.{◌⊎◌, Ok, filter, length, nat_le, not}
use Rattle.std.specs.Str.{bytes_eq}
use Rattle.std.proofs.lemmas.Slice.Eq.{bytes_eq-Decides}
use Rattle.pl_base.specs.Names.{is_valid_name}
use Rattle.pl_folder.specs.Disk.{Name, same}
use Rattle.pl_journal.specs.Meaning.{row_of, rows_for}
use Rattle.pl_journal.specs.Names.{cache, is_row_name}
use Rattle.pl_journal.specs.Spelling.{are_named, are_rows, differ, misses, name_of}
use Rattle.pl_journal.specs.declared.change.Change.{Change}
use Rattle.pl_journal.specs.declared.constants.TheConstants.{MAX_ROWS}
use Rattle.pl_journal.proofs.GrammarLaws.{named_changes}
use Rattle.pl_change.specs.Changes.{fitting}
use Rattle.pl_change.specs.declared.cause.Cause.TheVariants.{TooManyFiles}
use Rattle.pl_base.specs.Answers.{unless}

abbrev pub name_in : Change → Name
name_in c = name_of (row_of c)

abbrev pub Follow : List Change → List Name → Type 0
Follow [] ns = Unit {0}
Follow (c ∷ cs) [] = ⊥
Follow (c ∷ cs) (n ∷ ns) = ((name_in c ≡ n) × Follow cs ns) ⊎ Follow (c ∷ cs) ns

-- one name more
pub follow_more : (cs : List Change) (n : Name) (ns : List Name) → Follow cs ns → Follow cs (n ∷ ns)
follow_more [] n ns follow = tt
follow_more (c ∷ cs) n ns follow = inr follow

short : (cs : List Change) (ns : List Name) → Follow cs ns → length cs ≤ length ns
short [] ns follow = omega arith
short (c ∷ cs) [] follow = absurd follow
short (c ∷ cs) (n ∷ ns) (inl follow) = omega (arith, short cs ns follow.1)
short (c ∷ cs) (n ∷ ns) (inr follow) = omega (arith, short (c ∷ cs) ns follow)

-- ---- their names

abbrev pub AreRowNames : List Name → Type 0
AreRowNames ns = AllByRecursion (λ n. is_row_name n ≡ true) ns

named : (cs : List Change) (ns : List Name) → Follow cs ns → AreRowNames ns → list_all (λ c. is_row_name (name_in c)) cs ≡ true
named [] ns follow all = refl
named (c ∷ cs) [] follow all = absurd follow
named (c ∷ cs) (n ∷ ns) (inl follow) all = and_from (is_row_name (name_in c)) _ (ap is_row_name follow.0 ∙ all.0) (named cs ns follow.1 all.1)
named (c ∷ cs) (n ∷ ns) (inr follow) all = named (c ∷ cs) ns follow all.1

missed : (m : Name) (cs : List Change) (ns : List Name) → Follow cs ns → AllByRecursion (λ n. bytes_eq m n ≡ false) ns → misses name_in m cs ≡ true
missed m [] ns follow all = refl
missed m (c ∷ cs) [] follow all = absurd follow
missed m (c ∷ cs) (n ∷ ns) (inl follow) all = and_from (not (same m (name_in c))) _ (ap not (ap (same m) follow.0 ∙ (sym (texts_ties m n) ∙ all.0))) (missed m cs ns follow.1 all.1)
missed m (c ∷ cs) (n ∷ ns) (inr follow) all = missed m (c ∷ cs) ns follow all.1

apart : (cs : List Change) (ns : List Name) → Follow cs ns → IsDistinct bytes_eq ns → differ name_in cs ≡ true
unfolding IsDistinct
apart [] ns follow all = refl
apart (c ∷ cs) [] follow all = absurd follow
apart (c ∷ cs) (n ∷ ns) (inl follow) all =
    and_from (misses name_in (name_in c) cs) _ (ap (λ (m : Name). misses name_in m cs) follow.0 ∙ missed n cs ns follow.1 all.0) (apart cs ns follow.1 all.1)
apart (c ∷ cs) (n ∷ ns) (inr follow) all = apart (c ∷ cs) ns follow all.1

-- ---- so they fit

fits : (rows : List Change) → are_rows (rows_for rows) ≡ true → fitting rows ≡ Ok rows
fits rows fine = ap (λ (b : Bool). unless (not b) TooManyFiles (Ok rows)) fine

pub follow_fits : (rows : List Change) (ns : List Name) → Follow rows ns → AreRowNames ns → IsDistinct bytes_eq ns → length ns ≤ MAX_ROWS → fitting rows ≡ Ok rows
unfolding are_named
follow_fits rows ns follow valid distinct few =
    fits rows (named_changes rows
    ∙ and_from (nat_le (length rows) MAX_ROWS && list_all (λ c. is_row_name (name_in c)) rows) (differ name_in rows)
    (and_from (nat_le (length rows) MAX_ROWS) _ (le-leb (length rows) MAX_ROWS (omega (arith, few, short rows ns follow))) (named rows ns follow valid))
    (apart rows ns follow distinct))

-- ---- valid names

pub row_name : (n : Name) → is_valid_name n ≡ true → is_row_name n ≡ true
row_name n valid = ap (λ (b : Bool). b || same n cache) valid

pub valid_names_are : (ks : List Name) → AreRowNames (filter is_valid_name ks)
valid_names_are [] = tt
valid_names_are (k ∷ ks) = by_test (valid_names_are ks) (is_valid_name k) refl
  where
    by_test : AreRowNames (filter is_valid_name ks) → (b : Bool) → is_valid_name k ≡ b → AreRowNames (cond b (k ∷ filter is_valid_name ks) (filter is_valid_name ks))
    by_test rest true valid = (row_name k valid, rest)
    by_test rest false invalid = rest

-- none of them is another name
pub none_is : (m : Name) (ks : List Name) → is_valid_name m ≡ false → AllByRecursion (λ n. bytes_eq m n ≡ false) (filter is_valid_name ks)
none_is m [] own = tt
none_is m (k ∷ ks) own = by_test (none_is m ks own) (is_valid_name k) refl
  where
    by_test : AllByRecursion (λ n. bytes_eq m n ≡ false) (filter is_valid_name ks) → (b : Bool) → is_valid_name k ≡ b → AllByRecursion (λ n. bytes_eq m n ≡ false) (cond b (k ∷ filter is_valid_name ks) (filter is_valid_name ks))
    by_test rest true valid = (⊎_elim (λ hit. absurd (true≢false (sym valid ∙ (sym (ap is_valid_name ((bytes_eq-Decides m k).0 hit)) ∙ own)))) (λ miss. miss) (cases_Bool (bytes_eq m k)), rest)
    by_test rest false invalid = rest
