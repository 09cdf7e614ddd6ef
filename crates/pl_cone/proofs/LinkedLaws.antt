-- Libraries are linked first, and then the others: what is done up to a row.
use Rattle.std.proofs.Common.{◌≡◌, ◌≢◌, ℕ, ◌+◌, ◌<◌, Bool, true, false, List, length, get_or, Option, Some, None, Result, Ok, Err, refl, sym, ap, subst, ◌∙◌, arith, inl, inr}
use Rattle.std.specs.Prelude.{◌&&◌, ◌||◌, MatchBool, ⊤, is_some, nat_lt, slice_get}
use Rattle.std.proofs.lemmas.Bool.{cases_Bool, false≢true}
use Rattle.std.proofs.lemmas.Bool.Decides.{nat_tests}
use Rattle.std.proofs.lemmas.Option.{get_or_from_slice_get, slice_get_read, slice_get_within}
use Rattle.pl_base.specs.Answers.{Answers, ◌>>=◌}
use Rattle.pl_elf.specs.declared.kind.Kind.{Kind}
use Rattle.pl_elf.specs.declared.kind.Kind.TheVariants.{Program, Library, Static}
use Rattle.pl_elf.specs.Kinds.{is_library, is_static}
use Rattle.pl_scope.specs.Members.{names}
use Rattle.pl_scope.specs.Walk.{Walked}
use Rattle.pl_cone.specs.Candidates.{all_formed, kind_of, check_links}
use Rattle.pl_cone.specs.Linking.{AreLibraryLinks, AreLinked, HasWalk, HaveDone, HaveLinked, IsNextRow, IsPut, IsRow, IsRowLinked, IsRowUnlinked, IsSized, IsWalked, LinksBy, fits, is_library_in, is_library_row, is_static_entry, libraries_to, others_to}
use Rattle.pl_cone.specs.Links.{IsLinkOf, LinksProgram}
use Rattle.pl_cone.specs.Plans.{cause_of}
use Rattle.pl_cone.specs.Skips.{skip_is_memory}
use Rattle.pl_cone.specs.Table.{IsLinkKind, faults_of, walked_by}
use Rattle.pl_cone.specs.Taken.{is_library_entry}
use Rattle.pl_cone.specs.declared.linking.Link.{Link}
use Rattle.pl_cone.specs.declared.linking.Linked.{Linked}
use Rattle.pl_cone.specs.declared.linking.WalkedFiles as walked
use Rattle.pl_cone.specs.declared.skip.Skip.{Skip}
use Rattle.pl_cone.specs.declared.skip.Skip.TheVariants as skips
use Rattle.pl_cone.specs.declared.taken.Taken.{Taken}
use Rattle.pl_cone.proofs.LinkingLaws.{cause_is, done_kept, done_put}
use Rattle.pl_cone.proofs.TellLaws.{fit_library, fit_program, fit_static, library_kind, program_kind, static_kind}
use Rattle.pl_cone.proofs.WalkLaws.{IsFirst, first_is, library_entry, static_entry}

-- ---- rows before one

lt_next : (k row : ℕ) → k ≢ row → nat_lt k (row + 1) ≡ nat_lt k row
lt_next k row apart = grind (arith, nat_tests)

lt_self : (row : ℕ) → nat_lt row row ≡ false
lt_self row = grind (arith, nat_tests)

lt_here : (row : ℕ) → nat_lt row (row + 1) ≡ true
lt_here row = grind (arith, nat_tests)

lt_none : (row : ℕ) → nat_lt row 0 ≡ false
lt_none row = grind (arith, nat_tests)

lt_in : (row count : ℕ) → row < count → nat_lt row count ≡ true
lt_in row count lt = grind (arith, nat_tests)

-- the same rows are done
have_same : (w : walked.WalkedFiles) (d e : ℕ → Bool) (l : Linked) → ((row : ℕ) → row < length w.files.now → e row ≡ d row) → HaveDone w d l → HaveDone w e l
have_same w d e l same have = record {
  sized = have.sized;
  rows = λ row lt. subst (λ (b : Bool). IsRow b w l row) (sym (same row lt)) (have.rows row lt);
}

-- ---- libraries

pub passes_begin : (w : walked.WalkedFiles) (l : Linked) → IsSized w l → ((row : ℕ) → row < length w.files.now → IsRowUnlinked w l row) → HaveLinked true w 0 l
passes_begin w l sized opened = record {
  sized = sized;
  rows = λ row lt. subst (λ (b : Bool). IsRow b w l row) (sym (ap (λ (b : Bool). b && is_library_row w row) (lt_none row))) (opened row lt);
}

library_others : (w : walked.WalkedFiles) (row other : ℕ) → other ≢ row → libraries_to w (row + 1) other ≡ libraries_to w row other
library_others w row other apart = ap (λ (b : Bool). b && is_library_row w other) (lt_next other row apart)

pub library_unlinked : (w : walked.WalkedFiles) (l : Linked) (row : ℕ) → row < length w.files.now → HaveDone w (libraries_to w row) l → IsRowUnlinked w l row
library_unlinked w l row lt have = subst (λ (b : Bool). IsRow b w l row) (ap (λ (b : Bool). b && is_library_row w row) (lt_self row)) (have.rows row lt)

library_now : (w : walked.WalkedFiles) (row : ℕ) (b : Bool) → is_library_row w row ≡ b → libraries_to w (row + 1) row ≡ b
library_now w row b is = ap (λ (c : Bool). c && is_library_row w row) (lt_here row) ∙ is

-- a row that is no library
pub library_none : (w : walked.WalkedFiles) (l : Linked) (row : ℕ) → row < length w.files.now → is_library_row w row ≡ false → HaveDone w (libraries_to w row) l → HaveDone w (libraries_to w (row + 1)) l
library_none w l row lt none have =
    done_kept w (libraries_to w row) (libraries_to w (row + 1)) l row have
    (subst (λ (b : Bool). IsRow b w l row) (sym (library_now w row false none)) (library_unlinked w l row lt have)) (λ other apart. library_others w row other apart)

-- ---- the others

-- all libraries come first
pub libraries_first : (w : walked.WalkedFiles) (l : Linked) → HaveLinked true w (length w.files.now) l → HaveLinked false w 0 l
libraries_first w l have =
    have_same w (libraries_to w (length w.files.now)) (others_to w 0) l
    (λ row lt. ap (λ (b : Bool). b || is_library_row w row) (lt_none row) ∙ sym (ap (λ (b : Bool). b && is_library_row w row) (lt_in row (length w.files.now) lt))) have

pub others_end : (w : walked.WalkedFiles) (l : Linked) → HaveLinked false w (length w.files.now) l → AreLinked w l
others_end w l have =
    (have.sized, λ row lt. subst (λ (b : Bool). IsRow b w l row) (ap (λ (b : Bool). b || is_library_row w row) (lt_in row (length w.files.now) lt)) (have.rows row lt))

other_others : (w : walked.WalkedFiles) (row other : ℕ) → other ≢ row → others_to w (row + 1) other ≡ others_to w row other
other_others w row other apart = ap (λ (b : Bool). b || is_library_row w other) (lt_next other row apart)

other_now : (w : walked.WalkedFiles) (row : ℕ) → others_to w (row + 1) row ≡ true
other_now w row = ap (λ (b : Bool). b || is_library_row w row) (lt_here row)

other_before : (w : walked.WalkedFiles) (row : ℕ) (b : Bool) → is_library_row w row ≡ b → others_to w row row ≡ b
other_before w row b is = ap (λ (c : Bool). c || is_library_row w row) (lt_self row) ∙ is

pub other_unlinked : (w : walked.WalkedFiles) (l : Linked) (row : ℕ) → row < length w.files.now → is_library_row w row ≡ false → HaveDone w (others_to w row) l → IsRowUnlinked w l row
other_unlinked w l row lt is have = subst (λ (b : Bool). IsRow b w l row) (other_before w row false is) (have.rows row lt)

-- a library is there already
pub other_library : (w : walked.WalkedFiles) (l : Linked) (row : ℕ) → row < length w.files.now → is_library_row w row ≡ true → HaveDone w (others_to w row) l → HaveDone w (others_to w (row + 1)) l
other_library w l row lt is have =
    done_kept w (others_to w row) (others_to w (row + 1)) l row have
    (subst (λ (b : Bool). IsRow b w l row) (sym (other_now w row)) (subst (λ (b : Bool). IsRow b w l row) (other_before w row true is) (have.rows row lt))) (λ other apart. other_others w row other apart)

-- ---- kinds of rows

row_first : (w : walked.WalkedFiles) (row : ℕ) → IsWalked w → (h : HasWalk w row) → IsFirst h.taken (walked_by w.files.now h.rows)
row_first w row is h = first_is is.taken.0 w.files.now row h.taken (walked_by w.files.now h.rows) is.taken.1 h.file h.told

row_library : (w : walked.WalkedFiles) (row : ℕ) (is : IsWalked w) (h : HasWalk w row) → is_library_row w row ≡ is_library (kind_of (walked_by w.files.now h.rows))
row_library w row is h =
    let first = row_first w row is h in
    ap is_library_in h.file ∙ (library_entry h.taken.entry first.object first.there ∙ sym (ap is_library first.kind))

row_static : (w : walked.WalkedFiles) (row : ℕ) (is : IsWalked w) (h : HasWalk w row) → is_static_entry h.taken.entry ≡ is_static (kind_of (walked_by w.files.now h.rows))
row_static w row is h =
    let first = row_first w row is h in
    static_entry h.taken.entry first.object first.there ∙ sym (ap is_static first.kind)

pub library_first : (w : walked.WalkedFiles) (row : ℕ) → IsWalked w → (h : HasWalk w row) → is_library_row w row ≡ true → kind_of (walked_by w.files.now h.rows) ≡ Library
library_first w row is h library = library_kind (kind_of (walked_by w.files.now h.rows)) (sym (row_library w row is h) ∙ library)

pub static_first : (w : walked.WalkedFiles) (row : ℕ) → IsWalked w → (h : HasWalk w row) → is_static_entry h.taken.entry ≡ true → kind_of (walked_by w.files.now h.rows) ≡ Static
static_first w row is h on = static_kind (kind_of (walked_by w.files.now h.rows)) (sym (row_static w row is h) ∙ on)

pub program_first : (w : walked.WalkedFiles) (row : ℕ) → IsWalked w → (h : HasWalk w row) → is_library_row w row ≡ false → is_static_entry h.taken.entry ≡ false → kind_of (walked_by w.files.now h.rows) ≡ Program
program_first w row is h out also = program_kind (kind_of (walked_by w.files.now h.rows)) (sym (row_library w row is h) ∙ out) (sym (row_static w row is h) ∙ also)

-- links of libraries that are done tell what varies
pub library_links : (w : walked.WalkedFiles) (l : Linked) (count : ℕ) → IsWalked w → HaveDone w (others_to w count) l → AreLibraryLinks w l.links.items
library_links w l count is have = λ row link h library fit there.
    let lt : row < length w.files.now = slice_get_within w.files.now row h.taken h.file in
    let done : others_to w count row ≡ true = ap (λ (b : Bool). nat_lt row count || b) library ∙ or_true (nat_lt row count) in
    let told : IsRowLinked w l row = subst (λ (b : Bool). IsRow b w l row) done (have.rows row lt) in
    let none : slice_get l.causes.items row ≡ Some None =
    told.meant is.taken.0 h.taken is.taken.1 h.file ∙ ap (λ (r : Result (Unit {0}) Skip). Some (cause_of r)) (cause_is w row h is.taken.0 h.taken is.taken.1 h.file ∙ fit) in
    subst (λ (k : Kind). IsLinkKind k w.files.now w.index.now h.rows link) (library_first w row is h library) (told.by h.rows link none h.walk there)
  where
    or_true : (b : Bool) → (b || true) ≡ true
    or_true true = refl
    or_true false = refl

-- ---- the libraries, or the others

pub pass_skips : (libraries library : Bool) (w : walked.WalkedFiles) (l : Linked) (row : ℕ) → row < length w.files.now → is_library_row w row ≡ library → library ≢ libraries → HaveLinked libraries w row l → HaveLinked libraries w (row + 1) l
pass_skips true true w l row lt is apart have = absurd (apart refl)
pass_skips true false w l row lt is apart have = library_none w l row lt is have
pass_skips false true w l row lt is apart have = other_library w l row lt is have
pass_skips false false w l row lt is apart have = absurd (apart refl)

pub pass_row : (libraries : Bool) (w : walked.WalkedFiles) (l : Linked) (row : ℕ) → IsWalked w → row < length w.files.now → is_library_row w row ≡ libraries → HaveLinked libraries w row l → IsNextRow w row l
pass_row true w l row is lt library have = record {
  walked = is;
  within = lt;
  sized = have.sized;
  unlinked = library_unlinked w l row lt have;
  libraries = λ none. absurd (false≢true (sym none ∙ library));
}
pass_row false w l row is lt other have = record {
  walked = is;
  within = lt;
  sized = have.sized;
  unlinked = other_unlinked w l row lt other have;
  libraries = λ none. library_links w l row is have;
}

pub pass_put : (libraries : Bool) (w : walked.WalkedFiles) (before after : Linked) (row : ℕ) → is_library_row w row ≡ libraries → HaveLinked libraries w row before → IsPut w before after row → HaveLinked libraries w (row + 1) after
pass_put true w before after row library have put =
    done_put w (libraries_to w row) (libraries_to w (row + 1)) before after row have put (library_now w row true library) (λ other apart. library_others w row other apart)
pass_put false w before after row none have put =
    done_put w (others_to w row) (others_to w (row + 1)) before after row have put (other_now w row) (λ other apart. other_others w row other apart)

-- ---- what is found of a row

same_answer : (a b : Result (Unit {0}) Skip) (skip : Skip) → a ≡ b → Answers skip_is_memory (Err skip) a → Answers skip_is_memory (Err skip) b
same_answer a b skip same h = subst (λ (r : Result (Unit {0}) Skip). Answers skip_is_memory (Err skip) r) same h

-- a library, of which a member has no form
pub library_stops : (w : walked.WalkedFiles) (row : ℕ) (skip : Skip) → IsWalked w → (h : HasWalk w row) → is_library_row w row ≡ true → Answers skip_is_memory (Err skip) (all_formed (faults_of w.files.now) (names (walked_by w.files.now h.rows))) → LinksBy w h.rows (fits w h.taken h.rows) (Err skip)
library_stops w row skip is h library answer =
    same_answer _ _ skip (sym (fit_library (faults_of w.files.now) h.taken.name (walked_by w.files.now h.rows) (library_first w row is h library))) answer

pub library_found : (w : walked.WalkedFiles) (row : ℕ) (link : Link) → IsWalked w → (h : HasWalk w row) → is_library_row w row ≡ true → all_formed (faults_of w.files.now) (names (walked_by w.files.now h.rows)) ≡ Ok tt
    → IsLinkOf w.index.now (walked_by w.files.now h.rows) link → LinksBy w h.rows (fits w h.taken h.rows) (Ok link)
library_found w row link is h library formed found =
    let kind = library_first w row is h library in (
      fit_library (faults_of w.files.now) h.taken.name (walked_by w.files.now h.rows) kind ∙ formed,
      subst (λ (k : Kind). IsLinkKind k w.files.now w.index.now h.rows link) (sym kind) found,
    )

-- a static program
pub static_stops : (w : walked.WalkedFiles) (row : ℕ) (name : List ℕ) → IsWalked w → (h : HasWalk w row) → is_static_entry h.taken.entry ≡ true → name ≡ h.taken.name → LinksBy w h.rows (fits w h.taken h.rows) (Err (skips.Static name))
static_stops w row name is h on same =
    fit_static (faults_of w.files.now) h.taken.name (walked_by w.files.now h.rows) (static_first w row is h on) ∙ ap (λ (n : List ℕ). Err (skips.Static n)) (sym same)

-- a program
stops_then : (b : Bool) (r s : Result (Unit {0}) Skip) (skip : Skip) → MatchBool b ⊤ (r ≡ Err skip) → MatchBool b ⊤ ((r >>= λ _. s) ≡ Err skip)
stops_then true r s skip answer = tt
stops_then false r s skip answer = ap (λ (x : Result (Unit {0}) Skip). x >>= λ _. s) answer

pub program_stops : (w : walked.WalkedFiles) (row : ℕ) (skip : Skip) → IsWalked w → (h : HasWalk w row) → is_library_row w row ≡ false → is_static_entry h.taken.entry ≡ false → Answers skip_is_memory (Err skip) (all_formed (faults_of w.files.now) (names (walked_by w.files.now h.rows))) → LinksBy w h.rows (fits w h.taken h.rows) (Err skip)
program_stops w row skip is h out also answer =
    let ws : Walked = walked_by w.files.now h.rows in
    let formed : Result (Unit {0}) Skip = all_formed (faults_of w.files.now) (names ws) in
    same_answer (formed >>= λ _. check_links ws) (fits w h.taken h.rows) skip (sym (fit_program (faults_of w.files.now) h.taken.name ws (program_first w row is h out also))) (stops_then (skip_is_memory skip) formed (check_links ws) skip answer)

program_fit : (w : walked.WalkedFiles) (row : ℕ) → IsWalked w → (h : HasWalk w row) → is_library_row w row ≡ false → is_static_entry h.taken.entry ≡ false → all_formed (faults_of w.files.now) (names (walked_by w.files.now h.rows)) ≡ Ok tt → fits w h.taken h.rows ≡ check_links (walked_by w.files.now h.rows)
program_fit w row is h out also formed =
    let ws : Walked = walked_by w.files.now h.rows in
    fit_program (faults_of w.files.now) h.taken.name ws (program_first w row is h out also) ∙ ap (λ (x : Result (Unit {0}) Skip). x >>= λ _. check_links ws) formed

pub program_found : (w : walked.WalkedFiles) (row : ℕ) (made : Result Link Skip) → IsWalked w → (h : HasWalk w row) → is_library_row w row ≡ false → is_static_entry h.taken.entry ≡ false → all_formed (faults_of w.files.now) (names (walked_by w.files.now h.rows)) ≡ Ok tt
    → LinksProgram (walked_by w.files.now h.rows) made → LinksBy w h.rows (fits w h.taken h.rows) made
program_found w row (Ok link) is h out also formed links = (
  program_fit w row is h out also formed ∙ links.1.1,
  subst (λ (k : Kind). IsLinkKind k w.files.now w.index.now h.rows link) (sym (program_first w row is h out also)) (links.0, links.1.0),
)
program_found w row (Err skip) is h out also formed links = same_answer (check_links (walked_by w.files.now h.rows)) (fits w h.taken h.rows) skip (sym (program_fit w row is h out also formed)) links

-- whatever it is
pub form_stops : (w : walked.WalkedFiles) (row : ℕ) (skip : Skip) → IsWalked w → (h : HasWalk w row) → is_static_entry h.taken.entry ≡ false → Answers skip_is_memory (Err skip) (all_formed (faults_of w.files.now) (names (walked_by w.files.now h.rows))) → LinksBy w h.rows (fits w h.taken h.rows) (Err skip)
form_stops w row skip is h also answer = elim (cases_Bool (is_library_row w row)) [
  | inl library ↦ library_stops w row skip is h library answer
  | inr none ↦ program_stops w row skip is h none also answer
]

-- ---- rows as they are read

-- a walk as a slice gives it
pub walk_is : (w : walked.WalkedFiles) (row : ℕ) (h : HasWalk w row) (rows : List ℕ) → rows ≡ get_or w.walks.now row rows → rows ≡ h.rows
walk_is w row h rows read = read ∙ get_or_from_slice_get w.walks.now row h.rows rows h.walk

pub taken_is : (w : walked.WalkedFiles) (row : ℕ) (h : HasWalk w row) (t : Taken) → t ≡ get_or w.files.now row t → t ≡ h.taken
taken_is w row h t read = read ∙ get_or_from_slice_get w.files.now row h.taken t h.file

pub library_read : (w : walked.WalkedFiles) (row : ℕ) (t : Taken) (b : Bool) → row < length w.files.now → t ≡ get_or w.files.now row t → b ≡ is_library_entry t.entry → is_library_row w row ≡ b
library_read w row t b lt read is = ap is_library_in (slice_get_read w.files.now (length w.files.now) row t refl lt read) ∙ sym is

some_cause : (x : Option Skip) → is_some x ≡ true → (cause : Skip) × (x ≡ Some cause)
some_cause None is = absurd cc
some_cause (Some cause) is = (cause, refl)

no_cause : (x : Option Skip) → is_some x ≡ false → x ≡ None
no_cause None is = refl
no_cause (Some cause) is = absurd cc

pub cause_read : (l : Linked) (row : ℕ) (x : Option Skip) → row < length l.causes.items → x ≡ get_or l.causes.items row x → is_some x ≡ true → (cause : Skip) × (slice_get l.causes.items row ≡ Some (Some cause))
cause_read l row x lt read is =
    let p = some_cause x is in
    (p.0, slice_get_read l.causes.items (length l.causes.items) row x refl lt read ∙ ap (λ (y : Option Skip). Some y) p.1)

pub none_read : (l : Linked) (row : ℕ) (x : Option Skip) → row < length l.causes.items → x ≡ get_or l.causes.items row x → is_some x ≡ false → slice_get l.causes.items row ≡ Some None
none_read l row x lt read is = slice_get_read l.causes.items (length l.causes.items) row x refl lt read ∙ ap (λ (y : Option Skip). Some y) (no_cause x is)
