-- What does not vary in a library has a value in each program's walk.
use Rattle.std.proofs.Common.{◌≡◌, ℕ, zero, suc, ◌<◌, true, false, List, [], ◌∷◌, length, replicate, Option, Some, None, Result, Ok, Err, refl, sym, ap, subst, ◌∙◌, arith, inl, inr}
use Rattle.std.specs.Prelude.{slice_get, slice_index, slice_index_or}
use Rattle.std.proofs.lemmas.Option.{same_Some, slice_get_cases, slice_get_within}
use Rattle.pl_base.specs.Answers.{◌>>=◌, unless_found}
use Rattle.pl_base.specs.Each.{run}
use Rattle.pl_conflict.proofs.BetweenLaws.{between_weaker}
use Rattle.pl_conflict.specs.Between.{HoldsBetween}
use Rattle.pl_conflict.specs.Format.{format}
use Rattle.pl_elf.specs.Kinds.{is_library, is_static}
use Rattle.pl_elf.specs.declared.kind.Kind.{Kind}
use Rattle.pl_elf.specs.declared.kind.Kind.TheVariants.{Program, Library, Static}
use Rattle.pl_elf.specs.declared.range.Range.{Range}
use Rattle.pl_object.specs.declared.object.Object.{Object}
use Rattle.pl_object.specs.declared.reloc.Reloc.{Reloc}
use Rattle.pl_scope.specs.Members.{names, has, IsLinked}
use Rattle.pl_scope.specs.Scope.{objects}
use Rattle.pl_scope.specs.Walk.{Walked}
use Rattle.pl_scope.proofs.NameLaws.{has_cons, has_head, has_tail}
use Rattle.pl_scope.proofs.StepLaws.{err_ok, same_ok}
use Rattle.pl_scope.proofs.WalkedLaws.{member_file, member_walk_within}
use Rattle.law_sound.specs.Rule as sound
use Rattle.pl_value.specs.Meanings.{meaning, row, given}
use Rattle.pl_value.specs.Values.{relocations_in, value_of}
use Rattle.pl_value.specs.declared.word.Word.{Word}
use Rattle.pl_cone.specs.Candidates.{all_formed, fit, formed, kind_of, check_links, zeros}
use Rattle.pl_cone.specs.OneWord.{GivesOneWord}
use Rattle.pl_cone.specs.Linking.{AreLibraryLinks, HasWalk, IsWalked, fits, is_library_in, is_library_row}
use Rattle.pl_cone.specs.Links.{HasValue, HasValueOf, GivesOneWordOf, IsLinkOf, TellLinks}
use Rattle.pl_cone.specs.Skipped.{skip_causes}
use Rattle.pl_cone.specs.Skips.{of_walk}
use Rattle.pl_cone.specs.Table.{faults_of, walk_for, walked_by}
use Rattle.pl_cone.specs.Taken.{AreTaken, files_in}
use Rattle.pl_cone.specs.declared.linking.Link.{Link}
use Rattle.pl_cone.specs.declared.linking.WalkedFiles as walked
use Rattle.pl_cone.specs.declared.skip.Skip.TheVariants as skips
use Rattle.pl_cone.specs.declared.taken.Taken.{Taken}
use Rattle.pl_cone.specs.declared.scopes.WalkLinking.{WalkLinking}
use Rattle.pl_cone.proofs.OneWordLaws.{one_word}
use Rattle.pl_cone.proofs.FolderLaws.{member_has, object_at}
use Rattle.pl_cone.proofs.MembersLaws.{HasMember, has_member_at}
use Rattle.pl_cone.proofs.SingleLaws.{folder_by, hashes_single}
use Rattle.pl_cone.proofs.WalkLaws.{IsFirst, first_is, first_member, library_entry, rows_are, rows_told, walk_first, walk_made}

-- ---- what is asked of a walk, by its kind

end_same : {E : Type 0} (r : Result (Unit {0}) E) → (r >>= λ _. Ok tt) ≡ r
end_same (Ok u) = refl
end_same (Err e) = refl

pub fit_library : (faults : List ℕ → Option ℕ) (n : List ℕ) (ws : Walked) → kind_of ws ≡ Library → fit faults n ws ≡ all_formed faults (names ws)
unfolding fit
fit_library faults n ws kind = rw kind (end_same (all_formed faults (names ws)))

pub fit_program : (faults : List ℕ → Option ℕ) (n : List ℕ) (ws : Walked) → kind_of ws ≡ Program → fit faults n ws ≡ (all_formed faults (names ws) >>= λ _. check_links ws)
unfolding fit
fit_program faults n ws kind = rw kind refl

pub fit_static : (faults : List ℕ → Option ℕ) (n : List ℕ) (ws : Walked) → kind_of ws ≡ Static → fit faults n ws ≡ Err (skips.Static n)
unfolding fit
fit_static faults n ws kind = rw kind refl

pub library_kind : (kind : Kind) → is_library kind ≡ true → kind ≡ Library
library_kind Library is = refl
library_kind Program is = absurd cc
library_kind Static is = absurd cc

pub static_kind : (kind : Kind) → is_static kind ≡ true → kind ≡ Static
static_kind Static is = refl
static_kind Library is = absurd cc
static_kind Program is = absurd cc

pub program_kind : (kind : Kind) → is_library kind ≡ false → is_static kind ≡ false → kind ≡ Program
program_kind Program out also = refl
program_kind Library out also = absurd cc
program_kind Static out also = absurd cc

-- ---- forms of a walk within another

formed_step : (faults : List ℕ → Option ℕ) (n : List ℕ) (ns : List (List ℕ)) (fault : Option ℕ) → (unless_found fault (skips.Form n) (Ok tt) >>= λ u. run (λ v m. formed faults m) u ns) ≡ Ok tt → (fault ≡ None) × (run (λ v m. formed faults m) tt ns ≡ Ok tt)
formed_step faults n ns None is = (refl, is)
formed_step faults n ns (Some number) is = absurd (err_ok (skips.Form n number) tt is)

pub formed_each : (faults : List ℕ → Option ℕ) (ns : List (List ℕ)) → all_formed faults ns ≡ Ok tt → (n : List ℕ) → has ns n ≡ true → faults n ≡ None
unfolding all_formed run
formed_each faults [] is n t = absurd cc
formed_each faults (m ∷ ns) is n t =
    let p = formed_step faults m ns (faults m) is in
    elim (has_cons m n ns t) [
      | inl same ↦ ap faults (sym same) ∙ p.0
      | inr later ↦ formed_each faults ns p.1 n later
    ]

formed_back : (faults : List ℕ → Option ℕ) (ns : List (List ℕ)) → ((n : List ℕ) → has ns n ≡ true → faults n ≡ None) → all_formed faults ns ≡ Ok tt
unfolding all_formed run
formed_back faults [] none = refl
formed_back faults (m ∷ ns) none =
    ap (λ (fault : Option ℕ). unless_found fault (skips.Form m) (Ok tt) >>= λ u. run (λ v k. formed faults k) u ns) (none m (has_head m ns))
    ∙ formed_back faults ns (λ n t. none n (has_tail m n ns t))

pub formed_within : (faults : List ℕ → Option ℕ) (ns ms : List (List ℕ)) → all_formed faults ns ≡ Ok tt → ((n : List ℕ) → has ms n ≡ true → has ns n ≡ true) → all_formed faults ms ≡ Ok tt
formed_within faults ns ms is within = formed_back faults ms (λ n t. formed_each faults ns is n (within n t))

-- ---- a value

zero_at : (k i : ℕ) → slice_index (replicate k 0) i ≡ 0
zero_at zero zero = refl
zero_at zero (suc i) = refl
zero_at (suc k) zero = refl
zero_at (suc k) (suc i) = zero_at k i

value_there : (l : WalkLinking) (ws : Walked) (m : ℕ) (r : Reloc) (word : Word) → l.scope.now ≡ ws → l.places.now ≡ zeros ws → value_of (objects ws) (zeros ws) l.modules.now m r ≡ Ok word → HasValue l m r
unfolding meaning
value_there l ws m r word scope places e = (given l.places.now (row m r) word, rw (scope, places, e) refl)

-- ---- a member of a program's walk

-- a library of it, with its own walk
record IsMemberLibrary (w : walked.WalkedFiles) (ws : Walked) (m r : ℕ) (o : Object) : Type 0 where
  taken : Taken
  at : slice_get ws m ≡ Some (taken.name, o)
  has_walk : HasWalk w r
  same : has_walk.taken ≡ taken
  library : is_library_row w r ≡ true
  first : slice_get (walked_by w.files.now has_walk.rows) 0 ≡ Some (taken.name, o)
  fit : fits w has_walk.taken has_walk.rows ≡ Ok tt
  within : (k : List ℕ) → has (names (walked_by w.files.now has_walk.rows)) k ≡ true → has (names ws) k ≡ true

pub later_member : (ws rest : Walked) (n k : List ℕ) (first o : Object) (m : ℕ) → ws ≡ (n, first) ∷ rest → 0 < m → slice_get ws m ≡ Some (k, o) → has (names rest) k ≡ true
later_member ws rest n k first o zero is some at = absurd (omega (arith, some))
later_member ws rest n k first o (suc m) is some at = member_has rest m k (record { object = o; at = ap (λ (v : Walked). slice_get v (suc m)) (sym is) ∙ at })

module _ (region : Range) (w : walked.WalkedFiles) (is : IsWalked w) (taken : AreTaken region w.files.now) (row : ℕ) (h : HasWalk w row) (program : kind_of (walked_by w.files.now h.rows) ≡ Program)
    (formed : all_formed (faults_of w.files.now) (names (walked_by w.files.now h.rows)) ≡ Ok tt) where
  abbrev ts : List Taken
  ts = w.files.now

  abbrev ws : Walked
  ws = walked_by ts h.rows

  linked_first : (o : Object) → sound.objects (format skip_causes) (files_in ts) h.taken.name ≡ Ok o → IsLinked o.kind
  linked_first o e =
      let i = walk_first ts h.taken.name ws h.told in
      inr (ap (λ (p : Object). p.kind) (same_ok o i.object (sym e ∙ i.file)) ∙ (sym (ap kind_of i.is) ∙ program))

  by_walk : (m r : ℕ) (o : Object) → 0 < m → (p : HasMember ts h.rows m r) → slice_get (objects ws) m ≡ Some o → (rows : List ℕ) → slice_get w.walks.now r ≡ Some rows → IsMemberLibrary w ws m r o
  by_walk m r o some p here rows walk =
      let n : List ℕ = p.taken.name in
      let object : p.object ≡ o = same_Some p.object o (sym (object_at ws m n p.object p.at) ∙ here) in
      let at : slice_get ws m ≡ Some (n, o) = p.at ∙ ap (λ (q : Object). Some (n, q)) object in
      let inner = member_walk_within of_walk (sound.objects (format skip_causes) (files_in ts)) h.taken.name n ws h.told linked_first (member_has ws m n (record { object = o; at = at })) in
      let told = rows_told ts w.walks.now r p.taken rows inner.0 is.walks p.file walk inner.1 in
      let own : Walked = walked_by ts rows in
      let same : inner.0 ≡ own = same_ok inner.0 own (sym inner.1 ∙ told.1) in
      let i = walk_first ts h.taken.name ws h.told in
      let file : sound.objects (format skip_causes) (files_in ts) n ≡ Ok o = member_file of_walk (sound.objects (format skip_causes) (files_in ts)) h.taken.name ws h.told m (n, o) at in
      let kind : o.kind ≡ Library = i.libraries n o (later_member ws i.rest h.taken.name n i.object o m i.is some at) file in
      let first : IsFirst p.taken own = first_is region ts r p.taken own taken p.file told.1 in
      let own_object : first.object ≡ o = same_Some first.object o (sym first.there ∙ (p.is ∙ ap (λ (q : Object). Some q) object)) in
      let own_first = walk_first ts n own told.1 in
      let first_object : own_first.object ≡ o = same_ok own_first.object o (sym own_first.file ∙ file) in
      let within : (k : List ℕ) → has (names own) k ≡ true → has (names ws) k ≡ true = λ k t. inner.2 k (subst (λ (v : Walked). has (names v) k ≡ true) (sym same) t) in
      record {
        taken = p.taken;
        at = at;
        has_walk = record { taken = p.taken; rows = rows; file = p.file; walk = walk; told = told.1 };
        same = refl;
        library = ap is_library_in p.file ∙ (library_entry p.taken.entry o (p.is ∙ ap (λ (q : Object). Some q) object) ∙ ap is_library kind);
        first = ap (λ (v : Walked). slice_get v 0) own_first.is ∙ ap (λ (q : Object). Some (n, q)) first_object;
        fit = fit_library (faults_of ts) n own (first.kind ∙ (ap (λ (q : Object). q.kind) own_object ∙ kind)) ∙ formed_within (faults_of ts) (names ws) (names own) formed within;
        within = within;
      }

  member_library : (m r : ℕ) (o : Object) → 0 < m → slice_get h.rows m ≡ Some r → slice_get (objects ws) m ≡ Some o → IsMemberLibrary w ws m r o
  member_library m r o some at here =
      let p : HasMember ts h.rows m r = has_member_at ts h.rows m r (rows_are w row is h).each at in
      elim (slice_get_cases w.walks.now r).1 [
        | inl q ↦ by_walk m r o some p here q.0 q.2
        | inr none ↦ absurd (omega (arith, none.0, is.walks.walks, slice_get_within ts r p.taken p.file))
      ]

  value_right : (m r : ℕ) (o : Object) (l : WalkLinking) → (lib : IsMemberLibrary w ws m r o) → l.scope.now ≡ ws → l.places.now ≡ zeros ws → (i : ℕ) → GivesOneWordOf w.index.now (objects (walked_by ts lib.has_walk.rows)) o.relocations i → HasValueOf l m o.relocations i
  value_right m r o l lib scope places i known = λ d.
      let own : Walked = walked_by ts lib.has_walk.rows in
      let n : List ℕ = lib.taken.name in
      let told : walk_for ts n ≡ Ok own = ap (λ (t : Taken). walk_for ts t.name) (sym lib.same) ∙ lib.has_walk.told in
      let whole : GivesOneWord (folder_by ts) n own (slice_index_or o.relocations i d) =
      one_word (folder_by ts) w.index.now n own (slice_index_or o.relocations i d) (record { hashes = hashes_single ts w.index.now is.index; made = walk_made region ts n own taken told; first = first_member ts n own told }) (known d) in
      let word = whole (λ _. 0) in
      value_there l ws m (slice_index_or o.relocations i d) word.0 scope places (word.1 ws m (zeros ws) l.modules.now (record {
        made = walk_made region ts h.taken.name ws taken h.told;
        named = record { object = o; at = lib.at };
        within = lib.within;
        placed = λ k file of_file. zero_at (length ws) k;
      }))

  pub program_tells : (links : List Link) → AreLibraryLinks w links → TellLinks (walked_by w.files.now h.rows) h.rows links
  program_tells links are = λ l scope places m r o link some here at there.
      let lib : IsMemberLibrary w ws m r o = member_library m r o some at (ap (λ (v : Walked). slice_get (objects v) m) (sym scope) ∙ here) in
      let own : Walked = walked_by ts lib.has_walk.rows in
      let known : IsLinkOf w.index.now own link = are r link lib.has_walk lib.library lib.fit there in
      let relocs : relocations_in (slice_get (objects own) 0) ≡ o.relocations = ap relocations_in (object_at own 0 lib.taken.name o lib.first) in
      let rest : HoldsBetween (GivesOneWordOf w.index.now (objects own) o.relocations) (length o.relocations) 0 link.remaining =
      subst (λ (rs : List Reloc). HoldsBetween (GivesOneWordOf w.index.now (objects own) rs) (length rs) 0 link.remaining) relocs known.remaining in
      between_weaker (GivesOneWordOf w.index.now (objects own) o.relocations) (HasValueOf l m o.relocations) (length o.relocations) 0 link.remaining (λ i c. value_right m r o l lib scope places i c) rest
