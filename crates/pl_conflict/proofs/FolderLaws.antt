-- Over a folder that keeps the rule at a program's name: its files stand for their originals, and the fast image is the ordinary one.
use Rattle.std.proofs.Common.{◌≡◌, ℕ, ◌<◌, ◌≤◌, true, false, List, [], ◌∷◌, length, map, get_or, drop, Option, Some, None, Result, Ok, Err, refl, sym, ap, subst, ◌∙◌, arith, inl, inr}
use Rattle.std.specs.Prelude.{nat_eq, slice_index_or}
use Rattle.std.specs.Bool.{Decides}
use Rattle.std.specs.List.{All, AllZip, filter_map, cons_option}
use Rattle.std.specs.Option.{is_some}
use Rattle.std.specs.Str.{bytes_eq}
use Rattle.std.specs.Cmp.Lexicographic.{pointwise}
use Rattle.std.proofs.lemmas.Bool.{cases_Bool, and_parts, false≢true}
use Rattle.std.proofs.lemmas.Bool.Decides.{nat_tests}
use Rattle.std.proofs.lemmas.List.Elements.{All-nil, All-cons, All-head, All-tail}
use Rattle.std.proofs.lemmas.Option.{same_Some, slice_get-get_or}
use Rattle.std.proofs.lemmas.Slice.Eq.{slice_eq-Decides}
use Rattle.pl_base.specs.Answers.{◌>>=◌}
use Rattle.pl_base.specs.Memory.{Memory}
use Rattle.pl_base.proofs.AnswerLaws.{ok_same}
use Rattle.pl_elf.specs.Kinds.{is_library, is_program}
use Rattle.pl_elf.specs.declared.kind.Kind.{Kind}
use Rattle.pl_elf.specs.declared.kind.Kind.TheVariants.{Program, Library, Static}
use Rattle.pl_form.specs.Files.{marked_in, original_in}
use Rattle.pl_form.specs.Marks.{IsFormOf}
use Rattle.pl_form.specs.declared.constants.TheConstants.{STORED}
use Rattle.pl_form.proofs.BytesLaws.{forms_are_bytes}
use Rattle.pl_form.proofs.FilesLaws.{forms_are_read}
use Rattle.pl_image.specs.Image.{byte_of}
use Rattle.pl_lists.specs.declared.conflict_row.ConflictRow.{ConflictRow}
use Rattle.pl_object.specs.Reads.{reads}
use Rattle.pl_object.specs.declared.object.Object.{Object}
use Rattle.pl_scope.specs.Members.{names, others, has, told, IsLinked}
use Rattle.pl_scope.specs.Scope as scopes
use Rattle.pl_scope.specs.Walk.{Walked, walk_over}
use Rattle.pl_scope.specs.declared.fault.WalkFault.{WalkFault}
use Rattle.pl_scope.proofs.ClosureLaws.{WalkTells, walk_is, member_told, member_walk}
use Rattle.pl_scope.proofs.NameLaws.{same_name, eq_refl, has_cons, has_head, has_tail}
use Rattle.pl_scope.proofs.StepLaws.{walk_there}
use Rattle.pl_scope.proofs.WalkedLaws.{member_file}
use Rattle.law_sound.specs.Rule.{Files, Member, object_at, mark_at, original_at, member_at, objects, walk_in, of_walk, prelinked_in, matches}
use Rattle.law_sound.proofs.Matching.{tells_is, members_are}
use Rattle.law_sound.proofs.RuleLaws.{linked, other_is, first_is}
use Rattle.pl_tls.specs.Layout.{offsets}
use Rattle.pl_tls.specs.declared.module.Module.{Module}
use Rattle.pl_value.specs.Meanings.{meanings}
use Rattle.pl_value.specs.Ordinary.{loaded_objects, ordinary, shown_linked}
use Rattle.pl_value.specs.declared.fault.LinkFault.{LinkFault}
use Rattle.pl_value.specs.declared.meaning.Meaning.{Meaning}
use Rattle.pl_conflict.specs.Complete.{StandFor, bytes_of, file_at, files_in, originals_in, slots_in, marked_conflicts, IsProgramWalk, FilesStand, FastImagesAreOrdinary}
use Rattle.pl_conflict.specs.Format.{Causes, format, slot_at, others_in, libraries, is_fast, RuleAt}
use Rattle.pl_conflict.specs.Prelinked as prelinked
use Rattle.pl_conflict.specs.Prelinked.{Firm, firm_of, objects_of, slots_of, originals_of, walked_of, library_file, named, names_in, own_walk}
use Rattle.pl_conflict.specs.Standing.{standing_image}
use Rattle.pl_conflict.proofs.FormatLaws.{read_is, format_kept}
use Rattle.pl_conflict.proofs.MadeLaws.{program_made, program_is_form, prelinked_is, library_of, program_from}
use Rattle.pl_conflict.proofs.MemberLaws.{member_firm, firms_are, HasOwn, all_own, IsSet, program_numbers}
use Rattle.pl_conflict.proofs.SetLaws.{HasFiles, library_has, set_stands, set_fast}
use Rattle.pl_conflict.proofs.StandLaws.{IsLibraryFile}

-- ---- kinds

library_kind : (kind : Kind) → kind ≡ Library → is_library kind ≡ true
library_kind kind is = ap is_library is

program_kind : (kind : Kind) → is_program kind ≡ true → is_library kind ≡ false
program_kind Program e = refl
program_kind Library e = absurd (false≢true e)
program_kind Static e = absurd (false≢true e)

-- ---- the members of a walk

-- a name's object is that of its original
object_same : {E : Type 0} (causes : Causes E) (name : List ℕ) (g : Option (List ℕ)) (o : Object) (r : Firm) → object_at (format causes) name g ≡ Ok o → firm_of (member_at (format causes) name g) ≡ Some r → r.object ≡ o
object_same causes name None o r is firm = absurd (no_ok is)
  where
    no_ok : Err (causes.absent name) ≡ Ok o → ⊥
    no_ok e = absurd cc
object_same causes name (Some file) o r is firm =
    let f = member_firm (member_at (format causes) name (Some file)) r firm in
    let original : r.member.original ≡ original_in file = ap (λ (m : Member). m.original) f.is in
    let one : reads (original_in file) ≡ Ok r.object = subst (λ (xs : List ℕ). reads xs ≡ Ok r.object) original f.own.firm.accepted in
    let two : reads (original_in file) ≡ Ok o = read_is causes name (original_in file) o is in
    ok_same r.object o (sym one ∙ two)

pair_same : (a b : List ℕ) (x y : Object) → a ≡ b → x ≡ y → ◌≡◌ {A = List ℕ × Object} (a, x) (b, y)
pair_same a b x y e f = rw (e, f) refl

-- members with their objects are the scope of a walk
record IsScopeOf {E : Type 0} (causes : Causes E) (files : Files) (ws : Walked) (rs : List Firm) : Type 0 where
  walked : walked_of rs ≡ ws
  objects : objects_of rs ≡ scopes.objects ws
  slots : slots_of rs ≡ slots_in causes files ws
  originals : originals_of rs ≡ originals_in causes files ws
  bytes : map (λ r. file_at files r.member.name) rs ≡ files_in files ws

abbrev member_in : {E : Type 0} → Causes E → Files → List ℕ → Member
member_in causes files m = member_at (format causes) m (files m)

abbrev IsFirmIn : {E : Type 0} → Causes E → Files → Walked → List Firm → Type 0
IsFirmIn causes files ws rs = AllZip (λ m r. firm_of m ≡ Some r) (map (member_in causes files) (names ws)) rs

abbrev HasObject : {E : Type 0} → Causes E → Files → (List ℕ × Object) → Type 0
HasObject causes files p = objects (format causes) files p.0 ≡ Ok p.1

scope_of : {E : Type 0} (causes : Causes E) (files : Files) (ws : Walked) (rs : List Firm) → All (HasObject causes files) ws → IsFirmIn causes files ws rs → IsScopeOf causes files ws rs
scope_of causes files [] [] all zip = record { walked = refl; objects = refl; slots = refl; originals = refl; bytes = refl }
scope_of causes files [] (r ∷ rs) all zip = absurd zip
scope_of causes files (p ∷ ws) [] all zip = absurd zip
scope_of causes files (p ∷ ws) (r ∷ rs) all zip =
    let rest = scope_of causes files ws rs (All-tail (HasObject causes files) p ws all) zip.1 in
    let object : r.object ≡ p.1 = object_same causes p.0 (files p.0) p.1 r (All-head (HasObject causes files) p ws all) zip.0 in
    let member : r.member ≡ member_in causes files p.0 = (member_firm (member_in causes files p.0) r zip.0).is in
    let name : r.member.name ≡ p.0 = ap (λ (m : Member). m.name) member in
    record {
      walked = ap (λ (q : List ℕ × Object). q ∷ walked_of rs) (pair_same r.member.name p.0 r.object p.1 name object) ∙ ap (λ (qs : Walked). p ∷ qs) rest.walked;
      objects = ap (λ (o : Object). o ∷ objects_of rs) object ∙ ap (λ (os : List Object). p.1 ∷ os) rest.objects;
      slots = ap (λ (m : Member). m.slot ∷ slots_of rs) member ∙ ap (λ (ns : List ℕ). slot_at causes files p.0 ∷ ns) rest.slots;
      originals = ap (λ (m : Member). m.original ∷ originals_of rs) member ∙ ap (λ (os : List (List ℕ)). original_at (format causes) (files p.0) ∷ os) rest.originals;
      bytes = ap (λ (n : List ℕ). file_at files n ∷ map (λ r. file_at files r.member.name) rs) name ∙ ap (λ (bs : List (List ℕ)). file_at files p.0 ∷ bs) rest.bytes;
    }

objects_there : {E : Type 0} (causes : Causes E) (files : Files) (n : List ℕ) (ws : Walked) → walk_in (format causes) files n ≡ Ok ws → All (HasObject causes files) ws
objects_there causes files n ws walks = λ k d lt. member_file causes.walk (objects (format causes) files) n ws walks k (get_or ws k d) (slice_get-get_or ws k d lt)

-- ---- the members of a member's own walk

-- a member with a name
record IsNamed {E : Type 0} (causes : Causes E) (files : Files) (rs : List Firm) (k : List ℕ) : Type 0 where
  r : Firm
  named : named rs k ≡ Some r
  firm : firm_of (member_in causes files k) ≡ Some r

is_named : {E : Type 0} (causes : Causes E) (files : Files) (ws : Walked) (rs : List Firm) (k : List ℕ) → IsFirmIn causes files ws rs → has (names ws) k ≡ true → IsNamed causes files rs k
is_named causes files [] rs k zip there = absurd (false≢true there)
is_named causes files (p ∷ ws) [] k zip there = absurd zip
is_named causes files (p ∷ ws) (r ∷ rs) k zip there =
    let name : r.member.name ≡ p.0 = ap (λ (m : Member). m.name) (member_firm (member_in causes files p.0) r zip.0).is in
    elim (cases_Bool (bytes_eq r.member.name k)) [
      | inl hit ↦
          let same : p.0 ≡ k = sym name ∙ same_name r.member.name k hit in
          record { r = r; named = rw hit refl; firm = subst (λ (n : List ℕ). firm_of (member_in causes files n) ≡ Some r) same zip.0 }
      | inr miss ↦
          let later : has (names ws) k ≡ true = elim (has_cons p.0 k (names ws) there) [
            | inl same ↦ absurd (false≢true (sym miss ∙ subst (λ (n : List ℕ). bytes_eq r.member.name n ≡ true) (name ∙ same) (eq_refl r.member.name)))
            | inr rest ↦ rest
          ] in
          let found = is_named causes files ws rs k zip.1 later in
          record { r = found.r; named = rw miss found.named; firm = found.firm }
    ]

own_same : {E : Type 0} (causes : Causes E) (files : Files) (all : List Firm) (ks : List (List ℕ)) (ts : List Firm) → AllZip (λ m r. firm_of m ≡ Some r) (map (member_in causes files) ks) ts → ((k : List ℕ) → has ks k ≡ true → IsNamed causes files all k) → filter_map (named all) ks ≡ ts
own_same causes files all [] [] zip each = refl
own_same causes files all [] (t ∷ ts) zip each = absurd zip
own_same causes files all (k ∷ ks) [] zip each = absurd zip
own_same causes files all (k ∷ ks) (t ∷ ts) zip each =
    let found = each k (has_head k ks) in
    let same : found.r ≡ t = same_Some found.r t (sym found.firm ∙ zip.0) in
    let here : named all k ≡ Some t = found.named ∙ ap (λ (r : Firm). Some r) same in
    ap (λ (o : Option Firm). cons_option o (filter_map (named all) ks)) here ∙ ap (λ (rs : List Firm). t ∷ rs) (own_same causes files all ks ts zip.1 (λ m there. each m (has_tail k m ks there)))

-- ---- what is known of a name whose list matches

record IsMatched {E : Type 0} (causes : Causes E) (files : Files) (n : List ℕ) (walked : Walked) : Type 0 where
  walks : walk_in (format causes) files n ≡ Ok walked
  linked : (o : Object) → objects (format causes) files n ≡ Ok o → IsLinked o.kind
  file : List ℕ
  there : files n ≡ Some file
  marked : (m : List ℕ) → has (others walked) m ≡ true → is_some (mark_at (format causes) (files m)) ≡ true
  rule : (m : List ℕ) → has (names walked) m ≡ true → prelinked_in (format causes) files m ≡ files m

matched : {E : Type 0} (causes : Causes E) (files : Files) (n : List ℕ) (walked : Walked) → RuleAt causes files n → walk_in (format causes) files n ≡ Ok walked → matches (format causes) files n ≡ true → IsMatched causes files n walked
matched causes files n walked rule walks match =
    let h = tells_is (format causes) files n match in
    let same : h.walked ≡ walked = ok_same h.walked walked (sym h.walks ∙ walks) in
    record {
      walks = walks;
      linked = linked (format causes) (format_kept causes) files n h.file h.mark h.there h.marked;
      file = h.file;
      there = h.there;
      marked = subst (λ (ws : Walked). (m : List ℕ) → has (others ws) m ≡ true → is_some (mark_at (format causes) (files m)) ≡ true) same h.each;
      rule = λ m there. rule m match (ap (λ (ns : List (List ℕ)). has ns m) (members_are (format causes) files n walked walks) ∙ there);
    }

-- a file with a mark is there
file_there : {E : Type 0} (causes : Causes E) (g : Option (List ℕ)) → is_some (mark_at (format causes) g) ≡ true → (file : List ℕ) × (g ≡ Some file)
file_there causes None some = absurd (false≢true some)
file_there causes (Some file) some = (file, refl)

-- the walk of a name, and what its members prelink
record IsPrelinkedIn {E : Type 0} (causes : Causes E) (files : Files) (m : List ℕ) (inner : Walked) (file : List ℕ) : Type 0 where
  r : Firm
  rs : List Firm
  firms : IsFirmIn causes files inner (r ∷ rs)
  set : IsSet r rs
  made : prelinked.file_of (r ∷ rs) ≡ Some file
  small : length file ≤ STORED

prelinked_here : {E : Type 0} (causes : Causes E) (files : Files) (m : List ℕ) (inner : Walked) (file : List ℕ) → walk_in (format causes) files m ≡ Ok inner → prelinked_in (format causes) files m ≡ Some file → IsPrelinkedIn causes files m inner file
prelinked_here causes files m inner file walks is =
    let begins : WalkTells (objects (format causes) files) m inner = walk_is causes.walk (objects (format causes) files) m inner walks in
    let made : prelinked.prelinked (map (member_in causes files) (names inner)) ≡ Some file = sym (ap (of_walk (format causes) (member_in causes files)) walks) ∙ is in
    let first : prelinked.prelinked (member_in causes files m ∷ map (member_in causes files) (names begins.rest)) ≡ Some file = subst (λ (ws : Walked). prelinked.prelinked (map (member_in causes files) (names ws)) ≡ Some file) begins.is made in
    let p = prelinked_is (member_in causes files m) (map (member_in causes files) (names begins.rest)) file first in
    record { r = p.r; rs = p.rs; firms = subst (λ (ws : Walked). IsFirmIn causes files ws (p.r ∷ p.rs)) (sym begins.is) p.firms; set = p.set; made = p.is; small = p.small }

-- ---- a library of the walk

-- the file of another member is its own, by the members of its own walk
record IsOwnFile (files : Files) (all : List Firm) (t : Firm) : Type 0 where
  library : is_library t.object.kind ≡ true
  file : IsLibraryFile t.member.slot (file_at files t.member.name) t.member.original t.object
  part : prelinked.part_of all t ≡ file_at files t.member.name

own_walk_is : {E : Type 0} (causes : Causes E) (files : Files) (walked inner : Walked) (all ts : List Firm) (m : List ℕ) → walked_of all ≡ walked → walk_over (told walked) m ≡ Ok inner → IsFirmIn causes files walked all → IsFirmIn causes files inner ts
    → ((k : List ℕ) → has (names inner) k ≡ true → has (names walked) k ≡ true) → own_walk all m ≡ ts
unfolding own_walk
own_walk_is causes files walked inner all ts m same over firms own subset =
    ap (λ (ws : Walked). filter_map (named all) (names_in (walk_over (told ws) m))) same
    ∙ ap (λ (r : Result Walked WalkFault). filter_map (named all) (names_in r)) over
    ∙ own_same causes files all (names inner) ts own (λ k there. is_named causes files walked all k firms (subset k there))

first_same : {E : Type 0} (causes : Causes E) (files : Files) (m : List ℕ) (inner : Walked) (t r : Firm) (rs : List Firm) → WalkTells (objects (format causes) files) m inner → firm_of (member_in causes files m) ≡ Some t → IsFirmIn causes files inner (r ∷ rs) → r ≡ t
first_same causes files m inner t r rs begins firm own =
    let whole : IsFirmIn causes files ((m, begins.object) ∷ begins.rest) (r ∷ rs) = subst (λ (ws : Walked). IsFirmIn causes files ws (r ∷ rs)) begins.is own in
    same_Some r t (sym whole.0 ∙ firm)

part_by : (all : List Firm) (t : Firm) → is_library t.object.kind ≡ true → prelinked.part_of all t ≡ library_file (own_walk all t.member.name)
unfolding prelinked.part_of
part_by all t library = rw library refl

own_file : {E : Type 0} (causes : Causes E) (files : Files) (n : List ℕ) (walked : Walked) (all : List Firm) (h : IsMatched causes files n walked) (begins : WalkTells (objects (format causes) files) n walked) → walked_of all ≡ walked → IsFirmIn causes files walked all
    → (m : List ℕ) (t : Firm) → has (others walked) m ≡ true → firm_of (member_in causes files m) ≡ Some t → IsOwnFile files all t
own_file causes files n walked all h begins same firms m t other firm =
    let f = format causes in
    let inside : has (names walked) m ≡ true = other_is (objects f files) n m walked begins other in
    let told_walk = member_told causes.walk (objects f files) n m walked h.walks h.linked inside in
    let member = member_walk causes.walk (objects f files) n m walked h.walks h.linked inside in
    let inner_same : member.walked ≡ told_walk.inner = ok_same member.walked told_walk.inner (sym member.walks ∙ told_walk.walks) in
    let g = file_there causes (files m) (h.marked m other) in
    let own = prelinked_here causes files m told_walk.inner g.0 told_walk.walks (h.rule m inside ∙ g.1) in
    let inner_begins = walk_is causes.walk (objects f files) m told_walk.inner told_walk.walks in
    let first : own.r ≡ t = first_same causes files m told_walk.inner t own.r own.rs inner_begins firm own.firms in
    let made = member_firm (member_in causes files m) t firm in
    let name : t.member.name ≡ m = ap (λ (x : Member). x.name) made.is in
    let found = walk_there causes.walk (objects f files) n walked h.walks m inside in
    let object : objects f files m ≡ Ok t.object = found.1 ∙ ap (λ (o : Object). Ok o) (sym (object_same causes m (files m) found.0 t found.1 firm)) in
    let library : is_library t.object.kind ≡ true =
    library_kind t.object.kind (begins.libraries m t.object (subst (λ (ws : Walked). has (others ws) m ≡ true) begins.is other) object) in
    let file_is : file_at files t.member.name ≡ g.0 = ap (file_at files) name ∙ ap bytes_of g.1 in
    let own_library : is_library own.r.object.kind ≡ true = subst (λ (x : Firm). is_library x.object.kind ≡ true) (sym first) library in
    let bytes : library_file (own.r ∷ own.rs) ≡ g.0 = library_of own.r own.rs g.0 own_library own.made in
    let whole : own_walk all t.member.name ≡ own.r ∷ own.rs =
    ap (own_walk all) name ∙ own_walk_is causes files walked told_walk.inner all (own.r ∷ own.rs) m same told_walk.over firms own.firms (subst (λ (ws : Walked). (k : List ℕ) → has (names ws) k ≡ true → has (names walked) k ≡ true) inner_same member.subset) in
    let has_own : HasOwn own.r = subst HasOwn (sym first) made.own in
    let kept : IsLibraryFile own.r.member.slot g.0 own.r.member.original own.r.object = library_has own.r own.rs g.0 has_own own.set.first own_library own.small bytes in
    record {
      library = library;
      file = subst (λ (xs : List ℕ). IsLibraryFile t.member.slot xs t.member.original t.object) (sym file_is) (subst (λ (x : Firm). IsLibraryFile x.member.slot g.0 x.member.original x.object) first kept);
      part = part_by all t library ∙ ap library_file whole ∙ bytes ∙ sym file_is;
    }

-- ---- the libraries of the walk

own_files : {E : Type 0} (causes : Causes E) (files : Files) (all : List Firm) (ws : Walked) (rs : List Firm) → IsFirmIn causes files ws rs → ((m : List ℕ) (t : Firm) → has (names ws) m ≡ true → firm_of (member_in causes files m) ≡ Some t → IsOwnFile files all t)
    → All (IsOwnFile files all) rs
own_files causes files all [] [] zip each = All-nil (IsOwnFile files all)
own_files causes files all [] (r ∷ rs) zip each = absurd zip
own_files causes files all (p ∷ ws) [] zip each = absurd zip
own_files causes files all (p ∷ ws) (r ∷ rs) zip each =
    All-cons (IsOwnFile files all) r rs (each p.0 r (has_head p.0 (names ws)) zip.0) (own_files causes files all ws rs zip.1 (λ m t there. each m t (has_tail p.0 m (names ws) there)))

own_parts : (files : Files) (all rs : List Firm) → All (IsOwnFile files all) rs → map (prelinked.part_of all) rs ≡ map (λ r. file_at files r.member.name) rs
own_parts files all [] own = refl
own_parts files all (r ∷ rs) own =
    let first = All-head (IsOwnFile files all) r rs own in
    let rest = own_parts files all rs (All-tail (IsOwnFile files all) r rs own) in
    ap (λ (xs : List ℕ). xs ∷ map (prelinked.part_of all) rs) first.part ∙ ap (λ (ys : List (List ℕ)). file_at files r.member.name ∷ ys) rest

-- ---- the program and its libraries

-- the files of a walk, as those of a set
record IsFolderSet {E : Type 0} (causes : Causes E) (files : Files) (n : List ℕ) (walked : Walked) : Type 0 where
  r : Firm
  rs : List Firm
  file : List ℕ
  there : file_at files n ≡ file
  name : r.member.name ≡ n
  slot : slot_at causes files n ≡ r.member.slot
  scope : IsScopeOf causes files walked (r ∷ rs)
  held : HasFiles r rs file (λ t. file_at files t.member.name)

folder_set : {E : Type 0} (causes : Causes E) (files : Files) (n : List ℕ) (walked : Walked) (modules : List Module) → IsMatched causes files n walked → IsProgramWalk causes files n walked modules → IsFolderSet causes files n walked
folder_set causes files n walked modules h w =
    let f = format causes in
    let begins = walk_is causes.walk (objects f files) n walked h.walks in
    let inside : has (names walked) n ≡ true = first_is (objects f files) n walked begins in
    let own = prelinked_here causes files n walked h.file h.walks (h.rule n inside ∙ h.there) in
    let all = own.r ∷ own.rs in
    let zip = firms_are (map (member_in causes files) (names walked)) all own.firms in
    let has_own : All HasOwn all = all_own (map (member_in causes files) (names walked)) all zip in
    let scope = scope_of causes files walked all (objects_there causes files n walked h.walks) own.firms in
    let split : IsFirmIn causes files ((n, begins.object) ∷ begins.rest) all = subst (λ (ws : Walked). IsFirmIn causes files ws all) begins.is own.firms in
    let member = (member_firm (member_in causes files n) own.r split.0).is in
    let program : is_program own.r.object.kind ≡ true = subst (λ (os : List Object). is_program (get_or os 0 own.r.object).kind ≡ true) (sym scope.objects) (w.program own.r.object) in
    let other : is_library own.r.object.kind ≡ false = program_kind own.r.object.kind program in
    let each : All (IsOwnFile files all) own.rs =
    own_files causes files all begins.rest own.rs split.1 (λ m t there firm. own_file causes files n walked all h begins scope.walked own.firms m t (subst (λ (ws : Walked). has (others ws) m ≡ true) (sym begins.is) there) firm) in
    record {
      r = own.r;
      rs = own.rs;
      file = h.file;
      there = ap bytes_of h.there;
      name = ap (λ (m : Member). m.name) member;
      slot = ap (λ (m : Member). m.slot) (sym member);
      scope = scope;
      held = record {
        own = has_own;
        set = own.set;
        other = other;
        libraries = λ k d lt. (each k d lt).library;
        made = program_from own.r own.rs h.file other own.made;
        small = own.small;
        files = λ k d lt. (each k d lt).file;
        parts = own_parts files all own.rs each;
      };
    }

files_same : {E : Type 0} (causes : Causes E) (files : Files) (n : List ℕ) (walked : Walked) (s : IsFolderSet causes files n walked) → s.file ∷ map (λ t. file_at files t.member.name) s.rs ≡ files_in files walked
files_same causes files n walked s =
    ap (λ (xs : List ℕ). xs ∷ map (λ t. file_at files t.member.name) s.rs) (sym (ap (file_at files) s.name ∙ s.there)) ∙ s.scope.bytes

modules_same : {E : Type 0} (causes : Causes E) (files : Files) (n : List ℕ) (walked : Walked) (modules : List Module) (s : IsFolderSet causes files n walked) → IsProgramWalk causes files n walked modules → s.held.made.modules ≡ modules
modules_same causes files n walked modules s w =
    ok_same s.held.made.modules modules (sym (subst (λ (os : List Object). offsets (map (λ o. o.tls) os) ≡ Ok s.held.made.modules) s.scope.objects s.held.made.numbered) ∙ w.numbered)

set_given : {E : Type 0} (causes : Causes E) (files : Files) (n : List ℕ) (walked : Walked) (modules : List Module) (s : IsFolderSet causes files n walked) → IsProgramWalk causes files n walked modules → meanings (objects_of (s.r ∷ s.rs)) (slots_of (s.r ∷ s.rs)) modules ≡ Ok s.held.made.gs
set_given causes files n walked modules s w =
    subst (λ (ms : List Module). meanings (objects_of (s.r ∷ s.rs)) (slots_of (s.r ∷ s.rs)) ms ≡ Ok s.held.made.gs) (modules_same causes files n walked modules s w) s.held.made.given

walk_given : {E : Type 0} (causes : Causes E) (files : Files) (n : List ℕ) (walked : Walked) (modules : List Module) (s : IsFolderSet causes files n walked) → IsProgramWalk causes files n walked modules → meanings (scopes.objects walked) (slots_in causes files walked) modules ≡ Ok s.held.made.gs
walk_given causes files n walked modules s w =
    subst (λ (ss : List ℕ). meanings (scopes.objects walked) ss modules ≡ Ok s.held.made.gs) s.scope.slots
    (subst (λ (os : List Object). meanings os (slots_of (s.r ∷ s.rs)) modules ≡ Ok s.held.made.gs) s.scope.objects (set_given causes files n walked modules s w))

pub files_stand : {E : Type 0} → FilesStand E
files_stand causes files n walked modules gs rule w match given =
    let s = folder_set causes files n walked modules (matched causes files n walked rule w.walks match) w in
    let same : s.held.made.gs ≡ gs = ok_same s.held.made.gs gs (sym (walk_given causes files n walked modules s w) ∙ given) in
    let all = s.r ∷ s.rs in
    let stood : StandFor (originals_of all) (s.file ∷ map (λ t. file_at files t.member.name) s.rs) (objects_of all) (slots_of all) s.held.made.gs = set_stands s.r s.rs s.file (λ t. file_at files t.member.name) s.held in
    subst (λ (hs : List Meaning). StandFor (originals_in causes files walked) (files_in files walked) (scopes.objects walked) (slots_in causes files walked) hs) same
    (subst (λ (ss : List ℕ). StandFor (originals_in causes files walked) (files_in files walked) (scopes.objects walked) ss s.held.made.gs) s.scope.slots
    (subst (λ (os : List Object). StandFor (originals_in causes files walked) (files_in files walked) os (slots_of all) s.held.made.gs) s.scope.objects
    (subst (λ (bs : List (List ℕ)). StandFor (originals_in causes files walked) bs (objects_of all) (slots_of all) s.held.made.gs) (files_same causes files n walked s)
    (subst (λ (os : List (List ℕ)). StandFor os (s.file ∷ map (λ t. file_at files t.member.name) s.rs) (objects_of all) (slots_of all) s.held.made.gs) s.scope.originals stood))))

-- ---- placed where the files stand

number_same : (a b : ℕ) → Decides (nat_eq a b) (a ≡ b)
number_same a b = (λ h. equal h, λ e. itself e)
  where
    equal : nat_eq a b ≡ true → a ≡ b
    equal h = grind (arith, nat_tests)

    itself : a ≡ b → nat_eq a b ≡ true
    itself e = grind (arith, nat_tests)

places_head : (places : List ℕ) → 0 < length places → slice_index_or places 0 0 ≡ 0 → places ≡ 0 ∷ drop 1 places
places_head [] some first = absurd (omega (arith, some))
places_head (p ∷ ps) some first = ap (λ (n : ℕ). n ∷ ps) first

fast_parts : {E : Type 0} (causes : Causes E) (files : Files) (n : List ℕ) (walked : Walked) (places : List ℕ) → walk_in (format causes) files n ≡ Ok walked → is_fast causes files n places ≡ true
    → (matches (format causes) files n ≡ true) × (drop 1 places ≡ map (slot_at causes files) (others walked))
unfolding is_fast
fast_parts causes files n walked places walks fast =
    let p = and_parts (matches (format causes) files n) (pointwise nat_eq (drop 1 places) (map (slot_at causes files) (libraries causes files n))) fast in
    let same : drop 1 places ≡ map (slot_at causes files) (libraries causes files n) =
    (slice_eq-Decides number_same (drop 1 places) (map (slot_at causes files) (libraries causes files n)) (pointwise nat_eq (drop 1 places) (map (slot_at causes files) (libraries causes files n))) refl).0 p.1 in
    (p.0, same ∙ ap (λ (r : Result Walked _). map (slot_at causes files) (others_in r)) walks)

places_are : {E : Type 0} (causes : Causes E) (files : Files) (n : List ℕ) (walked : Walked) (places : List ℕ) (begins : WalkTells (objects (format causes) files) n walked) → slot_at causes files n ≡ 0 → slice_index_or places 0 0 ≡ 0 → length places ≡ length walked
    → drop 1 places ≡ map (slot_at causes files) (others walked) → places ≡ slots_in causes files walked
places_are causes files n walked places begins slot first one_each later =
    let some : 0 < length places = omega (arith, one_each, ap length begins.is) in
    let rest : drop 1 places ≡ map (slot_at causes files) (names begins.rest) = later ∙ ap (λ (ws : Walked). map (slot_at causes files) (others ws)) begins.is in
    places_head places some first ∙ ap (λ (ns : List ℕ). 0 ∷ ns) rest ∙ ap (λ (k : ℕ). k ∷ map (slot_at causes files) (names begins.rest)) (sym slot) ∙ sym (ap (slots_in causes files) begins.is)

-- ---- the image

-- an ordinary image, with the files' as they stand
record IsImage (objects : List Object) (originals files : List (List ℕ)) (places : List ℕ) (modules : List Module) (rows : List ConflictRow) : Type 0 where
  memory : Memory
  ordinary : ordinary objects originals places modules ≡ Ok memory
  same : (a : ℕ) → byte_of (standing_image places files objects rows) a ≡ memory a

set_image : (r : Firm) (rs : List Firm) (file : List ℕ) (g : Firm → List ℕ) (modules : List Module) (h : HasFiles r rs file g) → meanings (objects_of (r ∷ rs)) (slots_of (r ∷ rs)) modules ≡ Ok h.made.gs
    → IsImage (objects_of (r ∷ rs)) (originals_of (r ∷ rs)) (file ∷ map g rs) (slots_of (r ∷ rs)) modules h.made.rows
unfolding ordinary
set_image r rs file g modules h given = record {
  memory = shown_linked (loaded_objects (slots_of (r ∷ rs)) (originals_of (r ∷ rs)) (objects_of (r ∷ rs))) h.made.gs;
  ordinary = ap (λ (m : Result (List Meaning) LinkFault). m >>= λ gs. Ok (shown_linked (loaded_objects (slots_of (r ∷ rs)) (originals_of (r ∷ rs)) (objects_of (r ∷ rs))) gs)) given;
  same = set_fast r rs file g h;
}

rows_are : (r : Firm) (rs : List Firm) (file : List ℕ) (g : Firm → List ℕ) (h : HasFiles r rs file g) → marked_conflicts (marked_in file) ≡ h.made.rows
unfolding program_made
rows_are r rs file g h =
    let form : IsFormOf file (program_made r rs h.made.rows) = program_is_form r rs file h.made h.own h.other h.set h.small in
    ap marked_conflicts (forms_are_read file (program_made r rs h.made.rows) (forms_are_bytes file (program_made r rs h.made.rows) form) form)

pub fast_images : {E : Type 0} → FastImagesAreOrdinary E
fast_images causes files n walked modules places rule w first one_each fast =
    let p = fast_parts causes files n walked places w.walks fast in
    let h = matched causes files n walked rule w.walks p.0 in
    let s = folder_set causes files n walked modules h w in
    let all = s.r ∷ s.rs in
    let begins = walk_is causes.walk (objects (format causes) files) n walked w.walks in
    let slot : slot_at causes files n ≡ 0 = s.slot ∙ (program_numbers s.r s.held.set.first s.held.other).0 in
    let placed : places ≡ slots_in causes files walked = places_are causes files n walked places begins slot first one_each p.1 in
    let image : IsImage (objects_of all) (originals_of all) (s.file ∷ map (λ t. file_at files t.member.name) s.rs) (slots_of all) modules s.held.made.rows =
    set_image s.r s.rs s.file (λ t. file_at files t.member.name) modules s.held (set_given causes files n walked modules s w) in
    let rows : s.held.made.rows ≡ marked_conflicts (marked_in (file_at files n)) = sym (ap (λ (xs : List ℕ). marked_conflicts (marked_in xs)) s.there ∙ rows_are s.r s.rs s.file (λ t. file_at files t.member.name) s.held) in
    let whole : IsImage (scopes.objects walked) (originals_in causes files walked) (files_in files walked) places modules (marked_conflicts (marked_in (file_at files n))) =
    subst (λ (cs : List ConflictRow). IsImage (scopes.objects walked) (originals_in causes files walked) (files_in files walked) places modules cs) rows
    (subst (λ (ss : List ℕ). IsImage (scopes.objects walked) (originals_in causes files walked) (files_in files walked) ss modules s.held.made.rows) (s.scope.slots ∙ sym placed)
    (subst (λ (os : List Object). IsImage os (originals_in causes files walked) (files_in files walked) (slots_of all) modules s.held.made.rows) s.scope.objects
    (subst (λ (bs : List (List ℕ)). IsImage (objects_of all) (originals_in causes files walked) bs (slots_of all) modules s.held.made.rows) (files_same causes files n walked s)
    (subst (λ (os : List (List ℕ)). IsImage (objects_of all) os (s.file ∷ map (λ t. file_at files t.member.name) s.rs) (slots_of all) modules s.held.made.rows) s.scope.originals image)))) in
    (whole.memory, whole.ordinary, whole.same)
