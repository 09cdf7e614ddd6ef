-- The libraries of a program's walk, with what is told of them.
use Rattle.std.proofs.Common.{◌≡◌, ℕ, zero, suc, ◌+◌, ◌<◌, true, false, List, [], ◌∷◌, length, get_or, Some, Ok, refl, sym, ap, subst, ◌∙◌, arith}
use Rattle.std.specs.Prelude.{slice_get}
use Rattle.std.specs.List.{All}
use Rattle.std.specs.Option.{option_map}
use Rattle.std.proofs.lemmas.Option.{get_or_from_slice_get, none-some, same_Some, slice_get_within, slice_get-map}
use Rattle.pl_base.proofs.AnswerLaws.{ok_same}
use Rattle.pl_cone.specs.OneWord.{GivesOneWordBy}
use Rattle.pl_cone.specs.Links.{AreRemaining}
use Rattle.pl_cone.specs.Links as links
use Rattle.pl_cone.specs.Needs.{object_for}
use Rattle.pl_cone.specs.Skipped.{skip_causes}
use Rattle.pl_cone.specs.Table.{walk_for, walked_by}
use Rattle.pl_cone.specs.Taken.{files_in, object_by, object_of}
use Rattle.pl_cone.specs.WalkRows.{GivesOneWordAt, HasOwnWalk}
use Rattle.pl_cone.specs.declared.linking.Link.{Link}
use Rattle.pl_cone.specs.declared.taken.Taken.{Taken}
use Rattle.pl_cone.specs.declared.scopes.WalkLinking.{WalkLinking}
use Rattle.pl_cone.proofs.FolderLaws.{member_has}
use Rattle.pl_cone.proofs.NeedLaws.{slice_get_at}
use Rattle.pl_cone.proofs.RowLaws.{IsRow, row_is}
use Rattle.pl_cone.proofs.WalkRowLaws.{one_word_at}
use Rattle.pl_conflict.specs.Format.{format}
use Rattle.pl_conflict.specs.Prelinked as firm
use Rattle.pl_conflict.specs.Prelinked.{Firm, are_set, library_file, objects_of, own_walk, parts_of, slots_of}
use Rattle.pl_elf.specs.Kinds.{is_library}
use Rattle.pl_form.specs.declared.file.Entry.{Entry}
use Rattle.pl_form.specs.declared.file.Entry.TheVariants.{There, BadMark, Refused}
use Rattle.pl_image.specs.Loads.{IsPlaced, loaded_at}
use Rattle.pl_image.specs.declared.loaded_object.LoadedObject.{LoadedObject}
use Rattle.pl_object.specs.declared.object.Object.{Object}
use Rattle.pl_object.specs.declared.reloc.Reloc.{Reloc}
use Rattle.pl_scope.specs.Members.{IsLinked, has, names}
use Rattle.pl_scope.specs.Scope.{objects}
use Rattle.pl_scope.specs.Walk.{Walked}
use Rattle.pl_tls.specs.declared.module.Module.{Module}
use Rattle.pl_value.specs.Ordinary as ordinary
use Rattle.pl_value.specs.Ordinary.{loaded_from, loaded_objects}
use Rattle.pl_value.specs.Targets.{base_of}
use Rattle.pl_value.specs.Values.{relocations_in, value_of}
use Rattle.pl_value.specs.declared.word.Word.{Word}
use Rattle.law_sound.specs.Rule as sound
use Rattle.pl_rewrite.specs.Contents.{IsHeldRow, IsLinkingOfRow, IsProgramRow, IsWork}
use Rattle.pl_rewrite.specs.Fills.{IsProgramSet}
use Rattle.pl_rewrite.specs.Held.{AreHeld}
use Rattle.pl_rewrite.specs.RemainingRows.{AreAllTold, TellsHeldOf, told_at, told_of}
use Rattle.pl_rewrite.specs.Forms.{IsLibraryWalk}
use Rattle.pl_rewrite.specs.Rows.{IsNumbered, IsWalkRow, firms_of, number_at, of_firm, places_of, walk_of}
use Rattle.pl_rewrite.specs.RowWords.{IsLinkAt, own_words_at}
use Rattle.pl_rewrite.specs.Sources.{AreSources, AreVersionsOf, versioned}
use Rattle.pl_rewrite.specs.declared.row_words.HeldWord.{HeldWord}
use Rattle.pl_rewrite.specs.declared.numbers.Numbered.{Numbered}
use Rattle.pl_rewrite.specs.declared.program.Work.{Work}
use Rattle.pl_rewrite.specs.declared.row_words.RowWords.{RowWords}
use Rattle.pl_rewrite.proofs.ContentRowLaws.{Holds}
use Rattle.pl_rewrite.proofs.FirmRowLaws.{firm_objects, firm_slots, firms_named, named_of}
use Rattle.pl_rewrite.proofs.LaterMemberLaws.{IsLater, first_linked, later, later_kind, later_row, same_name}
use Rattle.pl_rewrite.proofs.MemberFormLaws.{later_walk}
use Rattle.pl_rewrite.proofs.NewLibraryLaws.{IsFirst, first_is}
use Rattle.pl_rewrite.proofs.NumberedLaws.{has_walk, walk_is}
use Rattle.pl_rewrite.proofs.OwnWalkLaws.{own_walk_is}
use Rattle.pl_rewrite.proofs.ProgramLaws.{originals_placed}
use Rattle.pl_rewrite.proofs.QuietLaws.{IsOwnForm}
use Rattle.pl_rewrite.proofs.RowWordLaws.{link_of}
use Rattle.pl_rewrite.proofs.SceneLaws.{IsMemberAt, member_at}
use Rattle.pl_rewrite.proofs.ToldLaws.{IsLibraryAt, are_told, library_tells}
use Rattle.pl_rewrite.proofs.VersionLaws.{HasVersion, firms_in_two, form_versions, member_versions, own_versions}
use Rattle.pl_rewrite.proofs.WholeLaws.{whole_program}

-- ---- what is loaded of a member

loaded_there : (places : List ℕ) (parts : List (List ℕ)) (from m : ℕ) (os : List Object) (o : Object) → slice_get os m ≡ Some o → slice_get (loaded_from places parts from os) m ≡ Some (loaded_at (base_of places (from + m)) (ordinary.part_of parts (from + m)) o)
unfolding loaded_from
loaded_there places parts from m [] o at = absurd (none-some o at)
loaded_there places parts from zero (p ∷ os) o at =
    let same : from ≡ from + 0 = omega arith in
    ap (λ (q : Object). Some (loaded_at (base_of places from) (ordinary.part_of parts from) q)) (same_Some p o at) ∙ ap (λ (k : ℕ). Some (loaded_at (base_of places k) (ordinary.part_of parts k) o)) same
loaded_there places parts from (suc m) (p ∷ os) o at =
    let same : (from + 1) + m ≡ from + suc m = omega arith in
    loaded_there places parts (from + 1) m os o at ∙ ap (λ (k : ℕ). Some (loaded_at (base_of places k) (ordinary.part_of parts k) o)) same

pub loaded_member : (places : List ℕ) (parts : List (List ℕ)) (m : ℕ) (os : List Object) (o : Object) → slice_get os m ≡ Some o → slice_get (loaded_objects places parts os) m ≡ Some (loaded_at (base_of places m) (ordinary.part_of parts m) o)
loaded_member places parts m os o at =
    let same : 0 + m ≡ m = omega arith in
    loaded_there places parts 0 m os o at ∙ ap (λ (k : ℕ). Some (loaded_at (base_of places k) (ordinary.part_of parts k) o)) same

-- ---- the file of a member

part_library : (rs : List Firm) (r : Firm) → is_library r.object.kind ≡ true → firm.part_of rs r ≡ library_file (own_walk rs r.member.name)
unfolding firm.part_of
part_library rs r library = rw library refl

part_at : (rs : List Firm) (m : ℕ) (r : Firm) → slice_get rs m ≡ Some r → ordinary.part_of (parts_of rs) m ≡ firm.part_of rs r
part_at rs m r at = get_or_from_slice_get (parts_of rs) m (firm.part_of rs r) [] (slice_get-map (firm.part_of rs) rs m ∙ ap (option_map (firm.part_of rs)) at)

pub object_known : (n : List ℕ) (e : Entry) (o : Object) → object_by e ≡ Some o → object_for n e ≡ Ok o
object_known n (There file) o is = ap (λ (p : Object). Ok p) (same_Some (object_of file) o is)
object_known n BadMark o is = absurd (none-some o is)
object_known n (Refused number argument) o is = absurd (none-some o is)

-- the object that a folder has of a name is that of its row
object_linked : (n : Numbered) (row : ℕ) → IsNumbered n → (h : HasOwnWalk n.files.now n.walks.now row) → IsLinked h.object.kind → (o : Object) → sound.objects (format skip_causes) (files_in n.files.now) h.taken.name ≡ Ok o → IsLinked o.kind
object_linked n row numbered h linked o is =
    let known : IsRow numbered.taken.0 n.files.now h.taken = row_is numbered.taken.0 n.files.now row h.taken numbered.taken.1 h.file in
    let same : h.object ≡ o = ok_same h.object o (sym (known.object ∙ object_known h.taken.name h.taken.entry h.object h.there) ∙ is) in
    subst (λ (p : Object). IsLinked p.kind) same linked

pub told_walk : (n : Numbered) (row : ℕ) → (h : HasOwnWalk n.files.now n.walks.now row) → walk_for n.files.now h.taken.name ≡ Ok (walked_by n.files.now (walk_of n row))
told_walk n row h = h.told ∙ ap (λ (rs : List ℕ). Ok (walked_by n.files.now rs)) (sym (walk_is n row h))

-- the own walk of a later member is that of its row
own_later : (n : Numbered) (row m : ℕ) (o : Object) → IsNumbered n → (walk : IsWalkRow n row) → (x : IsLater n row m o) → IsWalkRow n x.number → own_walk (firms_of n row) x.firm.member.name ≡ firms_of n x.number
own_later n row m o numbered walk x inner =
    let h : HasOwnWalk n.files.now n.walks.now row = has_walk n row numbered walk in
    let name : x.library.own.taken.name ≡ x.firm.member.name = same_name n x.number x.firm x.library.own x.is in
    let named : slice_get (walked_by n.files.now (walk_of n row)) m ≡ Some (x.firm.member.name, x.firm.object) =
    ap (λ (ws : Walked). slice_get ws m) (sym (firms_named n row)) ∙ (slice_get-map named_of (firms_of n row) m ∙ ap (option_map named_of) x.at) in
    let some : has (names (walked_by n.files.now (walk_of n row))) x.firm.member.name ≡ true = member_has (walked_by n.files.now (walk_of n row)) m x.firm.member.name (record { object = x.firm.object; at = named }) in
    let own : walk_for n.files.now x.firm.member.name ≡ Ok (walked_by n.files.now (walk_of n x.number)) = ap (walk_for n.files.now) (sym name) ∙ told_walk n x.number x.library.own in
    own_walk_is skip_causes n row x.number h.taken.name x.firm.member.name numbered.taken.1.distinct walk.rows inner.rows (told_walk n row h) own (λ p e. object_linked n row numbered h (first_linked n row walk h) p e) some

-- ---- a later member, with what is told of it

module _ (w : Work) (row : ℕ) (l : WalkLinking) (work : IsWork w) (program : IsProgramRow w row) (linking : IsLinkingOfRow w row l) (set : are_set (firms_of w.numbered.now row) ≡ true) (ss : List Firm) (are : AreVersionsOf (firms_of w.numbered.now row) ss) where
  abbrev n : Numbered
  n = w.numbered.now

  abbrev rs : List Firm
  rs = firms_of w.numbered.now row

  -- the files with which the members are compared, each in its version
  abbrev files : List LoadedObject
  files = loaded_objects l.places.now (parts_of ss) (links.objects_of l)

  first : IsFirst n row
  first = first_is n row program.walk

  other : is_library first.firm.object.kind ≡ false
  other = sym (ap (of_firm false (λ (r : Firm). is_library r.object.kind)) first.at) ∙ program.program

  pub whole : IsProgramSet rs
  whole = whole_program rs first.firm first.others first.is set other

  -- the walk that is linked holds the members at their slots
  pub holds : Holds l rs
  holds = record {
    objects = ap objects linking.scope ∙ firm_objects n row;
    places = linking.places ∙ sym (firm_slots n row program.walk.rows);
  }

  -- a library is placed at its slot
  placed_at : (m : ℕ) (o : Object) → (x : IsLater n row m o) → IsPlaced x.firm.member.slot x.firm.object
  placed_at m o x =
      let member : IsMemberAt rs m x.firm = member_at rs m x.firm x.at in
      let lt : m < length (objects_of rs) = slice_get_within (objects_of rs) m x.firm.object member.object in
      let placed : IsPlaced (base_of (slots_of rs) m) (get_or (objects_of rs) m x.firm.object) = (originals_placed rs program.walk.sources whole).placed m x.firm.object lt in
      let object : get_or (objects_of rs) m x.firm.object ≡ x.firm.object = get_or_from_slice_get (objects_of rs) m x.firm.object x.firm.object member.object in
      subst (λ (b : ℕ). IsPlaced b x.firm.object) member.place (subst (λ (p : Object). IsPlaced (base_of (slots_of rs) m) p) object placed)

  -- its own walk, in those versions
  own_there : (m : ℕ) (o : Object) → (x : IsLater n row m o) → IsWalkRow n x.number → AreVersionsOf (firms_of n x.number) (own_walk ss x.firm.member.name)
  own_there m o x inner = subst (λ (ms : List Firm). AreVersionsOf ms (own_walk ss x.firm.member.name)) (own_later n row m o work.numbered program.walk x inner) (own_versions rs ss x.firm.member.name are)

  -- and it gives its form
  form_of : (m : ℕ) (o : Object) → (x : IsLater n row m o) → (inner : IsWalkRow n x.number)
      → IsOwnForm (objects_of (firms_of n x.number)) (slots_of (firms_of n x.number)) x.firm.member.original (library_file (own_walk ss x.firm.member.name)) x.firm.object x.firm.member.slot
  form_of m o x inner =
      let f : IsFirst n x.number = first_is n x.number inner in
      let same : f.firm ≡ x.firm = same_Some f.firm x.firm (sym f.at ∙ x.is) in
      let file : List ℕ = library_file (own_walk ss x.firm.member.name) in
      let sources : AreSources (f.firm ∷ f.others) = subst AreSources f.is inner.sources in
      let walk : IsLibraryWalk (f.firm ∷ f.others) = subst IsLibraryWalk f.is (later_walk n row m o work.numbered program.walk first other set x inner) in
      let placed : IsPlaced f.firm.member.slot f.firm.object = subst (λ (y : Firm). IsPlaced y.member.slot y.object) (sym same) (placed_at m o x) in
      let versions : AreVersionsOf (f.firm ∷ f.others) (own_walk ss x.firm.member.name) = subst (λ (ms : List Firm). AreVersionsOf ms (own_walk ss x.firm.member.name)) f.is (own_there m o x inner) in
      let has : All HasVersion (f.firm ∷ f.others) = subst (All HasVersion) f.is (firms_in_two n x.number inner) in
      let ms : List Firm = f.firm ∷ f.others in
      let own : IsOwnForm (objects_of ms) (slots_of ms) f.firm.member.original file f.firm.object f.firm.member.slot = form_versions f.firm f.others (own_walk ss x.firm.member.name) versions has sources walk placed in
      let moved : IsOwnForm (objects_of ms) (slots_of ms) x.firm.member.original file x.firm.object x.firm.member.slot =
      subst (λ (y : Firm). IsOwnForm (objects_of ms) (slots_of ms) y.member.original file y.object y.member.slot) same own in
      subst (λ (ys : List Firm). IsOwnForm (objects_of ys) (slots_of ys) x.firm.member.original file x.firm.object x.firm.member.slot) (sym f.is) moved

  -- the relocations that are not among the remaining ones give one word
  remaining_of : (m : ℕ) (o : Object) → (x : IsLater n row m o) → (link : Link) → (is : IsLinkAt n x.number link) → AreRemaining n.index.now (objects_of (firms_of n x.number)) x.firm.object.relocations link.remaining
  remaining_of m o x link is =
      let f : IsFirst n x.number = first_is n x.number is.walk in
      let same : f.firm ≡ x.firm = same_Some f.firm x.firm (sym f.at ∙ x.is) in
      let own : Walked = walked_by n.files.now (walk_of n x.number) in
      let known = (link_of n x.number link is (later_row n row m o x)).remaining in
      let moved : AreRemaining n.index.now (objects_of (firms_of n x.number)) (relocations_in (slice_get (objects_of (firms_of n x.number)) 0)) link.remaining =
      subst (λ (os : List Object). AreRemaining n.index.now os (relocations_in (slice_get os 0)) link.remaining) (firm_objects n x.number) known in
      let relocs : relocations_in (slice_get (objects_of (firms_of n x.number)) 0) ≡ x.firm.object.relocations =
      ap (λ (ms : List Firm). relocations_in (slice_get (objects_of ms) 0)) f.is ∙ ap (λ (y : Firm). y.object.relocations) same in
      subst (λ (ds : List Reloc). AreRemaining n.index.now (objects_of (firms_of n x.number)) ds link.remaining) relocs moved

  -- that word, by its own walk and by the program's
  word_of : (m : ℕ) (o : Object) → (x : IsLater n row m o) → (inner : IsWalkRow n x.number) → (r : Reloc) → GivesOneWordBy n.index.now (objects_of (firms_of n x.number)) r
      → (word : Word) × (value_of (objects_of (firms_of n x.number)) (slots_of (firms_of n x.number)) [] 0 r ≡ Ok word) × ((tls : List Module) → value_of (links.objects_of l) l.places.now tls m r ≡ Ok word)
  word_of m o x inner r known =
      let ts : List Taken = n.files.now in
      let k : ℕ = x.number in
      let h : HasOwnWalk ts n.walks.now row = has_walk n row work.numbered program.walk in
      let rows : walk_of n row ≡ row ∷ h.others = walk_is n row h in
      let own : walk_of n k ≡ k ∷ x.library.own.others = walk_is n k x.library.own in
      let at : slice_get (row ∷ h.others) m ≡ Some k = ap (λ (ks : List ℕ). slice_get ks m) (sym rows) ∙ x.there in
      let os : objects_of (firms_of n k) ≡ objects (walked_by ts (k ∷ x.library.own.others)) = sym (firm_objects n k) ∙ ap (λ (ks : List ℕ). objects (walked_by ts ks)) own in
      let places : slots_of (firms_of n k) ≡ places_of n.places.now (k ∷ x.library.own.others) = firm_slots n k inner.rows ∙ ap (places_of n.places.now) own in
      let all : links.objects_of l ≡ objects (walked_by ts (row ∷ h.others)) = ap objects linking.scope ∙ ap (λ (ks : List ℕ). objects (walked_by ts ks)) rows in
      let slots : l.places.now ≡ places_of n.places.now (row ∷ h.others) = linking.places ∙ ap (places_of n.places.now) rows in
      let given : GivesOneWordBy n.index.now (objects (walked_by ts (k ∷ x.library.own.others))) r = subst (λ (ps : List Object). GivesOneWordBy n.index.now ps r) os known in
      let g : GivesOneWordAt ts (number_at n.places.now) (row ∷ h.others) (k ∷ x.library.own.others) m r =
      one_word_at work.numbered.taken.0 ts n.walks.now n.index.now (number_at n.places.now) row m k work.numbered.taken.1 work.numbered.walks work.numbered.index h (first_linked n row program.walk h) at x.library.own r given in (
        g.word,
        ap (λ (ps : List Object). value_of ps (slots_of (firms_of n k)) [] 0 r) os ∙ (ap (λ (ks : List ℕ). value_of (objects (walked_by ts (k ∷ x.library.own.others))) ks [] 0 r) places ∙ g.own []),
        λ tls. ap (λ (ps : List Object). value_of ps l.places.now tls m r) all ∙ (ap (λ (ks : List ℕ). value_of (objects (walked_by ts (row ∷ h.others))) ks tls m r) slots ∙ g.there tls),
      )

  -- what is told of a member is told of its row
  told_row : (m k : ℕ) (s : RowWords) → slice_get (walk_of n row) m ≡ Some k → slice_get w.row_words.now k ≡ Some s → told_at (walk_of n row) w.row_words.now m ≡ s.held
  told_row m k s at there = ap (λ (i : ℕ). told_of (slice_get w.row_words.now i)) (get_or_from_slice_get (walk_of n row) m k 0 at) ∙ ap told_of there

  -- the member's file at its place
  file_of : (m : ℕ) (o : Object) → (x : IsLater n row m o) → slice_get files m ≡ Some (loaded_at x.firm.member.slot (library_file (own_walk ss x.firm.member.name)) x.firm.object)
  file_of m o x =
      let member : IsMemberAt rs m x.firm = member_at rs m x.firm x.at in
      let there = member_versions rs ss m x.firm are x.at in
      let s : Firm = versioned there.0 x.firm in
      let at : slice_get (links.objects_of l) m ≡ Some x.firm.object = ap (λ (os : List Object). slice_get os m) holds.objects ∙ member.object in
      let base : base_of l.places.now m ≡ x.firm.member.slot = ap (λ (ps : List ℕ). base_of ps m) holds.places ∙ member.place in
      let file : ordinary.part_of (parts_of ss) m ≡ library_file (own_walk ss x.firm.member.name) = part_at ss m s there.1 ∙ part_library ss s (later_kind n row m o x) in
      loaded_member l.places.now (parts_of ss) m (links.objects_of l) x.firm.object at
      ∙ (ap (λ (b : ℕ). Some (loaded_at b (ordinary.part_of (parts_of ss) m) x.firm.object)) base ∙ ap (λ (bs : List ℕ). Some (loaded_at x.firm.member.slot bs x.firm.object)) file)

  by_row : (m : ℕ) (o : Object) → (x : IsLater n row m o) → (s : RowWords) → slice_get w.row_words.now x.number ≡ Some s → (held : IsHeldRow n x.number s) → IsLibraryAt n.index.now l files m x.firm.object held.link.remaining (told_at (walk_of n row) w.row_words.now m)
  by_row m o x s there held =
      let member : IsMemberAt rs m x.firm = member_at rs m x.firm x.at in
      let told : told_at (walk_of n row) w.row_words.now m ≡ s.held = told_row m x.number s x.there there in
      record {
        own = objects_of (firms_of n x.number);
        places = slots_of (firms_of n x.number);
        original = x.firm.member.original;
        file = library_file (own_walk ss x.firm.member.name);
        slot = x.firm.member.slot;
        form = form_of m o x held.is.walk;
        of_one_word = remaining_of m o x held.link held.is;
        one_word = λ r known. word_of m o x held.is.walk r known;
        held = subst (λ (hs : List HeldWord). AreHeld x.firm.member.original x.firm.object (own_words_at n x.number) held.link.remaining hs) (sym told) (held.held x.firm x.is);
        there = file_of m o x;
        base = ap (λ (ps : List ℕ). base_of ps m) holds.places ∙ member.place;
      }

  library_at : (m : ℕ) (o : Object) → 0 < m → slice_get (links.objects_of l) m ≡ Some o → (remaining : List ℕ) × IsLibraryAt n.index.now l files m o remaining (told_at (walk_of n row) w.row_words.now m)
  library_at m o some at =
      let here : slice_get (objects_of rs) m ≡ Some o = ap (λ (os : List Object). slice_get os m) (sym holds.objects) ∙ at in
      let x : IsLater n row m o = later n row m o work.numbered program.walk some here in
      let lt : x.number < length n.files.now = slice_get_within n.files.now x.number x.library.own.taken x.library.own.file in
      let s = slice_get_at w.row_words.now x.number (omega (arith, lt, work.row_words.count)) in
      let held : IsHeldRow n x.number s.0 = program.held m x.number s.0 some x.there s.1 in
      (held.link.remaining, subst (λ (p : Object). IsLibraryAt n.index.now l files m p held.link.remaining (told_at (walk_of n row) w.row_words.now m)) x.object (by_row m o x s.0 s.1 held))

  pub all_told : AreAllTold l files (walk_of n row) w.row_words.now
  all_told = λ m o some at. let x = library_at m o some at in are_told n.index.now l files m o x.0 (told_at (walk_of n row) w.row_words.now m) x.1

  pub others_tell : (m : ℕ) (o : Object) → 0 < m → slice_get (links.objects_of l) m ≡ Some o → TellsHeldOf l m o.relocations (told_at (walk_of n row) w.row_words.now m)
  others_tell m o some at = let x = library_at m o some at in library_tells n.index.now l files m o x.0 (told_at (walk_of n row) w.row_words.now m) x.1
