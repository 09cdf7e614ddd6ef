-- A program whose list tells the files of its walk loads fast where its libraries' slots are free.
use Rattle.std.proofs.Common.{◌≡◌, ℕ, suc, Bool, true, false, List, [], ◌∷◌, ◌++◌, map, Option, Some, None, Result, Ok, refl, sym, ap, subst, ◌∙◌, arith, inl, inr}
use Rattle.std.specs.Prelude.{nat_eq, if◌then◌else◌}
use Rattle.std.specs.List.{All, AllByRecursion, AllZip, flat_map, list_all}
use Rattle.std.specs.Option.{is_some}
use Rattle.std.specs.Cmp.Lexicographic.{pointwise}
use Rattle.std.proofs.lemmas.Bool.{and_from, and_parts, false≢true}
use Rattle.std.proofs.lemmas.Bool.Decides.{nat_tests}
use Rattle.std.proofs.lemmas.List.{length-map}
use Rattle.std.proofs.lemmas.List.Elements.{All-head, All-tail}
use Rattle.pl_base.specs.Answers.{◌>>=◌, because}
use Rattle.pl_base.specs.Memory.{Memory}
use Rattle.pl_base.specs.Windows.{Window, any_share}
use Rattle.pl_base.proofs.AnswerLaws.{ok_same}
use Rattle.pl_conflict.specs.Complete.{bytes_of, file_at}
use Rattle.pl_conflict.specs.Format as format
use Rattle.pl_conflict.specs.Format.{Causes, RuleAt, others_in, slot_at}
use Rattle.pl_conflict.specs.Prelinked as prelinked
use Rattle.pl_conflict.specs.Prelinked.{Firm, firm_of, windows_of}
use Rattle.pl_conflict.proofs.FormatLaws.{read_is}
use Rattle.pl_conflict.proofs.MadeLaws.{IsPrelinked, IsProgramOf, prelinked_is, program_from}
use Rattle.pl_conflict.proofs.MemberLaws.{member_firm}
use Rattle.pl_elf.specs.Headers.{loads}
use Rattle.pl_elf.specs.Kinds.{is_library}
use Rattle.pl_elf.specs.declared.range.Range.{Range}
use Rattle.pl_elf.specs.declared.segment.Segment.{Segment}
use Rattle.law_folder.proofs.PageLemmas.{paged}
use Rattle.pl_form.specs.Files.{original_in}
use Rattle.pl_image.specs.Image.{byte_of}
use Rattle.pl_loader.specs.Faults.{of_tls}
use Rattle.pl_loader.specs.Fast as loader
use Rattle.pl_loader.specs.Fast.{fast_image, stored_by}
use Rattle.pl_loader.specs.Loading.{IsLibrary}
use Rattle.pl_loader.specs.Places.{kept_free, load_range, places, slot_by, program_ranges, taken_first, segments_by}
use Rattle.pl_loader.specs.Started.{Start, block_of, blocks, imaged, linked, load, modules_of, start, start_at, started}
use Rattle.pl_loader.specs.declared.fault.LoadFault.{LoadFault}
use Rattle.pl_loader.specs.declared.object_file.Mark.{Mark}
use Rattle.pl_loader.specs.declared.object_file.ObjectFile.{ObjectFile}
use Rattle.pl_object.specs.Reads.{reads}
use Rattle.pl_object.specs.declared.object.Object.{Object}
use Rattle.law_loads.specs.Paths.{AreTaken, walk_of}
use Rattle.law_loads.proofs.FastLaws.{paths_are_one}
use Rattle.law_loads.proofs.FileLaws.{mark_by}
use Rattle.law_loads.proofs.WalkLaws.{Begins, IsTaken, begins, folder_walk, object_there}
use Rattle.pl_place.specs.Policy.{Choice}
use Rattle.pl_scope.specs.Members.{has, names, others}
use Rattle.pl_scope.specs.Walk.{Walked}
use Rattle.pl_scope.proofs.ClosureLaws.{walk_is}
use Rattle.pl_scope.proofs.NameLaws.{has_head, has_tail}
use Rattle.law_sound.specs.Rule as sound
use Rattle.law_sound.specs.Rule.{Files, Member, is_marked, mark_at, matches, member_at, object_at, objects, of_walk, prelinked_in, walk_in}
use Rattle.law_sound.proofs.Matching.{Matches, members_are, tells_is}
use Rattle.law_sound.proofs.RuleLaws.{first_is, is_other}
use Rattle.pl_tls.specs.Layout.{offsets}
use Rattle.pl_tls.specs.declared.block.Block.{Block}
use Rattle.pl_tls.specs.declared.module.Module.{Module}
use Rattle.law_demo.specs.Clear.{IsProgram, are_clear, has_free_slots, is_clear, loaded_by}
use Rattle.law_folder.proofs.SetLemmas.{tail_apart}
use Rattle.law_demo.proofs.PlaceLaws.{HasSlot, IsFree, slots_are_places, window}
use Rattle.law_demo.proofs.TakenLaws.{AreMembers, IsTold, load_takes, marked_there}

-- ---- one file

-- a marked file has the slot that the folder tells
slot_told : (version : ℕ) (mark : Option sound.Mark) (k : Option Mark) → mark ≡ mark_by version k → is_some mark ≡ true → slot_by k ≡ Some (sound.slot_of mark)
slot_told version mark None is some = absurd (false≢true (sym (ap (λ (o : Option sound.Mark). is_some o) is) ∙ some))
slot_told version mark (Some k) is some = ap (λ (o : Option sound.Mark). Some (sound.slot_of o)) (sym is)

-- its program headers are those of the file as it stands
headers_told : (version : ℕ) (mark : Option sound.Mark) (original bytes : List ℕ) (ss : List Segment) (k : Option Mark) → mark ≡ mark_by version k → is_some mark ≡ true → bytes ≡ stored_by original k → map load_range (loads (segments_by ss k)) ≡ loaded_by bytes
headers_told version mark original bytes ss None is some stored = absurd (false≢true (sym (ap (λ (o : Option sound.Mark). is_some o) is) ∙ some))
headers_told version mark original bytes ss (Some k) is some stored = ap loaded_by (sym stored)

module _ {E : Type 0} (causes : Causes E) (folder : Files) where
  abbrev slot : ObjectFile → ℕ
  slot f = slot_at causes folder f.name

  abbrev IsMarkedFile : ObjectFile → Type 0
  IsMarkedFile f = is_marked (format.format causes) folder f.name ≡ true

  has_slot : (name : List ℕ) (f : ObjectFile) → IsTaken causes folder name f → IsLibrary f → IsMarkedFile f → HasSlot slot f
  has_slot name f t library marked =
      let told : mark_at (format.format causes) (folder f.name) ≡ mark_by t.is.version f.mark = ap (mark_at (format.format causes)) t.there ∙ t.is.mark in
      let read : reads (original_in t.bytes) ≡ Ok f.object = read_is causes f.name (original_in t.bytes) f.object t.is.object in
      record { bears = slot_told t.is.version (mark_at (format.format causes) (folder f.name)) f.mark told marked; some = (paged (original_in t.bytes) f.object read).some library }

  taken_is : (name : List ℕ) (f : ObjectFile) → IsTaken causes folder name f → IsMarkedFile f → program_ranges f ≡ loaded_by (file_at folder f.name)
  unfolding program_ranges
  taken_is name f t marked =
      let told : mark_at (format.format causes) (folder f.name) ≡ mark_by t.is.version f.mark = ap (mark_at (format.format causes)) t.there ∙ t.is.mark in
      headers_told t.is.version (mark_at (format.format causes) (folder f.name)) f.bytes t.bytes f.object.segments f.mark told marked t.is.stored
      ∙ sym (ap (λ (g : Option (List ℕ)). loaded_by (bytes_of g)) t.there)

  -- ---- its member of the set that is prelinked

  abbrev member_in : List ℕ → Member
  member_in m = member_at (format.format causes) m (folder m)

  abbrev AreFirms : List ObjectFile → List Firm → Type 0
  AreFirms fs rs = AllZip (λ m r. firm_of m ≡ Some r) (map member_in (names (walk_of fs))) rs

  -- with the file's slot and object
  record IsFirmOf (f : ObjectFile) (r : Firm) : Type 0 where
    slot_is : r.member.slot ≡ slot f
    object : r.object ≡ f.object

  firm_is : (name : List ℕ) (f : ObjectFile) (r : Firm) → IsTaken causes folder name f → firm_of (member_in f.name) ≡ Some r → IsFirmOf f r
  firm_is name f r t firm =
      let made = member_firm (member_in f.name) r firm in
      let original : r.member.original ≡ original_in t.bytes = ap (λ (m : Member). m.original) made.is ∙ ap (sound.original_at (format.format causes)) t.there in
      let read : reads (original_in t.bytes) ≡ Ok f.object = read_is causes f.name (original_in t.bytes) f.object t.is.object in
      let own : reads (original_in t.bytes) ≡ Ok r.object = subst (λ (xs : List ℕ). reads xs ≡ Ok r.object) original made.own.firm.accepted in
      record { slot_is = ap (λ (m : Member). m.slot) made.is; object = ok_same r.object f.object (sym own ∙ read) }

  abbrev window_made : ℕ → ℕ → Window
  window_made at size = record { at = at; size = size }

  firm_window : (f : ObjectFile) (r : Firm) → IsFirmOf f r → IsLibrary f → windows_of r ≡ window slot f ∷ []
  unfolding windows_of
  firm_window f r is library =
      let own : is_library r.object.kind ≡ true = ap (λ (o : Object). is_library o.kind) is.object ∙ library in
      ap (λ (b : Bool). if b then window_made r.member.slot r.object.span ∷ [] else map prelinked.load_window (loads r.object.segments)) own
      ∙ ap (λ (n : ℕ). window_made n r.object.span ∷ []) is.slot_is
      ∙ ap (λ (o : Object). window_made (slot f) o.span ∷ []) is.object

  -- the windows of libraries
  all_windows : (name : List ℕ) (fs : List ObjectFile) (rs : List Firm) → AreFirms fs rs → All (IsTaken causes folder name) fs → All IsLibrary fs → flat_map windows_of rs ≡ map (window slot) fs
  all_windows name [] [] firms taken kinds = refl
  all_windows name [] (r ∷ rs) firms taken kinds = absurd firms
  all_windows name (f ∷ fs) [] firms taken kinds = absurd firms
  all_windows name (f ∷ fs) (r ∷ rs) firms taken kinds =
      let is = firm_is name f r (All-head (IsTaken causes folder name) f fs taken) firms.0 in
      let rest = all_windows name fs rs firms.1 (All-tail (IsTaken causes folder name) f fs taken) (All-tail IsLibrary f fs kinds) in
      ap (λ (ws : List Window). ws ++ flat_map windows_of rs) (firm_window f r is (All-head IsLibrary f fs kinds)) ∙ ap (λ (ws : List Window). window slot f ∷ ws) rest

  all_blocks : (name : List ℕ) (fs : List ObjectFile) (rs : List Firm) → AreFirms fs rs → All (IsTaken causes folder name) fs → map (λ o. o.tls) (prelinked.objects_of rs) ≡ blocks fs
  unfolding block_of
  all_blocks name [] [] firms taken = refl
  all_blocks name [] (r ∷ rs) firms taken = absurd firms
  all_blocks name (f ∷ fs) [] firms taken = absurd firms
  all_blocks name (f ∷ fs) (r ∷ rs) firms taken =
      let is = firm_is name f r (All-head (IsTaken causes folder name) f fs taken) firms.0 in
      let rest = all_blocks name fs rs firms.1 (All-tail (IsTaken causes folder name) f fs taken) in
      ap (λ (o : Object). o.tls ∷ map (λ (x : Object). x.tls) (prelinked.objects_of rs)) is.object ∙ ap (λ (bs : List (Option Block)). f.object.tls ∷ bs) rest

  -- ---- all libraries

  all_slots : (name : List ℕ) (fs : List ObjectFile) → All (IsTaken causes folder name) fs → All IsLibrary fs → ((m : List ℕ) → has (names (walk_of fs)) m ≡ true → is_marked (format.format causes) folder m ≡ true) → AllByRecursion (HasSlot slot) fs
  all_slots name [] taken kinds marked = tt
  all_slots name (f ∷ fs) taken kinds marked = (
    has_slot name f (All-head (IsTaken causes folder name) f fs taken) (All-head IsLibrary f fs kinds) (marked f.name (has_head f.name (names (walk_of fs)))),
    all_slots name fs (All-tail (IsTaken causes folder name) f fs taken) (All-tail IsLibrary f fs kinds) (λ m there. marked m (has_tail f.name m (names (walk_of fs)) there)),
  )

  all_free : (taken : List Range) (fs : List ObjectFile) → list_all (is_clear causes folder taken) (walk_of fs) ≡ true → AllByRecursion (IsFree slot taken) fs
  all_free taken [] clear = tt
  all_free taken (f ∷ fs) clear =
      let p = and_parts (is_clear causes folder taken (f.name, f.object)) (list_all (is_clear causes folder taken) (walk_of fs)) clear in
      (p.0, all_free taken fs p.1)

  slots_named : (fs : List ObjectFile) → map slot fs ≡ map (slot_at causes folder) (names (walk_of fs))
  slots_named [] = refl
  slots_named (f ∷ fs) = ap (λ (ns : List ℕ). slot f ∷ ns) (slots_named fs)

  same_numbers : (ns : List ℕ) → pointwise nat_eq ns ns ≡ true
  same_numbers [] = refl
  same_numbers (n ∷ ns) = and_from (nat_eq n n) (pointwise nat_eq ns ns) (itself n) (same_numbers ns)
    where
      itself : (x : ℕ) → nat_eq x x ≡ true
      itself x = grind (arith, nat_tests)

  -- ---- the files of a program, which stands first

  record AreReady (name : List ℕ) (program : ObjectFile) (fs : List ObjectFile) : Type 0 where
    modules : List Module
    numbered : modules_of (program ∷ fs) ≡ Ok modules
    apart : any_share (map (window slot) fs) ≡ false

  program_block : (f : ObjectFile) (r : Firm) (rs : List Firm) → r.object ≡ f.object → map (λ o. o.tls) (prelinked.objects_of (r ∷ rs)) ≡ block_of f ∷ map (λ o. o.tls) (prelinked.objects_of rs)
  unfolding block_of
  program_block f r rs same = ap (λ (o : Object). o.tls ∷ map (λ (x : Object). x.tls) (prelinked.objects_of rs)) same

  are_ready : (name : List ℕ) (program : ObjectFile) (fs : List ObjectFile) (file : List ℕ) → IsTaken causes folder name program → is_library program.object.kind ≡ false → All (IsTaken causes folder name) fs → All IsLibrary fs
      → prelinked.prelinked (map member_in (names (walk_of (program ∷ fs)))) ≡ Some file → AreReady name program fs
  are_ready name program fs file first other taken kinds made =
      let p : IsPrelinked (member_in program.name) (map member_in (names (walk_of fs))) file = prelinked_is (member_in program.name) (map member_in (names (walk_of fs))) file made in
      let own = firm_is name program p.r first p.firms.0 in
      let not_library : is_library p.r.object.kind ≡ false = ap (λ (o : Object). is_library o.kind) own.object ∙ other in
      let by : IsProgramOf p.r p.rs file = program_from p.r p.rs file not_library p.is in
      let tls : map (λ o. o.tls) (prelinked.objects_of (p.r ∷ p.rs)) ≡ blocks (program ∷ fs) = program_block program p.r p.rs own.object ∙ ap (λ (bs : List (Option Block)). block_of program ∷ bs) (all_blocks name fs p.rs p.firms.1 taken) in
      record {
        modules = by.modules;
        numbered = ap (because of_tls) (sym (ap offsets tls) ∙ by.numbered);
        apart = ap (λ (ws : List Window). any_share ws) (sym (all_windows name fs p.rs p.firms.1 taken kinds)) ∙ tail_apart (windows_of p.r) (flat_map windows_of p.rs) p.set.apart;
      }

-- ---- the start

abbrev imaged_if : Bool → List ObjectFile → List ℕ → List Module → Result Memory LoadFault
imaged_if b all at modules = if b then Ok (byte_of (fast_image all at)) else linked all at modules

starts : (choose : Choice) (busy : Option Range) (all : List ObjectFile) (modules : List Module) (at : List ℕ) → modules_of all ≡ Ok modules → places choose busy all ≡ Ok at → loader.is_fast all at ≡ true
    → started choose busy all ≡ Ok (start all at modules (byte_of (fast_image all at)))
unfolding started imaged
starts choose busy all modules at numbered placed fast =
    ap (λ (r : Result (List Module) LoadFault). r >>= λ ms. places choose busy all >>= start_at all ms) numbered
    ∙ ap (λ (r : Result (List ℕ) LoadFault). r >>= start_at all modules) placed
    ∙ ap (λ (b : Bool). imaged_if b all at modules >>= λ memory. Ok (start all at modules memory)) fast

start_fast : (all : List ObjectFile) (at : List ℕ) (modules : List Module) (memory : Memory) → (start all at modules memory).fast ≡ loader.is_fast all at
unfolding start
start_fast all at modules memory = refl

-- what is known of a program whose list tells the files of its walk
pub record IsClear {E : Type 0} (causes : Causes E) (folder : Files) (busy : Option Range) (name : List ℕ) : Type 0 where
  pub rule : RuleAt causes folder name
  pub match : matches (format.format causes) folder name ≡ true
  pub program : IsProgram causes folder name
  pub free : has_free_slots causes folder busy name ≡ true

-- a load that is fast
pub record IsFastLoad {G : Type 0} (r : Result Start G) : Type 0 where
  pub start : Start
  pub loads : r ≡ Ok start
  pub fast : start.fast ≡ true

module _ {E G : Type 0} (causes : Causes E) (folder : Files) (fault : LoadFault → G) (file : List ℕ → Result (List ℕ) G) (told : IsTold folder file) (choose : Choice) (busy : Option Range) (name : List ℕ) (c : IsClear causes folder busy name) where
  abbrev f : sound.Format E
  f = format.format causes

  matched : Matches f folder name
  matched = tells_is f folder name c.match

  first_marked : is_marked f folder name ≡ true
  first_marked = ap (λ (g : Option (List ℕ)). is_some (mark_at f g)) matched.there ∙ ap (λ (k : Option sound.Mark). is_some k) matched.marked

  are_members : AreMembers causes folder name matched.walked
  are_members =
      let tells = walk_is causes.walk (objects f folder) name matched.walked matched.walks in
      record {
        walks = matched.walks;
        each = λ m there. marked_there causes folder m (elim (is_other (objects f folder) name m matched.walked tells there) [
          | inl e ↦ subst (λ (k : List ℕ). is_some (mark_at f (folder k)) ≡ true) e first_marked
          | inr o ↦ matched.each m o
        ]);
        program = c.program;
      }

  -- the files of its load
  record AreFilesOf (program : ObjectFile) (fs : List ObjectFile) : Type 0 where
    takes : AreTaken folder fault file name (program ∷ fs)
    walks : walk_in f folder name ≡ Ok (walk_of (program ∷ fs))
    named : program.name ≡ name
    first : IsTaken causes folder name program
    libraries : All (IsTaken causes folder name) fs
    kinds : All IsLibrary fs

  their_files : (all : List ObjectFile) → AreTaken folder fault file name all → (b : Begins causes folder name all) → walk_in f folder name ≡ Ok (walk_of all) → AreFilesOf b.program b.libraries
  their_files all takes b walks = record {
    takes = subst (λ (gs : List ObjectFile). AreTaken folder fault file name gs) b.is takes;
    walks = subst (λ (gs : List ObjectFile). walk_in f folder name ≡ Ok (walk_of gs)) b.is walks;
    named = b.named;
    first = b.first;
    libraries = b.others;
    kinds = b.kinds;
  }

  module _ (program : ObjectFile) (fs : List ObjectFile) (are : AreFilesOf program fs) where
    abbrev places_of : List ℕ
    places_of = 0 ∷ map (slot causes folder) fs

    walked_same : matched.walked ≡ walk_of (program ∷ fs)
    walked_same = ok_same matched.walked (walk_of (program ∷ fs)) (sym matched.walks ∙ are.walks)

    others_marked : (m : List ℕ) → has (names (walk_of fs)) m ≡ true → is_marked f folder m ≡ true
    others_marked = subst (λ (ws : Walked). (m : List ℕ) → has (others ws) m ≡ true → is_some (mark_at f (folder m)) ≡ true) walked_same matched.each

    not_library : is_library program.object.kind ≡ false
    not_library = c.program program.object (subst (λ (n : List ℕ). objects f folder n ≡ Ok program.object) are.named (object_there causes folder name program are.first))

    made : prelinked.prelinked (map (member_in causes folder) (names (walk_of (program ∷ fs)))) ≡ Some matched.file
    made =
        let tells = walk_is causes.walk (objects f folder) name matched.walked matched.walks in
        let there = first_is (objects f folder) name matched.walked tells in
        let rule : prelinked_in f folder name ≡ folder name = c.rule name c.match (ap (λ (ns : List (List ℕ)). has ns name) (members_are f folder name matched.walked matched.walks) ∙ there) in
        sym (ap (of_walk f (member_in causes folder)) are.walks) ∙ (rule ∙ matched.there)

    ready : AreReady causes folder name program fs
    ready = are_ready causes folder name program fs matched.file are.first not_library are.libraries are.kinds made

    have_slots : AllByRecursion (HasSlot (slot causes folder)) fs
    have_slots = all_slots causes folder name fs are.libraries are.kinds others_marked

    are_free : AllByRecursion (IsFree (slot causes folder) (taken_first busy program)) fs
    unfolding has_free_slots
    are_free =
        let clear : are_clear causes folder (loaded_by (file_at folder name) ++ kept_free busy) (Ok (walk_of (program ∷ fs))) ≡ true = sym (ap (are_clear causes folder (loaded_by (file_at folder name) ++ kept_free busy)) are.walks) ∙ c.free in
        let marked : is_marked f folder program.name ≡ true = subst (λ (n : List ℕ). is_marked f folder n ≡ true) (sym are.named) first_marked in
        let own : program_ranges program ≡ loaded_by (file_at folder name) = taken_is causes folder name program are.first marked ∙ ap (λ (n : List ℕ). loaded_by (file_at folder n)) are.named in
        subst (λ (ts : List Range). AllByRecursion (IsFree (slot causes folder) (ts ++ kept_free busy)) fs) (sym own) (all_free causes folder (loaded_by (file_at folder name) ++ kept_free busy) fs clear)

    placed : places choose busy (program ∷ fs) ≡ Ok places_of
    placed = slots_are_places (slot causes folder) choose busy program fs have_slots are_free ready.apart

    folder_fast : format.is_fast causes folder name places_of ≡ true
    unfolding format.is_fast
    folder_fast =
        let same : map (slot_at causes folder) (format.libraries causes folder name) ≡ map (slot causes folder) fs = ap (λ (r : Result Walked E). map (slot_at causes folder) (others_in r)) are.walks ∙ sym (slots_named causes folder fs) in
        and_from (matches f folder name) (pointwise nat_eq (map (slot causes folder) fs) (map (slot_at causes folder) (format.libraries causes folder name))) c.match
        (ap (pointwise nat_eq (map (slot causes folder) fs)) same ∙ same_numbers causes folder (map (slot causes folder) fs))

    load_fast : loader.is_fast (program ∷ fs) places_of ≡ true
    load_fast = paths_are_one causes folder fault file name (program ∷ fs) places_of are.takes (ap suc (length-map fs (slot causes folder))) ∙ folder_fast

    fast_start : IsFastLoad (load choose busy fault file name)
    unfolding load
    fast_start =
        let begin = starts choose busy (program ∷ fs) ready.modules places_of ready.numbered placed load_fast in
        record {
          start = start (program ∷ fs) places_of ready.modules (byte_of (fast_image (program ∷ fs) places_of));
          loads = ap (λ (r : Result (List ObjectFile) G). r >>= λ all. because fault (started choose busy all)) are.takes.walked ∙ ap (because fault) begin;
          fast = start_fast (program ∷ fs) places_of ready.modules (byte_of (fast_image (program ∷ fs) places_of)) ∙ load_fast;
        }

  pub loads_fast : IsFastLoad (load choose busy fault file name)
  loads_fast =
      let all = load_takes causes folder fault file told name matched.walked are_members in
      let w = folder_walk causes folder fault file name all.0 all.1 in
      let b = begins causes folder name all.0 w in
      fast_start b.program b.libraries (their_files all.0 all.1 b w.walks)
