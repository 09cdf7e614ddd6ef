-- The conflict rows and the fills that are made of a program are those of its file.
use Rattle.std.proofs.Common.{◌≡◌, ℕ, ◌<◌, true, false, List, ◌∷◌, length, map, Option, Some, None, Ok, Err, sym, ap, subst, ◌∙◌, arith}
use Rattle.std.specs.Prelude.{slice_get}
use Rattle.std.specs.List.{All, AllZip}
use Rattle.std.proofs.lemmas.List.{length-map}
use Rattle.std.proofs.lemmas.Option.{same_Some}
use Rattle.std.proofs.lemmas.Slice.Zip.{AllZip-long}
use Rattle.pl_base.specs.Answers.{Answers, because}
use Rattle.pl_base.specs.Each.{each}
use Rattle.pl_base.proofs.AnswerLaws.{because_ok, bind_ok}
use Rattle.pl_cone.specs.Links as links
use Rattle.pl_cone.specs.declared.scopes.WalkLinking.{WalkLinking}
use Rattle.pl_conflict.specs.Own.{FindAll}
use Rattle.pl_conflict.specs.Complete.{IsProgramScope}
use Rattle.pl_conflict.specs.Conflicts.{ascending, conflicts, rows_of}
use Rattle.pl_conflict.specs.Prelinked.{Firm, are_set, objects_of, originals_of, parts_of, slots_of}
use Rattle.pl_conflict.proofs.CompleteLaws.{all_fit}
use Rattle.pl_conflict.proofs.MemberLaws.{HasOwn, IsSet, program_numbers, set_is}
use Rattle.pl_conflict.proofs.ScopeLaws.{read_all}
use Rattle.pl_conflict.proofs.SetLaws.{HasLibrary, program_scope}
use Rattle.pl_elf.specs.Kinds.{is_library}
use Rattle.pl_form.specs.declared.version.Version.TheVariants.{Two}
use Rattle.pl_lists.specs.declared.conflict_row.ConflictRow.{ConflictRow}
use Rattle.pl_object.specs.declared.object.Object.{Object}
use Rattle.pl_scope.specs.declared.found.Found.{Found}
use Rattle.pl_tls.specs.declared.module.Module.{Module}
use Rattle.pl_value.specs.Linked.{words}
use Rattle.pl_value.specs.Laws.{AreRead}
use Rattle.pl_value.specs.Meanings as value
use Rattle.pl_value.specs.Meanings.{is_memory, meaning, meanings}
use Rattle.pl_value.specs.Ordinary.{ArePlaced, loaded_objects}
use Rattle.pl_value.specs.Values.{relocations_in}
use Rattle.pl_value.specs.declared.fault.LinkFault.{LinkFault}
use Rattle.pl_value.specs.declared.fault.OrdinaryFault.{OrdinaryFault}
use Rattle.pl_value.specs.declared.fault.OrdinaryFault.TheVariants.{Link}
use Rattle.pl_value.specs.declared.meaning.Meaning.{Meaning}
use Rattle.pl_value.proofs.ApartLaws.{places_are_apart}
use Rattle.pl_rewrite.specs.Contents.{HasContents, IsLinkingOfRow, IsProgramRow, IsWork}
use Rattle.pl_rewrite.specs.Copies.{AreFillsOf, AreProgramFills, IsFillable}
use Rattle.pl_rewrite.specs.Fills.{IsProgramSet, conflicts_with}
use Rattle.pl_rewrite.specs.Ranges.{ranges_of}
use Rattle.pl_rewrite.specs.RemainingRows.{AreConflictRows, AreNear, CanListRows, FindFirst, GivesFirst, RefusesAll, all_given, given_in, is_near_word}
use Rattle.pl_rewrite.specs.Rows.{IsFirmAt, firms_of, of_firm, walk_of}
use Rattle.pl_rewrite.specs.Sources.{AreSources, AreVersionsOf}
use Rattle.pl_rewrite.specs.declared.copies.Filling.{Filling}
use Rattle.pl_rewrite.specs.declared.numbers.Numbered.{Numbered}
use Rattle.pl_rewrite.specs.declared.program.Contents.{Contents}
use Rattle.pl_rewrite.specs.declared.program.Work.{Work}
use Rattle.pl_rewrite.specs.declared.row_words.RowWords.{RowWords}
use Rattle.pl_rewrite.proofs.ContentLaws.{IsProgramScene, all_filled, own_count, own_fills}
use Rattle.pl_rewrite.proofs.ContentRowLaws.{Holds, rows_made, rows_refused}
use Rattle.pl_rewrite.proofs.FirmLaws.{own_all}
use Rattle.pl_rewrite.proofs.FirmRowLaws.{firms_zip}
use Rattle.pl_rewrite.proofs.LaterMemberLaws.{others_libraries}
use Rattle.pl_rewrite.proofs.LibraryAtLaws.{all_told, holds, others_tell, whole}
use Rattle.pl_rewrite.proofs.NewLibraryLaws.{IsFirst, first_is}
use Rattle.pl_rewrite.proofs.PlacedRowLaws.{placed_rows}
use Rattle.pl_rewrite.proofs.ProgramLaws.{are_compared, first_made, ok_of, originals_placed}
use Rattle.pl_rewrite.proofs.RowsLaws.{first_stops}
use Rattle.pl_rewrite.proofs.SceneLaws.{IsScene}
use Rattle.pl_rewrite.proofs.SeenLaws.{near_seen}
use Rattle.pl_rewrite.proofs.VersionLaws.{all_in, begins_program, firms_in_two, in_versions, objects_versions, set_versions, slots_versions, sources_versions}

module _ (w : Work) (row : ℕ) (l : WalkLinking) (work : IsWork w) (program : IsProgramRow w row) (linking : IsLinkingOfRow w row l) (set : are_set (firms_of w.numbered.now row) ≡ true) where
  abbrev n : Numbered
  n = w.numbered.now

  abbrev rs : List Firm
  rs = firms_of w.numbered.now row

  abbrev modules : List Module
  modules = l.modules.now

  -- the members in version 2
  abbrev two : List Firm
  two = all_in Two rs

  are_two : AreVersionsOf rs two
  are_two = in_versions Two rs

  held : Holds l rs
  held = holds w row l work program linking set two are_two

  whole_set : IsProgramSet rs
  whole_set = whole w row l work program linking set two are_two

  first : IsFirst n row
  first = first_is n row program.walk

  other : is_library first.firm.object.kind ≡ false
  other = sym (ap (of_firm false (λ (r : Firm). is_library r.object.kind)) first.at) ∙ program.program

  -- the object of the program is that of the walk's first member
  first_object : (o : Object) → slice_get (links.objects_of l) 0 ≡ Some o → o ≡ first.firm.object
  first_object o at =
      same_Some o first.firm.object (sym at ∙ (ap (λ (os : List Object). slice_get os 0) held.objects ∙ ap (λ (ms : List Firm). slice_get (objects_of ms) 0) first.is))

  -- ---- what is asked

  -- what its relocations find
  pub found_first : (s : RowWords) (found : List (Option Found)) → slice_get w.row_words.now row ≡ Some s → found ≡ s.found → FindFirst l found
  found_first s found at is = subst (FindFirst l) (sym is) (subst (λ (os : List Object). FindAll os s.found) (sym held.objects) (program.found s at))

  pub members_count : length (links.objects_of l) ≡ length (walk_of n row)
  members_count = ap length held.objects ∙ (length-map rs (λ (r : Firm). r.object) ∙ AllZip-long (IsFirmAt n) (walk_of n row) rs (firms_zip n row program.walk.rows))

  pub some_members : 0 < length (links.objects_of l)
  some_members = omega (arith, members_count, ap length program.walk.is)

  own_given : (own : List Meaning) → GivesFirst l (Ok own) → (o : Object) → slice_get (links.objects_of l) 0 ≡ Some o → given_in l 0 o.relocations ≡ Ok own
  own_given own gives o at =
      because_ok Link (given_in l 0 o.relocations) own (subst (λ (x : Option Object). because Link (given_in l 0 (relocations_in x)) ≡ Ok own) at gives)

  pub can_list : (walk : List ℕ) (own : List Meaning) → walk ≡ walk_of n row → GivesFirst l (Ok own) → CanListRows l walk w.row_words.now own
  can_list walk own is gives = subst (λ (ks : List ℕ). CanListRows l ks w.row_words.now own) (sym is) (record {
    some = some_members;
    one_each = sym members_count;
    within = λ k d lt. let below = program.walk.rows.within k d lt in omega (arith, below, work.row_words.count);
    first = own_given own gives;
    others = others_tell w row l work program linking set two are_two;
  })

  -- ---- what is refused

  pub own_refused : (o : Object) (e : OrdinaryFault) → slice_get (links.objects_of l) 0 ≡ Some o → GivesFirst l (Err e) → RefusesAll l e
  own_refused o e at gives = first_stops l o e at (subst (λ (x : Option Object). Answers is_memory (Err e) (because Link (given_in l 0 (relocations_in x)))) at gives)

  -- ---- what is made

  pub fillable_is : (m : Numbered) (walk : List ℕ) → m ≡ n → walk ≡ walk_of n row → IsFillable m walk
  fillable_is m walk same is =
      let here : IsFillable n (walk_of n row) = record {
        numbered = work.numbered;
        some = omega (arith, ap length program.walk.is);
        within = program.walk.rows.within;
        placed = placed_rows n row program.walk whole_set;
      } in
      subst (λ (ks : List ℕ). IsFillable m ks) (sym is) (subst (λ (k : Numbered). IsFillable k (walk_of n row)) (sym same) here)

  first_there : slice_get (links.objects_of l) 0 ≡ Some first.firm.object
  first_there = ap (λ (os : List Object). slice_get os 0) held.objects ∙ ap (λ (ms : List Firm). slice_get (objects_of ms) 0) first.is

  -- what the program's relocations give, by the members
  given_by : (own : List Meaning) → GivesFirst l (Ok own) → each (meaning (objects_of rs) (slots_of rs) modules) (map (value.row 0) first.firm.object.relocations) ≡ Ok own
  given_by own gives =
      let given : given_in l 0 first.firm.object.relocations ≡ Ok own = own_given own gives first.firm.object first_there in
      subst (λ (ps : List ℕ). each (meaning (objects_of rs) ps modules) (map (value.row 0) first.firm.object.relocations) ≡ Ok own) held.places
      (subst (λ (os : List Object). each (meaning os l.places.now modules) (map (value.row 0) first.firm.object.relocations) ≡ Ok own) held.objects given)

  -- one meaning for each relocation, and what is copied is of members of the walk
  pub own_each : (own : List Meaning) (o : Object) → slice_get (links.objects_of l) 0 ≡ Some o → GivesFirst l (Ok own) → length own ≡ length o.relocations
  own_each own o at gives = own_count (links.objects_of l) l.places.now modules o.relocations own (own_given own gives o at)

  pub own_members : (walk : List ℕ) (own : List Meaning) (o : Object) → walk ≡ walk_of n row → slice_get (links.objects_of l) 0 ≡ Some o → GivesFirst l (Ok own) → AreFillsOf walk own
  own_members walk own o is at gives =
      own_fills walk (links.objects_of l) l.places.now modules o.relocations own (members_count ∙ ap length (sym is)) (own_given own gives o at)

  -- all relocations have values where there are conflict rows
  values_of : (ss : List Firm) (rows : List ConflictRow) → conflicts (objects_of ss) (parts_of ss) (slots_of ss) modules ≡ Ok rows → (gs : List Meaning) × (meanings (objects_of ss) (slots_of ss) modules ≡ Ok gs)
  unfolding conflicts
  values_of ss rows is =
      let p = bind_ok (meanings (objects_of ss) (slots_of ss) modules) (λ gs. Ok (ascending (rows_of (loaded_objects (slots_of ss) (parts_of ss) (objects_of ss)) gs))) rows is in
      (p.0, p.1)

  -- those of the members in other versions are the same
  same_values : (ss : List Firm) (gs : List Meaning) → AreVersionsOf rs ss → meanings (objects_of ss) (slots_of ss) modules ≡ Ok gs → meanings (objects_of rs) (slots_of rs) modules ≡ Ok gs
  same_values ss gs are is =
      subst (λ (ps : List ℕ). meanings (objects_of rs) ps modules ≡ Ok gs) (slots_versions rs ss are)
      (subst (λ (os : List Object). meanings os (slots_of ss) modules ≡ Ok gs) (objects_versions rs ss are) is)

  all_values : (gs : List Meaning) → meanings (objects_of rs) (slots_of rs) modules ≡ Ok gs → all_given l ≡ Ok gs
  all_values gs is =
      subst (λ (os : List Object). meanings os l.places.now modules ≡ Ok gs) (sym held.objects)
      (subst (λ (ps : List ℕ). meanings (objects_of rs) ps modules ≡ Ok gs) (sym held.places) is)

  own_all_members : All HasOwn rs
  own_all_members = own_all rs program.walk.sources

  scope_is : IsProgramScope (objects_of rs)
  scope_is =
      let owns : All HasOwn (first.firm ∷ first.others) = subst (All HasOwn) first.is own_all_members in
      let libraries : All HasLibrary first.others = others_libraries n row first.firm first.others work.numbered program.walk first.is in
      subst (λ (ms : List Firm). IsProgramScope (objects_of ms)) (sym first.is) (program_scope first.firm first.others owns other libraries)

  at_zero : first.firm.member.slot ≡ 0
  at_zero =
      let s : IsSet first.firm first.others = set_is first.firm first.others (subst (λ (ms : List Firm). are_set ms ≡ true) first.is set) in
      (program_numbers first.firm s.first other).0

  placed : ArePlaced (slots_of rs) (originals_of rs) (objects_of rs)
  placed = originals_placed rs program.walk.sources whole_set

  scene_is : (f : Filling) (gs own near : List Meaning) → f.numbered.now ≡ n → f.walk.now ≡ walk_of n row → f.near.now ≡ words near → AreNear l own near → meanings (objects_of rs) (slots_of rs) modules ≡ Ok gs → IsScene f rs gs (is_near_word (ranges_of own))
  scene_is f gs own near same walk patches nears is =
      let read : AreRead (originals_of rs) (objects_of rs) = read_all rs own_all_members in
      let zip : AllZip (IsFirmAt n) (walk_of n row) rs = firms_zip n row program.walk.rows in
      record {
        fillable = fillable_is f.numbered.now f.walk.now same walk;
        rows = subst (λ (ks : List ℕ). AllZip (IsFirmAt f.numbered.now) ks rs) (sym walk) (subst (λ (m : Numbered). AllZip (IsFirmAt m) (walk_of n row) rs) (sym same) zip);
        near = patches ∙ ap words (nears gs (all_values gs is));
        fit = all_fit (objects_of rs) (originals_of rs) (slots_of rs) modules gs read scope_is is;
        lone = places_are_apart (originals_of rs) (objects_of rs) (slots_of rs) modules gs read placed is;
        apart = placed.apart;
      }

  program_scene : (f : Filling) (gs own near : List Meaning) → f.numbered.now ≡ n → f.walk.now ≡ walk_of n row → f.near.now ≡ words near → AreNear l own near → GivesFirst l (Ok own) → meanings (objects_of rs) (slots_of rs) modules ≡ Ok gs
      → IsProgramScene f rs gs own modules (is_near_word (ranges_of own)) first.firm first.others
  program_scene f gs own near same walk patches nears gives is = record {
    scene = scene_is f gs own near same walk patches nears is;
    is = first.is;
    all = is;
    given = given_by own gives;
    at_zero = at_zero;
    reads = (own_all (first.firm ∷ first.others) (subst AreSources first.is program.walk.sources) 0 first.firm (omega arith)).firm.accepted;
    seen = λ i e m from size k g lt word inside last hit. near_seen own i e m from size k g lt word inside last hit;
  }

  -- the members in other versions

  holds_versions : (ss : List Firm) → AreVersionsOf rs ss → Holds l ss
  holds_versions ss are = record {
    objects = held.objects ∙ sym (objects_versions rs ss are);
    places = held.places ∙ sym (slots_versions rs ss are);
  }

  set_in : (ss : List Firm) → AreVersionsOf rs ss → are_set ss ≡ true
  set_in ss are = set_versions rs ss are (firms_in_two n row program.walk) ∙ set

  pub whole_versions : (ss : List Firm) → AreVersionsOf rs ss → IsProgramSet ss
  whole_versions ss are = record { first = begins_program rs ss are whole_set.first; set = set_in ss are }

  rows_in : (ss : List Firm) (rows : List ConflictRow) (walk : List ℕ) → walk ≡ walk_of n row → AreConflictRows l walk w.row_words.now rows → AreVersionsOf rs ss → conflicts_with ss modules ≡ Some rows
  rows_in ss rows walk walked listed are =
      let there : AreConflictRows l (walk_of n row) w.row_words.now rows = subst (λ (ks : List ℕ). AreConflictRows l ks w.row_words.now rows) walked listed in
      let compared = are_compared ss (sources_versions rs ss are program.walk.sources) (whole_versions ss are) in
      rows_made l ss (walk_of n row) w.row_words.now rows (holds_versions ss are) compared there (all_told w row l work program linking set ss are)

  pub contents_are : (c : Contents) (f : Filling) (walk : List ℕ) (own near : List Meaning) (o : Object) → AreProgramFills f o.relocations own c.fills.items → walk ≡ walk_of n row → f.numbered.now ≡ n → f.walk.now ≡ walk_of n row → f.near.now ≡ words near → GivesFirst l (Ok own)
      → AreConflictRows l walk w.row_words.now c.rows.items → AreNear l own near → slice_get (links.objects_of l) 0 ≡ Some o → HasContents w row l c
  contents_are c f walk own near o filled walked same is patches gives listed nears at =
      let rows : conflicts_with two modules ≡ Some c.rows.items = rows_in two c.rows.items walk walked listed are_two in
      let made : conflicts (objects_of two) (parts_of two) (slots_of two) modules ≡ Ok c.rows.items = ok_of (conflicts (objects_of two) (parts_of two) (slots_of two) modules) c.rows.items (sym rows) in
      let gs = values_of two c.rows.items made in
      let values : meanings (objects_of rs) (slots_of rs) modules ≡ Ok gs.0 = same_values two gs.0 are_two gs.1 in
      let fills_made : AreProgramFills f first.firm.object.relocations own c.fills.items = subst (λ (p : Object). AreProgramFills f p.relocations own c.fills.items) (first_object o at) filled in
      let whole_fills = all_filled f rs gs.0 own modules (is_near_word (ranges_of own)) first.firm first.others c.fills.items (program_scene f gs.0 own near same is patches nears gives values) fills_made in
      record {
        given = gs.0;
        values = values;
        rows = λ ss are. rows_in ss c.rows.items walk walked listed are;
        fills = first_made rs first.firm first.others gs.0 c.fills.items first.is whole_fills;
      }

  -- a relocation without a value leaves no rows
  pub contents_refused : (fault : LinkFault) (ss : List Firm) → AreVersionsOf rs ss → RefusesAll l (Link fault) → conflicts_with ss modules ≡ None
  contents_refused fault ss are refuses = rows_refused l ss fault (holds_versions ss are) refuses
