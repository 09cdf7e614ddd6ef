-- Loops over the remaining relocations of members that gather conflict rows.
use Rattle.std.proofs.Common.{◌≡◌, ℕ, zero, suc, ◌+◌, ◌-◌, ◌<◌, ◌≤◌, Bool, List, [], ◌∷◌, ◌++◌, true, length, map, drop, get_or, Option, Some, None, Result, Ok, Err, refl, sym, ap, subst, ◌∙◌, append_assoc, arith}
use Rattle.std.specs.Prelude.{◌==◌, filter, slice_get, MatchBool, ⊤}
use Rattle.std.specs.List.{AllZip}
use Rattle.std.specs.Option.{option_to_list}
use Rattle.std.proofs.lemmas.Bool.{eq-eqb, eqb-true}
use Rattle.std.proofs.lemmas.List.{append-nil, drop_more}
use Rattle.std.proofs.lemmas.List.Elements.{filter-append}
use Rattle.std.proofs.lemmas.Option.{same_Some, slice_get-get_or}
use Rattle.pl_base.specs.Answers.{because}
use Rattle.pl_base.specs.Bytes.{bytes64}
use Rattle.pl_base.specs.Each.{each, with_front}
use Rattle.pl_base.proofs.AnswerLaws.{ok_same}
use Rattle.pl_base.proofs.EachLaws.{front_nothing}
use Rattle.pl_conflict.specs.Quiet.{IsQuiet}
use Rattle.pl_conflict.specs.Between.{HoldsBetween}
use Rattle.pl_conflict.specs.Conflicts.{held, row_of, rows_of}
use Rattle.pl_conflict.proofs.MeaningLaws.{front_err, member_is, some_of}
use Rattle.pl_conflict.proofs.HeldLaws.{rows_both, rows_one}
use Rattle.pl_cone.specs.Links.{objects_of}
use Rattle.pl_cone.specs.declared.scopes.WalkLinking.{WalkLinking}
use Rattle.pl_elf.specs.declared.range.Range.{Range}
use Rattle.pl_image.specs.declared.loaded_object.LoadedObject.{LoadedObject}
use Rattle.pl_lists.specs.declared.conflict_row.ConflictRow.{ConflictRow}
use Rattle.pl_object.specs.declared.object.Object.{Object}
use Rattle.pl_object.specs.declared.reloc.Reloc.{Reloc}
use Rattle.pl_value.specs.Meanings.{Row, is_memory, meaning, meanings, row, rows, rows_from}
use Rattle.pl_value.specs.declared.fault.LinkFault.{LinkFault}
use Rattle.pl_value.specs.declared.fault.OrdinaryFault.{OrdinaryFault}
use Rattle.pl_value.specs.declared.fault.OrdinaryFault.TheVariants.{Link}
use Rattle.pl_value.specs.declared.meaning.Meaning.{Meaning}
use Rattle.pl_value.proofs.CollectingLaws.{member_more, member_stops, members_done, reloc_more, reloc_stops, relocs_done}
use Rattle.pl_value.specs.declared.word.Word.{Word}
use Rattle.pl_value.specs.declared.word.Word.TheVariants.{Put, Copy, Nothing}
use Rattle.pl_value.proofs.MeaningLaws.{each_zip}
use Rattle.pl_rewrite.specs.RemainingRows.{AddsMember, AddsNear, AddsRows, AreAllTold, AreNear, AreTold, HasValueAt, CanListRows, IsQuietAt, IsRowBy, RefusesMember, RefusesOne, TellsHeldOf, all_given, given_in, indexes, is_near_word, is_put, meaning_in, told_at, told_of}
use Rattle.pl_rewrite.specs.Ranges.{ranges_of}
use Rattle.pl_rewrite.specs.declared.conflict.RemainingRows.{RemainingRows}
use Rattle.pl_rewrite.specs.declared.row_words.HeldWord.{HeldWord}
use Rattle.pl_rewrite.specs.declared.row_words.RowWords.{RowWords}

abbrev value : WalkLinking → Row → Result Meaning LinkFault
value l x = meaning (objects_of l) l.places.now l.modules.now x

-- ---- the relocations of a member

-- what those before an index give stands in front
abbrev Front : WalkLinking → ℕ → List Reloc → ℕ → List Meaning → Type 0
Front l m rs i front = with_front front (each (value l) (drop i (map (row m) rs))) ≡ given_in l m rs

-- relocations from one index to another are passed, since they have values and matter nowhere
record Passed (l : WalkLinking) (m : ℕ) (rs : List Reloc) (i j : ℕ) (front : List Meaning) : Type 0 where
  all : List Meaning
  given : Front l m rs j all
  same : (files : List LoadedObject) → ((k : ℕ) → i ≤ k → k < j → IsQuietAt l files m rs k) → rows_of files all ≡ rows_of files front

pass : (l : WalkLinking) (m : ℕ) (rs : List Reloc) (n i j : ℕ) (front : List Meaning) → i + n ≡ j → j ≤ length rs → ((k : ℕ) → i ≤ k → k < j → HasValueAt l m rs k) → Front l m rs i front → Passed l m rs i j front
pass l m rs zero i j front is le known at =
    let e : i ≡ j = omega (arith, is) in
    record { all = front; given = subst (λ (k : ℕ). Front l m rs k front) e at; same = λ files quiet. refl }
pass l m rs (suc n) i j front is le known at =
    let lt : i < length rs = omega (arith, is, le) in
    let before : i < j = omega (arith, is) in
    let d = some_of rs i lt in
    let v = known i (omega arith) before d in
    let next : Front l m rs (i + 1) (front ++ v.0 ∷ []) = reloc_more (value l) m rs i d front (front ++ v.0 ∷ []) v.0 (given_in l m rs) lt (sym v.1) refl at in
    let rest = pass l m rs n (i + 1) j (front ++ v.0 ∷ []) (omega (arith, is)) le (λ k from to. known k (omega (arith, from)) to) next in
    record {
      all = rest.all;
      given = rest.given;
      same = λ files quiet.
          let q = quiet i (omega arith) before d l.modules.now in
          let none : IsQuiet files v.0 = subst (IsQuiet files) (ok_same q.0 v.0 (sym q.1.0 ∙ v.1)) q.1.1 in
          rest.same files (λ k from to. quiet k (omega (arith, from)) to) ∙ sym (rows_one files front v.0 None (sym none.no_row)) ∙ append-nil (rows_of files front);
    }

-- rows of what stands in front, whatever the files of which is told
pub record Rowed (l : WalkLinking) (m : ℕ) (rs : List Reloc) (told : List HeldWord) (k : ℕ) (before after : List ConflictRow) : Type 0 where
  pub next : ℕ
  pub low : next ≤ length rs
  pub known : HoldsBetween (HasValueAt l m rs) (length rs) next (indexes (drop k told))
  pub front : List Meaning
  pub given : with_front front (each (meaning (objects_of l) l.places.now l.modules.now) (drop next (map (row m) rs))) ≡ given_in l m rs
  pub made : List ConflictRow
  pub is : after ≡ before ++ made
  pub rows : (files : List LoadedObject) → AreTold l files m rs told → (made ≡ rows_of files front) × HoldsBetween (IsQuietAt l files m rs) (length rs) next (indexes (drop k told))

pub rowed_begin : (l : WalkLinking) (m : ℕ) (rs : List Reloc) (told : List HeldWord) (before : List ConflictRow) → TellsHeldOf l m rs told → Rowed l m rs told 0 before before
unfolding rows_of
rowed_begin l m rs told before known = record {
  next = 0;
  low = omega arith;
  known = known;
  front = [];
  given = front_nothing (given_in l m rs);
  made = [];
  is = sym (append-nil before);
  rows = λ files told. (refl, told.quiet);
}

-- what is told from an index on
rest_told : (P : ℕ → Type 0) (count next : ℕ) (told : List HeldWord) (k : ℕ) (d : HeldWord) → k < length told → HoldsBetween P count next (indexes (drop k told)) → HoldsBetween P count next ((get_or told k d).index ∷ indexes (drop (k + 1) told))
rest_told P count next told k d lt all = subst (λ (hs : List HeldWord). HoldsBetween P count next (indexes hs)) (drop_more told k d lt) all

-- the relocations before the next one that is told are passed
reach : (l : WalkLinking) (m : ℕ) (rs : List Reloc) (told : List HeldWord) (k : ℕ) (d : HeldWord) (before after : List ConflictRow) → k < length told → (s : Rowed l m rs told k before after) → Passed l m rs s.next (get_or told k d).index s.front
reach l m rs told k d before after lt s =
    let all = rest_told (HasValueAt l m rs) (length rs) s.next told k d lt s.known in
    let n : ℕ = (get_or told k d).index in
    pass l m rs (n - s.next) s.next n s.front (omega (arith, all.1.0)) (omega (arith, all.1.1.0)) all.0 s.given

pub told_below : (l : WalkLinking) (m : ℕ) (rs : List Reloc) (told : List HeldWord) (k : ℕ) (d : HeldWord) (before after : List ConflictRow) → k < length told → Rowed l m rs told k before after → (get_or told k d).index < length rs
told_below l m rs told k d before after lt s = (rest_told (HasValueAt l m rs) (length rs) s.next told k d lt s.known).1.1.0

pub rowed_more : (l : WalkLinking) (m : ℕ) (rs : List Reloc) (told : List HeldWord) (k : ℕ) (d : HeldWord) (e : Reloc) (y : Meaning) (o : Option ConflictRow) (before after new : List ConflictRow) → k < length told
    → Ok y ≡ meaning_in l m (get_or rs (get_or told k d).index e) → IsRowBy y (get_or told k d).word o → new ≡ after ++ option_to_list o → Rowed l m rs told k before after → Rowed l m rs told (k + 1) before new
rowed_more l m rs told k d e y o before after new lt is made more s =
    let h = get_or told k d in
    let all = rest_told (HasValueAt l m rs) (length rs) s.next told k d lt s.known in
    let p = reach l m rs told k d before after lt s in
    let member : y.member ≡ m = member_is (objects_of l) l.places.now l.modules.now m (get_or rs h.index e) y (sym is) in
    record {
      next = h.index + 1;
      low = omega (arith, all.1.1.0);
      known = all.1.1.1;
      front = p.all ++ y ∷ [];
      given = reloc_more (value l) m rs h.index e p.all (p.all ++ y ∷ []) y (given_in l m rs) all.1.1.0 is refl p.given;
      made = s.made ++ option_to_list o;
      is = more ∙ ap (λ (zs : List ConflictRow). zs ++ option_to_list o) s.is ∙ append_assoc before s.made (option_to_list o);
      rows = λ files are.
          let so_far = s.rows files are in
          let quiet = rest_told (IsQuietAt l files m rs) (length rs) s.next told k d lt so_far.1 in
          let by : is_put y.word ≡ true → held files y.member y.start ≡ bytes64 h.word = λ put. ap (λ (n : ℕ). held files n y.start) member ∙ are.held k d lt e y (sym is) put in
          (ap (λ (zs : List ConflictRow). zs ++ option_to_list o) (so_far.0 ∙ sym (p.same files quiet.0)) ∙ rows_one files p.all y o (made files by), quiet.1.1.1);
    }

pub rowed_stops : (l : WalkLinking) (m : ℕ) (rs : List Reloc) (told : List HeldWord) (k : ℕ) (d : HeldWord) (e : Reloc) (fault : LinkFault) (before after : List ConflictRow) → k < length told → Err fault ≡ meaning_in l m (get_or rs (get_or told k d).index e)
    → Rowed l m rs told k before after → RefusesOne l m rs (Link fault)
rowed_stops l m rs told k d e fault before after lt is s =
    let all = rest_told (HasValueAt l m rs) (length rs) s.next told k d lt s.known in
    let p = reach l m rs told k d before after lt s in
    ap (because Link) (reloc_stops (value l) m rs (get_or told k d).index e p.all fault (given_in l m rs) all.1.1.0 is p.given)

none_told : (P : ℕ → Type 0) (count next : ℕ) (told : List HeldWord) (k : ℕ) → length told ≤ k → HoldsBetween P count next (indexes (drop k told)) → (i : ℕ) → next ≤ i → i < count → P i
none_told P count next [] zero le all = all
none_told P count next [] (suc k) le all = all
none_told P count next (h ∷ told) zero le all = absurd (omega (arith, le))
none_told P count next (h ∷ told) (suc k) le all = none_told P count next told k (omega (arith, le)) all

pub rowed_done : (l : WalkLinking) (m : ℕ) (rs : List Reloc) (told : List HeldWord) (k : ℕ) (before after : List ConflictRow) → length told ≤ k → Rowed l m rs told k before after → AddsRows l m rs told before after
rowed_done l m rs told k before after le s =
    let count : ℕ = length rs in
    let p = pass l m rs (count - s.next) s.next count s.front (omega (arith, s.low)) (omega arith) (none_told (HasValueAt l m rs) count s.next told k le s.known) s.given in
    record {
      all = p.all;
      given = relocs_done (value l) m rs count p.all (given_in l m rs) (omega arith) p.given;
      made = s.made;
      is = s.is;
      rows = λ files are.
          let so_far = s.rows files are in
          so_far.0 ∙ sym (p.same files (none_told (IsQuietAt l files m rs) count s.next told k le so_far.1));
    }

-- ---- one member after the other

-- the rows of what the members before an index give, and the words near ranges
pub record Listed (l : WalkLinking) (walk : List ℕ) (row_words : List RowWords) (ranges : List Range) (i : ℕ) (made : List ConflictRow) (near : List Meaning) : Type 0 where
  pub front : List Meaning
  pub rest : with_front front (each (meaning (objects_of l) l.places.now l.modules.now) (rows_from i (drop i (objects_of l)))) ≡ each (meaning (objects_of l) l.places.now l.modules.now) (rows (objects_of l))
  pub exact : (files : List LoadedObject) → AreAllTold l files walk row_words → made ≡ rows_of files front
  pub words : near ≡ filter (is_near_word ranges) front

-- those of all
pub record AreListed (l : WalkLinking) (walk : List ℕ) (row_words : List RowWords) (ranges : List Range) (made : List ConflictRow) (near : List Meaning) : Type 0 where
  pub all : List Meaning
  pub given : all_given l ≡ Ok all
  pub exact : (files : List LoadedObject) → AreAllTold l files walk row_words → made ≡ rows_of files all
  pub words : near ≡ filter (is_near_word ranges) all

-- the program makes no rows
row_none : (files : List LoadedObject) (m start : ℕ) (word : Word) → m ≡ 0 → row_of files m start word ≡ None
row_none files m start (Put word) first = rw (eq-eqb m 0 first) refl
row_none files m start (Copy member from bytes) first = refl
row_none files m start Nothing first = refl

none_of : (l : WalkLinking) (rs : List Reloc) (gs : List Meaning) (files : List LoadedObject) → AllZip (λ x g. value l x ≡ Ok g) (map (row 0) rs) gs → rows_of files gs ≡ []
unfolding rows_of
none_of l [] [] files zip = refl
none_of l [] (g ∷ gs) files zip = absurd zip
none_of l (r ∷ rs) [] files zip = absurd zip
none_of l (r ∷ rs) (g ∷ gs) files zip =
    let first : g.member ≡ 0 = member_is (objects_of l) l.places.now l.modules.now 0 r g zip.0 in
    rw (row_none files g.member g.start g.word first) (none_of l rs gs files zip.1)

first_none : (l : WalkLinking) (rs : List Reloc) (gs : List Meaning) (files : List LoadedObject) → given_in l 0 rs ≡ Ok gs → rows_of files gs ≡ []
first_none l rs gs files is = none_of l rs gs files (each_zip (value l) (map (row 0) rs) gs is)

pub listed_begin : (l : WalkLinking) (walk : List ℕ) (row_words : List RowWords) (ranges : List Range) (o : Object) (gs : List Meaning) (made : List ConflictRow) (near : List Meaning) → slice_get (objects_of l) 0 ≡ Some o → given_in l 0 o.relocations ≡ Ok gs → made ≡ [] → near ≡ filter (is_near_word ranges) gs
    → Listed l walk row_words ranges 1 made near
listed_begin l walk row_words ranges o gs made near at is none words =
    let os = objects_of l in
    let f = value l in
    let begin : with_front [] (each f (rows_from 0 (drop 0 os))) ≡ each f (rows os) = front_nothing (each f (rows os)) in
    record {
      front = gs;
      rest = member_more f os 0 o [] gs (each f (rows os)) at (front_nothing (each f (map (row 0) o.relocations)) ∙ is) begin;
      exact = λ files are. none ∙ sym (first_none l o.relocations gs files is);
      words = words;
    }

pub listed_more : (l : WalkLinking) (walk : List ℕ) (row_words : List RowWords) (ranges : List Range) (i : ℕ) (o : Object) (made new : List ConflictRow) (near more : List Meaning) → 0 < i → slice_get (objects_of l) i ≡ Some o
    → AddsRows l i o.relocations (told_at walk row_words i) made new → AddsNear l i o.relocations ranges near more → Listed l walk row_words ranges i made near → Listed l walk row_words ranges (i + 1) new more
listed_more l walk row_words ranges i o made new near more some at adds nears s =
    let os = objects_of l in
    let f = value l in
    let p = is_near_word ranges in
    record {
      front = s.front ++ adds.all;
      rest = member_more f os i o s.front (s.front ++ adds.all) (each f (rows os)) at (ap (with_front s.front) adds.given) s.rest;
      exact = λ files are.
          adds.is ∙ ap (λ (zs : List ConflictRow). zs ++ adds.made) (s.exact files are)
          ∙ ap (λ (zs : List ConflictRow). rows_of files s.front ++ zs) (adds.rows files (are i o some at)) ∙ rows_both files s.front adds.all;
      words = nears adds.all adds.given ∙ ap (λ (gs : List Meaning). gs ++ filter p adds.all) s.words ∙ sym (filter-append p s.front adds.all);
    }

pub listed_stops : (l : WalkLinking) (walk : List ℕ) (row_words : List RowWords) (ranges : List Range) (i : ℕ) (o : Object) (made : List ConflictRow) (near : List Meaning) (e : OrdinaryFault) → slice_get (objects_of l) i ≡ Some o → RefusesOne l i o.relocations e
    → Listed l walk row_words ranges i made near → MatchBool (is_memory e) ⊤ (because Link (all_given l) ≡ Err e)
unfolding meanings
listed_stops l walk row_words ranges i o made near e at stop s =
    let f = value l in
    member_stops f (objects_of l) i o s.front e (each f (rows (objects_of l))) at (front_err s.front (each f (map (row i) o.relocations)) e stop) s.rest

-- where the first member refuses
pub first_stops : (l : WalkLinking) (o : Object) (e : OrdinaryFault) → slice_get (objects_of l) 0 ≡ Some o → RefusesOne l 0 o.relocations e → MatchBool (is_memory e) ⊤ (because Link (all_given l) ≡ Err e)
unfolding meanings
first_stops l o e at stop =
    let f = value l in
    member_stops f (objects_of l) 0 o [] e (each f (rows (objects_of l))) at (front_err [] (each f (map (row 0) o.relocations)) e stop) (front_nothing (each f (rows (objects_of l))))

pub listed_done : (l : WalkLinking) (walk : List ℕ) (row_words : List RowWords) (ranges : List Range) (i : ℕ) (made : List ConflictRow) (near : List Meaning) → length (objects_of l) ≤ i → Listed l walk row_words ranges i made near → AreListed l walk row_words ranges made near
unfolding meanings
listed_done l walk row_words ranges i made near le s = record {
  all = s.front;
  given = members_done (value l) (objects_of l) i s.front (each (value l) (rows (objects_of l))) le s.rest;
  exact = s.exact;
  words = s.words;
}

-- ---- the whole

pub object_at : (os : List Object) (i : ℕ) → i < length os → (o : Object) × (slice_get os i ≡ Some o)
object_at [] i lt = absurd (omega (arith, lt))
object_at (o ∷ os) zero lt = (o, refl)
object_at (o ∷ os) (suc i) lt = object_at os i (omega (arith, lt))

pub first_listed : (l : WalkLinking) (walk : List ℕ) (row_words : List RowWords) (own : List Meaning) (ranges : List Range) (made : List ConflictRow) (near : List Meaning) → CanListRows l walk row_words own → made ≡ [] → near ≡ filter (is_near_word ranges) own → Listed l walk row_words ranges 1 made near
first_listed l walk row_words own ranges made near is none words =
    let first = object_at (objects_of l) 0 is.some in
    listed_begin l walk row_words ranges first.0 own made near first.1 (is.first first.0 first.1) none words

-- what is told of a member, as it is found
pub told_is : (walk : List ℕ) (row_words : List RowWords) (member row : ℕ) (s : RowWords) → row ≡ get_or walk member 0 → row < length row_words → s ≡ get_or row_words row s → told_at walk row_words member ≡ s.held
told_is walk row_words member row s at lt is =
    let there : slice_get row_words row ≡ Some s = slice_get-get_or row_words row s lt ∙ ap (λ (x : RowWords). Some x) (sym is) in
    ap (λ (n : ℕ). told_of (slice_get row_words n)) (sym at) ∙ ap told_of there

pub near_is : (l : WalkLinking) (walk : List ℕ) (row_words : List RowWords) (own : List Meaning) (made : List ConflictRow) (near : List Meaning) → AreListed l walk row_words (ranges_of own) made near → AreNear l own near
near_is l walk row_words own made near s = λ gs is. s.words ∙ ap (filter (is_near_word (ranges_of own))) (ok_same s.all gs (sym s.given ∙ is))

-- ---- a member

pub member_added : (l : WalkLinking) (m : ℕ) (told : List HeldWord) (ranges : List Range) (before after : RemainingRows) (o : Object) → slice_get (objects_of l) m ≡ Some o → AddsRows l m o.relocations told before.rows.items after.rows.items → AddsNear l m o.relocations ranges before.near.items after.near.items
    → AddsMember l m told ranges before after
member_added l m told ranges before after o here adds nears = record {
  rows = λ p at. subst (λ (x : Object). AddsRows l m x.relocations told before.rows.items after.rows.items) (same_Some o p (sym here ∙ at)) adds;
  near = λ p at. subst (λ (x : Object). AddsNear l m x.relocations ranges before.near.items after.near.items) (same_Some o p (sym here ∙ at)) nears;
}

-- its first relocation without a value is the member's, by the object that it is
pub refused_member : (l : WalkLinking) (m : ℕ) (o : Object) (rs : List Reloc) (fault : OrdinaryFault) → slice_get (objects_of l) m ≡ Some o → rs ≡ o.relocations → RefusesOne l m rs fault → RefusesMember l m fault
refused_member l m o rs fault here same refuses = λ p at. subst (λ (ks : List Reloc). RefusesOne l m ks fault) (same ∙ ap (λ (x : Object). x.relocations) (same_Some o p (sym here ∙ at))) refuses

pub memory_refused : (l : WalkLinking) (m : ℕ) (fault : OrdinaryFault) → is_memory fault ≡ true → RefusesMember l m fault
memory_refused l m fault memory = λ p at. subst (λ (b : Bool). MatchBool b ⊤ (because Link (given_in l m p.relocations) ≡ Err fault)) (sym memory) tt

pub empty_is : {X : Type 0} (xs : List X) → (length xs == 0) ≡ true → xs ≡ []
empty_is [] e = refl
empty_is (x ∷ xs) e = absurd (omega (arith, eqb-true (length (x ∷ xs)) 0 e))
