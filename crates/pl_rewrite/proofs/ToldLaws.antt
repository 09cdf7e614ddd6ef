-- What is told of a library's relocations is so in each walk that holds it, with its file at its slot.
use Rattle.std.proofs.Common.{◌≡◌, ℕ, ◌+◌, ◌<◌, true, List, [], ◌∷◌, length, get_or, Option, Some, None, Result, Ok, Err, refl, sym, ap, subst, ◌∙◌, arith}
use Rattle.std.specs.Prelude.{slice_get}
use Rattle.std.specs.List.{All, AllZip}
use Rattle.std.proofs.lemmas.Bool.{false≢true}
use Rattle.std.proofs.lemmas.List.Elements.{All-cons, All-nil}
use Rattle.pl_base.specs.Answers.{◌>>=◌}
use Rattle.pl_base.specs.Sums.{plus}
use Rattle.pl_base.proofs.AnswerLaws.{ok_same}
use Rattle.pl_cone.specs.OneWord.{GivesOneWordBy}
use Rattle.pl_cone.specs.Links.{objects_of}
use Rattle.pl_cone.specs.declared.scopes.WalkLinking.{WalkLinking}
use Rattle.pl_conflict.specs.Quiet.{HoldsWord}
use Rattle.pl_conflict.specs.Between.{HoldsBetween}
use Rattle.pl_conflict.specs.Conflicts.{held}
use Rattle.pl_conflict.specs.Held.{IsHeldWord}
use Rattle.pl_conflict.specs.Own.{own_words}
use Rattle.pl_conflict.proofs.MeaningLaws.{start_is}
use Rattle.pl_conflict.proofs.FormWordLaws.{forms_hold}
use Rattle.pl_form.specs.Words.{word_at}
use Rattle.pl_image.specs.Loads.{loaded_at}
use Rattle.pl_image.specs.declared.loaded_object.LoadedObject.{LoadedObject}
use Rattle.pl_object.specs.declared.object.Object.{Object}
use Rattle.pl_object.specs.declared.reloc.Reloc.{Reloc}
use Rattle.pl_scope.specs.declared.index.Entry.{Entry}
use Rattle.pl_tls.specs.declared.module.Module.{Module}
use Rattle.pl_value.specs.Meanings.{given, meaning, row}
use Rattle.pl_value.specs.Targets.{base_of}
use Rattle.pl_value.specs.Values.{value_of}
use Rattle.pl_value.specs.declared.fault.LinkFault.{LinkFault}
use Rattle.pl_value.specs.declared.meaning.Meaning.{Meaning}
use Rattle.pl_value.specs.declared.word.Word.{Word}
use Rattle.pl_value.specs.declared.word.Word.TheVariants.{Put, Copy, Nothing}
use Rattle.pl_rewrite.specs.Held.{AreHeld, IsHeldIn, IsWordIn}
use Rattle.pl_rewrite.specs.RemainingRows.{AreTold, HasValueAt, IsHeldOf, IsQuietAt, TellsHeldOf, indexes, is_put, meaning_in}
use Rattle.pl_rewrite.specs.declared.row_words.HeldWord.{HeldWord}
use Rattle.pl_rewrite.proofs.QuietLaws.{IsOwnForm, one_word_held, held_by, put_wide, quiet_of}

-- a library of a walk, its own walk at its places, and its file at its slot
pub record IsLibraryAt (definers : List Entry) (l : WalkLinking) (files : List LoadedObject) (m : ℕ) (o : Object) (remaining : List ℕ) (told : List HeldWord) : Type 0 where
  pub own : List Object
  pub places : List ℕ
  pub original : List ℕ
  pub file : List ℕ
  pub slot : ℕ
  pub form : IsOwnForm own places original file o slot
  pub of_one_word : HoldsBetween (λ i. (d : Reloc) → GivesOneWordBy definers own (get_or o.relocations i d)) (length o.relocations) 0 remaining
  pub one_word : (r : Reloc) → GivesOneWordBy definers own r → (w : Word) × (value_of own places [] 0 r ≡ Ok w) × ((tls : List Module) → value_of (objects_of l) l.places.now tls m r ≡ Ok w)
  pub held : AreHeld original o (own_words own places) remaining told
  pub there : slice_get files m ≡ Some (loaded_at slot file o)
  pub base : base_of l.places.now m ≡ slot

-- ---- the numbers that are told

told_numbers : (original : List LoadedObject) (rs : List Reloc) (words : List (Option ℕ)) (remaining : List ℕ) (told : List HeldWord) → AllZip (IsHeldIn original rs words) remaining told → remaining ≡ indexes told
told_numbers original rs words [] [] zip = refl
told_numbers original rs words [] (h ∷ told) zip = absurd zip
told_numbers original rs words (i ∷ remaining) [] zip = absurd zip
told_numbers original rs words (i ∷ remaining) (h ∷ told) zip =
    ap (λ (n : ℕ). n ∷ remaining) (sym zip.0.0) ∙ ap (λ (ns : List ℕ). h.index ∷ ns) (told_numbers original rs words remaining told zip.1)

between_within : (P Q : ℕ → Type 0) (count from : ℕ) (ns : List ℕ) → ((i : ℕ) → i < count → P i → Q i) → HoldsBetween P count from ns → HoldsBetween Q count from ns
between_within P Q count from [] step all = λ i low high. step i high (all i low high)
between_within P Q count from (n ∷ ns) step all =
    (λ i low high. step i (omega (arith, high, all.1.1.0)) (all.0 i low high), (all.1.0, (all.1.1.0, between_within P Q count (n + 1) ns step all.1.1.1)))

-- ---- those that are not told

quiet_at : (definers : List Entry) (l : WalkLinking) (files : List LoadedObject) (m : ℕ) (o : Object) (remaining : List ℕ) (told : List HeldWord) → (s : IsLibraryAt definers l files m o remaining told) → (i : ℕ) → i < length o.relocations
    → ((d : Reloc) → GivesOneWordBy definers s.own (get_or o.relocations i d)) → IsQuietAt l files m o.relocations i
quiet_at definers l files m o remaining told s i lt of_one_word d =
    let r = get_or o.relocations i d in
    let one = s.one_word r (of_one_word d) in
    let holds : HoldsWord (loaded_at s.slot s.file o ∷ []) (plus s.slot r.address) one.0 = one_word_held definers s.own s.places s.original s.file o s.slot i d one.0 s.form lt (of_one_word d) one.1 in
    quiet_of (objects_of l) l.places.now files m r one.0 (loaded_at s.slot s.file o) s.there one.2 (subst (λ (b : ℕ). HoldsWord (loaded_at s.slot s.file o ∷ []) (plus b r.address) one.0) (sym s.base) holds)

-- ---- those that are told

word_given : (l : WalkLinking) (m : ℕ) (r : Reloc) (v : Result Word LinkFault) (g : Meaning) → value_of (objects_of l) l.places.now l.modules.now m r ≡ v → (v >>= λ word. Ok (given l.places.now (row m r) word)) ≡ Ok g → is_put g.word ≡ true
    → (x : ℕ) × (value_of (objects_of l) l.places.now l.modules.now m r ≡ Ok (Put x))
word_given l m r (Err fault) g is e put = absurd cc
word_given l m r (Ok (Put x)) g is e put = (x, is)
word_given l m r (Ok (Copy member from size)) g is e put = absurd (false≢true (ap (λ (h : Meaning). is_put h.word) (ok_same (given l.places.now (row m r) (Copy member from size)) g e) ∙ put))
word_given l m r (Ok Nothing) g is e put = absurd (false≢true (ap (λ (h : Meaning). is_put h.word) (ok_same (given l.places.now (row m r) Nothing) g e) ∙ put))

value_given : (l : WalkLinking) (m : ℕ) (r : Reloc) (g : Meaning) → meaning_in l m r ≡ Ok g → is_put g.word ≡ true → (x : ℕ) × (value_of (objects_of l) l.places.now l.modules.now m r ≡ Ok (Put x))
unfolding meaning
value_given l m r g e put = word_given l m r (value_of (objects_of l) l.places.now l.modules.now m r) g refl e put

in_original : (original : List ℕ) (o : Object) (r : Reloc) (own : Option ℕ) (word : ℕ) → IsWordIn (loaded_at 0 original o ∷ []) r own word → IsHeldWord original o r own word
in_original original o r None word told = told
in_original original o r (Some x) word told = told

held_at : (definers : List Entry) (l : WalkLinking) (files : List LoadedObject) (m : ℕ) (o : Object) (remaining : List ℕ) (told : List HeldWord) → (s : IsLibraryAt definers l files m o remaining told) → (i : ℕ) (h : HeldWord) → i < length o.relocations
    → IsHeldIn (loaded_at 0 s.original o ∷ []) o.relocations (own_words s.own s.places) i h → IsHeldOf l files m o.relocations h
held_at definers l files m o remaining told s i h lt is d g e put =
    let moved : meaning_in l m (get_or o.relocations i d) ≡ Ok g = ap (λ (n : ℕ). meaning_in l m (get_or o.relocations n d)) (sym is.0) ∙ e in
    let r = get_or o.relocations i d in
    let word = value_given l m r g moved put in
    let wide : r.width ≡ 8 = put_wide (objects_of l) l.places.now l.modules.now m r o.symbols word.0 (s.form.wide i d lt) (s.form.no_copy i d lt) word.1 in
    let start : g.start ≡ plus s.slot r.address = start_is (objects_of l) l.places.now l.modules.now m r g moved ∙ ap (λ (b : ℕ). plus b r.address) s.base in
    let held_there = forms_hold s.original s.file o s.slot (own_words s.own s.places) i d h.word s.form.form s.form.placed lt wide (in_original s.original o r (word_at (own_words s.own s.places) i) h.word (is.1 d)) in
    ap (held files m) start ∙ held_by files (loaded_at s.slot s.file o) m (plus s.slot r.address) s.there ∙ held_there

all_held : (definers : List Entry) (l : WalkLinking) (files : List LoadedObject) (m : ℕ) (o : Object) (remaining : List ℕ) (told : List HeldWord) → (s : IsLibraryAt definers l files m o remaining told) → (from : ℕ) (ns : List ℕ) (hs : List HeldWord)
    → HoldsBetween (λ i. (d : Reloc) → GivesOneWordBy definers s.own (get_or o.relocations i d)) (length o.relocations) from ns → AllZip (IsHeldIn (loaded_at 0 s.original o ∷ []) o.relocations (own_words s.own s.places)) ns hs
    → All (IsHeldOf l files m o.relocations) hs
all_held definers l files m o remaining told s from [] [] between zip = All-nil (IsHeldOf l files m o.relocations)
all_held definers l files m o remaining told s from [] (h ∷ hs) between zip = absurd zip
all_held definers l files m o remaining told s from (n ∷ ns) [] between zip = absurd zip
all_held definers l files m o remaining told s from (n ∷ ns) (h ∷ hs) between zip =
    All-cons (IsHeldOf l files m o.relocations) h hs (held_at definers l files m o remaining told s n h between.1.1.0 zip.0) (all_held definers l files m o remaining told s (n + 1) ns hs between.1.1.1 zip.1)

-- ---- both

pub are_told : (definers : List Entry) (l : WalkLinking) (files : List LoadedObject) (m : ℕ) (o : Object) (remaining : List ℕ) (told : List HeldWord) → IsLibraryAt definers l files m o remaining told → AreTold l files m o.relocations told
are_told definers l files m o remaining told s =
    let count : ℕ = length o.relocations in
    let quiet : HoldsBetween (IsQuietAt l files m o.relocations) count 0 remaining =
    between_within (λ i. (d : Reloc) → GivesOneWordBy definers s.own (get_or o.relocations i d)) (IsQuietAt l files m o.relocations) count 0 remaining (λ i lt of_one_word. quiet_at definers l files m o remaining told s i lt of_one_word) s.of_one_word in
    record {
      quiet = subst (λ (ns : List ℕ). HoldsBetween (IsQuietAt l files m o.relocations) count 0 ns) (told_numbers (loaded_at 0 s.original o ∷ []) o.relocations (own_words s.own s.places) remaining told s.held) quiet;
      held = all_held definers l files m o remaining told s 0 remaining told s.of_one_word s.held;
    }

-- ---- those that are not told have values

given_value : (l : WalkLinking) (m : ℕ) (r : Reloc) (w : Word) → value_of (objects_of l) l.places.now l.modules.now m r ≡ Ok w → meaning_in l m r ≡ Ok (given l.places.now (row m r) w)
unfolding meaning
given_value l m r w e = ap (λ (v : Result Word LinkFault). v >>= λ word. Ok (given l.places.now (row m r) word)) e

pub tells_of : (definers : List Entry) (own : List Object) (l : WalkLinking) (m : ℕ) (o : Object) (remaining : List ℕ) (told : List HeldWord) → HoldsBetween (λ i. (d : Reloc) → GivesOneWordBy definers own (get_or o.relocations i d)) (length o.relocations) 0 remaining
    → ((r : Reloc) → GivesOneWordBy definers own r → (w : Word) × ((tls : List Module) → value_of (objects_of l) l.places.now tls m r ≡ Ok w)) → remaining ≡ indexes told → TellsHeldOf l m o.relocations told
tells_of definers own l m o remaining told of_one_word one is =
    subst (λ (ns : List ℕ). HoldsBetween (HasValueAt l m o.relocations) (length o.relocations) 0 ns) is
    (between_within (λ i. (d : Reloc) → GivesOneWordBy definers own (get_or o.relocations i d)) (HasValueAt l m o.relocations) (length o.relocations) 0 remaining
    (λ i lt each d.
    let r = get_or o.relocations i d in
    let w = one r (each d) in
    (given l.places.now (row m r) w.0, given_value l m r w.0 (w.1 l.modules.now))) of_one_word)

-- the same of a library of a walk
pub library_tells : (definers : List Entry) (l : WalkLinking) (files : List LoadedObject) (m : ℕ) (o : Object) (remaining : List ℕ) (told : List HeldWord) → IsLibraryAt definers l files m o remaining told → TellsHeldOf l m o.relocations told
library_tells definers l files m o remaining told s =
    tells_of definers s.own l m o remaining told s.of_one_word (λ r of_one_word. let w = s.one_word r of_one_word in (w.0, w.2)) (told_numbers (loaded_at 0 s.original o ∷ []) o.relocations (own_words s.own s.places) remaining told s.held)
