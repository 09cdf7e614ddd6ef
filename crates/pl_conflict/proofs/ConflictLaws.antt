-- The rows of an accepted scope at disjoint places have addresses that differ.
use Rattle.std.proofs.Common.{◌≡◌, ℕ, suc, ◌+◌, ◌<◌, Bool, true, false, cond, List, [], ◌∷◌, ◌++◌, length, Some, None, Result, Ok, Err, refl, sym, ap, subst, ◌∙◌, arith, inl, inr, get_or}
use Rattle.std.specs.Prelude.{◌||◌, ◌==◌, MatchBool, ⊤}
use Rattle.std.specs.Option.{IfSome}
use Rattle.std.specs.Str.{bytes_eq}
use Rattle.std.specs.List.{All, AllZip, AllByRecursion, IsDistinct, list_any, filter_map, cons_option}
use Rattle.std.specs.List.Sorted.{IsPermutation, IsNonDecreasingBy}
use Rattle.std.proofs.lemmas.Bool.{cases_Bool, false≢true, or_parts}
use Rattle.std.proofs.lemmas.Bool.Decides.{nat_tests}
use Rattle.std.proofs.lemmas.List.Elements.{All-head, All-tail}
use Rattle.std.proofs.lemmas.Option.{slice_get_within}
use Rattle.pl_base.specs.Answers.{because, ◌>>=◌}
use Rattle.pl_base.specs.Bytes.{bytes64}
use Rattle.pl_base.specs.Memory.{Piece, lies, is_within}
use Rattle.pl_base.proofs.AnswerLaws.{because_ok}
use Rattle.pl_base.proofs.MemoryLaws.{within_is}
use Rattle.pl_tls.specs.declared.module.Module.{Module}
use Rattle.pl_elf.specs.declared.segment.Segment.{Segment}
use Rattle.pl_elf.specs.Headers.{loads}
use Rattle.pl_object.specs.declared.object.Object.{Object}
use Rattle.pl_image.specs.Image.{all_pieces}
use Rattle.pl_image.specs.Loads.{loaded_pieces, pieces_at}
use Rattle.pl_image.specs.declared.loaded_object.LoadedObject.{LoadedObject}
use Rattle.pl_lists.specs.Conflicts.{ascend}
use Rattle.pl_lists.specs.declared.conflict_row.ConflictRow.{ConflictRow}
use Rattle.pl_scope.specs.Scope.{IsAccepted}
use Rattle.pl_value.specs.Laws.{AreRead, Fits, AllFit, is_shared_at}
use Rattle.pl_value.specs.Linked.{under}
use Rattle.pl_value.specs.Meanings.{Row, rows, meanings, is_memory}
use Rattle.pl_value.specs.Ordinary.{loaded_objects, loaded_from, part_of, ArePlaced}
use Rattle.pl_value.specs.Targets.{base_of}
use Rattle.pl_value.specs.declared.fault.LinkFault.{LinkFault}
use Rattle.pl_value.specs.declared.fault.OrdinaryFault.{OrdinaryFault}
use Rattle.pl_value.specs.declared.fault.OrdinaryFault.TheVariants.{Link, NoMemory}
use Rattle.pl_value.specs.declared.meaning.Meaning.{Meaning}
use Rattle.pl_value.specs.declared.word.Word.{Word}
use Rattle.pl_value.specs.declared.word.Word.TheVariants.{Put, Copy, Nothing}
use Rattle.pl_value.proofs.ApartLaws.{places_are_apart}
use Rattle.pl_value.proofs.CollectingLaws.{linked_err}
use Rattle.pl_value.proofs.FitLaws.{words_fit}
use Rattle.pl_value.proofs.LoneLaws.{Lone, lone_most, most_lone, lone_zip}
use Rattle.pl_value.proofs.MeaningLaws.{IsGiven, meanings_given, zip_all}
use Rattle.pl_value.proofs.RowLaws.{IsKnown, rows_known}
use Rattle.pl_conflict.specs.Conflicts.{held, row_of, rows_of, ascending, conflicts}
use Rattle.pl_conflict.proofs.OrderLaws.{same_address, sorted_ascending, ascending_ascend}

-- ---- the addresses of rows

-- a row begins where its place does
row_under : (files : List LoadedObject) (member start size : ℕ) (library : Bool) (word : Word) → Fits library size word → IfSome (row_of files member start word) (λ r. is_within start size r.address ≡ true)
row_under files member start size library (Put w) fit =
    let eight : size ≡ 8 = fit in
    let here : is_within start size start ≡ true = within_is start size start (omega arith) (omega (arith, eight)) in
    elim (member == 0 || bytes_eq (held files member start) (bytes64 w)) as (λ b. IfSome {T = ConflictRow} (cond b None (Some (record { address = start; word = w }))) (λ r. is_within start size r.address ≡ true)) [
      | true ↦ tt
      | false ↦ here
    ]
row_under files member start size library (Copy from at n) fit = tt
row_under files member start size library Nothing fit = tt

not_same : (start size : ℕ) (r s : ConflictRow) → is_within start size r.address ≡ false → is_within start size s.address ≡ true → same_address r s ≡ false
not_same start size r s away here = elim (cases_Bool (same_address r s)) [
  | inl same ↦
      let is : r.address ≡ s.address = equal r.address s.address same in
      absurd (false≢true (sym away ∙ ap (is_within start size) is ∙ here))
  | inr differ ↦ differ
]
  where
    equal : (a b : ℕ) → (a == b) ≡ true → a ≡ b
    equal a b h = grind (arith, nat_tests)

-- a row whose address is under no place differs from all rows
row_differs : (files : List LoadedObject) (library : ℕ → Bool) (r : ConflictRow) (gs : List Meaning) → AllFit library gs → list_any (under r.address) gs ≡ false → AllByRecursion (λ s. same_address r s ≡ false) (filter_map (λ g. row_of files g.member g.start g.word) gs)
row_differs files library r [] fit none = tt
row_differs files library r (g ∷ gs) fit none =
    let parts = or_parts (under r.address g) (list_any (under r.address) gs) none in
    let rest = row_differs files library r gs (All-tail (λ g. Fits (library g.member) g.size g.word) g gs fit) parts.1 in
    elim (row_of files g.member g.start g.word)
    as (λ o. IfSome o (λ s. is_within g.start g.size s.address ≡ true) → AllByRecursion (λ s. same_address r s ≡ false) (cons_option o (filter_map (λ g. row_of files g.member g.start g.word) gs))) [
      | None ↦ λ _. rest
      | Some s ↦ λ here. (not_same g.start g.size r s parts.0 here, rest)
    ] (row_under files g.member g.start g.size (library g.member) g.word (All-head (λ g. Fits (library g.member) g.size g.word) g gs fit))

rows_differ : (files : List LoadedObject) (library : ℕ → Bool) (gs : List Meaning) → AllFit library gs → Lone under gs → IsDistinct same_address (rows_of files gs)
unfolding rows_of IsDistinct
rows_differ files library [] fit lone = tt
rows_differ files library (g ∷ gs) fit lone =
    let fits = All-tail (λ g. Fits (library g.member) g.size g.word) g gs fit in
    let rest = rows_differ files library gs fits lone.1 in
    elim (row_of files g.member g.start g.word)
    as (λ o. IfSome o (λ s. is_within g.start g.size s.address ≡ true) → IsDistinct same_address (cons_option o (filter_map (λ g. row_of files g.member g.start g.word) gs))) [
      | None ↦ λ _. rest
      | Some r ↦ λ here. (row_differs files library r gs fits (lone.0 r.address here), rest)
    ] (row_under files g.member g.start g.size (library g.member) g.word (All-head (λ g. Fits (library g.member) g.size g.word) g gs fit))

-- ---- accepted objects, and other files at their places

-- the files of which acceptance read the objects
originals_of : (objects : List Object) → All IsAccepted objects → (parts : List (List ℕ)) × AreRead parts objects
originals_of [] all = ([], tt)
originals_of (o ∷ os) all =
    let first : IsAccepted o = All-head IsAccepted o os all in
    let rest = originals_of os (All-tail IsAccepted o os all) in
    (first.bytes ∷ rest.0, (first.read, rest.1))

-- pieces over the same addresses
abbrev Alike : List Piece → List Piece → Type 0
Alike ps qs = AllZip (λ p q. (a : ℕ) → lies a q ≡ lies a p) ps qs

alike_join : (ps qs rs ss : List Piece) → Alike ps qs → Alike rs ss → Alike (ps ++ rs) (qs ++ ss)
alike_join [] [] rs ss one two = two
alike_join [] (q ∷ qs) rs ss one two = absurd one
alike_join (p ∷ ps) [] rs ss one two = absurd one
alike_join (p ∷ ps) (q ∷ qs) rs ss one two = (one.0, alike_join ps qs rs ss one.1 two)

alike_pieces : (place : ℕ) (file other : List ℕ) (ss : List Segment) → Alike (loaded_pieces place file ss) (loaded_pieces place other ss)
alike_pieces place file other [] = tt
alike_pieces place file other (s ∷ ss) = (λ a. refl, alike_pieces place file other ss)

alike_from : (places : List ℕ) (parts others : List (List ℕ)) (member : ℕ) (os : List Object) → Alike (all_pieces (loaded_from places parts member os)) (all_pieces (loaded_from places others member os))
unfolding loaded_from
alike_from places parts others member [] = tt
alike_from places parts others member (o ∷ os) =
    alike_join (pieces_at (base_of places member) (part_of parts member) o) (pieces_at (base_of places member) (part_of others member) o)
    (all_pieces (loaded_from places parts (member + 1) os)) (all_pieces (loaded_from places others (member + 1) os))
    (alike_pieces (base_of places member) (part_of parts member) (part_of others member) (loads o.segments)) (alike_from places parts others (member + 1) os)

pub placed_again : (objects : List Object) (places : List ℕ) (parts others : List (List ℕ)) → ArePlaced places parts objects → ArePlaced places others objects
placed_again objects places parts others are = record {
  placed = are.placed;
  apart = lone_most lies (all_pieces (loaded_objects places others objects))
      (lone_zip lies lies (all_pieces (loaded_objects places parts objects)) (all_pieces (loaded_objects places others objects)) (alike_from places parts others 0 objects) (most_lone lies (all_pieces (loaded_objects places parts objects)) are.apart));
}

-- ---- the rows

pub differ : (objects : List Object) (parts : List (List ℕ)) (places : List ℕ) (modules : List Module) (gs : List Meaning) → All IsAccepted objects → ArePlaced places parts objects → meanings objects places modules ≡ Ok gs → IsDistinct same_address (rows_of (loaded_objects places parts objects) gs)
differ objects parts places modules gs accepted placed is =
    let read = originals_of objects accepted in
    rows_differ (loaded_objects places parts objects) (is_shared_at objects) gs (words_fit read.0 objects places modules gs read.1 is)
    (most_lone under gs (places_are_apart read.0 objects places modules gs read.1 (placed_again objects places parts read.0 placed) is))

-- each meaning is of a member
pub length_loaded : (places : List ℕ) (parts : List (List ℕ)) (member : ℕ) (os : List Object) → length (loaded_from places parts member os) ≡ length os
unfolding loaded_from
length_loaded places parts member [] = refl
length_loaded places parts member (o ∷ os) = ap suc (length_loaded places parts (member + 1) os)

pub members_within : (objects : List Object) (parts : List (List ℕ)) (places : List ℕ) (modules : List Module) (gs : List Meaning) → All IsAccepted objects → meanings objects places modules ≡ Ok gs → All (λ g. g.member < length (loaded_objects places parts objects)) gs
members_within objects parts places modules gs accepted is =
    let read = originals_of objects accepted in
    zip_all (IsGiven objects places modules) (IsKnown objects) (λ g. g.member < length (loaded_objects places parts objects)) (rows objects) gs
    (λ x g is_given known. within x g (ap (λ (h : Meaning). h.member) is_given.is) (slice_get_within objects x.member known.object known.at)) (meanings_given objects places modules gs is) (rows_known read.0 objects read.1)
  where
    within : (x : Row) (g : Meaning) → x.member ≡ g.member → x.member < length objects → g.member < length (loaded_objects places parts objects)
    within x g same lt = omega (arith, same, lt, length_loaded places parts 0 objects)

-- the same of members and of what they load
pub loaded_within : (objects : List Object) (parts : List (List ℕ)) (places : List ℕ) (gs : List Meaning) → All (λ g. g.member < length objects) gs → All (λ g. g.member < length (loaded_objects places parts objects)) gs
loaded_within objects parts places gs all = λ k d lt.
    let one : (get_or gs k d).member < length objects = all k d lt in
    omega (arith, one, length_loaded places parts 0 objects)

pub objects_within : (objects : List Object) (places : List ℕ) (modules : List Module) (gs : List Meaning) → All IsAccepted objects → meanings objects places modules ≡ Ok gs → All (λ g. g.member < length objects) gs
objects_within objects places modules gs accepted is = λ k d lt.
    let one : (get_or gs k d).member < length (loaded_objects places [] objects) = members_within objects [] places modules gs accepted is k d lt in
    omega (arith, one, length_loaded places [] 0 objects)

-- sorted rows are the conflicts
pub conflicts_ok : (objects : List Object) (parts : List (List ℕ)) (places : List ℕ) (modules : List Module) (gs : List Meaning) (found sorted : List ConflictRow) → All IsAccepted objects → ArePlaced places parts objects → because Link (meanings objects places modules) ≡ Ok gs
    → found ≡ rows_of (loaded_objects places parts objects) gs → IsPermutation found sorted → IsNonDecreasingBy (λ r. r.address) sorted → (because Link (conflicts objects parts places modules) ≡ Ok sorted) × (ascend sorted ≡ true)
unfolding conflicts
conflicts_ok objects parts places modules gs found sorted accepted placed is made perm up =
    let ok = because_ok Link (meanings objects places modules) gs is in
    let apart = differ objects parts places modules gs accepted placed ok in
    let same : ascending (rows_of (loaded_objects places parts objects) gs) ≡ sorted =
    sorted_ascending (rows_of (loaded_objects places parts objects) gs) sorted apart (subst (λ (rs : List ConflictRow). IsPermutation rs sorted) made perm) up in
    (ap (λ (r : Result (List Meaning) LinkFault). because Link (r >>= λ ms. Ok (ascending (rows_of (loaded_objects places parts objects) ms)))) ok ∙ ap (λ (rs : List ConflictRow). Ok rs) same, subst (λ (rs : List ConflictRow). ascend rs ≡ true) same (ascending_ascend (rows_of (loaded_objects places parts objects) gs) apart))

-- a refusal of a meaning is that of the conflicts
pub conflicts_err : (objects : List Object) (parts : List (List ℕ)) (places : List ℕ) (modules : List Module) (e : OrdinaryFault) → MatchBool (is_memory e) ⊤ (because Link (meanings objects places modules) ≡ Err e) → MatchBool (is_memory e) ⊤ (because Link (conflicts objects parts places modules) ≡ Err e)
unfolding conflicts
conflicts_err objects parts places modules NoMemory stop = tt
conflicts_err objects parts places modules (Link fault) stop = rw (linked_err (meanings objects places modules) fault stop) refl
