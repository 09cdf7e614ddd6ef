-- The image of a program at an address is that of the fixed program.
use Rattle.std.proofs.Common.{suc, length, subst, ◌≡◌, ℕ, ◌+◌, ◌-◌, ◌<◌, ◌≤◌, ◌^◌, true, false, List, [], ◌∷◌, ◌++◌, map, Option, Some, Result, Ok, Err, refl, sym, ap, ◌∙◌, arith, inl, inr}
use Rattle.std.specs.Prelude.{slice_get, slice_index}
use Rattle.std.specs.Option.{is_some}
use Rattle.std.proofs.lemmas.Option.{get_or_from_slice_get, slice_get_within}
use Rattle.std.specs.List.{All, AllZip, list_any, cons_option}
use Rattle.std.proofs.lemmas.Bool.{cases_Bool, false≢true}
use Rattle.std.proofs.lemmas.List.Elements.{All-head, All-tail}
use Rattle.pl_elf.specs.declared.constants.TheConstants.{ADDRESS_LIMIT}
use Rattle.pl_base.specs.Memory.{AtMostOne, Fill, Memory, Piece, filled, layered, lies}
use Rattle.pl_value.specs.declared.word.Word.TheVariants.{Copy, Nothing, Put}
use Rattle.law_fixed.specs.Laws.{FixedIsOrdinary, SameImage}
use Rattle.law_fixed.specs.Fixed.{IsFixedFile, fixed, is_relative_at}
use Rattle.pl_image.specs.Loads.{IsPlaced, is_masked, loaded_at, loaded_piece, mask_at, pieces_at}
use Rattle.pl_value.specs.declared.fault.LinkFault.{LinkFault}
use Rattle.pl_image.specs.declared.loaded_object.LoadedObject.{LoadedObject}
use Rattle.pl_image.specs.declared.mask.Mask.{Mask}
use Rattle.pl_value.specs.declared.meaning.Meaning.{Meaning}
use Rattle.pl_tls.specs.declared.module.Module.{Module}
use Rattle.pl_object.specs.declared.object.Object.{Object}
use Rattle.pl_elf.specs.declared.segment.Segment.{Segment}
use Rattle.pl_value.specs.declared.word.Word.{Word}
use Rattle.pl_image.specs.Image.{all_pieces}
use Rattle.pl_value.specs.Linked.{copies, copy_of, relocated, worded, words}
use Rattle.pl_value.specs.Ordinary.{ArePlaced, loaded_objects, loaded_from, ordinary, shown_linked}
use Rattle.pl_elf.specs.Headers.{loads}
use Rattle.pl_value.specs.Meanings.{meaning, meanings, rows, rows_from}
use Rattle.pl_base.specs.Answers.{◌>>=◌}
use Rattle.pl_base.proofs.MemoryLaws.{filled_same, within_true}
use Rattle.pl_value.proofs.LoneLaws.{most_lone, lone_cross}
use Rattle.law_fixed.proofs.MeaningLaws.{SameRow, SameAll, words_same, copies_same, meanings_same}
use Rattle.law_fixed.proofs.ImageLaws.{mask_moved, IsFree, domain_moved, free_moved, outside_moved, filled_covered, read_same, rest_kept}
use Rattle.law_fixed.proofs.SourceLaws.{Gives, each_given, covered, Sourced, Each, copies_sourced}

-- ---- copies of bytes that are the same

-- memories that agree in the pieces from which is copied give the same copies
copies_kept : (m n : Memory) (pieces : List Piece) (gs : List Meaning) → Each (λ g. Sourced pieces g.word) gs → ((a : ℕ) → list_any (lies a) pieces ≡ true → n a ≡ m a) → copies n gs ≡ copies m gs
unfolding copies Each Sourced
copies_kept m n pieces [] from same = refl
copies_kept m n pieces (g ∷ gs) from same =
    ap (λ (o : Option Fill). cons_option o (copies n gs)) (one g.start g.word from.0) ∙ ap (cons_option (copy_of m g.start g.word)) (copies_kept m n pieces gs from.1 same)
  where
    one : (start : ℕ) (w : Word) → Sourced pieces w → copy_of n start w ≡ copy_of m start w
    one start (Put word) source = refl
    one start (Copy member from size) source = ap (λ (bytes : List ℕ). Some (record { start = start; bytes = bytes })) (read_same m n from size (λ k lt. same (from + k) (source k lt)))
    one start Nothing source = refl

-- ---- the program's part and the rest

record Setting (at : ℕ) (o : Object) (bytes file : List ℕ) (rest : List Piece) : Type 0 where
  placed : IsPlaced at o
  is : IsFixedFile o bytes file
  apart : AtMostOne lies (pieces_at at bytes o ++ rest)

before : (at : ℕ) (o : Object) (bytes : List ℕ) (rest : List Piece) → Memory
before at o bytes rest = layered (pieces_at at bytes o ++ rest)

after : (at : ℕ) (o : Object) (file : List ℕ) (rest : List Piece) → Memory
after at o file rest = layered (pieces_at 0 file (fixed at o) ++ rest)

-- in the pieces of other members
rest_same : (at : ℕ) (o : Object) (bytes file : List ℕ) (rest : List Piece) (a : ℕ) → Setting at o bytes file rest → list_any (lies a) rest ≡ true → after at o file rest a ≡ before at o bytes rest a
unfolding before after
rest_same at o bytes file rest a s some = elim (cases_Bool (list_any (lies a) (pieces_at at bytes o))) [
  | inr miss ↦ outside_moved at o bytes file rest a s.placed miss
  | inl hit ↦ absurd (false≢true (sym (lone_cross lies (pieces_at at bytes o) rest (most_lone lies (pieces_at at bytes o ++ rest) s.apart) a hit) ∙ some))
]

-- an address of the program's own pieces is below the limit
own_below : (at a : ℕ) (bytes : List ℕ) (ss : List Segment) → All (λ s. at + (s.vaddr + s.memsz) ≤ ADDRESS_LIMIT) ss → list_any (lies a) (map (loaded_piece at bytes) ss) ≡ true → (at ≤ a) × (a < 2 ^ 64)
own_below at a bytes [] placed some = absurd (false≢true some)
own_below at a bytes (s ∷ ss) placed some =
    let fits : at + (s.vaddr + s.memsz) ≤ ADDRESS_LIMIT = All-head (λ t. at + (t.vaddr + t.memsz) ≤ ADDRESS_LIMIT) s ss placed in
    elim (cases_Bool (lies a (loaded_piece at bytes s))) [
      | inl hit ↦ let w = within_true (at + s.vaddr) s.memsz a hit in (omega (arith, w.0), omega (arith, w.1, fits))
      | inr miss ↦ own_below at a bytes ss (All-tail (λ t. at + (t.vaddr + t.memsz) ≤ ADDRESS_LIMIT) s ss placed) (rw miss at some)
    ]

-- with the words, at every address that is not masked
worded_same : (at : ℕ) (o : Object) (os : List Object) (ps : List ℕ) (modules : List Module) (bytes file : List ℕ) (rest : List Piece) (gs : List Meaning) (a : ℕ) → Setting at o bytes file rest → Gives (o ∷ os) (at ∷ ps) modules (rows (o ∷ os)) gs
    → is_masked (mask_at at o) a ≡ false → worded (after at o file rest) gs a ≡ worded (before at o bytes rest) gs a
unfolding rows_from before after
worded_same at o os ps modules bytes file rest gs a s gives seen = elim (cases_Bool (list_any (lies a) (pieces_at at bytes o))) [
  | inr miss ↦ filled_same (after at o file rest) (before at o bytes rest) (words gs) a (away miss)
  | inl hit ↦ elim (cases_Bool (list_any (is_relative_at (a - at)) o.relocations)) [
    | inr plain ↦ filled_same (after at o file rest) (before at o bytes rest) (words gs) a (here (record { seen = seen; plain = plain }))
    | inl some ↦
        let low = own_below at a bytes (loads o.segments) s.placed.ends hit in
        filled_covered (before at o bytes rest) (after at o file rest) (words gs) a
        (covered (o ∷ os) at ps modules o.relocations (rows_from 1 os) gs (a - at) a gives some (omega (arith, low.0)) low.1)
  ]
]
  where
    away : list_any (lies a) (pieces_at at bytes o) ≡ false → after at o file rest a ≡ before at o bytes rest a
    away miss = outside_moved at o bytes file rest a s.placed miss

    here : IsFree at o a → after at o file rest a ≡ before at o bytes rest a
    here free = free_moved at o bytes file rest a s.placed s.is free

-- with the copies
relocated_same : (at : ℕ) (o : Object) (os : List Object) (ps : List ℕ) (modules : List Module) (bytes file : List ℕ) (rest : List Piece) (gs hs : List Meaning) (a : ℕ) → Setting at o bytes file rest → Gives (o ∷ os) (at ∷ ps) modules (rows (o ∷ os)) gs
    → Each (λ g. Sourced rest g.word) gs → AllZip SameRow gs hs → is_masked (mask_at at o) a ≡ false → relocated (after at o file rest) hs a ≡ relocated (before at o bytes rest) gs a
unfolding relocated
relocated_same at o os ps modules bytes file rest gs hs a s gives from same seen =
    let m : Memory = worded (before at o bytes rest) gs in
    let n : Memory = worded (after at o file rest) gs in
    let all_words : words hs ≡ words gs = words_same gs hs same in
    let all_copies : copies n hs ≡ copies m gs = copies_same n gs hs same ∙ copies_kept m n rest gs from (λ b some. filled_same (after at o file rest) (before at o bytes rest) (words gs) b (rest_same at o bytes file rest b s some)) in
    ap (λ (fs : List Fill). filled (filled (after at o file rest) fs) (copies (filled (after at o file rest) fs) hs) a) all_words
    ∙ ap (λ (fs : List Fill). filled n fs a) all_copies
    ∙ filled_same n m (copies m gs) a (worded_same at o os ps modules bytes file rest gs a s gives seen)

-- ---- the image

-- the first member and the others
abbrev split : LoadedObject → List LoadedObject → List Piece
split first rest = first.pieces ++ all_pieces rest

shown_same : (at : ℕ) (o : Object) (os : List Object) (ps : List ℕ) (modules : List Module) (bytes file : List ℕ) (others : List LoadedObject) (gs hs : List Meaning) (a : ℕ) → Setting at o bytes file (all_pieces others) → Gives (o ∷ os) (at ∷ ps) modules (rows (o ∷ os)) gs
    → Each (λ g. Sourced (all_pieces others) g.word) gs → AllZip SameRow gs hs → shown_linked (loaded_at 0 file (fixed at o) ∷ others) hs a ≡ shown_linked (loaded_at at bytes o ∷ others) gs a
unfolding before after
shown_same at o os ps modules bytes file others gs hs a s gives from same =
    let rest : List Piece = all_pieces others in
    let m : Memory = before at o bytes rest in
    let n : Memory = after at o file rest in
    let domain : is_some (n a) ≡ is_some (m a) = domain_moved at o bytes file rest a s.placed in
    let mask : is_masked (mask_at 0 (fixed at o)) a ≡ is_masked (mask_at at o) a = ap (λ (k : Mask). is_masked k a) (mask_moved at o s.placed) in
    elim (cases_Bool (is_masked (mask_at at o) a)) [
      | inl hidden ↦ rw (domain, mask, hidden) refl
      | inr seen ↦
          let r : relocated n hs a ≡ relocated m gs a = relocated_same at o os ps modules bytes file rest gs hs a s gives from same seen in
          rw (domain, mask, r) refl
    ]

-- ---- the members at their places

first_placed : (at : ℕ) (o : Object) (os : List Object) (bytes : List ℕ) (parts : List (List ℕ)) (ps : List ℕ) → ArePlaced (at ∷ ps) (bytes ∷ parts) (o ∷ os) → IsPlaced at o
first_placed at o os bytes parts ps are = are.placed 0 o (omega arith)

others_placed : (at : ℕ) (o : Object) (os : List Object) (bytes : List ℕ) (parts : List (List ℕ)) (ps : List ℕ) → ArePlaced (at ∷ ps) (bytes ∷ parts) (o ∷ os)
    → (member : ℕ) (d : Object) → slice_get os member ≡ Some d → IsPlaced (slice_index ps member) d
others_placed at o os bytes parts ps are member d is =
    let lt : member < length os = slice_get_within os member d is in
    subst (IsPlaced (slice_index ps member)) (get_or_from_slice_get os member d d is) (are.placed (suc member) d (omega (arith, lt)))

pub fixed_is_ordinary : FixedIsOrdinary
unfolding ordinary loaded_from meanings
fixed_is_ordinary at o os bytes file parts ps modules movable is are =
    of_results (meanings (o ∷ os) (at ∷ ps) modules) (meanings (fixed at o ∷ os) (0 ∷ ps) modules) refl (meanings_same at o os ps modules movable)
  where
    rest : List LoadedObject
    rest = loaded_from (at ∷ ps) (bytes ∷ parts) 1 os

    of_results : (r t : Result (List Meaning) LinkFault) → meanings (o ∷ os) (at ∷ ps) modules ≡ r → SameAll r t
        → SameImage (r >>= λ gs. Ok (shown_linked (loaded_objects (at ∷ ps) (bytes ∷ parts) (o ∷ os)) gs)) (t >>= λ hs. Ok (shown_linked (loaded_objects (0 ∷ ps) (file ∷ parts) (fixed at o ∷ os)) hs))
    of_results (Ok gs) (Ok hs) e same = λ a.
        let gives : Gives (o ∷ os) (at ∷ ps) modules (rows (o ∷ os)) gs = each_given (meaning (o ∷ os) (at ∷ ps) modules) (rows (o ∷ os)) gs e in
        let s : Setting at o bytes file (all_pieces (loaded_from (at ∷ ps) (bytes ∷ parts) 1 os)) = record { placed = first_placed at o os bytes parts ps are; is = is; apart = are.apart } in
        ap (λ (ls : List LoadedObject). shown_linked (loaded_at 0 file (fixed at o) ∷ ls) hs a) (rest_kept at ps bytes file parts 1 os (omega arith))
        ∙ shown_same at o os ps modules bytes file (loaded_from (at ∷ ps) (bytes ∷ parts) 1 os) gs hs a s gives (copies_sourced at o os ps (bytes ∷ parts) modules gs movable (others_placed at o os bytes parts ps are) gives) same
    of_results (Ok gs) (Err f) e same = same
    of_results (Err e) (Ok hs) is_err same = same
    of_results (Err e) (Err f) is_err same = same
