-- With the conflict rows, files that stand for originals are the originals relocated, in any scope.
use Rattle.std.proofs.Common.{◌≡◌, ℕ, zero, suc, ◌+◌, ◌-◌, ◌<◌, ◌≤◌, Bool, true, false, List, [], ◌∷◌, length, map, get_or, drop, Option, Some, Result, Ok, refl, sym, ap, subst, ◌∙◌, arith, inl, inr}
use Rattle.std.specs.Prelude.{◌&&◌, ◌||◌, ◌==◌, slice_get, slice_index}
use Rattle.std.specs.List.{All, AllZip, list_any}
use Rattle.std.specs.List.Sorted.{IsPermutation}
use Rattle.std.specs.Option.{is_some, unwrap_or}
use Rattle.std.proofs.lemmas.Bool.{cases_Bool, and_parts, and_from, eqb-true, eq-eqb, false≢true}
use Rattle.std.proofs.lemmas.List.Elements.{All-nil, All-append, All-map}
use Rattle.std.proofs.lemmas.List.Folds.{list_any-append, Any-from_list_any}
use Rattle.std.proofs.lemmas.Option.{slice_get_within}
use Rattle.pl_base.specs.Answers.{◌>>=◌}
use Rattle.pl_base.specs.Memory.{Memory, Piece, AtMostOne, lies, byte_at, layered, read, shown, filled}
use Rattle.pl_base.proofs.AnswerLaws.{ok_same}
use Rattle.pl_base.proofs.MemoryLaws.{IsLike, same_domain, read_byte, within_true}
use Rattle.pl_object.specs.declared.object.Object.{Object}
use Rattle.pl_image.specs.Image.{all_pieces, any_masked, byte_of}
use Rattle.pl_image.specs.Loads.{pieces_at, loaded_at, is_masked, IsPlaced}
use Rattle.pl_image.specs.declared.loaded_object.LoadedObject.{LoadedObject}
use Rattle.pl_lists.specs.declared.conflict_row.ConflictRow.{ConflictRow}
use Rattle.pl_tls.specs.declared.module.Module.{Module}
use Rattle.pl_value.specs.Laws.{Fits, AllFit, AreRead}
use Rattle.pl_value.specs.Linked.{under}
use Rattle.pl_value.specs.Meanings.{Row, row, rows, rows_from, meanings}
use Rattle.pl_value.specs.Ordinary.{part_of, loaded_from, loaded_objects, ArePlaced}
use Rattle.pl_value.specs.Targets.{base_of}
use Rattle.pl_value.specs.declared.fault.LinkFault.{LinkFault}
use Rattle.pl_value.specs.declared.meaning.Meaning.{Meaning}
use Rattle.pl_value.specs.declared.word.Word.{Word}
use Rattle.pl_value.specs.declared.word.Word.TheVariants.{Put, Copy, Nothing}
use Rattle.pl_value.proofs.ApartLaws.{places_are_apart}
use Rattle.pl_value.proofs.FitLaws.{words_fit}
use Rattle.pl_value.proofs.LoneLaws.{lone_most, most_lone, lone_zip}
use Rattle.pl_value.proofs.MeaningLaws.{IsGiven, meanings_given, zip_all, zip_weaker}
use Rattle.pl_value.proofs.PlaceLaws.{reloc_over, IsHeld, relocs_held}
use Rattle.pl_value.proofs.RowLaws.{IsKnown, rows_known}
use Rattle.pl_conflict.specs.Conflicts.{pieces_in, held, rows_of, ascending, conflicts}
use Rattle.pl_conflict.specs.Fast.{is_library, patches, Holds, AreForms}
use Rattle.pl_conflict.specs.Standing.{standing_from, standing}
use Rattle.pl_conflict.specs.Complete.{IsProgramScope, Stands, ConflictsAreComplete}
use Rattle.pl_conflict.proofs.OrderLaws.{ascending_perm}
use Rattle.pl_conflict.proofs.PieceLaws.{fast_ordinary}

-- ---- masks and extents are the originals'

masked_from : (places : List ℕ) (originals files : List (List ℕ)) (member : ℕ) (os : List Object) (a : ℕ) → any_masked (standing_from places files member os) a ≡ any_masked (loaded_from places originals member os) a
unfolding standing_from loaded_from
masked_from places originals files member [] a = refl
masked_from places originals files member (o ∷ os) a =
    let here : Bool = is_masked (loaded_at (base_of places member) (part_of originals member) o).mask a in
    ap (λ (b : Bool). here || b) (masked_from places originals files (member + 1) os a)

likes : (ps qs : List Piece) → AllZip Stands ps qs → AllZip IsLike ps qs
likes ps qs all = zip_weaker Stands IsLike ps qs (λ p q s. record { start = s.start; size = s.size }) all

alike : (ps qs : List Piece) → AllZip Stands ps qs → AllZip (λ p q. (a : ℕ) → lies a q ≡ lies a p) ps qs
alike ps qs all = zip_weaker Stands (λ p q. (a : ℕ) → lies a q ≡ lies a p) ps qs (λ p q s a. rw (s.start, s.size) refl) all

shown_over : (base other : Memory) (masked hidden : ℕ → Bool) (m : Memory) (a : ℕ) → is_some (other a) ≡ is_some (base a) → hidden a ≡ masked a → shown other hidden m a ≡ shown base masked m a
shown_over base other masked hidden m a same mask = rw (same, mask) refl

-- ---- a library's place has the bytes that its file holds

-- the first of the pieces over an address has its byte
unfoldable pub is_byte : ℕ → ℕ → Piece → Bool
is_byte a n q = lies a q && byte_at a q == n

pub either_first : (b c : Bool) → b ≡ true → (b || c) ≡ true
either_first b c e = rw e refl

pub either_second : (b c : Bool) → c ≡ true → (b || c) ≡ true
either_second true c e = refl
either_second false c e = e

layered_here : (ps : List Piece) (a : ℕ) → list_any (lies a) ps ≡ true → list_any (is_byte a (unwrap_or (layered ps a) 0)) ps ≡ true
unfolding layered is_byte
layered_here [] a any = absurd (false≢true any)
layered_here (p ∷ ps) a any =
    let n : ℕ = unwrap_or (layered (p ∷ ps) a) 0 in
    elim (cases_Bool (lies a p)) [
      | inl hit ↦
          let same : unwrap_or (layered (p ∷ ps) a) 0 ≡ byte_at a p = rw hit refl in
          either_first (is_byte a n p) (list_any (is_byte a n) ps) (and_from (lies a p) (byte_at a p == n) hit (eq-eqb (byte_at a p) n (sym same)))
      | inr miss ↦
          let same : layered (p ∷ ps) a ≡ layered ps a = rw miss refl in
          let rest : list_any (lies a) ps ≡ true = rw miss at any in
          either_second (is_byte a n p) (list_any (is_byte a n) ps) (subst (λ (o : Option ℕ). list_any (is_byte a (unwrap_or o 0)) ps ≡ true) (sym same) (layered_here ps a rest))
    ]

-- and so one of all pieces has it
any_of_all : (test : Piece → Bool) (ls : List LoadedObject) (m : ℕ) → list_any test (pieces_in (slice_get ls m)) ≡ true → list_any test (all_pieces ls) ≡ true
any_of_all test [] m some = absurd (false≢true some)
any_of_all test (l ∷ ls) zero some = list_any-append test l.pieces (all_pieces ls) ∙ either_first (list_any test l.pieces) (list_any test (all_pieces ls)) some
any_of_all test (l ∷ ls) (suc m) some = list_any-append test l.pieces (all_pieces ls) ∙ either_second (list_any test l.pieces) (list_any test (all_pieces ls)) (any_of_all test ls m some)

pub holds_of : (qs : List Piece) (a n : ℕ) → list_any (is_byte a n) qs ≡ true → Holds qs a (Some n)
unfolding is_byte
holds_of qs a n some =
    let f = Any-from_list_any (is_byte a n) qs some in
    let p = and_parts (lies a f.1) (byte_at a f.1 == n) f.4 in
    (f.0, f.1, f.2, f.3, (p.0, ap (λ (k : ℕ). Some k) (eqb-true (byte_at a f.1) n p.1)))

-- members after the first are the same in lists that differ in the first alone
later_same : (xs ys : List LoadedObject) (m : ℕ) → drop 1 xs ≡ drop 1 ys → slice_get xs (suc m) ≡ slice_get ys (suc m)
later_same [] [] m e = refl
later_same [] (y ∷ ys) m e = ap (λ (zs : List LoadedObject). slice_get zs m) e
later_same (x ∷ xs) [] m e = ap (λ (zs : List LoadedObject). slice_get zs m) e
later_same (x ∷ xs) (y ∷ ys) m e = ap (λ (zs : List LoadedObject). slice_get zs m) e

pub library_same : (xs ys : List LoadedObject) (m : ℕ) → drop 1 xs ≡ drop 1 ys → is_library m ≡ true → slice_get xs m ≡ slice_get ys m
library_same xs ys zero e is = absurd (false≢true is)
library_same xs ys (suc m) e is = later_same xs ys m e

-- the byte that a library's file holds at an address of a place is in a piece
held_there : (members stood : List LoadedObject) (m start size a : ℕ) → drop 1 members ≡ drop 1 stood → is_library m ≡ true → size ≡ 8 → start ≤ a → a < start + size → list_any (lies a) (pieces_in (slice_get members m)) ≡ true
    → Holds (all_pieces stood) a (Some (slice_index (held members m start) (a - start)))
unfolding held
held_there members stood m start size a same library eight from to some =
    let here : List Piece = pieces_in (slice_get members m) in
    let n : ℕ = unwrap_or (layered here a) 0 in
    let byte : slice_index (read (layered here) start 8) (a - start) ≡ n =
    read_byte (layered here) start 8 (a - start) (omega (arith, eight, from, to)) ∙ ap (λ (x : ℕ). unwrap_or (layered here x) 0) (omega (arith, from)) in
    let there : list_any (is_byte a n) (pieces_in (slice_get stood m)) ≡ true =
    subst (λ (o : Option LoadedObject). list_any (is_byte a n) (pieces_in o) ≡ true) (library_same members stood m same library) (layered_here here a some) in
    subst (λ (k : ℕ). Holds (all_pieces stood) a (Some k)) (sym byte) (holds_of (all_pieces stood) a n (any_of_all (is_byte a n) stood m there))

-- ---- places lie in the pieces of their members

IsCovered : List ℕ → List LoadedObject → Row → Type 0
IsCovered places members x = (a : ℕ) → reloc_over (base_of places x.member) a x.reloc ≡ true → list_any (lies a) (pieces_in (slice_get members x.member)) ≡ true

AtPlaces : List ℕ → ℕ → List Object → Type 0
AtPlaces places member os = (k : ℕ) (d : Object) → k < length os → IsPlaced (base_of places (member + k)) (get_or os k d)

covered_from : (places : List ℕ) (originals files : List (List ℕ)) (members : List LoadedObject) (member : ℕ) (os : List Object) → ((k : ℕ) → slice_get members (member + k) ≡ slice_get (loaded_from places files member os) k)
    → AreRead originals os → AtPlaces places member os → All (IsCovered places members) (rows_from member os)
unfolding rows_from loaded_from IsCovered AtPlaces
covered_from places [] files members member [] same read placed = All-nil (IsCovered places members)
covered_from places [] files members member (o ∷ os) same read placed = absurd read
covered_from places (original ∷ originals) files members member [] same read placed = absurd read
covered_from places (original ∷ originals) files members member (o ∷ os) same read placed =
    let base = base_of places member in
    let bytes = part_of files member in
    let first : IsPlaced base o = subst (λ (n : ℕ). IsPlaced (base_of places n) o) (omega arith) (placed zero o (omega arith)) in
    let next : AtPlaces places (member + 1) os = λ k d lt. subst (λ (n : ℕ). IsPlaced (base_of places n) (get_or os k d)) (omega arith) (placed (suc k) d (omega (arith, lt))) in
    let at : slice_get members member ≡ Some (loaded_at base bytes o) = ap (slice_get members) (omega arith) ∙ same 0 in
    let later : (k : ℕ) → slice_get members (member + 1 + k) ≡ slice_get (loaded_from places files (member + 1) os) k = λ k. ap (slice_get members) (omega arith) ∙ same (suc k) in
    let all : All (IsHeld base (pieces_at base bytes o)) o.relocations = relocs_held base bytes original o first read.0 in
    All-append (IsCovered places members) (map (row member) o.relocations) (rows_from (member + 1) os)
    (All-map (IsCovered places members) (row member) o.relocations (λ k d lt a over. subst (λ (l : Option LoadedObject). list_any (lies a) (pieces_in l) ≡ true) (sym at) ((all k d lt).piece a over)))
    (covered_from places originals files members (member + 1) os later read.1 next)

-- ---- one meaning

eight : (member size : ℕ) (word : Word) (start a : ℕ) → Fits (is_library member) size word → is_library member ≡ true → start ≤ a → a < start + size → size ≡ 8
eight member size (Put word) start a fit library from to = fit
eight member size (Copy m at bytes) start a fit library from to = absurd (false≢true (sym fit.0 ∙ library))
eight member size Nothing start a fit library from to = absurd (omega (arith, fit library, from, to))

under_over : (objects : List Object) (places : List ℕ) (modules : List Module) (x : Row) (g : Meaning) (a : ℕ) → IsGiven objects places modules x g → under a g ≡ true → reloc_over (base_of places x.member) a x.reloc ≡ true
under_over objects places modules x g a given hit = ap (under a) given.is ∙ hit

-- a meaning whose place lies in its member's pieces
IsIn : List LoadedObject → Meaning → Type 0
IsIn members g = (a : ℕ) → under a g ≡ true → list_any (lies a) (pieces_in (slice_get members g.member)) ≡ true

all_in : (objects : List Object) (originals files : List (List ℕ)) (places : List ℕ) (modules : List Module) (gs : List Meaning) → AreRead originals objects → ArePlaced places originals objects → meanings objects places modules ≡ Ok gs → All (IsIn (loaded_objects places files objects)) gs
unfolding IsIn IsCovered AtPlaces
all_in objects originals files places modules gs read placed is =
    let members = loaded_objects places files objects in
    zip_all (IsGiven objects places modules) (IsCovered places members) (IsIn members) (rows objects) gs
    (λ x g given covered a hit. subst (λ (m : ℕ). list_any (lies a) (pieces_in (slice_get members m)) ≡ true) (ap (λ (h : Meaning). h.member) given.is) (covered a (under_over objects places modules x g a given hit)))
    (meanings_given objects places modules gs is)
    (covered_from places originals files members 0 objects (λ k. ap (slice_get members) (omega arith)) read (λ k d lt. subst (λ (n : ℕ). IsPlaced (base_of places n) (get_or objects k d)) (omega arith) (placed.placed k d lt)))

-- ---- the premises of the law on pieces

pub all_fit : (objects : List Object) (originals : List (List ℕ)) (places : List ℕ) (modules : List Module) (gs : List Meaning) → AreRead originals objects → IsProgramScope objects → meanings objects places modules ≡ Ok gs → AllFit is_library gs
all_fit objects originals places modules gs read scope is =
    let within : All (λ g. g.member < length objects) gs =
    zip_all (IsGiven objects places modules) (IsKnown objects) (λ g. g.member < length objects) (rows objects) gs
    (λ x g given known. subst (λ (m : ℕ). m < length objects) (ap (λ (h : Meaning). h.member) given.is) (slice_get_within objects x.member known.object known.at))
    (meanings_given objects places modules gs is) (rows_known originals objects read) in
    let fit = words_fit originals objects places modules gs read is in
    λ k d lt. subst (λ (b : Bool). Fits b (get_or gs k d).size (get_or gs k d).word) (scope (get_or gs k d).member (within k d lt)) (fit k d lt)

rows_perm : (objects : List Object) (files : List (List ℕ)) (places : List ℕ) (modules : List Module) (gs : List Meaning) (rows : List ConflictRow) → meanings objects places modules ≡ Ok gs → conflicts objects files places modules ≡ Ok rows → IsPermutation (rows_of (loaded_objects places files objects) gs) rows
unfolding conflicts
rows_perm objects files places modules gs rows is made =
    let all : List ConflictRow = rows_of (loaded_objects places files objects) gs in
    let same : ascending all ≡ rows =
    ok_same (ascending all) rows (sym (ap (λ (r : Result (List Meaning) LinkFault). r >>= λ ms. Ok (ascending (rows_of (loaded_objects places files objects) ms))) is) ∙ made) in
    subst (λ (rs : List ConflictRow). IsPermutation all rs) same (ascending_perm all)

-- ---- the whole

pub conflicts_complete : ConflictsAreComplete
unfolding byte_of IsIn
conflicts_complete objects originals files places modules gs rows read scope placed is made stand a =
    let before = loaded_objects places originals objects in
    let members = loaded_objects places files objects in
    let after = standing places files objects in
    let lone : AtMostOne lies (all_pieces after) =
    lone_most lies (all_pieces after) (lone_zip lies lies (all_pieces before) (all_pieces after) (alike (all_pieces before) (all_pieces after) stand.extents) (most_lone lies (all_pieces before) placed.apart)) in
    let fit = all_fit objects originals places modules gs read scope is in
    let inside = all_in objects originals files places modules gs read placed is in
    let forms : (b : ℕ) → any_masked before b ≡ false → AreForms (all_pieces before) (all_pieces after) members gs b = λ b seen. record {
      forms = (stand.forms b seen).forms;
      program = (stand.forms b seen).holds;
      library = λ k d lt hit library.
          let g = get_or gs k d in
          let w = within_true g.start g.size b hit in
          held_there members after g.member g.start g.size b stand.libraries library (eight g.member g.size g.word g.start b (fit k d lt) library w.0 w.1) w.0 w.1 (inside k d lt b hit);
    } in
    shown_over (layered (all_pieces before)) (layered (all_pieces after)) (any_masked before) (any_masked after) (filled (layered (all_pieces after)) (patches rows)) a
    (same_domain (all_pieces before) (all_pieces after) a (likes (all_pieces before) (all_pieces after) stand.extents)) (masked_from places originals files 0 objects a)
    ∙ fast_ordinary (all_pieces before) (all_pieces after) (any_masked before) members gs rows fit (places_are_apart originals objects places modules gs read placed is) lone (rows_perm objects files places modules gs rows is made) forms a
