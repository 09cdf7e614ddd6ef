-- The bytes at the places of a program: one list of bytes for each of its relocations.
use Rattle.std.proofs.Common.{◌≡◌, ℕ, ◌+◌, ◌-◌, ◌<◌, true, false, List, [], ◌∷◌, ◌++◌, length, map, get_or, Ok, refl, sym, ap, ◌∙◌, arith, inl, inr}
use Rattle.std.specs.Prelude.{◌==◌, filter}
use Rattle.std.specs.List.{All, AllZip, concat}
use Rattle.std.specs.Option.{unwrap_or, IfSome}
use Rattle.std.proofs.lemmas.Bool.{cases_Bool, cases_lt}
use Rattle.std.proofs.lemmas.Bool.Decides.{nat_tests}
use Rattle.std.proofs.lemmas.List.{get_or_past}
use Rattle.std.proofs.lemmas.List.Elements.{All-nil, All-head, All-tail, All-append, All-map}
use Rattle.pl_base.specs.Bytes.{IsBytes}
use Rattle.pl_base.specs.Memory.{Memory, Piece, Fill, is_within, lies, layered, read, filled, over}
use Rattle.pl_base.proofs.MemoryLaws.{read_length, read_byte, All-filter_map}
use Rattle.pl_base.proofs.WordLaws.{is_bytes_nil, is_bytes_append, is_bytes_bytes64}
use Rattle.pl_form.specs.Pieces.{IsGiven as IsGivenFor}
use Rattle.pl_object.specs.declared.object.Object.{Object}
use Rattle.pl_object.specs.declared.reloc.Reloc.{Reloc}
use Rattle.pl_tls.specs.declared.module.Module.{Module}
use Rattle.pl_value.specs.Linked.{put_of, copy_of, words, copies, worded, relocated}
use Rattle.pl_value.specs.Meanings.{Row, row, rows_from, meanings}
use Rattle.pl_value.specs.declared.meaning.Meaning.{Meaning}
use Rattle.pl_value.specs.declared.word.Word.{Word}
use Rattle.pl_value.specs.declared.word.Word.TheVariants.{Put, Copy, Nothing}
use Rattle.pl_value.proofs.MeaningLaws.{IsGiven, meanings_given}
use Rattle.pl_conflict.specs.Prelinked.{is_program_place}

-- ---- the meanings of the first member

IsLater : Row → Type 0
IsLater x = (x.member == 0) ≡ false

later_member : (m : ℕ) → (m + 1 == 0) ≡ false
later_member m = grind (arith, nat_tests)

later_from : (member : ℕ) (os : List Object) → All IsLater (rows_from (member + 1) os)
unfolding rows_from IsLater
later_from member [] = All-nil IsLater
later_from member (o ∷ os) =
    All-append IsLater (map (row (member + 1)) o.relocations) (rows_from (member + 1 + 1) os)
    (All-map IsLater (row (member + 1)) o.relocations (λ k d lt. later_member member)) (later_from (member + 1) os)

no_own : (objects : List Object) (places : List ℕ) (modules : List Module) (xs : List Row) (gs : List Meaning) → All IsLater xs → AllZip (IsGiven objects places modules) xs gs → filter is_program_place gs ≡ []
unfolding IsLater
no_own objects places modules [] [] later zip = refl
no_own objects places modules [] (g ∷ gs) later zip = absurd zip
no_own objects places modules (x ∷ xs) [] later zip = absurd zip
no_own objects places modules (x ∷ xs) (g ∷ gs) later zip =
    let other : (g.member == 0) ≡ false = ap (λ (h : Meaning). h.member == 0) (sym zip.0.is) ∙ All-head IsLater x xs later in
    rw other (no_own objects places modules xs gs (All-tail IsLater x xs later) zip.1)

-- the meaning of a relocation of the first member
unfoldable pub IsOwnGiven : List Object → List ℕ → List Module → Reloc → Meaning → Type 0
IsOwnGiven objects places modules r g = IsGiven objects places modules (row 0 r) g

own_part : (objects : List Object) (places : List ℕ) (modules : List Module) (rs : List Reloc) (xs : List Row) (gs : List Meaning) → All IsLater xs → AllZip (IsGiven objects places modules) (map (row 0) rs ++ xs) gs
    → AllZip (IsOwnGiven objects places modules) rs (filter is_program_place gs)
unfolding IsOwnGiven
own_part objects places modules [] xs gs later zip = rw (no_own objects places modules xs gs later zip) tt
own_part objects places modules (r ∷ rs) xs [] later zip = absurd zip
own_part objects places modules (r ∷ rs) xs (g ∷ gs) later zip =
    let own : (g.member == 0) ≡ true = ap (λ (h : Meaning). h.member == 0) (sym zip.0.is) in
    rw own (zip.0, own_part objects places modules rs xs gs later zip.1)

pub own_meanings : (o : Object) (os : List Object) (places : List ℕ) (modules : List Module) (gs : List Meaning) → meanings (o ∷ os) places modules ≡ Ok gs → AllZip (IsOwnGiven (o ∷ os) places modules) o.relocations (filter is_program_place gs)
unfolding rows_from
own_meanings o os places modules gs is =
    own_part (o ∷ os) places modules o.relocations (rows_from (0 + 1) os) gs (later_from 0 os) (meanings_given (o ∷ os) places modules gs is)

-- ---- as many bytes as each place has

pub given_sizes : (objects : List Object) (places : List ℕ) (modules : List Module) (memory : Memory) (rs : List Reloc) (gs : List Meaning) → AllZip (IsOwnGiven objects places modules) rs gs → AllZip IsGivenFor (map (λ g. read memory g.start g.size) gs) rs
unfolding IsOwnGiven
given_sizes objects places modules memory [] [] zip = tt
given_sizes objects places modules memory [] (g ∷ gs) zip = absurd zip
given_sizes objects places modules memory (r ∷ rs) [] zip = absurd zip
given_sizes objects places modules memory (r ∷ rs) (g ∷ gs) zip =
    (read_length memory g.start g.size ∙ ap (λ (h : Meaning). h.size) (sym zip.0.is), given_sizes objects places modules memory rs gs zip.1)

-- ---- they are bytes

-- each byte of a memory is one
abbrev pub HasBytes : Memory → Type 0
HasBytes memory = (a : ℕ) → unwrap_or (memory a) 0 < 256

read_bytes : (memory : Memory) (start size : ℕ) → HasBytes memory → IsBytes (read memory start size)
read_bytes memory start size has i = elim (cases_lt i size) [
  | inl lt ↦ rw (read_byte memory start size i lt) (has (start + i))
  | inr le ↦ rw (get_or_past (read memory start size) i 0 (omega (arith, read_length memory start size, le))) (omega arith)
]

layered_bytes : (ps : List Piece) → All (λ p. IsBytes p.bytes) ps → HasBytes (layered ps)
unfolding layered
layered_bytes [] all a = omega arith
layered_bytes (p ∷ ps) all a = elim (cases_Bool (lies a p)) [
  | inl hit ↦ rw hit (All-head (λ (q : Piece). IsBytes q.bytes) p ps all (a - p.start))
  | inr miss ↦ rw miss (layered_bytes ps (All-tail (λ (q : Piece). IsBytes q.bytes) p ps all) a)
]

over_bytes : (start : ℕ) (bytes : List ℕ) (memory : Memory) → IsBytes bytes → HasBytes memory → HasBytes (over start bytes memory)
over_bytes start bytes memory is has a = elim (cases_Bool (is_within start (length bytes) a)) [
  | inl hit ↦ rw hit (is (a - start))
  | inr miss ↦ rw miss (has a)
]

filled_bytes : (memory : Memory) (fs : List Fill) → HasBytes memory → All (λ f. IsBytes f.bytes) fs → HasBytes (filled memory fs)
unfolding filled
filled_bytes memory [] has all = has
filled_bytes memory (f ∷ fs) has all =
    filled_bytes (over f.start f.bytes memory) fs (over_bytes f.start f.bytes memory (All-head (λ (g : Fill). IsBytes g.bytes) f fs all) has) (All-tail (λ (g : Fill). IsBytes g.bytes) f fs all)

put_bytes : (start : ℕ) (word : Word) → IfSome (put_of start word) (λ f. IsBytes f.bytes)
put_bytes start (Put word) = is_bytes_bytes64 word
put_bytes start (Copy member from size) = tt
put_bytes start Nothing = tt

copy_bytes : (memory : Memory) (start : ℕ) (word : Word) → HasBytes memory → IfSome (copy_of memory start word) (λ f. IsBytes f.bytes)
copy_bytes memory start (Put word) has = tt
copy_bytes memory start (Copy member from size) has = read_bytes memory from size has
copy_bytes memory start Nothing has = tt

words_bytes : (gs : List Meaning) → All (λ f. IsBytes f.bytes) (words gs)
unfolding words
words_bytes gs = All-filter_map (λ f. IsBytes f.bytes) (λ g. put_of g.start g.word) gs (λ k d lt. put_bytes (get_or gs k d).start (get_or gs k d).word)

copies_bytes : (memory : Memory) (gs : List Meaning) → HasBytes memory → All (λ f. IsBytes f.bytes) (copies memory gs)
unfolding copies
copies_bytes memory gs has = All-filter_map (λ f. IsBytes f.bytes) (λ g. copy_of memory g.start g.word) gs (λ k d lt. copy_bytes memory (get_or gs k d).start (get_or gs k d).word has)

pub relocated_bytes : (ps : List Piece) (gs : List Meaning) → All (λ p. IsBytes p.bytes) ps → HasBytes (relocated (layered ps) gs)
unfolding relocated
relocated_bytes ps gs all =
    let worded_has : HasBytes (worded (layered ps) gs) = filled_bytes (layered ps) (words gs) (layered_bytes ps all) (words_bytes gs) in
    filled_bytes (worded (layered ps) gs) (copies (worded (layered ps) gs) gs) worded_has (copies_bytes (worded (layered ps) gs) gs worded_has)

pub given_bytes : (memory : Memory) (gs : List Meaning) → HasBytes memory → IsBytes (concat (map (λ g. read memory g.start g.size) gs))
given_bytes memory [] has = is_bytes_nil
given_bytes memory (g ∷ gs) has =
    is_bytes_append (read memory g.start g.size) (concat (map (λ h. read memory h.start h.size) gs)) (read_bytes memory g.start g.size has) (given_bytes memory gs has)
