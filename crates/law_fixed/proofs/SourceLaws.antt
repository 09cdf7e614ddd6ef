-- Every word stands over its place, and what is copied comes from another member.
use Rattle.std.proofs.Common.{◌≡◌, ℕ, zero, suc, ◌+◌, ◌<◌, ◌≤◌, ◌^◌, Bool, true, false, List, [], ◌∷◌, ◌++◌, length, map, Option, Some, None, Result, Ok, Err, refl, sym, ap, subst, ◌∙◌, arith, inl, inr}
use Rattle.std.specs.Prelude.{◌||◌, ◌&&◌, not, ◌==◌, slice_get, slice_index, ⊤, min}
use Rattle.std.specs.List.{All, AllZip, list_any, cons_option}
use Rattle.std.proofs.lemmas.Bool.{cases_Bool, false≢true, or_parts, or_right}
use Rattle.std.proofs.lemmas.Bool.Decides.{nat_tests}
use Rattle.std.proofs.lemmas.List.Folds.{list_any-append}
use Rattle.pl_base.proofs.WordLaws.{length_bytes64}
use Rattle.std.proofs.lemmas.List.Elements.{All-head, All-tail}
use Rattle.pl_elf.specs.declared.constants.TheConstants.{ADDRESS_LIMIT, R_X86_64_64, R_X86_64_COPY, R_X86_64_GLOB_DAT, R_X86_64_JUMP_SLOT, R_X86_64_RELATIVE}
use Rattle.pl_value.specs.declared.word.Word.TheVariants.{Copy, Nothing, Put}
use Rattle.pl_value.specs.declared.fault.LinkFault.TheVariants.{CopyOutside, TlsMismatch}
use Rattle.pl_base.specs.Memory.{Fill, Piece, covers, is_within, lies}
use Rattle.law_fixed.specs.Fixed.{IsMovable, KeepsItsKind, RefersWell, is_relative_at}
use Rattle.pl_image.specs.Loads.{IsPlaced, loaded_piece, pieces_at}
use Rattle.pl_value.specs.declared.fault.LinkFault.{LinkFault}
use Rattle.pl_value.specs.declared.meaning.Meaning.{Meaning}
use Rattle.pl_tls.specs.declared.module.Module.{Module}
use Rattle.pl_object.specs.declared.object.Object.{Object}
use Rattle.pl_scope.specs.declared.reference.Reference.{Reference}
use Rattle.pl_object.specs.declared.reloc.Reloc.{Reloc}
use Rattle.pl_value.specs.Meanings.{Row, given, meaning, row, rows, rows_from}
use Rattle.pl_elf.specs.declared.segment.Segment.{Segment}
use Rattle.pl_sym.specs.declared.symbol.Symbol.{Symbol}
use Rattle.pl_value.specs.declared.word.Word.{Word}
use Rattle.pl_value.specs.Targets.{added, address, base_of, target}
use Rattle.pl_image.specs.Image.{all_pieces}
use Rattle.pl_base.specs.Bytes.{bytes64}
use Rattle.pl_value.specs.Copies.{copied, copy, copy_from, is_in_load, is_outside}
use Rattle.pl_value.specs.Definers.{definer, is_weak}
use Rattle.pl_base.specs.Each.{each}
use Rattle.pl_sym.specs.Symbol.{is_absolute, is_tls}
use Rattle.pl_object.specs.PlaceClauses.{is_in_segment}
use Rattle.pl_elf.specs.Headers.{is_load, loads}
use Rattle.pl_value.specs.Tls.{is_tls_kind, variable, word}
use Rattle.pl_value.specs.Ordinary.{loaded_from, part_of}
use Rattle.pl_scope.specs.Finds.{own_symbol}
use Rattle.pl_base.specs.Sums.{plus}
use Rattle.pl_value.specs.Linked.{put_of, words}
use Rattle.pl_value.specs.Values.{reference, value_of}
use Rattle.pl_object.specs.Relocations.{size_of}
use Rattle.pl_base.specs.Answers.{◌>>=◌}
use Rattle.pl_base.proofs.AnswerLaws.{bind_ok}
use Rattle.pl_base.proofs.MemoryLaws.{within_true, within_is}
use Rattle.law_fixed.proofs.FoundLaws.{definer_of, definer_cases}
use Rattle.law_fixed.proofs.ValueLaws.{Good}
use Rattle.law_fixed.proofs.ImageLaws.{loads_all}

-- ---- what each row gave

abbrev pub Gives : List Object → List ℕ → List Module → List Row → List Meaning → Type 0
Gives objects places modules xs gs = AllZip (λ x g. meaning objects places modules x ≡ Ok g) xs gs

pub each_given : {A B E : Type 0} (f : A → Result B E) (xs : List A) (ys : List B) → each f xs ≡ Ok ys → AllZip (λ x y. f x ≡ Ok y) xs ys
unfolding each
each_given f [] [] h = tt
each_given f [] (y ∷ ys) h = absurd cc
each_given {B = B} {E = E} f (x ∷ xs) ys h =
    let one = bind_ok (f x) (λ y. each f xs >>= λ zs. Ok (y ∷ zs)) ys h in
    let two = bind_ok (each f xs) (λ zs. Ok (one.0 ∷ zs)) ys one.2 in
    let is : ◌≡◌ {A = Result (List B) E} (Ok (one.0 ∷ two.0)) (Ok ys) = two.2 in
    let same : one.0 ∷ two.0 ≡ ys = cc in
    subst (λ (zs : List B). AllZip (λ x y. f x ≡ Ok y) (x ∷ xs) zs) same (one.1, each_given f xs two.0 two.1)

-- ---- words over RELATIVE places

relative_gives : (objects : List Object) (places : List ℕ) (modules : List Module) (m : ℕ) (r : Reloc) → r.kind == R_X86_64_RELATIVE ≡ true → value_of objects places modules m r ≡ Ok (Put (added (base_of places m) r.addend))
unfolding value_of
relative_gives objects places modules m r h = rw h refl

and_left : (a b : Bool) → (a && b) ≡ true → a ≡ true
and_left true b h = refl
and_left false b h = h

and_right : (a b : Bool) → (a && b) ≡ true → b ≡ true
and_right true b h = h
and_right false b h = absurd (false≢true h)

-- the word of a RELATIVE relocation of the program covers its place
word_over : (objects : List Object) (at : ℕ) (ps : List ℕ) (modules : List Module) (r : Reloc) (g : Meaning) (b a : ℕ) → meaning objects (at ∷ ps) modules (row 0 r) ≡ Ok g → is_relative_at b r ≡ true → a ≡ at + b → a < 2 ^ 64
    → (f : Fill) × (put_of g.start g.word ≡ Some f) × (covers a f ≡ true)
unfolding meaning
word_over objects at ps modules r g b a h over is below =
    let kind = and_left (r.kind == R_X86_64_RELATIVE) (is_within r.address 8 b) over in
    let w = within_true r.address 8 b (and_right (r.kind == R_X86_64_RELATIVE) (is_within r.address 8 b) over) in
    let v : ℕ = added (base_of (at ∷ ps) 0) r.addend in
    let e : ◌≡◌ {A = Result Meaning LinkFault} (Ok (given (at ∷ ps) (row 0 r) (Put v))) (Ok g) = rw (relative_gives objects (at ∷ ps) modules 0 r kind) at h in
    let same : given (at ∷ ps) (row 0 r) (Put v) ≡ g = cc in
    let f : Fill = record { start = plus at r.address; bytes = bytes64 v } in
    (f, ap (λ (n : Meaning). put_of n.start n.word) (sym same), ap (λ (n : ℕ). is_within (plus at r.address) n a) (length_bytes64 v) ∙ within_is (plus at r.address) 8 a (omega (arith, w.0, w.1, is, below)) (omega (arith, w.0, w.1, is, below)))

pub covered : (objects : List Object) (at : ℕ) (ps : List ℕ) (modules : List Module) (rs : List Reloc) (rest : List Row) (gs : List Meaning) (b a : ℕ) → Gives objects (at ∷ ps) modules (map (row 0) rs ++ rest) gs → list_any (is_relative_at b) rs ≡ true → a ≡ at + b → a < 2 ^ 64
    → list_any (covers a) (words gs) ≡ true
unfolding words
covered objects at ps modules [] rest gs b a gives some is below = absurd (false≢true some)
covered objects at ps modules (r ∷ rs) rest [] b a gives some is below = absurd gives
covered objects at ps modules (r ∷ rs) rest (g ∷ gs) b a gives some is below = elim (cases_Bool (is_relative_at b r)) [
  | inl hit ↦ let w = word_over objects at ps modules r g b a gives.0 hit is below in
      ap (λ (o : Option Fill). list_any (covers a) (cons_option o (words gs))) w.1 ∙ rw w.2 refl
  | inr miss ↦ more (put_of g.start g.word) (covered objects at ps modules rs rest gs b a gives.1 (rw miss at some) is below)
]
  where
    more : (o : Option Fill) → list_any (covers a) (words gs) ≡ true → list_any (covers a) (cons_option o (words gs)) ≡ true
    more None later = later
    more (Some f) later = or_right (covers a f) (list_any (covers a) (words gs)) later

-- ---- copies

-- what is copied lies in pieces
unfoldable pub Sourced : List Piece → Word → Type 0
Sourced pieces (Put word) = ⊤
Sourced pieces (Copy member from size) = (k : ℕ) → k < size → list_any (lies (from + k)) pieces ≡ true
Sourced pieces Nothing = ⊤

segment_true : (from size : ℕ) (s : Segment) → is_in_segment (record { at = from; size = size }) s ≡ true → (s.vaddr ≤ from) × (from + size ≤ s.vaddr + s.memsz)
segment_true from size s h = grind (arith, nat_tests)

-- bytes inside a PT_LOAD as linked lie in a piece as loaded
in_pieces : (place from size k : ℕ) (bytes : List ℕ) (ss : List Segment) → All (λ s. place + (s.vaddr + s.memsz) ≤ ADDRESS_LIMIT) (loads ss) → list_any (is_in_load from size) ss ≡ true → k < size
    → list_any (lies (plus place from + k)) (map (loaded_piece place bytes) (loads ss)) ≡ true
unfolding is_in_load
in_pieces place from size k bytes [] placed some lt = absurd (false≢true some)
in_pieces place from size k bytes (s ∷ ss) placed some lt =
    let fits = loads_all (λ s. place + (s.vaddr + s.memsz) ≤ ADDRESS_LIMIT) s ss placed in
    elim (cases_Bool (is_in_load from size s)) [
      | inl hit ↦
          let load = and_left (is_load s) (is_in_segment (record { at = from; size = size }) s) hit in
          let inside = segment_true from size s (and_right (is_load s) (is_in_segment (record { at = from; size = size }) s) hit) in
          let f = fits.0 load in
          let one : is_within (place + s.vaddr) s.memsz (plus place from + k) ≡ true = within_is (place + s.vaddr) s.memsz (plus place from + k) (omega (arith, inside.0, inside.1, f, lt)) (omega (arith, inside.0, inside.1, f, lt)) in
          rw (load, one) refl
      | inr miss ↦
          let rest = in_pieces place from size k bytes ss fits.1 (rw miss at some) lt in
          elim (cases_Bool (is_load s)) [
            | inl load ↦ rw (load, rest) (or_right (lies (plus place from + k) (loaded_piece place bytes s)) true refl)
            | inr other ↦ rw other rest
          ]
    ]

-- the pieces of a member are among those of all
in_rest : (places : List ℕ) (parts : List (List ℕ)) (start m a : ℕ) (os : List Object) (p : Object) → slice_get os m ≡ Some p → list_any (lies a) (pieces_at (base_of places (start + m)) (part_of parts (start + m)) p) ≡ true
    → list_any (lies a) (all_pieces (loaded_from places parts start os)) ≡ true
unfolding loaded_from
in_rest places parts start m a [] p is some = absurd cc
in_rest places parts start zero a (o ∷ os) p is some =
    let same : p ≡ o = cc in
    let first : list_any (lies a) (pieces_at (base_of places start) (part_of parts start) o) ≡ true =
    subst (λ (q : Object). list_any (lies a) (pieces_at (base_of places start) (part_of parts start) q) ≡ true) same
    (subst (λ (n : ℕ). list_any (lies a) (pieces_at (base_of places n) (part_of parts n) p) ≡ true) (omega arith) some) in
    list_any-append (lies a) (pieces_at (base_of places start) (part_of parts start) o) (all_pieces (loaded_from places parts (start + 1) os)) ∙ rw first refl
in_rest places parts start (suc m) a (o ∷ os) p is some =
    let later = in_rest places parts (start + 1) m a os p is (subst (λ (n : ℕ). list_any (lies a) (pieces_at (base_of places n) (part_of parts n) p) ≡ true) (omega arith) some) in
    list_any-append (lies a) (pieces_at (base_of places start) (part_of parts start) o) (all_pieces (loaded_from places parts (start + 1) os))
    ∙ or_right (list_any (lies a) (pieces_at (base_of places start) (part_of parts start) o)) (list_any (lies a) (all_pieces (loaded_from places parts (start + 1) os))) later

-- a COPY
AreSourced : ℕ → Object → List Object → List ℕ → List (List ℕ) → Word → Type 0
AreSourced at o os ps parts w = Sourced (all_pieces (loaded_from (at ∷ ps) parts 1 os)) w

AllPlaced : List Object → List ℕ → Type 0
AllPlaced os ps = (member : ℕ) (d : Object) → slice_get os member ≡ Some d → IsPlaced (slice_index ps member) d

copied_sourced : (at : ℕ) (o : Object) (os : List Object) (ps : List ℕ) (parts : List (List ℕ)) (r : Reference) (size m : ℕ) (p : Object) (x : Symbol) (w : Word) → AllPlaced os ps → slice_get os m ≡ Some p
    → copied (at ∷ ps) r size (definer_of (suc m) p x) ≡ Ok w → AreSourced at o os ps parts w
unfolding copied address is_outside AreSourced AllPlaced Sourced
copied_sourced at o os ps parts r size m p x w placed is h = elim (cases_Bool (is_tls x)) [
  | inl block ↦ absurd (refused (TlsMismatch r.member r.symbol) w (rw block at h))
  | inr plain ↦ elim (cases_Bool (is_absolute x || is_outside p.segments x.value size)) [
    | inl out ↦ absurd (refused (CopyOutside r.member r.symbol) w (rw (plain, out) at h))
    | inr within ↦
        let q = or_parts (is_absolute x) (is_outside p.segments x.value size) within in
        let e : ◌≡◌ {A = Result Word LinkFault} (Ok (Copy (suc m) (address (at ∷ ps) (definer_of (suc m) p x)) size)) (Ok w) = rw (plain, within) at h in
        let same : Copy (suc m) (address (at ∷ ps) (definer_of (suc m) p x)) size ≡ w = cc in
        let stands : address (at ∷ ps) (definer_of (suc m) p x) ≡ plus (slice_index ps m) x.value = rw q.0 refl in
        subst (Sourced (all_pieces (loaded_from (at ∷ ps) parts 1 os))) same (λ k lt.
        let some : list_any (is_in_load x.value size) p.segments ≡ true = not_out (size == 0) (list_any (is_in_load x.value size) p.segments) q.1 (not_none size k lt) in
        let one = in_pieces (slice_index ps m) x.value size k (part_of parts (suc m)) p.segments (placed m p is).ends some lt in
        subst (λ (n : ℕ). list_any (lies (n + k)) (all_pieces (loaded_from (at ∷ ps) parts 1 os)) ≡ true) (sym stands)
        (in_rest (at ∷ ps) parts 1 m (plus (slice_index ps m) x.value + k) os p is
        (subst (λ (n : ℕ). list_any (lies (plus (slice_index ps m) x.value + k)) (pieces_at (base_of (at ∷ ps) n) (part_of parts n) p) ≡ true) (one_more m) one)))
  ]
]
  where
    refused : (f : LinkFault) (v : Word) → ◌≡◌ {A = Result Word LinkFault} (Err f) (Ok v) → ⊥
    refused f v e = absurd cc

    not_out : (a b : Bool) → (not a && not b) ≡ false → a ≡ false → b ≡ true
    not_out true b e f = absurd (false≢true (sym f))
    not_out false true e f = refl
    not_out false false e f = absurd (false≢true (sym e))

    not_none : (n k : ℕ) → k < n → n == 0 ≡ false
    not_none n k lt = grind (arith, nat_tests)

    one_more : (n : ℕ) → suc n ≡ 1 + n
    one_more n = omega arith

copy_sourced : (at : ℕ) (o : Object) (os : List Object) (ps : List ℕ) (parts : List (List ℕ)) (r : Reference) (w : Word) → All (KeepsItsKind at) o.symbols → Good o r → AllPlaced os ps → r.kind == R_X86_64_COPY ≡ true → copy (o ∷ os) (at ∷ ps) r ≡ Ok w → AreSourced at o os ps parts w
unfolding copy Good AreSourced Sourced
copy_sourced at o os ps parts r w all good placed copies h = elim (cases_Bool (r.symbol == 0)) [
  | inl none ↦ of_nothing (rw none at h)
  | inr some ↦
      let weak = is_weak (o ∷ os) r in
      let size = size_of (own_symbol (o ∷ os) r) in
      let e : copy_from (at ∷ ps) r weak size (definer (o ∷ os) r) ≡ Ok w = rw some at h in
      definer_cases at o os r (λ d _. copy_from (at ∷ ps) r weak size d ≡ Ok w → AreSourced at o os ps parts w) all (good some)
      (of_weak weak) (λ m p x is g. copied_sourced at o os ps parts r (min size x.size) m p x w placed is g) (λ x _ not_copy. absurd (false≢true (sym not_copy ∙ copies))) e
]
  where
    of_nothing : ◌≡◌ {A = Result Word LinkFault} (Ok Nothing) (Ok w) → AreSourced at o os ps parts w
    of_nothing e = let same : Nothing ≡ w = cc in subst (Sourced (all_pieces (loaded_from (at ∷ ps) parts 1 os))) same tt

    of_weak : (b : Bool) → copy_from (at ∷ ps) r b (size_of (own_symbol (o ∷ os) r)) None ≡ Ok w → AreSourced at o os ps parts w
    of_weak true e = of_nothing e
    of_weak false e = absurd cc

put_sourced : (at : ℕ) (o : Object) (os : List Object) (ps : List ℕ) (parts : List (List ℕ)) (n : ℕ) (w : Word) → ◌≡◌ {A = Result Word LinkFault} (Ok (Put n)) (Ok w) → AreSourced at o os ps parts w
unfolding AreSourced Sourced
put_sourced at o os ps parts n w e = let same : Put n ≡ w = cc in subst (Sourced (all_pieces (loaded_from (at ∷ ps) parts 1 os))) same tt

nothing_sourced : (at : ℕ) (o : Object) (os : List Object) (ps : List ℕ) (parts : List (List ℕ)) (w : Word) → ◌≡◌ {A = Result Word LinkFault} (Ok Nothing) (Ok w) → AreSourced at o os ps parts w
unfolding AreSourced Sourced
nothing_sourced at o os ps parts w e = let same : Nothing ≡ w = cc in subst (Sourced (all_pieces (loaded_from (at ∷ ps) parts 1 os))) same tt

value_sourced : (at : ℕ) (o : Object) (os : List Object) (ps : List ℕ) (parts : List (List ℕ)) (modules : List Module) (m : ℕ) (r : Reloc) (w : Word) → All (KeepsItsKind at) o.symbols → Good o (reference m r) → AllPlaced os ps → value_of (o ∷ os) (at ∷ ps) modules m r ≡ Ok w → AreSourced at o os ps parts w
unfolding value_of
value_sourced at o os ps parts modules m r w all good placed h =
    let q : Reference = reference m r in
    elim (cases_Bool (r.kind == R_X86_64_RELATIVE)) [
      | inl a ↦ put_sourced at o os ps parts (added (base_of (at ∷ ps) m) r.addend) w (rw a at h)
      | inr b ↦ elim (cases_Bool (r.kind == R_X86_64_64)) [
        | inl a ↦ let t = bind_ok (target (o ∷ os) (at ∷ ps) q) (λ s. Ok (Put (added s r.addend))) w (rw (b, a) at h) in put_sourced at o os ps parts (added t.0 r.addend) w t.2
        | inr c ↦ elim (cases_Bool (r.kind == R_X86_64_GLOB_DAT || r.kind == R_X86_64_JUMP_SLOT)) [
          | inl a ↦ let t = bind_ok (target (o ∷ os) (at ∷ ps) q) (λ s. Ok (Put s)) w (rw (b, c, a) at h) in put_sourced at o os ps parts t.0 w t.2
          | inr d ↦ elim (cases_Bool (r.kind == R_X86_64_COPY)) [
            | inl a ↦ copy_sourced at o os ps parts q w all good placed a (rw (b, c, d, a) at h)
            | inr e ↦ elim (cases_Bool (is_tls_kind r.kind)) [
              | inl a ↦ let t = bind_ok (variable (o ∷ os) q) (λ v. Ok (Put (word modules r v))) w (rw (b, c, d, e, a) at h) in put_sourced at o os ps parts (word modules r t.0) w t.2
              | inr f ↦ nothing_sourced at o os ps parts w (rw (b, c, d, e, f) at h)
            ]
          ]
        ]
      ]
    ]

-- ---- all rows

unfoldable pub Each : {X : Type 0} → (X → Type 0) → List X → Type 0
Each P [] = Unit {0}
Each P (x ∷ xs) = P x × Each P xs

GoodRow : Object → Row → Type 0
GoodRow o x = Good o (reference x.member x.reloc)

own_good : (o : Object) (rs : List Reloc) (rest : List Row) → All (RefersWell o.symbols) rs → Each (GoodRow o) rest → Each (GoodRow o) (map (row 0) rs ++ rest)
unfolding Each GoodRow Good
own_good o [] rest well others = others
own_good o (r ∷ rs) rest well others =
    let one : RefersWell o.symbols r = All-head (RefersWell o.symbols) r rs well in
    (λ some. record { own = λ s _ there self. one.own s there some self; elsewhere = λ s _ there copies. one.elsewhere s there copies }, own_good o rs rest (All-tail (RefersWell o.symbols) r rs well) others)

member_good : (o : Object) (m : ℕ) (rs : List Reloc) (rest : List Row) → 1 ≤ m → Each (GoodRow o) rest → Each (GoodRow o) (map (row m) rs ++ rest)
unfolding Each GoodRow Good
member_good o m [] rest le others = others
member_good o m (r ∷ rs) rest le others =
    (λ some. record { own = λ s home. absurd (omega (arith, home, le)); elsewhere = λ s home. absurd (omega (arith, home, le)) }, member_good o m rs rest le others)

other_good : (o : Object) (m : ℕ) (os : List Object) → 1 ≤ m → Each (GoodRow o) (rows_from m os)
unfolding Each rows_from
other_good o m [] le = tt
other_good o m (p ∷ os) le = member_good o m p.relocations (rows_from (m + 1) os) le (other_good o (m + 1) os (omega (arith, le)))

meaning_sourced : (at : ℕ) (o : Object) (os : List Object) (ps : List ℕ) (parts : List (List ℕ)) (modules : List Module) (x : Row) (g : Meaning) → All (KeepsItsKind at) o.symbols → GoodRow o x → AllPlaced os ps → meaning (o ∷ os) (at ∷ ps) modules x ≡ Ok g → AreSourced at o os ps parts g.word
unfolding meaning GoodRow
meaning_sourced at o os ps parts modules x g all good placed h =
    let t = bind_ok (value_of (o ∷ os) (at ∷ ps) modules x.member x.reloc) (λ w. Ok (given (at ∷ ps) x w)) g h in
    let e : ◌≡◌ {A = Result Meaning LinkFault} (Ok (given (at ∷ ps) x t.0)) (Ok g) = t.2 in
    let same : given (at ∷ ps) x t.0 ≡ g = cc in
    subst (λ (n : Meaning). AreSourced at o os ps parts n.word) same (value_sourced at o os ps parts modules x.member x.reloc t.0 all good placed t.1)

rows_sourced : (at : ℕ) (o : Object) (os : List Object) (ps : List ℕ) (parts : List (List ℕ)) (modules : List Module) (xs : List Row) (gs : List Meaning) → All (KeepsItsKind at) o.symbols → Each (GoodRow o) xs → AllPlaced os ps → Gives (o ∷ os) (at ∷ ps) modules xs gs
    → Each (λ g. AreSourced at o os ps parts g.word) gs
unfolding Each
rows_sourced at o os ps parts modules [] [] all good placed gives = tt
rows_sourced at o os ps parts modules [] (g ∷ gs) all good placed gives = absurd gives
rows_sourced at o os ps parts modules (x ∷ xs) [] all good placed gives = absurd gives
rows_sourced at o os ps parts modules (x ∷ xs) (g ∷ gs) all good placed gives =
    (meaning_sourced at o os ps parts modules x g all good.0 placed gives.0, rows_sourced at o os ps parts modules xs gs all good.1 placed gives.1)

-- all that is copied lies in the pieces of other members
pub copies_sourced : (at : ℕ) (o : Object) (os : List Object) (ps : List ℕ) (parts : List (List ℕ)) (modules : List Module) (gs : List Meaning) → IsMovable at o → ((member : ℕ) (d : Object) → slice_get os member ≡ Some d → IsPlaced (slice_index ps member) d)
    → Gives (o ∷ os) (at ∷ ps) modules (rows (o ∷ os)) gs → Each (λ g. Sourced (all_pieces (loaded_from (at ∷ ps) parts 1 os)) g.word) gs
unfolding AreSourced AllPlaced rows_from
copies_sourced at o os ps parts modules gs is placed gives =
    rows_sourced at o os ps parts modules (rows (o ∷ os)) gs is.symbols (own_good o o.relocations (rows_from 1 os) is.relocations (other_good o 1 os (omega arith))) placed gives
