-- What a relocation gives fits its place.
use Rattle.std.proofs.Common.{◌≡◌, ℕ, ◌≤◌, Bool, true, false, cond, List, [], ◌∷◌, Option, Some, None, Result, Ok, Err, refl, ap, subst, ◌∙◌, arith, inl, inr}
use Rattle.std.specs.Prelude.{◌==◌, ◌||◌, not, min, slice_get}
use Rattle.std.proofs.lemmas.Bool.{cases_Bool, eqb-true, not-false, false≢true, or_parts}
use Rattle.std.proofs.lemmas.Bool.Decides.{nat_tests}
use Rattle.pl_base.specs.Answers.{◌>>=◌, unless, refuse}
use Rattle.pl_sym.specs.Symbol.{is_absolute, is_tls}
use Rattle.pl_sym.specs.declared.symbol.Symbol.{Symbol}
use Rattle.pl_tls.specs.declared.module.Module.{Module}
use Rattle.pl_object.specs.Accepted.{is_exec}
use Rattle.pl_object.specs.PlaceClauses.{is_bad, is_known, is_misplaced_copy}
use Rattle.pl_object.specs.Relocations.{width, size_of}
use Rattle.pl_elf.specs.declared.constants.TheConstants.{R_X86_64_NONE, R_X86_64_64, R_X86_64_COPY, R_X86_64_GLOB_DAT, R_X86_64_JUMP_SLOT, R_X86_64_RELATIVE, R_X86_64_DTPMOD64, R_X86_64_DTPOFF64, R_X86_64_TPOFF64}
use Rattle.pl_object.specs.declared.object.Object.{Object}
use Rattle.pl_object.specs.declared.reloc.Reloc.{Reloc}
use Rattle.pl_scope.specs.Finds.{own_symbol}
use Rattle.pl_scope.specs.declared.reference.Reference.{Reference}
use Rattle.pl_value.specs.Definers.{Definer, definer, is_weak}
use Rattle.pl_value.specs.Targets.{added, base_of, address, target}
use Rattle.pl_value.specs.Copies as copies
use Rattle.pl_value.specs.Tls as tls
use Rattle.pl_value.specs.Values.{reference, value_of}
use Rattle.pl_value.specs.Meanings.{Row, rows}
use Rattle.pl_value.specs.Laws.{Fits, is_shared_at, WordsFit}
use Rattle.pl_value.specs.declared.fault.LinkFault.{LinkFault}
use Rattle.pl_value.specs.declared.fault.LinkFault.TheVariants.{Undefined, TlsMismatch, CopyOutside}
use Rattle.pl_value.specs.declared.meaning.Meaning.{Meaning}
use Rattle.pl_value.specs.declared.word.Word.{Word}
use Rattle.pl_value.specs.declared.word.Word.TheVariants.{Put, Copy, Nothing}
use Rattle.pl_value.proofs.MeaningLaws.{IsGiven, meanings_given, zip_all}
use Rattle.pl_value.proofs.RowLaws.{HasWidth, IsKnown, rows_known}

-- where there is a value, it fits
record FitsIfOk (library : Bool) (size : ℕ) (r : Result Word LinkFault) : Type 0 where
  fits : (word : Word) → r ≡ Ok word → Fits library size word

word_fits : (library : Bool) (size : ℕ) (word : Word) → Fits library size word → FitsIfOk library size (Ok word)
word_fits library size word fits = record { fits = λ w e. let is : word ≡ w = cc in subst (λ (v : Word). Fits library size v) is fits }

fault_fits : (library : Bool) (size : ℕ) (fault : LinkFault) → FitsIfOk library size (Err fault)
fault_fits library size fault = record { fits = λ w e. absurd cc }

-- both of two choices fit
choice_fits : (library : Bool) (size : ℕ) (b : Bool) (x y : Result Word LinkFault) → (b ≡ true → FitsIfOk library size x) → (b ≡ false → FitsIfOk library size y) → FitsIfOk library size (cond b x y)
choice_fits library size true x y one other = one refl
choice_fits library size false x y one other = other refl

-- ---- kinds

-- a kind that is neither NONE nor COPY has a word
word_width : (symbols : List Symbol) (kind symbol k : ℕ) → (kind == k) ≡ true → (k == R_X86_64_NONE) ≡ false → (k == R_X86_64_COPY) ≡ false → width symbols kind symbol ≡ 8
unfolding width
word_width symbols kind symbol k is not_none not_copy = rw (eqb-true kind k is, not_none, not_copy) refl

copy_width : (symbols : List Symbol) (kind symbol : ℕ) → (kind == R_X86_64_COPY) ≡ true → width symbols kind symbol ≡ size_of (slice_get symbols symbol)
unfolding width
copy_width symbols kind symbol is = rw (eqb-true kind R_X86_64_COPY is) refl

none_width : (symbols : List Symbol) (symbol : ℕ) → width symbols R_X86_64_NONE symbol ≡ 0
unfolding width
none_width symbols symbol = refl

tls_width : (symbols : List Symbol) (kind symbol : ℕ) → tls.is_tls_kind kind ≡ true → width symbols kind symbol ≡ 8
unfolding tls.is_tls_kind
tls_width symbols kind symbol is = elim (cases_Bool (kind == R_X86_64_DTPMOD64)) [
  | inl first ↦ word_width symbols kind symbol R_X86_64_DTPMOD64 first refl refl
  | inr not_first ↦ elim (cases_Bool (kind == R_X86_64_DTPOFF64)) [
    | inl second ↦ word_width symbols kind symbol R_X86_64_DTPOFF64 second refl refl
    | inr not_second ↦ word_width symbols kind symbol R_X86_64_TPOFF64 (rw (not_first, not_second) at is) refl refl
  ]
]

-- a known kind that is none of the others is NONE
only_none : (kind : ℕ) → is_known kind ≡ true → (kind == R_X86_64_RELATIVE) ≡ false → (kind == R_X86_64_64) ≡ false → (kind == R_X86_64_GLOB_DAT || kind == R_X86_64_JUMP_SLOT) ≡ false → (kind == R_X86_64_COPY) ≡ false → tls.is_tls_kind kind ≡ false → kind ≡ R_X86_64_NONE
unfolding is_known tls.is_tls_kind
only_none kind known relative plain slots copy thread = grind (arith, nat_tests)

slot_width : (symbols : List Symbol) (kind symbol : ℕ) → (kind == R_X86_64_GLOB_DAT || kind == R_X86_64_JUMP_SLOT) ≡ true → width symbols kind symbol ≡ 8
slot_width symbols kind symbol is = elim (cases_Bool (kind == R_X86_64_GLOB_DAT)) [
  | inl first ↦ word_width symbols kind symbol R_X86_64_GLOB_DAT first refl refl
  | inr not_first ↦ word_width symbols kind symbol R_X86_64_JUMP_SLOT (rw not_first at is) refl refl
]

-- ---- words

put_fits : {X : Type 0} (library : Bool) (size : ℕ) (r : Result X LinkFault) (f : X → ℕ) → size ≡ 8 → FitsIfOk library size (r >>= λ x. Ok (Put (f x)))
put_fits library size (Ok x) f eight = word_fits library size (Put (f x)) eight
put_fits library size (Err e) f eight = fault_fits library size e

refuse_fits : (library : Bool) (size : ℕ) (rows : List (Bool × LinkFault)) (next : Result Word LinkFault) → FitsIfOk library size next → FitsIfOk library size (refuse rows next)
refuse_fits library size [] next fits = fits
refuse_fits library size (row ∷ rows) next fits =
    elim row.0 as (λ b. FitsIfOk library size (unless b row.1 (refuse rows next))) [
      | true ↦ fault_fits library size row.1
      | false ↦ refuse_fits library size rows next fits
    ]

nothing_fits : (size : ℕ) → FitsIfOk false size (Ok Nothing)
nothing_fits size = word_fits false size Nothing (λ library. absurd (false≢true library))

copied_fits : (size n : ℕ) (places : List ℕ) (r : Reference) (d : Definer) → n ≤ size → FitsIfOk false size (copies.copied places r n d)
unfolding copies.copied
copied_fits size n places r d le = refuse_fits false size ((is_tls d.symbol, TlsMismatch r.member r.symbol) ∷ (is_absolute d.symbol || copies.is_outside d.object.segments d.symbol.value n, CopyOutside r.member r.symbol) ∷ []) (Ok (Copy d.member (address places d) n)) (word_fits false size (Copy d.member (address places d) n) (refl, le))

copy_from_fits : (size : ℕ) (places : List ℕ) (r : Reference) (weak : Bool) (own : ℕ) (found : Option Definer) → own ≤ size → FitsIfOk false size (copies.copy_from places r weak own found)
copy_from_fits size places r true own None le = nothing_fits size
copy_from_fits size places r false own None le = fault_fits false size (Undefined r.member r.symbol)
copy_from_fits size places r weak own (Some d) le = copied_fits size (min own d.symbol.size) places r d (omega arith)

copy_fits : (size : ℕ) (objects : List Object) (places : List ℕ) (r : Reference) → size_of (own_symbol objects r) ≤ size → FitsIfOk false size (copies.copy objects places r)
unfolding copies.copy
copy_fits size objects places r le =
    choice_fits false size (r.symbol == 0) (Ok Nothing) (copies.copy_from places r (is_weak objects r) (size_of (own_symbol objects r)) (definer objects r))
    (λ _. nothing_fits size)
    (λ _. copy_from_fits size places r (is_weak objects r) (size_of (own_symbol objects r)) (definer objects r) le)

-- ---- a row

-- a COPY that is not out of place stands in a program
copy_in_program : (program : Bool) (r : Reloc) → (r.kind == R_X86_64_COPY) ≡ true → is_misplaced_copy program r ≡ false → not program ≡ false
unfolding is_misplaced_copy
copy_in_program program r is h = (or_parts (not program) (r.symbol == 0) (rw is at h)).0

value_fits : (objects : List Object) (places : List ℕ) (modules : List Module) (member : ℕ) (r : Reloc) (o : Object) (library : Bool) → slice_get objects member ≡ Some o → HasWidth o.symbols r → is_known r.kind ≡ true
    → ((r.kind == R_X86_64_COPY) ≡ true → library ≡ false) → FitsIfOk library r.width (value_of objects places modules member r)
unfolding value_of
value_fits objects places modules member r o library at wide known copy =
    let eight : (k : ℕ) → (r.kind == k) ≡ true → (k == R_X86_64_NONE) ≡ false → (k == R_X86_64_COPY) ≡ false → r.width ≡ 8 =
    λ k is not_none not_copy. wide ∙ word_width o.symbols r.kind r.symbol k is not_none not_copy in
    let to = target objects places (reference member r) in
    choice_fits library r.width (r.kind == R_X86_64_RELATIVE) _ _
    (λ is. word_fits library r.width (Put (added (base_of places member) r.addend)) (eight R_X86_64_RELATIVE is refl refl))
    (λ not_relative. choice_fits library r.width (r.kind == R_X86_64_64) _ _
    (λ is. put_fits library r.width to (λ s. added s r.addend) (eight R_X86_64_64 is refl refl))
    (λ not_plain. choice_fits library r.width (r.kind == R_X86_64_GLOB_DAT || r.kind == R_X86_64_JUMP_SLOT) _ _
    (λ is. put_fits library r.width to (λ s. s) (wide ∙ slot_width o.symbols r.kind r.symbol is))
    (λ not_slot. choice_fits library r.width (r.kind == R_X86_64_COPY) _ _
    (λ is. program_copy_fits objects places member r o library at wide is (copy is))
    (λ not_copy. choice_fits library r.width (tls.is_tls_kind r.kind) _ _
    (λ is. put_fits library r.width (tls.variable objects (reference member r)) (tls.word modules r) (wide ∙ tls_width o.symbols r.kind r.symbol is))
    (λ not_thread. word_fits library r.width Nothing (λ _. wide ∙ ap (λ (kind : ℕ). width o.symbols kind r.symbol) (only_none r.kind known not_relative not_plain not_slot not_copy not_thread) ∙ none_width o.symbols r.symbol))))))
  where
    program_copy_fits : (objects : List Object) (places : List ℕ) (member : ℕ) (r : Reloc) (o : Object) (library : Bool) → slice_get objects member ≡ Some o → HasWidth o.symbols r → (r.kind == R_X86_64_COPY) ≡ true → library ≡ false → FitsIfOk library r.width (copies.copy objects places (reference member r))
    program_copy_fits objects places member r o library at wide is program =
        let own : size_of (own_symbol objects (reference member r)) ≡ size_of (slice_get o.symbols r.symbol) = rw at refl in
        let wide_as : r.width ≡ size_of (slice_get o.symbols r.symbol) = wide ∙ copy_width o.symbols r.kind r.symbol is in
        rw program (copy_fits r.width objects places (reference member r) (omega arith))

-- ---- all rows

row_fits : (objects : List Object) (places : List ℕ) (modules : List Module) (x : Row) (g : Meaning) → IsGiven objects places modules x g → IsKnown objects x → Fits (is_shared_at objects g.member) g.size g.word
unfolding is_bad
row_fits objects places modules x g given known =
    let o = known.object in
    let is_one : is_known x.reloc.kind ≡ true = not-false (is_known x.reloc.kind) (or_parts (not (is_known x.reloc.kind)) _ known.known).0 in
    let library : is_shared_at objects x.member ≡ not (is_exec o) = rw known.at refl in
    let fits = value_fits objects places modules x.member x.reloc o (is_shared_at objects x.member) known.at known.width is_one (λ is. library ∙ copy_in_program (is_exec o) x.reloc is known.copy) in
    subst (λ (h : Meaning). Fits (is_shared_at objects h.member) h.size h.word) given.is (fits.fits g.word given.word)

-- every word fits its place
pub words_fit : WordsFit
words_fit parts objects places modules gs read is =
    zip_all (IsGiven objects places modules) (IsKnown objects) (λ g. Fits (is_shared_at objects g.member) g.size g.word) (rows objects) gs
    (λ x g given known. row_fits objects places modules x g given known) (meanings_given objects places modules gs is) (rows_known parts objects read)
