-- Conflict rows can be written: their numbers have 64 bits, and their addresses ascend.
use Rattle.std.proofs.Common.{◌≡◌, ℕ, suc, ◌+◌, ◌*◌, ◌/◌, ◌^◌, ◌<◌, ◌≤◌, Bool, true, false, cond, List, [], ◌∷◌, length, get_or, Option, Some, None, Result, Ok, Err, refl, sym, ap, subst, ◌∙◌, arith, inl, inr}
use Rattle.std.specs.Prelude.{◌&&◌, ◌||◌, ◌==◌, not, min, nat_lt, find, slice_get}
use Rattle.std.specs.List.{All, AllZip, list_all, list_any, range_with_len}
use Rattle.std.specs.Option.{IfSome}
use Rattle.std.specs.Result.{is_ok}
use Rattle.std.specs.Str.{bytes_eq}
use Rattle.std.proofs.lemmas.Bool.{cases_Bool, cases_lt, and_from, lt-ltb}
use Rattle.std.proofs.lemmas.Bool.Decides.{nat_tests}
use Rattle.std.proofs.lemmas.List.{length-append}
use Rattle.std.proofs.lemmas.List.Elements.{All-nil, All-cons, All-head, All-tail, All-weaker}
use Rattle.std.proofs.lemmas.List.Sorted.{All-permutation}
use Rattle.std.proofs.lemmas.Option.{none-some, same_Some}
use Rattle.pl_base.specs.Bytes.{IsBytes, bytes64}
use Rattle.pl_base.proofs.AnswerLaws.{refuse_none, refuse_next, bind_ok, unless_ok, ok_same, because_ok}
use Rattle.pl_base.proofs.MemoryLaws.{All-filter_map}
use Rattle.pl_base.proofs.SumLaws.{plus_below, minus_below}
use Rattle.pl_base.proofs.WordLaws.{is_bytes_part, word64_below, length_bytes32}
use Rattle.pl_elf.specs.declared.constants.TheConstants.{R_X86_64_64, R_X86_64_COPY, R_X86_64_GLOB_DAT, R_X86_64_JUMP_SLOT, R_X86_64_RELATIVE, R_X86_64_DTPMOD64, R_X86_64_DTPOFF64}
use Rattle.pl_form.specs.Faults.{IsFirm}
use Rattle.pl_form.specs.Program as programs
use Rattle.pl_form.specs.Program.{program_with}
use Rattle.pl_form.specs.Words.{extension_of, strings_of}
use Rattle.pl_form.specs.declared.constants.TheConstants.{STORED}
use Rattle.pl_form.specs.declared.fault.FormFault.{FormFault}
use Rattle.pl_form.specs.declared.fault.FormFault.TheVariants as faults
use Rattle.pl_form.specs.declared.version.Version.{Version}
use Rattle.pl_form.proofs.FillLaws.{lists_too_long}
use Rattle.pl_image.specs.declared.loaded_object.LoadedObject.{LoadedObject}
use Rattle.pl_lists.specs.Conflicts.{is_conflict, ascend, are_conflicts}
use Rattle.pl_lists.specs.Lists.{after, row_bytes, list_bytes}
use Rattle.pl_lists.specs.declared.conflict_row.ConflictRow.{ConflictRow}
use Rattle.pl_lists.specs.declared.list_row.ListRow.{ListRow}
use Rattle.pl_object.specs.FilePart.{file_window, loaded}
use Rattle.pl_object.specs.Names.{needed, strings, symbols, versions, with_version, with_versions, versioned}
use Rattle.pl_object.specs.Reads.{headers, linking, object, reads, static_object}
use Rattle.pl_object.specs.Refusals.{of_symbols}
use Rattle.pl_object.specs.Tables.{symbols_memory}
use Rattle.pl_object.specs.declared.object.Object.{Object}
use Rattle.pl_object.specs.declared.reloc.Reloc.{Reloc}
use Rattle.pl_object.specs.declared.headers.Headers.{Headers}
use Rattle.pl_object.specs.declared.linking.Linking.{Linking}
use Rattle.pl_object.proofs.AcceptedLaws.{read_holds}
use Rattle.pl_dyn.specs.declared.tags.Tag.{Tag}
use Rattle.pl_scope.specs.Finds.{finds}
use Rattle.pl_scope.specs.declared.found.Found.{Found}
use Rattle.pl_scope.specs.declared.reference.Reference.{Reference}
use Rattle.pl_scope.proofs.MemberLaws.{all_at}
use Rattle.pl_sym.specs.Symbol.{is_absolute, is_tls}
use Rattle.pl_sym.specs.Table as table
use Rattle.pl_sym.specs.Table.{named}
use Rattle.pl_sym.specs.declared.constants.TheConstants.{SYMBOL_SIZE}
use Rattle.pl_sym.specs.declared.symbol.Symbol.{Symbol}
use Rattle.pl_tls.specs.Layout.{offset_after, modules_from, is_too_far, offsets}
use Rattle.pl_tls.specs.declared.block.Block.{Block}
use Rattle.pl_tls.specs.declared.fault.TlsFault.TheVariants.{TooLarge}
use Rattle.pl_tls.specs.declared.module.Module.{Module}
use Rattle.pl_ver.specs.declared.versions.Versions.{Versions}
use Rattle.pl_value.specs.Copies.{is_outside, copied, copy_from, copy}
use Rattle.pl_value.specs.Definers.{Definer, with_symbol, in_object, of_found, definer, is_weak}
use Rattle.pl_value.specs.Meanings.{Row, rows, meanings}
use Rattle.pl_value.specs.Targets.{base_of, added, address, target_from, target}
use Rattle.pl_value.specs.Tls as tls
use Rattle.pl_value.specs.Values.{reference, value_of}
use Rattle.pl_value.specs.declared.fault.LinkFault.{LinkFault}
use Rattle.pl_value.specs.declared.fault.LinkFault.TheVariants.{Undefined, TlsMismatch, CopyOutside}
use Rattle.pl_value.specs.declared.meaning.Meaning.{Meaning}
use Rattle.pl_value.specs.declared.tls_index.TlsIndex.{TlsIndex}
use Rattle.pl_value.specs.declared.word.Word.{Word}
use Rattle.pl_value.specs.declared.word.Word.TheVariants.{Put, Copy, Nothing}
use Rattle.pl_value.proofs.MeaningLaws.{each_zip, IsGiven, meanings_given}
use Rattle.pl_conflict.specs.Conflicts.{held, row_of, rows_of, ascending}
use Rattle.pl_conflict.proofs.OrderLaws.{ascending_perm}

-- ---- the symbols of an accepted object

abbrev pub HasValue : Symbol → Type 0
HasValue s = s.value < 2 ^ 64

named_below : (bytes : List ℕ) (at : ℕ) (name : Option (List ℕ)) (s : Symbol) → IsBytes bytes → named bytes at name ≡ Ok s → HasValue s
named_below bytes at None s is e = absurd cc
named_below bytes at (Some name) s is e = subst (λ (n : ℕ). n < 2 ^ 64) (ap (λ (x : Symbol). x.value) (ok_same _ s e)) (word64_below (at + 8) bytes is)

symbol_below : (bytes names : List ℕ) (at : ℕ) (s : Symbol) → IsBytes bytes → table.symbol_at bytes names at ≡ Ok s → HasValue s
unfolding table.symbol_at
symbol_below bytes names at s is e = named_below bytes at _ s is e

zip_below : (bytes names : List ℕ) (is : List ℕ) (ss : List Symbol) → IsBytes bytes → AllZip (λ i s. table.symbol bytes names i ≡ Ok s) is ss → All HasValue ss
zip_below bytes names [] [] b zip = All-nil HasValue
zip_below bytes names [] (s ∷ ss) b zip = absurd zip
zip_below bytes names (i ∷ is) [] b zip = absurd zip
zip_below bytes names (i ∷ is) (s ∷ ss) b zip = All-cons HasValue s ss (symbol_below bytes names (SYMBOL_SIZE * i) s b zip.0) (zip_below bytes names is ss b zip.1)

bare_below : (bytes names : List ℕ) (bare : List Symbol) → IsBytes bytes → table.symbols bytes names ≡ Ok bare → All HasValue bare
unfolding table.symbols
bare_below bytes names bare b e = zip_below bytes names (range_with_len 0 (length bytes / SYMBOL_SIZE)) bare b (each_zip (table.symbol bytes names) (range_with_len 0 (length bytes / SYMBOL_SIZE)) bare e)

versions_below : (ss : List Symbol) (ws : List ℕ) → All HasValue ss → All HasValue (with_versions ss ws)
unfolding with_versions
versions_below [] ws all = All-nil HasValue
versions_below (s ∷ ss) [] all = all
versions_below (s ∷ ss) (w ∷ ws) all = All-cons HasValue (with_version s w) (with_versions ss ws) (All-head HasValue s ss all) (versions_below ss ws (All-tail HasValue s ss all))

versioned_below : (ss : List Symbol) (known : Option Versions) → All HasValue ss → All HasValue (versioned ss known)
versioned_below ss None all = all
versioned_below ss (Some known) all = versions_below ss known.index all

linking_below : (bytes : List ℕ) (f : Headers) (tags : List Tag) (l : Linking) → IsBytes bytes → linking bytes f tags ≡ Ok l → All HasValue l.symbols
unfolding linking symbols loaded
linking_below bytes f tags l b e =
    let names = bind_ok (needed tags (strings bytes f.segments tags)) _ l e in
    let bare = bind_ok (symbols bytes f.segments f.sections tags) _ l names.2 in
    let known = bind_ok (versions bytes f.segments f.sections tags bare.0) _ l bare.2 in
    let window = file_window f.segments (symbols_memory tags f.sections) in
    let all = bare_below (loaded bytes f.segments (symbols_memory tags f.sections)) (strings bytes f.segments tags) bare.0 (is_bytes_part window.at window.size bytes b) (because_ok of_symbols _ bare.0 bare.1) in
    subst (All HasValue) (ap (λ (x : Linking). x.symbols) (ok_same _ l known.2)) (versioned_below bare.0 known.0 all)

abbrev pub HasSymbols : Object → Type 0
HasSymbols o = All HasValue o.symbols

pub symbols_below : (o : List ℕ) (x : Object) → IsBytes o → reads o ≡ Ok x → HasSymbols x
unfolding static_object object
symbols_below o x b e = read_holds HasSymbols o (λ h s. All-nil HasValue) (λ h d l is. linking_below o (headers o h) d.tags l b is.names) x e

-- ---- definers and addresses

symbol_in : (member : ℕ) (o : Object) (found : Option Symbol) (d : Definer) → ((s : Symbol) → found ≡ Some s → HasValue s) → with_symbol member o found ≡ Some d → HasValue d.symbol
symbol_in member o None d each e = absurd (none-some d e)
symbol_in member o (Some s) d each e = subst (λ (x : Definer). HasValue x.symbol) (same_Some _ d e) (each s refl)

object_in : (f : Found) (found : Option Object) (d : Definer) → ((o : Object) → found ≡ Some o → HasSymbols o) → in_object f found ≡ Some d → HasValue d.symbol
object_in f None d each e = absurd (none-some d e)
object_in f (Some o) d each e = symbol_in f.member o (slice_get o.symbols f.symbol) d (λ s is. all_at HasValue o.symbols f.symbol s (each o refl) is) e

found_in : (objects : List Object) (found : Option Found) (d : Definer) → All HasSymbols objects → of_found objects found ≡ Some d → HasValue d.symbol
found_in objects None d all e = absurd (none-some d e)
found_in objects (Some f) d all e = object_in f (slice_get objects f.member) d (λ o is. all_at HasSymbols objects f.member o all is) e

address_below : (places : List ℕ) (d : Definer) → HasValue d.symbol → address places d < 2 ^ 64
unfolding address
address_below places d value = elim (cases_Bool (is_absolute d.symbol)) [
  | inl number ↦ rw number value
  | inr other ↦ rw other (plus_below (base_of places d.member) d.symbol.value)
]

target_by : (places : List ℕ) (r : Reference) (weak : Bool) (found : Option Definer) (s : ℕ) → ((d : Definer) → found ≡ Some d → HasValue d.symbol) → target_from places r weak found ≡ Ok s → s < 2 ^ 64
target_by places r weak None s each e =
    let p = unless_ok (not weak) (Undefined r.member r.symbol) (Ok 0) s e in
    subst (λ (n : ℕ). n < 2 ^ 64) (ok_same 0 s p.1) (omega arith)
target_by places r weak (Some d) s each e =
    let p = unless_ok (is_tls d.symbol) (TlsMismatch r.member r.symbol) (Ok (address places d)) s e in
    subst (λ (n : ℕ). n < 2 ^ 64) (ok_same (address places d) s p.1) (address_below places d (each d refl))

target_below : (objects : List Object) (places : List ℕ) (r : Reference) (s : ℕ) → All HasSymbols objects → target objects places r ≡ Ok s → s < 2 ^ 64
unfolding target definer
target_below objects places r s all e = elim (cases_Bool (r.symbol == 0)) [
  | inl none ↦ subst (λ (n : ℕ). n < 2 ^ 64) (ok_same 0 s (rw none at e)) (omega arith)
  | inr some ↦ target_by places r (is_weak objects r) (definer objects r) s (λ d is. found_in objects (finds objects r) d all is) (rw some at e)
]

-- ---- thread-local storage

abbrev pub HasNumber : Module → Type 0
HasNumber m = m.number < 2 ^ 64

find_holds : {X : Type 0} (P : X → Type 0) (p : X → Bool) (xs : List X) (x : X) → All P xs → find p xs ≡ Some x → P x
find_holds P p [] x all e = absurd (none-some x e)
find_holds P p (y ∷ ys) x all e = elim (cases_Bool (p y)) [
  | inl hit ↦ subst P (same_Some y x (rw hit at e)) (All-head P y ys all)
  | inr miss ↦ find_holds P p ys x (All-tail P y ys all) (rw miss at e)
]

number_by : (o : Option Module) → ((m : Module) → o ≡ Some m → HasNumber m) → tls.number_of o < 2 ^ 64
number_by None each = omega arith
number_by (Some m) each = each m refl

tls_below : (modules : List Module) (r : Reloc) (v : TlsIndex) → All HasNumber modules → tls.word modules r v < 2 ^ 64
unfolding tls.word
tls_below modules r v all = elim (cases_Bool (r.kind == R_X86_64_DTPMOD64)) [
  | inl one ↦ rw one (number_by (tls.module_of modules v.member) (λ m is. find_holds HasNumber (λ n. n.member == v.member) modules m all is))
  | inr other ↦ elim (cases_Bool (r.kind == R_X86_64_DTPOFF64)) [
    | inl two ↦ rw (other, two) (plus_below v.offset _)
    | inr three ↦ rw (other, three) (minus_below (added v.offset r.addend) (tls.offset_of (tls.module_of modules v.member)))
  ]
]

-- ---- words

put_word : Result Word LinkFault → ℕ
put_word (Ok (Put w)) = w
put_word (Ok (Copy member from size)) = 0
put_word (Ok Nothing) = 0
put_word (Err e) = 0

same_word : (a w : ℕ) → a < 2 ^ 64 → ◌≡◌ {A = Result Word LinkFault} (Ok (Put a)) (Ok (Put w)) → w < 2 ^ 64
unfolding put_word
same_word a w lt e = subst (λ (n : ℕ). n < 2 ^ 64) (ap put_word e) lt

nothing_put : (w : ℕ) → ◌≡◌ {A = Result Word LinkFault} (Ok Nothing) (Ok (Put w)) → ⊥
nothing_put w e = absurd cc

copy_put : (member from size w : ℕ) → ◌≡◌ {A = Result Word LinkFault} (Ok (Copy member from size)) (Ok (Put w)) → ⊥
copy_put member from size w e = absurd cc

copied_put : (places : List ℕ) (r : Reference) (size : ℕ) (d : Definer) (w : ℕ) → copied places r size d ≡ Ok (Put w) → ⊥
unfolding copied
copied_put places r size d w e =
    let tests : List (Bool × LinkFault) = (is_tls d.symbol, TlsMismatch r.member r.symbol) ∷ (is_absolute d.symbol || is_outside d.object.segments d.symbol.value size, CopyOutside r.member r.symbol) ∷ [] in
    let given : Result Word LinkFault = Ok (Copy d.member (address places d) size) in
    let none = refuse_none tests given (ap (λ (a : Result Word LinkFault). is_ok a) e) in
    copy_put d.member (address places d) size w (sym (refuse_next tests given none) ∙ e)

copy_from_put : (places : List ℕ) (r : Reference) (weak : Bool) (size : ℕ) (found : Option Definer) (w : ℕ) → copy_from places r weak size found ≡ Ok (Put w) → ⊥
copy_from_put places r weak size None w e = nothing_put w (unless_ok (not weak) (Undefined r.member r.symbol) (Ok Nothing) (Put w) e).1
copy_from_put places r weak size (Some d) w e = copied_put places r (min size d.symbol.size) d w e

no_put : (objects : List Object) (places : List ℕ) (r : Reference) (w : ℕ) → copy objects places r ≡ Ok (Put w) → ⊥
unfolding copy
no_put objects places r w e = elim (cases_Bool (r.symbol == 0)) [
  | inl none ↦ nothing_put w (rw none at e)
  | inr some ↦ copy_from_put places r (is_weak objects r) _ (definer objects r) w (rw some at e)
]

value_below : (objects : List Object) (places : List ℕ) (modules : List Module) (member : ℕ) (r : Reloc) (w : ℕ) → All HasSymbols objects → All HasNumber modules → value_of objects places modules member r ≡ Ok (Put w) → w < 2 ^ 64
unfolding value_of
value_below objects places modules member r w all numbers e =
    elim (cases_Bool (r.kind == R_X86_64_RELATIVE)) [
      | inl a ↦ same_word (added (base_of places member) r.addend) w (plus_below (base_of places member) _) (rw a at e)
      | inr b ↦ elim (cases_Bool (r.kind == R_X86_64_64)) [
        | inl c ↦
            let p = bind_ok (target objects places (reference member r)) (λ s. Ok (Put (added s r.addend))) (Put w) (rw (b, c) at e) in
            same_word (added p.0 r.addend) w (plus_below p.0 _) p.2
        | inr d ↦ elim (cases_Bool (r.kind == R_X86_64_GLOB_DAT || r.kind == R_X86_64_JUMP_SLOT)) [
          | inl f ↦
              let p = bind_ok (target objects places (reference member r)) (λ s. Ok (Put s)) (Put w) (rw (b, d, f) at e) in
              same_word p.0 w (target_below objects places (reference member r) p.0 all p.1) p.2
          | inr g ↦ elim (cases_Bool (r.kind == R_X86_64_COPY)) [
            | inl h ↦ absurd (no_put objects places (reference member r) w (rw (b, d, g, h) at e))
            | inr i ↦ elim (cases_Bool (tls.is_tls_kind r.kind)) [
              | inl j ↦
                  let p = bind_ok (tls.variable objects (reference member r)) (λ v. Ok (Put (tls.word modules r v))) (Put w) (rw (b, d, g, i, j) at e) in
                  same_word (tls.word modules r p.0) w (tls_below modules r p.0 numbers) p.2
              | inr k ↦ absurd (nothing_put w (rw (b, d, g, i, k) at e))
            ]
          ]
        ]
      ]
    ]

-- ---- rows

-- a place and its word have 64 bits
record IsLow (g : Meaning) : Type 0 where
  start : g.start < 2 ^ 64
  word : (w : ℕ) → g.word ≡ Put w → w < 2 ^ 64

given_low : (objects : List Object) (places : List ℕ) (modules : List Module) (xs : List Row) (gs : List Meaning) → All HasSymbols objects → All HasNumber modules → AllZip (IsGiven objects places modules) xs gs → All IsLow gs
given_low objects places modules [] [] all numbers zip = All-nil IsLow
given_low objects places modules [] (g ∷ gs) all numbers zip = absurd zip
given_low objects places modules (x ∷ xs) [] all numbers zip = absurd zip
given_low objects places modules (x ∷ xs) (g ∷ gs) all numbers zip =
    let first : IsLow g = record {
      start = subst (λ (n : ℕ). n < 2 ^ 64) (ap (λ (h : Meaning). h.start) zip.0.is) (plus_below (base_of places x.member) x.reloc.address);
      word = λ w is. value_below objects places modules x.member x.reloc w all numbers (zip.0.word ∙ ap (λ (v : Word). Ok v) is);
    } in
    All-cons IsLow g gs first (given_low objects places modules xs gs all numbers zip.1)

row_low : (files : List LoadedObject) (member start : ℕ) (word : Word) → start < 2 ^ 64 → ((w : ℕ) → word ≡ Put w → w < 2 ^ 64) → IfSome (row_of files member start word) (λ r. is_conflict r ≡ true)
unfolding is_conflict
row_low files member start (Put w) at below =
    let both : (nat_lt start (2 ^ 64) && nat_lt w (2 ^ 64)) ≡ true = and_from (nat_lt start (2 ^ 64)) (nat_lt w (2 ^ 64)) (lt-ltb start (2 ^ 64) at) (lt-ltb w (2 ^ 64) (below w refl)) in
    elim (member == 0 || bytes_eq (held files member start) (bytes64 w)) as (λ b. IfSome {T = ConflictRow} (cond b None (Some (record { address = start; word = w }))) (λ r. (nat_lt r.address (2 ^ 64) && nat_lt r.word (2 ^ 64)) ≡ true)) [
      | true ↦ tt
      | false ↦ both
    ]
row_low files member start (Copy from at n) low below = tt
row_low files member start Nothing low below = tt

rows_low : (files : List LoadedObject) (gs : List Meaning) → All IsLow gs → All (λ r. is_conflict r ≡ true) (rows_of files gs)
unfolding rows_of
rows_low files gs low = All-filter_map (λ r. is_conflict r ≡ true) (λ g. row_of files g.member g.start g.word) gs (λ k d lt. row_low files (get_or gs k d).member (get_or gs k d).start (get_or gs k d).word (low k d lt).start (low k d lt).word)

all_true : {X : Type 0} (p : X → Bool) (xs : List X) → All (λ x. p x ≡ true) xs → list_all p xs ≡ true
all_true p [] all = refl
all_true p (x ∷ xs) all = and_from (p x) (list_all p xs) (All-head (λ y. p y ≡ true) x xs all) (all_true p xs (All-tail (λ y. p y ≡ true) x xs all))

-- the rows of a scope in their order
pub rows_written : (objects : List Object) (places : List ℕ) (modules : List Module) (gs : List Meaning) (files : List LoadedObject) → All HasSymbols objects → All HasNumber modules → meanings objects places modules ≡ Ok gs → ascend (ascending (rows_of files gs)) ≡ true → are_conflicts (ascending (rows_of files gs)) ≡ true
rows_written objects places modules gs files all numbers is up =
    let low = given_low objects places modules (rows objects) gs all numbers (meanings_given objects places modules gs is) in
    let each : All (λ r. is_conflict r ≡ true) (ascending (rows_of files gs)) = All-permutation (λ r. is_conflict r ≡ true) (rows_of files gs) (ascending (rows_of files gs)) (ascending_perm (rows_of files gs)) (rows_low files gs low) in
    and_from (list_all is_conflict (ascending (rows_of files gs))) (ascend (ascending (rows_of files gs))) (all_true is_conflict (ascending (rows_of files gs)) each) up

-- ---- the numbers of modules

modules_low : (member number reached : ℕ) (blocks : List (Option Block)) → All (λ m. m.number < number + length blocks) (modules_from member number reached blocks)
unfolding modules_from
modules_low member number reached [] = All-nil (λ m. m.number < number + 0)
modules_low member number reached (None ∷ blocks) =
    All-weaker (λ (m : Module). m.number < number + length blocks) (λ (m : Module). m.number < number + suc (length blocks)) (λ m lt. omega (arith, lt)) (modules_from (member + 1) number reached blocks) (modules_low (member + 1) number reached blocks)
modules_low member number reached (Some block ∷ blocks) =
    let rest : List Module = modules_from (member + 1) (number + 1) (offset_after reached block) blocks in
    All-cons (λ (m : Module). m.number < number + suc (length blocks)) _ rest (omega arith)
    (All-weaker (λ (m : Module). m.number < number + 1 + length blocks) (λ (m : Module). m.number < number + suc (length blocks)) (λ m lt. omega (arith, lt)) rest (modules_low (member + 1) (number + 1) (offset_after reached block) blocks))

pub numbers_low : (blocks : List (Option Block)) (modules : List Module) → offsets blocks ≡ Ok modules → 1 + length blocks ≤ 2 ^ 64 → All HasNumber modules
unfolding offsets
numbers_low blocks modules e few =
    let p = unless_ok (list_any is_too_far (modules_from 0 1 0 blocks)) TooLarge (Ok (modules_from 0 1 0 blocks)) modules e in
    subst (All HasNumber) (ok_same (modules_from 0 1 0 blocks) modules p.1)
    (All-weaker (λ (m : Module). m.number < 1 + length blocks) HasNumber (λ m lt. omega (arith, lt, few)) (modules_from 0 1 0 blocks) (modules_low 0 1 0 blocks))

-- ---- how many members a program's file can name

row_length : (at : ℕ) (row : ListRow) → length (row_bytes at row) ≡ 20
unfolding row_bytes
row_length at row = simp (length-append, length_bytes32) refl

list_length : (at : ℕ) (list : List ListRow) → length (list_bytes at list) ≡ 20 * length list
unfolding list_bytes
list_length at [] = refl
list_length at (row ∷ list) = length-append (row_bytes at row) (list_bytes (after at row) list) ∙ omega (arith, row_length at row, list_length (after at row) list)

no_error : (form : List ℕ) → length form ≤ STORED → programs.stored form ≡ Err faults.TooLarge → ⊥
no_error form le e =
    let small : nat_lt STORED (length form) ≡ false = grind (arith, nat_tests) in
    bad form (rw small at e)
  where
    bad : (xs : List ℕ) → ◌≡◌ {A = Result (List ℕ) FormFault} (Ok xs) (Err faults.TooLarge) → ⊥
    bad xs e = absurd cc

pub list_few : (o : List ℕ) (x : Object) (list : List ListRow) (flat : List ℕ) (conflicts : List ConflictRow) (version : Version) → IsFirm o x → length (program_with o list flat conflicts version) ≤ STORED → 20 * length list ≤ STORED
list_few o x list flat conflicts version firm small = elim (cases_lt STORED (20 * length list)) [
  | inl lt ↦ absurd (no_error (program_with o list flat conflicts version) small (lists_too_long o x list flat conflicts version (extension_of o list conflicts) firm refl (omega (arith, lt, list_length (length (strings_of o)) list))))
  | inr le ↦ le
]
