-- An undo section that is read is spelled so, and one that is spelled so is read.
use Rattle.std.proofs.Common.{◌≡◌, ℕ, ◌+◌, ◌-◌, ◌^◌, ◌<◌, ◌≤◌, true, ◌&&◌, ◌==◌, not, nat_eq, nat_lt, false, List, [], ◌++◌, length, take, drop, Option, Some, None, Result, Ok, Err, refl, sym, ap, subst, ◌∙◌, append_assoc, arith, eq-eqb, take-append-drop, length-append, length-drop, length-take, inl, inr}
use Rattle.std.specs.List.{starts_with}
use Rattle.std.specs.Prelude.{IfOk}
use Rattle.std.proofs.lemmas.Bool.{cases_Bool, and_parts, and_from, not-true, lt-ltb, le-ltb, ltb-true, ltb-false, eqb-true}
use Rattle.std.proofs.lemmas.Bool.Decides.{Decides-eqb}
use Rattle.std.proofs.lemmas.List.{drop-drop, drop_at, take_at}
use Rattle.std.proofs.lemmas.Slice.Eq.{starts_is}
use Rattle.pl_base.specs.Answers.{Answers}
use Rattle.pl_base.specs.Bytes.{IsBytes, word64, bytes64, part}
use Rattle.pl_base.proofs.AnswerLaws.{refuse_ok, ok_same}
use Rattle.pl_base.proofs.WordLaws.{length_bytes64, word16_front, word64_below, word64_back, split64}
use Rattle.pl_elf.specs.Headers.{header}
use Rattle.pl_elf.specs.declared.header.Header.{Header}
use Rattle.pl_undo.specs.declared.constants.TheConstants.{UNDO_MAGIC, UNDO_MAGIC_2}
use Rattle.pl_undo.specs.declared.undo.Undo.{Undo}
use Rattle.pl_undo.specs.declared.fault.UndoFault.{UndoFault}
use Rattle.pl_undo.specs.declared.fault.UndoFault.TheVariants.{BadUndo}
use Rattle.pl_undo.specs.Section.{magic, digest_bytes, headers_at, is_digest, undo_bytes, headers_size, fits_kind, are_words, has_headers, IsUndoOf}
use Rattle.pl_undo.specs.Reading.{is_memory, has_front, stored, ends_at, fitting, behind_front, in_version, undo_of}

-- ---- steps and tests that led to an answer

-- ---- words one after the other

-- a word that stands at an offset is read as it was written
here64 : (at number : ℕ) (rest xs : List ℕ) → drop at xs ≡ bytes64 number ++ rest → number < 2 ^ 64 → word64 at xs ≡ number
unfolding word64
here64 at number rest xs there small =
    let front : word64 0 (bytes64 number ++ rest) ≡ number = word64_back number rest small in
    rw there front

-- and behind it the rest stands
next64 : (at next number : ℕ) (rest xs : List ℕ) → at + 8 ≡ next → drop at xs ≡ bytes64 number ++ rest → drop next xs ≡ rest
next64 at next number rest xs is there =
    ap (λ (n : ℕ). drop n xs) (sym is) ∙ sym (drop-drop 8 at xs) ∙ ap (drop 8) there ∙ drop_at (bytes64 number) rest 8 (length_bytes64 number)

-- ---- the front

front_found : (d : Option (List ℕ)) (bytes : List ℕ) → has_front (magic d) (headers_at d) bytes ≡ true → (bytes ≡ magic d ++ drop 8 bytes) × (headers_at d + 64 ≤ length bytes)
unfolding has_front
front_found None bytes e =
    let t = and_parts (starts_with nat_eq bytes UNDO_MAGIC) (not (nat_lt (length bytes) 112)) e in
    ((starts_is Decides-eqb bytes UNDO_MAGIC (starts_with nat_eq bytes UNDO_MAGIC) refl).0 t.0, ltb-false _ _ (not-true _ t.1))
front_found (Some digest) bytes e =
    let t = and_parts (starts_with nat_eq bytes UNDO_MAGIC_2) (not (nat_lt (length bytes) 144)) e in
    ((starts_is Decides-eqb bytes UNDO_MAGIC_2 (starts_with nat_eq bytes UNDO_MAGIC_2) refl).0 t.0, ltb-false _ _ (not-true _ t.1))

front_again : (d : Option (List ℕ)) (bytes rest : List ℕ) → bytes ≡ magic d ++ rest → headers_at d + 64 ≤ length bytes → has_front (magic d) (headers_at d) bytes ≡ true
unfolding has_front
front_again None bytes rest is long =
    rw ((starts_is Decides-eqb bytes UNDO_MAGIC (starts_with nat_eq bytes UNDO_MAGIC) refl).1 rest is, le-ltb (length bytes) 112 long) refl
front_again (Some digest) bytes rest is long =
    rw ((starts_is Decides-eqb bytes UNDO_MAGIC_2 (starts_with nat_eq bytes UNDO_MAGIC_2) refl).1 rest is, le-ltb (length bytes) 144 long) refl

-- version 2 does not begin as version 1 does
other_front : (bytes rest : List ℕ) → bytes ≡ UNDO_MAGIC_2 ++ rest → has_front UNDO_MAGIC 48 bytes ≡ false
unfolding has_front
other_front bytes rest is = rw is refl

-- ---- the header by its first bytes

-- two headers that tell the same type and the same sizes
record TellSame (g h : Header) : Type 0 where
  kind : g.kind ≡ h.kind
  size : headers_size g ≡ headers_size h

header_front : (front rest : List ℕ) → 64 ≤ length front → TellSame (header (front ++ rest)) (header front)
unfolding header headers_size
header_front front rest long = record {
  kind = word16_front 16 front rest (omega (arith, long));
  size = rw (word16_front 56 front rest (omega (arith, long)), word16_front 60 front rest (omega (arith, long))) refl;
}

size_least : (h : Header) → 64 ≤ headers_size h
unfolding headers_size
size_least h = omega arith

-- ---- a section that is read

-- what is known of a section of a version whose headers have a size
record IsWhole (bytes : List ℕ) (d : Option (List ℕ)) (size : ℕ) : Type 0 where
  are_bytes : IsBytes bytes
  front : bytes ≡ magic d ++ drop 8 bytes
  digest : drop 48 bytes ≡ digest_bytes d ++ drop (headers_at d) bytes
  behind : 48 ≤ headers_at d
  enough : 64 ≤ size
  end : length bytes ≡ headers_at d + size + word64 40 bytes

kept_size : (bytes : List ℕ) (d : Option (List ℕ)) (size : ℕ) → IsWhole bytes d size → length (drop (headers_at d + size) bytes) ≡ word64 40 bytes
kept_size bytes d size whole = omega (arith, length-drop (headers_at d + size) bytes, whole.end)

headers_there : (bytes : List ℕ) (at size : ℕ) → drop at bytes ≡ part at size bytes ++ drop (at + size) bytes
headers_there bytes at size = sym (take-append-drop size (drop at bytes)) ∙ ap (λ (xs : List ℕ). part at size bytes ++ xs) (drop-drop size at bytes)

length_headers : (bytes : List ℕ) (d : Option (List ℕ)) (size : ℕ) → IsWhole bytes d size → length (part (headers_at d) size bytes) ≡ size
length_headers bytes d size whole = omega (arith, length-take size (drop (headers_at d) bytes), length-drop (headers_at d) bytes, whole.end)

-- the value that stands there
abbrev value : List ℕ → Option (List ℕ) → ℕ → Undo
value bytes d size = record { slot = word64 8 bytes; cut = word64 16 bytes; shift = word64 24 bytes; length = word64 32 bytes; headers = part (headers_at d) size bytes; kept = drop (headers_at d + size) bytes; digest = d }

stored_is : (bytes : List ℕ) (d : Option (List ℕ)) (size : ℕ) → stored bytes d (headers_at d + size) ≡ value bytes d size
unfolding stored
stored_is bytes d size = let less : headers_at d + size - headers_at d ≡ size = omega arith in rw less refl

-- the bytes of a value, from left to right
flat : (u : Undo) → undo_bytes u ≡ magic u.digest ++ (bytes64 u.slot ++ (bytes64 u.cut ++ (bytes64 u.shift ++ (bytes64 u.length ++ (bytes64 (length u.kept) ++ (digest_bytes u.digest ++ (u.headers ++ u.kept)))))))
unfolding undo_bytes
flat u = simp append_assoc

abbrev from_numbers : Undo → ℕ → List ℕ
from_numbers u count = magic u.digest ++ (bytes64 u.slot ++ (bytes64 u.cut ++ (bytes64 u.shift ++ (bytes64 u.length ++ (bytes64 count ++ (digest_bytes u.digest ++ (u.headers ++ u.kept)))))))

spelled_so : (bytes : List ℕ) (d : Option (List ℕ)) (size : ℕ) → IsWhole bytes d size → bytes ≡ undo_bytes (stored bytes d (headers_at d + size))
spelled_so bytes d size whole =
    let long : 112 ≤ length bytes = omega (arith, whole.end, whole.enough, whole.behind) in
    let s48 = whole.digest ∙ ap (λ (xs : List ℕ). digest_bytes d ++ xs) (headers_there bytes (headers_at d) size) in
    let s40 = split64 40 48 bytes whole.are_bytes refl (omega (arith, long)) ∙ ap (λ (xs : List ℕ). bytes64 (word64 40 bytes) ++ xs) s48 in
    let s32 = split64 32 40 bytes whole.are_bytes refl (omega (arith, long)) ∙ ap (λ (xs : List ℕ). bytes64 (word64 32 bytes) ++ xs) s40 in
    let s24 = split64 24 32 bytes whole.are_bytes refl (omega (arith, long)) ∙ ap (λ (xs : List ℕ). bytes64 (word64 24 bytes) ++ xs) s32 in
    let s16 = split64 16 24 bytes whole.are_bytes refl (omega (arith, long)) ∙ ap (λ (xs : List ℕ). bytes64 (word64 16 bytes) ++ xs) s24 in
    let s8 = split64 8 16 bytes whole.are_bytes refl (omega (arith, long)) ∙ ap (λ (xs : List ℕ). bytes64 (word64 8 bytes) ++ xs) s16 in
    let counted : magic d ++ drop 8 bytes ≡ undo_bytes (value bytes d size) =
    ap (λ (xs : List ℕ). magic d ++ xs) s8 ∙ sym (flat (value bytes d size) ∙ ap (λ (n : ℕ). from_numbers (value bytes d size) n) (kept_size bytes d size whole)) in
    whole.front ∙ counted ∙ ap undo_bytes (sym (stored_is bytes d size))

words_found : (bytes : List ℕ) (d : Option (List ℕ)) (size : ℕ) → IsWhole bytes d size → are_words (stored bytes d (headers_at d + size)) ≡ true
unfolding are_words
words_found bytes d size whole =
    let small : (at : ℕ) → word64 at bytes < 2 ^ 64 = λ at. word64_below at bytes whole.are_bytes in
    rw (stored_is bytes d size, kept_size bytes d size whole, lt-ltb _ _ (small 8), lt-ltb _ _ (small 16), lt-ltb _ _ (small 24), lt-ltb _ _ (small 32), lt-ltb _ _ (small 40)) refl

headers_found : (bytes : List ℕ) (d : Option (List ℕ)) (size : ℕ) → IsWhole bytes d size → size ≡ headers_size (header (drop (headers_at d) bytes))
    → fits_kind (header (drop (headers_at d) bytes)).kind (value bytes d size) ≡ true → has_headers (value bytes d size) ≡ true
unfolding has_headers
headers_found bytes d size whole size_is fits =
    let headers = part (headers_at d) size bytes in
    let same : TellSame (header (drop (headers_at d) bytes)) (header headers) =
    subst (λ (xs : List ℕ). TellSame (header xs) (header headers)) (sym (headers_there bytes (headers_at d) size))
    (header_front headers (drop (headers_at d + size) bytes) (omega (arith, length_headers bytes d size whole, whole.enough))) in
    let told : length headers ≡ headers_size (header headers) = length_headers bytes d size whole ∙ size_is ∙ same.size in
    and_from _ _ (eq-eqb _ _ told) (ap (λ (kind : ℕ). fits_kind kind (value bytes d size)) (sym same.kind) ∙ fits)

version_found : (bytes : List ℕ) (d : Option (List ℕ)) (u : Undo) → IsBytes bytes → bytes ≡ magic d ++ drop 8 bytes → drop 48 bytes ≡ digest_bytes d ++ drop (headers_at d) bytes → 48 ≤ headers_at d
    → is_digest d ≡ true → in_version bytes d ≡ Ok u → IsUndoOf bytes u
unfolding behind_front ends_at
version_found bytes d u are_bytes front digest behind has_digest e =
    let h = header (drop (headers_at d) bytes) in
    let size = headers_size h in
    let s = refuse_ok (length bytes == headers_at d + size + word64 40 bytes) BadUndo (fitting h.kind (stored bytes d (headers_at d + size))) u e in
    let f = refuse_ok (fits_kind h.kind (stored bytes d (headers_at d + size))) BadUndo (Ok (stored bytes d (headers_at d + size))) u s.1 in
    let whole : IsWhole bytes d size = record { are_bytes = are_bytes; front = front; digest = digest; behind = behind; enough = size_least h; end = eqb-true _ _ s.0 } in
    let fits : fits_kind h.kind (value bytes d size) ≡ true = ap (fits_kind h.kind) (sym (stored_is bytes d size)) ∙ f.0 in
    let has_headers_found : has_headers (stored bytes d (headers_at d + size)) ≡ true = ap has_headers (stored_is bytes d size) ∙ headers_found bytes d size whole refl fits in
    let has_digest_found : is_digest (stored bytes d (headers_at d + size)).digest ≡ true = ap (λ (v : Undo). is_digest v.digest) (stored_is bytes d size) ∙ has_digest in
    subst (λ (v : Undo). IsUndoOf bytes v) (ok_same (stored bytes d (headers_at d + size)) u f.1) (record {
      in_bytes = spelled_so bytes d size whole;
      is_spelled = rw (words_found bytes d size whole, has_digest_found, has_headers_found) refl;
    })

-- the digest of version 2
digest_there : (bytes : List ℕ) → drop 48 bytes ≡ part 48 32 bytes ++ drop 80 bytes
digest_there bytes = headers_there bytes 48 32

length_digest : (bytes : List ℕ) → 144 ≤ length bytes → length (part 48 32 bytes) ≡ 32
length_digest bytes long = omega (arith, length-take 32 (drop 48 bytes), length-drop 48 bytes, long)

pub is_found : (bytes : List ℕ) (u : Undo) → IsBytes bytes → undo_of bytes ≡ Ok u → IsUndoOf bytes u
unfolding undo_of
is_found bytes u are_bytes e = elim (cases_Bool (has_front UNDO_MAGIC 48 bytes)) [
  | inl one ↦
      let front = front_found None bytes one in
      version_found bytes None u are_bytes front.0 refl (omega arith) refl (rw one at e)
  | inr other ↦
      let t = refuse_ok (has_front UNDO_MAGIC_2 80 bytes) BadUndo (in_version bytes (Some (part 48 32 bytes))) u (rw other at e) in
      let front = front_found (Some (part 48 32 bytes)) bytes t.0 in
      version_found bytes (Some (part 48 32 bytes)) u are_bytes front.0 (digest_there bytes) (omega arith) (eq-eqb _ _ (length_digest bytes front.1)) t.1
]

pub answer_found : (bytes : List ℕ) (answer : Result Undo UndoFault) → IsBytes bytes → Answers is_memory answer (undo_of bytes) → IfOk answer (IsUndoOf bytes)
answer_found bytes (Ok u) are_bytes meant = is_found bytes u are_bytes meant
answer_found bytes (Err fault) are_bytes meant = tt

-- ---- a section as it is spelled

-- what is known of a value's bytes
record IsLaid (bytes : List ℕ) (u : Undo) : Type 0 where
  front : bytes ≡ magic u.digest ++ drop 8 bytes
  slot : word64 8 bytes ≡ u.slot
  cut : word64 16 bytes ≡ u.cut
  shift : word64 24 bytes ≡ u.shift
  size : word64 32 bytes ≡ u.length
  count : word64 40 bytes ≡ length u.kept
  rest : drop 48 bytes ≡ digest_bytes u.digest ++ (u.headers ++ u.kept)

record HasWords (u : Undo) : Type 0 where
  slot : u.slot < 2 ^ 64
  cut : u.cut < 2 ^ 64
  shift : u.shift < 2 ^ 64
  size : u.length < 2 ^ 64
  count : length u.kept < 2 ^ 64

words_are : (u : Undo) → are_words u ≡ true → HasWords u
unfolding are_words
words_are u e =
    let t4 = and_parts (nat_lt u.slot (2 ^ 64) && nat_lt u.cut (2 ^ 64) && nat_lt u.shift (2 ^ 64) && nat_lt u.length (2 ^ 64)) (nat_lt (length u.kept) (2 ^ 64)) e in
    let t3 = and_parts (nat_lt u.slot (2 ^ 64) && nat_lt u.cut (2 ^ 64) && nat_lt u.shift (2 ^ 64)) (nat_lt u.length (2 ^ 64)) t4.0 in
    let t2 = and_parts (nat_lt u.slot (2 ^ 64) && nat_lt u.cut (2 ^ 64)) (nat_lt u.shift (2 ^ 64)) t3.0 in
    let t1 = and_parts (nat_lt u.slot (2 ^ 64)) (nat_lt u.cut (2 ^ 64)) t2.0 in
    record { slot = ltb-true _ _ t1.0; cut = ltb-true _ _ t1.1; shift = ltb-true _ _ t2.1; size = ltb-true _ _ t3.1; count = ltb-true _ _ t4.1 }

length_magic : (d : Option (List ℕ)) → length (magic d) ≡ 8
length_magic None = refl
length_magic (Some digest) = refl

laid : (bytes : List ℕ) (u : Undo) → bytes ≡ undo_bytes u → HasWords u → IsLaid bytes u
laid bytes u spelled words =
    let is = spelled ∙ flat u in
    let r48 = digest_bytes u.digest ++ (u.headers ++ u.kept) in
    let r40 = bytes64 (length u.kept) ++ r48 in
    let r32 = bytes64 u.length ++ r40 in
    let r24 = bytes64 u.shift ++ r32 in
    let r16 = bytes64 u.cut ++ r24 in
    let r8 = bytes64 u.slot ++ r16 in
    let d8 : drop 8 bytes ≡ r8 = ap (drop 8) is ∙ drop_at (magic u.digest) r8 8 (length_magic u.digest) in
    let d16 : drop 16 bytes ≡ r16 = next64 8 16 u.slot r16 bytes refl d8 in
    let d24 : drop 24 bytes ≡ r24 = next64 16 24 u.cut r24 bytes refl d16 in
    let d32 : drop 32 bytes ≡ r32 = next64 24 32 u.shift r32 bytes refl d24 in
    let d40 : drop 40 bytes ≡ r40 = next64 32 40 u.length r40 bytes refl d32 in
    record {
      front = is ∙ ap (λ (xs : List ℕ). magic u.digest ++ xs) (sym d8);
      slot = here64 8 u.slot r16 bytes d8 words.slot;
      cut = here64 16 u.cut r24 bytes d16 words.cut;
      shift = here64 24 u.shift r32 bytes d24 words.shift;
      size = here64 32 u.length r40 bytes d32 words.size;
      count = here64 40 (length u.kept) r48 bytes d40 words.count;
      rest = next64 40 48 (length u.kept) r48 bytes refl d40;
    }

-- what stands behind the digest, and the digest
behind_digest : (d : Option (List ℕ)) (rest bytes : List ℕ) → is_digest d ≡ true → drop 48 bytes ≡ digest_bytes d ++ rest → drop (headers_at d) bytes ≡ rest
behind_digest None rest bytes has there = there
behind_digest (Some digest) rest bytes has there = sym (drop-drop 32 48 bytes) ∙ ap (drop 32) there ∙ drop_at digest rest 32 (eqb-true _ _ has)

digest_is : (digest rest bytes : List ℕ) → length digest ≡ 32 → drop 48 bytes ≡ digest ++ rest → part 48 32 bytes ≡ digest
digest_is digest rest bytes size there = ap (take 32) there ∙ take_at digest rest 32 size

stored_again : (bytes : List ℕ) (u : Undo) → IsLaid bytes u → drop (headers_at u.digest) bytes ≡ u.headers ++ u.kept → stored bytes u.digest (headers_at u.digest + length u.headers) ≡ u
stored_again bytes u there behind =
    let at = headers_at u.digest in
    let headers : part at (length u.headers) bytes ≡ u.headers = ap (take (length u.headers)) behind ∙ take_at u.headers u.kept (length u.headers) refl in
    let kept : drop (at + length u.headers) bytes ≡ u.kept = sym (drop-drop (length u.headers) at bytes) ∙ ap (drop (length u.headers)) behind ∙ drop_at u.headers u.kept (length u.headers) refl in
    stored_is bytes u.digest (length u.headers) ∙ rw (there.slot, there.cut, there.shift, there.size, headers, kept) refl

-- a section that is laid, in its version
record IsRead (bytes : List ℕ) (u : Undo) : Type 0 where
  front : has_front (magic u.digest) (headers_at u.digest) bytes ≡ true
  value : in_version bytes u.digest ≡ Ok u

version_read : (bytes : List ℕ) (u : Undo) → IsLaid bytes u → is_digest u.digest ≡ true → has_headers u ≡ true → IsRead bytes u
unfolding behind_front ends_at has_headers
version_read bytes u there digest headers =
    let at = headers_at u.digest in
    let s = and_parts (length u.headers == headers_size (header u.headers)) (fits_kind (header u.headers).kind u) headers in
    let told : length u.headers ≡ headers_size (header u.headers) = eqb-true _ _ s.0 in
    let enough : 64 ≤ length u.headers = omega (arith, told, size_least (header u.headers)) in
    let behind = behind_digest u.digest (u.headers ++ u.kept) bytes digest there.rest in
    let lengths : length bytes - at ≡ length u.headers + length u.kept = sym (length-drop at bytes) ∙ ap length behind ∙ length-append u.headers u.kept in
    let same : TellSame (header (drop at bytes)) (header u.headers) = rw behind (header_front u.headers u.kept enough) in
    let end : length bytes ≡ at + length u.headers + word64 40 bytes = omega (arith, lengths, enough, there.count) in
    record {
      front = front_again u.digest bytes (drop 8 bytes) there.front (omega (arith, lengths, enough));
      value = rw (same.size, same.kind, ← told, eq-eqb _ _ end, stored_again bytes u there behind, s.1) refl;
    }

by_version : (bytes : List ℕ) (u : Undo) (d : Option (List ℕ)) → u.digest ≡ d → IsLaid bytes u → is_digest u.digest ≡ true → IsRead bytes u → undo_of bytes ≡ Ok u
unfolding undo_of
by_version bytes u None is there digest read =
    let front : has_front UNDO_MAGIC 48 bytes ≡ true = rw is at read.front in
    let value : in_version bytes None ≡ Ok u = subst (λ (d : Option (List ℕ)). in_version bytes d ≡ Ok u) is read.value in
    rw front value
by_version bytes u (Some x) is there digest read =
    let begins : bytes ≡ UNDO_MAGIC_2 ++ drop 8 bytes = subst (λ (d : Option (List ℕ)). bytes ≡ magic d ++ drop 8 bytes) is there.front in
    let front : has_front UNDO_MAGIC_2 80 bytes ≡ true = subst (λ (d : Option (List ℕ)). has_front (magic d) (headers_at d) bytes ≡ true) is read.front in
    let size : length x ≡ 32 = eqb-true _ _ (subst (λ (d : Option (List ℕ)). is_digest d ≡ true) is digest) in
    let rest : drop 48 bytes ≡ x ++ (u.headers ++ u.kept) = subst (λ (d : Option (List ℕ)). drop 48 bytes ≡ digest_bytes d ++ (u.headers ++ u.kept)) is there.rest in
    let value : in_version bytes (Some x) ≡ Ok u = subst (λ (d : Option (List ℕ)). in_version bytes d ≡ Ok u) is read.value in
    rw (other_front bytes (drop 8 bytes) begins, front, digest_is x (u.headers ++ u.kept) bytes size rest) value

pub is_read : (bytes : List ℕ) (u : Undo) → IsUndoOf bytes u → undo_of bytes ≡ Ok u
is_read bytes u of =
    let t = and_parts (are_words u && is_digest u.digest) (has_headers u) of.is_spelled in
    let s = and_parts (are_words u) (is_digest u.digest) t.0 in
    let there = laid bytes u of.in_bytes (words_are u s.0) in
    by_version bytes u u.digest refl there s.1 (version_read bytes u there s.1 t.1)

pub is_one : (bytes : List ℕ) (u v : Undo) → IsUndoOf bytes u → IsUndoOf bytes v → u ≡ v
is_one bytes u v of other = ok_same u v (sym (is_read bytes u of) ∙ is_read bytes v other)
