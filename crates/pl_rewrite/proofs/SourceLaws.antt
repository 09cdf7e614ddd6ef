-- The bytes from which a relocation copies lie in the memory of one member.
use Rattle.std.proofs.Common.{◌≡◌, ℕ, ◌+◌, ◌-◌, ◌^◌, ◌<◌, ◌≤◌, Bool, true, false, List, [], ◌∷◌, Option, Some, None, Result, Ok, Err, refl, sym, subst, ◌∙◌, arith, inl, inr}
use Rattle.std.specs.Prelude.{◌⊎◌, ◌||◌, ◌&&◌, ◌==◌, min, nat_le, slice_get}
use Rattle.std.specs.List.{All, list_any}
use Rattle.std.proofs.lemmas.Bool.{cases_Bool, and_parts, eqb-true, leb-true, not-false, or_cases, or_parts, false≢true}
use Rattle.std.proofs.lemmas.List.Elements.{All-head, All-tail}
use Rattle.std.proofs.lemmas.Option.{none-some, same_Some}
use Rattle.pl_base.specs.Answers.{◌>>=◌}
use Rattle.pl_base.specs.Memory.{lies}
use Rattle.pl_base.specs.Sums.{plus}
use Rattle.pl_base.proofs.AnswerLaws.{ok_same}
use Rattle.pl_base.proofs.MemoryLaws.{within_is}
use Rattle.pl_base.proofs.SumLaws.{plus_small}
use Rattle.pl_elf.specs.Headers.{is_load, loads}
use Rattle.pl_elf.specs.declared.constants.TheConstants.{ADDRESS_LIMIT, R_X86_64_64, R_X86_64_COPY, R_X86_64_GLOB_DAT, R_X86_64_JUMP_SLOT, R_X86_64_RELATIVE}
use Rattle.pl_elf.specs.declared.segment.Segment.{Segment}
use Rattle.pl_image.specs.Loads.{IsPlaced, loaded_piece, loaded_pieces, pieces_at}
use Rattle.pl_object.specs.PlaceClauses.{is_in_segment}
use Rattle.pl_object.specs.Relocations.{size_of}
use Rattle.pl_object.specs.declared.object.Object.{Object}
use Rattle.pl_object.specs.declared.reloc.Reloc.{Reloc}
use Rattle.pl_scope.specs.Finds.{finds, own_symbol}
use Rattle.pl_scope.specs.declared.found.Found.{Found}
use Rattle.pl_scope.specs.declared.reference.Reference.{Reference}
use Rattle.pl_sym.specs.Symbol.{is_absolute, is_tls}
use Rattle.pl_sym.specs.declared.symbol.Symbol.{Symbol}
use Rattle.pl_tls.specs.declared.module.Module.{Module}
use Rattle.pl_value.specs.Copies.{copied, copy, copy_from, is_in_load, is_outside}
use Rattle.pl_value.specs.Definers.{Definer, definer, in_object, is_weak, of_found, with_symbol}
use Rattle.pl_value.specs.Targets.{address, base_of}
use Rattle.pl_value.specs.Tls as tls
use Rattle.pl_value.specs.Values.{reference, value_of}
use Rattle.pl_value.specs.declared.fault.LinkFault.{LinkFault}
use Rattle.pl_value.specs.declared.word.Word.{Word}
use Rattle.pl_value.specs.declared.word.Word.TheVariants.{Put, Copy, Nothing}

-- bytes of a member, from an address of one of its PT_LOADs on
pub record IsSource (os : List Object) (places : List ℕ) (m from n : ℕ) : Type 0 where
  pub object : Object
  pub at : slice_get os m ≡ Some object
  pub value : ℕ
  pub is : from ≡ plus (base_of places m) value
  pub inside : (n ≡ 0) ⊎ (list_any (is_in_load value n) object.segments ≡ true)

-- ---- the definer

symbol_at : (os : List Object) (f : Found) (o : Object) (s : Option Symbol) (d : Definer) → slice_get os f.member ≡ Some o → with_symbol f.member o s ≡ Some d → slice_get os d.member ≡ Some d.object
symbol_at os f o None d at e = absurd (none-some d e)
symbol_at os f o (Some s) d at e = subst (λ (x : Definer). slice_get os x.member ≡ Some x.object) (same_Some (record { member = f.member; object = o; symbol = s }) d e) at

object_at : (os : List Object) (f : Found) (o : Option Object) (d : Definer) → slice_get os f.member ≡ o → in_object f o ≡ Some d → slice_get os d.member ≡ Some d.object
object_at os f None d at e = absurd (none-some d e)
object_at os f (Some o) d at e = symbol_at os f o (slice_get o.symbols f.symbol) d at e

found_at : (os : List Object) (found : Option Found) (d : Definer) → of_found os found ≡ Some d → slice_get os d.member ≡ Some d.object
found_at os None d e = absurd (none-some d e)
found_at os (Some f) d e = object_at os f (slice_get os f.member) d refl e

definer_at : (os : List Object) (r : Reference) (d : Definer) → definer os r ≡ Some d → slice_get os d.member ≡ Some d.object
unfolding definer
definer_at os r d e = found_at os (finds os r) d e

-- ---- what is copied

inside_is : (ss : List Segment) (value size : ℕ) → is_outside ss value size ≡ false → (size ≡ 0) ⊎ (list_any (is_in_load value size) ss ≡ true)
unfolding is_outside
inside_is ss value size e = elim (cases_Bool (size == 0)) [
  | inl none ↦ inl (eqb-true size 0 none)
  | inr some ↦ inr (not-false (list_any (is_in_load value size) ss) (rw some at e))
]

plain_address : (places : List ℕ) (d : Definer) → is_absolute d.symbol ≡ false → address places d ≡ plus (base_of places d.member) d.symbol.value
unfolding address
plain_address places d e = rw e refl

source_by : (os : List Object) (places : List ℕ) (d : Definer) (size m from n : ℕ) → slice_get os d.member ≡ Some d.object → is_absolute d.symbol ≡ false → is_outside d.object.segments d.symbol.value size ≡ false → Copy d.member (address places d) size ≡ Copy m from n → IsSource os places m from n
source_by os places d size m from n at plain inside same =
    let member : d.member ≡ m = cc in
    let start : address places d ≡ from = cc in
    let count : size ≡ n = cc in
    let whole : IsSource os places d.member (address places d) size = record {
      object = d.object;
      at = at;
      value = d.symbol.value;
      is = plain_address places d plain;
      inside = inside_is d.object.segments d.symbol.value size inside;
    } in
    subst (λ (k : ℕ). IsSource os places m from k) count (subst (λ (k : ℕ). IsSource os places m k size) start (subst (λ (k : ℕ). IsSource os places k (address places d) size) member whole))

copied_source : (os : List Object) (places : List ℕ) (r : Reference) (size : ℕ) (d : Definer) (m from n : ℕ) → slice_get os d.member ≡ Some d.object → copied places r size d ≡ Ok (Copy m from n) → IsSource os places m from n
unfolding copied
copied_source os places r size d m from n at e = elim (cases_Bool (is_tls d.symbol)) [
  | inl thread ↦ let stop = rw thread at e in absurd cc
  | inr plain ↦ elim (cases_Bool (is_absolute d.symbol || is_outside d.object.segments d.symbol.value size)) [
    | inl out ↦ let stop = rw (plain, out) at e in absurd cc
    | inr seen ↦
        let parts = or_parts (is_absolute d.symbol) (is_outside d.object.segments d.symbol.value size) seen in
        let whole = rw (plain, seen) at e in
        source_by os places d size m from n at parts.0 parts.1 (ok_same (Copy d.member (address places d) size) (Copy m from n) whole)
  ]
]

no_source : {X : Type 0} (m from n : ℕ) → ◌≡◌ {A = Result Word LinkFault} (Ok Nothing) (Ok (Copy m from n)) → X
no_source m from n e = absurd cc

from_source : (os : List Object) (places : List ℕ) (r : Reference) (weak : Bool) (size : ℕ) (found : Option Definer) (m from n : ℕ) → definer os r ≡ found → copy_from places r weak size found ≡ Ok (Copy m from n) → IsSource os places m from n
from_source os places r true size None m from n at e = no_source m from n e
from_source os places r false size None m from n at e = absurd cc
from_source os places r weak size (Some d) m from n at e = copied_source os places r (min size d.symbol.size) d m from n (definer_at os r d at) e

copy_source : (os : List Object) (places : List ℕ) (r : Reference) (m from n : ℕ) → copy os places r ≡ Ok (Copy m from n) → IsSource os places m from n
unfolding copy
copy_source os places r m from n e = elim (cases_Bool (r.symbol == 0)) [
  | inl none ↦ no_source m from n (rw none at e)
  | inr some ↦ from_source os places r (is_weak os r) (size_of (own_symbol os r)) (definer os r) m from n refl (rw some at e)
]

no_word : {A X : Type 0} (t : Result A LinkFault) (f : A → ℕ) (m from n : ℕ) → (t >>= λ s. Ok (Put (f s))) ≡ Ok (Copy m from n) → X
no_word (Ok s) f m from n e = absurd cc
no_word (Err fault) f m from n e = absurd cc

-- a relocation copies from a member's memory
pub value_source : (os : List Object) (places : List ℕ) (modules : List Module) (member : ℕ) (r : Reloc) (m from n : ℕ) → value_of os places modules member r ≡ Ok (Copy m from n) → IsSource os places m from n
unfolding value_of
value_source os places modules member r m from n e = elim (cases_Bool (r.kind == R_X86_64_RELATIVE)) [
  | inl hit ↦ let whole = rw hit at e in absurd cc
  | inr one ↦ elim (cases_Bool (r.kind == R_X86_64_64)) [
    | inl hit ↦ no_word _ _ m from n (rw (one, hit) at e)
    | inr two ↦ elim (cases_Bool (r.kind == R_X86_64_GLOB_DAT || r.kind == R_X86_64_JUMP_SLOT)) [
      | inl hit ↦ no_word _ _ m from n (rw (one, two, hit) at e)
      | inr three ↦ elim (cases_Bool (r.kind == R_X86_64_COPY)) [
        | inl hit ↦ copy_source os places (reference member r) m from n (rw (one, two, three, hit) at e)
        | inr four ↦ elim (cases_Bool (tls.is_tls_kind r.kind)) [
          | inl hit ↦ no_word _ _ m from n (rw (one, two, three, four, hit) at e)
          | inr five ↦ no_source m from n (rw (one, two, three, four, five) at e)
        ]
      ]
    ]
  ]
]

-- ---- in memory

abbrev EndsAt : ℕ → Segment → Type 0
EndsAt base s = base + (s.vaddr + s.memsz) ≤ ADDRESS_LIMIT

load_parts : (value n : ℕ) (s : Segment) → is_in_load value n s ≡ true → (is_load s ≡ true) × (s.vaddr ≤ value) × (value + n ≤ s.vaddr + s.memsz)
unfolding is_in_load
load_parts value n s h =
    let p = and_parts (is_load s) (is_in_segment (record { at = value; size = n }) s) h in
    let q = and_parts (nat_le s.vaddr value) (nat_le (value + n) (s.vaddr + s.memsz)) p.1 in
    (p.0, leb-true s.vaddr value q.0, leb-true (value + n) (s.vaddr + s.memsz) q.1)

load_ends : (base value n : ℕ) (ss : List Segment) → list_any (is_in_load value n) ss ≡ true → All (EndsAt base) (loads ss) → base + (value + n) ≤ ADDRESS_LIMIT
load_ends base value n [] some ends = absurd (false≢true some)
load_ends base value n (s ∷ ss) some ends = elim (cases_Bool (is_load s)) [
  | inl load ↦
      let all : All (EndsAt base) (s ∷ loads ss) = rw load at ends in
      elim (or_cases (is_in_load value n s) (list_any (is_in_load value n) ss) some) [
        | inl here ↦ let p = load_parts value n s here in let end : EndsAt base s = All-head (EndsAt base) s (loads ss) all in omega (arith, p.2, end)
        | inr later ↦ load_ends base value n ss later (All-tail (EndsAt base) s (loads ss) all)
      ]
  | inr other ↦ elim (or_cases (is_in_load value n s) (list_any (is_in_load value n) ss) some) [
    | inl here ↦ absurd (false≢true (sym other ∙ (load_parts value n s here).0))
    | inr later ↦ load_ends base value n ss later (rw other at ends)
  ]
]

load_lies : (base value n k : ℕ) (bytes : List ℕ) (ss : List Segment) → k < n → list_any (is_in_load value n) ss ≡ true → list_any (lies (base + value + k)) (loaded_pieces base bytes (loads ss)) ≡ true
load_lies base value n k bytes [] lt some = absurd (false≢true some)
load_lies base value n k bytes (s ∷ ss) lt some = elim (cases_Bool (is_load s)) [
  | inl load ↦ elim (or_cases (is_in_load value n s) (list_any (is_in_load value n) ss) some) [
    | inl here ↦
        let p = load_parts value n s here in
        let hit : lies (base + value + k) (loaded_piece base bytes s) ≡ true = within_is (base + s.vaddr) s.memsz (base + value + k) (omega (arith, p.1)) (omega (arith, lt, p.2)) in
        rw load (rw hit refl)
    | inr later ↦ rw load (or_later (lies (base + value + k) (loaded_piece base bytes s)) (list_any (lies (base + value + k)) (loaded_pieces base bytes (loads ss))) (load_lies base value n k bytes ss lt later))
  ]
  | inr other ↦ elim (or_cases (is_in_load value n s) (list_any (is_in_load value n) ss) some) [
    | inl here ↦ absurd (false≢true (sym other ∙ (load_parts value n s here).0))
    | inr later ↦ rw other (load_lies base value n k bytes ss lt later)
  ]
]
  where
    or_later : (a b : Bool) → b ≡ true → (a || b) ≡ true
    or_later true b e = refl
    or_later false b e = e

low_end : (n : ℕ) → n ≤ ADDRESS_LIMIT → n < 2 ^ 64 - 1
low_end n le = omega (arith, le)

-- where the member is placed, each byte lies in its memory, below the last address
pub record LiesIn (base : ℕ) (bytes : List ℕ) (o : Object) (a : ℕ) : Type 0 where
  pub lies : list_any (lies a) (pieces_at base bytes o) ≡ true
  pub low : a < 2 ^ 64 - 1

pub source_lies : (os : List Object) (places : List ℕ) (m from n k : ℕ) (bytes : List ℕ) → (s : IsSource os places m from n) → IsPlaced (base_of places m) s.object → k < n → LiesIn (base_of places m) bytes s.object (from + k)
source_lies os places m from n k bytes s placed lt = elim s.inside [
  | inl none ↦ absurd (omega (arith, lt, none))
  | inr some ↦
      let base = base_of places m in
      let end = load_ends base s.value n s.object.segments some placed.ends in
      let straight : from ≡ base + s.value = s.is ∙ plus_small base s.value (omega (arith, low_end (base + (s.value + n)) end)) in
      let there = load_lies base s.value n k bytes s.object.segments lt some in
      record {
        lies = subst (λ (b : ℕ). list_any (lies (b + k)) (pieces_at base bytes s.object) ≡ true) (sym straight) there;
        low = omega (arith, straight, lt, low_end (base + (s.value + n)) end);
      }
]
