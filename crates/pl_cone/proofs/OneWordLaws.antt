-- A relocation of one word gives it in every scope that holds the members of its own walk.
use Rattle.std.proofs.Common.{◌≡◌, ℕ, true, false, List, Option, Some, Ok, refl, ap, ◌∙◌, inl, inr}
use Rattle.std.specs.Prelude.{◌⊎◌, ◌==◌, ◌||◌, slice_get, if◌then◌else◌}
use Rattle.std.proofs.lemmas.Bool.{cases_Bool, eqb-true}
use Rattle.pl_base.specs.Sums.{plus}
use Rattle.pl_elf.specs.declared.constants.TheConstants.{R_X86_64_64, R_X86_64_COPY, R_X86_64_GLOB_DAT, R_X86_64_JUMP_SLOT, R_X86_64_NONE, R_X86_64_RELATIVE}
use Rattle.pl_object.specs.declared.object.Object.{Object}
use Rattle.pl_object.specs.declared.reloc.Reloc.{Reloc}
use Rattle.pl_scope.specs.Finds.{finds}
use Rattle.pl_scope.specs.Scope.{objects}
use Rattle.pl_scope.specs.Walk.{Walked}
use Rattle.pl_scope.specs.declared.index.Entry.{Entry}
use Rattle.pl_scope.specs.declared.reference.Reference.{Reference}
use Rattle.pl_scope.proofs.NameLaws.{or_cases}
use Rattle.pl_sym.specs.Symbol.{is_absolute, is_tls}
use Rattle.pl_sym.specs.declared.symbol.Symbol.{Symbol}
use Rattle.pl_tls.specs.declared.module.Module.{Module}
use Rattle.pl_value.specs.Definers.{definer}
use Rattle.pl_value.specs.Targets.{added, base_of, address, target}
use Rattle.pl_value.specs.Tls.{is_tls_kind}
use Rattle.pl_value.specs.Values.{reference, value_of}
use Rattle.pl_value.specs.declared.word.Word.{Word}
use Rattle.pl_value.specs.declared.word.Word.TheVariants.{Put, Nothing}
use Rattle.pl_cone.specs.OneWord.{is_of_address, is_without_symbol, GivesOneWordBy, IsOwn, GivesOneWord, FlagsAreLaws}
use Rattle.pl_cone.specs.Folder.{IsMember}
use Rattle.pl_cone.specs.OneSymbol.{FindsOneSymbolBy, FindsNamed, FindsOneSymbol}
use Rattle.pl_cone.proofs.FolderLaws.{object_at, member_of, member_has, same_member, and_then_some}
use Rattle.pl_cone.proofs.OneSymbolLaws.{settled}

-- ---- kinds

-- the word that an address gives
abbrev word_for : Reloc → ℕ → Word
word_for r t = if r.kind == R_X86_64_64 then Put (added t r.addend) else Put t

-- a number that is one is not another
other : (k a b : ℕ) → (k == a) ≡ true → (a == b) ≡ false → (k == b) ≡ false
other k a b e f = rw (eqb-true k a e) f

module _ (os : List Object) (places : List ℕ) (modules : List Module) (m : ℕ) (r : Reloc) where
  relative : (r.kind == R_X86_64_RELATIVE) ≡ true → value_of os places modules m r ≡ Ok (Put (added (base_of places m) r.addend))
  unfolding value_of
  relative e = rw e refl

  nothing : (r.kind == R_X86_64_NONE) ≡ true → value_of os places modules m r ≡ Ok Nothing
  unfolding value_of is_tls_kind
  nothing e = rw (eqb-true r.kind R_X86_64_NONE e) refl

  of_64 : (t : ℕ) → (r.kind == R_X86_64_64) ≡ true → target os places (reference m r) ≡ Ok t → value_of os places modules m r ≡ Ok (word_for r t)
  unfolding value_of
  of_64 t e is = rw (other r.kind R_X86_64_64 R_X86_64_RELATIVE e refl, e, is) refl

  of_glob_dat : (t : ℕ) → (r.kind == R_X86_64_GLOB_DAT) ≡ true → target os places (reference m r) ≡ Ok t → value_of os places modules m r ≡ Ok (word_for r t)
  unfolding value_of
  of_glob_dat t e is = rw (other r.kind R_X86_64_GLOB_DAT R_X86_64_RELATIVE e refl, other r.kind R_X86_64_GLOB_DAT R_X86_64_64 e refl, e, is) refl

  of_jump_slot : (t : ℕ) → (r.kind == R_X86_64_JUMP_SLOT) ≡ true → target os places (reference m r) ≡ Ok t → value_of os places modules m r ≡ Ok (word_for r t)
  unfolding value_of
  of_jump_slot t e is =
      rw (other r.kind R_X86_64_JUMP_SLOT R_X86_64_RELATIVE e refl, other r.kind R_X86_64_JUMP_SLOT R_X86_64_64 e refl, other r.kind R_X86_64_JUMP_SLOT R_X86_64_GLOB_DAT e refl, e, is) refl

-- one of the three kinds
three : (kind : ℕ) → is_of_address kind ≡ true → ((kind == R_X86_64_64) ≡ true) ⊎ (((kind == R_X86_64_GLOB_DAT) ≡ true) ⊎ ((kind == R_X86_64_JUMP_SLOT) ≡ true))
unfolding is_of_address
three kind e = elim (or_cases (kind == R_X86_64_64 || kind == R_X86_64_GLOB_DAT) (kind == R_X86_64_JUMP_SLOT) e) [
  | inl ab ↦ elim (or_cases (kind == R_X86_64_64) (kind == R_X86_64_GLOB_DAT) ab) [ inl a ↦ inl a | inr b ↦ inr (inl b) ]
  | inr c ↦ inr (inr c)
]

of_address : (os : List Object) (places : List ℕ) (modules : List Module) (m : ℕ) (r : Reloc) (t : ℕ) → is_of_address r.kind ≡ true → target os places (reference m r) ≡ Ok t → value_of os places modules m r ≡ Ok (word_for r t)
of_address os places modules m r t kind is = elim (three r.kind kind) [
  | inl a ↦ of_64 os places modules m r t a is
  | inr rest ↦ elim rest [ inl b ↦ of_glob_dat os places modules m r t b is | inr c ↦ of_jump_slot os places modules m r t c is ]
]

no_copy : (kind : ℕ) → is_of_address kind ≡ true → (kind == R_X86_64_COPY) ≡ false
no_copy kind e = elim (three kind e) [
  | inl a ↦ other kind R_X86_64_64 R_X86_64_COPY a refl
  | inr rest ↦ elim rest [ inl b ↦ other kind R_X86_64_GLOB_DAT R_X86_64_COPY b refl | inr c ↦ other kind R_X86_64_JUMP_SLOT R_X86_64_COPY c refl ]
]

-- ---- addresses

-- that of a symbol of a name's object
abbrev address_by : (List ℕ → ℕ) → List ℕ → Symbol → ℕ
address_by at file s = if is_absolute s then s.value else plus (at file) s.value

no_symbol : (os : List Object) (places : List ℕ) (m : ℕ) (r : Reloc) → (r.symbol == 0) ≡ true → target os places (reference m r) ≡ Ok 0
unfolding target
no_symbol os places m r zero = rw zero refl

definer_is : (os : List Object) (r : Reference) (k i : ℕ) (o : Object) (s : Symbol) → finds os r ≡ Some (record { member = k; symbol = i }) → slice_get os k ≡ Some o → slice_get o.symbols i ≡ Some s
    → definer os r ≡ Some (record { member = k; object = o; symbol = s })
unfolding definer
definer_is os r k i o s found at own = rw (found, at, own) refl

address_is : (places : List ℕ) (at : List ℕ → ℕ) (file : List ℕ) (k : ℕ) (o : Object) (s : Symbol) → base_of places k ≡ at file → address places (record { member = k; object = o; symbol = s }) ≡ address_by at file s
unfolding address
address_is places at file k o s placed = rw placed refl

target_is : (os : List Object) (places : List ℕ) (m : ℕ) (r : Reloc) (k i : ℕ) (o : Object) (s : Symbol) (at : List ℕ → ℕ) (file : List ℕ) → (r.symbol == 0) ≡ false
    → finds os (reference m r) ≡ Some (record { member = k; symbol = i }) → slice_get os k ≡ Some o → slice_get o.symbols i ≡ Some s → is_tls s ≡ false → base_of places k ≡ at file
    → target os places (reference m r) ≡ Ok (address_by at file s)
unfolding target
target_is os places m r k i o s at file some found there own plain placed =
    rw (some, definer_is os (reference m r) k i o s found there own, plain) (ap (λ (t : ℕ). Ok t) (address_is places at file k o s placed))

-- ---- the whole

module _ (folder : List ℕ → Option Object) (definers : List Entry) (n : List ℕ) (own : Walked) (r : Reloc) (is : IsOwn folder definers n own) where
  without : is_without_symbol r.kind ≡ true → GivesOneWord folder n own r
  unfolding is_without_symbol
  without kind = elim (or_cases (r.kind == R_X86_64_RELATIVE) (r.kind == R_X86_64_NONE) kind) [
    | inl a ↦ λ at. (
      Put (added (at n) r.addend),
      λ walked m places modules st.
          relative (objects walked) places modules m r a ∙ ap (λ (b : ℕ). Ok (Put (added b r.addend))) (st.placed m n st.named),
    )
    | inr b ↦ λ at. (Nothing, λ walked m places modules st. nothing (objects walked) places modules m r b)
  ]

  at_zero : is_of_address r.kind ≡ true → (r.symbol == 0) ≡ true → GivesOneWord folder n own r
  at_zero kind zero = λ at. (word_for r 0, λ walked m places modules st. of_address (objects walked) places modules m r 0 kind (no_symbol (objects walked) places m r zero))

  by_symbol : is_of_address r.kind ≡ true → (r.symbol == 0) ≡ false → FindsOneSymbolBy definers (objects own) (reference 0 r) → GivesOneWord folder n own r
  by_symbol kind some known = λ at.
      let o = and_then_some (λ (p : Object). slice_get p.symbols known.found.symbol) (slice_get (objects own) known.found.member) known.symbol known.is in
      let named = member_of own known.found.member o.0 o.1 in
      let file : List ℕ = named.0 in
      let member : IsMember own known.found.member file = record { object = o.0; at = named.1 } in
      let all : FindsOneSymbol folder n r.symbol r.kind file known.found.symbol = settled folder definers n own r.symbol r.kind known file is.hashes is.made is.first (no_copy r.kind kind) member in (
        word_for r (address_by at file known.symbol),
        λ walked m places modules st.
            let f : FindsNamed walked m r.symbol r.kind file known.found.symbol = all walked m st.made st.named (st.within file (member_has own known.found.member file member)) in
            let same : f.named.object ≡ o.0 = same_member folder walked own f.member known.found.member file f.named.object o.0 st.made is.made f.named.at named.1 in
            of_address (objects walked) places modules m r (address_by at file known.symbol) kind
            (target_is (objects walked) places m r f.member known.found.symbol o.0 known.symbol at file some f.looks
            (object_at walked f.member file f.named.object f.named.at ∙ ap (λ (p : Object). Some p) same) o.2 known.plain (st.placed f.member file f.named)),
      )

  pub one_word : GivesOneWordBy definers (objects own) r → GivesOneWord folder n own r
  one_word known = elim known [
    | inl kind ↦ without kind
    | inr g ↦ elim (cases_Bool (r.symbol == 0)) [
      | inl zero ↦ at_zero g.kind zero
      | inr some ↦ elim g.symbol [ inl zero ↦ at_zero g.kind zero | inr settled_by ↦ by_symbol g.kind some settled_by ]
    ]
  ]

pub flags_are_laws : FlagsAreLaws
flags_are_laws = λ folder definers n own r is known. one_word folder definers n own r is known
