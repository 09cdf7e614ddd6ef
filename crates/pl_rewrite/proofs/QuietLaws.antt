-- What a library's file holds at the places of its relocations, and that those which give one word in every walk matter nowhere.
use Rattle.std.proofs.Common.{◌≡◌, ℕ, ◌+◌, ◌<◌, true, false, List, [], ◌∷◌, length, map, get_or, Option, Some, None, Result, Ok, Err, refl, sym, ap, subst, ◌∙◌, arith, inl, inr}
use Rattle.std.specs.Prelude.{◌⊎◌, ◌||◌, ◌&&◌, ◌==◌, slice_get}
use Rattle.std.specs.Option.{unwrap_or}
use Rattle.std.proofs.lemmas.Bool.{cases_Bool, eqb-true, or_cases, true≢false, false≢true}
use Rattle.std.proofs.lemmas.List.{get_or-map, length-map}
use Rattle.std.proofs.lemmas.Option.{slice_get-get_or}
use Rattle.pl_base.specs.Answers.{◌>>=◌}
use Rattle.pl_base.specs.Bytes.{bytes64}
use Rattle.pl_base.specs.Memory.{Memory, layered, read}
use Rattle.pl_base.specs.Sums.{plus}
use Rattle.pl_base.proofs.AnswerLaws.{ok_same}
use Rattle.pl_cone.specs.OneWord.{GivesOneWordBy, is_of_address, is_without_symbol}
use Rattle.pl_conflict.specs.Quiet.{GivesQuiet, HoldsWord}
use Rattle.pl_conflict.specs.Conflicts.{held, pieces_in, row_of}
use Rattle.pl_conflict.specs.Held.{IsFormWith, IsHeldWord}
use Rattle.pl_conflict.specs.Own.{is_of_start, lacks_definer, own_word, own_words, put_in}
use Rattle.pl_conflict.proofs.FormWordLaws.{forms_hold}
use Rattle.pl_conflict.proofs.OwnLaws.{own_put}
use Rattle.pl_elf.specs.declared.constants.TheConstants.{R_X86_64_64, R_X86_64_COPY, R_X86_64_GLOB_DAT, R_X86_64_JUMP_SLOT, R_X86_64_NONE, R_X86_64_RELATIVE}
use Rattle.pl_form.specs.Words.{word_at}
use Rattle.pl_image.specs.Loads.{IsPlaced, loaded_at}
use Rattle.pl_image.specs.declared.loaded_object.LoadedObject.{LoadedObject}
use Rattle.pl_object.specs.Relocations.{width}
use Rattle.pl_object.specs.declared.object.Object.{Object}
use Rattle.pl_object.specs.declared.reloc.Reloc.{Reloc}
use Rattle.pl_scope.specs.Finds.{finds}
use Rattle.pl_scope.specs.declared.found.Found.{Found}
use Rattle.pl_scope.specs.declared.index.Entry.{Entry}
use Rattle.pl_scope.proofs.NameLaws.{eq_refl}
use Rattle.pl_sym.specs.declared.symbol.Symbol.{Symbol}
use Rattle.pl_tls.specs.declared.module.Module.{Module}
use Rattle.pl_value.specs.Linked.{copy_of}
use Rattle.pl_value.specs.Meanings.{given, meaning, row}
use Rattle.pl_value.specs.Targets.{base_of}
use Rattle.pl_value.specs.Tls.{is_tls_kind}
use Rattle.pl_value.specs.Values.{reference, value_of}
use Rattle.pl_value.specs.declared.fault.LinkFault.{LinkFault}
use Rattle.pl_value.specs.declared.word.Word.{Word}
use Rattle.pl_value.specs.declared.word.Word.TheVariants.{Put, Copy, Nothing}
use Rattle.pl_value.proofs.RowLaws.{HasWidth}

-- ---- what relocations of one word give

-- a word, or nothing
abbrev IsPlain : Word → Type 0
IsPlain (Put x) = Unit {0}
IsPlain (Copy member from size) = ⊥
IsPlain Nothing = Unit {0}

bind_plain : (t : Result ℕ LinkFault) (f : ℕ → ℕ) (w : Word) → (t >>= λ s. Ok (Put (f s))) ≡ Ok w → IsPlain w
bind_plain (Ok s) f w e = subst IsPlain (ok_same (Put (f s)) w e) tt
bind_plain (Err fault) f w e = absurd cc

relative_plain : (os : List Object) (places : List ℕ) (tls : List Module) (m : ℕ) (r : Reloc) (w : Word) → r.kind ≡ R_X86_64_RELATIVE → value_of os places tls m r ≡ Ok w → IsPlain w
unfolding value_of
relative_plain os places tls m r w kind e = let g = rw kind at e in subst IsPlain (ok_same _ w g) tt

none_nothing : (os : List Object) (places : List ℕ) (tls : List Module) (m : ℕ) (r : Reloc) → r.kind ≡ R_X86_64_NONE → value_of os places tls m r ≡ Ok Nothing
unfolding value_of is_tls_kind
none_nothing os places tls m r kind = rw kind refl

none_plain : (os : List Object) (places : List ℕ) (tls : List Module) (m : ℕ) (r : Reloc) (w : Word) → r.kind ≡ R_X86_64_NONE → value_of os places tls m r ≡ Ok w → IsPlain w
none_plain os places tls m r w kind e = subst IsPlain (ok_same Nothing w (sym (none_nothing os places tls m r kind) ∙ e)) tt

word_plain : (os : List Object) (places : List ℕ) (tls : List Module) (m : ℕ) (r : Reloc) (w : Word) → r.kind ≡ R_X86_64_64 → value_of os places tls m r ≡ Ok w → IsPlain w
unfolding value_of
word_plain os places tls m r w kind e = let g = rw kind at e in bind_plain _ _ w g

data_plain : (os : List Object) (places : List ℕ) (tls : List Module) (m : ℕ) (r : Reloc) (w : Word) → r.kind ≡ R_X86_64_GLOB_DAT → value_of os places tls m r ≡ Ok w → IsPlain w
unfolding value_of
data_plain os places tls m r w kind e = let g = rw kind at e in bind_plain _ _ w g

jump_plain : (os : List Object) (places : List ℕ) (tls : List Module) (m : ℕ) (r : Reloc) (w : Word) → r.kind ≡ R_X86_64_JUMP_SLOT → value_of os places tls m r ≡ Ok w → IsPlain w
unfolding value_of
jump_plain os places tls m r w kind e = let g = rw kind at e in bind_plain _ _ w g

without_kinds : (kind : ℕ) → is_without_symbol kind ≡ true → (kind ≡ R_X86_64_RELATIVE) ⊎ (kind ≡ R_X86_64_NONE)
unfolding is_without_symbol
without_kinds kind h = elim (or_cases (kind == R_X86_64_RELATIVE) (kind == R_X86_64_NONE) h) [
  | inl one ↦ inl (eqb-true kind R_X86_64_RELATIVE one)
  | inr two ↦ inr (eqb-true kind R_X86_64_NONE two)
]

address_kinds : (kind : ℕ) → is_of_address kind ≡ true → (kind ≡ R_X86_64_64) ⊎ ((kind ≡ R_X86_64_GLOB_DAT) ⊎ (kind ≡ R_X86_64_JUMP_SLOT))
unfolding is_of_address
address_kinds kind h = elim (or_cases (kind == R_X86_64_64 || kind == R_X86_64_GLOB_DAT) (kind == R_X86_64_JUMP_SLOT) h) [
  | inl first ↦ elim (or_cases (kind == R_X86_64_64) (kind == R_X86_64_GLOB_DAT) first) [
    | inl one ↦ inl (eqb-true kind R_X86_64_64 one)
    | inr two ↦ inr (inl (eqb-true kind R_X86_64_GLOB_DAT two))
  ]
  | inr three ↦ inr (inr (eqb-true kind R_X86_64_JUMP_SLOT three))
]

one_word_plain : (definers : List Entry) (own os : List Object) (places : List ℕ) (tls : List Module) (m : ℕ) (r : Reloc) (w : Word) → GivesOneWordBy definers own r → value_of os places tls m r ≡ Ok w → IsPlain w
one_word_plain definers own os places tls m r w of_one_word e = elim of_one_word [
  | inl without ↦ elim (without_kinds r.kind without) [
    | inl kind ↦ relative_plain os places tls m r w kind e
    | inr kind ↦ none_plain os places tls m r w kind e
  ]
  | inr g ↦ elim (address_kinds r.kind g.kind) [
    | inl kind ↦ word_plain os places tls m r w kind e
    | inr other ↦ elim other [
      | inl kind ↦ data_plain os places tls m r w kind e
      | inr kind ↦ jump_plain os places tls m r w kind e
    ]
  ]
]

-- ---- own words

not_start : (kind k : ℕ) → kind ≡ k → is_of_start k ≡ false → is_of_start kind ≡ false
not_start kind k e h = ap is_of_start e ∙ h

starts_not : (definers : List Entry) (own : List Object) (r : Reloc) → GivesOneWordBy definers own r → is_of_start r.kind ≡ false
unfolding is_of_start
starts_not definers own r of_one_word = elim of_one_word [
  | inl without ↦ elim (without_kinds r.kind without) [
    | inl kind ↦ not_start r.kind R_X86_64_RELATIVE kind refl
    | inr kind ↦ not_start r.kind R_X86_64_NONE kind refl
  ]
  | inr g ↦ elim (address_kinds r.kind g.kind) [
    | inl kind ↦ not_start r.kind R_X86_64_64 kind refl
    | inr other ↦ elim other [
      | inl kind ↦ not_start r.kind R_X86_64_GLOB_DAT kind refl
      | inr kind ↦ not_start r.kind R_X86_64_JUMP_SLOT kind refl
    ]
  ]
]

lacks_by_kind : (r : Reloc) (found : Option Found) → r.kind ≡ R_X86_64_RELATIVE → lacks_definer r found ≡ false
unfolding lacks_definer
lacks_by_kind r found kind = rw kind refl

lacks_by_symbol : (r : Reloc) (found : Option Found) → (r.symbol == 0) ≡ true → lacks_definer r found ≡ false
unfolding lacks_definer
lacks_by_symbol r found none = elim (cases_Bool (r.kind == R_X86_64_RELATIVE)) [
  | inl kind ↦ rw kind refl
  | inr kind ↦ rw (kind, none) refl
]

lacks_by_found : (r : Reloc) (found : Option Found) (f : Found) → found ≡ Some f → lacks_definer r found ≡ false
unfolding lacks_definer
lacks_by_found r found f is = elim (cases_Bool (r.kind == R_X86_64_RELATIVE)) [
  | inl kind ↦ rw kind refl
  | inr kind ↦ elim (cases_Bool (r.symbol == 0)) [
    | inl none ↦ rw (kind, none) refl
    | inr some ↦ rw (kind, some, is) refl
  ]
]

-- the own word of a relocation of one word that gives a word is that word
own_is : (definers : List Entry) (own : List Object) (places : List ℕ) (r : Reloc) (x : ℕ) → GivesOneWordBy definers own r → value_of own places [] 0 r ≡ Ok (Put x) → own_word own places r ≡ Some x
own_is definers own places r x of_one_word e =
    let found = finds own (reference 0 r) in
    let put : lacks_definer r found ≡ false → own_word own places r ≡ Some x = λ lack. own_put own places r found (λ _. refl) (starts_not definers own r of_one_word) lack ∙ ap put_in e in
    elim of_one_word [
      | inl without ↦ elim (without_kinds r.kind without) [
        | inl kind ↦ put (lacks_by_kind r found kind)
        | inr kind ↦ let both : ◌≡◌ {A = Result Word LinkFault} (Ok Nothing) (Ok (Put x)) = sym (none_nothing own places [] 0 r kind) ∙ e in absurd cc
      ]
      | inr g ↦ elim g.symbol [
        | inl none ↦ put (lacks_by_symbol r found none)
        | inr symbol ↦ put (lacks_by_found r found symbol.found symbol.looks)
      ]
    ]

own_word_at : (own : List Object) (places : List ℕ) (o : Object) (i : ℕ) (d : Reloc) → slice_get own 0 ≡ Some o → i < length o.relocations → word_at (own_words own places) i ≡ own_word own places (get_or o.relocations i d)
unfolding own_words
own_word_at own places o i d at lt =
    let f = own_word own places in
    let here : word_at (map f o.relocations) i ≡ f (get_or o.relocations i d) =
    ap (λ (w : Option (Option ℕ)). unwrap_or w None) (slice_get-get_or (map f o.relocations) i None (omega (arith, lt, length-map o.relocations f))) ∙ get_or-map f o.relocations i d None lt in
    rw at here

-- ---- the width of a word's place

pub put_wide : (os : List Object) (places : List ℕ) (tls : List Module) (m : ℕ) (r : Reloc) (symbols : List Symbol) (x : ℕ) → HasWidth symbols r → (r.kind == R_X86_64_COPY) ≡ false → value_of os places tls m r ≡ Ok (Put x) → r.width ≡ 8
unfolding width
put_wide os places tls m r symbols x wide copy e = elim (cases_Bool (r.kind == R_X86_64_NONE)) [
  | inl none ↦ let both : ◌≡◌ {A = Result Word LinkFault} (Ok Nothing) (Ok (Put x)) = sym (none_nothing os places tls m r (eqb-true r.kind R_X86_64_NONE none)) ∙ e in absurd cc
  | inr some ↦ let eight : width symbols r.kind r.symbol ≡ 8 = rw (some, copy) refl in wide ∙ eight
]

not_copy : (definers : List Entry) (own : List Object) (r : Reloc) → GivesOneWordBy definers own r → (r.kind == R_X86_64_COPY) ≡ false
not_copy definers own r of_one_word = elim of_one_word [
  | inl without ↦ elim (without_kinds r.kind without) [
    | inl kind ↦ rw kind refl
    | inr kind ↦ rw kind refl
  ]
  | inr g ↦ elim (address_kinds r.kind g.kind) [
    | inl kind ↦ rw kind refl
    | inr other ↦ elim other [
      | inl kind ↦ rw kind refl
      | inr kind ↦ rw kind refl
    ]
  ]
]

-- ---- what the file holds

-- a library with its own walk at these places and its file at its slot
pub record IsOwnForm (own : List Object) (places : List ℕ) (original file : List ℕ) (o : Object) (slot : ℕ) : Type 0 where
  pub first : slice_get own 0 ≡ Some o
  pub form : IsFormWith original o slot (own_words own places) file
  pub placed : IsPlaced slot o
  pub wide : (i : ℕ) (d : Reloc) → i < length o.relocations → HasWidth o.symbols (get_or o.relocations i d)
  pub no_copy : (i : ℕ) (d : Reloc) → i < length o.relocations → ((get_or o.relocations i d).kind == R_X86_64_COPY) ≡ false

-- the word of a relocation of one word
pub one_word_held : (definers : List Entry) (own : List Object) (places : List ℕ) (original file : List ℕ) (o : Object) (slot i : ℕ) (d : Reloc) (w : Word) → IsOwnForm own places original file o slot → i < length o.relocations
    → GivesOneWordBy definers own (get_or o.relocations i d) → value_of own places [] 0 (get_or o.relocations i d) ≡ Ok w → HoldsWord (loaded_at slot file o ∷ []) (plus slot (get_or o.relocations i d).address) w
one_word_held definers own places original file o slot i d (Put x) is lt of_one_word e =
    let r = get_or o.relocations i d in
    let wide : r.width ≡ 8 = put_wide own places [] 0 r o.symbols x (is.wide i d lt) (not_copy definers own r of_one_word) e in
    let word : word_at (own_words own places) i ≡ Some x = own_word_at own places o i d is.first lt ∙ own_is definers own places r x of_one_word e in
    let told : IsHeldWord original o r (word_at (own_words own places) i) x = subst (λ (own : Option ℕ). IsHeldWord original o r own x) (sym word) refl in
    forms_hold original file o slot (own_words own places) i d x is.form is.placed lt wide told
one_word_held definers own places original file o slot i d (Copy member from size) is lt of_one_word e = absurd (one_word_plain definers own own places [] 0 (get_or o.relocations i d) (Copy member from size) of_one_word e)
one_word_held definers own places original file o slot i d Nothing is lt of_one_word e = tt

-- ---- in a walk

pub held_by : (files : List LoadedObject) (one : LoadedObject) (m start : ℕ) → slice_get files m ≡ Some one → held files m start ≡ held (one ∷ []) 0 start
unfolding held
held_by files one m start e = ap (λ (o : Option LoadedObject). read (layered (pieces_in o)) start 8) e

no_row : (files : List LoadedObject) (one : LoadedObject) (m start : ℕ) (word : Word) → slice_get files m ≡ Some one → HoldsWord (one ∷ []) start word → row_of files m start word ≡ None
no_row files one m start (Put w) at holds =
    let same : held files m start ≡ bytes64 w = held_by files one m start at ∙ holds in
    elim (cases_Bool (m == 0)) [
      | inl first ↦ rw first refl
      | inr later ↦ rw (later, same, eq_refl (bytes64 w)) refl
    ]
no_row files one m start (Copy member from size) at holds = absurd holds
no_row files one m start Nothing at holds = refl

no_copy : (one : LoadedObject) (start : ℕ) (word : Word) → HoldsWord (one ∷ []) start word → (memory : Memory) → copy_of memory start word ≡ None
no_copy one start (Put w) holds memory = refl
no_copy one start (Copy member from size) holds memory = absurd holds
no_copy one start Nothing holds memory = refl

given_of : (os : List Object) (places : List ℕ) (tls : List Module) (m : ℕ) (r : Reloc) (w : Word) → value_of os places tls m r ≡ Ok w → meaning os places tls (row m r) ≡ Ok (given places (row m r) w)
unfolding meaning
given_of os places tls m r w e = rw e refl

-- a relocation that gives in a walk the word that its member's file holds matters nowhere
pub quiet_of : (os : List Object) (places : List ℕ) (files : List LoadedObject) (m : ℕ) (r : Reloc) (w : Word) (one : LoadedObject) → slice_get files m ≡ Some one → ((tls : List Module) → value_of os places tls m r ≡ Ok w) → HoldsWord (one ∷ []) (plus (base_of places m) r.address) w
    → GivesQuiet os places files m r
quiet_of os places files m r w one at values holds tls =
    let start : ℕ = plus (base_of places m) r.address in
    (given places (row m r) w, (given_of os places tls m r w (values tls), record { no_row = no_row files one m start w at holds; no_copy = no_copy one start w holds }))
