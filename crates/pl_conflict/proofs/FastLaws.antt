-- The files with the rows over them are the relocated originals.
use Rattle.std.proofs.Common.{◌≡◌, ℕ, ◌-◌, ◌<◌, Bool, true, false, cond, List, [], ◌∷◌, length, get_or, Option, Some, None, refl, sym, ap, subst, ◌∙◌, inl, inr}
use Rattle.std.specs.Prelude.{◌⊎◌, ◌||◌, ◌==◌, map, All}
use Rattle.std.specs.Option.{IfSome, option_map}
use Rattle.std.specs.Str.{bytes_eq}
use Rattle.std.specs.List.{list_any, filter_map, cons_option}
use Rattle.std.specs.List.Sorted.{IsPermutation}
use Rattle.std.proofs.lemmas.Bool.{cases_Bool, false≢true, not-false, not-true}
use Rattle.std.proofs.lemmas.List.Sorted.{All-permutation, list_any-IsPermutation, IsPermutation-refl, IsPermutation-map}
use Rattle.std.proofs.lemmas.List.Folds.{Any-from_list_any, list_any_at}
use Rattle.std.proofs.lemmas.Slice.Eq.{bytes_eq-Decides}
use Rattle.pl_base.specs.Bytes.{bytes64}
use Rattle.pl_base.specs.Memory.{Memory, Fill, is_within, covers, fill_byte, filled, AtMostOne}
use Rattle.pl_base.proofs.MemoryLaws.{settled, All-filter_map, any-filter_map, is_some_and, lone_same, read_length, within_less, within_none}
use Rattle.pl_base.proofs.WordLaws.{length_bytes64}
use Rattle.pl_image.specs.declared.loaded_object.LoadedObject.{LoadedObject}
use Rattle.pl_lists.specs.declared.conflict_row.ConflictRow.{ConflictRow}
use Rattle.pl_value.specs.Laws.{Fits, AllFit}
use Rattle.pl_value.specs.Linked.{under, put_of, copy_of, words, copies, worded, relocated}
use Rattle.pl_value.specs.declared.meaning.Meaning.{Meaning}
use Rattle.pl_value.specs.declared.word.Word.{Word}
use Rattle.pl_value.specs.declared.word.Word.TheVariants.{Put, Copy, Nothing}
use Rattle.pl_value.proofs.LoneLaws.{none_at}
use Rattle.pl_conflict.specs.Conflicts.{held, row_of, rows_of}
use Rattle.pl_conflict.specs.Fast.{patch_of, patches, is_library}

-- ---- fills made of meanings, each inside its place

abbrev pub Inside : (Meaning → Option Fill) → ℕ → Meaning → Type 0
Inside make a g = under a g ≡ false → IfSome (make g) (λ f. covers a f ≡ false)

-- a fill that is not over an address says nothing of it
vacuous : (o : Option Fill) (a : ℕ) (v : Option ℕ) → IfSome o (λ f. covers a f ≡ false) → IfSome o (λ f. covers a f ≡ true → Some (fill_byte a f) ≡ v)
vacuous None a v h = tt
vacuous (Some f) a v h = λ hit. absurd (false≢true (sym h ∙ hit))

-- the byte at an address under no place
pub laid_away : (make : Meaning → Option Fill) (gs : List Meaning) (fs : List Fill) (m : Memory) (a : ℕ) → IsPermutation (filter_map make gs) fs → All (Inside make a) gs → list_any (under a) gs ≡ false → filled m fs a ≡ m a
laid_away make gs fs m a perm inside none =
    let P : Fill → Type 0 = λ f. covers a f ≡ true → Some (fill_byte a f) ≡ m a in
    let each : All (λ g. IfSome (make g) P) gs = λ k d lt. vacuous (make (get_or gs k d)) a (m a) (inside k d lt (none_at (under a) gs k d lt none)) in
    settled m fs a (m a) (All-permutation P (filter_map make gs) fs perm (All-filter_map P make gs each)) (inl refl)

-- the byte at an address under the place at i
pub laid_at : (make : Meaning → Option Fill) (gs : List Meaning) (fs : List Fill) (m : Memory) (a i : ℕ) (d : Meaning) (v : Option ℕ) → IsPermutation (filter_map make gs) fs → All (Inside make a) gs → AtMostOne under gs → i < length gs → under a (get_or gs i d) ≡ true
    → IfSome (make (get_or gs i d)) (λ f. covers a f ≡ true → Some (fill_byte a f) ≡ v) → (m a ≡ v) ⊎ (is_some_and (covers a) (make (get_or gs i d)) ≡ true) → filled m fs a ≡ v
laid_at make gs fs m a i d v perm inside lone lt hit one start =
    let P : Fill → Type 0 = λ f. covers a f ≡ true → Some (fill_byte a f) ≡ v in
    let same : All (λ g. under a g ≡ true → g ≡ get_or gs i d) gs = lone_same under gs i a d lone lt hit in
    let each : All (λ g. IfSome (make g) P) gs = λ k e within. elim (cases_Bool (under a (get_or gs k e))) [
      | inl here ↦ subst (λ (g : Meaning). IfSome (make g) P) (sym (same k e within here)) one
      | inr miss ↦ vacuous (make (get_or gs k e)) a v (inside k e within miss)
    ] in
    settled m fs a v (All-permutation P (filter_map make gs) fs perm (All-filter_map P make gs each)) (elim start [
      | inl there ↦ inl there
      | inr some ↦ inr (sym (list_any-IsPermutation (covers a) (filter_map make gs) fs perm) ∙ (any-filter_map (covers a) make gs ∙ list_any_at (λ g. is_some_and (covers a) (make g)) gs i d lt some))
    ])

-- ---- the fill of a word, of a copy and of a row lies inside its place

abbrev word_fill : ℕ → ℕ → Fill
word_fill start w = record { start = start; bytes = bytes64 w }

-- a word is over the addresses of a place of eight bytes
eight : (a start w : ℕ) → covers a (word_fill start w) ≡ is_within start 8 a
eight a start w = ap (λ (n : ℕ). is_within start n a) (length_bytes64 w)

word_away : (a start size w : ℕ) → size ≡ 8 → is_within start size a ≡ false → covers a (word_fill start w) ≡ false
word_away a start size w fit miss = eight a start w ∙ subst (λ (n : ℕ). is_within start n a ≡ false) fit miss

word_over : (a start size w : ℕ) → size ≡ 8 → is_within start size a ≡ true → covers a (word_fill start w) ≡ true
word_over a start size w fit hit = eight a start w ∙ subst (λ (n : ℕ). is_within start n a ≡ true) fit hit

put_inside : (a start size : ℕ) (library : Bool) (word : Word) → Fits library size word → is_within start size a ≡ false → IfSome (put_of start word) (λ f. covers a f ≡ false)
put_inside a start size library (Put w) fit miss = word_away a start size w fit miss
put_inside a start size library (Copy member from n) fit miss = tt
put_inside a start size library Nothing fit miss = tt

copy_inside : (m : Memory) (a start size : ℕ) (library : Bool) (word : Word) → Fits library size word → is_within start size a ≡ false → IfSome (copy_of m start word) (λ f. covers a f ≡ false)
copy_inside m a start size library (Put w) fit miss = tt
copy_inside m a start size library (Copy member from n) fit miss = rw (read_length m from n) (within_less start n size a fit.1 miss)
copy_inside m a start size library Nothing fit miss = tt

-- the patch of a row, if there is one
abbrev pub patched : Option ConflictRow → Option Fill
patched o = option_map patch_of o

row_inside : (files : List LoadedObject) (a member start size : ℕ) (library : Bool) (word : Word) → Fits library size word → is_within start size a ≡ false → IfSome (patched (row_of files member start word)) (λ f. covers a f ≡ false)
row_inside files a member start size library (Put w) fit miss =
    elim (member == 0 || bytes_eq (held files member start) (bytes64 w)) as (λ b. IfSome (patched (cond b None (Some (record { address = start; word = w })))) (λ f. covers a f ≡ false)) [
      | true ↦ tt
      | false ↦ word_away a start size w fit miss
    ]
row_inside files a member start size library (Copy from at n) fit miss = tt
row_inside files a member start size library Nothing fit miss = tt

abbrev pub make_word : Meaning → Option Fill
make_word g = put_of g.start g.word

abbrev pub make_copy : Memory → Meaning → Option Fill
make_copy m g = copy_of m g.start g.word

abbrev make_row : List LoadedObject → Meaning → Option Fill
make_row files g = patched (row_of files g.member g.start g.word)

pub words_inside : (gs : List Meaning) (a : ℕ) → AllFit is_library gs → All (Inside make_word a) gs
words_inside gs a fit = λ k d lt miss. let g = get_or gs k d in put_inside a g.start g.size (is_library g.member) g.word (fit k d lt) miss

pub copies_inside : (m : Memory) (gs : List Meaning) (a : ℕ) → AllFit is_library gs → All (Inside (make_copy m) a) gs
copies_inside m gs a fit = λ k d lt miss. let g = get_or gs k d in copy_inside m a g.start g.size (is_library g.member) g.word (fit k d lt) miss

rows_inside : (files : List LoadedObject) (gs : List Meaning) (a : ℕ) → AllFit is_library gs → All (Inside (make_row files) a) gs
rows_inside files gs a fit = λ k d lt miss. let g = get_or gs k d in row_inside files a g.member g.start g.size (is_library g.member) g.word (fit k d lt) miss

-- the patches of rows, as fills made of meanings
patches_made : (files : List LoadedObject) (gs : List Meaning) → patches (rows_of files gs) ≡ filter_map (make_row files) gs
unfolding rows_of
patches_made files gs = map_made (λ g. row_of files g.member g.start g.word) gs
  where
    map_made : (h : Meaning → Option ConflictRow) (gs : List Meaning) → map patch_of (filter_map h gs) ≡ filter_map (λ g. patched (h g)) gs
    map_made h [] = refl
    map_made h (g ∷ gs) =
        elim (h g) as (λ o. map patch_of (cons_option o (filter_map h gs)) ≡ cons_option (patched o) (filter_map (λ g. patched (h g)) gs)) [
          | None ↦ map_made h gs
          | Some r ↦ ap (λ (fs : List Fill). patch_of r ∷ fs) (map_made h gs)
        ]

-- ---- the relocated memory

pub relocated_away : (base : Memory) (gs : List Meaning) (a : ℕ) → AllFit is_library gs → list_any (under a) gs ≡ false → relocated base gs a ≡ base a
unfolding relocated words copies
relocated_away base gs a fit none =
    laid_away (make_copy (worded base gs)) gs (filter_map (make_copy (worded base gs)) gs) (worded base gs) a (IsPermutation-refl _) (copies_inside (worded base gs) gs a fit) none
    ∙ laid_away make_word gs (filter_map make_word gs) base a (IsPermutation-refl _) (words_inside gs a fit) none

-- the byte of a word
abbrev pub byte_in : ℕ → ℕ → ℕ → ℕ
byte_in a start w = get_or (bytes64 w) (a - start) 0

word_covers : (a start size : ℕ) (library : Bool) (word : Word) (w : ℕ) → word ≡ Put w → Fits library size word → is_within start size a ≡ true → is_some_and (covers a) (put_of start word) ≡ true
word_covers a start size library word w is fit hit = rw is (word_over a start size w (rw is at fit) hit)

pub relocated_put : (base : Memory) (gs : List Meaning) (a i : ℕ) (d : Meaning) (w : ℕ) → AllFit is_library gs → AtMostOne under gs → i < length gs → under a (get_or gs i d) ≡ true → (get_or gs i d).word ≡ Put w → relocated base gs a ≡ Some (byte_in a (get_or gs i d).start w)
unfolding relocated words copies
relocated_put base gs a i d w fit lone lt hit is =
    let g = get_or gs i d in
    let v : Option ℕ = Some (byte_in a g.start w) in
    let word : worded base gs a ≡ v = laid_at make_word gs (filter_map make_word gs) base a i d v (IsPermutation-refl _) (words_inside gs a fit) lone lt hit (rw is (λ _. refl)) (inr (word_covers a g.start g.size (is_library g.member) g.word w is (fit i d lt) hit)) in
    laid_at (make_copy (worded base gs)) gs (filter_map (make_copy (worded base gs)) gs) (worded base gs) a i d v (IsPermutation-refl _) (copies_inside (worded base gs) gs a fit) lone lt hit (rw is tt) (inl word)

-- ---- a place of a library

-- it has a word
put_there : (library : Bool) (start size a : ℕ) (word : Word) → library ≡ true → Fits library size word → is_within start size a ≡ true → (w : ℕ) × (word ≡ Put w)
put_there library start size a (Put w) is fit hit = (w, refl)
put_there library start size a (Copy member from n) is fit hit = absurd (false≢true (sym fit.0 ∙ is))
put_there library start size a Nothing is fit hit = absurd (false≢true (sym (within_none start a) ∙ subst (λ (n : ℕ). is_within start n a ≡ true) (fit is) hit))

-- the row of a word, where what is held is the word or not
abbrev differing : List ℕ → ℕ → ℕ → Option Fill
differing bytes start w = cond (bytes_eq bytes (bytes64 w)) None (Some (word_fill start w))

row_is : (files : List LoadedObject) (member start : ℕ) (word : Word) (w : ℕ) → is_library member ≡ true → word ≡ Put w → patched (row_of files member start word) ≡ differing (held files member start) start w
row_is files member start word w library is =
    let first : (member == 0) ≡ false = not-true (member == 0) library in
    rw (is, first) (elim (bytes_eq (held files member start) (bytes64 w)) as (λ b. patched (cond b None (Some (record { address = start; word = w }))) ≡ cond b None (Some (word_fill start w))) [
      | true ↦ refl
      | false ↦ refl
    ])

-- none of the program
row_none : (files : List LoadedObject) (member start : ℕ) (word : Word) (X : Fill → Type 0) → is_library member ≡ false → IfSome (patched (row_of files member start word)) X
row_none files member start (Put w) X program = let first : (member == 0) ≡ true = not-false (member == 0) program in rw first tt
row_none files member start (Copy from at n) X program = tt
row_none files member start Nothing X program = tt

-- a row has the word's byte
row_byte : (bytes : List ℕ) (start w a : ℕ) → IfSome (differing bytes start w) (λ f. covers a f ≡ true → Some (fill_byte a f) ≡ Some (byte_in a start w))
row_byte bytes start w a = elim (bytes_eq bytes (bytes64 w)) as (λ b. IfSome (cond b None (Some (word_fill start w))) (λ f. covers a f ≡ true → Some (fill_byte a f) ≡ Some (byte_in a start w))) [
  | true ↦ tt
  | false ↦ λ _. refl
]

-- a row is over the address, or the file has the word's byte there already
row_or_file : (files : Memory) (bytes : List ℕ) (a start size w : ℕ) → size ≡ 8 → is_within start size a ≡ true → files a ≡ Some (get_or bytes (a - start) 0) → (files a ≡ Some (byte_in a start w)) ⊎ (is_some_and (covers a) (differing bytes start w) ≡ true)
row_or_file files bytes a start size w fit hit is = elim (cases_Bool (bytes_eq bytes (bytes64 w))) [
  | inl same ↦ inl (is ∙ ap (λ (bs : List ℕ). Some (get_or bs (a - start) 0)) ((bytes_eq-Decides bytes (bytes64 w)).0 same))
  | inr differs ↦ inr (rw differs (word_over a start size w fit hit))
]

-- ---- the theorem, of memories

-- what stands in the files at an address
pub record IsFile (base files : Memory) (members : List LoadedObject) (gs : List Meaning) (a : ℕ) : Type 0 where
  pub away : list_any (under a) gs ≡ false → files a ≡ base a
  pub program : All (λ g. under a g ≡ true → is_library g.member ≡ false → files a ≡ relocated base gs a) gs
  pub library : All (λ g. under a g ≡ true → is_library g.member ≡ true → files a ≡ Some (get_or (held members g.member g.start) (a - g.start) 0)) gs

-- under the place at i, of a library
fast_library : (base files : Memory) (members : List LoadedObject) (gs : List Meaning) (rows : List Fill) (a i : ℕ) (d : Meaning) (w : ℕ) → AllFit is_library gs → AtMostOne under gs → IsPermutation (filter_map (make_row members) gs) rows
    → files a ≡ Some (get_or (held members (get_or gs i d).member (get_or gs i d).start) (a - (get_or gs i d).start) 0)
    → i < length gs → under a (get_or gs i d) ≡ true → is_library (get_or gs i d).member ≡ true → (get_or gs i d).word ≡ Put w → filled files rows a ≡ relocated base gs a
fast_library base files members gs rows a i d w fit lone perm there lt hit library is =
    let g = get_or gs i d in
    let v : Option ℕ = Some (byte_in a g.start w) in
    let bytes = held members g.member g.start in
    let row : make_row members g ≡ differing bytes g.start w = row_is members g.member g.start g.word w library is in
    let size : g.size ≡ 8 = sized (is_library g.member) g.size g.word w is (fit i d lt) in
    laid_at (make_row members) gs rows files a i d v perm (rows_inside members gs a fit) lone lt hit
    (subst (λ (o : Option Fill). IfSome o (λ h. covers a h ≡ true → Some (fill_byte a h) ≡ v)) (sym row) (row_byte bytes g.start w a))
    (subst (λ (o : Option Fill). (files a ≡ v) ⊎ (is_some_and (covers a) o ≡ true)) (sym row) (row_or_file files bytes a g.start g.size w size hit there))
    ∙ sym (relocated_put base gs a i d w fit lone lt hit is)
  where
    sized : (library : Bool) (size : ℕ) (word : Word) (w : ℕ) → word ≡ Put w → Fits library size word → size ≡ 8
    sized library size word w is fit = rw is at fit

-- under the place at i
fast_at : (base files : Memory) (members : List LoadedObject) (gs : List Meaning) (rows : List Fill) (a i : ℕ) (d : Meaning) → AllFit is_library gs → AtMostOne under gs → IsPermutation (filter_map (make_row members) gs) rows → IsFile base files members gs a
    → i < length gs → under a (get_or gs i d) ≡ true → filled files rows a ≡ relocated base gs a
fast_at base files members gs rows a i d fit lone perm file lt hit =
    let g = get_or gs i d in
    elim (cases_Bool (is_library g.member)) [
      | inr program ↦
          laid_at (make_row members) gs rows files a i d (relocated base gs a) perm (rows_inside members gs a fit) lone lt hit
          (row_none members g.member g.start g.word (λ f. covers a f ≡ true → Some (fill_byte a f) ≡ relocated base gs a) program) (inl (file.program i d lt hit program))
      | inl library ↦
          let put = put_there (is_library g.member) g.start g.size a g.word library (fit i d lt) hit in
          fast_library base files members gs rows a i d put.0 fit lone perm (file.library i d lt hit library) lt hit library put.1
    ]

pub fast_is_relocated : (base files : Memory) (members : List LoadedObject) (gs : List Meaning) (rows : List ConflictRow) (a : ℕ) → AllFit is_library gs → AtMostOne under gs → IsPermutation (rows_of members gs) rows → IsFile base files members gs a → filled files (patches rows) a ≡ relocated base gs a
fast_is_relocated base files members gs rows a fit lone rows_perm file =
    let perm : IsPermutation (filter_map (make_row members) gs) (patches rows) =
    subst (λ (fs : List Fill). IsPermutation fs (patches rows)) (patches_made members gs) (IsPermutation-map patch_of (rows_of members gs) rows rows_perm) in
    elim (cases_Bool (list_any (under a) gs)) [
      | inr none ↦ laid_away (make_row members) gs (patches rows) files a perm (rows_inside members gs a fit) none ∙ file.away none ∙ sym (relocated_away base gs a fit none)
      | inl some ↦
          let one = Any-from_list_any (under a) gs some in
          fast_at base files members gs (patches rows) a one.0 one.1 fit lone perm file one.2 (subst (λ (g : Meaning). under a g ≡ true) (sym one.3) one.4)
    ]
