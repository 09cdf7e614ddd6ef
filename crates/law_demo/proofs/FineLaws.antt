-- The recipes of a generated set are plain, modest and bounded.
use Rattle.std.proofs.Common.{◌≡◌, ℕ, zero, suc, ◌+◌, ◌*◌, ◌%◌, ◌<◌, ◌≤◌, Bool, true, false, List, [], ◌∷◌, ◌++◌, length, take, drop, map, refl, sym, ap, subst, ◌∙◌, arith, append_assoc, length-append, inl, inr}
use Rattle.std.specs.Prelude.{◌==◌, ◌||◌}
use Rattle.std.specs.List.{AllByRecursion, list_any}
use Rattle.std.specs.Str.{bytes_eq}
use Rattle.std.proofs.lemmas.Bool.{cases_Bool, false≢true, or_parts, or_right}
use Rattle.std.proofs.lemmas.Bool.Decides.{nat_tests}
use Rattle.std.proofs.lemmas.List.{length-map}
use Rattle.std.proofs.lemmas.List.Folds.{list_any-append}
use Rattle.std.proofs.lemmas.Slice.Eq.{bytes_eq-Decides}
use Rattle.std.proofs.Math.Nat.{mod-lt}
use Rattle.pl_base.specs.Pairs.{any_pair}
use Rattle.pl_build.specs.declared.line.Relocation.{Relocation}
use Rattle.pl_build.specs.declared.line.SymbolLine.{SymbolLine}
use Rattle.pl_build.specs.declared.recipe.Recipe.{Recipe}
use Rattle.pl_build.specs.declared.recipe.Settings.{Settings}
use Rattle.pl_build.specs.LayoutPlan.{addend_of}
use Rattle.pl_build.specs.RelocationLines.{is_no_symbol}
use Rattle.pl_build.specs.Relocations.{is_written_as}
use Rattle.pl_gen.specs.Draws.{at}
use Rattle.pl_gen.specs.Lines.{library_name, function_name, object_name, has, kind_of, known_after}
use Rattle.pl_gen.specs.Set.{functions, needed}
use Rattle.pl_gen.specs.declared.relocation_kind.RelocationKind.{RelocationKind}
use Rattle.pl_gen.specs.declared.relocation_kind.RelocationKind.TheVariants.{Relative, Abs64, GlobDat, JumpSlot}
use Rattle.pl_sym.specs.declared.constants.TheConstants.{STT_FUNC}
use Rattle.law_demo.specs.Modest.{IsModestSymbol, IsModestRelocation, IsValidName, IsWord, is_at_place_of, is_namesake}
use Rattle.law_demo.specs.Plain.{IsUnversioned}
use Rattle.law_demo.specs.SetRead.{IsFine}
use Rattle.law_demo.specs.SetRecipes.{copy_of, library_of, library_words, needed_names, once, own_functions, own_object, program_of, program_words, reference, references, relocation_of, relocations_from}
use Rattle.law_demo.specs.Spelled.{defined, referred, recipe_relocation}
use Rattle.law_demo.proofs.NameLaws.{function_apart, function_off, function_plain, library_plain, object_apart, object_plain}

-- ---- lists

all_both : {X : Type 0} (P : X → Type 0) (xs ys : List X) → AllByRecursion P xs → AllByRecursion P ys → AllByRecursion P (xs ++ ys)
all_both P [] ys all more = more
all_both P (x ∷ xs) ys all more = (all.0, all_both P xs ys all.1 more)

all_map : {X : Type 0} (P Q : X → Type 0) (xs : List X) → ((x : X) → P x → Q x) → AllByRecursion P xs → AllByRecursion Q xs
all_map P Q [] f all = tt
all_map P Q (x ∷ xs) f all = (f x all.0, all_map P Q xs f all.1)

no_pair_both : {X : Type 0} (p : X → X → Bool) (xs ys : List X) → any_pair p xs ≡ false → any_pair p ys ≡ false → AllByRecursion (λ x. list_any (p x) ys ≡ false) xs → any_pair p (xs ++ ys) ≡ false
no_pair_both p [] ys a b each = b
no_pair_both p (x ∷ xs) ys a b each =
    let parts = or_parts (list_any (p x) xs) (any_pair p xs) a in
    rw (list_any-append (p x) xs ys, parts.0, each.0) (no_pair_both p xs ys parts.1 b each.1)

none_both : {X : Type 0} (p : X → Bool) (xs ys : List X) → list_any p xs ≡ false → list_any p ys ≡ false → list_any p (xs ++ ys) ≡ false
none_both p xs ys a b = rw (list_any-append p xs ys, a, b) refl

none_one : (b : Bool) → b ≡ false → (b || false) ≡ false
none_one b e = rw e refl

take_short : (n : ℕ) (xs : List ℕ) → length (take n xs) ≤ n
take_short zero xs = omega arith
take_short (suc n) [] = omega arith
take_short (suc n) (x ∷ xs) = omega (arith, take_short n xs)

-- ---- numbers among numbers

has_front : (xs ys : List ℕ) (n : ℕ) → has xs n ≡ true → has (xs ++ ys) n ≡ true
has_front xs ys n h = rw (list_any-append (λ k. k == n) xs ys, h) refl

has_back : (xs ys : List ℕ) (n : ℕ) → has ys n ≡ true → has (xs ++ ys) n ≡ true
has_back xs ys n h = list_any-append (λ k. k == n) xs ys ∙ or_right (has xs n) (has ys n) h

has_first : (n : ℕ) (ys : List ℕ) → has (n ∷ ys) n ≡ true
has_first n ys = rw (same n) refl
  where
    same : (n : ℕ) → (n == n) ≡ true
    same n = grind (arith, nat_tests)

has_last : (xs : List ℕ) (n : ℕ) → has (xs ++ n ∷ []) n ≡ true
has_last xs n = has_back xs (n ∷ []) n (has_first n [])

-- what is there once
once_each : {X : Type 0} (P : X → Type 0) (before : List ℕ) (n : ℕ) (x : X) → (has before n ≡ false → P x) → AllByRecursion P (once before n x)
once_each P before n x here = elim (cases_Bool (has before n)) [
  | inl hit ↦ rw hit tt
  | inr miss ↦ rw miss (here miss, tt)
]

once_alone : {X : Type 0} (p : X → X → Bool) (before : List ℕ) (n : ℕ) (x : X) → any_pair p (once before n x) ≡ false
once_alone p before n x = elim (cases_Bool (has before n)) [
  | inl hit ↦ rw hit refl
  | inr miss ↦ rw miss refl
]

once_none : {X : Type 0} (p : X → Bool) (before : List ℕ) (n : ℕ) (x : X) → (has before n ≡ false → p x ≡ false) → list_any p (once before n x) ≡ false
once_none p before n x here = elim (cases_Bool (has before n)) [
  | inl hit ↦ rw hit refl
  | inr miss ↦ rw miss (none_one (p x) (here miss))
]

once_short : {X : Type 0} (before : List ℕ) (n : ℕ) (x : X) → length (once before n x) ≤ 1
once_short before n x = elim (cases_Bool (has before n)) [
  | inl hit ↦ rw hit (omega arith)
  | inr miss ↦ rw miss (omega arith)
]

-- ---- functions by their numbers

abbrev IsSmall : ℕ → Type 0
IsSmall n = n < 1000

-- a symbol has the name of a function whose number is among numbers
record IsAmong (among : List ℕ) (x : SymbolLine) : Type 0 where
  number : ℕ
  name : x.name ≡ function_name number
  small : number < 1000
  there : has among number ≡ true

among_more : (xs ys : List ℕ) (x : SymbolLine) → IsAmong xs x → IsAmong (xs ++ ys) x
among_more xs ys x is = record { number = is.number; name = is.name; small = is.small; there = has_front xs ys is.number is.there }

names_apart : (a b : List ℕ) (m n : ℕ) (among : List ℕ) → a ≡ function_name m → b ≡ function_name n → m < 1000 → n < 1000 → has among m ≡ true → has among n ≡ false → bytes_eq a b ≡ false
names_apart a b m n among ea eb lm ln there missing = rw (ea, eb) (function_apart m n lm ln (differ (m == n) refl))
  where
    equal : (m n : ℕ) → (m == n) ≡ true → m ≡ n
    equal m n h = grind (arith, nat_tests)

    differ : (b : Bool) → (m == n) ≡ b → b ≡ false
    differ true e = absurd (false≢true (sym missing ∙ (sym (ap (has among) (equal m n e)) ∙ there)))
    differ false e = refl

-- a symbol more, under the name of a function that is not among those before
once_avoided : (x y : SymbolLine) (before : List ℕ) (n : ℕ) → IsAmong before x → n < 1000 → y.name ≡ function_name n → list_any (is_namesake x) (once before n y) ≡ false
once_avoided x y before n is small named = once_none (is_namesake x) before n y (λ miss. names_apart x.name y.name is.number n before is.name named is.small small is.there miss)

-- ---- the functions that a library defines

own_avoided : (x : SymbolLine) (before : List ℕ) (offset : ℕ) (numbers : List ℕ) → IsAmong before x → AllByRecursion IsSmall numbers → list_any (is_namesake x) (own_functions before offset numbers) ≡ false
unfolding own_functions defined
own_avoided x before offset [] is small = refl
own_avoided x before offset (n ∷ more) is small =
    none_both (is_namesake x) (once before n (defined (function_name n) STT_FUNC offset)) (own_functions (before ++ n ∷ []) (offset + 8) more)
    (once_avoided x (defined (function_name n) STT_FUNC offset) before n is small.0 refl) (own_avoided x (before ++ n ∷ []) (offset + 8) more (among_more before (n ∷ []) x is) small.1)

own_apart : (before : List ℕ) (offset : ℕ) (numbers : List ℕ) → AllByRecursion IsSmall numbers → any_pair is_namesake (own_functions before offset numbers) ≡ false
unfolding own_functions defined
own_apart before offset [] small = refl
own_apart before offset (n ∷ more) small =
    let y : SymbolLine = defined (function_name n) STT_FUNC offset in
    let rest : List SymbolLine = own_functions (before ++ n ∷ []) (offset + 8) more in
    no_pair_both is_namesake (once before n y) rest (once_alone is_namesake before n y) (own_apart (before ++ n ∷ []) (offset + 8) more small.1)
    (once_each (λ x. list_any (is_namesake x) rest ≡ false) before n y (λ miss.
    own_avoided y (before ++ n ∷ []) (offset + 8) more (record { number = n; name = refl; small = small.0; there = has_last before n }) small.1))

own_among : (before : List ℕ) (offset : ℕ) (numbers : List ℕ) → AllByRecursion IsSmall numbers → AllByRecursion (IsAmong (before ++ numbers)) (own_functions before offset numbers)
unfolding own_functions defined
own_among before offset [] small = tt
own_among before offset (n ∷ more) small =
    all_both (IsAmong (before ++ n ∷ more)) (once before n (defined (function_name n) STT_FUNC offset)) (own_functions (before ++ n ∷ []) (offset + 8) more)
    (once_each (IsAmong (before ++ n ∷ more)) before n (defined (function_name n) STT_FUNC offset) (λ miss.
    record { number = n; name = refl; small = small.0; there = has_back before (n ∷ more) n (has_first n more) }))
    (subst (λ (among : List ℕ). AllByRecursion (IsAmong among) (own_functions (before ++ n ∷ []) (offset + 8) more)) (append_assoc before (n ∷ []) more) (own_among (before ++ n ∷ []) (offset + 8) more small.1))

own_modest : (s : Settings) (before : List ℕ) (offset : ℕ) (numbers : List ℕ) → offset + 8 * length numbers ≤ s.data_size + s.bss → AllByRecursion (IsModestSymbol s) (own_functions before offset numbers)
unfolding own_functions defined
own_modest s before offset [] fits = tt
own_modest s before offset (n ∷ more) fits =
    all_both (IsModestSymbol s) (once before n (defined (function_name n) STT_FUNC offset)) (own_functions (before ++ n ∷ []) (offset + 8) more)
    (once_each (IsModestSymbol s) before n (defined (function_name n) STT_FUNC offset) (λ miss. record {
      name = (function_plain n).valid;
      visibility = refl;
      form = inl (record { defined = refl; placed = refl; kind = inr refl; bind = refl; some = omega arith; within = omega (arith, fits) });
    }))
    (own_modest s (before ++ n ∷ []) (offset + 8) more (omega (arith, fits)))

own_plain : (before : List ℕ) (offset : ℕ) (numbers : List ℕ) → AllByRecursion IsUnversioned (own_functions before offset numbers)
unfolding own_functions defined
own_plain before offset [] = tt
own_plain before offset (n ∷ more) =
    all_both IsUnversioned (once before n (defined (function_name n) STT_FUNC offset)) (own_functions (before ++ n ∷ []) (offset + 8) more)
    (once_each IsUnversioned before n (defined (function_name n) STT_FUNC offset) (λ miss. record { version = refl; file = refl })) (own_plain (before ++ n ∷ []) (offset + 8) more)

own_short : (before : List ℕ) (offset : ℕ) (numbers : List ℕ) → length (own_functions before offset numbers) ≤ length numbers
unfolding own_functions
own_short before offset [] = omega arith
own_short before offset (n ∷ more) =
    let first : List SymbolLine = once before n (defined (function_name n) STT_FUNC offset) in
    let rest : List SymbolLine = own_functions (before ++ n ∷ []) (offset + 8) more in
    omega (arith, length-append first rest, once_short before n (defined (function_name n) STT_FUNC offset), own_short (before ++ n ∷ []) (offset + 8) more)

-- ---- the functions that relocations refer to

word_small : (word : ℕ) → word % 1000 < 1000
word_small word = mod-lt word (omega arith)

-- one that a relocation brings
reference_each : (P : SymbolLine → Type 0) (known : List ℕ) (kind : RelocationKind) (word : ℕ) → (has known (word % 1000) ≡ false → has (known_after known kind word) (word % 1000) ≡ true → P (referred (function_name (word % 1000)))) → AllByRecursion P (reference known kind word)
unfolding reference known_after
reference_each P known Relative word here = tt
reference_each P known Abs64 word here = once_each P known (word % 1000) (referred (function_name (word % 1000))) (λ miss. here miss (has_last known (word % 1000)))
reference_each P known GlobDat word here = once_each P known (word % 1000) (referred (function_name (word % 1000))) (λ miss. here miss (has_last known (word % 1000)))
reference_each P known JumpSlot word here = once_each P known (word % 1000) (referred (function_name (word % 1000))) (λ miss. here miss (has_last known (word % 1000)))

reference_alone : (p : SymbolLine → SymbolLine → Bool) (known : List ℕ) (kind : RelocationKind) (word : ℕ) → any_pair p (reference known kind word) ≡ false
unfolding reference
reference_alone p known Relative word = refl
reference_alone p known Abs64 word = once_alone p known (word % 1000) (referred (function_name (word % 1000)))
reference_alone p known GlobDat word = once_alone p known (word % 1000) (referred (function_name (word % 1000)))
reference_alone p known JumpSlot word = once_alone p known (word % 1000) (referred (function_name (word % 1000)))

reference_short : (known : List ℕ) (kind : RelocationKind) (word : ℕ) → length (reference known kind word) ≤ 1
unfolding reference
reference_short known Relative word = omega arith
reference_short known Abs64 word = once_short known (word % 1000) (referred (function_name (word % 1000)))
reference_short known GlobDat word = once_short known (word % 1000) (referred (function_name (word % 1000)))
reference_short known JumpSlot word = once_short known (word % 1000) (referred (function_name (word % 1000)))

none_of_each : {X : Type 0} (p : X → Bool) (xs : List X) → AllByRecursion (λ x. p x ≡ false) xs → list_any p xs ≡ false
none_of_each p [] all = refl
none_of_each p (x ∷ xs) all = rw (all.0, none_of_each p xs all.1) refl

among_after : (known : List ℕ) (kind : RelocationKind) (word : ℕ) (x : SymbolLine) → IsAmong known x → IsAmong (known_after known kind word) x
unfolding known_after
among_after known Relative word x is = is
among_after known Abs64 word x is = among_more known (word % 1000 ∷ []) x is
among_after known GlobDat word x is = among_more known (word % 1000 ∷ []) x is
among_after known JumpSlot word x is = among_more known (word % 1000 ∷ []) x is

reference_avoided : (x : SymbolLine) (known : List ℕ) (kind : RelocationKind) (word : ℕ) → IsAmong known x → list_any (is_namesake x) (reference known kind word) ≡ false
unfolding referred
reference_avoided x known kind word is =
    none_of_each (is_namesake x) (reference known kind word) (reference_each (λ y. is_namesake x y ≡ false) known kind word (λ miss there.
    names_apart x.name (function_name (word % 1000)) is.number (word % 1000) known is.name refl is.small (word_small word) is.there miss))

references_avoided : (x : SymbolLine) (known words : List ℕ) → IsAmong known x → list_any (is_namesake x) (references known words) ≡ false
unfolding references
references_avoided x known [] is = refl
references_avoided x known (kind ∷ []) is = refl
references_avoided x known (kind ∷ word ∷ more) is =
    none_both (is_namesake x) (reference known (kind_of kind) word) (references (known_after known (kind_of kind) word) more)
    (reference_avoided x known (kind_of kind) word is) (references_avoided x (known_after known (kind_of kind) word) more (among_after known (kind_of kind) word x is))

references_apart : (known words : List ℕ) → any_pair is_namesake (references known words) ≡ false
unfolding references referred
references_apart known [] = refl
references_apart known (kind ∷ []) = refl
references_apart known (kind ∷ word ∷ more) =
    let after : List ℕ = known_after known (kind_of kind) word in
    let rest : List SymbolLine = references after more in
    no_pair_both is_namesake (reference known (kind_of kind) word) rest (reference_alone is_namesake known (kind_of kind) word) (references_apart after more)
    (reference_each (λ x. list_any (is_namesake x) rest ≡ false) known (kind_of kind) word (λ miss there.
    references_avoided (referred (function_name (word % 1000))) after more (record { number = word % 1000; name = refl; small = word_small word; there = there })))

references_each : (P : SymbolLine → Type 0) (known words : List ℕ) → ((n : ℕ) → P (referred (function_name n))) → AllByRecursion P (references known words)
unfolding references
references_each P known [] each = tt
references_each P known (kind ∷ []) each = tt
references_each P known (kind ∷ word ∷ more) each =
    all_both P (reference known (kind_of kind) word) (references (known_after known (kind_of kind) word) more)
    (reference_each P known (kind_of kind) word (λ miss there. each (word % 1000))) (references_each P (known_after known (kind_of kind) word) more each)

references_short : (known words : List ℕ) → length (references known words) ≤ length words
unfolding references
references_short known [] = omega arith
references_short known (kind ∷ []) = omega arith
references_short known (kind ∷ word ∷ more) =
    let first : List SymbolLine = reference known (kind_of kind) word in
    let rest : List SymbolLine = references (known_after known (kind_of kind) word) more in
    omega (arith, length-append first rest, reference_short known (kind_of kind) word, references_short (known_after known (kind_of kind) word) more)

referred_modest : (s : Settings) (n : ℕ) → IsModestSymbol s (referred (function_name n))
unfolding referred
referred_modest s n = record {
  name = (function_plain n).valid;
  visibility = refl;
  form = inr (record { undefined = refl; unplaced = refl; kind = refl; bind = refl; offset = refl; size = refl });
}

referred_plain : (n : ℕ) → IsUnversioned (referred (function_name n))
unfolding referred
referred_plain n = record { version = refl; file = refl }

-- ---- the object

object_modest : (s : Settings) (i : ℕ) → 2056 ≤ s.data_size + s.bss → IsModestSymbol s (own_object i)
unfolding defined
object_modest s i fits = record {
  name = (object_plain i).valid;
  visibility = refl;
  form = inl (record { defined = refl; placed = refl; kind = inl refl; bind = refl; some = omega arith; within = omega (arith, fits) });
}

object_unversioned : (i : ℕ) → IsUnversioned (own_object i)
unfolding defined
object_unversioned i = record { version = refl; file = refl }

object_avoids : (i : ℕ) (known words : List ℕ) → list_any (is_namesake (own_object i)) (references known words) ≡ false
unfolding defined referred
object_avoids i known words = none_of_each (is_namesake (own_object i)) (references known words) (references_each (λ y. is_namesake (own_object i) y ≡ false) known words (λ n. object_apart i n))

by_object : (a : List ℕ) (n i : ℕ) → a ≡ function_name n → bytes_eq a (object_name i) ≡ false
by_object a n i e = rw e (function_off n i)

-- ---- relocations

-- between two places
record IsBetween (from end : ℕ) (x : Relocation) : Type 0 where
  after : from ≤ x.offset
  before : x.offset < end

place_of : (place : ℕ) (kind : RelocationKind) (word : ℕ) → (relocation_of place kind word).offset ≡ place
unfolding relocation_of recipe_relocation
place_of place Relative word = refl
place_of place Abs64 word = refl
place_of place GlobDat word = refl
place_of place JumpSlot word = refl

between_more : (a b c d : ℕ) (x : Relocation) → a ≤ b → c ≤ d → IsBetween b c x → IsBetween a d x
between_more a b c d x le more is = record { after = omega (arith, le, is.after); before = omega (arith, more, is.before) }

relocations_between : (place : ℕ) (words : List ℕ) → AllByRecursion (IsBetween place (place + 4 * length words)) (relocations_from place words)
unfolding relocations_from
relocations_between place [] = tt
relocations_between place (kind ∷ []) = tt
relocations_between place (kind ∷ word ∷ more) =
    let here = place_of place (kind_of kind) word in (
      record { after = omega (arith, here); before = omega (arith, here) },
      all_map (IsBetween (place + 8) (place + 8 + 4 * length more)) (IsBetween place (place + 4 * length (kind ∷ word ∷ more))) (relocations_from (place + 8) more)
          (λ x is. between_more place (place + 8) (place + 8 + 4 * length more) (place + 4 * length (kind ∷ word ∷ more)) x (omega arith) (omega arith) is) (relocations_between (place + 8) more),
    )

off_place : (p a : ℕ) → p < a → (p == a) ≡ false
off_place p a lt = grind (arith, nat_tests)

places_apart : (place : ℕ) (words : List ℕ) → any_pair is_at_place_of (relocations_from place words) ≡ false
unfolding relocations_from
places_apart place [] = refl
places_apart place (kind ∷ []) = refl
places_apart place (kind ∷ word ∷ more) =
    let x : Relocation = relocation_of place (kind_of kind) word in
    let here = place_of place (kind_of kind) word in
    let rest : List Relocation = relocations_from (place + 8) more in
    rw (none_of_each (is_at_place_of x) rest
    (all_map (IsBetween (place + 8) (place + 8 + 4 * length more)) (λ y. is_at_place_of x y ≡ false) rest (λ y is. off_place x.offset y.offset (omega (arith, here, is.after))) (relocations_between (place + 8) more)))
    (places_apart (place + 8) more)

relocation_modest : (r : Recipe) (place : ℕ) (kind : RelocationKind) (word : ℕ) → place % 8 ≡ 0 → place + 8 ≤ r.settings.data_size → IsModestRelocation r (relocation_of place kind word)
unfolding relocation_of recipe_relocation addend_of
relocation_modest r place Relative word even fits = record { form = inl (record { kind = refl; within = fits }); aligned = even; small = omega arith; plain = λ e. absurd (false≢true e) }
relocation_modest r place Abs64 word even fits = record { form = inl (record { kind = refl; within = fits }); aligned = even; small = omega arith; plain = λ e. absurd (false≢true e) }
relocation_modest r place GlobDat word even fits = record { form = inl (record { kind = refl; within = fits }); aligned = even; small = omega arith; plain = λ e. refl }
relocation_modest r place JumpSlot word even fits = record { form = inl (record { kind = refl; within = fits }); aligned = even; small = omega arith; plain = λ e. refl }

relocations_modest : (r : Recipe) (place : ℕ) (words : List ℕ) → place % 8 ≡ 0 → place + 4 * length words ≤ r.settings.data_size → AllByRecursion (IsModestRelocation r) (relocations_from place words)
unfolding relocations_from
relocations_modest r place [] even fits = tt
relocations_modest r place (kind ∷ []) even fits = tt
relocations_modest r place (kind ∷ word ∷ more) even fits = (
  relocation_modest r place (kind_of kind) word even (omega (arith, fits)),
  relocations_modest r (place + 8) more (next place even) (omega (arith, fits)),
)
  where
    next : (place : ℕ) → place % 8 ≡ 0 → (place + 8) % 8 ≡ 0
    next place even = omega (arith, even)

relocations_short : (place : ℕ) (words : List ℕ) → length (relocations_from place words) ≤ length words
unfolding relocations_from
relocations_short place [] = omega arith
relocations_short place (kind ∷ []) = omega arith
relocations_short place (kind ∷ word ∷ more) = omega (arith, relocations_short (place + 8) more)

-- ---- a library

functions_small : (words : List ℕ) → AllByRecursion IsSmall (map (λ word. word % 1000) words)
functions_small [] = tt
functions_small (word ∷ words) = (word_small word, functions_small words)

functions_few : (words : List ℕ) → length (functions words) ≤ 64
functions_few words = omega (arith, length-map (take 64 (drop 2 words)) (λ (word : ℕ). word % 1000), take_short 64 (drop 2 words))

library_apart : (i : ℕ) (fs words : List ℕ) → AllByRecursion IsSmall fs → any_pair is_namesake (own_functions [] 0 fs ++ own_object i ∷ references fs words) ≡ false
unfolding defined
library_apart i fs words small =
    let rest : List SymbolLine = references fs words in
    no_pair_both is_namesake (own_functions [] 0 fs) (own_object i ∷ rest) (own_apart [] 0 fs small) (rw (object_avoids i fs words) (references_apart fs words))
    (all_map (IsAmong fs) (λ x. list_any (is_namesake x) (own_object i ∷ rest) ≡ false) (own_functions [] 0 fs)
    (λ x is. rw (by_object x.name is.number i is.name) (references_avoided x fs words is)) (own_among [] 0 fs small))

pub library_fine : (count i : ℕ) (words : List ℕ) → IsFine (library_of count i words)
unfolding library_of
library_fine count i words =
    let fs : List ℕ = functions words in
    let ws : List ℕ = library_words words in
    let small = functions_small (take 64 (drop 2 words)) in
    let few = functions_few words in
    let short = take_short 256 (drop 66 words) in
    record {
      plain = record {
        settings = record { linked = refl; fixed = refl; bare = refl; plain_order = refl; no_entry = refl; no_tls = refl; some_buckets = omega arith; few_buckets = omega arith; few_spare = omega arith; few_data = omega arith; few_bss = omega arith };
        versions = refl;
        packed = refl;
        symbols = all_both IsUnversioned (own_functions [] 0 fs) (own_object i ∷ references fs ws) (own_plain [] 0 fs) (object_unversioned i, references_each IsUnversioned fs ws referred_plain);
      };
      modest = record {
        hashed = refl;
        needs = ((library_plain ((i + 1) % count)).valid, ((library_plain (at words 0 % count)).valid, ((library_plain (at words 1 % count)).valid, tt)));
        symbols = all_both (IsModestSymbol (library_of count i words).settings) (own_functions [] 0 fs) (own_object i ∷ references fs ws) (own_modest (library_of count i words).settings [] 0 fs (omega (arith, few)))
            (object_modest (library_of count i words).settings i (omega arith), references_each (IsModestSymbol (library_of count i words).settings) fs ws (referred_modest (library_of count i words).settings));
        names = library_apart i fs ws small;
        relocations = relocations_modest (library_of count i words) 0x808 ws refl (omega (arith, short));
        places = places_apart 0x808 ws;
      };
      bounded = record {
        needs = omega arith;
        symbols = omega (arith, length-append (own_functions [] 0 fs) (own_object i ∷ references fs ws), own_short [] 0 fs, references_short fs ws, few, short);
        relocations = omega (arith, relocations_short 0x808 ws, short);
      };
    }

-- ---- a program

needed_valid : (before ns : List ℕ) → AllByRecursion IsValidName (needed_names before ns)
unfolding needed_names
needed_valid before [] = tt
needed_valid before (i ∷ more) =
    all_both IsValidName (once before i (library_name i)) (needed_names (before ++ i ∷ []) more) (once_each IsValidName before i (library_name i) (λ miss. (library_plain i).valid)) (needed_valid (before ++ i ∷ []) more)

needed_short : (before ns : List ℕ) → length (needed_names before ns) ≤ length ns
unfolding needed_names
needed_short before [] = omega arith
needed_short before (i ∷ more) =
    let first : List (List ℕ) = once before i (library_name i) in
    let rest : List (List ℕ) = needed_names (before ++ i ∷ []) more in
    omega (arith, length-append first rest, once_short before i (library_name i), needed_short (before ++ i ∷ []) more)

program_apart : (i : ℕ) (words : List ℕ) → any_pair is_namesake (references [] words ++ own_object i ∷ []) ≡ false
unfolding defined referred
program_apart i words =
    no_pair_both is_namesake (references [] words) (own_object i ∷ []) (references_apart [] words) refl
    (references_each (λ x. list_any (is_namesake x) (own_object i ∷ []) ≡ false) [] words (λ n. none_one (bytes_eq (function_name n) (object_name i)) (function_off n i)))

-- an object's name has eight bytes under it
referred_word : (i n : ℕ) → IsWord (object_name i) (referred (function_name n))
unfolding referred
referred_word i n hit = absurd (false≢true (sym (function_off n i) ∙ hit))

object_known : (i : ℕ) (words : List ℕ) → list_any (is_written_as (object_name i)) (references [] words ++ own_object i ∷ []) ≡ true
unfolding defined
object_known i words =
    list_any-append (is_written_as (object_name i)) (references [] words) (own_object i ∷ [])
    ∙ or_right (list_any (is_written_as (object_name i)) (references [] words)) (list_any (is_written_as (object_name i)) (own_object i ∷ [])) (rw ((bytes_eq-Decides (object_name i) (object_name i)).1 refl) refl)

program_fits : (count : ℕ) (words : List ℕ) → AllByRecursion (IsModestRelocation (program_of count words)) (copy_of (at words 0 % count) ∷ [])
unfolding program_of recipe_relocation is_no_symbol defined addend_of
program_fits count words = (
  record {
    form = inr (record {
      kind = refl;
      program = refl;
      within = omega arith;
      named = refl;
      known = object_known (at words 0 % count) (program_words words);
      sizes = all_both (IsWord (object_name (at words 0 % count))) (references [] (program_words words)) (own_object (at words 0 % count) ∷ [])
          (references_each (IsWord (object_name (at words 0 % count))) [] (program_words words) (referred_word (at words 0 % count))) ((λ hit. refl), tt);
    });
    aligned = refl;
    small = omega arith;
    plain = λ e. refl;
  },
  tt,
)

program_places : (i : ℕ) (words : List ℕ) → 4 * length words ≤ 2048 → any_pair is_at_place_of (relocations_from 0 words ++ copy_of i ∷ []) ≡ false
unfolding recipe_relocation
program_places i words short =
    no_pair_both is_at_place_of (relocations_from 0 words) (copy_of i ∷ []) (places_apart 0 words) refl
    (all_map (IsBetween 0 (0 + 4 * length words)) (λ x. list_any (is_at_place_of x) (copy_of i ∷ []) ≡ false) (relocations_from 0 words) (λ x is. none_one (x.offset == 2048) (off_place x.offset 2048 (omega (arith, is.before, short)))) (relocations_between 0 words))

pub program_fine : (count : ℕ) (words : List ℕ) → IsFine (program_of count words)
unfolding program_of
program_fine count words =
    let i : ℕ = at words 0 % count in
    let ws : List ℕ = program_words words in
    let short = take_short 128 (drop 3 words) in
    let ns : List ℕ = needed count words in
    let few : length ns ≤ 3 = omega (arith, length-map (take 3 words) (λ (word : ℕ). word % count), take_short 3 words) in
    record {
      plain = record {
        settings = record { linked = refl; fixed = refl; bare = refl; plain_order = refl; no_entry = refl; no_tls = refl; some_buckets = omega arith; few_buckets = omega arith; few_spare = omega arith; few_data = omega arith; few_bss = omega arith };
        versions = refl;
        packed = refl;
        symbols = all_both IsUnversioned (references [] ws) (own_object i ∷ []) (references_each IsUnversioned [] ws referred_plain) (object_unversioned i, tt);
      };
      modest = record {
        hashed = refl;
        needs = needed_valid [] ns;
        symbols = all_both (IsModestSymbol (program_of count words).settings) (references [] ws) (own_object i ∷ []) (references_each (IsModestSymbol (program_of count words).settings) [] ws (referred_modest (program_of count words).settings))
            (object_modest (program_of count words).settings i (omega arith), tt);
        names = program_apart i ws;
        relocations = all_both (IsModestRelocation (program_of count words)) (relocations_from 0 ws) (copy_of i ∷ []) (relocations_modest (program_of count words) 0 ws refl (omega (arith, short))) (program_fits count words);
        places = program_places i ws (omega (arith, short));
      };
      bounded = record {
        needs = omega (arith, needed_short [] ns, few);
        symbols = omega (arith, length-append (references [] ws) (own_object i ∷ []), references_short [] ws, short);
        relocations = omega (arith, length-append (relocations_from 0 ws) (copy_of i ∷ []), relocations_short 0 ws, short);
      };
    }
