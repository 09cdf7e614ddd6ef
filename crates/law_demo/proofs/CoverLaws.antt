-- The symbols of a generated set's recipes: each relocation by a function has one.
use Rattle.std.proofs.Common.{◌≡◌, ℕ, ◌+◌, ◌%◌, Bool, true, false, List, [], ◌∷◌, ◌++◌, refl, sym, ap, subst, ◌∙◌, append_assoc, arith, inl, inr}
use Rattle.std.specs.Prelude.{◌==◌, ◌||◌}
use Rattle.std.specs.List.{AllByRecursion, list_any}
use Rattle.std.proofs.lemmas.Bool.{cases_Bool}
use Rattle.std.proofs.lemmas.Bool.Decides.{nat_tests}
use Rattle.std.proofs.lemmas.List.{append-nil}
use Rattle.std.proofs.lemmas.List.Folds.{list_any-append}
use Rattle.pl_build.specs.declared.line.Relocation.{Relocation}
use Rattle.pl_build.specs.declared.line.SymbolLine.{SymbolLine}
use Rattle.pl_build.specs.RelocationLines.{is_no_symbol}
use Rattle.pl_build.specs.Relocations.{is_written_as}
use Rattle.pl_gen.specs.Lines.{function_name, has, kind_of, known_after}
use Rattle.pl_gen.specs.declared.relocation_kind.RelocationKind.{RelocationKind}
use Rattle.pl_gen.specs.declared.relocation_kind.RelocationKind.TheVariants.{Relative, Abs64, GlobDat, JumpSlot}
use Rattle.law_demo.specs.SetRecipes.{once, own_functions, reference, references, relocation_of, relocations_from}
use Rattle.law_demo.specs.Spelled.{defined, referred, recipe_relocation}
use Rattle.law_demo.proofs.NameLaws.{same_name}

-- ---- tests of a list and more

pub any_first : {X : Type 0} (p : X → Bool) (xs ys : List X) → list_any p xs ≡ true → list_any p (xs ++ ys) ≡ true
any_first p xs ys some = list_any-append p xs ys ∙ rw some refl

pub any_second : {X : Type 0} (p : X → Bool) (xs ys : List X) → list_any p ys ≡ true → list_any p (xs ++ ys) ≡ true
any_second p xs ys some = list_any-append p xs ys ∙ rw some (either (list_any p xs))
  where
    either : (b : Bool) → (b || true) ≡ true
    either true = refl
    either false = refl

same_number : (a b : ℕ) → (a == b) ≡ true → a ≡ b
same_number a b h = grind (arith, nat_tests)

-- ---- functions that have a symbol

abbrev is_there : List SymbolLine → ℕ → Bool
is_there symbols n = list_any (is_written_as (function_name n)) symbols

-- each of these numbers is that of a function with a symbol
abbrev AreThere : List ℕ → List SymbolLine → Type 0
AreThere known symbols = (n : ℕ) → has known n ≡ true → is_there symbols n ≡ true

-- one that has a symbol now
there_more : (known : List ℕ) (symbols mine : List SymbolLine) (number : ℕ) → AreThere known symbols → is_there (symbols ++ mine) number ≡ true → AreThere (known ++ number ∷ []) (symbols ++ mine)
there_more known symbols mine number are there n hit = elim (cases_Bool (has known n)) [
  | inl before ↦ any_first (is_written_as (function_name n)) symbols mine (are n before)
  | inr new ↦
      let last : list_any (λ k. k == n) (number ∷ []) ≡ true = rw new at (sym (list_any-append (λ k. k == n) known (number ∷ [])) ∙ hit) in
      let same : number ≡ n = same_number number n (only (number == n) last) in
      subst (λ (k : ℕ). is_there (symbols ++ mine) k ≡ true) same there
]
  where
    only : (b : Bool) → (b || false) ≡ true → b ≡ true
    only true h = refl
    only false h = h

-- a symbol of its own, where it has none yet
there_once : (known : List ℕ) (symbols : List SymbolLine) (number : ℕ) (s : SymbolLine) → AreThere known symbols → is_written_as (function_name number) s ≡ true → is_there (symbols ++ once known number s) number ≡ true
there_once known symbols number s are named = elim (cases_Bool (has known number)) [
  | inl before ↦ any_first (is_written_as (function_name number)) symbols (once known number s) (are number before)
  | inr new ↦ rw new (any_second (is_written_as (function_name number)) symbols (s ∷ []) (rw named refl))
]

-- ---- the functions of a library

pub own_there : (before : List ℕ) (offset : ℕ) (xs : List ℕ) (symbols : List SymbolLine) → AreThere before symbols → AreThere (before ++ xs) (symbols ++ own_functions before offset xs)
unfolding own_functions defined
own_there before offset [] symbols are = λ n hit.
    any_first (is_written_as (function_name n)) symbols [] (are n (subst (λ (k : List ℕ). has k n ≡ true) (append-nil before) hit))
own_there before offset (number ∷ more) symbols are =
    let mine : List SymbolLine = once before number (defined (function_name number) 2 offset) in
    let rest : List SymbolLine = own_functions (before ++ number ∷ []) (offset + 8) more in
    let there : is_there (symbols ++ mine) number ≡ true = there_once before symbols number (defined (function_name number) 2 offset) are (same_name (function_name number)) in
    let all : AreThere ((before ++ number ∷ []) ++ more) ((symbols ++ mine) ++ rest) = own_there (before ++ number ∷ []) (offset + 8) more (symbols ++ mine) (there_more before symbols mine number are there) in
    λ n hit.
    subst (λ (ss : List SymbolLine). is_there ss n ≡ true) (append_assoc symbols mine rest) (all n (subst (λ (k : List ℕ). has k n ≡ true) (sym (append_assoc before (number ∷ []) more)) hit))

-- ---- relocations

-- by no symbol, or by one of these
abbrev pub IsKnown : List SymbolLine → Relocation → Type 0
IsKnown symbols x = (is_no_symbol x.name || list_any (is_written_as x.name) symbols) ≡ true

pub by_there : (symbols : List SymbolLine) (x : Relocation) → list_any (is_written_as x.name) symbols ≡ true → IsKnown symbols x
by_there symbols x there = rw there (either (is_no_symbol x.name))
  where
    either : (b : Bool) → (b || true) ≡ true
    either true = refl
    either false = refl

-- the function of a relocation, where it has no symbol yet
there_by : (known : List ℕ) (symbols : List SymbolLine) (number : ℕ) → AreThere known symbols → AreThere (known ++ number ∷ []) (symbols ++ once known number (referred (function_name number)))
unfolding referred
there_by known symbols number are =
    there_more known symbols (once known number (referred (function_name number))) number are (there_once known symbols number (referred (function_name number)) are (same_name (function_name number)))

there_after : (known : List ℕ) (symbols : List SymbolLine) (kind : RelocationKind) (word : ℕ) → AreThere known symbols → AreThere (known_after known kind word) (symbols ++ reference known kind word)
unfolding known_after reference referred
there_after known symbols Relative word are = λ n hit. any_first (is_written_as (function_name n)) symbols [] (are n hit)
there_after known symbols Abs64 word are = there_by known symbols (word % 1000) are
there_after known symbols GlobDat word are = there_by known symbols (word % 1000) are
there_after known symbols JumpSlot word are = there_by known symbols (word % 1000) are

has_last : (known : List ℕ) (number : ℕ) → has (known ++ number ∷ []) number ≡ true
has_last known number = any_second (λ k. k == number) known (number ∷ []) (rw (equal number) refl)
  where
    equal : (n : ℕ) → (n == n) ≡ true
    equal n = grind (arith, nat_tests)

one_known : (known : List ℕ) (place : ℕ) (symbols : List SymbolLine) (kind : RelocationKind) (word : ℕ) → AreThere (known_after known kind word) symbols → IsKnown symbols (relocation_of place kind word)
unfolding known_after relocation_of recipe_relocation is_no_symbol
one_known known place symbols Relative word are = refl
one_known known place symbols Abs64 word are = by_there symbols (relocation_of place Abs64 word) (are (word % 1000) (has_last known (word % 1000)))
one_known known place symbols GlobDat word are = by_there symbols (relocation_of place GlobDat word) (are (word % 1000) (has_last known (word % 1000)))
one_known known place symbols JumpSlot word are = by_there symbols (relocation_of place JumpSlot word) (are (word % 1000) (has_last known (word % 1000)))

known_more : (symbols more : List SymbolLine) (x : Relocation) → IsKnown symbols x → IsKnown (symbols ++ more) x
known_more symbols more x known = elim (cases_Bool (is_no_symbol x.name)) [
  | inl none ↦ rw none refl
  | inr some ↦ by_there (symbols ++ more) x (any_first (is_written_as x.name) symbols more (rw some at known))
]

pub all_known : (known : List ℕ) (place : ℕ) (words : List ℕ) (symbols more : List SymbolLine) → AreThere known symbols → AllByRecursion (IsKnown ((symbols ++ references known words) ++ more)) (relocations_from place words)
unfolding references relocations_from
all_known known place (kind ∷ (word ∷ rest)) symbols more are =
    let mine : List SymbolLine = reference known (kind_of kind) word in
    let later : List ℕ = known_after known (kind_of kind) word in
    let others : List SymbolLine = references later rest in
    let next : AreThere later (symbols ++ mine) = there_after known symbols (kind_of kind) word are in
    let same : ((symbols ++ mine) ++ others) ++ more ≡ (symbols ++ (mine ++ others)) ++ more = ap (λ (ss : List SymbolLine). ss ++ more) (append_assoc symbols mine others) in
    let one : IsKnown ((symbols ++ mine) ++ (others ++ more)) (relocation_of place (kind_of kind) word) =
    known_more (symbols ++ mine) (others ++ more) (relocation_of place (kind_of kind) word) (one_known known place (symbols ++ mine) (kind_of kind) word next) in (
      subst (λ (ss : List SymbolLine). IsKnown ss (relocation_of place (kind_of kind) word)) (sym (append_assoc (symbols ++ mine) others more) ∙ same) one,
      subst (λ (ss : List SymbolLine). AllByRecursion (IsKnown ss) (relocations_from (place + 8) rest)) same (all_known later (place + 8) rest (symbols ++ mine) more next),
    )
all_known known place (kind ∷ []) symbols more are = tt
all_known known place [] symbols more are = tt
