-- Files that are drawn one after the other.
use Rattle.std.proofs.Common.{◌≡◌, ℕ, ◌+◌, ◌*◌, ◌%◌, List, [], ◌∷◌, ◌++◌, map, sym, ap, ◌∙◌, append_assoc, arith}
use Rattle.std.specs.Prelude.{string_bytes}
use Rattle.std.specs.List.{range_with_len}
use Rattle.std.proofs.lemmas.List.{map-append}
use Rattle.std.proofs.lemmas.List.FromFn.{map-range_with_len_more}
use Rattle.rand_pcg.specs.Lcg.{Lcg}
use Rattle.pl_gen.specs.declared.set.DemoFile.{DemoFile}
use Rattle.pl_gen.specs.Draws.{seeded, words, after, at}
use Rattle.pl_gen.specs.Lines.{library_name, program_name}
use Rattle.pl_gen.specs.Set.{seen, libraries, programs, library, library_recipe, program, program_recipe, demo_set}
use Rattle.pl_gen.proofs.DrawLaws.{after_after}

-- a file more
pub files_more : (made : ℕ → List ℕ × List ℕ) (old so_far pushed : List DemoFile) (i : ℕ) (f : DemoFile) → pushed ≡ so_far ++ f ∷ [] → (string_bytes f.name, string_bytes f.recipe) ≡ made i
    → seen so_far ≡ seen old ++ map made (range_with_len 0 i) → seen pushed ≡ seen old ++ map made (range_with_len 0 (i + 1))
files_more made old so_far pushed i f push is before =
    let item : List ℕ × List ℕ = (string_bytes f.name, string_bytes f.recipe) in
    ap seen push
    ∙ (map-append (λ (file : DemoFile). (string_bytes file.name, string_bytes file.recipe)) so_far (f ∷ [])
    ∙ (ap (λ (z : List (List ℕ × List ℕ)). z ++ item ∷ []) before
    ∙ (append_assoc (seen old) (map made (range_with_len 0 i)) (item ∷ [])
    ∙ ap (λ (z : List (List ℕ × List ℕ)). seen old ++ z) (ap (λ (p : List ℕ × List ℕ). map made (range_with_len 0 i) ++ p ∷ []) is ∙ sym (map-range_with_len_more made 0 i i (omega arith))))))

-- so many words more
pub turn_more : (size i : ℕ) (first g h : Lcg) → g ≡ after (size * i) first → h ≡ after size g → h ≡ after (size * (i + 1)) first
turn_more size i first g h is drawn =
    drawn ∙ (ap (after size) is ∙ (after_after (size * i) size first ∙ ap (λ (k : ℕ). after k first) (next size i)))
  where
    next : (size i : ℕ) → size * i + size ≡ size * (i + 1)
    next size i = grind arith

-- ---- a file by its words

made_of : (recipe_of : List ℕ → List ℕ) (name recipe own given words_given drawn : List ℕ) → name ≡ own → recipe ≡ recipe_of given → given ≡ words_given → words_given ≡ drawn → ◌≡◌ {A = List ℕ × List ℕ} (name, recipe) (own, recipe_of drawn)
made_of recipe_of name recipe own given words_given drawn is text lent drawn_are =
    let first : ◌≡◌ {A = List ℕ × List ℕ} (name, recipe) (own, recipe) = ap (pair recipe) is in
    first ∙ ap (second own) (text ∙ ap recipe_of (lent ∙ drawn_are))
  where
    pair : List ℕ → List ℕ → List ℕ × List ℕ
    pair y x = (x, y)

    second : List ℕ → List ℕ → List ℕ × List ℕ
    second x y = (x, y)

pub made_library : (count i : ℕ) (first g : Lcg) (name recipe given words_given : List ℕ) → name ≡ library_name i → recipe ≡ library_recipe count i given → given ≡ words_given → words_given ≡ words 322 g → g ≡ after (322 * i) first → ◌≡◌ {A = List ℕ × List ℕ} (name, recipe) (library count first i)
made_library count i first g name recipe given words_given is text lent drawn at =
    made_of (library_recipe count i) name recipe (library_name i) given words_given (words 322 (after (322 * i) first)) is text lent (drawn ∙ ap (words 322) at)

pub made_program : (libraries i : ℕ) (first g : Lcg) (name recipe given words_given : List ℕ) → name ≡ program_name i → recipe ≡ program_recipe libraries given → given ≡ words_given → words_given ≡ words 131 g → g ≡ after (131 * i) first → ◌≡◌ {A = List ℕ × List ℕ} (name, recipe) (program libraries first i)
made_program libraries i first g name recipe given words_given is text lent drawn at =
    made_of (program_recipe libraries) name recipe (program_name i) given words_given (words 131 (after (131 * i) first)) is text lent (drawn ∙ ap (words 131) at)

-- ---- the whole set

-- so many libraries by a generator, and so many programs by another
both : ℕ → Lcg → Lcg → ℕ → List (List ℕ × List ℕ)
both l g h p = map (library l g) (range_with_len 0 l) ++ map (program l h) (range_with_len 0 p)

pub whole : (number l p : ℕ) (first g h : Lcg) (head : List ℕ) (some all : List (List ℕ × List ℕ)) → first ≡ seeded number → head ≡ words 2 first → g ≡ after 2 first → l ≡ 8 + at head 0 % 57 → p ≡ 1 + at head 1 % 12
    → some ≡ map (library l g) (range_with_len 0 l) → h ≡ after (322 * l) g → all ≡ some ++ map (program l h) (range_with_len 0 p) → all ≡ demo_set number
unfolding demo_set both
whole number l p first g h head some all first_is head_is g_is l_is p_is some_is h_is all_is =
    let drawn : head ≡ words 2 (seeded number) = head_is ∙ ap (words 2) first_is in
    let count : l ≡ libraries number = l_is ∙ ap (λ (hs : List ℕ). 8 + at hs 0 % 57) drawn in
    let more : p ≡ programs number = p_is ∙ ap (λ (hs : List ℕ). 1 + at hs 1 % 12) drawn in
    let start : g ≡ after 2 (seeded number) = g_is ∙ ap (after 2) first_is in
    let next : h ≡ after (322 * libraries number) (after 2 (seeded number)) = h_is ∙ (ap (λ (k : ℕ). after (322 * k) g) count ∙ ap (after (322 * libraries number)) start) in
    all_is
    ∙ (ap (λ (z : List (List ℕ × List ℕ)). z ++ map (program l h) (range_with_len 0 p)) some_is
    ∙ (ap (λ (k : ℕ). both k g h p) count
    ∙ (ap (λ (k : Lcg). both (libraries number) k h p) start
    ∙ (ap (λ (k : Lcg). both (libraries number) (after 2 (seeded number)) k p) next
    ∙ ap (both (libraries number) (after 2 (seeded number)) (after (322 * libraries number) (after 2 (seeded number)))) more))))
