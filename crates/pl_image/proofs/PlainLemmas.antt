-- Words that stand in a file, and words that are masked.
use Rattle.std.proofs.Common.{◌≡◌, ℕ, zero, suc, ◌+◌, ◌-◌, ◌*◌, ◌/◌, ◌<◌, ◌≤◌, true, false, List, [], ◌∷◌, length, get_or, Option, Some, None, refl, sym, ap, ◌∙◌, arith, inl, inr}
use Rattle.std.specs.Prelude.{fold, find, slice_index, ◌==◌, IfSome}
use Rattle.std.specs.List.{list_any}
use Rattle.std.proofs.lemmas.Bool.{cases_lt}
use Rattle.std.proofs.lemmas.Bool.Decides.{nat_tests}
use Rattle.std.proofs.lemmas.List.{get_or-drop}
use Rattle.pl_base.specs.Bytes.{word64}
use Rattle.pl_base.specs.Memory.{Piece, Fill, lies, byte_at, covers, fill_byte}
use Rattle.pl_elf.specs.declared.range.Range.{Range}
use Rattle.pl_elf.specs.Ranges.{has}
use Rattle.pl_image.specs.declared.touched.Touch.{Touch}
use Rattle.pl_image.specs.Lines.{byte_in, word_in, IsClear}
use Rattle.pl_image.specs.Image.{Image, any_masked, AreOwn, own_memory, stored}
use Rattle.pl_image.specs.Index.{laid, laid_by, patch_of, AreTouching}
use Rattle.pl_image.proofs.ByteLemmas.{own_missed, own_found}
use Rattle.pl_image.proofs.LineLemmas.{word_by}
use Rattle.pl_image.proofs.PieceLemmas.{same_piece}

-- ---- a word of a file

-- where no patch touches a word its bytes are what was there
idle : (patches : List Fill) (ts : List Touch) (n a found : ℕ) → AreTouching patches ts n → length ts ≡ 0 → a / 8 ≡ n → fold (laid a) found patches ≡ found
idle patches [] n a found t none is = sym (t.whole a found is)
idle patches (x ∷ ts) n a found t none is = absurd (omega (arith, none))

plain : (i : Image) (ps : List Piece) (p : Piece) (ts : List Touch) (n : ℕ) → AreOwn i ps → AreTouching i.patches ts n → length ts ≡ 0 → ((a : ℕ) → 8 * n ≤ a → a < 8 * n + 8 → any_masked i.objects a ≡ false)
    → find (lies (8 * n)) ps ≡ Some p → p.start ≤ 8 * n → 8 * n + 8 ≤ p.start + stored p → word64 (8 * n - p.start) p.bytes ≡ word_in (own_memory i ps) (8 * n)
plain i ps p ts n own touching none seen found low high = sym (word_by (own_memory i ps) (8 * n) (8 * n - p.start) p.bytes (λ k lt.
    let there : lies (8 * n + k) p ≡ true = grind (arith, nat_tests) in
    let one : find (lies (8 * n + k)) ps ≡ Some p = same_piece 0 ps p (8 * n) (8 * n + k) own.ascend found there in
    let shown : any_masked i.objects (8 * n + k) ≡ false = seen (8 * n + k) (omega arith) (omega (arith, lt)) in
    let word : (8 * n + k) / 8 ≡ n = omega (arith, lt) in
    let same : fold (laid (8 * n + k)) (byte_at (8 * n + k) p) i.patches ≡ byte_at (8 * n + k) p = idle i.patches ts n (8 * n + k) (byte_at (8 * n + k) p) touching none word in
    let index : 8 * n + k - p.start ≡ 8 * n - p.start + k = omega (arith, low) in
    own_found i ps own (8 * n + k) p one ∙ rw shown (same ∙ ap (slice_index p.bytes) index ∙ sym (get_or-drop (8 * n - p.start) p.bytes k 0))))

-- the last of the patches that touch a word decides a byte that it has
fold_last : (patches : List Fill) (ts : List Touch) (a found j : ℕ) (d : Touch) → length ts ≡ suc j → (get_or ts j d).number ≡ a / 8
    → covers a (patch_of patches (get_or ts j d).patch) ≡ true → fold (laid_by patches a) found ts ≡ fill_byte a (patch_of patches (get_or ts j d).patch)
fold_last patches [] a found j d size word hit = absurd (omega (arith, size))
fold_last patches (x ∷ []) a found zero d size word hit =
    let here : (x.number == a / 8) ≡ true = grind (arith, nat_tests) in
    rw (here, hit) refl
fold_last patches (x ∷ []) a found (suc j) d size word hit = absurd (omega (arith, size))
fold_last patches (x ∷ y ∷ ts) a found zero d size word hit = absurd (omega (arith, size))
fold_last patches (x ∷ y ∷ ts) a found (suc j) d size word hit = fold_last patches (y ∷ ts) a (laid_by patches a found x) j d (omega (arith, size)) word hit

patched : (i : Image) (ps : List Piece) (p : Piece) (ts : List Touch) (n : ℕ) (d : Touch) (f : Fill) → AreOwn i ps → AreTouching i.patches ts n → 0 < length ts → (get_or ts (length ts - 1) d).number ≡ n
    → f ≡ patch_of i.patches (get_or ts (length ts - 1) d).patch → ((a : ℕ) → 8 * n ≤ a → a < 8 * n + 8 → any_masked i.objects a ≡ false) → find (lies (8 * n)) ps ≡ Some p → p.start ≤ 8 * n → 8 * n + 8 ≤ p.start + p.size
    → f.start ≤ 8 * n → 8 * n + 8 ≤ f.start + length f.bytes → word64 (8 * n - f.start) f.bytes ≡ word_in (own_memory i ps) (8 * n)
patched i ps p ts n d f own touching some number is seen found low high from to = sym (word_by (own_memory i ps) (8 * n) (8 * n - f.start) f.bytes (λ k lt.
    let there : lies (8 * n + k) p ≡ true = grind (arith, nat_tests) in
    let one : find (lies (8 * n + k)) ps ≡ Some p = same_piece 0 ps p (8 * n) (8 * n + k) own.ascend found there in
    let shown : any_masked i.objects (8 * n + k) ≡ false = seen (8 * n + k) (omega arith) (omega (arith, lt)) in
    let word : (8 * n + k) / 8 ≡ n = omega (arith, lt) in
    let covered : covers (8 * n + k) f ≡ true = grind (arith, nat_tests) in
    let byte : fold (laid (8 * n + k)) (byte_at (8 * n + k) p) i.patches ≡ fill_byte (8 * n + k) f =
    sym (touching.whole (8 * n + k) (byte_at (8 * n + k) p) word)
    ∙ fold_last i.patches ts (8 * n + k) (byte_at (8 * n + k) p) (length ts - 1) d (omega (arith, some)) (number ∙ sym word) (ap (covers (8 * n + k)) (sym is) ∙ covered)
    ∙ ap (fill_byte (8 * n + k)) (sym is) in
    let index : 8 * n + k - f.start ≡ 8 * n - f.start + k = omega (arith, from) in
    own_found i ps own (8 * n + k) p one ∙ rw shown (byte ∙ ap (slice_index f.bytes) index ∙ sym (get_or-drop (8 * n - f.start) f.bytes k 0))))

-- a word that the last patch may have
pub patched_of : (i : Image) (ps : List Piece) (p : Piece) (ts : List Touch) (n : ℕ) (d : Touch) (f : Fill) (word : Option ℕ) → AreOwn i ps → AreTouching i.patches ts n → 0 < length ts → (get_or ts (length ts - 1) d).number ≡ n
    → f ≡ patch_of i.patches (get_or ts (length ts - 1) d).patch → ((a : ℕ) → 8 * n ≤ a → a < 8 * n + 8 → any_masked i.objects a ≡ false) → find (lies (8 * n)) ps ≡ Some p → p.start ≤ 8 * n → 8 * n + 8 ≤ p.start + p.size
    → IfSome word (λ _. (f.start ≤ 8 * n) × (8 * n + 8 ≤ f.start + length f.bytes)) → IfSome word (λ w. w ≡ word64 (8 * n - f.start) f.bytes) → IfSome word (λ w. w ≡ word_in (own_memory i ps) (8 * n))
patched_of i ps p ts n d f None own touching some number is seen found low high whole value = tt
patched_of i ps p ts n d f (Some w) own touching some number is seen found low high whole value = value ∙ patched i ps p ts n d f own touching some number is seen found low high whole.0 whole.1

-- a word that a piece may have
pub plain_of : (i : Image) (ps : List Piece) (p : Piece) (ts : List Touch) (n : ℕ) (word : Option ℕ) → AreOwn i ps → AreTouching i.patches ts n → length ts ≡ 0 → ((a : ℕ) → 8 * n ≤ a → a < 8 * n + 8 → any_masked i.objects a ≡ false)
    → find (lies (8 * n)) ps ≡ Some p → IfSome word (λ _. (p.start ≤ 8 * n) × (8 * n + 8 ≤ p.start + stored p)) → IfSome word (λ w. w ≡ word64 (8 * n - p.start) p.bytes) → IfSome word (λ w. w ≡ word_in (own_memory i ps) (8 * n))
plain_of i ps p ts n None own touching none seen found whole value = tt
plain_of i ps p ts n (Some w) own touching none seen found whole value = value ∙ plain i ps p ts n own touching none seen found whole.0 whole.1

-- ---- masked words

pub none_has : (a : ℕ) (rs : List Range) → length rs ≡ 0 → list_any (has a) rs ≡ false
none_has a [] none = refl
none_has a (r ∷ rs) none = absurd (omega (arith, none))

masked_by : (i : Image) (ps : List Piece) (a : ℕ) → AreOwn i ps → any_masked i.objects a ≡ true → (o : Option Piece) → find (lies a) ps ≡ o → byte_in (own_memory i ps) a ≡ 0
masked_by i ps a own hidden None is = own_missed i ps own a is
masked_by i ps a own hidden (Some p) is = own_found i ps own a p is ∙ rw hidden refl

-- words that are 0, then masked ones, then others that are 0
pub clear_past : (i : Image) (ps : List Piece) (from number shown next end : ℕ) → AreOwn i ps → IsClear (own_memory i ps) (8 * from) (8 * number)
    → ((a : ℕ) → 8 * number ≤ a → a < end → any_masked i.objects a ≡ true) → 8 * shown ≤ end → IsClear (own_memory i ps) (8 * shown) (8 * next) → IsClear (own_memory i ps) (8 * from) (8 * next)
clear_past i ps from number shown next end own first hidden le last = λ a low high. elim (cases_lt a (8 * number)) [
  | inl before ↦ first a low before
  | inr past ↦ elim (cases_lt a (8 * shown)) [
    | inl inside ↦ masked_by i ps a own (hidden a past (omega (arith, inside, le))) (find (lies a) ps) refl
    | inr after ↦ last a after high
  ]
]
