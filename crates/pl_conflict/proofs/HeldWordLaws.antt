-- Words that files hold, and the rows that are made by them.
use Rattle.std.proofs.Common.{◌≡◌, ℕ, ◌+◌, ◌<◌, ◌^◌, Bool, cond, false, List, [], ◌∷◌, ◌++◌, length, take, get_or, Some, None, sym, ap, subst, ◌∙◌, arith}
use Rattle.std.specs.Prelude.{◌||◌, ◌==◌, slice_get}
use Rattle.std.specs.List.{AllZip}
use Rattle.std.specs.Str.{bytes_eq}
use Rattle.std.proofs.lemmas.Bool.Decides.{same_from_decides, Decides-eqb, nat_tests}
use Rattle.std.proofs.lemmas.List.{take_all, take_more}
use Rattle.std.proofs.lemmas.Slice.Eq.{bytes_eq-Decides}
use Rattle.pl_base.specs.Bytes.{IsBytes, bytes64, word64, part}
use Rattle.pl_base.specs.Memory.{layered}
use Rattle.pl_base.proofs.MemoryLaws.{read_length}
use Rattle.pl_base.proofs.WordLaws.{bytes64_word, word64_back}
use Rattle.pl_image.specs.declared.loaded_object.LoadedObject.{LoadedObject}
use Rattle.pl_value.specs.declared.word.Word.TheVariants.{Put}
use Rattle.pl_conflict.specs.Conflicts.{pieces_in, held, row_of}

-- ---- words that files hold

pub length_held : (files : List LoadedObject) (m start : ℕ) → length (held files m start) ≡ 8
unfolding held
length_held files m start = read_length (layered (pieces_in (slice_get files m))) start 8

-- eight bytes are those of the word that they are read as
pub word_told : (bytes : List ℕ) (w : ℕ) → IsBytes bytes → length bytes ≡ 8 → w ≡ word64 0 bytes → bytes ≡ bytes64 w
word_told bytes w are eight is =
    let whole : part 0 8 bytes ≡ bytes = take_all 8 bytes (omega (arith, eight)) in
    sym (ap bytes64 is ∙ bytes64_word 0 bytes (omega (arith, eight)) are ∙ whole)

same_words : (h w : ℕ) → h < 2 ^ 64 → w < 2 ^ 64 → bytes64 h ≡ bytes64 w → h ≡ w
same_words h w small low is = sym (word64_back h [] small) ∙ ap (λ (bs : List ℕ). word64 0 (bs ++ [])) is ∙ word64_back w [] low

-- two words are the same where their bytes are
pub bytes_test : (h w : ℕ) → h < 2 ^ 64 → w < 2 ^ 64 → bytes_eq (bytes64 h) (bytes64 w) ≡ (h == w)
bytes_test h w small low =
    let both = bytes_eq-Decides (bytes64 h) (bytes64 w) in
    same_from_decides {P = h ≡ w} (bytes_eq (bytes64 h) (bytes64 w)) (h == w) (λ hit. same_words h w small low (both.0 hit), λ is. both.1 (ap bytes64 is)) (Decides-eqb h w)

-- the row of a word where a library's file holds another one, or the same
pub row_by : (files : List LoadedObject) (m start h w : ℕ) (same : Bool) → (m ≡ 0 → ⊥) → held files m start ≡ bytes64 h → same ≡ bytes_eq (bytes64 h) (bytes64 w) → row_of files m start (Put w) ≡ cond same None (Some (record { address = start; word = w }))
row_by files m start h w same above is tells =
    ap (λ (t : Bool). cond (m == 0 || t) None (Some (record { address = start; word = w }))) (ap (λ (bs : List ℕ). bytes_eq bs (bytes64 w)) is ∙ sym tells)
    ∙ ap (λ (t : Bool). cond (t || same) None (Some (record { address = start; word = w }))) (no_test m above)
  where
    no_test : (a : ℕ) → (a ≡ 0 → ⊥) → (a == 0) ≡ false
    no_test a above = grind (arith, nat_tests)

-- ---- rows on two sides

zip_push : {A B : Type 0} (R : A → B → Type 0) (xs : List A) (ys : List B) (x : A) (y : B) → AllZip R xs ys → R x y → AllZip R (xs ++ x ∷ []) (ys ++ y ∷ [])
zip_push R [] [] x y all one = (one, tt)
zip_push R [] (b ∷ ys) x y all one = absurd all
zip_push R (a ∷ xs) [] x y all one = absurd all
zip_push R (a ∷ xs) (b ∷ ys) x y all one = (all.0, zip_push R xs ys x y all.1 one)

pub zip_more : {A B : Type 0} (R : A → B → Type 0) (xs : List A) (i : ℕ) (d : A) (ys after : List B) (y : B) → i < length xs → AllZip R (take i xs) ys → R (get_or xs i d) y → after ≡ ys ++ y ∷ [] → AllZip R (take (i + 1) xs) after
zip_more {A = A} {B = B} R xs i d ys after y lt all one more =
    let longer : take i xs ++ get_or xs i d ∷ [] ≡ take (i + 1) xs = sym (take_more xs i d lt) in
    subst (λ (zs : List B). AllZip R (take (i + 1) xs) zs) (sym more) (subst (λ (zs : List A). AllZip R zs (ys ++ y ∷ [])) longer (zip_push R (take i xs) ys (get_or xs i d) y all one))
