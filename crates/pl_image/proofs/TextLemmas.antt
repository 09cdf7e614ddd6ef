-- The lines of an image's objects on their way through a buffer.
use Rattle.std.proofs.Common.{◌≡◌, ℕ, ◌+◌, ◌-◌, ◌*◌, ◌<◌, ◌≤◌, ◌^◌, List, [], ◌∷◌, ◌++◌, length, get_or, take, drop, Option, sym, ap, subst, ◌∙◌, append_assoc, arith}
use Rattle.std.specs.Prelude.{map}
use Rattle.std.specs.List.{flat_map}
use Rattle.std.proofs.lemmas.List.{append-nil, take_more, take_all, drop_more, take-append-drop}
use Rattle.std.proofs.lemmas.List.Folds.{flat_map-map}
use Rattle.std.proofs.lemmas.Grind.{flat_map-append}
use Rattle.pl_base.specs.Memory.{Memory, Piece}
use Rattle.pl_base.specs.Streams.{got_after, GotPrefix}
use Rattle.pl_base.proofs.StreamLaws.{GotPrefix-more, got_after-got_after}
use Rattle.pl_image.specs.declared.loaded_object.LoadedObject.{LoadedObject}
use Rattle.pl_image.specs.Lines.{word_in, unless_zero, word_line, lines_from, word_lines, only, text, IsClear, Passes}
use Rattle.pl_image.specs.Image.{Image, extent_of, own_memory, byte_of, text_of}
use Rattle.pl_image.proofs.LineLemmas.{lines_none, lines_next, lines_skip, lines_part}
use Rattle.pl_image.proofs.PassLemmas.{passes_none, passes_more, stopped_behind}

-- ---- one object

-- no word before the first
pub words_begin : (m : Memory) (old : Option (List ℕ)) (buffer : List ℕ) (number : ℕ) → IsClear m (8 * 0) (8 * number) → Passes old old buffer buffer (lines_from m 0 number)
words_begin m old buffer number clear =
    let none : lines_from m 0 number ≡ [] = lines_skip m 0 number (omega arith) clear ∙ lines_none m 0 in
    subst (Passes old old buffer buffer) (sym none) (passes_none old buffer)

-- a word more, and none up to the next
pub words_more : (m : Memory) (old mid new : Option (List ℕ)) (before between after : List ℕ) (number next word : ℕ) → word ≡ word_in m (8 * number) → number + 1 ≤ next → IsClear m (8 * (number + 1)) (8 * next)
    → Passes old mid before between (lines_from m 0 number) → Passes mid new between after (unless_zero (8 * number) word) → Passes old new before after (lines_from m 0 next)
unfolding word_line
words_more m old mid new before between after number next word is le clear p q =
    let line : unless_zero (8 * number) word ≡ word_line m number = ap (unless_zero (8 * number)) is in
    let one : lines_from m 0 next ≡ lines_from m 0 number ++ unless_zero (8 * number) word =
    lines_skip m (number + 1) next le clear ∙ lines_next m number ∙ ap (λ (xs : List ℕ). lines_from m 0 number ++ xs) (sym line) in
    subst (Passes old new before after) (sym one) (passes_more old mid new before between after (lines_from m 0 number) (unless_zero (8 * number) word) p q)

-- a fault after some words
pub words_stopped : (m : Memory) (old mid new : Option (List ℕ)) (before between : List ℕ) (number : ℕ) → number ≤ 2 ^ 44
    → Passes old mid before between (lines_from m 0 number) → GotPrefix mid new between → GotPrefix old new (before ++ word_lines m)
unfolding word_lines
words_stopped m old mid new before between number le p q =
    subst (λ (xs : List ℕ). GotPrefix old new (before ++ xs)) (sym (lines_part m number (2 ^ 44) le))
    (stopped_behind old mid new before between (lines_from m 0 number) (lines_from m number (2 ^ 44 - number)) p (GotPrefix-more mid new between (lines_from m number (2 ^ 44 - number)) q))

-- no word after the last
pub words_done : (m : Memory) (old new : Option (List ℕ)) (before after : List ℕ) (number : ℕ) → number ≤ 2 ^ 44 → IsClear m (8 * number) (8 * 2 ^ 44) → Passes old new before after (lines_from m 0 number) → Passes old new before after (word_lines m)
unfolding word_lines
words_done m old new before after number le clear p = subst (Passes old new before after) (sym (lines_skip m number (2 ^ 44) le clear)) p

-- ---- all objects

-- the lines of one of an image's objects
abbrev pub object_lines : Image → LoadedObject → List ℕ
object_lines i o = word_lines (own_memory i o.pieces)

pub text_is : (i : Image) → text_of i ≡ flat_map (object_lines i) i.objects
unfolding text_of text
text_is i = flat_map-map (λ extents. word_lines (only extents (byte_of i))) (λ (o : LoadedObject). map extent_of o.pieces) i.objects

-- one object more
flat_more : (f : LoadedObject → List ℕ) (xs : List LoadedObject) (k : ℕ) (d : LoadedObject) → k < length xs → flat_map f (take (k + 1) xs) ≡ flat_map f (take k xs) ++ f (get_or xs k d)
flat_more f xs k d lt = ap (flat_map f) (take_more xs k d lt) ∙ flat_map-append f (take k xs) (get_or xs k d ∷ []) ∙ ap (λ (zs : List ℕ). flat_map f (take k xs) ++ zs) (append-nil (f (get_or xs k d)))

-- and those after it
flat_rest : (f : LoadedObject → List ℕ) (xs : List LoadedObject) (k : ℕ) (d : LoadedObject) → k < length xs → flat_map f xs ≡ flat_map f (take k xs) ++ (f (get_or xs k d) ++ flat_map f (drop (k + 1) xs))
flat_rest f xs k d lt =
    ap (flat_map f) (sym (take-append-drop k xs)) ∙ flat_map-append f (take k xs) (drop k xs) ∙ ap (λ (ys : List LoadedObject). flat_map f (take k xs) ++ flat_map f ys) (drop_more xs k d lt)

module _ (i : Image) (old mid new : Option (List ℕ)) (before between after : List ℕ) (k : ℕ) where
  pub objects_begin : Passes old old before before (flat_map (object_lines i) (take 0 i.objects))
  objects_begin = passes_none old before

  pub objects_more : (d : LoadedObject) (ps : List Piece) → k < length i.objects → ps ≡ (get_or i.objects k d).pieces → Passes old mid before between (flat_map (object_lines i) (take k i.objects))
      → Passes mid new between after (word_lines (own_memory i ps)) → Passes old new before after (flat_map (object_lines i) (take (k + 1) i.objects))
  objects_more d ps lt is p q =
      let one : Passes mid new between after (object_lines i (get_or i.objects k d)) = subst (λ (xs : List Piece). Passes mid new between after (word_lines (own_memory i xs))) is q in
      subst (Passes old new before after) (sym (flat_more (object_lines i) i.objects k d lt))
      (passes_more old mid new before between after (flat_map (object_lines i) (take k i.objects)) (object_lines i (get_or i.objects k d)) p one)

  pub objects_stopped : (d : LoadedObject) (ps : List Piece) → k < length i.objects → ps ≡ (get_or i.objects k d).pieces → Passes old mid before between (flat_map (object_lines i) (take k i.objects))
      → GotPrefix mid new (between ++ word_lines (own_memory i ps)) → GotPrefix old new (before ++ text_of i)
  objects_stopped d ps lt is p q =
      let front = flat_map (object_lines i) (take k i.objects) in
      let one = object_lines i (get_or i.objects k d) in
      let rest = flat_map (object_lines i) (drop (k + 1) i.objects) in
      let part : GotPrefix mid new (between ++ one) = subst (λ (xs : List Piece). GotPrefix mid new (between ++ word_lines (own_memory i xs))) is q in
      let more : GotPrefix mid new (between ++ (one ++ rest)) = subst (GotPrefix mid new) (append_assoc between one rest) (GotPrefix-more mid new (between ++ one) rest part) in
      subst (λ (xs : List ℕ). GotPrefix old new (before ++ xs)) (sym (text_is i ∙ flat_rest (object_lines i) i.objects k d lt)) (stopped_behind old mid new before between front (one ++ rest) p more)

  pub objects_done : length i.objects ≤ k → Passes old new before after (flat_map (object_lines i) (take k i.objects)) → Passes old new before after (text_of i)
  objects_done all p = subst (Passes old new before after) (ap (flat_map (object_lines i)) (take_all k i.objects all) ∙ sym (text_is i)) p

-- ---- the buffer at the end

-- a fault as it is emptied
pub text_stopped : (old mid new : Option (List ℕ)) (before between xs : List ℕ) → before ≡ [] → Passes old mid before between xs → GotPrefix mid new between → GotPrefix old new xs
text_stopped old mid new before between xs empty p q =
    let more : GotPrefix mid new (between ++ []) = GotPrefix-more mid new between [] q in
    let all : before ++ (xs ++ []) ≡ xs = ap (λ (ys : List ℕ). ys ++ (xs ++ [])) empty ∙ append-nil xs in
    subst (GotPrefix old new) all (stopped_behind old mid new before between xs [] p more)

-- it is emptied
pub text_done : (old mid new : Option (List ℕ)) (before between xs : List ℕ) → before ≡ [] → Passes old mid before between xs → new ≡ got_after mid between → new ≡ got_after old xs
text_done old mid new before between xs empty p q =
    q
    ∙ ap (λ (m : Option (List ℕ)). got_after m between) p.1
    ∙ got_after-got_after old p.0 between
    ∙ ap (got_after old) (p.2 ∙ ap (λ (ys : List ℕ). ys ++ xs) empty)
