-- The bytes at a place of a program are those that its scope makes there.
use Rattle.std.proofs.Common.{◌≡◌, ℕ, ◌+◌, ◌-◌, ◌^◌, ◌<◌, ◌≤◌, Bool, true, List, [], ◌∷◌, ◌++◌, length, get_or, take, drop, Option, Some, sym, ap, ◌∙◌, arith, inl, inr}
use Rattle.std.specs.Prelude.{filter, slice_get}
use Rattle.std.specs.List.{list_any}
use Rattle.std.specs.Option.{unwrap_or}
use Rattle.std.proofs.lemmas.Bool.{cases_lt}
use Rattle.std.proofs.lemmas.Grind.{same_number_lists}
use Rattle.std.proofs.lemmas.List.{get_or-append_right, get_or-drop, get_or-take, get_or_append_left, length-append, length-drop, length-take}
use Rattle.pl_base.specs.Memory.{AtMostOne, Memory, filled, layered, lies, read}
use Rattle.pl_base.proofs.MemoryLaws.{filled_same, read_byte, read_length, within_is}
use Rattle.pl_conflict.specs.Fast.{is_library}
use Rattle.pl_image.specs.Image.{all_pieces}
use Rattle.pl_image.specs.Loads.{IsPlaced, pieces_at}
use Rattle.pl_object.specs.declared.object.Object.{Object}
use Rattle.pl_value.specs.Laws.{AllFit}
use Rattle.pl_value.specs.Linked.{relocated, under, worded, words}
use Rattle.pl_value.specs.Ordinary.{loaded_objects, part_of}
use Rattle.pl_value.specs.Targets.{base_of}
use Rattle.pl_value.specs.declared.meaning.Meaning.{Meaning}
use Rattle.pl_value.specs.declared.word.Word.TheVariants.{Copy, Nothing}
use Rattle.pl_rewrite.proofs.CopyLaws.{copied_there, gives_at, nothing_there, past_there, words_kept}
use Rattle.pl_rewrite.proofs.LayerLaws.{layered_own}
use Rattle.pl_rewrite.proofs.SourceLaws.{IsSource, source_lies}

-- members at their places, what they give, and one of the places, of the first member
pub record IsPlace (os : List Object) (places : List ℕ) (parts : List (List ℕ)) (gs : List Meaning) (i : ℕ) (d : Meaning) (o : Object) : Type 0 where
  pub fit : AllFit is_library gs
  pub lone : AtMostOne under gs
  pub apart : AtMostOne lies (all_pieces (loaded_objects places parts os))
  pub within : i < length gs
  pub first : slice_get os 0 ≡ Some o
  pub held : (a : ℕ) → under a (get_or gs i d) ≡ true → list_any (lies a) (pieces_at (base_of places 0) (part_of parts 0) o) ≡ true

abbrev base : List ℕ → List (List ℕ) → List Object → Memory
base places parts os = layered (all_pieces (loaded_objects places parts os))

-- the bytes of the program alone
abbrev pub own_bytes : List ℕ → List (List ℕ) → Object → Meaning → List ℕ
own_bytes places parts o g = read (layered (pieces_at (base_of places 0) (part_of parts 0) o)) g.start g.size

own_at : (os : List Object) (places : List ℕ) (parts : List (List ℕ)) (gs : List Meaning) (i : ℕ) (d : Meaning) (o : Object) (k : ℕ) → IsPlace os places parts gs i d o → k < (get_or gs i d).size
    → base places parts os ((get_or gs i d).start + k) ≡ layered (pieces_at (base_of places 0) (part_of parts 0) o) ((get_or gs i d).start + k)
own_at os places parts gs i d o k is lt =
    let g = get_or gs i d in
    layered_own places parts os 0 o (g.start + k) is.apart is.first (is.held (g.start + k) (within_is g.start g.size (g.start + k) (omega arith) (omega (arith, lt))))

-- where nothing is given
pub nothing_read : (os : List Object) (places : List ℕ) (parts : List (List ℕ)) (gs : List Meaning) (i : ℕ) (d : Meaning) (o : Object) → IsPlace os places parts gs i d o → (get_or gs i d).word ≡ Nothing
    → own_bytes places parts o (get_or gs i d) ≡ read (relocated (base places parts os) gs) (get_or gs i d).start (get_or gs i d).size
nothing_read os places parts gs i d o is none =
    let g = get_or gs i d in
    let m = relocated (base places parts os) gs in
    let own = layered (pieces_at (base_of places 0) (part_of parts 0) o) in
    same_number_lists (own_bytes places parts o g) (read m g.start g.size) (read_length own g.start g.size ∙ sym (read_length m g.start g.size))
    (λ k lt.
    let low : k < g.size = omega (arith, lt, read_length own g.start g.size) in
    let hit : under (g.start + k) g ≡ true = within_is g.start g.size (g.start + k) (omega arith) (omega (arith, low)) in
    read_byte own g.start g.size k low
    ∙ ap (λ (x : Option ℕ). unwrap_or x 0) (sym (own_at os places parts gs i d o k is low) ∙ sym (nothing_there (base places parts os) gs i d is.fit is.lone is.within (g.start + k) none hit))
    ∙ sym (read_byte m g.start g.size k low))

-- ---- a copy

-- what is copied, by some of the words alone
pub copied_bytes : (os : List Object) (places : List ℕ) (parts : List (List ℕ)) (gs : List Meaning) (m from n : ℕ) (p : Meaning → Bool) → (s : IsSource os places m from n) → IsPlaced (base_of places m) s.object → AtMostOne lies (all_pieces (loaded_objects places parts os))
    → ((k : ℕ) (g : Meaning) → k < n → from + k < 2 ^ 64 - 1 → gives_at (from + k) g ≡ true → p g ≡ true)
    → read (filled (layered (pieces_at (base_of places m) (part_of parts m) s.object)) (words (filter p gs))) from n ≡ read (worded (base places parts os) gs) from n
copied_bytes os places parts gs m from n p s placed apart seen =
    let own = layered (pieces_at (base_of places m) (part_of parts m) s.object) in
    let one = filled own (words (filter p gs)) in
    let all = worded (base places parts os) gs in
    same_number_lists (read one from n) (read all from n) (read_length one from n ∙ sym (read_length all from n))
    (λ k lt.
    let low : k < n = omega (arith, lt, read_length one from n) in
    let there = source_lies os places m from n k (part_of parts m) s placed low in
    read_byte one from n k low
    ∙ ap (λ (x : Option ℕ). unwrap_or x 0)
    (words_kept p gs own (from + k) (λ g gives. seen k g low there.low gives)
    ∙ filled_same own (base places parts os) (words gs) (from + k) (sym (layered_own places parts os m s.object (from + k) apart s.at there.lies)))
    ∙ sym (read_byte all from n k low))

-- the first bytes are copied, the later ones are the original's
copy_byte : (os : List Object) (places : List ℕ) (parts : List (List ℕ)) (gs : List Meaning) (i : ℕ) (d : Meaning) (o : Object) (m from n k : ℕ) (copied standing : List ℕ) → IsPlace os places parts gs i d o → (get_or gs i d).word ≡ Copy m from n → n ≤ (get_or gs i d).size
    → copied ≡ read (worded (base places parts os) gs) from n → standing ≡ own_bytes places parts o (get_or gs i d) → k < (get_or gs i d).size
    → get_or (take (length standing) copied ++ drop (length copied) standing) k 0 ≡ unwrap_or (relocated (base places parts os) gs ((get_or gs i d).start + k)) 0
copy_byte os places parts gs i d o m from n k copied standing is word fits copies stands lt =
    let g = get_or gs i d in
    let b = base places parts os in
    let own = layered (pieces_at (base_of places 0) (part_of parts 0) o) in
    let a : ℕ = g.start + k in
    let count : length copied ≡ n = ap length copies ∙ read_length (worded b gs) from n in
    let whole : length standing ≡ g.size = ap length stands ∙ read_length own g.start g.size in
    let front : List ℕ = take (length standing) copied in
    let back : List ℕ = drop (length copied) standing in
    let front_size : length front ≡ n = omega (arith, length-take (length standing) copied, count, whole, fits) in
    let hit : under a g ≡ true = within_is g.start g.size a (omega arith) (omega (arith, lt)) in
    let at : a - g.start ≡ k = omega arith in
    elim (cases_lt k n) [
      | inl inside ↦
          get_or_append_left front back 0 k (omega (arith, inside, front_size)) ∙ get_or-take (length standing) copied k 0 (omega (arith, inside, fits, whole)) ∙ ap (λ (xs : List ℕ). get_or xs k 0) copies
          ∙ ap (λ (j : ℕ). get_or (read (worded b gs) from n) j 0) (sym at)
          ∙ ap (λ (x : Option ℕ). unwrap_or x 0) (sym (copied_there b gs i d is.fit is.lone is.within a m from n word hit (omega (arith, inside))))
      | inr past ↦
          let index : length copied + (k - n) ≡ k = omega (arith, count, past) in
          get_or-append_right front back n k 0 front_size past ∙ get_or-drop (length copied) standing (k - n) 0 ∙ ap (λ (j : ℕ). get_or standing j 0) index
          ∙ ap (λ (xs : List ℕ). get_or xs k 0) stands ∙ read_byte own g.start g.size k lt
          ∙ ap (λ (x : Option ℕ). unwrap_or x 0) (sym (own_at os places parts gs i d o k is lt) ∙ sym (past_there b gs i d is.fit is.lone is.within a m from n word hit (omega (arith, past))))
    ]

pub copy_read : (os : List Object) (places : List ℕ) (parts : List (List ℕ)) (gs : List Meaning) (i : ℕ) (d : Meaning) (o : Object) (m from n : ℕ) (copied standing : List ℕ) → IsPlace os places parts gs i d o → (get_or gs i d).word ≡ Copy m from n → n ≤ (get_or gs i d).size
    → copied ≡ read (worded (base places parts os) gs) from n → standing ≡ own_bytes places parts o (get_or gs i d)
    → take (length standing) copied ++ drop (length copied) standing ≡ read (relocated (base places parts os) gs) (get_or gs i d).start (get_or gs i d).size
copy_read os places parts gs i d o m from n copied standing is word fits copies stands =
    let g = get_or gs i d in
    let b = base places parts os in
    let memory = relocated b gs in
    let own = layered (pieces_at (base_of places 0) (part_of parts 0) o) in
    let count : length copied ≡ n = ap length copies ∙ read_length (worded b gs) from n in
    let whole : length standing ≡ g.size = ap length stands ∙ read_length own g.start g.size in
    let front : List ℕ = take (length standing) copied in
    let back : List ℕ = drop (length copied) standing in
    let size : length (front ++ back) ≡ g.size = omega (arith, length-append front back, length-take (length standing) copied, length-drop (length copied) standing, count, whole, fits) in
    same_number_lists (front ++ back) (read memory g.start g.size) (size ∙ sym (read_length memory g.start g.size))
    (λ k lt.
    let low : k < g.size = omega (arith, lt, size) in
    copy_byte os places parts gs i d o m from n k copied standing is word fits copies stands low ∙ sym (read_byte memory g.start g.size k low))
