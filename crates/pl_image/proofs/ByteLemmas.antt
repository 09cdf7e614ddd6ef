-- Bytes of an image.
use Rattle.std.proofs.Common.{◌≡◌, ℕ, zero, suc, ◌+◌, ◌*◌, ◌/◌, ◌<◌, ◌≤◌, true, false, cond, List, [], ◌∷◌, ◌++◌, length, get_or, drop, Option, Some, None, refl, sym, ap, subst, ◌∙◌, arith, inl, inr}
use Rattle.std.specs.Prelude.{◌==◌, fold, find, map}
use Rattle.std.specs.List.{list_any}
use Rattle.std.proofs.lemmas.Bool.{cases_Bool, false≢true}
use Rattle.std.proofs.lemmas.List.{get_or_append_left, get_or-append-add, length-append, get_or_default, drop_more, drop_all}
use Rattle.std.proofs.lemmas.List.Folds.{Any-from_list_any, list_any_none}
use Rattle.pl_base.proofs.FindLaws.{any_found, any_missed, any_map}
use Rattle.pl_base.specs.Memory.{Memory, Piece, Fill, AtMostOne, lies, byte_at, covers, over, layered, filled}
use Rattle.pl_image.specs.declared.loaded_object.LoadedObject.{LoadedObject}
use Rattle.pl_image.specs.declared.touched.Touch.{Touch}
use Rattle.pl_image.specs.Lines.{byte_in, only, IsClear}
use Rattle.pl_elf.specs.Ranges.{has}
use Rattle.pl_image.specs.Image.{Image, all_pieces, any_masked, byte_of, extent_of, AreLoaded, AreOwn, own_memory, stores}
use Rattle.pl_image.specs.Index.{laid, IsIndex}
use Rattle.pl_image.proofs.FindLemmas.{any_in_flat}
use Rattle.pl_image.proofs.PieceLemmas.{unstored}
use Rattle.pl_image.proofs.TouchLemmas.{untouched}

-- ---- memory in pieces

-- the byte of a piece that was found
abbrev pub found_byte : ℕ → Option Piece → Option ℕ
found_byte a None = None
found_byte a (Some p) = Some (byte_at a p)

pub layered_found : (ps : List Piece) (a : ℕ) → layered ps a ≡ found_byte a (find (lies a) ps)
unfolding layered
layered_found [] a = refl
layered_found (p ∷ ps) a = elim (cases_Bool (lies a p)) [
  | inl hit ↦ rw hit refl
  | inr miss ↦ rw miss (layered_found ps a)
]

pub layered_append : (ps qs : List Piece) (a : ℕ) → layered (ps ++ qs) a ≡ cond (list_any (lies a) ps) (layered ps a) (layered qs a)
unfolding layered
layered_append [] qs a = refl
layered_append (p ∷ ps) qs a = elim (cases_Bool (lies a p)) [
  | inl hit ↦ rw hit refl
  | inr miss ↦ rw miss (layered_append ps qs a)
]

-- ---- objects one after the other

module _ (objects : List LoadedObject) (k : ℕ) (item : LoadedObject) (ps : List Piece) (a : ℕ) (lt : k < length objects) (is : item ≡ get_or objects k item) (pieces : ps ≡ item.pieces) where
  object_step : layered (all_pieces (drop k objects)) a ≡ cond (list_any (lies a) ps) (layered ps a) (layered (all_pieces (drop (k + 1) objects)) a)
  object_step =
      let there : (get_or objects k item).pieces ≡ ps = ap (λ (o : LoadedObject). o.pieces) (sym is) ∙ sym pieces in
      ap (λ (os : List LoadedObject). layered (all_pieces os) a) (drop_more objects k item lt)
      ∙ ap (λ (qs : List Piece). layered (qs ++ all_pieces (drop (k + 1) objects)) a) there
      ∙ layered_append ps (all_pieces (drop (k + 1) objects)) a

  pub object_hit : (p : Piece) → find (lies a) ps ≡ Some p → layered (all_pieces (drop k objects)) a ≡ Some (byte_at a p)
  object_hit p found = object_step ∙ rw (any_found (lies a) ps p found) (layered_found ps a ∙ ap (found_byte a) found)

  pub object_miss : find (lies a) ps ≡ None → layered (all_pieces (drop k objects)) a ≡ layered (all_pieces (drop (k + 1) objects)) a
  object_miss missed = object_step ∙ rw (any_missed (lies a) ps missed) refl

pub objects_past : (objects : List LoadedObject) (k a : ℕ) → length objects ≤ k → layered (all_pieces (drop k objects)) a ≡ None
unfolding layered
objects_past objects k a le = ap (λ (os : List LoadedObject). layered (all_pieces os) a) (drop_all k objects le)

-- ---- patches

-- a byte under patches, as a loop over them reads it
filled_byte : (m : Memory) (fs : List Fill) (a b : ℕ) → m a ≡ Some b → filled m fs a ≡ Some (fold (laid a) b fs)
unfolding filled
filled_byte m [] a b is = is
filled_byte m (f ∷ fs) a b is = filled_byte (over f.start f.bytes m) fs a (laid a b f) (elim (cases_Bool (covers a f)) [
  | inl hit ↦ rw hit refl
  | inr miss ↦ rw miss is
])

-- ---- an image

pub image_byte : (i : Image) (a b : ℕ) → layered (all_pieces i.objects) a ≡ Some b → byte_of i a ≡ Some (cond (any_masked i.objects a) 0 (fold (laid a) b i.patches))
unfolding byte_of
image_byte i a b is = rw is (elim (cases_Bool (any_masked i.objects a)) [
  | inl hidden ↦ rw hidden refl
  | inr seen ↦ rw seen (filled_byte (layered (all_pieces i.objects)) i.patches a b is)
])

pub image_none : (i : Image) (a : ℕ) → layered (all_pieces i.objects) a ≡ None → byte_of i a ≡ None
unfolding byte_of
image_none i a is = rw is refl

-- ---- one object of it

lone_rest : (xs ys : List Piece) → AtMostOne lies (xs ++ ys) → AtMostOne lies ys
lone_rest xs ys lone = λ i j a d less within hit.
    let there : length xs + j < length (xs ++ ys) = omega (arith, within, length-append xs ys) in
    let at_i = get_or-append-add xs ys i d in
    let at_j = get_or-append-add xs ys j d in
    rw (← at_j) (lone (length xs + i) (length xs + j) a d (omega arith) there (rw at_i hit))

lone_front : (xs ys : List Piece) (a : ℕ) → AtMostOne lies (xs ++ ys) → list_any (lies a) xs ≡ true → list_any (lies a) ys ≡ false
lone_front xs ys a lone some =
    let one = Any-from_list_any (lies a) xs some in
    list_any_none (lies a) ys (λ k d within.
    let there : length xs + k < length (xs ++ ys) = omega (arith, within, length-append xs ys) in
    let before = get_or_append_left xs ys d one.0 one.2 in
    let first = get_or_default xs one.0 d one.1 one.2 in
    let hit : lies a (get_or (xs ++ ys) one.0 d) ≡ true = rw (before, first, one.3) one.4 in
    let at_k = get_or-append-add xs ys k d in
    rw (← at_k) (lone one.0 (length xs + k) a d (let lt = one.2 in omega arith) there hit))

own_same : (objects : List LoadedObject) (k a : ℕ) (d : LoadedObject) → AtMostOne lies (all_pieces objects) → k < length objects → list_any (lies a) (get_or objects k d).pieces ≡ true
    → layered (all_pieces objects) a ≡ layered (get_or objects k d).pieces a
own_same [] k a d lone lt some = absurd (omega arith)
own_same (o ∷ os) zero a d lone lt some = layered_append o.pieces (all_pieces os) a ∙ rw some refl
own_same (o ∷ os) (suc k) a d lone lt some =
    let later = any_in_flat (lies a) (λ (x : LoadedObject). x.pieces) os k d (omega arith) some in
    elim (cases_Bool (list_any (lies a) o.pieces)) [
      | inl here ↦ absurd (false≢true (sym (lone_front o.pieces (all_pieces os) a lone here) ∙ later))
      | inr miss ↦ layered_append o.pieces (all_pieces os) a ∙ rw miss (own_same os k a d (lone_rest o.pieces (all_pieces os) lone) (omega arith) some)
    ]

own_pieces : (i : Image) (k : ℕ) (d : LoadedObject) → AreLoaded i.objects → k < length i.objects → AreOwn i (get_or i.objects k d).pieces
own_pieces i k d are lt = record { ascend = are.ascend k d lt; same = λ a some. own_same i.objects k a d are.apart lt some }

-- the pieces of one of the objects, as a loop over them reads them
pub item_pieces : (i : Image) (objects : List LoadedObject) (k : ℕ) (item : LoadedObject) (ps : List Piece) → objects ≡ i.objects → item ≡ get_or objects k item → ps ≡ item.pieces → ps ≡ (get_or i.objects k item).pieces
item_pieces i objects k item ps same is pieces = pieces ∙ ap (λ (o : LoadedObject). o.pieces) (is ∙ ap (λ (os : List LoadedObject). get_or os k item) same)

pub item_own : (i : Image) (objects : List LoadedObject) (k : ℕ) (item : LoadedObject) (ps : List Piece) → AreLoaded i.objects → k < length objects → objects ≡ i.objects → item ≡ get_or objects k item → ps ≡ item.pieces → AreOwn i ps
item_own i objects k item ps are lt same is pieces =
    let within : k < length i.objects = subst (λ (os : List LoadedObject). k < length os) same lt in
    subst (AreOwn i) (sym (item_pieces i objects k item ps same is pieces)) (own_pieces i k item are within)

extents_have : (ps : List Piece) (a : ℕ) → list_any (has a) (map extent_of ps) ≡ list_any (lies a) ps
extents_have ps a = any_map (has a) extent_of ps

module _ (i : Image) (ps : List Piece) (own : AreOwn i ps) (a : ℕ) where
  pub own_none : list_any (lies a) ps ≡ false → byte_in (own_memory i ps) a ≡ 0
  unfolding only
  own_none missed = rw (extents_have ps a, missed) refl

  pub own_missed : find (lies a) ps ≡ None → byte_in (own_memory i ps) a ≡ 0
  own_missed missed = own_none (any_missed (lies a) ps missed)

  pub own_found : (p : Piece) → find (lies a) ps ≡ Some p → byte_in (own_memory i ps) a ≡ cond (any_masked i.objects a) 0 (fold (laid a) (byte_at a p) i.patches)
  unfolding only
  own_found p found =
      let some = any_found (lies a) ps p found in
      let is : layered (all_pieces i.objects) a ≡ Some (byte_at a p) = own.same a some ∙ layered_found ps a ∙ ap (found_byte a) found in
      rw (extents_have ps a, some, image_byte i a (byte_at a p) is) refl

-- ---- words that are 0

clear_by : (i : Image) (ps : List Piece) (ts : List Touch) (a : ℕ) → AreOwn i ps → IsIndex i.patches ts → list_any (stores a) ps ≡ false → list_any (λ t. t.number == a / 8) ts ≡ false
    → (o : Option Piece) → find (lies a) ps ≡ o → byte_in (own_memory i ps) a ≡ 0
clear_by i ps ts a own index stored touched None is = own_missed i ps own a is
clear_by i ps ts a own index stored touched (Some p) is =
    own_found i ps own a p is ∙ elim (cases_Bool (any_masked i.objects a)) [
      | inl hidden ↦ rw hidden refl
      | inr seen ↦ rw seen (untouched i.patches ts a (byte_at a p) index touched ∙ unstored ps a p stored is)
    ]

pub own_clear : (i : Image) (ps : List Piece) (ts : List Touch) (from to : ℕ) → AreOwn i ps → IsIndex i.patches ts
    → ((a : ℕ) → 8 * from ≤ a → a < 8 * to → list_any (stores a) ps ≡ false) → ((n : ℕ) → from ≤ n → n < to → list_any (λ t. t.number == n) ts ≡ false)
    → IsClear (own_memory i ps) (8 * from) (8 * to)
own_clear i ps ts from to own index stored touched = λ a low high.
    clear_by i ps ts a own index (stored a low high) (touched (a / 8) (omega arith) (omega arith)) (find (lies a) ps) refl
