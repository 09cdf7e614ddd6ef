-- The bytes at the places of a program.
use Rattle.std.proofs.Common.{◌≡◌, ℕ, zero, suc, ◌+◌, ◌-◌, ◌<◌, ◌≤◌, Bool, true, false, List, [], ◌∷◌, ◌++◌, length, take, drop, get_or, Some, None, refl, sym, ap, subst, ◌∙◌, append_assoc, arith}
use Rattle.std.specs.Prelude.{slice_get, if◌then◌else◌}
use Rattle.std.specs.List.{All, AllZip}
use Rattle.std.proofs.lemmas.List.{append-nil, drop_more, get_or_default, length_push, take_all}
use Rattle.std.proofs.lemmas.List.Elements.{All-nil}
use Rattle.std.proofs.lemmas.Option.{none-some, same_Some, slice_get-get_or}
use Rattle.pl_base.specs.Memory.{Fill, filled, layered, read}
use Rattle.pl_cone.specs.Taken.{object_by}
use Rattle.pl_cone.specs.declared.taken.Taken.{Taken}
use Rattle.pl_elf.specs.declared.constants.TheConstants.{ADDRESS_LIMIT}
use Rattle.pl_form.specs.Files.{original_in}
use Rattle.pl_form.specs.Words.{has_place}
use Rattle.pl_form.specs.declared.file.Fill as form
use Rattle.pl_image.specs.Image.{AreLoaded, all_pieces, ascends}
use Rattle.pl_image.specs.Loads.{IsPlaced, loaded_at}
use Rattle.pl_image.specs.declared.loaded_object.LoadedObject.{LoadedObject}
use Rattle.pl_image.specs.declared.mask.Load.{Load}
use Rattle.pl_image.proofs.PlacedLaws.{alone}
use Rattle.pl_object.specs.declared.object.Object.{Object}
use Rattle.pl_object.specs.declared.reloc.Reloc.{Reloc}
use Rattle.pl_rewrite.specs.Copies.{AddsFill, AreBytesOf, AreCopied, AreFillsNear, AreLoadedAt, AreProgramFills, FillsBy, FillsCopy, HasBytesAt, IsFill, IsFillAt, IsLoadedAt, IsLoadedRow, IsOneOf, IsPlacedRow, PutsFirst, loaded_for, place_of, given_places, row_at}
use Rattle.pl_rewrite.specs.Rows.{firm_by, number_at}
use Rattle.pl_rewrite.specs.declared.copies.Filling.{Filling}
use Rattle.pl_rewrite.specs.declared.numbers.Numbered.{Numbered}
use Rattle.pl_rewrite.proofs.FirmRowLaws.{row_of}
use Rattle.pl_rewrite.proofs.RowByRowLaws.{each_nothing, each_pushed}
use Rattle.pl_rewrite.proofs.RowTestLaws.{firm_there}
use Rattle.pl_value.specs.Linked.{words}
use Rattle.pl_value.specs.declared.meaning.Meaning.{Meaning}

-- ---- a member's memory

-- a row of a file that has no object is no member
pub loaded_none : (n : Numbered) (row : ℕ) (t : Taken) (loaded : LoadedObject) → slice_get n.files.now row ≡ Some t → None ≡ object_by t.entry → IsLoadedAt n row loaded
loaded_none n row t loaded at none = λ r e.
    let f = row_of n row r e in
    let same : f.taken ≡ t = same_Some f.taken t (sym f.at ∙ at) in
    absurd (none-some r.object (none ∙ ap (λ (x : Taken). object_by x.entry) (sym same) ∙ f.object))

pub placed_object : (n : Numbered) (row : ℕ) (t : Taken) (o : Object) (place : ℕ) → IsPlacedRow n row → slice_get n.files.now row ≡ Some t → Some o ≡ object_by t.entry → place ≡ number_at n.places.now row → IsPlaced place o
placed_object n row t o place placed at is slot = subst (λ (k : ℕ). IsPlaced k o) (sym slot) (placed (firm_by n row t o) (firm_there n row t o at is))

pub loaded_some : (n : Numbered) (row : ℕ) (t : Taken) (o : Object) (original : List ℕ) (place : ℕ) (loaded : LoadedObject) → slice_get n.files.now row ≡ Some t → Some o ≡ object_by t.entry → original ≡ original_in t.bytes → place ≡ number_at n.places.now row
    → loaded ≡ loaded_at place original o → IsLoadedAt n row loaded
loaded_some n row t o original place loaded at is bytes slot made = λ r e.
    let one : firm_by n row t o ≡ r = same_Some (firm_by n row t o) r (sym (firm_there n row t o at is) ∙ e) in
    made ∙ ap (λ (k : ℕ). loaded_at k original o) slot ∙ ap (λ (bs : List ℕ). loaded_at (number_at n.places.now row) bs o) bytes ∙ ap loaded_for one

-- what loads nothing
pub none_alone : (l : LoadedObject) → l.pieces ≡ [] → l.mask.loads ≡ [] → AreLoaded (l ∷ [])
unfolding ascends
none_alone l pieces loads = alone l (ap (ascends 0) pieces) (subst (λ (ms : List Load). All (λ m. m.start + m.size ≤ ADDRESS_LIMIT) ms) (sym loads) (All-nil (λ (m : Load). m.start + m.size ≤ ADDRESS_LIMIT)))

-- ---- one member after the other

-- the first rows of a walk
pub record AreLoadedTo (n : Numbered) (walk : List ℕ) (count : ℕ) (loaded : List LoadedObject) : Type 0 where
  pub most : count ≤ length walk
  pub one_each : length loaded ≡ count
  pub each : (m : ℕ) (l : LoadedObject) → slice_get loaded m ≡ Some l → IsLoadedRow n (get_or walk m 0) l

pub none_loaded : (n : Numbered) (walk : List ℕ) (loaded : List LoadedObject) → loaded ≡ [] → AreLoadedTo n walk 0 loaded
none_loaded n walk loaded none = record { most = omega arith; one_each = ap length none; each = each_nothing (λ m l. IsLoadedRow n (get_or walk m 0) l) loaded none }

pub more_loaded : (n : Numbered) (walk : List ℕ) (count d : ℕ) (before after : List LoadedObject) (l : LoadedObject) → count < length walk → after ≡ before ++ l ∷ [] → IsLoadedAt n (get_or walk count d) l → AreLoaded (l ∷ []) → AreLoadedTo n walk count before
    → AreLoadedTo n walk (count + 1) after
more_loaded n walk count d before after l lt is at lone so_far =
    let row : get_or walk count d ≡ get_or walk (length before) 0 = get_or_default walk count d 0 lt ∙ ap (λ (k : ℕ). get_or walk k 0) (sym so_far.one_each) in
    let one : IsLoadedRow n (get_or walk (length before) 0) l = record { is = subst (λ (k : ℕ). IsLoadedAt n k l) row at; alone = lone } in
    record {
      most = omega (arith, lt);
      one_each = ap length is ∙ length_push before l ∙ ap (λ (k : ℕ). k + 1) so_far.one_each;
      each = each_pushed (λ m x. IsLoadedRow n (get_or walk m 0) x) before after l is one so_far.each;
    }

pub all_loaded : (n : Numbered) (walk : List ℕ) (count : ℕ) (loaded : List LoadedObject) → length walk ≤ count → AreLoadedTo n walk count loaded → AreLoadedAt n walk loaded
all_loaded n walk count loaded le so_far = record { one_each = omega (arith, le, so_far.most, so_far.one_each); each = so_far.each }

-- ---- the memory of one member

abbrev nothing : LoadedObject
nothing = record { pieces = []; mask = record { loads = []; tables = [] } }

one_at : (ls : List LoadedObject) (m k : ℕ) (l : LoadedObject) → k ≡ 1 → slice_get ls m ≡ Some l → m < length ls → take k (drop m ls) ≡ l ∷ []
one_at ls m k l is at lt =
    let here : get_or ls m l ≡ l = same_Some (get_or ls m l) l (sym (slice_get-get_or ls m l lt) ∙ at) in
    ap (λ (n : ℕ). take n (drop m ls)) is ∙ ap (take 1) (drop_more ls m l lt) ∙ ap (λ (x : LoadedObject). x ∷ []) here

one_long : (m : ℕ) → m + 1 - m ≡ 1
one_long m = omega arith

pub is_one : (ls : List LoadedObject) (m : ℕ) → m < length ls → IsOneOf ls m (take (m + 1 - m) (drop m ls))
is_one ls m lt = λ l at. one_at ls m (m + 1 - m) l (one_long m) at lt

module _ (f : Filling) (m : ℕ) (ls : List LoadedObject) (all : AreLoadedAt f.numbered.now f.walk.now f.loaded.now) (lt : m < length f.loaded.now) (is : IsOneOf f.loaded.now m ls) where
  abbrev member : LoadedObject
  member = get_or f.loaded.now m nothing

  there : slice_get f.loaded.now m ≡ Some member
  there = slice_get-get_or f.loaded.now m nothing lt

  pub one_loaded : AreLoaded ls
  one_loaded = subst AreLoaded (sym (is member there)) (all.each m member there).alone

  pub bytes_read : (patches : List Fill) (from size : ℕ) (bytes : List ℕ) → bytes ≡ read (filled (layered (all_pieces ls)) patches) from size → AreBytesOf f.numbered.now (row_at f m) patches from size bytes
  bytes_read patches from size bytes made = λ r e.
      let whole : all_pieces (member ∷ []) ≡ member.pieces = append-nil member.pieces in
      let same : member ≡ loaded_for r = (all.each m member there).is r e in
      made ∙ ap (λ (xs : List LoadedObject). read (filled (layered (all_pieces xs)) patches) from size) (is member there)
      ∙ ap (λ ps. read (filled (layered ps) patches) from size) (whole ∙ ap (λ (x : LoadedObject). x.pieces) same)

  pub bytes_stand : (from size : ℕ) (bytes : List ℕ) → bytes ≡ read (layered (all_pieces ls)) from size → AreBytesOf f.numbered.now (row_at f m) [] from size bytes
  unfolding filled
  bytes_stand from size bytes made = bytes_read [] from size bytes made

-- ---- one relocation

-- what a copy makes of the bytes there
pub copy_fills : (f : Filling) (r : Reloc) (member from size : ℕ) (standing copied before over bytes : List ℕ) → HasBytesAt f r standing → AreCopied f member from size copied → before ≡ standing → over ≡ copied → PutsFirst over before bytes → FillsCopy f r member from size bytes
copy_fills f r member from size standing copied before over bytes stands copies one two puts = record {
  standing = before;
  copied = over;
  stands = subst (HasBytesAt f r) (sym one) stands;
  copies = subst (AreCopied f member from size) (sym two) copies;
  puts = puts;
}

pub fill_is : (f : Filling) (r : Reloc) (g : Meaning) (bytes rows : List ℕ) → FillsBy f r g.word bytes → rows ≡ bytes → IsFillAt f r g (record { address = r.address; bytes = rows })
fill_is f r g bytes rows fills same = (refl, subst (FillsBy f r g.word) (sym same) fills)

-- NONE has no place
pub fill_none : (f : Filling) (r : Reloc) (g : Meaning) (fills : List form.Fill) → has_place r ≡ false → AddsFill f r g fills fills
fill_none f r g fills other =
    let here : place_of r g ≡ [] = ap (λ (b : Bool). if b then (r, g) ∷ [] else []) other in
    record { made = []; is = sym (append-nil fills); fills = subst (λ (ps : List (Reloc × Meaning)). AllZip (IsFill f) ps []) (sym here) tt }

pub fill_pushed : (f : Filling) (r : Reloc) (g : Meaning) (fill : form.Fill) (before after : List form.Fill) → has_place r ≡ true → IsFillAt f r g fill → after ≡ before ++ fill ∷ [] → AddsFill f r g before after
fill_pushed f r g fill before after place is more =
    let here : place_of r g ≡ (r, g) ∷ [] = ap (λ (b : Bool). if b then (r, g) ∷ [] else []) place in
    record { made = fill ∷ []; is = more; fills = subst (λ (ps : List (Reloc × Meaning)). AllZip (IsFill f) ps (fill ∷ [])) (sym here) (is, tt) }

-- ---- one relocation after the other

zip_append : {A B : Type 0} (R : A → B → Type 0) (xs : List A) (ys : List B) (us : List A) (vs : List B) → AllZip R xs ys → AllZip R us vs → AllZip R (xs ++ us) (ys ++ vs)
zip_append R [] [] us vs zip more = more
zip_append R [] (y ∷ ys) us vs zip more = absurd zip
zip_append R (x ∷ xs) [] us vs zip more = absurd zip
zip_append R (x ∷ xs) (y ∷ ys) us vs zip more = (zip.0, zip_append R xs ys us vs zip.1 more)

places_more : (rs : List Reloc) (gs : List Meaning) (i : ℕ) (d : Reloc) (e : Meaning) → i < length rs → length gs ≡ length rs → given_places (take (i + 1) rs) (take (i + 1) gs) ≡ given_places (take i rs) (take i gs) ++ place_of (get_or rs i d) (get_or gs i e)
unfolding given_places
places_more [] gs i d e lt same = absurd (omega (arith, lt))
places_more (r ∷ rs) [] i d e lt same = absurd (omega (arith, same))
places_more (r ∷ rs) (g ∷ gs) zero d e lt same = append-nil (place_of r g)
places_more (r ∷ rs) (g ∷ gs) (suc i) d e lt same =
    let more : suc i + 1 ≡ suc (i + 1) = omega arith in
    ap (λ (k : ℕ). given_places (take k (r ∷ rs)) (take k (g ∷ gs))) more
    ∙ ap (λ ps. place_of r g ++ ps) (places_more rs gs i d e (omega (arith, lt)) (omega (arith, same)))
    ∙ sym (append_assoc (place_of r g) (given_places (take i rs) (take i gs)) (place_of (get_or rs i d) (get_or gs i e)))

pub fills_begin : (f : Filling) (rs : List Reloc) (gs : List Meaning) (made : List form.Fill) → made ≡ [] → AllZip (IsFill f) (given_places (take 0 rs) (take 0 gs)) made
unfolding given_places
fills_begin f rs gs made none = subst (AllZip (IsFill f) []) (sym none) tt

pub fills_more : (f : Filling) (rs : List Reloc) (gs : List Meaning) (i : ℕ) (d : Reloc) (e : Meaning) (before after : List form.Fill) → i < length rs → length gs ≡ length rs → AddsFill f (get_or rs i d) (get_or gs i e) before after
    → AllZip (IsFill f) (given_places (take i rs) (take i gs)) before → AllZip (IsFill f) (given_places (take (i + 1) rs) (take (i + 1) gs)) after
fills_more f rs gs i d e before after lt same adds so_far =
    subst (λ (ps : List (Reloc × Meaning)). AllZip (IsFill f) ps after) (sym (places_more rs gs i d e lt same))
    (subst (λ (fs : List form.Fill). AllZip (IsFill f) (given_places (take i rs) (take i gs) ++ place_of (get_or rs i d) (get_or gs i e)) fs) (sym adds.is)
    (zip_append (IsFill f) (given_places (take i rs) (take i gs)) before (place_of (get_or rs i d) (get_or gs i e)) adds.made so_far adds.fills))

pub fills_done : (f : Filling) (rs : List Reloc) (gs : List Meaning) (i : ℕ) (fills : List form.Fill) → length rs ≤ i → length gs ≡ length rs → AllZip (IsFill f) (given_places (take i rs) (take i gs)) fills → AreProgramFills f rs gs fills
fills_done f rs gs i fills le same zip =
    subst (λ (xs : List Reloc). AllZip (IsFill f) (given_places xs gs) fills) (take_all i rs le)
    (subst (λ (ys : List Meaning). AllZip (IsFill f) (given_places (take i rs) ys) fills) (take_all i gs (omega (arith, le, same))) zip)

-- ---- the fills of a program

pub fills_near : (f : Filling) (n : Numbered) (walk : List ℕ) (near : List Meaning) (rs : List Reloc) (gs : List Meaning) (made : List form.Fill) → AreProgramFills f rs gs made → f.numbered.now ≡ n → f.walk.now ≡ walk → f.near.now ≡ words near → AreFillsNear n walk near rs gs made
fills_near f n walk near rs gs made fills same rows patches = record { filling = f; numbered = same; rows = rows; patches = patches; fills = fills }
