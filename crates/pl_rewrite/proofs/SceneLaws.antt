-- The bytes that fill a place of a program are those that its scope makes there.
use Rattle.std.proofs.Common.{◌≡◌, ℕ, zero, suc, ◌+◌, ◌-◌, ◌^◌, ◌<◌, ◌≤◌, Bool, true, List, [], ◌∷◌, ◌++◌, length, get_or, Some, refl, sym, ap, subst, ◌∙◌, arith}
use Rattle.std.specs.Prelude.{filter, slice_get}
use Rattle.std.specs.List.{AllZip, list_any}
use Rattle.std.proofs.lemmas.Option.{none-some, same_Some}
use Rattle.pl_base.specs.Memory.{AtMostOne, Fill, Memory, filled, layered, lies, read}
use Rattle.pl_conflict.specs.Fast.{is_library}
use Rattle.pl_conflict.specs.Prelinked.{Firm, objects_of, originals_of, slots_of}
use Rattle.pl_image.specs.Image.{all_pieces}
use Rattle.pl_image.specs.Loads.{IsPlaced, pieces_at}
use Rattle.pl_object.specs.declared.object.Object.{Object}
use Rattle.pl_object.specs.declared.reloc.Reloc.{Reloc}
use Rattle.pl_value.specs.Laws as laws
use Rattle.pl_value.specs.Laws.{AllFit}
use Rattle.pl_value.specs.Linked.{relocated, under, worded, words}
use Rattle.pl_value.specs.Ordinary.{loaded_objects, part_of}
use Rattle.pl_value.specs.Targets.{base_of}
use Rattle.pl_value.specs.declared.meaning.Meaning.{Meaning}
use Rattle.pl_value.specs.declared.word.Word.{Word}
use Rattle.pl_value.specs.declared.word.Word.TheVariants.{Put, Copy, Nothing}
use Rattle.pl_rewrite.specs.Copies.{AreBytesOf, FillsBy, IsFillable, row_at}
use Rattle.pl_rewrite.specs.Fills.{memory_of}
use Rattle.pl_rewrite.specs.Rows.{IsFirmAt}
use Rattle.pl_rewrite.specs.declared.copies.Filling.{Filling}
use Rattle.pl_rewrite.proofs.CopyLaws.{gives_at, word_read}
use Rattle.pl_rewrite.proofs.FirmRowLaws.{firm_index}
use Rattle.pl_rewrite.proofs.SourceLaws.{IsSource}
use Rattle.pl_rewrite.proofs.StandingLaws.{IsPlace, copied_bytes, copy_read, nothing_read}

-- ---- members by their indexes

pub record IsMemberAt (rs : List Firm) (m : ℕ) (r : Firm) : Type 0 where
  pub object : slice_get (objects_of rs) m ≡ Some r.object
  pub place : base_of (slots_of rs) m ≡ r.member.slot
  pub part : part_of (originals_of rs) m ≡ r.member.original

pub member_at : (rs : List Firm) (m : ℕ) (r : Firm) → slice_get rs m ≡ Some r → IsMemberAt rs m r
member_at [] m r at = absurd (none-some r at)
member_at (x ∷ rs) zero r at =
    let same = same_Some x r at in
    record { object = ap (λ (y : Firm). Some y.object) same; place = ap (λ (y : Firm). y.member.slot) same; part = ap (λ (y : Firm). y.member.original) same }
member_at (x ∷ rs) (suc m) r at = let later = member_at rs m r at in record { object = later.object; place = later.place; part = later.part }

pub member_of_object : (rs : List Firm) (m : ℕ) (o : Object) → slice_get (objects_of rs) m ≡ Some o → (r : Firm) × (slice_get rs m ≡ Some r) × (r.object ≡ o)
member_of_object [] m o at = absurd (none-some o at)
member_of_object (x ∷ rs) zero o at = (x, refl, same_Some x.object o at)
member_of_object (x ∷ rs) (suc m) o at = member_of_object rs m o at

row_is : (rows : List ℕ) (m row : ℕ) → slice_get rows m ≡ Some row → row ≡ get_or rows m 0
row_is [] m row at = absurd (none-some row at)
row_is (x ∷ rows) zero row at = sym (same_Some x row at)
row_is (x ∷ rows) (suc m) row at = row_is rows m row at

row_below : (rows : List ℕ) (m row : ℕ) → slice_get rows m ≡ Some row → m < length rows
row_below [] m row at = absurd (none-some row at)
row_below (x ∷ rows) zero row at = omega arith
row_below (x ∷ rows) (suc m) row at = omega (arith, row_below rows m row at)

-- ---- the walk of a program, and what its relocations give

pub record IsScene (f : Filling) (rs : List Firm) (gs : List Meaning) (p : Meaning → Bool) : Type 0 where
  pub fillable : IsFillable f.numbered.now f.walk.now
  pub rows : AllZip (IsFirmAt f.numbered.now) f.walk.now rs
  pub near : f.near.now ≡ words (filter p gs)
  pub fit : AllFit is_library gs
  pub lone : AtMostOne under gs
  pub apart : AtMostOne lies (all_pieces (loaded_objects (slots_of rs) (originals_of rs) (objects_of rs)))

-- one of its places: the one of this index, which this relocation names
pub record IsSpot (rs : List Firm) (gs : List Meaning) (p : Meaning → Bool) (i : ℕ) (d : Meaning) (first : Firm) (r : Reloc) : Type 0 where
  pub within : i < length gs
  pub begins : slice_get rs 0 ≡ Some first
  pub held : (a : ℕ) → under a (get_or gs i d) ≡ true → list_any (lies a) (pieces_at (base_of (slots_of rs) 0) (part_of (originals_of rs) 0) first.object) ≡ true
  pub read : (m : Memory) → read m (get_or gs i d).start (get_or gs i d).size ≡ read m r.address r.width
  pub source : (m from n : ℕ) → (get_or gs i d).word ≡ Copy m from n → IsSource (objects_of rs) (slots_of rs) m from n
  pub seen : (m from n k : ℕ) (g : Meaning) → (get_or gs i d).word ≡ Copy m from n → k < n → from + k < 2 ^ 64 - 1 → gives_at (from + k) g ≡ true → p g ≡ true

spot_place : (f : Filling) (rs : List Firm) (gs : List Meaning) (p : Meaning → Bool) (i : ℕ) (d : Meaning) (first : Firm) (r : Reloc) → IsScene f rs gs p → IsSpot rs gs p i d first r → IsPlace (objects_of rs) (slots_of rs) (originals_of rs) gs i d first.object
spot_place f rs gs p i d first r scene spot = record {
  fit = scene.fit;
  lone = scene.lone;
  apart = scene.apart;
  within = spot.within;
  first = (member_at rs 0 first spot.begins).object;
  held = spot.held;
}

-- a member's memory is that of its row
bytes_member : (f : Filling) (rs : List Firm) (gs : List Meaning) (p : Meaning → Bool) (m : ℕ) (r : Firm) (patches : List Fill) (from size : ℕ) (bytes : List ℕ) → IsScene f rs gs p → slice_get rs m ≡ Some r → AreBytesOf f.numbered.now (row_at f m) patches from size bytes
    → bytes ≡ read (filled (layered (pieces_at (base_of (slots_of rs) m) (part_of (originals_of rs) m) r.object)) patches) from size
bytes_member f rs gs p m r patches from size bytes scene at are =
    let row = firm_index f.numbered.now f.walk.now rs m r scene.rows at in
    let here : IsFirmAt f.numbered.now (row_at f m) r = subst (λ (k : ℕ). IsFirmAt f.numbered.now k r) (row_is f.walk.now m row.0 row.1) row.2 in
    let member = member_at rs m r at in
    are r here ∙ ap (λ (k : ℕ). read (filled (layered (pieces_at k r.member.original r.object)) patches) from size) (sym member.place)
    ∙ ap (λ (bs : List ℕ). read (filled (layered (pieces_at (base_of (slots_of rs) m) bs r.object)) patches) from size) (sym member.part)

pub member_placed : (f : Filling) (rs : List Firm) (gs : List Meaning) (p : Meaning → Bool) (m : ℕ) (r : Firm) → IsScene f rs gs p → slice_get rs m ≡ Some r → IsPlaced (base_of (slots_of rs) m) r.object
member_placed f rs gs p m r scene at =
    let row = firm_index f.numbered.now f.walk.now rs m r scene.rows at in
    let here : IsFirmAt f.numbered.now (row_at f m) r = subst (λ (k : ℕ). IsFirmAt f.numbered.now k r) (row_is f.walk.now m row.0 row.1) row.2 in
    subst (λ (k : ℕ). IsPlaced k r.object) (sym (member_at rs m r at).place) (scene.fillable.placed m 0 (row_below f.walk.now m row.0 row.1) r here)

-- ---- the bytes at a place

stands : (f : Filling) (rs : List Firm) (gs : List Meaning) (p : Meaning → Bool) (i : ℕ) (d : Meaning) (first : Firm) (r : Reloc) (bytes : List ℕ) → IsScene f rs gs p → IsSpot rs gs p i d first r → AreBytesOf f.numbered.now (row_at f 0) [] r.address r.width bytes
    → bytes ≡ read (layered (pieces_at (base_of (slots_of rs) 0) (part_of (originals_of rs) 0) first.object)) (get_or gs i d).start (get_or gs i d).size
unfolding filled
stands f rs gs p i d first r bytes scene spot are =
    bytes_member f rs gs p 0 first [] r.address r.width bytes scene spot.begins are ∙ sym (spot.read (layered (pieces_at (base_of (slots_of rs) 0) (part_of (originals_of rs) 0) first.object)))

copies : (f : Filling) (rs : List Firm) (gs : List Meaning) (p : Meaning → Bool) (i : ℕ) (d : Meaning) (first : Firm) (r : Reloc) (m from n : ℕ) (bytes : List ℕ) → IsScene f rs gs p → IsSpot rs gs p i d first r → (get_or gs i d).word ≡ Copy m from n
    → AreBytesOf f.numbered.now (row_at f m) f.near.now from n bytes → bytes ≡ read (worded (layered (all_pieces (loaded_objects (slots_of rs) (originals_of rs) (objects_of rs)))) gs) from n
copies f rs gs p i d first r m from n bytes scene spot word are =
    let source = spot.source m from n word in
    let x = member_of_object rs m source.object source.at in
    let placed : IsPlaced (base_of (slots_of rs) m) source.object = subst (IsPlaced (base_of (slots_of rs) m)) x.2 (member_placed f rs gs p m x.0 scene x.1) in
    bytes_member f rs gs p m x.0 f.near.now from n bytes scene x.1 are
    ∙ ap (λ (o : Object). read (filled (layered (pieces_at (base_of (slots_of rs) m) (part_of (originals_of rs) m) o)) f.near.now) from n) x.2
    ∙ ap (λ (fs : List Fill). read (filled (layered (pieces_at (base_of (slots_of rs) m) (part_of (originals_of rs) m) source.object)) fs) from n) scene.near
    ∙ copied_bytes (objects_of rs) (slots_of rs) (originals_of rs) gs m from n p source placed scene.apart (λ k g inside last hit. spot.seen m from n k g word inside last hit)

pub spot_filled : (f : Filling) (rs : List Firm) (gs : List Meaning) (p : Meaning → Bool) (i : ℕ) (d : Meaning) (first : Firm) (r : Reloc) (word : Word) (bytes : List ℕ) → IsScene f rs gs p → IsSpot rs gs p i d first r → (get_or gs i d).word ≡ word → FillsBy f r word bytes
    → bytes ≡ read (memory_of rs gs) r.address r.width
spot_filled f rs gs p i d first r (Put w) bytes scene spot is fills =
    let base = layered (all_pieces (loaded_objects (slots_of rs) (originals_of rs) (objects_of rs))) in
    let eight : (get_or gs i d).size ≡ 8 = put_eight gs i d w (scene.fit i d spot.within) is in
    fills ∙ sym (word_read base gs i d scene.fit scene.lone spot.within w is eight) ∙ spot.read (relocated base gs)
  where
    put_eight : (gs : List Meaning) (i : ℕ) (d : Meaning) (w : ℕ) → laws.Fits (is_library (get_or gs i d).member) (get_or gs i d).size (get_or gs i d).word → (get_or gs i d).word ≡ Put w → (get_or gs i d).size ≡ 8
    put_eight gs i d w fit is = rw is at fit
spot_filled f rs gs p i d first r (Copy m from n) bytes scene spot is fills =
    let base = layered (all_pieces (loaded_objects (slots_of rs) (originals_of rs) (objects_of rs))) in
    let short : n ≤ (get_or gs i d).size = copy_short gs i d m from n (scene.fit i d spot.within) is in
    let standing = stands f rs gs p i d first r fills.standing scene spot fills.stands in
    let copied = copies f rs gs p i d first r m from n fills.copied scene spot is fills.copies in
    fills.puts ∙ copy_read (objects_of rs) (slots_of rs) (originals_of rs) gs i d first.object m from n fills.copied fills.standing (spot_place f rs gs p i d first r scene spot) is short copied standing
    ∙ spot.read (relocated base gs)
  where
    copy_short : (gs : List Meaning) (i : ℕ) (d : Meaning) (m from n : ℕ) → laws.Fits (is_library (get_or gs i d).member) (get_or gs i d).size (get_or gs i d).word → (get_or gs i d).word ≡ Copy m from n → n ≤ (get_or gs i d).size
    copy_short gs i d m from n fit is = let both = rw is at fit in both.1
spot_filled f rs gs p i d first r Nothing bytes scene spot is fills =
    let base = layered (all_pieces (loaded_objects (slots_of rs) (originals_of rs) (objects_of rs))) in
    stands f rs gs p i d first r bytes scene spot fills ∙ nothing_read (objects_of rs) (slots_of rs) (originals_of rs) gs i d first.object (spot_place f rs gs p i d first r scene spot) is ∙ spot.read (relocated base gs)
