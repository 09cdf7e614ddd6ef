-- At disjoint places at most one place of a relocation is over an address.
use Rattle.std.proofs.Common.{◌≡◌, ℕ, zero, suc, ◌+◌, ◌<◌, Bool, true, false, List, [], ◌∷◌, ◌++◌, length, map, get_or, Ok, refl, sym, ap, subst, ◌∙◌, arith, inl, inr}
use Rattle.std.specs.Prelude.{◌||◌}
use Rattle.std.specs.List.{All, AllZip, list_any}
use Rattle.std.proofs.lemmas.Bool.{cases_Bool, false≢true, or_parts}
use Rattle.std.proofs.lemmas.Bool.Decides.{nat_tests}
use Rattle.std.proofs.lemmas.List.Folds.{list_any-append}
use Rattle.std.proofs.lemmas.List.Elements.{All-head, All-tail}
use Rattle.pl_base.proofs.FindLaws.{any_map}
use Rattle.pl_base.specs.Memory.{Piece, lies}
use Rattle.pl_base.specs.Sums.{plus}
use Rattle.pl_base.specs.Windows.{share, any_share}
use Rattle.pl_base.proofs.MemoryLaws.{within_true}
use Rattle.pl_object.specs.Reads.{reads}
use Rattle.pl_object.specs.Relocations.{place, places}
use Rattle.pl_object.specs.declared.object.Object.{Object}
use Rattle.pl_object.specs.declared.reloc.Reloc.{Reloc}
use Rattle.pl_image.specs.Image.{all_pieces}
use Rattle.pl_image.specs.Loads.{pieces_at, IsPlaced}
use Rattle.pl_value.specs.Targets.{base_of}
use Rattle.pl_value.specs.Meanings.{Row, row, rows, rows_from}
use Rattle.pl_value.specs.Linked.{under}
use Rattle.pl_value.specs.Ordinary.{part_of, loaded_from, loaded_objects}
use Rattle.pl_value.specs.Laws.{AreRead, PlacesAreApart}
use Rattle.pl_value.proofs.LoneLaws.{Lone, lone_most, most_lone, lone_rest, lone_cross, lone_join, lone_zip}
use Rattle.pl_value.proofs.MeaningLaws.{IsGiven, meanings_given, zip_weaker}
use Rattle.pl_value.proofs.PlaceLaws.{reloc_over, IsHeld, relocs_held, relocs_apart}

-- ---- the places of one object

-- places with an address in common share a byte
share_at : (base a : ℕ) (r s : Reloc) → reloc_over base a r ≡ true → reloc_over base a s ≡ true → plus base r.address ≡ base + r.address → plus base s.address ≡ base + s.address → share (place r) (place s) ≡ true
share_at base a r s one two straight also =
    let t = within_true (plus base r.address) r.width a one in
    let u = within_true (plus base s.address) s.width a two in
    shares r.address r.width s.address s.width (omega (arith, t.0, t.1, u.0, u.1)) (omega (arith, t.0, t.1, u.0, u.1)) (omega (arith, t.0, t.1)) (omega (arith, u.0, u.1))
  where
    shares : (at size to n : ℕ) → at < to + n → to < at + size → 0 < size → 0 < n → share (record { at = at; size = size }) (record { at = to; size = n }) ≡ true
    shares at size to n before behind some also = grind (arith, nat_tests)

-- the address of a place is that of none of those with which it shares no byte
not_over : (base a : ℕ) (pieces : List Piece) (r : Reloc) (rs : List Reloc) → IsHeld base pieces r → All (IsHeld base pieces) rs → list_any (share (place r)) (places rs) ≡ false → reloc_over base a r ≡ true → list_any (reloc_over base a) rs ≡ false
not_over base a pieces r [] held all apart over = refl
not_over base a pieces r (s ∷ ss) held all apart over =
    let parts = or_parts (share (place r) (place s)) (list_any (share (place r)) (places ss)) apart in
    let rest = not_over base a pieces r ss held (All-tail (IsHeld base pieces) s ss all) parts.1 over in
    elim (cases_Bool (reloc_over base a s)) [
      | inr miss ↦ rw miss rest
      | inl hit ↦
          let other : IsHeld base pieces s = All-head (IsHeld base pieces) s ss all in
          absurd (false≢true (sym parts.0 ∙ share_at base a r s over hit (held.start a over) (other.start a hit)))
    ]

relocs_lone : (base : ℕ) (pieces : List Piece) (rs : List Reloc) → All (IsHeld base pieces) rs → any_share (places rs) ≡ false → Lone (reloc_over base) rs
relocs_lone base pieces [] all apart = tt
relocs_lone base pieces (r ∷ rs) all apart =
    let parts = or_parts (list_any (share (place r)) (places rs)) (any_share (places rs)) apart in
    let rest : All (IsHeld base pieces) rs = All-tail (IsHeld base pieces) r rs all in (
      λ a over. not_over base a pieces r rs (All-head (IsHeld base pieces) r rs all) rest parts.0 over,
      relocs_lone base pieces rs rest parts.1,
    )

-- what follows from each row that passes
any_gives : {X : Type 0} (p : X → Bool) (xs : List X) (c : Bool) → All (λ x. p x ≡ true → c ≡ true) xs → list_any p xs ≡ true → c ≡ true
any_gives p [] c each some = absurd (false≢true some)
any_gives {X = X} p (x ∷ xs) c each some =
    let P = λ (y : X). p y ≡ true → c ≡ true in
    elim (cases_Bool (p x)) [
      | inl hit ↦ All-head P x xs each hit
      | inr miss ↦ any_gives p xs c (All-tail P x xs each) (rw miss at some)
    ]

-- ---- rows

-- whether the place of a row has an address
abbrev row_over : List ℕ → ℕ → Row → Bool
row_over places a x = reloc_over (base_of places x.member) a x.reloc

rows_lone : (places : List ℕ) (member : ℕ) (rs : List Reloc) → Lone (reloc_over (base_of places member)) rs → Lone (row_over places) (map (row member) rs)
rows_lone places member [] lone = tt
rows_lone places member (r ∷ rs) lone = (λ a over. any_map (row_over places a) (row member) rs ∙ lone.0 a over, rows_lone places member rs lone.1)

-- ---- the rows of a scope

-- at most one row is over an address, and where one is, there is a piece
record IsApart (places : List ℕ) (xs : List Row) (pieces : List Piece) : Type 0 where
  lone : Lone (row_over places) xs
  held : (a : ℕ) → list_any (row_over places a) xs ≡ true → list_any (lies a) pieces ≡ true

joined : (places : List ℕ) (xs ys : List Row) (ps qs : List Piece) → Lone lies (ps ++ qs) → IsApart places xs ps → IsApart places ys qs → IsApart places (xs ++ ys) (ps ++ qs)
joined places xs ys ps qs pieces first rest = record {
  lone = lone_join (row_over places) xs ys first.lone rest.lone (λ a some. cross a (lone_cross lies ps qs pieces a (first.held a some)));
  held = λ a some. list_any-append (lies a) ps qs ∙ either a (sym (list_any-append (row_over places a) xs ys) ∙ some);
}
  where
    cross : (a : ℕ) → list_any (lies a) qs ≡ false → list_any (row_over places a) ys ≡ false
    cross a none = elim (cases_Bool (list_any (row_over places a) ys)) [
      | inl some ↦ absurd (false≢true (sym none ∙ rest.held a some))
      | inr miss ↦ miss
    ]

    either : (a : ℕ) → (list_any (row_over places a) xs || list_any (row_over places a) ys) ≡ true → (list_any (lies a) ps || list_any (lies a) qs) ≡ true
    either a some = elim (cases_Bool (list_any (row_over places a) xs)) [
      | inl one ↦ rw (first.held a one) refl
      | inr other ↦ elim (cases_Bool (list_any (lies a) ps)) [
        | inl there ↦ rw there refl
        | inr gone ↦ rw gone (rest.held a (rw other at some))
      ]
    ]

object_apart : (places : List ℕ) (member : ℕ) (bytes file : List ℕ) (o : Object) → IsPlaced (base_of places member) o → reads file ≡ Ok o → IsApart places (map (row member) o.relocations) (pieces_at (base_of places member) bytes o)
object_apart places member bytes file o placed read =
    let base = base_of places member in
    let pieces = pieces_at base bytes o in
    let held : All (IsHeld base pieces) o.relocations = relocs_held base bytes file o placed read in
    record {
      lone = rows_lone places member o.relocations (relocs_lone base pieces o.relocations held (relocs_apart file o read));
      held = λ a some. any_gives (reloc_over base a) o.relocations (list_any (lies a) pieces) (λ k d lt over. (held k d lt).piece a over) (sym (any_map (row_over places a) (row member) o.relocations) ∙ some);
    }

-- objects at places
abbrev PlacedFrom : List ℕ → ℕ → List Object → Type 0
PlacedFrom places member os = (k : ℕ) (d : Object) → k < length os → IsPlaced (base_of places (member + k)) (get_or os k d)

scope_apart : (places : List ℕ) (parts : List (List ℕ)) (member : ℕ) (files : List (List ℕ)) (os : List Object) → AreRead files os → PlacedFrom places member os → Lone lies (all_pieces (loaded_from places parts member os)) → IsApart places (rows_from member os) (all_pieces (loaded_from places parts member os))
unfolding rows_from loaded_from
scope_apart places parts member [] [] read placed pieces = record { lone = tt; held = λ a some. absurd (false≢true some) }
scope_apart places parts member [] (o ∷ os) read placed pieces = absurd read
scope_apart places parts member (file ∷ files) [] read placed pieces = absurd read
scope_apart places parts member (file ∷ files) (o ∷ os) read placed pieces =
    let first : IsPlaced (base_of places member) o = subst (λ (n : ℕ). IsPlaced (base_of places n) o) (omega arith) (placed zero o (omega arith)) in
    let next : PlacedFrom places (member + 1) os = λ k d lt. subst (λ (n : ℕ). IsPlaced (base_of places n) (get_or os k d)) (omega arith) (placed (suc k) d (omega (arith, lt))) in
    let own = pieces_at (base_of places member) (part_of parts member) o in
    let others = all_pieces (loaded_from places parts (member + 1) os) in
    joined places (map (row member) o.relocations) (rows_from (member + 1) os) own others pieces (object_apart places member (part_of parts member) file o first read.0)
    (scope_apart places parts (member + 1) files os read.1 next (lone_rest lies own others pieces))

-- at most one place is over an address
pub places_are_apart : PlacesAreApart
places_are_apart parts objects places modules gs read placed is =
    let pieces : Lone lies (all_pieces (loaded_objects places parts objects)) = most_lone lies (all_pieces (loaded_objects places parts objects)) placed.apart in
    let first : PlacedFrom places 0 objects = λ k d lt. subst (λ (n : ℕ). IsPlaced (base_of places n) (get_or objects k d)) (omega arith) (placed.placed k d lt) in
    let apart = scope_apart places parts 0 parts objects read first pieces in
    let same : AllZip (λ x g. (a : ℕ) → under a g ≡ row_over places a x) (rows objects) gs =
    zip_weaker (IsGiven objects places modules) (λ x g. (a : ℕ) → under a g ≡ row_over places a x) (rows objects) gs (λ x g given a. sym (ap (under a) given.is)) (meanings_given objects places modules gs is) in
    lone_most under gs (lone_zip (row_over places) under (rows objects) gs same apart.lone)
