-- The fills that are made of a program are those of its file.
use Rattle.std.proofs.Common.{◌≡◌, ℕ, zero, suc, ◌+◌, ◌-◌, ◌^◌, ◌<◌, ◌≤◌, Bool, true, List, [], ◌∷◌, ◌++◌, length, map, get_or, Some, Ok, refl, sym, ap, subst, ◌∙◌, arith}
use Rattle.std.specs.Prelude.{slice_get}
use Rattle.std.specs.List.{AllZip}
use Rattle.std.proofs.lemmas.List.{get_or-map, get_or_append_left, length-append, length-map}
use Rattle.pl_base.specs.Each.{each}
use Rattle.pl_base.specs.Memory.{is_within, read}
use Rattle.pl_base.specs.Sums.{plus}
use Rattle.pl_base.proofs.AnswerLaws.{ok_same}
use Rattle.pl_base.proofs.EachLaws.{length-each}
use Rattle.pl_conflict.specs.Prelinked.{Firm, objects_of, originals_of, slots_of}
use Rattle.pl_form.specs.declared.file.Fill.{Fill}
use Rattle.pl_image.specs.Loads.{pieces_at}
use Rattle.pl_object.specs.Reads.{reads}
use Rattle.pl_object.specs.declared.object.Object.{Object}
use Rattle.pl_object.specs.declared.reloc.Reloc.{Reloc}
use Rattle.pl_tls.specs.declared.module.Module.{Module}
use Rattle.pl_value.specs.Meanings.{Row, meaning, meanings, row, rows, rows_from}
use Rattle.pl_value.specs.Ordinary.{part_of}
use Rattle.pl_value.specs.Targets.{base_of}
use Rattle.pl_value.specs.declared.meaning.Meaning.{Meaning}
use Rattle.pl_value.specs.declared.word.Word.{Word}
use Rattle.pl_value.specs.declared.word.Word.TheVariants.{Copy}
use Rattle.pl_value.proofs.MeaningLaws.{IsGiven, each_zip, meaning_given}
use Rattle.pl_value.proofs.PlaceLaws.{IsHeld, relocs_held}
use Rattle.pl_rewrite.specs.Copies.{AreProgramFills, AreFillsOf}
use Rattle.pl_rewrite.specs.Fills.{fills, memory_of}
use Rattle.pl_rewrite.specs.declared.copies.Filling.{Filling}
use Rattle.pl_rewrite.proofs.CopyLaws.{gives_at}
use Rattle.pl_rewrite.proofs.FillLaws.{place_read}
use Rattle.pl_rewrite.proofs.FilledLaws.{IsOf, fills_same}
use Rattle.pl_rewrite.proofs.PlacedRowLaws.{fill_of}
use Rattle.pl_rewrite.proofs.SceneLaws.{IsScene, IsSpot, member_placed, spot_filled}
use Rattle.pl_rewrite.proofs.SourceLaws.{value_source}

-- ---- the meanings of the first member

zip_at : {A B : Type 0} (R : A → B → Type 0) (xs : List A) (ys : List B) (i : ℕ) (d : A) (e : B) → AllZip R xs ys → i < length xs → R (get_or xs i d) (get_or ys i e)
zip_at R [] ys i d e zip lt = absurd (omega (arith, lt))
zip_at R (x ∷ xs) [] i d e zip lt = absurd zip
zip_at R (x ∷ xs) (y ∷ ys) zero d e zip lt = zip.0
zip_at R (x ∷ xs) (y ∷ ys) (suc i) d e zip lt = zip_at R xs ys i d e zip.1 (omega (arith, lt))

zip_by : {A B : Type 0} (R : A → B → Type 0) (xs : List A) (ys : List B) → length ys ≡ length xs → ((i : ℕ) (d : A) (e : B) → i < length xs → R (get_or xs i d) (get_or ys i e)) → AllZip R xs ys
zip_by R [] [] same all = tt
zip_by R [] (y ∷ ys) same all = absurd (omega (arith, same))
zip_by R (x ∷ xs) [] same all = absurd (omega (arith, same))
zip_by R (x ∷ xs) (y ∷ ys) same all = (all 0 x y (omega arith), zip_by R xs ys (omega (arith, same)) (λ i d e lt. all (suc i) d e (omega (arith, lt))))

rows_first : (first : Object) (os : List Object) → rows (first ∷ os) ≡ map (row 0) first.relocations ++ rows_from (0 + 1) os
unfolding rows_from
rows_first first os = refl

given_zip : (os : List Object) (places : List ℕ) (modules : List Module) (gs : List Meaning) → meanings os places modules ≡ Ok gs → AllZip (λ x g. meaning os places modules x ≡ Ok g) (rows os) gs
unfolding meanings
given_zip os places modules gs is = each_zip (meaning os places modules) (rows os) gs is

-- what the relocation of an index of the first member gives among all
all_at : (first : Object) (os : List Object) (places : List ℕ) (modules : List Module) (gs : List Meaning) (i : ℕ) (d : Reloc) (e : Meaning) → meanings (first ∷ os) places modules ≡ Ok gs → i < length first.relocations
    → meaning (first ∷ os) places modules (row 0 (get_or first.relocations i d)) ≡ Ok (get_or gs i e)
all_at first os places modules gs i d e is lt =
    let front : List Row = map (row 0) first.relocations in
    let back : List Row = rows_from (0 + 1) os in
    let within : i < length front = omega (arith, lt, length-map first.relocations (row 0)) in
    let whole : i < length (rows (first ∷ os)) = omega (arith, within, ap length (rows_first first os), length-append front back) in
    let one : meaning (first ∷ os) places modules (get_or (rows (first ∷ os)) i (row 0 d)) ≡ Ok (get_or gs i e) = zip_at (λ x g. meaning (first ∷ os) places modules x ≡ Ok g) (rows (first ∷ os)) gs i (row 0 d) e (given_zip (first ∷ os) places modules gs is) whole in
    let at : get_or (rows (first ∷ os)) i (row 0 d) ≡ row 0 (get_or first.relocations i d) =
    ap (λ (xs : List Row). get_or xs i (row 0 d)) (rows_first first os) ∙ get_or_append_left front back (row 0 d) i within ∙ get_or-map (row 0) first.relocations i d (row 0 d) lt in
    ap (meaning (first ∷ os) places modules) (sym at) ∙ one

-- and by itself
own_at : (os : List Object) (places : List ℕ) (modules : List Module) (rs : List Reloc) (own : List Meaning) (i : ℕ) (d : Reloc) (e : Meaning) → each (meaning os places modules) (map (row 0) rs) ≡ Ok own → i < length rs
    → meaning os places modules (row 0 (get_or rs i d)) ≡ Ok (get_or own i e)
own_at os places modules rs own i d e is lt =
    let within : i < length (map (row 0) rs) = omega (arith, lt, length-map rs (row 0)) in
    ap (meaning os places modules) (sym (get_or-map (row 0) rs i d (row 0 d) lt))
    ∙ zip_at (λ x g. meaning os places modules x ≡ Ok g) (map (row 0) rs) own i (row 0 d) e (each_zip (meaning os places modules) (map (row 0) rs) own is) within

pub own_count : (os : List Object) (places : List ℕ) (modules : List Module) (rs : List Reloc) (own : List Meaning) → each (meaning os places modules) (map (row 0) rs) ≡ Ok own → length own ≡ length rs
own_count os places modules rs own is = length-each (meaning os places modules) (map (row 0) rs) own is ∙ length-map rs (row 0)

-- ---- a program's walk

pub record IsProgramScene (f : Filling) (rs : List Firm) (gs own : List Meaning) (modules : List Module) (p : Meaning → Bool) (first : Firm) (others : List Firm) : Type 0 where
  pub scene : IsScene f rs gs p
  pub is : rs ≡ first ∷ others
  pub all : meanings (objects_of rs) (slots_of rs) modules ≡ Ok gs
  pub given : each (meaning (objects_of rs) (slots_of rs) modules) (map (row 0) first.object.relocations) ≡ Ok own
  pub at_zero : first.member.slot ≡ 0
  pub reads : reads first.member.original ≡ Ok first.object
  pub seen : (i : ℕ) (e : Meaning) (m from n k : ℕ) (g : Meaning) → i < length own → (get_or own i e).word ≡ Copy m from n → k < n → from + k < 2 ^ 64 - 1 → gives_at (from + k) g ≡ true → p g ≡ true

base_zero : (rs others : List Firm) (first : Firm) → rs ≡ first ∷ others → first.member.slot ≡ 0 → base_of (slots_of rs) 0 ≡ 0
base_zero rs others first is low = ap (λ (xs : List Firm). base_of (slots_of xs) 0) is ∙ low

all_of : (rs others : List Firm) (first : Firm) (modules : List Module) (gs : List Meaning) (i : ℕ) (d : Reloc) (e : Meaning) → rs ≡ first ∷ others → meanings (objects_of rs) (slots_of rs) modules ≡ Ok gs → i < length first.object.relocations
    → meaning (objects_of rs) (slots_of rs) modules (row 0 (get_or first.object.relocations i d)) ≡ Ok (get_or gs i e)
all_of rs others first modules gs i d e is all lt =
    subst (λ (xs : List Firm). meaning (objects_of xs) (slots_of xs) modules (row 0 (get_or first.object.relocations i d)) ≡ Ok (get_or gs i e)) (sym is)
    (all_at first.object (objects_of others) (slots_of (first ∷ others)) modules gs i d e (subst (λ (xs : List Firm). meanings (objects_of xs) (slots_of xs) modules ≡ Ok gs) is all) lt)

begins : (rs others : List Firm) (first : Firm) → rs ≡ first ∷ others → slice_get rs 0 ≡ Some first
begins rs others first is = ap (λ (xs : List Firm). slice_get xs 0) is

all_many : (first : Object) (os : List Object) (places : List ℕ) (modules : List Module) (gs : List Meaning) (i : ℕ) → meanings (first ∷ os) places modules ≡ Ok gs → i < length first.relocations → i < length gs
unfolding meanings
all_many first os places modules gs i is lt =
    omega (arith, lt, length-map first.relocations (row 0), ap length (rows_first first os), length-append (map (row 0) first.relocations) (rows_from (0 + 1) os), length-each (meaning (first ∷ os) places modules) (rows (first ∷ os)) gs is)

many : (rs others : List Firm) (first : Firm) (modules : List Module) (gs : List Meaning) (i : ℕ) → rs ≡ first ∷ others → meanings (objects_of rs) (slots_of rs) modules ≡ Ok gs → i < length first.object.relocations → i < length gs
many rs others first modules gs i is all lt = all_many first.object (objects_of others) (slots_of (first ∷ others)) modules gs i (subst (λ (xs : List Firm). meanings (objects_of xs) (slots_of xs) modules ≡ Ok gs) is all) lt

spot_of : (f : Filling) (rs : List Firm) (gs own : List Meaning) (modules : List Module) (p : Meaning → Bool) (first : Firm) (others : List Firm) (i : ℕ) (d : Reloc) (e : Meaning) → IsProgramScene f rs gs own modules p first others → i < length first.object.relocations
    → IsSpot rs gs p i e first (get_or first.object.relocations i d)
spot_of f rs gs own modules p first others i d e s lt =
    let os = objects_of rs in
    let places = slots_of rs in
    let r = get_or first.object.relocations i d in
    let g = get_or gs i e in
    let here = begins rs others first s.is in
    let given : IsGiven os places modules (row 0 r) g = meaning_given os places modules (row 0 r) g (all_of rs others first modules gs i d e s.is s.all lt) in
    let start : g.start ≡ plus (base_of places 0) r.address = ap (λ (h : Meaning). h.start) (sym given.is) in
    let size : g.size ≡ r.width = ap (λ (h : Meaning). h.size) (sym given.is) in
    let pieces = pieces_at (base_of places 0) (part_of (originals_of rs) 0) first.object in
    let held : IsHeld (base_of places 0) pieces r = relocs_held (base_of places 0) (part_of (originals_of rs) 0) first.member.original first.object (member_placed f rs gs p 0 first s.scene here) s.reads i d lt in
    let zero = base_zero rs others first s.is s.at_zero in
    let low : IsHeld 0 pieces r = subst (λ (b : ℕ). IsHeld b pieces r) zero held in
    let same : (get_or own i e) ≡ g = ok_same (get_or own i e) g (sym (own_at os places modules first.object.relocations own i d e s.given lt) ∙ all_of rs others first modules gs i d e s.is s.all lt) in
    record {
      within = many rs others first modules gs i s.is s.all lt;
      begins = here;
      held = λ a hit. held.piece a (subst (λ (n : ℕ). is_within (plus (base_of places 0) r.address) n a ≡ true) size (subst (λ (b : ℕ). is_within b g.size a ≡ true) start hit));
      read = λ m.
          ap (λ (n : ℕ). read m n g.size) (start ∙ ap (λ (b : ℕ). plus b r.address) zero) ∙ ap (read m (plus 0 r.address)) size ∙ place_read m pieces r low;
      source = λ m from n word. value_source os places modules 0 r m from n (given.word ∙ ap (λ (w : Word). Ok w) word);
      seen = λ m from n k x word inside last hit.
          s.seen i e m from n k x (omega (arith, lt, own_count os places modules first.object.relocations own s.given)) (ap (λ (h : Meaning). h.word) same ∙ word) inside last hit;
    }

pub all_filled : (f : Filling) (rs : List Firm) (gs own : List Meaning) (modules : List Module) (p : Meaning → Bool) (first : Firm) (others : List Firm) (made : List Fill) → IsProgramScene f rs gs own modules p first others → AreProgramFills f first.object.relocations own made
    → made ≡ fills (memory_of rs gs) first.object.relocations
all_filled f rs gs own modules p first others made s zip =
    let os = objects_of rs in
    let places = slots_of rs in
    let relocs = first.object.relocations in
    let each_one : AllZip (IsOf f (memory_of rs gs)) relocs own =
    zip_by (IsOf f (memory_of rs gs)) relocs own (own_count os places modules relocs own s.given) (λ i d e lt bytes some by.
    let g = get_or gs i e in
    let same : g ≡ get_or own i e = ok_same g (get_or own i e) (sym (all_of rs others first modules gs i d e s.is s.all lt) ∙ own_at os places modules relocs own i d e s.given lt) in
    spot_filled f rs gs p i e first (get_or relocs i d) (get_or own i e).word bytes s.scene (spot_of f rs gs own modules p first others i d e s lt) (ap (λ (h : Meaning). h.word) same) by) in
    fills_same f (memory_of rs gs) relocs own made each_one zip

-- what is copied is of members of the walk
pub own_fills : (walk : List ℕ) (os : List Object) (places : List ℕ) (modules : List Module) (rs : List Reloc) (own : List Meaning) → length os ≡ length walk → each (meaning os places modules) (map (row 0) rs) ≡ Ok own → AreFillsOf walk own
own_fills walk os places modules rs own same is = λ k e lt.
    let count = own_count os places modules rs own is in
    let d : Reloc = some_reloc rs (omega (arith, lt, count)) in
    fill_of walk os places modules (get_or rs k d) (get_or own k e) same (own_at os places modules rs own k d e is (omega (arith, lt, count)))
  where
    some_reloc : (rs : List Reloc) → 0 < length rs → Reloc
    some_reloc [] some = absurd (omega (arith, some))
    some_reloc (r ∷ rs) some = r
