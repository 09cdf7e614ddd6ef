-- What the file of one member loads, and the rows one meaning after the other.
use Rattle.std.proofs.Common.{◌≡◌, ℕ, ◌+◌, ◌-◌, ◌<◌, List, [], ◌∷◌, ◌++◌, length, take, drop, get_or, Option, Some, None, refl, sym, ap, subst, ◌∙◌, arith}
use Rattle.std.specs.List.{filter_map}
use Rattle.std.specs.Option.{option_to_list}
use Rattle.std.proofs.lemmas.List.{append-nil, take_more, drop_more}
use Rattle.std.proofs.lemmas.List.Elements.{filter_map-append}
use Rattle.std.proofs.lemmas.Option.{slice_get-get_or}
use Rattle.pl_base.specs.Memory.{Piece, layered, read}
use Rattle.pl_image.specs.Image.{all_pieces, AreLoaded}
use Rattle.pl_image.specs.declared.loaded_object.LoadedObject.{LoadedObject}
use Rattle.pl_image.proofs.PlacedLaws.{alone}
use Rattle.pl_lists.specs.declared.conflict_row.ConflictRow.{ConflictRow}
use Rattle.pl_value.specs.declared.meaning.Meaning.{Meaning}
use Rattle.pl_conflict.specs.Conflicts.{pieces_in, held, row_of, rows_of}

abbrev none : LoadedObject
none = record { pieces = []; mask = record { loads = []; tables = [] } }

-- the part of a list that is one row
one_of : (files : List LoadedObject) (m k : ℕ) → k ≡ 1 → m < length files → take k (drop m files) ≡ get_or files m none ∷ []
one_of files m k is lt = ap (λ (n : ℕ). take n (drop m files)) is ∙ ap (take 1) (drop_more files m none lt)

one : (m : ℕ) → m + 1 - m ≡ 1
one m = omega arith

pub one_loaded : (files : List LoadedObject) (m : ℕ) → AreLoaded files → m < length files → AreLoaded (take (m + 1 - m) (drop m files))
one_loaded files m are lt = subst AreLoaded (sym (one_of files m (m + 1 - m) (one m) lt)) (alone (get_or files m none) (are.ascend m none lt) (are.fit m none lt))

pub held_is : (files : List LoadedObject) (m start : ℕ) → m < length files → read (layered (all_pieces (take (m + 1 - m) (drop m files)))) start 8 ≡ held files m start
unfolding held
held_is files m start lt =
    ap (λ (ls : List LoadedObject). read (layered (all_pieces ls)) start 8) (one_of files m (m + 1 - m) (one m) lt)
    ∙ ap (λ (ps : List Piece). read (layered ps) start 8) (append-nil (get_or files m none).pieces)
    ∙ sym (ap (λ (o : Option LoadedObject). read (layered (pieces_in o)) start 8) (slice_get-get_or files m none lt))

-- ---- rows

single : {X Y : Type 0} (h : X → Option Y) (x : X) (o : Option Y) → h x ≡ o → filter_map h (x ∷ []) ≡ option_to_list o
single h x None is = rw is refl
single h x (Some y) is = rw is refl

-- the rows of one meaning more
pub rows_one : (files : List LoadedObject) (gs : List Meaning) (g : Meaning) (o : Option ConflictRow) → o ≡ row_of files g.member g.start g.word → rows_of files gs ++ option_to_list o ≡ rows_of files (gs ++ g ∷ [])
unfolding rows_of
rows_one files gs g o made =
    let h : Meaning → Option ConflictRow = λ g. row_of files g.member g.start g.word in
    ap (λ (ys : List ConflictRow). filter_map h gs ++ ys) (sym (single h g o (sym made))) ∙ sym (filter_map-append h gs (g ∷ []))

-- and of others
pub rows_both : (files : List LoadedObject) (gs hs : List Meaning) → rows_of files gs ++ rows_of files hs ≡ rows_of files (gs ++ hs)
unfolding rows_of
rows_both files gs hs = sym (filter_map-append (λ g. row_of files g.member g.start g.word) gs hs)

pub rows_more : (files : List LoadedObject) (gs : List Meaning) (i : ℕ) (d : Meaning) (front new : List ConflictRow) (o : Option ConflictRow) → i < length gs → o ≡ row_of files (get_or gs i d).member (get_or gs i d).start (get_or gs i d).word → new ≡ front ++ option_to_list o
    → front ≡ rows_of files (take i gs) → new ≡ rows_of files (take (i + 1) gs)
rows_more files gs i d front new o lt made more so_far =
    more ∙ ap (λ (ys : List ConflictRow). ys ++ option_to_list o) so_far ∙ rows_one files (take i gs) (get_or gs i d) o made ∙ ap (rows_of files) (sym (take_more gs i d lt))
