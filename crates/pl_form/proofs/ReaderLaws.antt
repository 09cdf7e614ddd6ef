-- What acceptance says of an original, in pl_object's words, makes it readable for Back.
use Rattle.std.proofs.Common.{◌≡◌, ℕ, ◌*◌, ◌/◌, ◌≤◌, true, false, List, [], ◌∷◌, ◌++◌, length, map, refl, arith, inl, inr}
use Rattle.std.specs.List.{list_any}
use Rattle.std.proofs.lemmas.Bool.{or_parts, leb-true, le-leb}
use Rattle.pl_base.specs.Bytes.{IsBytes}
use Rattle.pl_base.specs.Windows.{Window, end_of, share, any_share, are_in, IsIn, AllIn, AreApart, IsApart}
use Rattle.pl_base.proofs.WindowLaws.{none_share, not_share, apart_turned}
use Rattle.pl_elf.specs.Headers.{header}
use Rattle.pl_elf.specs.Clauses.{segment_passes}
use Rattle.pl_elf.specs.declared.header.Header.{Header}
use Rattle.pl_elf.specs.declared.segment.Segment.{Segment}
use Rattle.pl_elf.specs.declared.section.Section.{Section}
use Rattle.pl_dyn.specs.declared.tags.Tag.{Tag}
use Rattle.pl_object.specs.FilePart.{file_window}
use Rattle.pl_object.specs.Tables.{main_windows, symtab_windows, dynamic_memory, symbols_memory, rela_memory, jmprel_memory, relr_memory}
use Rattle.pl_object.specs.PlaceClauses.{last_load}
use Rattle.pl_object.specs.TableClauses.{meets}
use Rattle.pl_object.proofs.ExtentLaws.{file_window_in}
use Rattle.std.proofs.Math.Nat.{mul-div-le}
use Rattle.pl_move.specs.Moves.{table_windows}
use Rattle.pl_move.specs.Objects.{rows_of}
use Rattle.pl_move.specs.declared.kind.RowKind.TheVariants.{PackedAddress}
use Rattle.pl_move.proofs.ObjectLaws.{rows_in}
use Rattle.pl_move.specs.declared.kind.RowKind.TheVariants.{SymbolValue}
use Rattle.pl_move.specs.declared.kind.RowKind.TheVariants.{RelocationPlace}
use Rattle.pl_move.specs.declared.kind.RowKind.TheVariants.{RelativeAddend}
use Rattle.pl_form.specs.Back.{head_windows, header_window, segments_window, sections_window, spot_windows}
use Rattle.pl_form.specs.Loads.{spot_of, spots_of}
use Rattle.pl_form.specs.Found.{has_dynamic_table, find_dynamic, symbols_in, rela_in, jmprel_in, packed_in, symtab_tables, moved_tables, has_tables, find_tables, find_rows, zeros_from, find_spots, reader, ss_of, secs_of, d_of, tags_of, rs_of, places_of, ps_of}
use Rattle.pl_move.proofs.MoveLaws.{AllApart}
use Rattle.pl_form.proofs.FrontLaws.{AllAway, IsReadable}
use Rattle.pl_form.proofs.StoredLaws.{segments_stored, sections_stored}

-- what acceptance says, by the header, the segments, the sections, the tags and the places of the original
pub record IsAcceptedAs (o : List ℕ) (h : Header) (ss : List Segment) (secs : List Section) (ts : List Tag) (places : List Window) : Type 0 where
  pub bytes : IsBytes o
  -- clause 5
  pub heads : AllIn (length o) (head_windows h)
  pub files : list_any (segment_passes o false) ss ≡ false
  pub symtabs : AllIn (length o) (symtab_windows secs)
  -- clauses 4, 6, 9
  pub dynamic : has_dynamic_table ss ≡ true
  -- clauses 12, 14
  pub tables : has_tables ss secs ts ≡ true
  pub overlap : any_share (main_windows h ss secs ts) ≡ false
  pub packed : meets (main_windows h ss secs ts) (packed_in ss ts) ≡ false
  -- clause 26
  pub clear : list_any (meets (packed_in ss ts ∷ main_windows h ss secs ts)) (map (file_window ss) places) ≡ false

abbrev pub IsAccepted : List ℕ → Type 0
IsAccepted o = IsAcceptedAs o (header o) (ss_of o) (secs_of o) (tags_of o) (places_of o)

-- ---- windows

window_in : (o : List ℕ) (m : Window) → IsAccepted o → IsIn (length o) (file_window (ss_of o) m)
window_in o m is = leb-true (end_of (file_window (ss_of o) m)) (length o) (file_window_in o (ss_of o) m is.files)

are_in_from : (n : ℕ) (ws : List Window) → AllIn n ws → are_in n ws ≡ true
are_in_from n [] h = refl
are_in_from n (w ∷ ws) h = rw (le-leb (end_of w) n h.0, are_in_from n ws h.1) refl

-- whole rows of a window are apart from what it is apart from
rows_apart : (k : ℕ) (v w : Window) → AreApart v w → AreApart v (record { at = w.at; size = k * (w.size / k) })
rows_apart k v w (inl le) = inl le
rows_apart k v w (inr (inl le)) = let m : k * (w.size / k) ≤ w.size = mul-div-le w.size k in inr (inl (omega (arith, le, m)))
rows_apart k v w (inr (inr (inl none))) = inr (inr (inl none))
rows_apart k v w (inr (inr (inr none))) = let m : k * (w.size / k) ≤ w.size = mul-div-le w.size k in inr (inr (inr (omega (arith, none, m))))

symtab_rows_in : (n : ℕ) (ws : List Window) → AllIn n ws → AllIn n (table_windows (symtab_tables ws))
symtab_rows_in n [] h = tt
symtab_rows_in n (w ∷ ws) h = (rows_in n SymbolValue w h.0, symtab_rows_in n ws h.1)

symtab_rows_apart : (v : Window) (ws : List Window) → IsApart v ws → IsApart v (table_windows (symtab_tables ws))
symtab_rows_apart v [] h = tt
symtab_rows_apart v (w ∷ ws) h = (rows_apart 24 v w h.0, symtab_rows_apart v ws h.1)

-- a window apart from the tables and the SYMTABs is apart from the tables that move
moved_apart : (v symbols rela jmprel packed : Window) (symtabs : List Window) → AreApart v symbols → AreApart v rela → AreApart v jmprel → AreApart v packed → IsApart v symtabs
    → IsApart v (table_windows (rows_of SymbolValue symbols ∷ rows_of RelocationPlace rela ∷ rows_of RelativeAddend rela ∷ rows_of RelocationPlace jmprel ∷ rows_of RelativeAddend jmprel ∷ rows_of PackedAddress packed ∷ symtab_tables symtabs))
moved_apart v symbols rela jmprel packed symtabs a b c p d =
    (rows_apart 24 v symbols a, (rows_apart 24 v rela b, (rows_apart 24 v rela b, (rows_apart 24 v jmprel c, (rows_apart 24 v jmprel c, (rows_apart 8 v packed p, symtab_rows_apart v symtabs d))))))

-- ---- places and tables

one_clear : (w : Window) (tables : List Window) → list_any (share w) tables ≡ false → IsApart w tables
one_clear w [] none = tt
one_clear w (t ∷ ts) none = let p = or_parts (share w t) (list_any (share w) ts) none in (not_share w t p.0, one_clear w ts p.1)

pub all_clear : (ss : List Segment) (start : ℕ) (tables places : List Window) → list_any (meets tables) (map (file_window ss) places) ≡ false → AllAway (spot_windows (spots_of ss start places)) tables
unfolding spot_of
all_clear ss start tables [] none = tt
all_clear ss start tables (p ∷ ps) none =
    let q = or_parts (meets tables (file_window ss p)) (list_any (meets tables) (map (file_window ss) ps)) none in
    (one_clear (file_window ss p) tables q.0, all_clear ss start tables ps q.1)

head_turned : (t : Window) (ts vs : List Window) → AllAway vs (t ∷ ts) → IsApart t vs
head_turned t ts [] h = tt
head_turned t ts (v ∷ vs) h = (apart_turned v t h.0.0, head_turned t ts vs h.1)

tail_away : (t : Window) (ts vs : List Window) → AllAway vs (t ∷ ts) → AllAway vs ts
tail_away t ts [] h = tt
tail_away t ts (v ∷ vs) h = (h.0.1, tail_away t ts vs h.1)

away_turned : (ts vs : List Window) → AllAway vs ts → AllAway ts vs
away_turned [] vs h = tt
away_turned (t ∷ ts) vs h = (head_turned t ts vs h, away_turned ts vs (tail_away t ts vs h))

sub_apart : (k : ℕ) (t : Window) (vs : List Window) → IsApart t vs → IsApart (record { at = t.at; size = k * (t.size / k) }) vs
sub_apart k t [] h = tt
sub_apart k t (v ∷ vs) h = (apart_turned v (record { at = t.at; size = k * (t.size / k) }) (rows_apart k v t (apart_turned t v h.0)), sub_apart k t vs h.1)

symtabs_clear : (ws vs : List Window) → AllAway ws vs → AllApart (symtab_tables ws) vs
symtabs_clear [] vs h = tt
symtabs_clear (w ∷ ws) vs h = (sub_apart 24 w vs h.0, symtabs_clear ws vs h.1)

spots_within : (o : List ℕ) (start : ℕ) (places : List Window) → IsAccepted o → AllIn (length o) (spot_windows (spots_of (ss_of o) start places))
unfolding spot_of
spots_within o start [] is = tt
spots_within o start (p ∷ ps) is = (window_in o p is, spots_within o start ps is)

-- ---- the whole

pub readable : (o : List ℕ) → IsAccepted o → IsReadable reader o (d_of o) (moved_tables (ss_of o) (secs_of o) (tags_of o)) (rs_of o) (ps_of o)
unfolding find_dynamic find_tables find_rows find_spots main_windows
readable o is =
    let h = header o in
    let ss = ss_of o in
    let secs = secs_of o in
    let ts = tags_of o in
    let n = length o in
    let symtabs = symtab_windows secs in
    let seg = segments_stored o is.heads in
    let sec = sections_stored o is.heads in
    let d_in = window_in o (dynamic_memory ss) is in
    let s_in = window_in o (symbols_memory ts secs) is in
    let r_in = window_in o (rela_memory ts) is in
    let j_in = window_in o (jmprel_memory ts) is in
    let p_in = window_in o (relr_memory ts) is in
    let apart = none_share (main_windows h ss secs ts) is.overlap in
    let a0 = apart.0 in let a1 = apart.1.0 in let a2 = apart.1.1.0 in let a3 = apart.1.1.1.0 in
    let k = packed_in ss ts in
    let p = one_clear k (main_windows h ss secs ts) is.packed in
    let p0 = apart_turned k header_window p.0 in
    let p1 = apart_turned k (segments_window h) p.1.0 in
    let p2 = apart_turned k (sections_window h) p.1.1.0 in
    let p3 = apart_turned k (d_of o) p.1.1.1.0 in
    let sy = symbols_in ss secs ts in
    let re = rela_in ss ts in
    let jm = jmprel_in ss ts in
    let vs = spot_windows (ps_of o) in
    let all = packed_in ss ts ∷ main_windows h ss secs ts in
    let clear = away_turned all (spot_windows (ps_of o)) (all_clear ss (zeros_from (last_load ss)) all (places_of o) is.clear) in
    let c = clear.1.1.1.1.1 in
    record {
      dynamic = rw (seg, is.dynamic) refl;
      tables = rw (seg, sec, is.tables) refl;
      relocations = rw (seg, sec) refl;
      spots = rw seg refl;
      heads_in = are_in_from n (head_windows h ++ d_of o ∷ []) (is.heads.0, (is.heads.1.0, (is.heads.1.1.0, (d_in, tt))));
      tables_in = are_in_from n (table_windows (moved_tables ss secs ts)) (
        rows_in n SymbolValue (symbols_in ss secs ts) s_in,
        (
          rows_in n RelocationPlace (rela_in ss ts) r_in,
          (
            rows_in n RelativeAddend (rela_in ss ts) r_in,
            (rows_in n RelocationPlace (jmprel_in ss ts) j_in, (rows_in n RelativeAddend (jmprel_in ss ts) j_in, (rows_in n PackedAddress (packed_in ss ts) p_in, symtab_rows_in n symtabs is.symtabs))),
          ),
        ),
      );
      relocations_in = (r_in, (j_in, (p_in, (s_in, tt))));
      spots_in = are_in_from n (spot_windows (ps_of o)) (spots_within o (zeros_from (last_load ss)) (places_of o) is);
      heads_apart = (
        moved_apart header_window sy re jm k symtabs a0.1.1.1.0 a0.1.1.1.1.0 a0.1.1.1.1.1.0 p0 a0.1.1.1.1.1.1,
        (
          moved_apart (segments_window h) sy re jm k symtabs a1.1.1.0 a1.1.1.1.0 a1.1.1.1.1.0 p1 a1.1.1.1.1.1,
          (
            moved_apart (sections_window h) sy re jm k symtabs a2.1.0 a2.1.1.0 a2.1.1.1.0 p2 a2.1.1.1.1,
            (moved_apart (d_of o) sy re jm k symtabs a3.0 a3.1.0 a3.1.1.0 p3 a3.1.1.1, tt),
          ),
        ),
      );
      tables_apart = (sub_apart 24 sy vs c.0, (sub_apart 24 re vs c.1.0, (sub_apart 24 re vs c.1.0, (sub_apart 24 jm vs c.1.1.0, (sub_apart 24 jm vs c.1.1.0, (sub_apart 8 k vs clear.0, symtabs_clear symtabs vs c.1.1.1))))));
      relocations_apart = (c.1.0, (c.1.1.0, (clear.0, (c.0, tt))));
      bytes = is.bytes;
    }
