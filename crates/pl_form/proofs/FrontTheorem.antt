-- The whole of Back over the bytes where the original stood.
use Rattle.std.proofs.Common.{◌≡◌, ℕ, ◌+◌, true, List, [], ◌∷◌, ◌++◌, length, take, drop, Option, Some, refl, sym, ap, ◌∙◌, arith}
use Rattle.std.specs.Prelude.{◌==◌}
use Rattle.std.proofs.lemmas.Bool.Decides.{nat_tests}
use Rattle.std.proofs.lemmas.List.{length-append, take_at, drop_at, append-nil}
use Rattle.pl_base.specs.Windows.{Window, within, Put, put_all, own, are_in, IsIn, AllIn, Agree}
use Rattle.pl_base.proofs.WindowLaws.{length-within, all_in, agree_nowhere, agree_own}
use Rattle.pl_elf.specs.Headers.{header}
use Rattle.pl_elf.specs.declared.header.Header.{Header}
use Rattle.pl_undo.specs.declared.undo.Undo.{Undo}
use Rattle.pl_move.specs.Moves.{table_windows, IsSlot, all_moved, all_back}
use Rattle.pl_move.specs.declared.table.Table.{Table}
use Rattle.pl_move.proofs.MoveLaws.{length-all_moved, agree_all_back}
use Rattle.pl_form.specs.Back.{all_within, segments_window, sections_window, head_windows, headers_of, cut_at, spot_windows, memory_of, wanted, visible, Reader, stored_puts, with_places, with_tables, from_front, undo_of}
use Rattle.pl_form.specs.declared.parts.Spot.{Spot}
use Rattle.pl_form.proofs.FrontLaws.{own_moved, within_same, cut_own, visible_own, length-memory_of, IsReadable}
use Rattle.pl_form.proofs.HeadLaws.{headers_begin}

-- ---- each step where its tests hold

with_places_is : (r : Reader) (u : Undo) (d : Window) (rs : List Window) (bytes : List ℕ) (ps : List Spot) → r.spots u.headers (take d.size u.kept) (all_within rs bytes) ≡ Some ps → are_in (length bytes) (spot_windows ps) ≡ true → (length u.kept == d.size + wanted ps) ≡ true
    → with_places r u d rs bytes ≡ Some (put_all (visible ps (drop d.size u.kept)) bytes)
unfolding with_places
with_places_is r u d rs bytes ps e f g = rw (e, f, g) refl

with_tables_is : (r : Reader) (u : Undo) (d : Window) (ts : List Table) (rs : List Window) (front : List ℕ) → r.relocations u.headers (take d.size u.kept) ≡ Some rs → are_in (length front) (head_windows (header u.headers) ++ d ∷ []) ≡ true → are_in (length front) (table_windows ts) ≡ true
    → with_tables r u d ts front ≡ with_places r u d rs (all_back u.slot ts (put_all (stored_puts u d) front))
unfolding with_tables
with_tables_is r u d ts rs front e f g = rw (e, f, g) refl

from_front_is : (r : Reader) (u : Undo) (d : Window) (ts : List Table) (front : List ℕ) → r.dynamic u.headers ≡ Some d → r.tables u.headers (take d.size u.kept) ≡ Some ts → from_front r u front ≡ with_tables r u d ts front
unfolding from_front
from_front_is r u d ts front e f = rw (e, f) refl

-- ---- what the undo section stores

pub header_again : (o : List ℕ) → AllIn (length o) (head_windows (header o)) → header (headers_of o) ≡ header o
header_again o fits = headers_begin o (all_within (segments_window (header o) ∷ sections_window (header o) ∷ []) o) fits.0

dynamic_again : (d : Window) (ps : List Spot) (o : List ℕ) → IsIn (length o) d → take d.size (within d o ++ memory_of ps o) ≡ within d o
dynamic_again d ps o fits = take_at (within d o) (memory_of ps o) d.size (length-within d o fits)

places_again : (d : Window) (ps : List Spot) (o : List ℕ) → IsIn (length o) d → drop d.size (within d o ++ memory_of ps o) ≡ memory_of ps o
places_again d ps o fits = drop_at (within d o) (memory_of ps o) d.size (length-within d o fits)

heads_part : (size : ℕ) (o : List ℕ) (d : Window) → AllIn size (head_windows (header o) ++ d ∷ []) → AllIn size (head_windows (header o))
heads_part size o d h = (h.0, (h.1.0, (h.1.1.0, tt)))

dynamic_part : (size : ℕ) (o : List ℕ) (d : Window) → AllIn size (head_windows (header o) ++ d ∷ []) → IsIn size d
dynamic_part size o d h = h.1.1.1.0

stored_is : (slot cut shift : ℕ) (o : List ℕ) (d : Window) (ps : List Spot) (digest : Option (List ℕ)) → AllIn (length o) (head_windows (header o) ++ d ∷ []) → stored_puts (undo_of slot cut shift d ps o digest) d ≡ own (head_windows (header o) ++ d ∷ []) o
stored_is slot cut shift o d ps digest fits =
    let e1 = header_again o (heads_part (length o) o d fits) in
    let e2 = cut_own (head_windows (header o)) o [] (heads_part (length o) o d fits) in
    let e3 = dynamic_again d ps o (dynamic_part (length o) o d fits) in
    ap (λ (x : Header). cut_at (head_windows x) (headers_of o) ++ record { at = d.at; bytes = take d.size (within d o ++ memory_of ps o) } ∷ []) e1
    ∙ ap (λ (x : List Put). x ++ record { at = d.at; bytes = take d.size (within d o ++ memory_of ps o) } ∷ []) e2
    ∙ ap (λ (x : List ℕ). own (head_windows (header o)) o ++ record { at = d.at; bytes = x } ∷ []) e3

same_number : (m n : ℕ) → m ≡ n → (m == n) ≡ true
same_number m n h = grind (arith, nat_tests)

-- ---- the law

pub front_undone : (r : Reader) (o front : List ℕ) (d : Window) (ts : List Table) (rs : List Window) (ps : List Spot) (slot cut shift : ℕ) (digest : Option (List ℕ)) → IsReadable r o d ts rs ps → IsSlot slot
    → Agree ((head_windows (header o) ++ d ∷ []) ++ spot_windows ps) front (all_moved slot ts o) → from_front r (undo_of slot cut shift d ps o digest) front ≡ Some o
front_undone r o front d ts rs ps slot cut shift digest ok le h =
    let u : Undo = undo_of slot cut shift d ps o digest in
    let hs : List Window = head_windows (header o) ++ d ∷ [] in
    let hs_in : AllIn (length o) hs = all_in (length o) hs ok.heads_in in
    let ts_in : AllIn (length o) (table_windows ts) = all_in (length o) (table_windows ts) ok.tables_in in
    let ps_in : AllIn (length o) (spot_windows ps) = all_in (length o) (spot_windows ps) ok.spots_in in
    let d_in : IsIn (length o) d = dynamic_part (length o) o d hs_in in
    let moved_length : length (all_moved slot ts o) ≡ length o = length-all_moved slot ts o ts_in in
    let front_length : length front ≡ length o = h.size ∙ moved_length in
    let e1 : header (headers_of o) ≡ header o = header_again o (heads_part (length o) o d hs_in) in
    let e3 : take d.size u.kept ≡ within d o = dynamic_again d ps o d_in in
    let puts : own hs (all_moved slot ts o) ≡ stored_puts u d = own_moved slot ts hs o ts_in hs_in ok.heads_apart ∙ sym (stored_is slot cut shift o d ps digest hs_in) in
    let after_puts : Agree (spot_windows ps) (put_all (own hs (all_moved slot ts o)) front) (all_moved slot ts o) = agree_own hs (spot_windows ps) front (all_moved slot ts o) h (rw moved_length hs_in) in
    let b : List ℕ = all_back slot ts (put_all (stored_puts u d) front) in
    let after_back : Agree (spot_windows ps) b o = agree_all_back (spot_windows ps) slot ts (put_all (stored_puts u d) front) o (rw puts at after_puts) ts_in ok.tables_apart ok.bytes le in
    let rows : all_within rs b ≡ all_within rs o = within_same rs (spot_windows ps) b o after_back ok.relocations_in ok.relocations_apart in
    let e5 : drop d.size u.kept ≡ memory_of ps o = places_again d ps o d_in in
    let whole : Agree (spot_windows ps ++ []) b o = rw (append-nil (spot_windows ps)) after_back in
    let last : put_all (own (spot_windows ps) o) b ≡ o = agree_nowhere (put_all (own (spot_windows ps) o) b) o (agree_own (spot_windows ps) [] b o whole ps_in) in
    let step1 = from_front_is r u d ts front ok.dynamic (rw e3 ok.tables) in
    let step2 = with_tables_is r u d ts rs front (rw e3 ok.relocations) (rw (front_length, e1) ok.heads_in) (rw front_length ok.tables_in) in
    let kept_length : length u.kept ≡ d.size + wanted ps = length-append (within d o) (memory_of ps o) ∙ omega (arith, length-within d o d_in, length-memory_of ps o ps_in) in
    let step3 = with_places_is r u d rs b ps (rw (rows, e3) ok.spots) (rw after_back.size ok.spots_in) (same_number (length u.kept) (d.size + wanted ps) kept_length) in
    let text : visible ps (drop d.size u.kept) ≡ own (spot_windows ps) o = ap (visible ps) e5 ∙ visible_own ps o ps_in in
    step1 ∙ step2 ∙ step3 ∙ ap (λ (x : List Put). Some (put_all x b)) text ∙ ap (λ (x : List ℕ). Some x) last
