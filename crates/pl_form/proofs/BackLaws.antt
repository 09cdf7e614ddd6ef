-- How an original is brought back, step by step.
use Rattle.std.proofs.Common.{◌≡◌, ℕ, ◌+◌, Bool, true, false, List, [], ◌∷◌, ◌++◌, length, take, Option, Some, None, Ok, Err, refl, sym, ap, ◌∙◌}
use Rattle.std.specs.Prelude.{◌&&◌, ◌==◌}
use Rattle.std.proofs.lemmas.Bool.{and_parts, eqb-true}
use Rattle.pl_base.specs.Windows.{Window, AllIn, are_in}
use Rattle.pl_base.proofs.WindowLaws.{all_in}
use Rattle.pl_dyn.specs.Entries.{tags}
use Rattle.pl_elf.specs.declared.header.Header.{Header}
use Rattle.pl_elf.specs.declared.section.Section.{Section}
use Rattle.pl_move.specs.Moves.{table_windows}
use Rattle.pl_move.specs.declared.table.Table.{Table}
use Rattle.pl_form.specs.Back.{◌>>=◌, when, head_windows, spot_windows, wanted, section_part, undo_section, has_undo_section, find_undo, front_of, restored, with_places, with_tables, from_front}
use Rattle.pl_form.specs.Found.{reader, stored_segments, stored_sections, dynamic_in, has_dynamic_table, has_tables, moved_tables, find_dynamic, find_tables, find_rows, find_spots}
use Rattle.pl_form.specs.declared.parts.Spot.{Spot}
use Rattle.pl_undo.specs.Reading.{undo_of}
use Rattle.pl_undo.specs.declared.fault.UndoFault.{UndoFault}
use Rattle.pl_undo.specs.declared.undo.Undo.{Undo}
use Rattle.pl_form.specs.Stored.{stored_headers, fits_places, fits_tables, kept_back, places_back, tables_back, original_by, fits_file}
use Rattle.pl_form.specs.declared.back.StoredHeaders.{StoredHeaders}

-- ---- a test and what follows it

when_none : {A B : Type 0} (b : Bool) (x : A) (y : Option B) → None ≡ when b (Some x) → None ≡ when b y
when_none true x y e = absurd cc
when_none false x y e = refl

when_some : {A : Type 0} (b : Bool) (x s : A) → Some s ≡ when b (Some x) → (b ≡ true) × (s ≡ x)
when_some true x s e = (refl, cc)
when_some false x s e = absurd cc

two_whens : {A B C : Type 0} (a : Bool) (b : A → Bool) (x : A) (y : A → B) (f : A → B → Option C) → (when a (Some x) >>= λ d. when (b d) (Some (y d)) >>= λ t. f d t) ≡ when (a && b x) (f x (y x))
two_whens false b x y f = refl
two_whens true b x y f = elim (b x) as (λ v. (when v (Some (y x)) >>= λ t. f x t) ≡ when v (f x (y x))) [ true ↦ refl | false ↦ refl ]

-- ---- the undo section

pub no_section : (file : List ℕ) → None ≡ when (has_undo_section file) (Some (undo_section file)) → None ≡ find_undo file
no_section file e = when_none (has_undo_section file) (undo_section file) _ e

section_is : (file : List ℕ) (s : Section) → Some s ≡ when (has_undo_section file) (Some (undo_section file)) → (has_undo_section file ≡ true) × (s ≡ undo_section file)
section_is file s e = when_some (has_undo_section file) (undo_section file) s e

pub undo_is : (file bytes : List ℕ) (s : Section) (u : Undo) → Some s ≡ when (has_undo_section file) (Some (undo_section file)) → bytes ≡ section_part s file → undo_of bytes ≡ Ok u → Some u ≡ find_undo file
undo_is file bytes s u e is read =
    let p = section_is file s e in
    let there : undo_of (section_part (undo_section file) file) ≡ Ok u = ap (λ (x : Section). undo_of (section_part x file)) (sym p.1) ∙ ap undo_of (sym is) ∙ read in
    rw (p.0, there) refl

pub bad_undo : (file bytes : List ℕ) (s : Section) (fault : UndoFault) → Some s ≡ when (has_undo_section file) (Some (undo_section file)) → bytes ≡ section_part s file → undo_of bytes ≡ Err fault → None ≡ find_undo file
bad_undo file bytes s fault e is read =
    let p = section_is file s e in
    let there : undo_of (section_part (undo_section file) file) ≡ Err fault = ap (λ (x : Section). undo_of (section_part x file)) (sym p.1) ∙ ap undo_of (sym is) ∙ read in
    rw (p.0, there) refl

-- ---- the original

from_front_is : (u : Undo) (front : List ℕ) → from_front reader u front ≡ original_by u (stored_headers u.headers) front
unfolding from_front with_tables with_places find_dynamic find_tables find_rows find_spots original_by tables_back places_back kept_back
from_front_is u front =
    let ss = stored_segments u.headers in
    let secs = stored_sections u.headers in
    two_whens (has_dynamic_table ss) (λ (d : Window). has_tables ss secs (tags (take d.size u.kept))) (dynamic_in ss) (λ (d : Window). moved_tables ss secs (tags (take d.size u.kept)))
    (λ (d : Window) (ts : List Table). with_tables reader u d ts front)

pub restored_none : (u : Undo) (file : List ℕ) → false ≡ fits_file (length file) u → None ≡ restored reader u file
unfolding restored
restored_none u file e = rw (sym e) refl

pub restored_is : (u : Undo) (file front : List ℕ) (s : StoredHeaders) (o : Option (List ℕ)) → true ≡ fits_file (length file) u → front ≡ front_of u file → s ≡ stored_headers u.headers → o ≡ original_by u s front → o ≡ restored reader u file
unfolding restored
restored_is u file front s o fits f h is =
    let whole : restored reader u file ≡ from_front reader u (front_of u file) = rw (sym fits) refl in
    is ∙ ap (λ (x : StoredHeaders). original_by u x front) h ∙ ap (original_by u (stored_headers u.headers)) f ∙ sym (from_front_is u (front_of u file)) ∙ sym whole

-- ---- what the tests say

pub places_fit : (size : ℕ) (u : Undo) (dynamic : ℕ) (ps : List Spot) → true ≡ fits_places size u dynamic ps → AllIn size (spot_windows ps) × (length u.kept ≡ dynamic + wanted ps)
places_fit size u dynamic ps e =
    let p = and_parts (are_in size (spot_windows ps)) (length u.kept == dynamic + wanted ps) (sym e) in
    (all_in size (spot_windows ps) p.0, eqb-true (length u.kept) (dynamic + wanted ps) p.1)

pub tables_fit : (size : ℕ) (h : Header) (d : Window) (ts : List Table) → true ≡ fits_tables size h d ts → AllIn size (head_windows h ++ d ∷ []) × AllIn size (table_windows ts)
tables_fit size h d ts e =
    let p = and_parts (are_in size (head_windows h ++ d ∷ [])) (are_in size (table_windows ts)) (sym e) in
    (all_in size (head_windows h ++ d ∷ []) p.0, all_in size (table_windows ts) p.1)
