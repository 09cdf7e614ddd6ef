-- The tables of a plain recipe's file are loaded at their addresses.
use Rattle.std.proofs.Common.{◌≡◌, ℕ, ◌+◌, ◌-◌, ◌<◌, ◌≤◌, Bool, true, false, List, [], ◌∷◌, ◌++◌, Some, refl, sym, ap, subst, ◌∙◌, arith}
use Rattle.std.specs.Prelude.{nat_lt, codes, find, min}
use Rattle.std.specs.List.{AllByRecursion}
use Rattle.pl_base.specs.Bytes.{part}
use Rattle.pl_base.specs.Windows.{Window}
use Rattle.pl_base.proofs.SumLaws.{plus_small}
use Rattle.pl_elf.specs.declared.segment.Segment.{Segment}
use Rattle.pl_object.specs.FilePart.{loads_byte, loader, file_window, loaded}
use Rattle.std.proofs.lemmas.Bool.Decides.{nat_tests}
use Rattle.pl_build.specs.declared.layout.Tables.{Tables}
use Rattle.pl_build.specs.declared.layout_plan.LayoutPlan.{LayoutPlan}
use Rattle.pl_build.specs.declared.recipe.Settings.{Settings}
use Rattle.pl_build.specs.declared.roles.PlacedSection.{PlacedSection}
use Rattle.pl_build.specs.Dynamic.{place_of}
use Rattle.pl_build.specs.File.{sections_offset}
use Rattle.pl_build.specs.Layout.{end_of}
use Rattle.pl_build.specs.LayoutPlan.{plan_of, base_of}
use Rattle.pl_build.specs.Segments.{readable, first_load, second_load, dynamic_segment, has_data}
use Rattle.law_demo.specs.Loaded.{memory_of, IsLoadedSection, AreLoaded, TablesAreLoaded}
use Rattle.law_demo.specs.Standing.{Stands, AreStanding, AreLaid}
use Rattle.law_demo.proofs.ClauseLaws.{at_most, shown}
use Rattle.law_demo.proofs.FileLaws.{names_of, before_tables, before_long, begins_tables, made_is}
use Rattle.law_demo.proofs.HeadLaws.{base_small, plain_settings}
use Rattle.law_demo.proofs.HeadedLaws.{IsTable, laid_tables, found_place, dynamic_there, segments_shown, there_is}
use Rattle.law_demo.proofs.LaidLaws.{standing_front, tables_laid}

below_true : (a b : ℕ) → a < b → nat_lt a b ≡ true
below_true a b lt = grind (arith, nat_tests)

-- the first PT_LOAD of the file has each byte of the tables
found_first : (p : Segment → Bool) (b : Bool) (f s d : Segment) → p f ≡ true → find p (shown b f s d) ≡ Some f
found_first p true f s d h = rw h refl
found_first p false f s d h = rw h refl

first_loads : (s : Settings) (tables_end offset : ℕ) → offset < tables_end → loads_byte (base_of s + offset) (first_load s tables_end) ≡ true
unfolding loads_byte first_load readable
first_loads s tables_end offset lt = rw (at_most (base_of s) (base_of s + offset) (omega arith), below_true (base_of s + offset) (base_of s + tables_end) (omega (arith, lt))) refl

window_first : (s : Settings) (tables_end offset size : ℕ) (b : Bool) (second dynamic : Segment) → 0 < size → offset + size ≤ tables_end
    → file_window (shown b (first_load s tables_end) second dynamic) (record { at = base_of s + offset; size = size }) ≡ record { at = offset; size = size }
unfolding file_window first_load readable
window_first s tables_end offset size b second dynamic some within =
    let found : loader (shown b (first_load s tables_end) second dynamic) (base_of s + offset) ≡ Some (first_load s tables_end) =
    found_first (loads_byte (base_of s + offset)) b (first_load s tables_end) second dynamic (first_loads s tables_end offset (omega (arith, some, within))) in
    let at : 0 + (base_of s + offset - base_of s) ≡ offset = omega arith in
    let long : min size (base_of s + tables_end - (base_of s + offset)) ≡ size = omega (arith, within) in
    rw (found, at, long) refl

one_loaded : (p : LayoutPlan) (bytes : List ℕ) (ss : List Segment) (from : ℕ) (before : List PlacedSection) (place : PlacedSection)
    → file_window ss (record { at = base_of p.settings + place.offset; size = place.size }) ≡ record { at = place.offset; size = place.size } → place.offset < 1048576 → Stands p bytes from before place → IsLoadedSection p bytes ss before place
unfolding loaded
one_loaded p bytes ss from before place window low s =
    let at : place.addr ≡ base_of p.settings + place.offset = s.address ∙ plus_small (base_of p.settings) place.offset (omega (arith, low, base_small p.settings)) in
    let there : file_window ss (memory_of place) ≡ record { at = place.offset; size = place.size } = ap (λ (n : ℕ). file_window ss (record { at = n; size = place.size })) at ∙ window in
    record { window = there; holds = ap (λ (w : Window). part w.at w.size bytes) there ∙ s.holds }

all_loaded : (p : LayoutPlan) (bytes : List ℕ) (b : Bool) (second dynamic : Segment) (tables_end from : ℕ) (before places : List PlacedSection) → tables_end ≤ 1048576 → AllByRecursion (IsTable tables_end) places → AreStanding p bytes from before places
    → AreLoaded p bytes (shown b (first_load p.settings tables_end) second dynamic) before places
all_loaded p bytes b second dynamic tables_end from before [] fits all h = tt
all_loaded p bytes b second dynamic tables_end from before (place ∷ places) fits all h =
    let t = all.0 in (
      one_loaded p bytes (shown b (first_load p.settings tables_end) second dynamic) from before place (window_first p.settings tables_end place.offset place.size b second dynamic t.some t.within) (omega (arith, t.some, t.within, fits)) h.0,
      all_loaded p bytes b second dynamic tables_end (place.offset + place.size) (before ++ place ∷ []) places fits all.1 h.1,
    )

pub tables_loaded : TablesAreLoaded
tables_loaded r bytes plain e =
    let p : LayoutPlan = plan_of r in
    let m = made_is p bytes e in
    let t : Tables = m.0 in
    let shoff : ℕ = sections_offset p (end_of t) (names_of p) in
    let before : List ℕ = before_tables p t shoff in
    let laid : AreLaid p before t = tables_laid p t before (before_long p t shoff) m.1 in
    let b = begins_tables p t in
    let standing : AreStanding p bytes 1024 [] t.places = subst (λ (xs : List ℕ). AreStanding p xs 1024 [] t.places) (sym (m.2 ∙ b.is)) (standing_front p (before ++ t.bytes) b.rest 1024 [] t.places laid.standing) in
    let rows = laid_tables p t m.1 in
    let place : PlacedSection = place_of t.places (codes ".dynamic") in
    let d : IsTable (end_of t) place = found_place (IsTable (end_of t)) (codes ".dynamic") t.places rows.1 (dynamic_there r t plain m.1) in
    let all : AreLoaded p bytes (shown (has_data p.settings) (first_load p.settings (end_of t)) (second_load p.settings (end_of t)) (dynamic_segment place)) [] t.places =
    all_loaded p bytes (has_data p.settings) (second_load p.settings (end_of t)) (dynamic_segment place) (end_of t) 1024 [] t.places rows.0 rows.1 standing in
    (t, m.1, subst (λ (ss : List Segment). AreLoaded p bytes ss [] t.places) (sym (segments_shown p t (plain_settings r plain) (there_is place d.some))) all)
