-- The link tables of a file whose headers are read are ranges of 64 bits.
use Rattle.std.proofs.Common.{◌≡◌, ◌<◌, ◌^◌, ℕ, true, false, List, length, Ok, refl, ap}
use Rattle.std.specs.List.{All}
use Rattle.pl_base.specs.Windows.{end_of}
use Rattle.pl_elf.specs.Headers.{segments, sections}
use Rattle.pl_elf.specs.Clauses.{is_static_file}
use Rattle.pl_dyn.specs.declared.tags.Tag.{Tag}
use Rattle.pl_dyn.specs.declared.dynamic.Dynamic.{Dynamic}
use Rattle.pl_object.specs.Tables.{link_windows, static_windows}
use Rattle.pl_object.specs.TableClauses.{check_tables}
use Rattle.pl_base.specs.Answers.{because}
use Rattle.pl_object.specs.Refusals.{of_dynamic}
use Rattle.pl_object.specs.Reads.{IsRead, headers, dynamic, layout, linking, checked, dynamic_object, static_program, parts}
use Rattle.pl_object.specs.declared.headers.Headers.{Headers}
use Rattle.pl_object.specs.declared.layout.Layout.{Layout}
use Rattle.pl_object.specs.declared.linking.Linking.{Linking}
use Rattle.pl_object.proofs.ExtentLaws.{link_windows_in, static_windows_in, windows_fit}

pub layout_fits : (bytes : List ℕ) (f : Headers) (tags : List Tag) (l : Linking) (places : Layout) → places ≡ layout bytes f tags l → length bytes < 2 ^ 32 → IsRead bytes f → is_static_file bytes f.header ≡ false
    → All (λ w. end_of w < 2 ^ 64) places.windows
unfolding layout headers
layout_fits bytes f tags l places is few read dynamic =
    let same_segments : f.segments ≡ segments bytes f.header = ap (λ (g : Headers). g.segments) read.same in
    let same_sections : f.sections ≡ sections bytes f.header = ap (λ (g : Headers). g.sections) read.same in
    let windows : places.windows ≡ link_windows f.header f.segments f.sections tags = ap (λ (p : Layout). p.windows) is in
    rw (windows, same_segments, same_sections) (windows_fit (length bytes) _ few (link_windows_in bytes f.header tags read.accepted dynamic))

pub static_fits : (bytes : List ℕ) (f : Headers) → length bytes < 2 ^ 32 → IsRead bytes f → All (λ w. end_of w < 2 ^ 64) (static_windows f.header f.sections)
unfolding headers
static_fits bytes f few read =
    let same_sections : f.sections ≡ sections bytes f.header = ap (λ (g : Headers). g.sections) read.same in
    rw same_sections (windows_fit (length bytes) _ few (static_windows_in bytes f.header read.accepted))

-- the clauses from 12 on, as far as they have come
pub dynamic_object_is : (bytes : List ℕ) (f : Headers) (d : Dynamic) (u : Unit {0}) (l : Linking) (places : Layout) → check_tables bytes f.header f.segments f.sections d.tags ≡ Ok u → linking bytes f d.tags ≡ Ok l → places ≡ layout bytes f d.tags l
    → dynamic_object bytes f d ≡ checked bytes f d l places
unfolding dynamic_object
dynamic_object_is bytes f d u l places tables names is = rw (tables, names, is) refl

-- a static program goes by its size alone, every other file by its dynamic table
pub parts_static : (bytes : List ℕ) (f : Headers) → is_static_file bytes f.header ≡ true → parts bytes f ≡ static_program bytes f
unfolding parts
parts_static bytes f is = rw is refl

pub parts_dynamic : (bytes : List ℕ) (f : Headers) (d : Dynamic) → is_static_file bytes f.header ≡ false → because of_dynamic (dynamic bytes f.segments) ≡ Ok d → parts bytes f ≡ dynamic_object bytes f d
unfolding parts
parts_dynamic bytes f d not_static read = rw (not_static, read) refl
