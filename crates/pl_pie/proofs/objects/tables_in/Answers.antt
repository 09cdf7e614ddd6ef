use Rattle.std.proofs.Common.{◌≡◌, map, refl, ap, ◌∙◌}
use Rattle.pl_object.specs.Tables.{window_range}
use Rattle.pl_pie.specs.Fix.{windows_in}
use Rattle.pl_pie.proofs.objects.tables_in.Goals as goal

pub ranges_of-requires : goal.ranges_of-requires
ranges_of-requires c =
    rw (c.as_slice-all.ensures.value, c.in_ok-windows.ensures, c.as_slice-told.ensures.value, c.in_ok-tags.ensures, c.loaded.ensures.bytes, c.dynamic_memory.ensures, c.as_slice-segments.ensures, c.as_slice-sections.ensures) c.requires.low

pub returns : goal.returns
returns c =
    let same : c.as_slice-all.result.now ≡ windows_in c.args.file.now c.args.object.now =
    rw (c.as_slice-all.ensures.value, c.in_ok-windows.ensures, c.as_slice-told.ensures.value, c.in_ok-tags.ensures, c.loaded.ensures.bytes, c.dynamic_memory.ensures, c.as_slice-segments.ensures, c.as_slice-sections.ensures) refl in
    c.in_ok-tables.ensures ∙ ap (map window_range) same
