use Rattle.std.proofs.Common.{◌∙◌, ◌≡◌, length, ap, arith}
use Rattle.std.proofs.lemmas.List.{take_at}
use Rattle.pl_object.specs.Runs.{any_run}
use Rattle.pl_object.specs.Twins.{are_twins, entry_key}
use Rattle.pl_object.proofs.TwinLaws.{twins_tell}
use Rattle.pl_object.proofs.twins.duplicate_definer.Goals as goal

pub returns-then-are_few : goal.returns-then-are_few
returns-then-are_few c =
    let long : length c.sort_entries.new.entries ≡ c.in_ok-sorted.sorted.len = omega (arith, c.sort_entries.ensures.len, c.deref_mut.ensures.len, ap length c.deref_mut.ensures.value) in
    let back : c.deref-definers.result.now ≡ c.sort_entries.new.entries = c.deref-definers.ensures.value ∙ take_at c.sort_entries.new.entries _ c.in_ok-sorted.sorted.len long in
    let same = rw (c.deref_mut.ensures.value, c.in_ok-sorted.ensures) at c.sort_entries.ensures.same in
    c.any_run.ensures
    ∙ ap (any_run (are_twins c.args.versions.now c.args.program c.args.symbols.now) entry_key) back
    ∙ twins_tell c.args.versions.now c.args.program c.args.symbols.now c.sort_entries.new.entries same c.sort_entries.ensures.rising
