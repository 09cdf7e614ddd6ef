use Rattle.std.proofs.Common.{◌∙◌, ap}
use Rattle.pl_object.specs.FilePart.{nothing}
use Rattle.pl_elf.specs.Sweep.{sweep}
use Rattle.pl_elf.proofs.SweepLaws.{swept}
use Rattle.pl_object.proofs.overlaps.any_share.Goals as goal

pub returns : goal.returns
returns c =
    c.sweep.ensures ∙ ap (sweep nothing) c.deref.ensures.value ∙ swept c.args.windows.items c.sort_windows.new.windows.items c.sort_windows.ensures.same c.sort_windows.ensures.rising
