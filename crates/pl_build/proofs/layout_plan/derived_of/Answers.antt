use Rattle.pl_build.specs.Derived.{derived_of}
use Rattle.pl_build.proofs.layout_plan.derived_of.Goals as goal

pub returns : goal.returns
unfolding derived_of
returns c =
    rw (c.in_ok-strings.ensures, c.as_slice-5.ensures, c.as_slice-6.ensures, c.as_slice-7.ensures, c.in_ok-files.ensures, c.as_slice-4.ensures, c.in_ok-symbols.ensures, c.as_slice-3.ensures, c.in_ok-roles.ensures, c.as_slice-2.ensures, c.in_ok-needs.ensures, c.as_slice.ensures, c.in_ok-words.ensures)
