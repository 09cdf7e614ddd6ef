use Rattle.pl_build.specs.Dynamic.{version_tags}
use Rattle.pl_build.proofs.dynamic.push_version_tags.Goals as goal

pub returns : goal.returns
unfolding version_tags
returns c =
    rw (c.is_there.ensures, c.is_there-2.ensures, c.is_there-3.ensures, c.is_there-4.ensures, c.is_there-5.ensures, c.tag.ensures, c.tag-2.ensures, c.tag-3.ensures, c.tag-4.ensures, c.tag-5.ensures, c.place_of-words.ensures, c.place_of-defined.ensures, c.place_of-needed.ensures, c.as_slice.ensures, c.as_slice-2.ensures, c.layout.ensures, c.layout-2.ensures) at c.push_chosen.ensures
