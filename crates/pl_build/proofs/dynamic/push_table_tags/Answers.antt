use Rattle.pl_build.specs.Dynamic.{table_tags}
use Rattle.pl_build.proofs.dynamic.push_table_tags.Goals as goal

pub returns : goal.returns
unfolding table_tags
returns c =
    rw (c.is_there.ensures, c.is_there-2.ensures, c.tag.ensures, c.tag-2.ensures, c.tag-3.ensures, c.tag-4.ensures, c.tag-5.ensures, c.tag-6.ensures, c.tag-7.ensures, c.place_of-hash.ensures, c.place_of-gnu_hash.ensures, c.place_of-strings.ensures, c.place_of-symbols.ensures, c.layout.ensures) at c.push_chosen.ensures
