-- What a dynamic table says, and what refuses it.
use Rattle.std.specs.Prelude.{ℕ, ◌-◌, Bool, true, false, not, ◌&&◌, ◌==◌, nat_lt, List, Option, Some, None, Result, Ok, find, count_by}
use Rattle.pl_base.specs.Answers.{unless, unless_found}
use Rattle.pl_dyn.specs.Kinds.{is_unknown}
use Rattle.pl_dyn.specs.Entries.{tags, null_count, is_ended}
use Rattle.pl_dyn.specs.declared.constants.TheConstants.{DT_NEEDED}
use Rattle.pl_dyn.specs.declared.tags.Tag.{Tag}
use Rattle.pl_dyn.specs.declared.dynamic.Dynamic.{Dynamic}
use Rattle.pl_dyn.specs.declared.fault.DynFault.{DynFault}
use Rattle.pl_dyn.specs.declared.fault.DynFault.TheVariants.{NoEnd, UnknownTag, Twice, NoMemory}

abbrev pub is_memory : DynFault → Bool
is_memory NoMemory = true
is_memory _ = false

abbrev pub has_number : ℕ → Tag → Bool
has_number number tag = tag.number == number

-- whether more than one entry has a tag
unfoldable pub stands_twice : List Tag → ℕ → Bool
stands_twice tags number = nat_lt 1 (count_by (has_number number) tags)

unfoldable pub first_unknown : List Tag → Option Tag
first_unknown tags = find (λ tag. is_unknown tag.number) tags

-- the first entry whose tag stands twice, DT_NEEDED aside
unfoldable pub first_twice : List Tag → Option Tag
first_twice tags = find (λ tag. not (tag.number == DT_NEEDED) && stands_twice tags tag.number) tags

-- what a table says, or the first acceptance clause that refuses it
unfoldable pub read : List ℕ → Result Dynamic DynFault
read table =
    unless (not (is_ended table)) NoEnd
    (unless_found (first_unknown (tags table)) (λ tag. UnknownTag tag.number)
    (unless_found (first_twice (tags table)) (λ tag. Twice tag.number)
    (Ok (record { tags = tags table; spare = null_count table - 1 }))))

-- the first entry with a tag
unfoldable pub first_of : ℕ → List Tag → Option Tag
first_of number tags = find (has_number number) tags

abbrev pub value_in : Option Tag → Option ℕ
value_in (Some tag) = Some tag.value
value_in None = None

-- the value of the first entry with a tag, if there is one
unfoldable pub value_of : ℕ → List Tag → Option ℕ
value_of number tags = value_in (first_of number tags)
