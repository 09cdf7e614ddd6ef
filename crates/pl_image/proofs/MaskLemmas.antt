-- The addresses at which file bytes of tables are loaded.
use Rattle.std.proofs.Common.{◌≡◌, ℕ, ◌+◌, ◌-◌, ◌<◌, ◌≤◌, min, Bool, true, false, List, [], ◌∷◌, refl, sym, ap, ◌∙◌, arith, inl, inr}
use Rattle.std.specs.Prelude.{◌&&◌, ◌||◌, nat_le, nat_lt}
use Rattle.std.specs.List.{list_any}
use Rattle.std.proofs.lemmas.Bool.{cases_Bool}
use Rattle.std.proofs.lemmas.Bool.Decides.{nat_tests}
use Rattle.std.proofs.Math.Bool.{and-false}
use Rattle.pl_base.specs.Memory.{is_within}
use Rattle.pl_base.proofs.MemoryLaws.{within_true}
use Rattle.pl_elf.specs.declared.range.Range.{Range}
use Rattle.pl_image.specs.declared.mask.Load.{Load}
use Rattle.pl_image.specs.declared.mask.Mask.{Mask}
use Rattle.pl_elf.specs.Ranges.{has}
use Rattle.pl_image.specs.Loads.{loads_table, is_masked}

-- ---- a part of a file and a table

-- the first and the last offset in the part that are the table's
module _ (start offset size from to a : ℕ) where
  abbrev low : ℕ
  low = from - offset

  abbrev high : ℕ
  high = min (to - offset) size

  pub crossed : low < high → (nat_le (start + low) a && nat_lt a (start + high)) ≡ (is_within start size a && (nat_le from (offset + (a - start)) && nat_lt (offset + (a - start)) to))
  crossed some = grind (arith, nat_tests)

  pub not_crossed : high ≤ low → (is_within start size a && (nat_le from (offset + (a - start)) && nat_lt (offset + (a - start)) to)) ≡ false
  not_crossed none = grind (arith, nat_tests)

-- ---- tables

and_or : (w x y : Bool) → ((w && x) || (w && y)) ≡ (w && (x || y))
and_or true x y = refl
and_or false x y = refl

tables_of : (a : ℕ) (load : Load) (rs : List Range) → list_any (loads_table a load) rs ≡ (is_within load.start load.size a && list_any (has (load.offset + (a - load.start))) rs)
tables_of a load [] = sym (and-false (is_within load.start load.size a))
tables_of a load (r ∷ rs) =
    ap (λ (b : Bool). loads_table a load r || b) (tables_of a load rs)
    ∙ and_or (is_within load.start load.size a) (has (load.offset + (a - load.start)) r) (list_any (has (load.offset + (a - load.start))) rs)

near_by : (start offset size a : ℕ) → is_within start size a ≡ true → offset + (a - start) < offset + size
near_by start offset size a hit = let within = within_true start size a hit in omega (arith, within.0, within.1)

-- the tables near a part of a file
pub near_tables : (a : ℕ) (load : Load) (near tables : List Range) → ((k : ℕ) → load.offset ≤ k → k < load.offset + load.size → list_any (has k) near ≡ list_any (has k) tables)
    → list_any (loads_table a load) near ≡ list_any (loads_table a load) tables
near_tables a load near tables same =
    tables_of a load near
    ∙ elim (cases_Bool (is_within load.start load.size a)) [
      | inr out ↦ rw out refl
      | inl hit ↦ rw hit (same (load.offset + (a - load.start)) (omega arith) (near_by load.start load.offset load.size a hit))
    ]
    ∙ sym (tables_of a load tables)

-- other tables with the same bytes
masked_by : (a : ℕ) (loads : List Load) (tables kept : List Range) → ((k : ℕ) → list_any (has k) kept ≡ list_any (has k) tables)
    → list_any (λ l. list_any (loads_table a l) kept) loads ≡ list_any (λ l. list_any (loads_table a l) tables) loads
masked_by a [] tables kept same = refl
masked_by a (l ∷ ls) tables kept same =
    ap (λ (b : Bool). b || list_any (λ l. list_any (loads_table a l) kept) ls) (near_tables a l kept tables (λ k _ _. same k))
    ∙ ap (λ (b : Bool). list_any (loads_table a l) tables || b) (masked_by a ls tables kept same)

pub masked_is : (a : ℕ) (mask : Mask) (kept : List Range) → ((k : ℕ) → list_any (has k) kept ≡ list_any (has k) mask.tables)
    → list_any (λ l. list_any (loads_table a l) kept) mask.loads ≡ is_masked mask a
unfolding is_masked
masked_is a mask kept same = masked_by a mask.loads mask.tables kept same
