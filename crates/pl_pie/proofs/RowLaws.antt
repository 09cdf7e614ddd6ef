-- Rows of a table lie in it, and what is met by one of them.
use Rattle.std.proofs.Common.{◌≡◌, ℕ, suc, ◌+◌, ◌*◌, ◌<◌, ◌≤◌, Bool, true, false, List, [], ◌∷◌, map, refl, sym, ap, ◌∙◌, arith}
use Rattle.std.specs.Prelude.{◌||◌}
use Rattle.std.specs.List.{list_any}
use Rattle.std.proofs.Math.Nat.{mul-le-mul_left}
use Rattle.std.proofs.lemmas.List.Folds.{list_any-append}
use Rattle.pl_base.specs.Windows.{Window, IsIn}
use Rattle.pl_elf.specs.declared.range.Range.{Range}
use Rattle.pl_object.specs.Named.{symtabs_of}
use Rattle.pl_object.specs.declared.object.Object.{Object}
use Rattle.pl_move.specs.Moves.{row_size, table_window}
use Rattle.pl_move.specs.Objects.{symbol_rows, main_tables, tables_of}
use Rattle.pl_move.specs.declared.table.Table.{Table}
use Rattle.pl_pie.specs.Words.{row_start, table_meets, tables_meet}

pub row_room : (t : Table) (index n : ℕ) → IsIn n (table_window t) → index < t.count → row_start t index + row_size t.kind ≤ n
row_room t index n fits lt =
    let le : row_size t.kind * suc index ≤ row_size t.kind * t.count = mul-le-mul_left {m = suc index} {n = t.count} (row_size t.kind) (omega (arith, lt)) in
    omega (arith, le, fits)

any_mapped : (p : Table → Bool) (rs : List Range) → list_any p (map symbol_rows rs) ≡ list_any (λ range. p (symbol_rows range)) rs
any_mapped p [] = refl
any_mapped p (r ∷ rs) = ap (λ (b : Bool). p (symbol_rows r) || b) (any_mapped p rs)

meets_either : (ws : List Window) (bytes : List ℕ) (o : Object)
    → tables_meet ws bytes o ≡ (list_any (table_meets ws bytes) (main_tables o) || list_any (λ range. table_meets ws bytes (symbol_rows range)) (symtabs_of o))
unfolding tables_meet tables_of
meets_either ws bytes o =
    list_any-append (table_meets ws bytes) (main_tables o) (map symbol_rows (symtabs_of o))
    ∙ ap (λ (b : Bool). list_any (table_meets ws bytes) (main_tables o) || b) (any_mapped (table_meets ws bytes) (symtabs_of o))

-- a table that is no SYMTAB section meets a window
pub meets_main : (ws : List Window) (bytes : List ℕ) (o : Object) (ts : List Table) (r : Bool) → ts ≡ main_tables o → r ≡ list_any (table_meets ws bytes) ts → r ≡ true → r ≡ tables_meet ws bytes o
meets_main ws bytes o ts r same is hit =
    let one : list_any (table_meets ws bytes) (main_tables o) ≡ true = ap (list_any (table_meets ws bytes)) (sym same) ∙ sym is ∙ hit in
    hit ∙ sym (meets_either ws bytes o ∙ ap (λ (b : Bool). b || list_any (λ range. table_meets ws bytes (symbol_rows range)) (symtabs_of o)) one)

-- none does, so the SYMTAB sections decide
pub meets_symtab : (ws : List Window) (bytes : List ℕ) (o : Object) (ts : List Table) (rs : List Range) (r q : Bool) → ts ≡ main_tables o → rs ≡ symtabs_of o → r ≡ list_any (table_meets ws bytes) ts → r ≡ false
    → q ≡ list_any (λ range. table_meets ws bytes (symbol_rows range)) rs → q ≡ tables_meet ws bytes o
meets_symtab ws bytes o ts rs r q same symtabs is miss rest =
    let none : list_any (table_meets ws bytes) (main_tables o) ≡ false = ap (list_any (table_meets ws bytes)) (sym same) ∙ sym is ∙ miss in
    rest ∙ ap (λ (xs : List Range). list_any (λ range. table_meets ws bytes (symbol_rows range)) xs) symtabs
    ∙ sym (meets_either ws bytes o ∙ ap (λ (b : Bool). b || list_any (λ range. table_meets ws bytes (symbol_rows range)) (symtabs_of o)) none)
