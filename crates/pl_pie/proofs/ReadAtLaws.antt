-- What is read of a program that is fixed at an address, by the object that it was.
use Rattle.std.proofs.Common.{◌≡◌, ◌+◌, ◌<◌, ◌≤◌, ◌^◌, ℕ, false, List, [], ◌∷◌, ◌++◌, length, map, take, get_or, Ok, sym, ap, subst, ◌∙◌, arith}
use Rattle.std.specs.List.{All}
use Rattle.std.proofs.lemmas.List.{map-append, take_more}
use Rattle.std.proofs.lemmas.List.Elements.{All-head, All-tail, All-nil, All-cons}
use Rattle.pl_base.specs.Windows.{Window, end_of}
use Rattle.pl_elf.specs.Kinds.{is_static}
use Rattle.pl_elf.specs.declared.range.Range.{Range}
use Rattle.pl_object.specs.Reads.{object, reads}
use Rattle.pl_object.specs.Tables.{window_range}
use Rattle.pl_object.specs.declared.object.Object.{Object}
use Rattle.pl_object.proofs.AcceptedLaws.{accepted}
use Rattle.pl_sym.specs.declared.symbol.Symbol.{Symbol}
use Rattle.law_fixed.specs.Fixed.{fixed}
use Rattle.pl_pie.specs.Fix.{IsFixedAt, windows_in}
use Rattle.pl_pie.specs.Laws.{IsFixed}
use Rattle.pl_pie.proofs.AtLaws.{found_is}
use Rattle.pl_pie.proofs.FixedIsRead.{fixed_is_read}
use Rattle.pl_pie.proofs.PieLaws.{not_static, pie_is}
use Rattle.pl_pie.proofs.PlaceLaws.{fixed_small}

-- one symbol more
pub symbols_more : (f : Symbol → Symbol) (xs : List Symbol) (i : ℕ) (s : Symbol) (front new : List Symbol) (item : Symbol) → i < length xs → s ≡ get_or xs i s → item ≡ f s → new ≡ front ++ item ∷ [] → front ≡ map f (take i xs) → new ≡ map f (take (i + 1) xs)
symbols_more f xs i s front new item lt at is more so_far =
    more ∙ ap (λ (x : Symbol). front ++ x ∷ []) (is ∙ ap f at) ∙ ap (λ (ys : List Symbol). ys ++ f (get_or xs i s) ∷ []) so_far
    ∙ sym (map-append f (take i xs) (get_or xs i s ∷ [])) ∙ ap (map f) (sym (take_more xs i s lt))

-- windows whose ranges end in a file end below 2^64
low_by : (size : ℕ) (ws : List Window) → size < 2 ^ 32 → All (λ r. r.end ≤ size) (map window_range ws) → All (λ w. end_of w < 2 ^ 64) ws
low_by size [] few all = All-nil (λ (w : Window). end_of w < 2 ^ 64)
low_by size (w ∷ ws) few all =
    let in_file : w.at + w.size ≤ size = All-head (λ (r : Range). r.end ≤ size) (window_range w) (map window_range ws) all in
    All-cons (λ (x : Window). end_of x < 2 ^ 64) w ws (omega (arith, few, in_file)) (low_by size ws few (All-tail (λ (r : Range). r.end ≤ size) (window_range w) (map window_range ws) all))

module _ (o : Object) (at : ℕ) (file : List ℕ) (f : IsFixedAt o at file) where
  read_as : (x : Object) × (reads file ≡ Ok x) × IsFixed at o x
  read_as = subst (λ (xs : List ℕ). (x : Object) × (reads xs ≡ Ok x) × IsFixed at o x) (sym f.is) (fixed_is_read f.bytes o at f.are_bytes f.program f.may)

  pub file_small : length file < 2 ^ 32
  file_small = subst (λ (xs : List ℕ). length xs < 2 ^ 32) (sym f.is) (fixed_small f.bytes o at f.program f.few)

  same_windows : windows_in file read_as.0 ≡ windows_in file (fixed at o)
  same_windows = ap (windows_in file) read_as.2.same

  no_static : is_static read_as.0.kind ≡ false
  unfolding fixed
  no_static = ap (λ (x : Object). is_static x.kind) read_as.2.same ∙ not_static o.kind (pie_is f.bytes o f.program).program

  tables_are : map window_range (windows_in file (fixed at o)) ≡ read_as.0.tables
  unfolding object
  tables_are = ap (map window_range) (sym same_windows) ∙ ap (λ (x : Object). x.tables) (found_is file read_as.0 read_as.1 no_static).whole

  pub windows_low : (moved : Object) → moved ≡ fixed at o → All (λ w. end_of w < 2 ^ 64) (windows_in file moved)
  windows_low moved is =
      let all = (accepted file read_as.0 read_as.1).tables in
      subst (λ (x : Object). All (λ w. end_of w < 2 ^ 64) (windows_in file x)) (sym is) (low_by (length file) (windows_in file (fixed at o)) file_small (subst (All (λ r. r.end ≤ length file)) (sym tables_are) all))

  pub object_read : (moved x : Object) (tables : List Range) → moved ≡ fixed at o → tables ≡ map window_range (windows_in file moved) → x ≡ record moved { tables = tables } → reads file ≡ Ok x
  object_read moved x tables is told made =
      let same : tables ≡ read_as.0.tables = told ∙ ap (λ (y : Object). map window_range (windows_in file y)) is ∙ tables_are in
      read_as.1 ∙ ap (λ (y : Object). Ok y) (read_as.2.same ∙ ap (λ (ts : List Range). record (fixed at o) { tables = ts }) (sym same) ∙ ap (λ (y : Object). record y { tables = tables }) (sym is) ∙ sym made)
