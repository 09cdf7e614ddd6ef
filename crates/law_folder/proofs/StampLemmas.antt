-- Stamps have 32 bits.
use Rattle.std.proofs.Common.{◌≡◌, ℕ, ◌+◌, ◌<◌, ◌^◌, true, List, [], ◌∷◌, Option, Some, None, refl, sym, ◌∙◌, ap, inl, inr, arith}
use Rattle.std.proofs.lemmas.Bool.{and_parts, cases_Bool, cases_lt, ltb-true, true≢false}
use Rattle.std.specs.List.{AllByRecursion, list_all}
use Rattle.std.specs.Option.{option_map}
use Rattle.std.specs.Prelude.{◌&&◌, ◌==◌, Ok, fold, length, map, max, nat_lt}
use Rattle.pl_base.specs.Answers.{because}
use Rattle.pl_base.specs.Names.{is_valid_name}
use Rattle.pl_base.proofs.AnswerLaws.{because_ok, ok_same, unless_ok}
use Rattle.pl_rewrite.specs.Plans.{stamp_after}
use Rattle.pl_rewrite.specs.LastStamps.{LAST_STAMP}
use Rattle.pl_rewrite.specs.ConeFault.TheVariants.{StampsSpent}
use Rattle.pl_conflict.specs.Format.{format, mark_in, mark_of, row_of_list}
use Rattle.pl_form.specs.Files.{marked_in}
use Rattle.pl_form.specs.declared.file.Marked.{Marked}
use Rattle.pl_form.specs.Marks.{IsMark}
use Rattle.pl_form.proofs.FilesLaws.{nothing_else_is_read}
use Rattle.pl_rewrite.specs.Plans.{greatest, greatest_of, stamp_for}
use Rattle.pl_rewrite.specs.Skipped.{skip_causes}
use Rattle.pl_lists.specs.Lists.{are_distinct, is_row}
use Rattle.pl_lists.specs.declared.list_row.ListRow.{ListRow}
use Rattle.pl_rewrite.specs.Faulted.{of_cone}
use Rattle.pl_rewrite.specs.Asked.{Asked}
use Rattle.law_sound.specs.Rule.{Files, Row, mark_at}

abbrev IsSmall : ℕ → Type 0
IsSmall n = n < 2 ^ 32

below : {X : Type 0} (f : X → ℕ) (xs : List X) (a : ℕ) → IsSmall a → AllByRecursion (λ x. IsSmall (f x)) xs → IsSmall (fold (λ (most : ℕ) (x : X). max most (f x)) a xs)
below f [] a small all = small
below f (x ∷ xs) a small all = below f xs (max a (f x)) (omega (arith, small, all.0)) all.1

-- ---- a mark

mark_small : (m : Marked) → IsMark m → IsSmall m.stamp
mark_small m (inl library) = library.stamp
mark_small m (inr program) = omega (arith, program.stamp)

row_small : (r : ListRow) → is_row r ≡ true → IsSmall r.stamp
unfolding is_row
row_small r is =
    let first = and_parts (is_valid_name r.name && nat_lt r.stamp (2 ^ 32)) (nat_lt r.checksum (2 ^ 32)) is in
    ltb-true r.stamp (2 ^ 32) (and_parts (is_valid_name r.name) (nat_lt r.stamp (2 ^ 32)) first.0).1

rows_small : (rs : List ListRow) → list_all is_row rs ≡ true → AllByRecursion (λ r. IsSmall r.stamp) (map row_of_list rs)
rows_small [] all = tt
rows_small (r ∷ rs) all = let parts = and_parts (is_row r) (list_all is_row rs) all in (row_small r parts.0, rows_small rs parts.1)

marked_small : (file : List ℕ) (m : Marked) → marked_in file ≡ Some m → IsSmall (greatest_of (Some (mark_of m)))
marked_small file m is =
    let form = nothing_else_is_read file m is in
    below (λ (r : Row). r.stamp) (map row_of_list m.list) m.stamp (mark_small m form.mark) (rows_small m.list (and_parts (list_all is_row m.list) (are_distinct m.list) form.list).0)

by_mark : (file : List ℕ) (o : Option Marked) → marked_in file ≡ o → IsSmall (greatest_of (option_map mark_of o))
by_mark file None is = omega arith
by_mark file (Some m) is = marked_small file m is

file_small : (file : List ℕ) → IsSmall (greatest_of (mark_in file))
unfolding mark_in
file_small file = by_mark file (marked_in file) refl

at_small : (o : Option (List ℕ)) → IsSmall (greatest_of (mark_at (format skip_causes) o))
at_small None = omega arith
at_small (Some file) = file_small file

-- ---- all of them

each_small : (files : Files) (ns : List (List ℕ)) → AllByRecursion (λ n. IsSmall (greatest_of (mark_at (format skip_causes) (files n)))) ns
each_small files [] = tt
each_small files (n ∷ ns) = (at_small (files n), each_small files ns)

greatest_small : (files : Files) (last : ℕ) (ns : List (List ℕ)) → IsSmall last → IsSmall (greatest files last ns)
unfolding greatest
greatest_small files last ns small = below (λ (n : List ℕ). greatest_of (mark_at (format skip_causes) (files n))) ns last small (each_small files ns)

after_small : (most now stamp : ℕ) → IsSmall most → IsSmall now → stamp_after most now ≡ Ok stamp → IsSmall stamp
unfolding stamp_after
after_small most now stamp small early e =
    let p = unless_ok (most == LAST_STAMP) (StampsSpent most) (Ok (max now (most + 1))) stamp e in
    let is : max now (most + 1) ≡ stamp = ok_same (max now (most + 1)) stamp p.1 in
    let other : most ≡ 4294967295 → ⊥ = λ same. true≢false (sym (ap (λ (n : ℕ). n == LAST_STAMP) same) ∙ p.0) in
    elim (cases_lt most 4294967295) [
      | inl lt ↦ omega (arith, is, lt, early)
      | inr ge ↦ absurd (other (omega (arith, ge, small)))
    ]

pub stamp_small : (files : Files) (ns : List (List ℕ)) (a : Asked) (stale : List (List ℕ)) (stamp : ℕ) → a.last < 2 ^ 32 → a.moment < 2 ^ 32 → stamp_for files ns a stale ≡ Ok stamp → stamp < 2 ^ 32
unfolding stamp_for
stamp_small files ns a stale stamp last moment e = elim (cases_Bool (length stale == 0)) [
  | inl none ↦ let same : a.last ≡ stamp = ok_same a.last stamp (rw none at e) in omega (arith, same, last)
  | inr some ↦
      let given : because of_cone (stamp_after (greatest files a.last ns) a.moment) ≡ Ok stamp = rw some at e in
      after_small (greatest files a.last ns) a.moment stamp (greatest_small files a.last ns last) moment (because_ok of_cone (stamp_after (greatest files a.last ns) a.moment) stamp given)
]
