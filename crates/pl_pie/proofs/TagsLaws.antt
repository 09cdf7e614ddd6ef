-- The dynamic table of a library's form has the tags of its original and two more: the value of any other tag that is no address is the same in both.
use Rattle.std.proofs.Common.{◌≡◌, ℕ, zero, suc, ◌+◌, ◌-◌, ◌*◌, ◌/◌, ◌<◌, ◌≤◌, Bool, true, false, List, ◌++◌, length, take, drop, get_or, refl, sym, ap, subst, ◌∙◌, arith, inl, inr}
use Rattle.std.specs.Prelude.{◌==◌, find}
use Rattle.std.specs.List.{position_or_len}
use Rattle.std.proofs.lemmas.Bool.{cases_Bool, cases_lt, eqb-true, true≢false}
use Rattle.std.proofs.lemmas.List.{get_or-drop, length-drop, length-take, length-take-le, take-append-drop}
use Rattle.std.proofs.lemmas.List.Folds.{list_all_at}
use Rattle.pl_base.specs.Bytes.{bytes64, part, put, word64}
use Rattle.pl_base.proofs.WindowLaws.{length-part, length-put, part_behind, within_put}
use Rattle.pl_base.proofs.WordLaws.{word64_apart, word64_back, word64_behind, word64_front, word64_part, word64_within}
use Rattle.pl_dyn.specs.Entries.{entries, entry, is_ended, is_null, only_nulls_follow, tags}
use Rattle.pl_dyn.specs.Kinds.{is_address_tag}
use Rattle.pl_dyn.specs.Read.{first_of, has_number, value_in, value_of}
use Rattle.pl_dyn.specs.declared.tags.Tag.{Tag}
use Rattle.pl_move.specs.Moves.{row_moved, rows}
use Rattle.pl_move.specs.declared.kind.RowKind.TheVariants.{TagValue}
use Rattle.pl_move.proofs.MoveLaws.{length-row_moved, length-rows}
use Rattle.pl_form.specs.Parts.{entry_bytes, library_entries}
use Rattle.pl_form.proofs.EntryLaws.{length-entry, length-library_entries}
use Rattle.pl_pie.proofs.ContentLaws.{row_at}
use Rattle.pl_pie.proofs.RowOfLaws.{kept64, moved64, moved_tag, number_kept}
use Rattle.pl_pie.proofs.EntriesLaws.{entry_count, entry_there, only_nulls}
use Rattle.pl_pie.proofs.FindLaws.{IsAlike, find_before, find_like}

-- ---- rows

-- what follows the rows that are changed stays
part_past : (size : ℕ) (f : List ℕ → List ℕ) (n k m : ℕ) (xs : List ℕ) → ((r : List ℕ) → length r ≡ size → length (f r) ≡ size) → size * n ≤ length xs → part (size * n + k) m (rows size f n xs) ≡ part (size * n + k) m xs
unfolding rows
part_past size f zero k m xs keeps fits = refl
part_past size f (suc n) k m xs keeps fits =
    let old : List ℕ = take size xs in
    let new : List ℕ = f old in
    let rest : List ℕ = drop size xs in
    let old_size : length old ≡ size = length-take-le size xs (omega (arith, fits)) in
    let new_size : length new ≡ size = keeps old old_size in
    let i : ℕ = size * n + k in
    let past_new : size * suc n + k ≡ length new + i = omega (arith, new_size) in
    let past_old : size * suc n + k ≡ length old + i = omega (arith, old_size) in
    ap (λ (x : ℕ). part x m (new ++ rows size f n rest)) past_new
    ∙ part_behind i m new (rows size f n rest)
    ∙ part_past size f n k m rest keeps (omega (arith, fits, length-drop size xs))
    ∙ sym (part_behind i m old rest)
    ∙ ap (λ (x : ℕ). part x m (old ++ rest)) (sym past_old)
    ∙ ap (part (size * suc n + k) m) (take-append-drop size xs)

row_entry : (table : List ℕ) (i : ℕ) → entry (part (16 * i) 16 table) 0 ≡ entry table i
row_entry table i =
    let start : 16 * i + 0 ≡ 16 * i = omega arith in
    rw (word64_part (16 * i) 16 0 table (omega arith) ∙ ap (λ (k : ℕ). word64 k table) start, word64_part (16 * i) 16 8 table (omega arith)) refl

entry_moved : (w : ℕ) (r : List ℕ) → length r ≡ 16 → entry (row_moved w TagValue r) 0 ≡ moved_tag w (entry r 0)
unfolding row_moved moved_tag
entry_moved w r n = elim (cases_Bool (is_address_tag (word64 0 r))) [
  | inr miss ↦ rw miss refl
  | inl hit ↦ rw (hit, kept64 0 8 w r (omega (arith, n)) (inl (omega arith)), moved64 8 w r (omega (arith, n))) refl
]

moved_same : (w : ℕ) (t : Tag) → is_address_tag t.number ≡ false → moved_tag w t ≡ t
unfolding moved_tag
moved_same w t plain = rw plain refl

-- ---- the table of a library's form

-- a tag that is no address, and neither of those that a form adds
pub record IsOther (number : ℕ) : Type 0 where
  pub some : (0 == number) ≡ false
  pub plain : is_address_tag number ≡ false
  pub stamp : (1879047669 == number) ≡ false
  pub checksum : (1879047672 == number) ≡ false

first_number : (stamp checksum : ℕ) → word64 0 (library_entries stamp checksum) ≡ 1879047669
first_number stamp checksum =
    word64_front 0 (entry_bytes 1879047669 stamp) (entry_bytes 1879047672 checksum) (omega (arith, length-entry 1879047669 stamp)) ∙ word64_back 1879047669 (bytes64 stamp) (omega arith)

second_number : (stamp checksum : ℕ) → word64 16 (library_entries stamp checksum) ≡ 1879047672
second_number stamp checksum =
    let a : List ℕ = entry_bytes 1879047669 stamp in
    let b : List ℕ = entry_bytes 1879047672 checksum in
    let at : 16 ≡ length a + 0 = omega (arith, length-entry 1879047669 stamp) in
    ap (λ (k : ℕ). word64 k (a ++ b)) at ∙ word64_behind a b 0 ∙ word64_back 1879047672 (bytes64 checksum) (omega arith)

module _ (slot stamp checksum n : ℕ) (old : List ℕ) (room : 16 * n + 32 ≤ length old) where
  abbrev moved : List ℕ
  moved = rows 16 (row_moved slot TagValue) n old

  abbrev added : List ℕ
  added = library_entries stamp checksum

  abbrev new : List ℕ
  new = put (16 * n) added moved

  moved_length : length moved ≡ length old
  moved_length = length-rows 16 (row_moved slot TagValue) n old (length-row_moved slot TagValue) (omega (arith, room))

  added_length : length added ≡ 32
  added_length = length-library_entries stamp checksum

  fits : 16 * n + length added ≤ length moved
  fits = omega (arith, moved_length, added_length, room)

  new_length : length new ≡ length old
  new_length = length-put (16 * n) added moved fits ∙ moved_length

  -- its entries before the new ones are the old ones, moved
  before : (j : ℕ) → j < n → entry new j ≡ moved_tag slot (entry old j)
  before j lt =
      let a : word64 (16 * j) new ≡ word64 (16 * j) moved = word64_apart (16 * j) (16 * n) added moved fits (inl (omega (arith, lt))) in
      let b : word64 (16 * j + 8) new ≡ word64 (16 * j + 8) moved = word64_apart (16 * j + 8) (16 * n) added moved fits (inl (omega (arith, lt))) in
      let same : entry new j ≡ entry moved j = rw (a, b) refl in
      let row : part (16 * j) 16 moved ≡ row_moved slot TagValue (part (16 * j) 16 old) = row_at 16 (row_moved slot TagValue) n j old (length-row_moved slot TagValue) (omega (arith, room)) lt in
      same ∙ sym (row_entry moved j) ∙ ap (λ (r : List ℕ). entry r 0) row ∙ entry_moved slot (part (16 * j) 16 old) (length-part (16 * j) 16 old (omega (arith, lt, room))) ∙ ap (moved_tag slot) (row_entry old j)

  there : part (16 * n) (length added) new ≡ added
  there = within_put (16 * n) added moved fits

  stamp_number : word64 (16 * n) new ≡ 1879047669
  stamp_number =
      let at : 16 * n ≡ 16 * n + 0 = omega arith in
      ap (λ (k : ℕ). word64 k new) at ∙ sym (word64_part (16 * n) (length added) 0 new (omega (arith, added_length))) ∙ ap (word64 0) there ∙ first_number stamp checksum

  checksum_number : word64 (16 * (n + 1)) new ≡ 1879047672
  checksum_number =
      let at : 16 * (n + 1) ≡ 16 * n + 16 = omega arith in
      ap (λ (k : ℕ). word64 k new) at ∙ sym (word64_part (16 * n) (length added) 16 new (omega (arith, added_length))) ∙ ap (word64 16) there ∙ second_number stamp checksum

  -- and those behind them have the old numbers
  behind : (j : ℕ) → n + 2 ≤ j → word64 (16 * j) new ≡ word64 (16 * j) old
  behind j le =
      let k : ℕ = 16 * j - 16 * n in
      let at : 16 * n + k ≡ 16 * j = omega (arith, le) in
      word64_apart (16 * j) (16 * n) added moved fits (inr (omega (arith, le, added_length)))
      ∙ word64_within (16 * j) moved
      ∙ ap (word64 0) (ap (λ (x : ℕ). part x 8 moved) (sym at) ∙ part_past 16 (row_moved slot TagValue) n k 8 old (length-row_moved slot TagValue) (omega (arith, room)) ∙ ap (λ (x : ℕ). part x 8 old) at)
      ∙ sym (word64_within (16 * j) old)

  module _ (number : ℕ) (other : IsOther number) (nulls : (j : ℕ) → n ≤ j → j < length old / 16 → word64 (16 * j) old ≡ 0) where
    abbrev has : Tag → Bool
    has = has_number number

    no_number : (j : ℕ) → n ≤ j → j < length old / 16 → has (entry new j) ≡ false
    no_number j le lt = elim (cases_lt j (n + 1)) [
      | inl first ↦
          let same : j ≡ n = omega (arith, first, le) in
          ap (λ (k : ℕ). k == number) (ap (λ (i : ℕ). word64 (16 * i) new) same ∙ stamp_number) ∙ other.stamp
      | inr past ↦ elim (cases_lt j (n + 2)) [
        | inl second ↦
            let same : j ≡ n + 1 = omega (arith, second, past) in
            ap (λ (k : ℕ). k == number) (ap (λ (i : ℕ). word64 (16 * i) new) same ∙ checksum_number) ∙ other.checksum
        | inr rest ↦ ap (λ (k : ℕ). k == number) (behind j rest ∙ nulls j le lt) ∙ other.some
      ]
    ]

    alike : (j : ℕ) → j < length old / 16 → IsAlike has (entry new j) (entry old j)
    alike j lt = elim (cases_lt j n) [
      | inl below ↦
          let t : Tag = entry old j in
          let e : entry new j ≡ moved_tag slot t = before j below in
          let kept : has (entry new j) ≡ has t = ap has e ∙ ap (λ (k : ℕ). k == number) (number_kept slot t) in (
            kept,
            λ hit.
                let at : t.number ≡ number = eqb-true t.number number (sym kept ∙ hit) in
                e ∙ moved_same slot t (ap is_address_tag at ∙ other.plain),
          )
      | inr past ↦
          let none : has (entry new j) ≡ false = no_number j past lt in
          let nothing : has (entry old j) ≡ false = ap (λ (k : ℕ). k == number) (nulls j past lt) ∙ other.some in
          (none ∙ sym nothing, λ hit. absurd (true≢false (sym hit ∙ none)))
    ]

    not_null : (t : Tag) → is_null t ≡ true → has t ≡ false
    not_null t null = ap (λ (k : ℕ). k == number) (eqb-true t.number 0 null) ∙ other.some

    found_alike : is_ended new ≡ true → is_ended old ≡ true → find has (tags new) ≡ find has (tags old)
    unfolding tags only_nulls_follow
    found_alike ended was =
        let xs : List Tag = entries new in
        let ys : List Tag = entries old in
        let size : length xs ≡ length ys = entry_count new ∙ ap (λ (k : ℕ). k / 16) new_length ∙ sym (entry_count old) in
        find_before has is_null xs (only_nulls new ended) not_null
        ∙ find_like has xs ys size (λ i d lt.
        let few : i < length old / 16 = omega (arith, lt, size, entry_count old) in
        let one : get_or xs i d ≡ entry new i = entry_there new i d (omega (arith, lt, entry_count new)) in
        let two : get_or ys i d ≡ entry old i = entry_there old i d few in
        subst (λ (y : Tag). IsAlike has y (get_or ys i d)) (sym one) (subst (λ (y : Tag). IsAlike has (entry new i) y) (sym two) (alike i few)))
        ∙ sym (find_before has is_null ys (only_nulls old was) not_null)

-- a table has entries of tag 0 alone from its tags on
nulls_behind : (table : List ℕ) → is_ended table ≡ true → (j : ℕ) → length (tags table) ≤ j → j < length table / 16 → word64 (16 * j) table ≡ 0
unfolding tags only_nulls_follow
nulls_behind table ended j le lt =
    let xs : List Tag = entries table in
    let k : ℕ = position_or_len is_null xs in
    let d : Tag = entry table 0 in
    let size = entry_count table in
    let from : k ≤ j = omega (arith, length-take k xs, le, lt, size) in
    let few : j - k < length (drop k xs) = omega (arith, length-drop k xs, size, lt, from) in
    let sum : k + (j - k) ≡ j = omega (arith, from) in
    let at : get_or (drop k xs) (j - k) d ≡ entry table j = get_or-drop k xs (j - k) d ∙ ap (λ (n : ℕ). get_or xs n d) sum ∙ entry_there table j d lt in
    elim (cases_Bool (is_null (entry table j))) [
      | inl null ↦ eqb-true (word64 (16 * j) table) 0 null
      | inr other ↦ absurd (true≢false (sym (only_nulls table ended) ∙ list_all_at is_null (drop k xs) (j - k) d few (ap is_null at ∙ other)))
    ]

-- the value of any other tag is the same in both
pub value_alike : (slot stamp checksum number : ℕ) (old : List ℕ) → 16 * length (tags old) + 32 ≤ length old → IsOther number → is_ended old ≡ true
    → is_ended (put (16 * length (tags old)) (library_entries stamp checksum) (rows 16 (row_moved slot TagValue) (length (tags old)) old)) ≡ true
    → value_of number (tags (put (16 * length (tags old)) (library_entries stamp checksum) (rows 16 (row_moved slot TagValue) (length (tags old)) old))) ≡ value_of number (tags old)
unfolding value_of first_of
value_alike slot stamp checksum number old room other was ended =
    ap value_in (found_alike slot stamp checksum (length (tags old)) old room number other (nulls_behind old was) ended was)
