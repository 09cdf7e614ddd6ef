-- Texts stand in a string table where it says.
use Rattle.std.proofs.Common.{◌≡◌, ℕ, ◌≤◌, ◌<◌, Bool, true, false, List, [], ◌∷◌, ◌++◌, length, drop, Some, refl, sym, ap, subst, ◌∙◌, append_assoc, length-append, arith, inl, inr}
use Rattle.std.specs.Prelude.{◌||◌, find, nat_lt}
use Rattle.std.specs.List.{AllByRecursion, list_any, position_or_len}
use Rattle.std.specs.Str.{bytes_eq}
use Rattle.std.proofs.lemmas.Bool.{cases_Bool, false≢true}
use Rattle.std.proofs.lemmas.Bool.Decides.{nat_tests}
use Rattle.std.proofs.lemmas.Slice.Eq.{bytes_eq-Decides}
use Rattle.std.proofs.lemmas.List.{drop-append-le}
use Rattle.std.proofs.Math.Seq.{take-append_seam, drop-append_seam}
use Rattle.pl_base.specs.Strings.{is_zero, ended, has_end, string_at}
use Rattle.pl_build.specs.declared.string_table.Entry.{Entry}
use Rattle.pl_build.specs.declared.string_table.StringTable.{StringTable}
use Rattle.pl_build.specs.StringTable.{start, has_text, text_added, at_of, text_at, texts_added}
use Rattle.law_demo.specs.Texts.{is_among, TextsAreFound}
use Rattle.law_demo.proofs.BackLaws.{Begins, begins_itself, begins_more}

-- an entry's text stands at its offset, and a 0 ends it
pub record IsEntry (bytes : List ℕ) (e : Entry) : Type 0 where
  pub within : e.at ≤ length bytes
  pub rest : List ℕ
  pub is : drop e.at bytes ≡ e.text ++ 0 ∷ rest

pub record AreTexts (s : StringTable) : Type 0 where
  pub begins : Begins (0 ∷ []) s.bytes
  pub entries : AllByRecursion (IsEntry s.bytes) s.entries

entry_front : (xs ys : List ℕ) (e : Entry) → IsEntry xs e → IsEntry (xs ++ ys) e
entry_front xs ys e h = record {
  within = omega (arith, h.within, length-append xs ys);
  rest = h.rest ++ ys;
  is = drop-append-le e.at xs ys h.within ∙ ap (λ (l : List ℕ). l ++ ys) h.is ∙ append_assoc e.text (0 ∷ h.rest) ys;
}

entries_more : (xs ys : List ℕ) (es : List Entry) (e : Entry) → AllByRecursion (IsEntry xs) es → IsEntry (xs ++ ys) e → AllByRecursion (IsEntry (xs ++ ys)) (es ++ e ∷ [])
entries_more xs ys [] e all new = (new, tt)
entries_more xs ys (first ∷ es) e all new = (entry_front xs ys first all.0, entries_more xs ys es e all.1 new)

pub start_texts : AreTexts start
start_texts = record { begins = begins_itself (0 ∷ []); entries = tt }

new_entry : (xs text : List ℕ) → IsEntry (xs ++ (text ++ 0 ∷ [])) (record { text = text; at = length xs })
new_entry xs text = record { within = omega (arith, length-append xs (text ++ 0 ∷ [])); rest = []; is = drop-append_seam xs (text ++ 0 ∷ []) }

unfoldable pub is_old : StringTable → List ℕ → Bool
is_old s text = bytes_eq text [] || list_any (has_text text) s.entries

more_texts : (s : StringTable) (text : List ℕ) → AreTexts s → AreTexts (record { bytes = s.bytes ++ text ++ 0 ∷ []; entries = s.entries ++ record { text = text; at = length s.bytes } ∷ [] })
more_texts s text h =
    let e : Entry = record { text = text; at = length s.bytes } in
    subst (λ (b : List ℕ). AreTexts (record { bytes = b; entries = s.entries ++ e ∷ [] })) (sym (append_assoc s.bytes text (0 ∷ []))) (record {
      begins = begins_more (0 ∷ []) s.bytes (text ++ 0 ∷ []) h.begins;
      entries = entries_more s.bytes (text ++ 0 ∷ []) s.entries e h.entries (new_entry s.bytes text);
    })

pub added_texts : (s : StringTable) (text : List ℕ) → AreTexts s → AreTexts (text_added s text)
unfolding text_added is_old
added_texts s text h = elim (cases_Bool (is_old s text)) [
  | inl old ↦ rw old h
  | inr new ↦ rw new (more_texts s text h)
]

pub all_texts : (s : StringTable) (texts : List (List ℕ)) → AreTexts s → AreTexts (texts_added s texts)
unfolding texts_added
all_texts s [] h = h
all_texts s (text ∷ texts) h = all_texts (text_added s text) texts (added_texts s text h)

-- ---- what was added is there

any_behind : (p : Entry → Bool) (xs ys : List Entry) → list_any p xs ≡ true → list_any p (xs ++ ys) ≡ true
any_behind p [] ys h = absurd (false≢true h)
any_behind p (x ∷ xs) ys h = elim (cases_Bool (p x)) [
  | inl hit ↦ rw hit refl
  | inr miss ↦ rw miss (any_behind p xs ys (rw miss at h))
]

any_last : (p : Entry → Bool) (xs : List Entry) (x : Entry) → p x ≡ true → list_any p (xs ++ x ∷ []) ≡ true
any_last p [] x h = rw h refl
any_last p (y ∷ xs) x h = elim (cases_Bool (p y)) [
  | inl hit ↦ rw hit refl
  | inr miss ↦ rw miss (any_last p xs x h)
]

pub kept_text : (s : StringTable) (other text : List ℕ) → is_old s text ≡ true → is_old (text_added s other) text ≡ true
unfolding text_added is_old
kept_text s other text h = elim (cases_Bool (is_old s other)) [
  | inl old ↦ rw old h
  | inr new ↦ elim (cases_Bool (bytes_eq text [])) [
    | inl empty ↦ rw empty refl
    | inr some ↦ rw (new, some) (any_behind (has_text text) s.entries (record { text = other; at = length s.bytes } ∷ []) (rw some at h))
  ]
]

pub new_text : (s : StringTable) (text : List ℕ) → is_old (text_added s text) text ≡ true
unfolding text_added is_old
new_text s text = elim (cases_Bool (is_old s text)) [
  | inl old ↦ rw old old
  | inr new ↦ rw new (either (list_any (has_text text) (s.entries ++ (record { text = text; at = length s.bytes }) ∷ [])) (any_last (has_text text) s.entries (record { text = text; at = length s.bytes }) ((bytes_eq-Decides text text).1 refl)))
]
  where
    either : (b : Bool) → b ≡ true → (bytes_eq text [] || b) ≡ true
    either b h = elim (cases_Bool (bytes_eq text [])) [
      | inl empty ↦ rw empty refl
      | inr some ↦ rw some h
    ]

kept_texts : (s : StringTable) (texts : List (List ℕ)) (text : List ℕ) → is_old s text ≡ true → is_old (texts_added s texts) text ≡ true
unfolding texts_added
kept_texts s [] text h = h
kept_texts s (other ∷ texts) text h = kept_texts (text_added s other) texts text (kept_text s other text h)

same_text : (xs ys : List ℕ) → bytes_eq xs ys ≡ true → xs ≡ ys
same_text xs ys h = (bytes_eq-Decides xs ys).0 h

old_empty : (s : StringTable) (text : List ℕ) → bytes_eq text [] ≡ true → is_old s text ≡ true
unfolding is_old
old_empty s text h = rw h refl

among_old : (s : StringTable) (texts : List (List ℕ)) (text : List ℕ) → is_among text texts ≡ true → is_old (texts_added s texts) text ≡ true
unfolding texts_added
among_old s [] text h = elim (cases_Bool (bytes_eq text [])) [
  | inl empty ↦ old_empty s text empty
  | inr some ↦ absurd (false≢true (rw some at h))
]
among_old s (other ∷ texts) text h = elim (cases_Bool (bytes_eq other text)) [
  | inl hit ↦ kept_texts (text_added s other) texts text (subst (λ (t : List ℕ). is_old (text_added s other) t ≡ true) (same_text other text hit) (new_text s other))
  | inr miss ↦ among_old (text_added s other) texts text (rw miss at h)
]

-- ---- where it stands

find_old : (text : List ℕ) (bytes : List ℕ) (es : List Entry) → AllByRecursion (IsEntry bytes) es → list_any (has_text text) es ≡ true → (rest : List ℕ) × (drop (at_of (find (has_text text) es)) bytes ≡ text ++ 0 ∷ rest)
find_old text bytes [] all h = absurd (false≢true h)
find_old text bytes (e ∷ es) all h = elim (cases_Bool (has_text text e)) [
  | inl hit ↦ rw hit (all.0.rest, all.0.is ∙ ap (λ (t : List ℕ). t ++ 0 ∷ all.0.rest) (same_text e.text text hit))
  | inr miss ↦ rw miss (find_old text bytes es all.1 (rw miss at h))
]

-- a string without a 0 ends at the first
ends_there : (text rest : List ℕ) → list_any is_zero text ≡ false → position_or_len is_zero (text ++ 0 ∷ rest) ≡ length text
ends_there [] rest none = refl
ends_there (b ∷ text) rest none = elim (cases_Bool (is_zero b)) [
  | inl hit ↦ absurd (false≢true (sym (rw hit at none)))
  | inr miss ↦ rw miss (let more = ends_there text rest (rw miss at none) in omega (arith, more))
]

text_ended : (text rest : List ℕ) → list_any is_zero text ≡ false → ended (text ++ 0 ∷ rest) ≡ Some text
unfolding ended
text_ended text rest none =
    let far : nat_lt (length text) (length (text ++ 0 ∷ rest)) ≡ true = is_far (length text) (length (text ++ 0 ∷ rest)) (omega (arith, length-append text (0 ∷ rest))) in
    rw (ends_there text rest none, far) (ap (λ (t : List ℕ). Some t) (take-append_seam text (0 ∷ rest)))
  where
    is_far : (a b : ℕ) → a < b → nat_lt a b ≡ true
    is_far a b lt = grind (arith, nat_tests)

find_none : (text : List ℕ) (es : List Entry) → list_any (has_text text) es ≡ false → at_of (find (has_text text) es) ≡ 0
find_none text [] none = refl
find_none text (e ∷ es) none = elim (cases_Bool (has_text text e)) [
  | inl hit ↦ absurd (false≢true (sym (rw hit at none)))
  | inr miss ↦ rw miss (find_none text es (rw miss at none))
]

-- where a text begins stands the text, or a 0 where the table has none such
pub begins_zero : (bytes : List ℕ) → Begins (0 ∷ []) bytes → ended bytes ≡ Some []
begins_zero bytes b = ap ended b.is ∙ text_ended [] b.rest refl

pub text_found : (s : StringTable) (text : List ℕ) → AreTexts s → list_any is_zero text ≡ false → is_old s text ≡ true → string_at (text_at s text) s.bytes ≡ Some text
unfolding text_at string_at is_old
text_found s text h none old = elim (cases_Bool (list_any (has_text text) s.entries)) [
  | inl there ↦
      let found = find_old text s.bytes s.entries h.entries there in
      ap ended found.1 ∙ text_ended text found.0 none
  | inr missing ↦
      let empty : text ≡ [] = same_text text [] (only_empty (rw missing at old)) in
      let place : at_of (find (has_text text) s.entries) ≡ 0 = find_none text s.entries missing in
      rw place (begins_zero s.bytes h.begins ∙ ap (λ (t : List ℕ). Some t) (sym empty))
]
  where
    only_empty : (bytes_eq text [] || false) ≡ true → bytes_eq text [] ≡ true
    only_empty e = elim (cases_Bool (bytes_eq text [])) [
      | inl empty ↦ empty
      | inr some ↦ absurd (false≢true (rw some at e))
    ]

-- where any text begins a string has an end
pub text_ends : (s : StringTable) (text : List ℕ) → AreTexts s → has_end (text_at s text) s.bytes ≡ true
unfolding text_at has_end
text_ends s text h = elim (cases_Bool (list_any (has_text text) s.entries)) [
  | inl there ↦
      let found = find_old text s.bytes s.entries h.entries there in
      ap (list_any is_zero) found.1 ∙ zero_behind text found.0
  | inr missing ↦
      let place : at_of (find (has_text text) s.entries) ≡ 0 = find_none text s.entries missing in
      rw place (ap (list_any is_zero) h.begins.is)
]
  where
    zero_behind : (text rest : List ℕ) → list_any is_zero (text ++ 0 ∷ rest) ≡ true
    zero_behind [] rest = refl
    zero_behind (b ∷ text) rest = elim (cases_Bool (is_zero b)) [
      | inl hit ↦ rw hit refl
      | inr miss ↦ rw miss (zero_behind text rest)
    ]

place_within : (text : List ℕ) (bytes : List ℕ) (es : List Entry) → AllByRecursion (IsEntry bytes) es → at_of (find (has_text text) es) ≤ length bytes
place_within text bytes [] all = omega arith
place_within text bytes (e ∷ es) all = elim (cases_Bool (has_text text e)) [
  | inl hit ↦ rw hit all.0.within
  | inr miss ↦ rw miss (place_within text bytes es all.1)
]

-- it begins inside the table
pub text_within : (s : StringTable) (text : List ℕ) → AreTexts s → text_at s text ≤ length s.bytes
unfolding text_at
text_within s text h = place_within text s.bytes s.entries h.entries

pub texts_found : TextsAreFound
texts_found texts text none among = text_found (texts_added start texts) text (all_texts start texts start_texts) none (among_old start texts text among)
