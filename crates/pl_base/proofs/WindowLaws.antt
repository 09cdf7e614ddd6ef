-- What is written into windows, and what stays.
use Rattle.std.proofs.Common.{◌≡◌, ℕ, zero, suc, ◌+◌, ◌-◌, ◌*◌, ◌/◌, ◌%◌, ◌<◌, ◌≤◌, true, false, List, [], ◌∷◌, ◌++◌, length, get_or, take, drop, replicate, refl, sym, ap, subst, ◌∙◌, append_assoc, arith, inl, inr, rules}
use Rattle.std.specs.Prelude.{◌⊎◌, nat_le, min, AllPairs}
use Rattle.std.specs.List.{list_any}
use Rattle.std.proofs.lemmas.Bool.{cases_Bool, cases_lt, or_parts, or_from, and_parts}
use Rattle.std.proofs.lemmas.Bool.Decides.{nat_tests}
use Rattle.std.proofs.Math.Nat.{min-le_left}
use Rattle.std.proofs.lemmas.List.{places, ext_get_or, length-append, length-take, length-drop, length-take-le, length-replicate, get_or-take, get_or-drop, drop-drop, drop-take, take-take, take_all, take-append-drop, take-append-le, drop-append-le, append-nil, take_at, drop_at}
use Rattle.std.proofs.lemmas.List.Folds.{list_any-append}
use Rattle.pl_base.specs.Bytes.{part, put}
use Rattle.pl_base.specs.Windows.{Window, end_of, within, on, Put, put_window, windows, put_all, own, holds, share, any_share, are_in, IsIn, AllIn, AreApart, IsApart, Agree, gap, ◌⊕◌}

-- a put changes no length
pub length-put : (at : ℕ) (new bytes : List ℕ) → at + length new ≤ length bytes → length (put at new bytes) ≡ length bytes
unfolding put
length-put at new bytes fits = simp (length-append, length-take, length-drop) (omega arith)

-- a byte that was put
pub put_in : (at : ℕ) (new bytes : List ℕ) (k : ℕ) → at + length new ≤ length bytes → at ≤ k → k < at + length new → get_or (put at new bytes) k 0 ≡ get_or new (k - at) 0
unfolding put
put_in at new bytes k fits from to = search (rules, places)

-- a byte outside of what was put
pub put_out : (at : ℕ) (new bytes : List ℕ) (k : ℕ) → at + length new ≤ length bytes → (k < at) ⊎ (at + length new ≤ k) → get_or (put at new bytes) k 0 ≡ get_or bytes k 0
unfolding put
put_out at new bytes k fits (inl lt) = search (rules, places)
put_out at new bytes k fits (inr le) = search (rules, places)

-- an offset in a window
pub holds_true : (k : ℕ) (w : Window) → holds k w ≡ true → (w.at ≤ k) × (k < w.at + w.size)
holds_true k w h = grind (arith, nat_tests)

-- an offset outside of a window
pub holds_false : (k : ℕ) (w : Window) → holds k w ≡ false → (k < w.at) ⊎ (w.at + w.size ≤ k)
holds_false k w h = grind (arith, nat_tests)

-- what makes an offset one outside
pub holds_not : (k : ℕ) (w : Window) → (k < w.at) ⊎ (w.at + w.size ≤ k) → holds k w ≡ false
holds_not k w h = grind (arith, nat_tests)

part_at : (w : Window) (bytes : List ℕ) (i : ℕ) → i < w.size → get_or (within w bytes) i 0 ≡ get_or bytes (w.at + i) 0
part_at w bytes i lt = get_or-take w.size (drop w.at bytes) i 0 lt ∙ get_or-drop w.at bytes i 0

-- how many bytes a window has
pub length-within : (w : Window) (bytes : List ℕ) → IsIn (length bytes) w → length (within w bytes) ≡ w.size
length-within w bytes fits = length-take-le w.size (drop w.at bytes) (omega (arith, length-drop w.at bytes))

-- ---- files that agree

-- a file differs from itself in no window
pub agree_same : (xs : List ℕ) → Agree [] xs xs
agree_same xs = record { size = refl; bytes = λ k _. refl }

-- outside of no window they are equal
pub agree_nowhere : (xs ys : List ℕ) → Agree [] xs ys → xs ≡ ys
agree_nowhere xs ys h = ext_get_or 0 xs ys h.size (λ i _. h.bytes i refl)

-- what is written anywhere makes one window more
pub agree_edit : (ws : List Window) (at : ℕ) (new xs ys : List ℕ) → Agree ws xs ys → at + length new ≤ length xs → Agree (record { at = at; size = length new } ∷ ws) (put at new xs) ys
agree_edit ws at new xs ys h fits = record {
  size = length-put at new xs fits ∙ h.size;
  bytes = λ k out. let p = or_parts (holds k (record { at = at; size = length new })) (list_any (holds k) ws) out in
      put_out at new xs k fits (holds_false k (record { at = at; size = length new }) p.0) ∙ h.bytes k p.1;
}

-- the other file's bytes written into a window make one window less
pub agree_back : (w : Window) (ws : List Window) (xs ys : List ℕ) → Agree (w ∷ ws) xs ys → IsIn (length ys) w → Agree ws (put w.at (within w ys) xs) ys
agree_back w ws xs ys h fits =
    let len = length-within w ys fits in
    let room : w.at + length (within w ys) ≤ length xs = omega (arith, len, h.size) in
    record {
      size = length-put w.at (within w ys) xs room ∙ h.size;
      bytes = λ k out. elim (cases_Bool (holds k w)) [
        | inl hit ↦ let p = holds_true k w hit in
            put_in w.at (within w ys) xs k room p.0 (omega (arith, p.1, len)) ∙ part_at w ys (k - w.at) (omega (arith, p.0, p.1)) ∙ ap (λ (i : ℕ). get_or ys i 0) (omega (arith, p.0))
        | inr miss ↦ put_out w.at (within w ys) xs k room (rw len (holds_false k w miss)) ∙ h.bytes k (rw (miss, out) refl)
      ];
    }

-- a window apart from another holds none of its offsets
apart_holds : (v w : Window) (k : ℕ) → AreApart v w → v.at ≤ k → k < v.at + v.size → holds k w ≡ false
apart_holds v w k (inl le) from to = holds_not k w (inl (omega (arith, le, to)))
apart_holds v w k (inr (inl le)) from to = holds_not k w (inr (omega (arith, le, from)))
apart_holds v w k (inr (inr (inl none))) from to = absurd (omega (arith, none, from, to))
apart_holds v w k (inr (inr (inr none))) from to = holds_not k w (elim (cases_lt k w.at) [ inl lt ↦ inl lt | inr le ↦ inr (omega (arith, none, le)) ])

out_of_all : (v : Window) (ws : List Window) (k : ℕ) → IsApart v ws → v.at ≤ k → k < v.at + v.size → list_any (holds k) ws ≡ false
out_of_all v [] k h from to = refl
out_of_all v (w ∷ ws) k h from to = rw (apart_holds v w k h.0 from to, out_of_all v ws k h.1 from to) refl

-- a window apart from all windows has the same bytes in both files
pub agree_within : (v : Window) (ws : List Window) (xs ys : List ℕ) → Agree ws xs ys → IsIn (length ys) v → IsApart v ws → within v xs ≡ within v ys
agree_within v ws xs ys h fits apart =
    let lx = length-within v xs (omega (arith, fits, h.size)) in
    let ly = length-within v ys fits in
    ext_get_or 0 (within v xs) (within v ys) (lx ∙ sym ly)
    (λ i lt. let lt' : i < v.size = omega (arith, lt, lx) in
    part_at v xs i lt' ∙ h.bytes (v.at + i) (out_of_all v ws (v.at + i) apart (omega arith) (omega (arith, lt'))) ∙ sym (part_at v ys i lt'))

-- the same bytes written into both
pub agree_put : (ws : List Window) (at : ℕ) (new xs ys : List ℕ) → Agree ws xs ys → at + length new ≤ length ys → Agree ws (put at new xs) (put at new ys)
agree_put ws at new xs ys h fits =
    let room : at + length new ≤ length xs = omega (arith, fits, h.size) in
    record {
      size = length-put at new xs room ∙ h.size ∙ sym (length-put at new ys fits);
      bytes = λ k out. elim (cases_Bool (holds k (record { at = at; size = length new }))) [
        | inl hit ↦ let p = holds_true k (record { at = at; size = length new }) hit in
            put_in at new xs k room p.0 p.1 ∙ sym (put_in at new ys k fits p.0 p.1)
        | inr miss ↦ let o = holds_false k (record { at = at; size = length new }) miss in
            put_out at new xs k room o ∙ h.bytes k out ∙ sym (put_out at new ys k fits o)
      ];
    }

-- ---- many puts

-- the other file's bytes put into windows: so many windows less
pub agree_puts : (ps : List Put) (ws : List Window) (xs ys : List ℕ) → Agree (windows ps ++ ws) xs ys → AllIn (length ys) (windows ps) → ((k : ℕ) (d : Put) → k < length ps → (get_or ps k d).bytes ≡ within (put_window (get_or ps k d)) ys)
    → Agree ws (put_all ps xs) ys
unfolding put_all
agree_puts [] ws xs ys h fits theirs = h
agree_puts (p ∷ ps) ws xs ys h fits theirs =
    let one : Agree (windows ps ++ ws) (put p.at (within (put_window p) ys) xs) ys = agree_back (put_window p) (windows ps ++ ws) xs ys h fits.0 in
    let mine : p.bytes ≡ within (put_window p) ys = theirs 0 p (omega arith) in
    agree_puts ps ws (put p.at p.bytes xs) ys (rw (← mine) at one) fits.1 (λ k d lt. theirs (suc k) d (omega (arith, lt)))

-- what was put is there
pub within_put : (at : ℕ) (new xs : List ℕ) → at + length new ≤ length xs → part at (length new) (put at new xs) ≡ new
unfolding put
within_put at new xs fits =
    let head = length-take-le at xs (omega (arith, fits)) in
    ap (λ (y : List ℕ). take (length new) (drop at y)) (append_assoc (take at xs) new (drop (at + length new) xs))
    ∙ ap (take (length new)) (drop_at (take at xs) (new ++ drop (at + length new) xs) at head)
    ∙ take_at new (drop (at + length new) xs) (length new) refl

-- more windows, in any order
pub agree_wider : (vs ws : List Window) (xs ys : List ℕ) → ((k : ℕ) → list_any (holds k) ws ≡ false → list_any (holds k) vs ≡ false) → Agree vs xs ys → Agree ws xs ys
agree_wider vs ws xs ys wider h = record { size = h.size; bytes = λ k out. h.bytes k (wider k out) }

-- a window carried behind others
carried : (v : Window) (vs ws : List Window) (k : ℕ) → list_any (holds k) (v ∷ (vs ++ ws)) ≡ false → list_any (holds k) (vs ++ (v ∷ ws)) ≡ false
carried v vs ws k h =
    let p = or_parts (holds k v) (list_any (holds k) (vs ++ ws)) h in
    let q = or_parts (list_any (holds k) vs) (list_any (holds k) ws) (sym (list_any-append (holds k) vs ws) ∙ p.1) in
    list_any-append (holds k) vs (v ∷ ws) ∙ or_from (list_any (holds k) vs) (list_any (holds k) (v ∷ ws)) q.0 (or_from (holds k v) (list_any (holds k) ws) p.0 q.1)

-- many puts: so many windows more
pub agree_edits : (ps : List Put) (ws : List Window) (xs ys : List ℕ) → Agree ws xs ys → AllIn (length xs) (windows ps) → Agree (windows ps ++ ws) (put_all ps xs) ys
unfolding put_all
agree_edits [] ws xs ys h fits = h
agree_edits (p ∷ ps) ws xs ys h fits =
    let one = agree_edit ws p.at p.bytes xs ys h fits.0 in
    let same_size : length (put p.at p.bytes xs) ≡ length xs = one.size ∙ sym h.size in
    let rest = agree_edits ps (put_window p ∷ ws) (put p.at p.bytes xs) ys one (rw same_size fits.1) in
    agree_wider (windows ps ++ (put_window p ∷ ws)) (windows (p ∷ ps) ++ ws) (put_all ps (put p.at p.bytes xs)) ys (carried (put_window p) (windows ps) ws) rest

-- the other file's bytes written into windows: so many windows less
pub agree_own : (ws vs : List Window) (xs ys : List ℕ) → Agree (ws ++ vs) xs ys → AllIn (length ys) ws → Agree vs (put_all (own ws ys) xs) ys
unfolding put_all
agree_own [] vs xs ys h fits = h
agree_own (w ∷ ws) vs xs ys h fits = agree_own ws vs (put w.at (within w ys) xs) ys (agree_back w (ws ++ vs) xs ys h fits.0) fits.1

-- the other file's bytes written into all windows give the other file
pub agree_undo : (ws : List Window) (xs ys : List ℕ) → Agree ws xs ys → AllIn (length ys) ws → put_all (own ws ys) xs ≡ ys
agree_undo ws xs ys h fits = agree_nowhere (put_all (own ws ys) xs) ys (agree_own ws [] xs ys (rw (append-nil ws) h) fits)

-- either way round
pub agree_turned : (ws : List Window) (xs ys : List ℕ) → Agree ws xs ys → Agree ws ys xs
agree_turned ws xs ys h = record { size = sym h.size; bytes = λ k out. sym (h.bytes k out) }

-- through a third file
pub agree_through : (ws : List Window) (xs ys zs : List ℕ) → Agree ws xs ys → Agree ws ys zs → Agree ws xs zs
agree_through ws xs ys zs h k = record { size = h.size ∙ k.size; bytes = λ at out. h.bytes at out ∙ k.bytes at out }

-- a file agrees with itself
pub agree_itself : (ws : List Window) (xs : List ℕ) → Agree ws xs xs
agree_itself ws xs = record { size = refl; bytes = λ at out. refl }

-- puts change no length
pub length-put_all : (ps : List Put) (xs : List ℕ) → AllIn (length xs) (windows ps) → length (put_all ps xs) ≡ length xs
unfolding put_all
length-put_all [] xs fits = refl
length-put_all (p ∷ ps) xs fits =
    let same_size : length (put p.at p.bytes xs) ≡ length xs = length-put p.at p.bytes xs fits.0 in
    length-put_all ps (put p.at p.bytes xs) (rw same_size fits.1) ∙ same_size

-- the windows of a file's own bytes
pub windows-own : (ws : List Window) (xs : List ℕ) → AllIn (length xs) ws → windows (own ws xs) ≡ ws
windows-own [] xs fits = refl
windows-own (w ∷ ws) xs fits =
    let size : length (within w xs) ≡ w.size = length-within w xs fits.0 in
    let rest : windows (own ws xs) ≡ ws = windows-own ws xs fits.1 in
    ap (λ (n : ℕ). record { at = w.at; size = n } ∷ windows (own ws xs)) size ∙ ap (λ (vs : List Window). w ∷ vs) rest

-- ---- parts

-- a byte of a part
pub part_byte : (at size : ℕ) (bytes : List ℕ) (i : ℕ) → i < size → get_or (part at size bytes) i 0 ≡ get_or bytes (at + i) 0
part_byte at size bytes i lt = get_or-take size (drop at bytes) i 0 lt ∙ get_or-drop at bytes i 0

-- how many bytes a part has
pub length-part : (at size : ℕ) (bytes : List ℕ) → at + size ≤ length bytes → length (part at size bytes) ≡ size
length-part at size bytes fits = length-take-le size (drop at bytes) (omega (arith, length-drop at bytes))

-- the same bytes there: the same part
pub part_same : (at size : ℕ) (xs ys : List ℕ) → length xs ≡ length ys → ((k : ℕ) → at ≤ k → k < at + size → get_or xs k 0 ≡ get_or ys k 0) → part at size xs ≡ part at size ys
part_same at size xs ys len same =
    let lengths : length (part at size xs) ≡ length (part at size ys) =
    length-take size (drop at xs) ∙ ap (min size) (length-drop at xs ∙ ap (λ (n : ℕ). n - at) len ∙ sym (length-drop at ys)) ∙ sym (length-take size (drop at ys)) in
    ext_get_or 0 (part at size xs) (part at size ys) lengths
    (λ i lt. let within_size : i < size = omega (arith, lt, length-take size (drop at xs), min-le_left size (length (drop at xs))) in
    part_byte at size xs i within_size ∙ same (at + i) (omega arith) (omega (arith, within_size)) ∙ sym (part_byte at size ys i within_size))

-- a part that lies apart from what is put stays
pub part_apart : (at size put_at : ℕ) (new bytes : List ℕ) → put_at + length new ≤ length bytes → (at + size ≤ put_at) ⊎ (put_at + length new ≤ at) → part at size (put put_at new bytes) ≡ part at size bytes
part_apart at size put_at new bytes fits (inl le) = part_same at size (put put_at new bytes) bytes (length-put put_at new bytes fits) (λ k from to. put_out put_at new bytes k fits (inl (omega (arith, to, le))))
part_apart at size put_at new bytes fits (inr le) = part_same at size (put put_at new bytes) bytes (length-put put_at new bytes fits) (λ k from to. put_out put_at new bytes k fits (inr (omega (arith, from, le))))

-- a part put over itself changes nothing
pub put_itself : (at size : ℕ) (bytes : List ℕ) → at + size ≤ length bytes → put at (part at size bytes) bytes ≡ bytes
unfolding put
put_itself at size bytes fits =
    ap (λ (n : ℕ). take at bytes ++ part at size bytes ++ drop (at + n) bytes) (length-part at size bytes fits)
    ∙ append_assoc (take at bytes) (take size (drop at bytes)) (drop (at + size) bytes)
    ∙ ap (λ (x : List ℕ). take at bytes ++ (take size (drop at bytes) ++ x)) (sym (drop-drop size at bytes))
    ∙ ap (λ (x : List ℕ). take at bytes ++ x) (take-append-drop size (drop at bytes))
    ∙ take-append-drop at bytes

-- a part of a part
pub part_part : (at size i n : ℕ) (bytes : List ℕ) → i + n ≤ size → part i n (part at size bytes) ≡ part (at + i) n bytes
part_part at size i n bytes le =
    let whole : size ≡ i + (size - i) = omega (arith, le) in
    ap (λ (m : ℕ). take n (drop i (take m (drop at bytes)))) whole
    ∙ ap (take n) (drop-take i (size - i) (drop at bytes))
    ∙ take-take n (size - i) (drop i (drop at bytes)) (omega (arith, le))
    ∙ ap (take n) (drop-drop i at bytes)

-- the whole
pub part_all : (bytes : List ℕ) → part 0 (length bytes) bytes ≡ bytes
part_all bytes = take_all (length bytes) bytes (omega arith)

-- a part wholly in the front of two lists
pub part_front : (at size : ℕ) (xs ys : List ℕ) → at + size ≤ length xs → part at size (xs ++ ys) ≡ part at size xs
part_front at size xs ys le =
    ap (take size) (drop-append-le at xs ys (omega (arith, le))) ∙ take-append-le size (drop at xs) ys (omega (arith, le, length-drop at xs))

-- a part wholly behind the first of two lists
pub part_behind : (i size : ℕ) (xs ys : List ℕ) → part (length xs + i) size (xs ++ ys) ≡ part i size ys
part_behind i size xs ys =
    ap (take size) (sym (drop-drop i (length xs) (xs ++ ys)) ∙ ap (drop i) (drop_at xs ys (length xs) refl))

-- ---- windows that lie apart, and windows that lie in a file

-- lying apart, the other way round
pub apart_turned : (v w : Window) → AreApart v w → AreApart w v
apart_turned v w (inl le) = inr (inl le)
apart_turned v w (inr (inl le)) = inl le
apart_turned v w (inr (inr (inl none))) = inr (inr (inr none))
apart_turned v w (inr (inr (inr none))) = inr (inr (inl none))

-- windows that share no byte lie apart
pub not_share : (v w : Window) → share v w ≡ false → AreApart v w
not_share v w none = elim (cases_lt v.at (end_of w)) [
  | inr le ↦ inr (inl le)
  | inl a ↦ elim (cases_lt w.at (end_of v)) [
    | inr le ↦ inl le
    | inl b ↦ elim (cases_lt 0 v.size) [
      | inr none ↦ inr (inr (inl (omega (arith, none))))
      | inl c ↦ elim (cases_lt 0 w.size) [
        | inr none ↦ inr (inr (inr (omega (arith, none))))
        | inl d ↦ absurd (grind (arith, nat_tests))
      ]
    ]
  ]
]

-- no two of the windows share a byte
abbrev pub AreAllApart : List Window → Type 0
AreAllApart [] = Unit {0}
AreAllApart (w ∷ ws) = IsApart w ws × AreAllApart ws

none_shared : (v : Window) (ws : List Window) → list_any (share v) ws ≡ false → IsApart v ws
none_shared v [] none = tt
none_shared v (w ∷ ws) none =
    let p = or_parts (share v w) (list_any (share v) ws) none in
    (not_share v w p.0, none_shared v ws p.1)

-- windows of which no two share a byte
pub none_share : (ws : List Window) → any_share ws ≡ false → AreAllApart ws
none_share [] none = tt
none_share (w ∷ ws) none =
    let p = or_parts (list_any (share w) ws) (any_share ws) none in
    (none_shared w ws p.0, none_share ws p.1)

-- a window by its place lies apart
pub apart_at : (v : Window) (ws : List Window) → IsApart v ws → (i : ℕ) (d : Window) → i < length ws → AreApart v (get_or ws i d)
apart_at v [] h i d lt = absurd (omega (arith, lt))
apart_at v (w ∷ ws) h zero d lt = h.0
apart_at v (w ∷ ws) h (suc i) d lt = apart_at v ws h.1 i d (omega (arith, lt))

-- all of them by their places
pub all_apart_at : (ws : List Window) → AreAllApart ws → AllPairs AreApart ws
all_apart_at [] h i j d lt within = absurd (omega (arith, within))
all_apart_at (w ∷ ws) h i zero d lt within = absurd (omega (arith, lt))
all_apart_at (w ∷ ws) h zero (suc j) d lt within = apart_at w ws h.0 j d (omega (arith, within))
all_apart_at (w ∷ ws) h (suc i) (suc j) d lt within = all_apart_at ws h.1 i j d (omega (arith, lt)) (omega (arith, within))

-- windows that are in so many bytes
pub all_in : (size : ℕ) (ws : List Window) → are_in size ws ≡ true → AllIn size ws
all_in size [] given = tt
all_in size (w ∷ ws) given =
    let p = and_parts (nat_le (end_of w) size) (are_in size ws) given in
    (grind (arith, nat_tests), all_in size ws p.1)

-- a window by its place lies in so many bytes
pub in_at : (size : ℕ) (ws : List Window) → AllIn size ws → (i : ℕ) (d : Window) → i < length ws → IsIn size (get_or ws i d)
in_at size [] h i d lt = absurd (omega (arith, lt))
in_at size (w ∷ ws) h zero d lt = h.0
in_at size (w ∷ ws) h (suc i) d lt = in_at size ws h.1 i d (omega (arith, lt))

-- ---- what many puts leave and make

-- a window's bytes changed: one window more
pub agree_on : (w : Window) (f : List ℕ → List ℕ) (ws : List Window) (xs ys : List ℕ) → Agree ws xs ys → IsIn (length xs) w → length (f (within w xs)) ≡ w.size → Agree (w ∷ ws) (on w f xs) ys
unfolding on
agree_on w f ws xs ys h fits same_size =
    let one = agree_edit ws w.at (f (within w xs)) xs ys h (omega (arith, same_size, fits)) in
    subst (λ (n : ℕ). Agree (record { at = w.at; size = n } ∷ ws) (put w.at (f (within w xs)) xs) ys) same_size one

-- a window apart from all puts keeps its bytes
pub within_apart_of_puts : (v : Window) (ps : List Put) (xs : List ℕ) → IsApart v (windows ps) → IsIn (length xs) v → AllIn (length xs) (windows ps) → within v (put_all ps xs) ≡ within v xs
within_apart_of_puts v ps xs apart fits all =
    let edited : Agree (windows ps ++ []) (put_all ps xs) xs = agree_edits ps [] xs xs (agree_same xs) all in
    agree_within v (windows ps) (put_all ps xs) xs (subst (λ (ws : List Window). Agree ws (put_all ps xs) xs) (append-nil (windows ps)) edited) fits apart

-- of puts that lie apart each is there
pub put_all_at : (ps : List Put) (xs : List ℕ) → AreAllApart (windows ps) → AllIn (length xs) (windows ps) → (i : ℕ) (d : Put) → i < length ps → within (put_window (get_or ps i d)) (put_all ps xs) ≡ (get_or ps i d).bytes
unfolding put_all
put_all_at [] xs apart fits i d lt = absurd (omega (arith, lt))
put_all_at (p ∷ ps) xs apart fits zero d lt =
    let same_size : length (put p.at p.bytes xs) ≡ length xs = length-put p.at p.bytes xs fits.0 in
    within_apart_of_puts (put_window p) ps (put p.at p.bytes xs) apart.0 (rw same_size fits.0) (rw same_size fits.1) ∙ within_put p.at p.bytes xs fits.0
put_all_at (p ∷ ps) xs apart fits (suc i) d lt =
    let same_size : length (put p.at p.bytes xs) ≡ length xs = length-put p.at p.bytes xs fits.0 in
    put_all_at ps (put p.at p.bytes xs) apart.1 (rw same_size fits.1) i d (omega (arith, lt))

-- ---- parts one after the other

-- where the gap leads
pub gap_to : (size : ℕ) → size + gap size ≡ (size + 7) / 8 * 8
gap_to size = omega arith

-- a size with its gap is a multiple of 8
pub gap_multiple : (size : ℕ) → (size + gap size) % 8 ≡ 0
gap_multiple size = omega arith

-- a multiple of 8 has no gap
pub gap_none : (size : ℕ) → size % 8 ≡ 0 → gap size ≡ 0
gap_none size multiple = omega (arith, multiple)

-- a gap is less than 8
pub gap_small : (size : ℕ) → gap size < 8
gap_small size = omega arith

length-front : (front : List ℕ) → length (front ++ replicate (gap (length front)) 0) ≡ (length front + 7) / 8 * 8
length-front front = length-append front (replicate (gap (length front)) 0) ∙ ap (λ (n : ℕ). length front + n) (length-replicate (gap (length front)) 0) ∙ gap_to (length front)

-- how long the sum is
pub length-⊕ : (front next : List ℕ) → length (front ⊕ next) ≡ (length front + 7) / 8 * 8 + length next
length-⊕ front next = length-append (front ++ replicate (gap (length front)) 0) next ∙ ap (λ (n : ℕ). n + length next) (length-front front)

-- behind a part whose length is a multiple of 8, the sum has a length that is one
pub ⊕-multiple : (front next : List ℕ) → length next % 8 ≡ 0 → length (front ⊕ next) % 8 ≡ 0
⊕-multiple front next multiple = omega (arith, length-⊕ front next, multiple)

-- behind a multiple of 8 there is no gap
pub ⊕-plain : (front next : List ℕ) → length front % 8 ≡ 0 → front ⊕ next ≡ front ++ next
⊕-plain front next multiple = ap (λ (n : ℕ). (front ++ replicate n 0) ++ next) (gap_none (length front) multiple) ∙ ap (λ (xs : List ℕ). xs ++ next) (append-nil front)

-- a part wholly in the front stays
pub part_under : (at size : ℕ) (front next : List ℕ) → at + size ≤ length front → part at size (front ⊕ next) ≡ part at size front
part_under at size front next le =
    part_front at size (front ++ replicate (gap (length front)) 0) next (omega (arith, le, length-front front))
    ∙ part_front at size front (replicate (gap (length front)) 0) le

-- the added part is found at its place
pub part_added : (front next : List ℕ) → part ((length front + 7) / 8 * 8) (length next) (front ⊕ next) ≡ next
part_added front next =
    ap (λ (at : ℕ). part at (length next) (front ⊕ next)) (sym (length-front front) ∙ omega arith)
    ∙ part_behind 0 (length next) (front ++ replicate (gap (length front)) 0) next
    ∙ part_all next
