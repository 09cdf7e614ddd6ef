-- Prelinked libraries at their own slots, one library after the other.
use Rattle.std.proofs.Common.{◌≡◌, ℕ, ◌+◌, ◌<◌, ◌≤◌, List, [], ◌∷◌, ◌++◌, length, get_or, drop, Option, Some, None, refl, sym, ap, ◌∙◌, append_assoc, append-nil}
use Rattle.std.proofs.lemmas.List.{drop_more, drop_all}
use Rattle.pl_elf.specs.declared.range.Range.{Range}
use Rattle.pl_slots.specs.declared.slot.Want.{Want}
use Rattle.pl_loader.specs.Places.{slot_place, range_at_slot, slot_places, ranges_at_slots, want_if, wants_left, joined}
use Rattle.pl_loader.specs.declared.object_file.ObjectFile.{ObjectFile}

-- ---- own places, with what they take and what the others want

-- so far: what was found, with what is still to come, is the whole
pub record OwnSoFar (fs : List ObjectFile) (i : ℕ) (before taken : List Range) (places : List (Option ℕ)) (wants : List Want) : Type 0 where
  pub places_are : places ++ slot_places taken (drop i fs) ≡ slot_places before fs
  pub wants_are : wants ++ wants_left (drop i fs) (slot_places taken (drop i fs)) ≡ wants_left fs (slot_places before fs)
  pub taken_is : taken ++ ranges_at_slots (drop i fs) (slot_places taken (drop i fs)) ≡ before ++ ranges_at_slots fs (slot_places before fs)

pub own_begins : (fs : List ObjectFile) (before : List Range) (places : List (Option ℕ)) (wants : List Want) → places ≡ [] → wants ≡ [] → OwnSoFar fs 0 before before places wants
own_begins fs before places wants no_places no_wants = rw (no_places, no_wants) (record { places_are = refl; wants_are = refl; taken_is = refl })

own_next : (taken : List Range) (fs : List ObjectFile) (i : ℕ) (d : ObjectFile) (own : Option ℕ) → i < length fs → own ≡ slot_place taken (get_or fs i d)
    → slot_places taken (drop i fs) ≡ own ∷ slot_places (taken ++ range_at_slot (get_or fs i d) own) (drop (i + 1) fs)
unfolding slot_places
own_next taken fs i d own lt is =
    ap (slot_places taken) (drop_more fs i d lt)
    ∙ sym (ap (λ (o : Option ℕ). o ∷ slot_places (taken ++ range_at_slot (get_or fs i d) o) (drop (i + 1) fs)) is)

wants_next : (taken : List Range) (fs : List ObjectFile) (i : ℕ) (d : ObjectFile) (own : Option ℕ) → i < length fs → own ≡ slot_place taken (get_or fs i d)
    → wants_left (drop i fs) (slot_places taken (drop i fs)) ≡ want_if (get_or fs i d) own ++ wants_left (drop (i + 1) fs) (slot_places (taken ++ range_at_slot (get_or fs i d) own) (drop (i + 1) fs))
unfolding wants_left
wants_next taken fs i d own lt is =
    ap (wants_left (drop i fs)) (own_next taken fs i d own lt is)
    ∙ ap (λ (gs : List ObjectFile). wants_left gs (own ∷ slot_places (taken ++ range_at_slot (get_or fs i d) own) (drop (i + 1) fs))) (drop_more fs i d lt)

ranges_next : (taken : List Range) (fs : List ObjectFile) (i : ℕ) (d : ObjectFile) (own : Option ℕ) → i < length fs → own ≡ slot_place taken (get_or fs i d)
    → ranges_at_slots (drop i fs) (slot_places taken (drop i fs)) ≡ range_at_slot (get_or fs i d) own ++ ranges_at_slots (drop (i + 1) fs) (slot_places (taken ++ range_at_slot (get_or fs i d) own) (drop (i + 1) fs))
unfolding ranges_at_slots
ranges_next taken fs i d own lt is =
    ap (ranges_at_slots (drop i fs)) (own_next taken fs i d own lt is)
    ∙ ap (λ (gs : List ObjectFile). ranges_at_slots gs (own ∷ slot_places (taken ++ range_at_slot (get_or fs i d) own) (drop (i + 1) fs))) (drop_more fs i d lt)

own_goes_on : (fs : List ObjectFile) (i : ℕ) (d : ObjectFile) (before taken now : List Range) (places more : List (Option ℕ)) (wants others : List Want) (own : Option ℕ) → i < length fs → own ≡ slot_place taken (get_or fs i d)
    → now ≡ taken ++ range_at_slot (get_or fs i d) own → more ≡ places ++ own ∷ [] → others ≡ wants ++ want_if (get_or fs i d) own → OwnSoFar fs i before taken places wants → OwnSoFar fs (i + 1) before now more others
own_goes_on fs i d before taken now places more wants others own lt is now_is more_is others_is so_far =
    let next : List Range = taken ++ range_at_slot (get_or fs i d) own in
    let rest : List (Option ℕ) = slot_places next (drop (i + 1) fs) in
    rw (now_is, more_is, others_is) (record {
      places_are = append_assoc places (own ∷ []) rest ∙ sym (ap (λ (os : List (Option ℕ)). places ++ os) (own_next taken fs i d own lt is)) ∙ so_far.places_are;
      wants_are = append_assoc wants (want_if (get_or fs i d) own) (wants_left (drop (i + 1) fs) rest) ∙ sym (ap (λ (ws : List Want). wants ++ ws) (wants_next taken fs i d own lt is)) ∙ so_far.wants_are;
      taken_is = append_assoc taken (range_at_slot (get_or fs i d) own) (ranges_at_slots (drop (i + 1) fs) rest) ∙ sym (ap (λ (rs : List Range). taken ++ rs) (ranges_next taken fs i d own lt is)) ∙ so_far.taken_is;
    })

-- the same, with the library of the turn
pub own_turn : (fs : List ObjectFile) (i : ℕ) (f : ObjectFile) (before taken now : List Range) (places more : List (Option ℕ)) (wants others : List Want) (own : Option ℕ) → i < length fs → f ≡ get_or fs i f → own ≡ slot_place taken f
    → now ≡ taken ++ range_at_slot f own → more ≡ places ++ own ∷ [] → others ≡ wants ++ want_if f own → OwnSoFar fs i before taken places wants → OwnSoFar fs (i + 1) before now more others
own_turn fs i f before taken now places more wants others own lt turn is now_is more_is others_is so_far =
    own_goes_on fs i f before taken now places more wants others own lt (is ∙ ap (slot_place taken) turn) (now_is ∙ ap (λ (g : ObjectFile). taken ++ range_at_slot g own) turn) more_is (others_is ∙ ap (λ (g : ObjectFile). wants ++ want_if g own) turn) so_far

-- the end
pub record OwnWhole (fs : List ObjectFile) (before taken : List Range) (places : List (Option ℕ)) (wants : List Want) : Type 0 where
  pub places_are : places ≡ slot_places before fs
  pub wants_are : wants ≡ wants_left fs (slot_places before fs)
  pub taken_is : taken ≡ before ++ ranges_at_slots fs (slot_places before fs)

pub own_ends : (fs : List ObjectFile) (i : ℕ) (before taken : List Range) (places : List (Option ℕ)) (wants : List Want) → length fs ≤ i → OwnSoFar fs i before taken places wants → OwnWhole fs before taken places wants
unfolding slot_places wants_left ranges_at_slots
own_ends fs i before taken places wants le so_far =
    let none : drop i fs ≡ [] = drop_all i fs le in
    record {
      places_are = sym (ap (λ (gs : List ObjectFile). places ++ slot_places taken gs) none ∙ append-nil places) ∙ so_far.places_are;
      wants_are = sym (ap (λ (gs : List ObjectFile). wants ++ wants_left gs (slot_places taken gs)) none ∙ append-nil wants) ∙ so_far.wants_are;
      taken_is = sym (ap (λ (gs : List ObjectFile). taken ++ ranges_at_slots gs (slot_places taken gs)) none ∙ append-nil taken) ∙ so_far.taken_is;
    }

-- ---- own places and those of the others in one list

pub joined_slot : (owns : List (Option ℕ)) (i : ℕ) (d : Option ℕ) (slot : ℕ) (left : List ℕ) → i < length owns → get_or owns i d ≡ Some slot → joined (drop i owns) left ≡ slot ∷ joined (drop (i + 1) owns) left
unfolding joined
joined_slot owns i d slot left lt is = ap (λ (os : List (Option ℕ)). joined os left) (drop_more owns i d lt) ∙ ap (λ (o : Option ℕ). joined (o ∷ drop (i + 1) owns) left) is

pub joined_start : (owns : List (Option ℕ)) (i : ℕ) (d : Option ℕ) (start : ℕ) (left : List ℕ) → i < length owns → get_or owns i d ≡ None → joined (drop i owns) (start ∷ left) ≡ start ∷ joined (drop (i + 1) owns) left
unfolding joined
joined_start owns i d start left lt is = ap (λ (os : List (Option ℕ)). joined os (start ∷ left)) (drop_more owns i d lt) ∙ ap (λ (o : Option ℕ). joined (o ∷ drop (i + 1) owns) (start ∷ left)) is

pub joined_none : (owns : List (Option ℕ)) (i : ℕ) (d : Option ℕ) → i < length owns → get_or owns i d ≡ None → joined (drop i owns) [] ≡ []
unfolding joined
joined_none owns i d lt is = ap (λ (os : List (Option ℕ)). joined os []) (drop_more owns i d lt) ∙ ap (λ (o : Option ℕ). joined (o ∷ drop (i + 1) owns) []) is

pub joined_done : (owns : List (Option ℕ)) (i : ℕ) (places left all : List ℕ) → length owns ≤ i → places ++ joined (drop i owns) left ≡ all → places ≡ all
unfolding joined
joined_done owns i places left all le so_far = sym (ap (λ (os : List (Option ℕ)). places ++ joined os left) (drop_all i owns le) ∙ append-nil places) ∙ so_far
