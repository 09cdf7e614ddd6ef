-- Words that are given in the ranges from which a program copies.
use Rattle.std.proofs.Common.{◌≡◌, ℕ, zero, suc, ◌+◌, ◌<◌, ◌≤◌, Bool, true, false, List, [], ◌∷◌, ◌++◌, length, map, get_or, take, Result, Ok, Err, refl, sym, ap, ◌∙◌, append_assoc, arith}
use Rattle.std.specs.Prelude.{◌&&◌, filter}
use Rattle.std.specs.List.{AllZip}
use Rattle.std.proofs.lemmas.List.{append-nil, take_all, take_more}
use Rattle.std.proofs.lemmas.List.Elements.{filter-append}
use Rattle.pl_base.proofs.AnswerLaws.{ok_same}
use Rattle.pl_base.proofs.EachLaws.{length-each}
use Rattle.pl_conflict.proofs.MeaningLaws.{start_is}
use Rattle.pl_cone.specs.Links.{objects_of}
use Rattle.pl_cone.specs.declared.scopes.WalkLinking.{WalkLinking}
use Rattle.pl_elf.specs.declared.range.Range.{Range}
use Rattle.pl_object.specs.declared.reloc.Reloc.{Reloc}
use Rattle.pl_value.specs.Meanings.{Row, meaning, row}
use Rattle.pl_value.specs.declared.fault.LinkFault.{LinkFault}
use Rattle.pl_value.specs.declared.meaning.Meaning.{Meaning}
use Rattle.pl_value.specs.declared.word.Word.TheVariants.{Nothing}
use Rattle.pl_value.proofs.MeaningLaws.{each_zip}
use Rattle.std.proofs.lemmas.List.{length-map}
use Rattle.pl_rewrite.specs.RemainingRows.{AddsNear, given_in, is_near_word, is_put, meaning_in, start_of}
use Rattle.pl_rewrite.specs.Ranges.{is_near}

abbrev value : WalkLinking → Row → Result Meaning LinkFault
value l x = meaning (objects_of l) l.places.now l.modules.now x

-- ---- what the relocation of an index gives

zip_given : (l : WalkLinking) (m : ℕ) (rs : List Reloc) (gs : List Meaning) (i : ℕ) (d : Reloc) (e : Meaning) → AllZip (λ x g. value l x ≡ Ok g) (map (row m) rs) gs → i < length rs → meaning_in l m (get_or rs i d) ≡ Ok (get_or gs i e)
zip_given l m [] gs i d e zip lt = absurd (omega (arith, lt))
zip_given l m (r ∷ rs) [] i d e zip lt = absurd zip
zip_given l m (r ∷ rs) (g ∷ gs) zero d e zip lt = zip.0
zip_given l m (r ∷ rs) (g ∷ gs) (suc i) d e zip lt = zip_given l m rs gs i d e zip.1 (omega (arith, lt))

pub given_at : (l : WalkLinking) (m : ℕ) (rs : List Reloc) (gs : List Meaning) (i : ℕ) (d : Reloc) (e : Meaning) → given_in l m rs ≡ Ok gs → i < length rs → meaning_in l m (get_or rs i d) ≡ Ok (get_or gs i e)
given_at l m rs gs i d e is lt = zip_given l m rs gs i d e (each_zip (value l) (map (row m) rs) gs is) lt

pub given_count : (l : WalkLinking) (m : ℕ) (rs : List Reloc) (gs : List Meaning) → given_in l m rs ≡ Ok gs → length gs ≡ length rs
given_count l m rs gs is = length-each (value l) (map (row m) rs) gs is ∙ length-map rs (row m)

-- one that has a value is not refused
pub not_refused : (l : WalkLinking) (m : ℕ) (rs : List Reloc) (gs : List Meaning) (i : ℕ) (d : Reloc) (fault : LinkFault) → given_in l m rs ≡ Ok gs → i < length rs → Err fault ≡ meaning_in l m (get_or rs i d) → ⊥
not_refused l m rs gs i d fault is lt stop =
    let e : Meaning = record { member = 0; start = 0; size = 0; word = Nothing } in
    let both : ◌≡◌ {A = Result Meaning LinkFault} (Err fault) (Ok (get_or gs i e)) = stop ∙ given_at l m rs gs i d e is lt in
    absurd cc

-- ---- one relocation after the other

-- the words near ranges of what the first relocations of a member give stand behind others
abbrev pub Nears : WalkLinking → ℕ → List Reloc → List Range → ℕ → List Meaning → List Meaning → Type 0
Nears l m rs ranges i before after = (gs : List Meaning) → given_in l m rs ≡ Ok gs → after ≡ before ++ filter (is_near_word ranges) (take i gs)

pub near_begin : (l : WalkLinking) (m : ℕ) (rs : List Reloc) (ranges : List Range) (before : List Meaning) → Nears l m rs ranges 0 before before
near_begin l m rs ranges before gs is = sym (append-nil before)

one_more : (p : Meaning → Bool) (gs : List Meaning) (i : ℕ) (e : Meaning) (before after : List Meaning) → i < length gs → after ≡ before ++ filter p (take i gs) → after ++ filter p (get_or gs i e ∷ []) ≡ before ++ filter p (take (i + 1) gs)
one_more p gs i e before after lt so_far =
    let one : List Meaning = filter p (get_or gs i e ∷ []) in
    ap (λ (xs : List Meaning). xs ++ one) so_far ∙ append_assoc before (filter p (take i gs)) one
    ∙ ap (λ (xs : List Meaning). before ++ xs) (sym (filter-append p (take i gs) (get_or gs i e ∷ [])) ∙ ap (filter p) (sym (take_more gs i e lt)))

passed_one : (p : Meaning → Bool) (y : Meaning) → p y ≡ true → filter p (y ∷ []) ≡ y ∷ []
passed_one p y hit = rw hit refl

missed_one : (p : Meaning → Bool) (y : Meaning) → p y ≡ false → filter p (y ∷ []) ≡ []
missed_one p y miss = rw miss refl

pub near_pushed : (l : WalkLinking) (m : ℕ) (rs : List Reloc) (ranges : List Range) (i : ℕ) (d : Reloc) (y : Meaning) (before after new : List Meaning) → i < length rs → Ok y ≡ meaning_in l m (get_or rs i d) → true ≡ is_near_word ranges y → new ≡ after ++ y ∷ []
    → Nears l m rs ranges i before after → Nears l m rs ranges (i + 1) before new
near_pushed l m rs ranges i d y before after new lt is hit more so_far = λ gs all.
    let p = is_near_word ranges in
    let same : y ≡ get_or gs i y = ok_same y (get_or gs i y) (is ∙ given_at l m rs gs i d y all lt) in
    more ∙ ap (λ (xs : List Meaning). after ++ xs) (sym (passed_one p y (sym hit)) ∙ ap (λ (g : Meaning). filter p (g ∷ [])) same) ∙ one_more p gs i y before after (omega (arith, lt, given_count l m rs gs all)) (so_far gs all)

pub near_other : (l : WalkLinking) (m : ℕ) (rs : List Reloc) (ranges : List Range) (i : ℕ) (d : Reloc) (y : Meaning) (before after : List Meaning) → i < length rs → Ok y ≡ meaning_in l m (get_or rs i d) → false ≡ is_near_word ranges y
    → Nears l m rs ranges i before after → Nears l m rs ranges (i + 1) before after
near_other l m rs ranges i d y before after lt is miss so_far = λ gs all.
    let p = is_near_word ranges in
    let same : y ≡ get_or gs i y = ok_same y (get_or gs i y) (is ∙ given_at l m rs gs i d y all lt) in
    sym (append-nil after) ∙ ap (λ (xs : List Meaning). after ++ xs) (sym (missed_one p y (sym miss)) ∙ ap (λ (g : Meaning). filter p (g ∷ [])) same) ∙ one_more p gs i y before after (omega (arith, lt, given_count l m rs gs all)) (so_far gs all)

and_none : (a b : Bool) → b ≡ false → (a && b) ≡ false
and_none true b is = is
and_none false b is = refl

pub near_far : (l : WalkLinking) (m : ℕ) (rs : List Reloc) (ranges : List Range) (i : ℕ) (d : Reloc) (before after : List Meaning) → i < length rs → false ≡ is_near ranges (start_of l m (get_or rs i d)) → Nears l m rs ranges i before after → Nears l m rs ranges (i + 1) before after
near_far l m rs ranges i d before after lt far so_far = λ gs all.
    let e : Meaning = record { member = 0; start = 0; size = 0; word = Nothing } in
    let p = is_near_word ranges in
    let g : Meaning = get_or gs i e in
    let start : g.start ≡ start_of l m (get_or rs i d) = start_is (objects_of l) l.places.now l.modules.now m (get_or rs i d) g (given_at l m rs gs i d e all lt) in
    let miss : p g ≡ false = and_none (is_put g.word) (is_near ranges g.start) (ap (is_near ranges) start ∙ sym far) in
    sym (append-nil after) ∙ ap (λ (xs : List Meaning). after ++ xs) (sym (missed_one p g miss)) ∙ one_more p gs i e before after (omega (arith, lt, given_count l m rs gs all)) (so_far gs all)

pub near_done : (l : WalkLinking) (m : ℕ) (rs : List Reloc) (ranges : List Range) (i : ℕ) (before after : List Meaning) → length rs ≤ i → Nears l m rs ranges i before after → AddsNear l m rs ranges before after
near_done l m rs ranges i before after le so_far = λ gs all. so_far gs all ∙ ap (λ (xs : List Meaning). before ++ filter (is_near_word ranges) xs) (take_all i gs (omega (arith, le, given_count l m rs gs all)))

-- ---- where nothing is copied

none_near : (gs : List Meaning) → filter (is_near_word []) gs ≡ []
none_near [] = refl
none_near (g ∷ gs) = rw (and_none (is_put g.word) false refl) (none_near gs)

pub nothing_near : (l : WalkLinking) (m : ℕ) (rs : List Reloc) (ranges : List Range) (near : List Meaning) → ranges ≡ [] → AddsNear l m rs ranges near near
nothing_near l m rs ranges near none = λ gs all. sym (ap (λ (xs : List Range). near ++ filter (is_near_word xs) gs) none ∙ ap (λ (xs : List Meaning). near ++ xs) (none_near gs) ∙ append-nil near)
