-- The names of needed libraries: those that were read before, and the loop over the tags.
use Rattle.std.proofs.Common.{◌≡◌, ℕ, ◌+◌, ◌<◌, ◌≤◌, Bool, true, false, cond, List, [], ◌∷◌, ◌++◌, length, drop, get_or, Option, Some, None, Result, Ok, Err, refl, sym, ap, ◌∙◌, arith}
use Rattle.std.specs.Prelude.{filter, nat_lt, ◌==◌, MatchBool, ⊤}
use Rattle.std.specs.BTreeMap.{BTreeMap, IsEmpty, get, is_at}
use Rattle.std.specs.Map.{lookup}
use Rattle.std.specs.Ordering.{is_eq, nat_cmp}
use Rattle.std.specs.declared.cmp.Ordering.TheVariants.{Less, Equal, Greater}
use Rattle.std.proofs.lemmas.Bool.{eqb-true, ltb-true}
use Rattle.std.proofs.lemmas.List.{at_drop_more, at_drop_all}
use Rattle.pl_base.specs.Each.{each, with_front}
use Rattle.pl_base.specs.Strings.{string_at}
use Rattle.pl_base.proofs.EachLaws.{each_done, each_fails, each_more}
use Rattle.pl_object.specs.Names.{checked_name}
use Rattle.pl_object.specs.NamesRead.{name_read, AreRead, IsNameKept, IsUnread}
use Rattle.pl_object.specs.declared.names_read.NamesRead.{NamesRead}

-- ---- the map

-- a map of nothing has no name
pub unread : (texts : BTreeMap ℕ (List ℕ)) → IsEmpty texts → IsUnread (record { texts = texts })
unread texts empty at = ap (lookup (is_at (nat_cmp at))) empty

same_number : (k q : ℕ) → is_eq (nat_cmp k q) ≡ (k == q)
same_number k q = by (nat_lt k q) (k == q) refl refl
  where
    by : (b c : Bool) → nat_lt k q ≡ b → (k == q) ≡ c → is_eq (cond b Less (cond c Equal Greater)) ≡ c
    by true true less same = absurd (omega (arith, ltb-true k q less, eqb-true k q same))
    by true false less other = refl
    by false true less same = refl
    by false false less other = refl

pub name_kept : (old new : NamesRead) (at : ℕ) (name : List ℕ) → ((q : ℕ) → get nat_cmp new.texts q ≡ cond (is_at (nat_cmp at) q) (Some name) (get nat_cmp old.texts q)) → IsNameKept old at name new
name_kept old new at name updates other = updates other ∙ ap (λ (b : Bool). cond b (Some name) (get nat_cmp old.texts other)) (same_number at other)

-- ---- the names that were read

no_name : (name : List ℕ) → ◌≡◌ {A = Option (List ℕ)} None (Some name) → ⊥
no_name name at = absurd (cc)

same_name : (one other : List ℕ) → ◌≡◌ {A = Option (List ℕ)} (Some one) (Some other) → one ≡ other
same_name one other at = cc

pub none_read : (strings : List ℕ) (read : NamesRead) → IsUnread read → AreRead strings read
none_read strings read none = λ at name is. absurd (no_name name (sym (none at) ∙ is))

kept_by : (strings : List ℕ) (old : NamesRead) (at other : ℕ) (name found : List ℕ) (b : Bool) → (at == other) ≡ b → AreRead strings old → checked_name (string_at at strings) ≡ Ok name
    → cond b (Some name) (name_read old other) ≡ Some found → checked_name (string_at other strings) ≡ Ok found
kept_by strings old at other name found true same are is e = ap (λ (n : ℕ). checked_name (string_at n strings)) (sym (eqb-true at other same)) ∙ is ∙ ap Ok (same_name name found e)
kept_by strings old at other name found false apart are is e = are other found e

-- one name more
pub more_read : (strings : List ℕ) (old new : NamesRead) (at : ℕ) (name : List ℕ) → AreRead strings old → IsNameKept old at name new → checked_name (string_at at strings) ≡ Ok name → AreRead strings new
more_read strings old new at name are kept is = λ other found e. kept_by strings old at other name found (at == other) refl are is (sym (kept other) ∙ e)

-- ---- a loop over the rows that pass a test

module _ {A B E : Type 0} (f : A → Result B E) (p : A → Bool) (xs : List A) (i : ℕ) (x other : A) (front : List B) (whole : Result (List B) E) (lt : i < length xs) (at : x ≡ get_or xs i other)
    (so_far : with_front front (each f (filter p (drop i xs))) ≡ whole) where
  here : (b : Bool) → p x ≡ b → with_front front (each f (cond b (x ∷ filter p (drop (i + 1) xs)) (filter p (drop (i + 1) xs)))) ≡ whole
  here b is =
      let step : with_front front (each f (filter p (drop i xs))) ≡ with_front front (each f (filter p (x ∷ drop (i + 1) xs))) =
      at_drop_more (λ (zs : List A). with_front front (each f (filter p zs))) xs i other lt ∙ ap (λ (z : A). with_front front (each f (filter p (z ∷ drop (i + 1) xs)))) (sym at) in
      ap (λ (c : Bool). with_front front (each f (cond c (x ∷ filter p (drop (i + 1) xs)) (filter p (drop (i + 1) xs))))) (sym is) ∙ sym step ∙ so_far

  -- one that passes gives a result
  pub kept_more : (y : B) → p x ≡ true → f x ≡ Ok y → with_front (front ++ y ∷ []) (each f (filter p (drop (i + 1) xs))) ≡ whole
  kept_more y passes got = each_more f (x ∷ filter p (drop (i + 1) xs)) 0 x front y whole (omega arith) got (here true passes)

  -- or it is refused
  pub kept_fails : (m : E → Bool) (e : E) → p x ≡ true → MatchBool (m e) ⊤ (f x ≡ Err e) → MatchBool (m e) ⊤ (whole ≡ Err e)
  kept_fails m e passes stop = each_fails m f (x ∷ filter p (drop (i + 1) xs)) 0 x front e whole (omega arith) stop (here true passes)

  -- any other gives nothing
  pub kept_past : p x ≡ false → with_front front (each f (filter p (drop (i + 1) xs))) ≡ whole
  kept_past fails = here false fails

pub kept_done : {A B E : Type 0} (f : A → Result B E) (p : A → Bool) (xs : List A) (i : ℕ) (front : List B) (whole : Result (List B) E) → length xs ≤ i
    → with_front front (each f (filter p (drop i xs))) ≡ whole → whole ≡ Ok front
kept_done {A = A} f p xs i front whole le so_far = each_done f [] 0 front whole (omega arith) (sym (at_drop_all (λ (zs : List A). with_front front (each f (filter p zs))) xs i le) ∙ so_far)
