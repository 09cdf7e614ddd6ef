-- Names of members and their numbers.
use Rattle.std.proofs.Common.{◌≡◌, ℕ, zero, suc, ◌+◌, ◌<◌, ◌≤◌, Bool, false, not, cond, List, [], ◌∷◌, ◌++◌, length, get_or, take, drop, map, Option, Some, None, refl, sym, ap, subst, ◌∙◌, arith, append_assoc}
use Rattle.std.specs.Prelude.{position, if◌then◌else◌}
use Rattle.std.specs.List.{All, list_any, filter_map, cons_option, prefix_len, IsDistinct}
use Rattle.std.specs.Str.{bytes_eq}
use Rattle.std.proofs.lemmas.List.{append-nil, length-map, length-take, map-append, get_or-take, take_more, take_all, get_or_default, at_drop_more, at_drop_all}
use Rattle.std.proofs.lemmas.List.Folds.{list_any_none}
use Rattle.std.proofs.lemmas.List.Quantifiers.{position-Some}
use Rattle.std.proofs.lemmas.Map.Keys.{apart_from_distinct}
use Rattle.pl_scope.specs.Walk.{Walked}
use Rattle.pl_scope.specs.Scope.{walked}
use Rattle.pl_scope.specs.Members.{names}
use Rattle.pl_scope.specs.declared.member.Member.{Member}
use Rattle.pl_scope.specs.declared.constants.TheConstants.{MAX_MEMBERS}
use Rattle.pl_scope.proofs.NameLaws.{eq_flip}
use Rattle.pl_object.specs.declared.object.Object.{Object}
use Rattle.pl_init.specs.Graph.{number, graph}
use Rattle.pl_init.specs.Flags.{IsGraph}

-- ---- places of what is seen by a view

prefix_map : {K X : Type 0} (f : K → X) (p : X → Bool) (keys : List K) → prefix_len (λ k. not (p (f k))) keys ≡ prefix_len (λ x. not (p x)) (map f keys)
prefix_map f p [] = refl
prefix_map f p (k ∷ keys) = ap (λ (n : ℕ). cond (not (p (f k))) (1 + n) 0) (prefix_map f p keys)

pub position_map : {K X : Type 0} (f : K → X) (p : X → Bool) (keys : List K) → position (λ k. p (f k)) keys ≡ position p (map f keys)
position_map f p keys = rw (prefix_map f p keys, ← length-map keys f) refl

any_map : {K X : Type 0} (f : K → X) (p : X → Bool) (keys : List K) → list_any (λ k. p (f k)) keys ≡ list_any p (map f keys)
any_map f p [] = refl
any_map f p (k ∷ keys) = rw (any_map f p keys) refl

-- ---- distinct names

pub new_name : (ns : List (List ℕ)) (i : ℕ) → IsDistinct bytes_eq ns → i < length ns → list_any (bytes_eq (get_or ns i [])) (take i ns) ≡ false
new_name ns i distinct lt = list_any_none (bytes_eq (get_or ns i [])) (take i ns) (λ k d small. at k d (below small))
  where
    below : {k : ℕ} → k < length (take i ns) → k < i
    below small = omega (arith, small, length-take i ns)

    at : (k : ℕ) (d : List ℕ) → k < i → bytes_eq (get_or ns i []) (get_or (take i ns) k d) ≡ false
    at k d small = ap (bytes_eq (get_or ns i [])) (get_or-take i ns k d small ∙ default k d small) ∙ (eq_flip (get_or ns i []) (get_or ns k []) ∙ apart_from_distinct bytes_eq ns k i [] distinct small lt)
      where
        default : (k : ℕ) (d : List ℕ) → k < i → get_or ns k d ≡ get_or ns k []
        default k d small = get_or_default ns k d [] (omega (arith, small, lt))

-- a key more, seen by a view under which keys are compared
pub name_more : {K : Type 0} (f : K → List ℕ) (ns : List (List ℕ)) (i : ℕ) (keys after : List K) (key : K) → IsDistinct bytes_eq ns → i < length ns → map f keys ≡ take i ns → f key ≡ get_or ns i []
    → after ≡ (if list_any (λ k. bytes_eq (f key) (f k)) keys then keys else keys ++ key ∷ []) → map f after ≡ take (i + 1) ns
name_more f ns i keys after key distinct lt front is inserts =
    let none : list_any (λ k. bytes_eq (f key) (f k)) keys ≡ false = any_map f (bytes_eq (f key)) keys ∙ (ap (λ (n : List ℕ). list_any (bytes_eq n) (map f keys)) is ∙ (ap (list_any (bytes_eq (get_or ns i []))) front ∙ new_name ns i distinct lt)) in
    let pushed : after ≡ keys ++ key ∷ [] = rw none at inserts in
    ap (map f) pushed ∙ (map-append f keys (key ∷ []) ∙ (ap (λ (z : List (List ℕ)). z ++ f key ∷ []) front ∙ (ap (λ (n : List ℕ). take i ns ++ n ∷ []) is ∙ sym (take_more ns i [] lt))))

-- ---- numbers of needed names

pub numbers_some : (h : List ℕ → Option ℕ) (numbers after : List ℕ) (needed : List (List ℕ)) (i n : ℕ) (whole : List ℕ) → i < length needed → h (get_or needed i []) ≡ Some n → after ≡ numbers ++ n ∷ [] → numbers ++ filter_map h (drop i needed) ≡ whole
    → after ++ filter_map h (drop (i + 1) needed) ≡ whole
numbers_some h numbers after needed i n whole lt some is so_far =
    ap (λ (z : List ℕ). z ++ filter_map h (drop (i + 1) needed)) is ∙ (append_assoc numbers (n ∷ []) (filter_map h (drop (i + 1) needed))
    ∙ (ap (λ (z : List ℕ). numbers ++ z) (sym (at_drop_more (filter_map h) needed i [] lt ∙ rw some refl)) ∙ so_far))

pub numbers_none : (h : List ℕ → Option ℕ) (numbers : List ℕ) (needed : List (List ℕ)) (i : ℕ) (whole : List ℕ) → i < length needed → h (get_or needed i []) ≡ None → numbers ++ filter_map h (drop i needed) ≡ whole → numbers ++ filter_map h (drop (i + 1) needed) ≡ whole
numbers_none h numbers needed i whole lt none so_far = ap (λ (z : List ℕ). numbers ++ z) (sym (at_drop_more (filter_map h) needed i [] lt ∙ rw none refl)) ∙ so_far

pub numbers_all : (h : List ℕ → Option ℕ) (numbers : List ℕ) (needed : List (List ℕ)) (i : ℕ) (whole : List ℕ) → length needed ≤ i → numbers ++ filter_map h (drop i needed) ≡ whole → numbers ≡ whole
numbers_all h numbers needed i whole past so_far = sym (append-nil numbers) ∙ (ap (λ (z : List ℕ). numbers ++ z) (sym (at_drop_all (filter_map h) needed i past)) ∙ so_far)

-- ---- the graph of few members

number_small : (ns : List (List ℕ)) (n : List ℕ) (k : ℕ) → number ns n ≡ Some k → k < length ns
number_small ns n k is = (position-Some (bytes_eq n) ns k [] is).0

numbers_small : (ns : List (List ℕ)) (needed : List (List ℕ)) → All (λ (k : ℕ). k < length ns) (filter_map (number ns) needed)
numbers_small ns [] i d lt = absurd (omega arith)
numbers_small ns (n ∷ needed) i d lt = at (number ns n) refl (numbers_small ns needed) i d lt
  where
    at : (o : Option ℕ) → number ns n ≡ o → All (λ (k : ℕ). k < length ns) (filter_map (number ns) needed) → All (λ (k : ℕ). k < length ns) (cons_option o (filter_map (number ns) needed))
    at None e rest = rest
    at (Some k) e rest = cons k (number_small ns n k e) (filter_map (number ns) needed) rest
      where
        cons : (k : ℕ) → k < length ns → (ks : List ℕ) → All (λ (j : ℕ). j < length ns) ks → All (λ (j : ℕ). j < length ns) (k ∷ ks)
        cons k small ks rest zero d lt = small
        cons k small ks rest (suc i) d lt = rest i d (omega arith)

length_names : (ws : Walked) → length (names ws) ≡ length ws
length_names ws = length-map ws (λ (p : List ℕ × Object). p.0)

all_small : (ns : List (List ℕ)) (ws : Walked) → All (λ (ks : List ℕ). All (λ (k : ℕ). k < length ns) ks) (map (λ (p : List ℕ × Object). filter_map (number ns) p.1.needed) ws)
all_small ns [] i d lt = absurd (omega arith)
all_small ns (p ∷ ws) zero d lt = numbers_small ns p.1.needed
all_small ns (p ∷ ws) (suc i) d lt = all_small ns ws i d (omega arith)

pub length_graph : (ws : Walked) → length (graph ws) ≡ length ws
unfolding graph
length_graph ws = length-map ws (λ (p : List ℕ × Object). filter_map (number (names ws)) p.1.needed)

pub graph_sound : (ws : Walked) → length ws ≤ MAX_MEMBERS → IsGraph (graph ws)
unfolding graph
graph_sound ws few = record {
  few = subst (λ (n : ℕ). n ≤ MAX_MEMBERS) (sym (length_graph ws)) few;
  numbers = subst (λ (n : ℕ). All (λ (ks : List ℕ). All (λ (k : ℕ). k < n) ks) (graph ws)) (length_names ws ∙ sym (length_graph ws)) (all_small (names ws) ws);
}

-- ---- a member as it is read

pub item_name : (ms : List Member) (i : ℕ) (m : Member) → i < length ms → m ≡ get_or ms i m → get_or (names (walked ms)) i [] ≡ m.name
item_name [] i m lt is = absurd (omega arith)
item_name (x ∷ ms) zero m lt is = ap (λ (y : Member). y.name) (sym is)
item_name (x ∷ ms) (suc i) m lt is = item_name ms i m (omega arith) is

pub item_pair : (ms : List Member) (i : ℕ) (m : Member) (d : List ℕ × Object) → i < length ms → m ≡ get_or ms i m → get_or (walked ms) i d ≡ (m.name, m.object.now)
item_pair [] i m d lt is = absurd (omega arith)
item_pair (x ∷ ms) zero m d lt is = ap (λ (y : Member). (y.name, y.object.now)) (sym is)
item_pair (x ∷ ms) (suc i) m d lt is = item_pair ms i m d (omega arith) is

pub length_walked : (ms : List Member) → length (walked ms) ≡ length ms
length_walked ms = length-map ms (λ (m : Member). (m.name, m.object.now))

pub length_member_names : (ms : List Member) → length (names (walked ms)) ≡ length ms
length_member_names ms = length_names (walked ms) ∙ length_walked ms

-- the numbers that a member needs
abbrev pub numbers_of : List (List ℕ) → List ℕ × Object → List ℕ
numbers_of ns member = filter_map (number ns) member.1.needed

pub graph_more : (ns : List (List ℕ)) (ms : List Member) (i : ℕ) (m : Member) (so_far after : List (List ℕ)) (numbers : List ℕ) → i < length ms → m ≡ get_or ms i m → so_far ≡ map (numbers_of ns) (take i (walked ms)) → numbers ≡ filter_map (number ns) m.object.now.needed → after ≡ so_far ++ numbers ∷ []
    → after ≡ map (numbers_of ns) (take (i + 1) (walked ms))
graph_more ns ms i m so_far after numbers lt is front made pushed =
    let pair : List ℕ × Object = (m.name, m.object.now) in
    let within : i < length (walked ms) = omega (arith, lt, length_walked ms) in
    let more : take (i + 1) (walked ms) ≡ take i (walked ms) ++ pair ∷ [] = take_more (walked ms) i pair within ∙ ap (λ (p : List ℕ × Object). take i (walked ms) ++ p ∷ []) (item_pair ms i m pair lt is) in
    pushed ∙ (ap (λ (z : List (List ℕ)). z ++ numbers ∷ []) front ∙ (ap (λ (z : List ℕ). map (numbers_of ns) (take i (walked ms)) ++ z ∷ []) made
    ∙ (sym (map-append (numbers_of ns) (take i (walked ms)) (pair ∷ [])) ∙ ap (map (numbers_of ns)) (sym more))))

pub graph_all : (ms : List Member) (i : ℕ) (so_far : List (List ℕ)) → length ms ≤ i → so_far ≡ map (numbers_of (names (walked ms))) (take i (walked ms)) → so_far ≡ graph (walked ms)
unfolding graph
graph_all ms i so_far past is = is ∙ ap (map (numbers_of (names (walked ms)))) (take_all i (walked ms) (omega (arith, past, length_walked ms)))
