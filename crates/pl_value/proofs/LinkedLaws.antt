-- Fills that are made of meanings one after the other, and laid over a memory.
use Rattle.std.proofs.Common.{◌≡◌, ℕ, ◌+◌, ◌<◌, false, List, [], ◌∷◌, ◌++◌, length, take, get_or, Option, Some, None, Ok, Err, refl, sym, ap, ◌∙◌}
use Rattle.std.specs.Prelude.{MatchBool, ⊤}
use Rattle.std.specs.List.{cons_option, filter_map, list_any}
use Rattle.std.proofs.lemmas.Bool.{or_parts}
use Rattle.std.proofs.lemmas.List.{append-nil, take_more}
use Rattle.std.proofs.lemmas.List.Elements.{filter_map-append}
use Rattle.pl_base.specs.Answers.{because}
use Rattle.pl_base.proofs.AnswerLaws.{because_ok}
use Rattle.pl_base.specs.Memory.{Memory, Fill, filled, layered, shown}
use Rattle.pl_base.proofs.MemoryLaws.{filled-append}
use Rattle.pl_image.specs.Image.{Image, all_pieces, any_masked, byte_of}
use Rattle.pl_image.specs.declared.loaded_object.LoadedObject.{LoadedObject}
use Rattle.pl_value.specs.Linked.{put_of, copy_of, words, copies, is_copy, worded, written, relocated}
use Rattle.pl_tls.specs.declared.module.Module.{Module}
use Rattle.pl_object.specs.declared.object.Object.{Object}
use Rattle.pl_value.specs.Meanings.{meanings, is_memory}
use Rattle.pl_value.specs.Ordinary.{loaded_objects, shown_linked, ordinary, IsOrdinary}
use Rattle.pl_value.specs.declared.fault.OrdinaryFault.{OrdinaryFault}
use Rattle.pl_value.specs.declared.fault.OrdinaryFault.TheVariants.{Link, NoMemory}
use Rattle.pl_value.specs.declared.meaning.Meaning.{Meaning}
use Rattle.pl_value.specs.declared.word.Word.{Word}
use Rattle.pl_value.specs.declared.word.Word.TheVariants.{Put, Copy, Nothing}
use Rattle.pl_value.proofs.CollectingLaws.{linked_err}

single : {X Y : Type 0} (h : X → Option Y) (x : X) (o : Option Y) → h x ≡ o → filter_map h (x ∷ []) ≡ cons_option o []
single h x None is = rw is refl
single h x (Some y) is = rw is refl

-- a meaning more, of which nothing or one row is made
made_more : {Y : Type 0} (h : Meaning → Option Y) (gs : List Meaning) (i : ℕ) (d : Meaning) (front new : List Y) (o : Option Y) → i < length gs → o ≡ h (get_or gs i d) → new ≡ front ++ cons_option o []
    → front ≡ filter_map h (take i gs) → new ≡ filter_map h (take (i + 1) gs)
made_more {Y = Y} h gs i d front new o lt made more so_far =
    let one = ap (filter_map h) (take_more gs i d lt) ∙ filter_map-append h (take i gs) (get_or gs i d ∷ []) in
    more ∙ ap (λ (ys : List Y). ys ++ cons_option o []) so_far ∙ ap (λ (ys : List Y). filter_map h (take i gs) ++ ys) (sym (single h (get_or gs i d) o (sym made))) ∙ sym one

pub words_more : (gs : List Meaning) (i : ℕ) (d : Meaning) (front new : List Fill) (o : Option Fill) → i < length gs → o ≡ put_of (get_or gs i d).start (get_or gs i d).word → new ≡ front ++ cons_option o [] → front ≡ words (take i gs) → new ≡ words (take (i + 1) gs)
unfolding words
words_more gs i d front new o lt made more so_far = made_more (λ (h : Meaning). put_of h.start h.word) gs i d front new o lt made more so_far

pub copies_more : (memory : Memory) (gs : List Meaning) (i : ℕ) (d : Meaning) (front new : List Fill) (o : Option Fill) → i < length gs → o ≡ copy_of memory (get_or gs i d).start (get_or gs i d).word → new ≡ front ++ cons_option o []
    → front ≡ copies memory (take i gs) → new ≡ copies memory (take (i + 1) gs)
unfolding copies
copies_more memory gs i d front new o lt made more so_far = made_more (λ (h : Meaning). copy_of memory h.start h.word) gs i d front new o lt made more so_far

-- ---- nothing is copied

none_of : (m : Memory) (start : ℕ) (word : Word) → is_copy word ≡ false → copy_of m start word ≡ None
none_of m start (Put w) none = refl
none_of m start (Copy member from size) none = absurd cc
none_of m start Nothing none = refl

pub no_copies : (m : Memory) (gs : List Meaning) → list_any (λ g. is_copy g.word) gs ≡ false → copies m gs ≡ []
unfolding copies
no_copies m [] none = refl
no_copies m (g ∷ gs) none =
    let parts = or_parts (is_copy g.word) (list_any (λ h. is_copy h.word) gs) none in
    rw (none_of m g.start g.word parts.0) (no_copies m gs parts.1)

pub words_alone : (base : Memory) (gs : List Meaning) → list_any (λ g. is_copy g.word) gs ≡ false → words gs ≡ written base gs
words_alone base gs none = sym (ap (λ (fs : List Fill). words gs ++ fs) (no_copies (worded base gs) gs none) ∙ append-nil (words gs))

-- ---- the image

-- words and then copies as patches over what is loaded
pub image_linked : (i : Image) (gs : List Meaning) (a : ℕ) → i.patches ≡ written (layered (all_pieces i.objects)) gs → byte_of i a ≡ shown_linked i.objects gs a
unfolding byte_of relocated
image_linked i gs a is =
    let base : Memory = layered (all_pieces i.objects) in
    let same : filled base i.patches ≡ filled (worded base gs) (copies (worded base gs) gs) = ap (filled base) is ∙ filled-append base (words gs) (copies (worded base gs) gs) in
    ap (λ (m : Memory). shown base (any_masked i.objects) m a) same

-- the patches of an image, which are what the meanings write over what was loaded
pub patches_linked : (i : Image) (ls ks : List LoadedObject) (gs ms : List Meaning) (all : List Fill) → i ≡ record { objects = ls; patches = all } → all ≡ written (layered (all_pieces ks)) ms → ks ≡ ls → ms ≡ gs
    → i.patches ≡ written (layered (all_pieces i.objects)) gs
patches_linked i ls ks gs ms all is made same_objects same_meanings =
    let objects : ks ≡ i.objects = same_objects ∙ sym (ap (λ (j : Image). j.objects) is) in
    ap (λ (j : Image). j.patches) is
    ∙ made
    ∙ ap (λ (zs : List LoadedObject). written (layered (all_pieces zs)) ms) objects
    ∙ ap (written (layered (all_pieces i.objects))) same_meanings

-- an image of the loaded objects with these patches is the ordinary one
pub image_ordinary : (objects : List Object) (parts : List (List ℕ)) (places : List ℕ) (modules : List Module) (gs : List Meaning) (i : Image) → because Link (meanings objects places modules) ≡ Ok gs → i.objects ≡ loaded_objects places parts objects
    → i.patches ≡ written (layered (all_pieces i.objects)) gs → IsOrdinary (Ok i) (ordinary objects parts places modules)
unfolding ordinary
image_ordinary objects parts places modules gs i is same patches =
    rw (because_ok Link (meanings objects places modules) gs is) (λ a. image_linked i gs a patches ∙ ap (λ (ls : List LoadedObject). shown_linked ls gs a) same)

-- a refusal of a meaning is that of the image
pub refused_ordinary : (objects : List Object) (parts : List (List ℕ)) (places : List ℕ) (modules : List Module) (e : OrdinaryFault) → MatchBool (is_memory e) ⊤ (because Link (meanings objects places modules) ≡ Err e) → IsOrdinary (Err e) (ordinary objects parts places modules)
unfolding ordinary
refused_ordinary objects parts places modules NoMemory stop = tt
refused_ordinary objects parts places modules (Link fault) stop = rw (linked_err (meanings objects places modules) fault stop) refl
