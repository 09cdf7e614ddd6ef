-- Bytes that pass through a buffer into a sink.
use Rattle.std.proofs.Common.{◌≡◌, ℕ, List, [], ◌++◌, Option, sym, ap, ◌∙◌, append_assoc, subst}
use Rattle.std.proofs.lemmas.List.{append-nil}
use Rattle.pl_base.specs.Streams.{got_after, GotPrefix}
use Rattle.pl_base.proofs.StreamLaws.{got_after-nil, got_after-got_after, GotPrefix-behind}
use Rattle.pl_image.specs.Lines.{Passes}

-- no bytes
pub passes_none : (old : Option (List ℕ)) (buffer : List ℕ) → Passes old old buffer buffer []
passes_none old buffer = ([], sym (got_after-nil old), sym (append-nil buffer))

-- bytes that are all in the buffer
pub passes_held : (old : Option (List ℕ)) (before after bytes : List ℕ) → after ≡ before ++ bytes → Passes old old before after bytes
passes_held old before after bytes is = ([], sym (got_after-nil old), is)

-- bytes behind a buffer that was emptied
pub passes_flushed : (old new : Option (List ℕ)) (before after bytes : List ℕ) → new ≡ got_after old before → after ≡ bytes → Passes old new before after bytes
passes_flushed old new before after bytes got is = (before, got, ap (λ (xs : List ℕ). before ++ xs) is)

-- some bytes, and then others
pub passes_more : (old mid new : Option (List ℕ)) (before between after xs ys : List ℕ) → Passes old mid before between xs → Passes mid new between after ys → Passes old new before after (xs ++ ys)
passes_more old mid new before between after xs ys p q = (
  p.0 ++ q.0,
  q.1 ∙ ap (λ (m : Option (List ℕ)). got_after m q.0) p.1 ∙ got_after-got_after old p.0 q.0,
  append_assoc p.0 q.0 after ∙ ap (λ (zs : List ℕ). p.0 ++ zs) q.2 ∙ sym (append_assoc p.0 between ys) ∙ ap (λ (zs : List ℕ). zs ++ ys) p.2 ∙ append_assoc before xs ys,
)

-- a fault after some bytes: a prefix of what the buffer held and of all bytes
pub stopped_behind : (old mid new : Option (List ℕ)) (before between xs ys : List ℕ) → Passes old mid before between xs → GotPrefix mid new (between ++ ys) → GotPrefix old new (before ++ (xs ++ ys))
stopped_behind old mid new before between xs ys p q =
    let there : p.0 ++ (between ++ ys) ≡ before ++ (xs ++ ys) = sym (append_assoc p.0 between ys) ∙ ap (λ (zs : List ℕ). zs ++ ys) p.2 ∙ append_assoc before xs ys in
    subst (GotPrefix old new) there (GotPrefix-behind old mid new p.0 (between ++ ys) p.1 q)
