-- Three texts, written one after the other.
use Rattle.std.proofs.Common.{◌≡◌, ℕ, List, ◌++◌, Option, ap, ◌∙◌}
use Rattle.pl_base.specs.Streams.{got_after, GotPrefix}
use Rattle.pl_base.proofs.StreamLaws.{got_after-got_after, GotPrefix-behind, GotPrefix-more}

module _ (xs ys zs : List ℕ) where
  pub stopped_in_first : (old new : Option (List ℕ)) → GotPrefix old new xs → GotPrefix old new ((xs ++ ys) ++ zs)
  stopped_in_first old new p = GotPrefix-more old new (xs ++ ys) zs (GotPrefix-more old new xs ys p)

  pub stopped_in_second : (old mid new : Option (List ℕ)) → mid ≡ got_after old xs → GotPrefix mid new ys → GotPrefix old new ((xs ++ ys) ++ zs)
  stopped_in_second old mid new e p = GotPrefix-more old new (xs ++ ys) zs (GotPrefix-behind old mid new xs ys e p)

  two : (old mid low : Option (List ℕ)) → mid ≡ got_after old xs → low ≡ got_after mid ys → low ≡ got_after old (xs ++ ys)
  two old mid low e f = f ∙ ap (λ m. got_after m ys) e ∙ got_after-got_after old xs ys

  pub stopped_in_third : (old mid low new : Option (List ℕ)) → mid ≡ got_after old xs → low ≡ got_after mid ys → GotPrefix low new zs → GotPrefix old new ((xs ++ ys) ++ zs)
  stopped_in_third old mid low new e f p = GotPrefix-behind old low new (xs ++ ys) zs (two old mid low e f) p

  pub got_three : (old mid low new : Option (List ℕ)) → mid ≡ got_after old xs → low ≡ got_after mid ys → new ≡ got_after low zs → new ≡ got_after old ((xs ++ ys) ++ zs)
  got_three old mid low new e f h = h ∙ ap (λ m. got_after m zs) (two old mid low e f) ∙ got_after-got_after old (xs ++ ys) zs
