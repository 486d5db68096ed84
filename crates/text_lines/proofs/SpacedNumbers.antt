-- Numbers written one behind the other, each behind a space.
-- Assumes nothing.
use mathlib.Core.Path.{◌≡◌, sym, ap, ◌∙◌}
use mathlib.Core.List.{List, [], ◌∷◌, ◌++◌, append_assoc, append-nil}
use Prim.Native.Nat.{ℕ, ◌+◌, ◌*◌, ◌<◌}
use native.Mathlib.Numerals.{add-one}
use native.Mathlib.Omega.{arith}
use lib.ListN.{length, get_or, take}
use lib.Seq.{take-suc}
use Rattle.model.specs.Listing.{decimal, space}
use Rattle.text_lines.specs.Text.{spaced_all}
use Rattle.text_lines.specs.Page.{Written}
use Rattle.text_lines.specs.declared.page.Page.{Page}
use Rattle.text_lines.proofs.TextWritten.{then, reword, no_text}

spaced_last : (xs : List ℕ) (x : ℕ) → spaced_all (xs ++ (x ∷ [])) ≡ spaced_all xs ++ (space ++ decimal x)
unfolding spaced_all
spaced_last [] x = append-nil (space ++ decimal x)
spaced_last (y ∷ ys) x =
    ap (λ (t : List ℕ). (space ++ decimal y) ++ t) (spaced_last ys x) ∙ sym (append_assoc (space ++ decimal y) (spaced_all ys) (space ++ decimal x))

module _ (xs : List ℕ) where
  pub none : (page : Page) → Written (21 * 0) (spaced_all (take 0 xs)) page page
  unfolding spaced_all
  none page = no_text page

  -- one more
  pub more : {old mid new : Page} {i : ℕ} → i < length xs → Written (21 * i) (spaced_all (take i xs)) old mid
      → Written 21 (space ++ decimal (get_or xs i 0)) mid new → Written (21 * (i + 1)) (spaced_all (take (i + 1) xs)) old new
  more {i} h w v =
      let e : spaced_all (take i xs) ++ (space ++ decimal (get_or xs i 0)) ≡ spaced_all (take (i + 1) xs) = rw (add-one, take-suc xs i 0 h) (sym (spaced_last (take i xs) (get_or xs i 0))) in
      reword (omega arith) e (then w v)
