-- The laws of reading the table.
use Prim.Native.Nat.{ℕ, ◌+◌, ◌*◌, ◌<◌, ◌≤◌}
use native.Mathlib.Omega.{arith}
use mathlib.Core.Path.{◌≡◌, refl}
use mathlib.Core.Bool.{Bool, true, false}
use mathlib.Core.List.{List}
use lib.Dec.{ltb}
use lib.ListN.{get_or}
use borrow.Author.Tests.{lt-ltb, le-ltb, ltb-true, ltb-false}
use Rattle.std.specs.Prelude.{if◌then◌else◌}
use Rattle.cell_meaning.specs.Links.{word_in, linked}

-- ---- words

pub word_here : (words : List ℕ) (n w i : ℕ) → i < n → get_or words (4 * i + w) 0 ≡ word_in words n w i
unfolding word_in
word_here words n w i l = simp (lt-ltb _ _ l)

pub word_past : (words : List ℕ) (n w i : ℕ) → n ≤ i → 0 ≡ word_in words n w i
unfolding word_in
word_past words n w i l = simp (le-ltb _ _ l)

-- a token of some kind is one of the n
pub token : (words : List ℕ) (n i : ℕ) {k : ℕ} → k ≡ word_in words n 0 i → 1 ≤ k → i < n
unfolding word_in
token words n i {k} e l = go (ltb i n) refl e
  where
    go : (b : Bool) → ltb i n ≡ b → k ≡ (if b then get_or words (4 * i + 0) 0 else 0) → i < n
    go true q e = ltb-true i n q
    go false q e = absurd (omega arith)

-- ---- links

module _ (n i : ℕ) {w u : ℕ} (e : w ≡ u) where
  pub link_far : i < w → n < w → n ≡ linked n i u
  unfolding linked
  link_far l m = rw (← e) (simp (lt-ltb _ _ l, lt-ltb _ _ m))

  pub link_here : i < w → w ≤ n → w ≡ linked n i u
  unfolding linked
  link_here l m = rw (← e) (simp (lt-ltb _ _ l, le-ltb _ _ m))

  pub link_back : w ≤ i → n ≡ linked n i u
  unfolding linked
  link_back l = rw (← e) (simp (le-ltb _ _ l))

-- a link leads forward, and not past the end
pub link_bounds : (n i w : ℕ) {l : ℕ} → l ≡ linked n i w → i < n → (i < l) × (l ≤ n)
unfolding linked
link_bounds n i w {l} e h = rw e (go (ltb i w) refl (ltb n w) refl)
  where
    go : (a : Bool) → ltb i w ≡ a → (b : Bool) → ltb n w ≡ b → (i < (if a then (if b then n else w) else n)) × ((if a then (if b then n else w) else n) ≤ n)
    go true e true f = (h, omega arith)
    go true e false f = (ltb-true i w e, ltb-false n w f)
    go false e b f = (h, omega arith)

pub ruleset TableWays = (word_here, word_past, link_far, link_here, link_back)
