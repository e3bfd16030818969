-- The token at a position, or the stop behind the last one, and words behind the end. Assumes nothing.
use mathlib.Core.Path.{◌≡◌, sym}
use mathlib.Core.List.{List}
use Prim.Native.Nat.{ℕ, ◌+◌, ◌*◌, ◌≤◌, ◌<◌}
use lib.ListN.{length, get_or, get_or-eq_default}
use lib.Seq.{set_out}
use native.Mathlib.Omega.{arith}
use borrow.Author.Tests.{lt-ltb, le-ltb}
use Rattle.value.specs.Limits.{most_tokens, table_words}
use Rattle.token.specs.declared.Scan.{Scan}
use Rattle.token.specs.Scanning.{token_at, stop_of, token_in, kind_in}
use Rattle.program.specs.Table.{word_at, with_word}
use Rattle.program.specs.Promises.Standing.{Stands}

module _ (words : List ℕ) (scan : Scan) (i : ℕ) where
  pub stands_inside : i < scan.count → Stands words scan i (token_at words i)
  unfolding token_in
  stands_inside h = record { is = simp (lt-ltb i scan.count h); inside = omega arith }

  pub stands_behind : scan.count ≤ i → Stands words scan i (stop_of scan)
  unfolding token_in
  stands_behind h = record { is = simp (le-ltb i scan.count h); inside = omega arith }

  pub kind_inside : i < scan.count → get_or words (4 * i) 0 ≡ kind_in words scan i
  unfolding kind_in
  kind_inside h = simp (lt-ltb i scan.count h)

  pub kind_behind : scan.count ≤ i → scan.kind ≡ kind_in words scan i
  unfolding kind_in
  kind_behind h = simp (le-ltb i scan.count h)

-- behind the table's end
module _ (words : List ℕ) (i w : ℕ) (l : length words ≡ table_words) (h : most_tokens ≤ i) where
  pub word_behind : 0 ≡ word_at words i w
  word_behind = sym (get_or-eq_default words 0 {n = 4 * i + w} (omega arith))

  pub put_behind : (v : ℕ) → words ≡ with_word words i w v
  put_behind v = sym (set_out _ _ _ (omega arith))

pub ruleset Tokens = (stands_inside, stands_behind, kind_inside, kind_behind, word_behind, put_behind)
