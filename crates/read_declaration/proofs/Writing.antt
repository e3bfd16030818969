-- The ranges of fields, as they are written into the table. Assumes nothing.
use Prim.Native.Nat.{ℕ, ◌+◌, ◌*◌, ◌≤◌, ◌<◌}
use native.Mathlib.Omega.{arith}
use native.Mathlib.Numerals.{add-one}
use mathlib.Core.Path.{◌≡◌, refl, sym, ap, ◌∙◌}
use mathlib.Core.Bool.{Bool, true, false}
use mathlib.Core.List.{List}
use lib.ListN.{length, get_or, set, length-set}
use lib.Dec.{ltb}
use borrow.Author.Tests.{ltb-true, ltb-false}
use lib.Seq.{get_or-set_same, get_or-set_other}
use Rattle.value.specs.Limits.{table_words}
use Rattle.value.specs.Worked.{decode_of}
use Rattle.value.proofs.Theorems.Laws.{encode_decode}
use Rattle.program.specs.Syntax.{range}
use Rattle.program.specs.Table.{word_at, with_word}
use Rattle.program.specs.Promises.Ranges.{range_at}
use Rattle.grammar.specs.Source.{with_ranges}
use Rattle.read_declaration.specs.Promises.Fields.{Ranged}

-- after k of the fields
pub record Written (old : List ℕ) (i k low high : ℕ) (new : List ℕ) : Type 0 where
  pub ranged : Ranged old i k (range (decode_of low) (decode_of high)) new
  pub long : length new ≡ length old

pub none_written : (old : List ℕ) (i low high : ℕ) → Written old i 0 low high old
unfolding with_ranges
none_written old i low high = record { ranged = record { is = refl; stand = λ k h. absurd (omega arith); before = λ p h. refl }; long = refl }

module _ (old : List ℕ) (i k low high : ℕ) (new : List ℕ) (h : Written old i k low high new) (l : length old ≡ table_words) (b : i + k < 4096) (p : low < 4294967296) (q : high < 4294967296) {mid after : List ℕ} (x : mid ≡ with_word new (i + k) 2 low) (y : after ≡ with_word mid (i + k) 3 high) where
  both : after ≡ with_word (with_word new (i + k) 2 low) (i + k) 3 high
  both = y ∙ ap (λ (ws : List ℕ). with_word ws (i + k) 3 high) x

  -- another word stays
  other : (j : ℕ) → (j ≡ 4 * (i + k) + 2 → ⊥) → (j ≡ 4 * (i + k) + 3 → ⊥) → get_or after j 0 ≡ get_or new j 0
  other j f g = ap (λ (ws : List ℕ). get_or ws j 0) both ∙ get_or-set_other (set new (4 * (i + k) + 2) low) (4 * (i + k) + 3) j high 0 g ∙ get_or-set_other new (4 * (i + k) + 2) j low 0 f

  here : range_at after (i + k) ≡ range (decode_of low) (decode_of high)
  here =
      let m = h.long ∙ l in
      let u : word_at after (i + k) 2 ≡ low = ap (λ (ws : List ℕ). get_or ws (4 * (i + k) + 2) 0) both ∙ get_or-set_other (set new (4 * (i + k) + 2) low) (4 * (i + k) + 3) (4 * (i + k) + 2) high 0 (λ e. omega arith) ∙ get_or-set_same new (4 * (i + k) + 2) low 0 (omega arith) in
      let v : word_at after (i + k) 3 ≡ high = ap (λ (ws : List ℕ). get_or ws (4 * (i + k) + 3) 0) both ∙ get_or-set_same (set new (4 * (i + k) + 2) low) (4 * (i + k) + 3) high 0 (simp length-set (omega arith)) in
      rw (u, v)

  stands : (j : ℕ) → j < k + 1 → range_at after (i + j) ≡ range (decode_of low) (decode_of high)
  stands j m = by (ltb j k) refl
    where
      by : (t : Bool) → ltb j k ≡ t → range_at after (i + j) ≡ range (decode_of low) (decode_of high)
      by true e =
          let z = ltb-true j k e in
          let u = other (4 * (i + j) + 2) (λ d. omega arith) (λ d. omega arith) in
          let v = other (4 * (i + j) + 3) (λ d. omega arith) (λ d. omega arith) in
          rw (u, v) (h.ranged.stand j z)
      by false e = let z = ltb-false j k e in let w : j ≡ k = omega arith in rw w here

  pub one_written : Written old i (k + 1) low high after
  unfolding with_ranges
  one_written =
      record {
        ranged =
            record {
              is = both ∙ rw (h.ranged.is, add-one k) (sym (rw (encode_decode low p, encode_decode high q)));
              stand = stands;
              before = λ j m. other j (λ e. omega arith) (λ e. omega arith) ∙ h.ranged.before j m;
            };
        long = ap length both ∙ simp length-set h.long;
      }

pub all_written : (old : List ℕ) (i k low high : ℕ) (new : List ℕ) {n : ℕ} → Written old i k low high new → k ≤ n → n ≤ k → Ranged old i n (range (decode_of low) (decode_of high)) new
all_written old i k low high new {n} h l m = let e : k ≡ n = omega arith in rw e at h.ranged
