-- Groups of fields: the ranges of a group behind those of the groups before it. Assumes nothing.
use Prim.Native.Nat.{ℕ, ◌+◌, ◌-◌, ◌*◌, ◌≤◌, ◌<◌}
use native.Mathlib.Omega.{arith}
use native.Mathlib.Nat.{add-zero}
use mathlib.Core.Path.{◌≡◌, refl, sym, ap, subst, ◌∙◌}
use mathlib.Core.Bool.{Bool, true, false, ◌&&◌}
use mathlib.Core.List.{List, [], ◌++◌}
use lib.ListN.{length, get_or, replicate, length-append, length-replicate, get_or-replicate, get_or-append}
use lib.Seq.{get_or-append-add}
use lib.Dec.{ltb}
use borrow.Author.Tests.{ltb-true, ltb-false}
use Rattle.std.specs.Prelude.{if◌then◌else◌}
use Rattle.token.specs.declared.Token.{Token}
use Rattle.token.specs.declared.Scan.{Scan}
use Rattle.token.specs.Kind.{keyword}
use Rattle.program.specs.Syntax.{Range, no_range}
use Rattle.program.specs.Promises.Ranges.{range_at}
use Rattle.program.specs.Promises.Standing.{Stands}
use Rattle.grammar.specs.Reader.{State, ◌>>=◌, ok, ◌>>◌, ◌▷◌, Turn, again, repeat, turns, is_kind, advance}
use Rattle.grammar.specs.Source.{with_ranges, put_ranges, read_group, field_turn, group_turn}
use Rattle.read_state.specs.Promises.Reading.{state, Gives, moved_of, carrying_number, carrying_fields, Carries}
use Rattle.read_state.specs.declared.Reading.{Reading}
use Rattle.read_state.specs.Promises.Reading.{Read}
use Rattle.std.specs.Prelude.{Ok}
use Rattle.read_state.proofs.Steps.{by_another, other, token}
use Rattle.read_declaration.specs.Promises.Fields.{Ranges, Fields, Ranged, Starts}

-- ---- ranges behind others

pub no_ranges : (words : List ℕ) (base : ℕ) → Ranges words base [] 0
no_ranges words base = record { many = refl; stand = λ k h. absurd (omega arith) }

-- the ranges of `more` fields behind `got` others; `mid` is the table before they are written
module _ (old mid new : List ℕ) (base got more : ℕ) (rs : List Range) (r : Range) (h : Ranges old base rs got) (f : (p : ℕ) → p < 4 * (base + got) → get_or mid p 0 ≡ get_or old p 0) (x : Ranged mid (base + got) more r new) where
  pub more_ranges : Ranges new base (rs ++ replicate more r) (got + more)
  more_ranges = record { many = simp (length-append, length-replicate) (ap (λ (n : ℕ). n + more) h.many); stand = λ k l. by k l (ltb k got) refl }
    where
      by : (k : ℕ) → k < got + more → (t : Bool) → ltb k got ≡ t → range_at new (base + k) ≡ get_or (rs ++ replicate more r) k no_range
      by k l true e =
          let z = ltb-true k got e in
          let m = h.many in
          let u : get_or new (4 * (base + k) + 2) 0 ≡ get_or old (4 * (base + k) + 2) 0 = x.before _ (omega arith) ∙ f _ (omega arith) in
          let v : get_or new (4 * (base + k) + 3) 0 ≡ get_or old (4 * (base + k) + 3) 0 = x.before _ (omega arith) ∙ f _ (omega arith) in
          rw (u, v) (h.stand k z ∙ sym (get_or-append rs (replicate more r) no_range k (omega arith)))
      by k l false e =
          let z = ltb-false k got e in
          let m = h.many in
          let i : base + k ≡ base + got + (k - got) = omega arith in
          let j : k ≡ length rs + (k - got) = omega arith in
          ap (range_at new) i
          ∙ x.stand (k - got) (omega arith)
          ∙ sym (get_or-replicate more (k - got) r no_range (omega arith))
          ∙ sym (get_or-append-add rs (replicate more r) (k - got) no_range)
          ∙ sym (ap (λ (n : ℕ). get_or (rs ++ replicate more r) n no_range) j)

module _ {source : List ℕ} {sc : Scan} {s t : Reading} {ns ws ws₁ : List ℕ} where
  -- the ranges are written, with something else carried
  put_on : {R : List Range → Reading → Type 0} (base : ℕ) (rs : List Range) (n : ℕ) (r : Range) {u : Reading} → ws₁ ≡ with_ranges ws (base + length rs) n r → Carries s u t → R (rs ++ replicate n r) t → Gives R (put_ranges base rs n r) source sc s ns ws (Ok t) ns ws₁
  unfolding put_ranges
  put_on base rs n r e c h =
      let got = rs ++ replicate n r in
      record { is = (got, h, ap (λ (x : List ℕ). ok (got, state s ns x)) (sym e) ∙ sym (ap (λ (z : State). ok (got, z)) (c.here ns ws₁))) }

  -- the ranges of a group, with which there are w fields
  pub group_put : {old : List ℕ} (base got : ℕ) (rs : List Range) (n : ℕ) {r : Range} {w : ℕ} {l : Bool} → Ranges old base rs got → ((p : ℕ) → p < 4 * (base + got) → get_or ws p 0 ≡ get_or old p 0) → Ranged ws (base + got) (w - got) r ws₁ → n ≡ w → got < w → w ≤ 8 → base + w < s.at → Carries s (carrying_fields s w l) t → Gives (Fields ws₁ base l) (put_ranges base rs (n - length rs) r) source sc s ns ws (Ok t) ns ws₁
  group_put {old} base got rs n {r} {w} {l} h f x e more few room c =
      let m = h.many in
      let q : n - length rs ≡ w - got = omega arith in
      let k : got + (w - got) ≡ t.fields = omega (arith, c.fields) in
      let ranges = more_ranges old ws ws₁ base got (w - got) rs r h f x in
      rw q (put_on base rs (w - got) r (rw m x.is) c (record { ranges = rw k at ranges; some = omega (arith, c.fields); few = omega (arith, c.fields); room = omega (arith, c.fields, c.at); named = c.named }))

  -- the range of the one unnamed field
  pub unnamed_put : (base : ℕ) {r : Range} → Ranged ws base 1 r ws₁ → base + 1 < s.at → Carries s (carrying_fields s 1 false) t → Gives (Fields ws₁ base false) (put_ranges base [] 1 r) source sc s ns ws (Ok t) ns ws₁
  unnamed_put base x room c = group_put base 0 [] 1 (no_ranges ws base) (λ p h. refl) (rw (add-zero base) x) refl (omega arith) (omega arith) room c

-- the names of a group, behind as many fields as there are ranges
pub behind : {R : ℕ → Reading → Type 0} (k got : ℕ) (rs : List Range) {source : List ℕ} {sc : Scan} {s : Reading} {ns ws ns₁ ws₁ : List ℕ} {r : Read} → length rs ≡ got → Gives R (repeat turns (field_turn k) got) source sc s ns ws r ns₁ ws₁ → Gives R (repeat turns (field_turn k) (length rs)) source sc s ns ws r ns₁ ws₁
behind k got rs e x = rw e x

-- ---- a turn of the groups

module _ {source : List ℕ} {sc : Scan} {P : Turn (List Range) (List Range) → Reading → Type 0} (base : ℕ) (rs : List Range) {s : Reading} {ns ws ns₁ ws₁ : List ℕ} {q : Read} where
  const_way : Gives P (read_group base rs 6 ▷ again) source sc (carrying_number (moved_of s) 6) ns ws q ns₁ ws₁ → Gives P (advance >> read_group base rs 6 ▷ again) source sc s ns ws q ns₁ ws₁
  unfolding advance ◌>>=◌
  const_way x = by_another refl x

  plain_way : Gives P (read_group base rs 3 ▷ again) source sc (carrying_number s 3) ns ws q ns₁ ws₁ → Gives P (read_group base rs 3 ▷ again) source sc s ns ws q ns₁ ws₁
  plain_way x = by_another refl x

  -- one more group
  pub turn_group : {t : Token} {b : Reading} → Stands ws sc s.at t → (is_kind t keyword.end && ltb 0 (length rs)) ≡ false → Starts t s b → Gives P (read_group base rs b.number ▷ again) source sc b ns ws q ns₁ ws₁ → Gives P (group_turn base rs) source sc s ns ws q ns₁ ws₁
  unfolding group_turn
  turn_group {t} {b} e d st x = token _ e (other _ _ d (by (is_kind t keyword.const) st.is))
    where
      at_start : {z : Reading} → b ≡ z → Gives P (read_group base rs z.number ▷ again) source sc z ns ws q ns₁ ws₁
      at_start y = subst (λ (z : Reading). Gives P (read_group base rs z.number ▷ again) source sc z ns ws q ns₁ ws₁) y x

      by : (c : Bool) → b ≡ (if c then carrying_number (moved_of s) 6 else carrying_number s 3) → Gives P (if c then (advance >> read_group base rs 6 ▷ again) else (read_group base rs 3 ▷ again)) source sc s ns ws q ns₁ ws₁
      by true y = const_way (at_start y)
      by false y = plain_way (at_start y)
