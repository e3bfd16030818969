-- The laws of primaries, one for each way that their evaluators go.
use Prim.Native.Nat.{ℕ, zero, suc, ◌+◌, ◌≤◌, ◌<◌}
use native.Mathlib.Omega.{arith}
use mathlib.Core.Path.{◌≡◌, refl, sym, ap, ◌∙◌}
use mathlib.Core.Bool.{true, false}
use mathlib.Core.List.{List, [], ◌∷◌}
use lib.Dec.{ltb}
use lib.ListN.{length}
use lib.IntN.{ℤ, pos}
use lib.Signed.{mag}
use borrow.Author.Tests.{ne_eqb, lt-ltb, le-ltb}
use Rattle.value.specs.Worked.{value, encode_of, decode_of}
use Rattle.value.specs.declared.Value.{Value}
use Rattle.automaton.specs.Step.{Outcome, result, fault}
use Rattle.automaton.specs.Shape.{cell_number, shift, neighbour}
use Rattle.automaton.specs.Promises.ShapeLaws.{Inside, zeros}
use Rattle.automaton.proofs.ShapeLaws.{coordinates_inside, neighbour_zeros}
use Rattle.automaton.specs.Grid.{cell_of}
use Rattle.program.specs.Refusal.{Refusal, refusal}
use Rattle.cell_operands.specs.declared.Evaluated.{Evaluated}
use Rattle.program.specs.Syntax.{Expr, number, time, variable, index, field}
use Rattle.cell_meaning.specs.Evaluation.{Env, entry, offsets, element_at, eval}
use Rattle.cell_meaning.specs.Promises.Stands.{indices_in, values_in, array_in, parsed, decode_primary, decode_name}
use Rattle.cell_meaning.specs.Links.{Table}
use Rattle.cell_operands.specs.Promises.Working.{EvaluatedTo, Failed, SiteReady, told_of, EvalsName, EvalsPlain}
use Rattle.cell_operands.specs.declared.Site.{Site}
use Rattle.cell_operands.proofs.NeighbourLaws.{encoded_ahead, encoded_back}
use Rattle.cell_operands.proofs.DecodingLaws.{never}

-- ---- numbers

pub ready_inside : {leaves words sizes point : List ℕ} {grid : List ℤ} {site : Site} {depth : ℕ} → SiteReady leaves words sizes point grid site depth → Inside sizes point
ready_inside {sizes = sizes} {site = site} r = rw r.own (coordinates_inside sizes site.cell r.shaped.positive r.cell)

pub neighbour_is : {leaves words sizes point : List ℕ} {grid : List ℤ} {site : Site} {depth : ℕ} → SiteReady leaves words sizes point grid site depth
    → (ds : List ℤ) (c w : ℕ) {v : Value} → c ≡ cell_number sizes (shift sizes point ds) → v ≡ value (entry (cell_of site.fields grid c) w)
    → v ≡ value (entry (cell_of site.fields grid (neighbour sizes site.cell ds)) w)
unfolding neighbour
neighbour_is {sizes = sizes} {grid = grid} {site = site} r ds c w e q =
    q ∙ ap (λ (x : ℕ). value (entry (cell_of site.fields grid x) w)) (e ∙ ap (λ (is : List ℕ). cell_number sizes (shift sizes is ds)) r.own)

-- the own cell is at the relative index that is not written
offsets_zeros : (sizes : List ℕ) (vs : List ℤ) → offsets (length sizes) vs [] ≡ zeros sizes
unfolding offsets
offsets_zeros [] vs = refl
offsets_zeros (n ∷ ns) vs = ap (λ (l : List ℤ). pos 0 ∷ l) (offsets_zeros ns vs)

pub own_is : {leaves words sizes point : List ℕ} {grid : List ℤ} {site : Site} {depth : ℕ} → SiteReady leaves words sizes point grid site depth → (vs : List ℤ)
    → neighbour sizes site.cell (offsets (length sizes) vs []) ≡ site.cell
own_is {sizes = sizes} {site = site} r vs = ap (neighbour sizes site.cell) (offsets_zeros sizes vs) ∙ neighbour_zeros sizes site.cell r.shaped.positive r.cell

-- ---- elements of an array constant

values_length : (t : Table) (at n : ℕ) → length (values_in t at n) ≡ n
unfolding values_in
values_length t at zero = refl
values_length t at (suc n) = ap suc (values_length t (at + 1) n)

values_entry : (t : Table) (at n i : ℕ) → i < n → entry (values_in t at n) i ≡ decode_of (t.word3 (at + i))
unfolding values_in
values_entry t at zero i l = absurd (omega arith)
values_entry t at (suc n) zero l = ap (λ (j : ℕ). decode_of (t.word3 j)) (let e : at ≡ at + 0 = omega arith in e)
values_entry t at (suc n) (suc i) l =
    values_entry t (at + 1) n i (omega arith) ∙ ap (λ (j : ℕ). decode_of (t.word3 j)) (let e : at + 1 + i ≡ at + suc i = omega arith in e)

module _ (t : Table) (place name : ℕ) (z : ℤ) (k next : ℕ) (ek : k ≡ encode_of z) (small : mag z < 2147483648) where
  pub element_inside : {size first x : ℕ} {v : Value} → k < 2147483648 → size ≡ t.word2 name → k < size → first ≡ t.word3 name → x ≡ t.word3 (first + k)
      → v ≡ value (decode_of x) → EvaluatedTo v next ≡ told_of (element_at place (array_in t name) z) next
  unfolding element_at
  element_inside {size} {first} {x} {v} l es m ef ex ev =
      let zs : List ℤ = array_in t name in
      let in_it : ltb k (length zs) ≡ true = lt-ltb k (length zs) (omega (arith, values_length t (t.word3 name) (t.word2 name))) in
      let is : entry zs k ≡ decode_of x =
      values_entry t (t.word3 name) (t.word2 name) k (omega arith) ∙ ap (λ (i : ℕ). decode_of (t.word3 (i + k))) (sym ef) ∙ ap decode_of (sym ex)
      in
      sym (ap (λ (y : ℤ). told_of (element_at place zs y) next) (encoded_ahead z k ek small l) ∙ simp in_it (ap (λ (y : ℤ). EvaluatedTo (value y) next) is ∙ ap (λ (y : Value). EvaluatedTo y next) (sym ev)))

  pub element_past : {size p : ℕ} → k < 2147483648 → size ≡ t.word2 name → size ≤ k → p ≡ place → Failed 32 p ≡ told_of (element_at place (array_in t name) z) next
  unfolding element_at
  element_past {size} {p} l es m ep =
      let zs : List ℤ = array_in t name in
      let out : ltb k (length zs) ≡ false = le-ltb k (length zs) (omega (arith, values_length t (t.word3 name) (t.word2 name))) in
      sym (ap (λ (y : ℤ). told_of (element_at place zs y) next) (encoded_ahead z k ek small l) ∙ simp out (ap (Failed 32) (sym ep)))

  pub element_negative : {p : ℕ} → 2147483648 ≤ k → p ≡ place → Failed 32 p ≡ told_of (element_at place (array_in t name) z) next
  unfolding element_at
  element_negative l ep =
      let zs : List ℤ = array_in t name in
      sym (ap (λ (y : ℤ). told_of (element_at place zs y) next) (encoded_back z k ek small l) ∙ ap (Failed 32) (sym ep))

-- ---- answers

-- a value is the answer
pub as_value : (env : Env) (vars vs : List ℤ) (e : Expr) (at next : ℕ) {v : Value} → eval env vars vs e ≡ result v.n → next ≡ at → EvaluatedTo v at ≡ told_of (eval env vars vs e) next
as_value env vars vs e at next {v} x h = ap (EvaluatedTo v) (sym h) ∙ sym (ap (λ (o : Outcome ℤ). told_of o next) x)

-- where two values stand past the same expression
pub found_next : {v w : Value} {a b : ℕ} → EvaluatedTo v a ≡ EvaluatedTo w b → a ≡ b
found_next {v} {w} {a} {b} q =
    let r : ◌≡◌ {A = Evaluated} (record { value = v; next = a }) (record { value = w; next = b }) = cc in ap (λ (x : Evaluated). x.next) r

-- what is evaluated, by its answer
pub result_of : (o : Outcome ℤ) (next : ℕ) {v : Value} {at : ℕ} → EvaluatedTo v at ≡ told_of o next → (o ≡ result v.n) × (next ≡ at)
result_of (result z) next {v} {at} q = let r : ◌≡◌ {A = Evaluated} (record { value = v; next = at }) (record { value = value z; next = next }) = cc in (ap (λ (x : Evaluated). result x.value.n) (sym r), ap (λ (x : Evaluated). x.next) (sym r))
result_of (fault k p) next q = let z : ◌≡◌ {A = ℕ} 0 1 = cc in absurd (omega arith)

pub fault_of : (o : Outcome ℤ) (next : ℕ) {k p : ℕ} → Failed k p ≡ told_of o next → o ≡ fault k p
fault_of (result z) next q = let z : ◌≡◌ {A = ℕ} 0 1 = cc in absurd (omega arith)
fault_of (fault k p) next {k = k₁} {p = p₁} q = let r : refusal k₁ p₁ ≡ refusal k p = cc in ap (λ (f : Refusal). fault f.number f.place) (sym r)

-- ---- names

module _ (t : Table) (env : Env) (vars vs : List ℤ) (n at : ℕ) (w x : ℕ) (ew : w ≡ t.word2 at) (ex : x ≡ t.word3 at) where
  named : (e₀ : Expr) {v : Value} → at < n → eval env vars vs e₀ ≡ result v.n
      → ((fuel : ℕ) (e : Expr) (next : ℕ) → decode_name fuel t at ≡ parsed e next → parsed e₀ (at + 1) ≡ parsed e next) → EvalsName t env vars vs n at (EvaluatedTo v (at + 1))
  named e₀ {v} l y was = record {
    says = λ a fuel e next q.
        let h = was fuel e next q in
        let i : e₀ ≡ e = cc in
        let j : next ≡ at + 1 = cc in
        as_value env vars vs e (at + 1) next (ap (eval env vars vs) (sym i) ∙ y) j;
    onward = (omega arith, omega arith);
  }

  pub name_variable : {v : Value} → at < n → w ≡ 4 → v ≡ value (entry vars x) → EvalsName t env vars vs n at (EvaluatedTo v (at + 1))
  unfolding eval decode_name
  name_variable {v} l k ev = named (variable (t.word3 at)) l (ap (λ (i : ℕ). result (entry vars i)) (sym ex) ∙ ap (λ (y : Value). result y.n) (sym ev)) was
    where
      was : (fuel : ℕ) (e : Expr) (next : ℕ) → decode_name fuel t at ≡ parsed e next → parsed (variable (t.word3 at)) (at + 1) ≡ parsed e next
      was zero e next q = never q
      was (suc f) e next q = let u : t.word2 at ≡ 4 = sym ew ∙ k in simp u at q

  pub name_constant : {v : Value} → at < n → w ≡ 1 → v ≡ value (decode_of x) → EvalsName t env vars vs n at (EvaluatedTo v (at + 1))
  unfolding eval decode_name
  name_constant {v} l k ev = named (number (decode_of (t.word3 at))) l (ap (λ (i : ℕ). result (decode_of i)) (sym ex) ∙ ap (λ (y : Value). result y.n) (sym ev)) was
    where
      was : (fuel : ℕ) (e : Expr) (next : ℕ) → decode_name fuel t at ≡ parsed e next → parsed (number (decode_of (t.word3 at))) (at + 1) ≡ parsed e next
      was zero e next q = never q
      was (suc f) e next q = let u : t.word2 at ≡ 1 = sym ew ∙ k in simp u at q

  pub name_index : {v : Value} → at < n → w ≡ 5 → v ≡ value (entry vs x) → EvalsName t env vars vs n at (EvaluatedTo v (at + 1))
  unfolding eval decode_name
  name_index {v} l k ev = named (index (t.word3 at)) l (ap (λ (i : ℕ). result (entry vs i)) (sym ex) ∙ ap (λ (y : Value). result y.n) (sym ev)) was
    where
      was : (fuel : ℕ) (e : Expr) (next : ℕ) → decode_name fuel t at ≡ parsed e next → parsed (index (t.word3 at)) (at + 1) ≡ parsed e next
      was zero e next q = never q
      was (suc f) e next q = let u : t.word2 at ≡ 5 = sym ew ∙ k in simp u at q

  pub name_other : {k p : ℕ} → (w ≡ 4 → ⊥) → (w ≡ 1 → ⊥) → (w ≡ 5 → ⊥) → EvalsName t env vars vs n at (Failed k p)
  unfolding decode_name
  name_other {k} {p} a b d = record { says = λ array fuel e next q. absurd (was array fuel e next q); onward = tt }
    where
      was : (t.word2 at ≡ 2 → ⊥) → (fuel : ℕ) (e : Expr) (next : ℕ) → decode_name fuel t at ≡ parsed e next → ⊥
      was array zero e next q = never q
      was array (suc f) e next q =
          never (simp (ne_eqb (t.word2 at) 4 (λ u. a (ew ∙ u)), ne_eqb (t.word2 at) 1 (λ u. b (ew ∙ u)), ne_eqb (t.word2 at) 5 (λ u. d (ew ∙ u)), ne_eqb (t.word2 at) 2 array) at q)

-- ---- literals, fields and the time

module _ (t : Table) (env : Env) (vars vs : List ℤ) (n at : ℕ) (k : ℕ) (ek : k ≡ t.kind at) where
  found : (e₀ : Expr) (past : ℕ) {v : Value} → at < past → past ≤ n → eval env vars vs e₀ ≡ result v.n
      → ((fuel : ℕ) (e : Expr) (next : ℕ) → decode_primary fuel t at ≡ parsed e next → parsed e₀ past ≡ parsed e next) → EvalsPlain t env vars vs n at (EvaluatedTo v past)
  found e₀ past {v} l m y was = record {
    says = λ a b fuel e next q.
        let h = was fuel e next q in
        let i : e₀ ≡ e = cc in
        let j : next ≡ past = cc in
        as_value env vars vs e past next (ap (eval env vars vs) (sym i) ∙ y) j;
    onward = (l, m);
  }

  pub plain_literal : {w : ℕ} {v : Value} → at < n → k ≡ 2 → w ≡ t.word2 at → v ≡ value (decode_of w) → EvalsPlain t env vars vs n at (EvaluatedTo v (at + 1))
  unfolding eval decode_primary
  plain_literal {w} {v} l h ew ev =
      found (number (decode_of (t.word2 at))) (at + 1) (omega arith) (omega arith) (ap (λ (i : ℕ). result (decode_of i)) (sym ew) ∙ ap (λ (y : Value). result y.n) (sym ev)) was
    where
      was : (fuel : ℕ) (e : Expr) (next : ℕ) → decode_primary fuel t at ≡ parsed e next → parsed (number (decode_of (t.word2 at))) (at + 1) ≡ parsed e next
      was zero e next q = never q
      was (suc f) e next q = let u : t.kind at ≡ 2 = sym ek ∙ h in simp u at q

  pub plain_time : {v : Value} → at < n → k ≡ 4 → env.time < 2147483648 → v ≡ value (decode_of env.time) → EvalsPlain t env vars vs n at (EvaluatedTo v (at + 1))
  unfolding eval decode_primary
  plain_time {v} l h small ev =
      let d : decode_of env.time ≡ pos env.time = simp (lt-ltb env.time 2147483648 small) in
      found time (at + 1) (omega arith) (omega arith) (ap result (sym d) ∙ ap (λ (y : Value). result y.n) (sym ev)) was
    where
      was : (fuel : ℕ) (e : Expr) (next : ℕ) → decode_primary fuel t at ≡ parsed e next → parsed time (at + 1) ≡ parsed e next
      was zero e next q = never q
      was (suc f) e next q = let u : t.kind at ≡ 4 = sym ek ∙ h in simp u at q

  module _ {past : ℕ} {v : Value} (l : at < past) (m : past ≤ n) (ep : past ≡ t.past at) where
    pub plain_neighbour : k ≡ 91 → v ≡ value (entry (env.look (offsets env.dims vs (indices_in t t.dims (at + 1)))) (t.word2 at)) → EvalsPlain t env vars vs n at (EvaluatedTo v past)
    unfolding eval decode_primary
    plain_neighbour h ev = found (field (indices_in t t.dims (at + 1)) (t.word2 at)) past l m (ap (λ (y : Value). result y.n) (sym ev)) was
      where
        was : (fuel : ℕ) (e : Expr) (next : ℕ) → decode_primary fuel t at ≡ parsed e next → parsed (field (indices_in t t.dims (at + 1)) (t.word2 at)) past ≡ parsed e next
        was zero e next q = never q
        was (suc f) e next q = let u : t.kind at ≡ 91 = sym ek ∙ h in ap (parsed (field (indices_in t t.dims (at + 1)) (t.word2 at))) ep ∙ simp u at q

    pub plain_cell : {w : ℕ} → k ≡ 3 → w ≡ t.word2 at → v ≡ value (entry (env.look (offsets env.dims vs [])) w) → EvalsPlain t env vars vs n at (EvaluatedTo v past)
    unfolding eval decode_primary
    plain_cell {w} h ew ev =
        found (field [] (t.word2 at)) past l m
        (ap (λ (i : ℕ). result (entry (env.look (offsets env.dims vs [])) i)) (sym ew) ∙ ap (λ (y : Value). result y.n) (sym ev)) was
      where
        was : (fuel : ℕ) (e : Expr) (next : ℕ) → decode_primary fuel t at ≡ parsed e next → parsed (field [] (t.word2 at)) past ≡ parsed e next
        was zero e next q = never q
        was (suc f) e next q = let u : t.kind at ≡ 3 = sym ek ∙ h in ap (parsed (field [] (t.word2 at))) ep ∙ simp u at q

  pub plain_other : {a p : ℕ} → (k ≡ 2 → ⊥) → (k ≡ 91 → ⊥) → (k ≡ 3 → ⊥) → (k ≡ 4 → ⊥) → EvalsPlain t env vars vs n at (Failed a p)
  unfolding decode_primary
  plain_other {a} {p} n2 n91 n3 n4 = record { says = λ name paren fuel e next q. absurd (was name paren fuel e next q); onward = tt }
    where
      was : (t.kind at ≡ 1 → ⊥) → (t.kind at ≡ 40 → ⊥) → (fuel : ℕ) (e : Expr) (next : ℕ) → decode_primary fuel t at ≡ parsed e next → ⊥
      was name paren zero e next q = never q
      was name paren (suc f) e next q =
          never (simp (ne_eqb (t.kind at) 2 (λ u. n2 (ek ∙ u)), ne_eqb (t.kind at) 1 name, ne_eqb (t.kind at) 91 (λ u. n91 (ek ∙ u)), ne_eqb (t.kind at) 3 (λ u. n3 (ek ∙ u)), ne_eqb (t.kind at) 40 paren, ne_eqb (t.kind at) 4 (λ u. n4 (ek ∙ u))) at q)
