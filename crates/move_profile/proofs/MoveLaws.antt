-- Rule 3: one law for each way through the code.
use Prim.Native.Nat.{ℕ, zero, suc, ◌+◌, ◌-◌, ◌/◌, ◌≤◌, ◌<◌}
use native.Mathlib.Numerals.{add-one}
use native.Mathlib.Omega.{arith}
use mathlib.Core.Path.{◌≡◌, refl, sym, ap, ap₂, ◌∙◌}
use mathlib.Core.Bool.{Bool, true, false, not, ◌&&◌}
use mathlib.Core.List.{List, [], ◌∷◌}
use lib.ListN.{length, get_or, drop, drop_of_length-le}
use lib.Seq.{drop-cons}
use lib.Dec.{eqb, ltb}
use borrow.Author.Tests.{eq-eqb, ne_eqb, eqb-true, not-true, not-false, ltb-false}
use Rattle.std.specs.Prelude.{if◌then◌else◌}
use Rattle.value.proofs.Theorems.Laws.{never}
use Rattle.token.specs.Kind.{kind, keyword, relation, delimiter}
use Rattle.cell_meaning.specs.Links.{Table, word_in, linked, table_of, begins}
use Rattle.cell_operands.proofs.TableLaws.{token, link_bounds}
use Rattle.move_meaning.specs.Profile.{tokens_in, kinds_at, opens_at, closes_at, past_constants, last_statement, moves_once}
use Rattle.move_profile.specs.Promises.Moves.{KindsAt, OpensAt, ClosesAt, PastConstants, LastStatement, DecidesMove}

-- ---- rows of kinds

-- what is left of the row after i tokens
pub record Alike (words : List ℕ) (n at : ℕ) (kinds : List ℕ) (i : ℕ) : Type 0 where
  pub within : i ≤ length kinds
  pub left : (dims : ℕ) → kinds_at (table_of words n dims) at kinds ≡ kinds_at (table_of words n dims) (at + i) (drop i kinds)

module _ (words : List ℕ) (n at : ℕ) (kinds : List ℕ) where
  pub row_start : Alike words n at kinds 0
  row_start = record { within = omega arith; left = λ dims. ap (λ (x : ℕ). kinds_at (table_of words n dims) x kinds) (omega arith) }

  module _ {i : ℕ} (h : Alike words n at kinds i) where
    pub row_all : length kinds ≤ i → KindsAt words n at kinds true
    unfolding kinds_at
    row_all l = record { is = λ dims. sym (h.left dims ∙ ap (kinds_at (table_of words n dims) (at + i)) (drop_of_length-le kinds {i = i} l)) }

    module _ (l : i < length kinds) {k : ℕ} (e : k ≡ word_in words n 0 (at + i)) where
      turn : (dims : ℕ) → kinds_at (table_of words n dims) at kinds ≡ (eqb k (get_or kinds i 0) && kinds_at (table_of words n dims) (at + (i + 1)) (drop (i + 1) kinds))
      unfolding kinds_at
      turn dims =
          h.left dims ∙ ap (kinds_at (table_of words n dims) (at + i)) (drop-cons kinds i 0 l)
          ∙ ap₂ (λ (m j : ℕ). eqb (word_in words n 0 (at + i)) (get_or kinds i 0) && kinds_at (table_of words n dims) m (drop j kinds)) (let z : at + i + 1 ≡ at + (i + 1) = omega arith in z) (sym (add-one i))
          ∙ ap (λ (m : ℕ). eqb m (get_or kinds i 0) && kinds_at (table_of words n dims) (at + (i + 1)) (drop (i + 1) kinds)) (sym e)

      pub row_other : (k ≡ get_or kinds i 0 → ⊥) → KindsAt words n at kinds false
      row_other d = record { is = λ dims. sym (turn dims ∙ rw (ne_eqb _ _ d) refl) }

      pub row_more : k ≡ get_or kinds i 0 → Alike words n at kinds (i + 1)
      row_more q = record { within = omega arith; left = λ dims. turn dims ∙ rw (eq-eqb _ _ q) refl }

pub ruleset Rows = (row_start, row_all, row_other, row_more)

-- ---- the tokens before and behind

abbrev opening : List ℕ
opening = keyword.if ∷ kind.cell ∷ delimiter.dot ∷ kind.name ∷ relation.equal ∷ kind.literal ∷ keyword.then ∷ []

module _ (words : List ℕ) (n f at : ℕ) {k : Bool} (row : KindsAt words n at opening k) where
  pub open_other : not k ≡ true → OpensAt words n f at false
  unfolding opens_at
  open_other h = record { is = λ dims. rw (← row.is dims, not-true k h) refl }

  module _ (h : not k ≡ false) {w : ℕ} (e : w ≡ word_in words n 2 (at + 1)) where
    pub open_field : (w ≡ f → ⊥) → OpensAt words n f at false
    unfolding opens_at
    open_field d = record { is = λ dims. rw (← row.is dims, not-false k h, ← e, ne_eqb w f d) refl }

    module _ (q : w ≡ f) {u : ℕ} (p : u ≡ linked n (at + 1) (word_in words n 3 (at + 1))) where
      pub open_past : (u ≡ at + 4 → ⊥) → OpensAt words n f at false
      unfolding opens_at
      open_past d = record { is = λ dims. rw (← row.is dims, not-false k h, ← e, eq-eqb w f q, ← p, ne_eqb u (at + 4) d) refl }

      pub open_digit : u ≡ at + 4 → {r : Bool} → r ≡ (eqb (word_in words n 1 (at + 5) / 65536) 1 && eqb (word_in words n 2 (at + 5)) 0) → OpensAt words n f at r
      unfolding opens_at
      open_digit d z = record { is = λ dims. z ∙ rw (← row.is dims, not-false k h, ← e, eq-eqb w f q, ← p, eq-eqb u (at + 4) d) refl }

pub ruleset Openings = (open_other, open_field, open_past, open_digit)

abbrev closing : List ℕ
closing = kind.cell ∷ delimiter.dot ∷ kind.name ∷ delimiter.assign ∷ kind.literal ∷ []

module _ (words : List ℕ) (n f at : ℕ) {k : Bool} (row : KindsAt words n at closing k) where
  pub close_other : not k ≡ true → ClosesAt words n f at false
  unfolding closes_at
  close_other h = record { is = λ dims. rw (← row.is dims, not-true k h) refl }

  module _ (h : not k ≡ false) {w : ℕ} (e : w ≡ word_in words n 2 at) where
    pub close_field : (w ≡ f → ⊥) → ClosesAt words n f at false
    unfolding closes_at
    close_field d = record { is = λ dims. rw (← row.is dims, not-false k h, ← e, ne_eqb w f d) refl }

    module _ (q : w ≡ f) {r : Bool} (z : r ≡ (eqb (word_in words n 1 (at + 4) / 65536) 1 && eqb (word_in words n 2 (at + 4)) 1)) where
      pub close_digit : not r ≡ true → ClosesAt words n f at false
      unfolding closes_at
      close_digit d = record { is = λ dims. rw (← row.is dims, not-false k h, ← e, eq-eqb w f q, ← z, not-true r d) refl }

      module _ (y : not r ≡ false) {v : ℕ} (p : v ≡ word_in words n 2 (at + 3)) where
        pub close_condition : (v ≡ 0 → ⊥) → ClosesAt words n f at false
        unfolding closes_at
        close_condition d = record { is = λ dims. rw (← row.is dims, not-false k h, ← e, eq-eqb w f q, ← z, not-false r y, ← p, ne_eqb v 0 d) refl }

        module _ (s : v ≡ 0) {b : ℕ} (o : b ≡ word_in words n 0 (at + 5)) where
          pub close_end : b ≡ keyword.end → ClosesAt words n f at true
          unfolding closes_at
          close_end d = record { is = λ dims. rw (← row.is dims, not-false k h, ← e, eq-eqb w f q, ← z, not-false r y, ← p, eq-eqb v 0 s, ← o, eq-eqb b keyword.end d) refl }

          pub close_const : (b ≡ keyword.end → ⊥) → ClosesAt words n f at (eqb b keyword.const)
          unfolding closes_at
          close_const d = record { is = λ dims. rw (← row.is dims, not-false k h, ← e, eq-eqb w f q, ← z, not-false r y, ← p, eq-eqb v 0 s, ← o, ne_eqb b keyword.end d) refl }

pub ruleset Closings = (close_other, close_field, close_digit, close_condition, close_end, close_const)

-- ---- constants passed over

module _ (words : List ℕ) (n dims : ℕ) where
  abbrev t : Table
  t = table_of words n dims

  -- a token of some kind leads on
  onward : (at : ℕ) → 1 ≤ t.kind at → (at < n) × (at < t.past at) × (t.past at ≤ n)
  onward at l = let h = token words n at refl l in let b = link_bounds n at (word_in words n 3 at) refl h in (h, b.0, b.1)

  -- so does a statement's first token
  begun : (at : ℕ) → begins (t.kind at) ≡ true → 1 ≤ t.kind at
  unfolding begins
  begun at e = go (t.kind at) e
    where
      go : (k : ℕ) → begins k ≡ true → 1 ≤ k
      go zero e = never e
      go (suc k) e = omega arith

  -- at the end nothing is passed over
  constants_stay : (turns at : ℕ) → n ≤ at → past_constants turns t at ≡ at
  unfolding past_constants
  constants_stay zero at l = refl
  constants_stay (suc turns) at l = go (eqb (t.kind at) keyword.const) refl
    where
      go : (x : Bool) → eqb (t.kind at) keyword.const ≡ x → (if x then past_constants turns t (t.past at) else at) ≡ at
      go true e = absurd (let h = (onward at (omega (arith, eqb-true (t.kind at) keyword.const e))).0 in omega arith)
      go false e = refl

  last_stays : (turns last at : ℕ) → n ≤ at → last_statement (suc turns) (tokens_in words n dims) last at ≡ last
  unfolding last_statement
  last_stays turns last at l = go (begins (t.kind at)) refl
    where
      go : (x : Bool) → begins (t.kind at) ≡ x
          → (if x then last_statement turns (tokens_in words n dims) (if eqb (t.kind at) keyword.const then last else at) (t.past at) else last) ≡ last
      go true e = absurd (let h = (onward at (begun at e)).0 in omega arith)
      go false e = refl

  -- so that any number of turns is enough that reaches it
  constants_enough : (a b at : ℕ) → n ≤ a + at → n ≤ b + at → past_constants a t at ≡ past_constants b t at
  unfolding past_constants
  constants_enough zero b at p q = sym (constants_stay b at (omega arith))
  constants_enough (suc a) zero at p q = constants_stay (suc a) at (omega arith)
  constants_enough (suc a) (suc b) at p q = go (eqb (t.kind at) keyword.const) refl (constants_enough a b (t.past at))
    where
      go : (x : Bool) → eqb (t.kind at) keyword.const ≡ x → (n ≤ a + t.past at → n ≤ b + t.past at → past_constants a t (t.past at) ≡ past_constants b t (t.past at))
          → (if x then past_constants a t (t.past at) else at) ≡ (if x then past_constants b t (t.past at) else at)
      go true e more = let h = onward at (omega (arith, eqb-true (t.kind at) keyword.const e)) in more (omega (arith, h.1)) (omega (arith, h.1))
      go false e more = refl

  last_enough : (a b last at : ℕ) → n ≤ a + at → n ≤ b + at → last_statement (suc a) (tokens_in words n dims) last at ≡ last_statement (suc b) (tokens_in words n dims) last at
  unfolding last_statement
  last_enough zero b last at p q = last_stays zero last at (omega arith) ∙ sym (last_stays b last at (omega arith))
  last_enough (suc a) zero last at p q = last_stays (suc a) last at (omega arith) ∙ sym (last_stays zero last at (omega arith))
  last_enough (suc a) (suc b) last at p q = go (begins (t.kind at)) refl (λ l. last_enough a b l (t.past at))
    where
      go : (x : Bool) → begins (t.kind at) ≡ x
          → ((l : ℕ) → n ≤ a + t.past at → n ≤ b + t.past at → last_statement (suc a) (tokens_in words n dims) l (t.past at) ≡ last_statement (suc b) (tokens_in words n dims) l (t.past at))
          → (if x then last_statement (suc a) (tokens_in words n dims) (if eqb (t.kind at) keyword.const then last else at) (t.past at) else last)
          ≡ (if x then last_statement (suc b) (tokens_in words n dims) (if eqb (t.kind at) keyword.const then last else at) (t.past at) else last)
      go true e more = let h = onward at (begun at e) in more _ (omega (arith, h.1)) (omega (arith, h.1))
      go false e more = refl

-- what is left behind the constants
pub record Passing (words : List ℕ) (n at here : ℕ) : Type 0 where
  pub within : here ≤ n
  pub left : (dims : ℕ) → past_constants (suc n) (table_of words n dims) at ≡ past_constants (suc n) (table_of words n dims) here

module _ (words : List ℕ) (n at : ℕ) where
  pub pass_start : at ≤ n → Passing words n at at
  pass_start l = record { within = l; left = λ dims. refl }

  module _ {here : ℕ} (h : Passing words n at here) {k : ℕ} (e : k ≡ word_in words n 0 here) where
    pub pass_end : (k ≡ keyword.const → ⊥) → PastConstants words n at here
    unfolding past_constants
    pass_end d = record { is = λ dims. sym (h.left dims ∙ rw (← e, ne_eqb k keyword.const d) refl); within = h.within }

    module _ (c : k ≡ keyword.const) {u : ℕ} (q : u ≡ linked n here (word_in words n 3 here)) where
      pass_bounds : (here < u) × (u ≤ n)
      pass_bounds = let b = onward words n 0 here (omega (arith, e, c)) in (omega (arith, q, b.1), omega (arith, q, b.2))

      pub pass_less : n - u < n - here
      pass_less = omega (arith, pass_bounds)

      pub pass_more : Passing words n at u
      unfolding past_constants
      pass_more =
          record {
            within = pass_bounds.1;
            left = λ dims.
                h.left dims ∙ turn dims (eqb (word_in words n 0 here) keyword.const) (eq-eqb (word_in words n 0 here) keyword.const (sym e ∙ c))
                ∙ constants_enough words n dims n (suc n) (linked n here (word_in words n 3 here)) (omega (arith, b.1)) (omega arith)
                ∙ ap (past_constants (suc n) (table_of words n dims)) (sym q);
          }
        where
          b : (here < n) × (here < linked n here (word_in words n 3 here)) × (linked n here (word_in words n 3 here) ≤ n)
          b = onward words n 0 here (omega (arith, e, c))

          turn : (dims : ℕ) (x : Bool) → x ≡ true
              → (if x then past_constants n (table_of words n dims) (linked n here (word_in words n 3 here)) else here) ≡ past_constants n (table_of words n dims) (linked n here (word_in words n 3 here))
          turn dims x y = rw y refl

pub ruleset Passings = (pass_start, pass_end, pass_less, pass_more)

-- ---- the last statement

-- what is left behind the statements that are passed, where `last` is the last of them
pub record Lasting (words : List ℕ) (n at last here : ℕ) : Type 0 where
  pub within : last ≤ n
  pub left : (dims : ℕ) → last_statement (suc n) (tokens_in words n dims) n at ≡ last_statement (suc n) (tokens_in words n dims) last here

module _ (words : List ℕ) (n at : ℕ) where
  pub last_start : Lasting words n at n at
  last_start = record { within = omega arith; left = λ dims. refl }

  module _ {last here : ℕ} (h : Lasting words n at last here) {k : ℕ} (e : k ≡ word_in words n 0 here) {b : Bool} (y : b ≡ begins k) where
    pub last_end : b ≡ false → LastStatement words n at last
    unfolding last_statement
    last_end d = record { is = λ dims. sym (h.left dims ∙ rw (← e, ← y, d) refl); within = h.within }

    module _ (c : b ≡ true) {u : ℕ} (q : u ≡ linked n here (word_in words n 3 here)) where
      last_bounds : (here < n) × (here < linked n here (word_in words n 3 here)) × (linked n here (word_in words n 3 here) ≤ n)
      last_bounds = onward words n 0 here (begun words n 0 here (ap begins (sym e) ∙ sym y ∙ c))

      pub last_less : n - u < n - here
      last_less = omega (arith, q, last_bounds)

      pub last_more : {l : ℕ} {m : ℕ} → m ≡ word_in words n 0 here → l ≡ (if eqb m keyword.const then last else here) → Lasting words n at l u
      unfolding last_statement
      last_more {l} {m} f p =
          record {
            within = go (eqb m keyword.const) p;
            left = λ dims.
                h.left dims ∙ turn dims (begins (word_in words n 0 here)) (ap begins (sym e) ∙ sym y ∙ c)
                ∙ through dims n refl
                ∙ ap₂ (λ (a b : ℕ). last_statement (suc n) (tokens_in words n dims) a b) (ap (λ (x : ℕ). if eqb x keyword.const then last else here) (sym f) ∙ sym p) (sym q);
          }
        where
          turn : (dims : ℕ) (x : Bool) → x ≡ true
              → (if x then last_statement n (tokens_in words n dims) (if eqb (word_in words n 0 here) keyword.const then last else here) (linked n here (word_in words n 3 here)) else last)
              ≡ last_statement n (tokens_in words n dims) (if eqb (word_in words n 0 here) keyword.const then last else here) (linked n here (word_in words n 3 here))
          turn dims x y = rw y refl

          through : (dims m : ℕ) → m ≡ n
              → last_statement m (tokens_in words n dims) (if eqb (word_in words n 0 here) keyword.const then last else here) (linked n here (word_in words n 3 here))
              ≡ last_statement (suc n) (tokens_in words n dims) (if eqb (word_in words n 0 here) keyword.const then last else here) (linked n here (word_in words n 3 here))
          through dims zero e = absurd (omega (arith, last_bounds.0))
          through dims (suc m) e = last_enough words n dims m n _ _ (omega (arith, last_bounds.1)) (omega arith)

          go : (x : Bool) → l ≡ (if x then last else here) → l ≤ n
          go true p = omega (arith, p, h.within)
          go false p = omega (arith, p, last_bounds.0)

pub ruleset Lastings = (last_start, last_end, last_less, last_more)

-- ---- the whole statement

-- a link leads to no position past the end
pub link_within : (n i w : ℕ) {u : ℕ} → u ≡ linked n i w → u ≤ n
unfolding linked
link_within n i w e = rw e (go (ltb i w) (ltb n w) refl)
  where
    go : (a b : Bool) → ltb n w ≡ b → (if a then (if b then n else w) else n) ≤ n
    go true true f = omega arith
    go true false f = ltb-false n w f
    go false b f = omega arith

module _ (words : List ℕ) (n f at : ℕ) {i : ℕ} (p : PastConstants words n at i) {o : Bool} (opens : OpensAt words n f i o) where
  pub once_other : not o ≡ true → DecidesMove words n f at false
  unfolding moves_once
  once_other d = record { is = λ dims. rw (← p.is dims, ← opens.is dims, not-true o d) refl }

  module _ (h : not o ≡ false) {j : ℕ} (q : j ≡ linked n i (word_in words n 2 i)) {k : ℕ} (e : k ≡ word_in words n 0 j) where
    pub once_more : (k ≡ keyword.end → ⊥) → DecidesMove words n f at false
    unfolding moves_once
    once_more d = record { is = λ dims. rw (← p.is dims, ← opens.is dims, not-false o h, ← q, ← e, ne_eqb k keyword.end d) refl }

    module _ (g : k ≡ keyword.end) {u : ℕ} (r : u ≡ linked n i (word_in words n 3 i)) {v : ℕ} (s : PastConstants words n u v) where
      pub once_followed : (v ≡ n → ⊥) → DecidesMove words n f at false
      unfolding moves_once
      once_followed d = record { is = λ dims. rw (← p.is dims, ← opens.is dims, not-false o h, ← q, ← e, eq-eqb k keyword.end g, ← r, ← s.is dims, ne_eqb v n d) refl }

      pub once_closed : v ≡ n → {l : ℕ} → LastStatement words n (i + 7) l → {b : Bool} → ClosesAt words n f l b → DecidesMove words n f at b
      unfolding moves_once
      once_closed d y z = record { is = λ dims. z.is dims ∙ rw (← p.is dims, ← opens.is dims, not-false o h, ← q, ← e, eq-eqb k keyword.end g, ← r, ← s.is dims, eq-eqb v n d, ← y.is dims) refl }

pub ruleset Onces = (once_other, once_more, once_followed, once_closed)
