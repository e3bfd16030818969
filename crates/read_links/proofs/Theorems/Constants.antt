-- What constants, ranges and constant declarations keep.
use Prim.Native.Nat.{ℕ, zero, suc, ◌+◌, ◌*◌, ◌≤◌, ◌<◌}
use native.Mathlib.Nat.{le_refl}
use native.Mathlib.Omega.{arith}
use mathlib.Core.Path.{◌≡◌, refl, sym, ap, ◌∙◌, subst, subst₂}
use mathlib.Core.Logic.{◌⊎◌, inl, inr}
use mathlib.Core.Bool.{Bool, true, false, not, ◌||◌}
use mathlib.Core.List.{List}
use lib.Dec.{eqb, leb}
use lib.IntN.{ℤ, pos, negsuc, neg_ℤ}
use lib.ListN.{length}
use borrow.Author.Tests.{lt-ltb, leb-true, leb-false, le-leb, eqb-true, not-false}
use Rattle.value.proofs.Theorems.Truth.{or_either, or_true}
use Rattle.value.specs.Limits.{most_names}
use Rattle.std.specs.Prelude.{if◌then◌else◌}
use Rattle.value.specs.Number.{in_range, within}
use Rattle.value.specs.Worked.{decode_of, encode_of, opposite_of, span_of}
use Rattle.value.proofs.Theorems.Laws.{decode_encode}
use Rattle.token.specs.Kind.{kind, keyword, operation, delimiter}
use Rattle.names.specs.declared.Entry.{Entry}
use Rattle.names.specs.Names.{name_kind, entry_at}
use Rattle.program.specs.Syntax.{Range, range}
use Rattle.program.specs.Table.{word_at}
use Rattle.grammar.specs.Reader.{Input, State, Result, ok, fail, Reader, and_then, ◌>>=◌, ◌>>◌, ◌▷◌, return, next_token, unit, is_kind, again, done, turns, token_of, position, advance, put, is_name, entry_in, fresh, use_name}
use Rattle.grammar.specs.Constants.{is_sign, named_constant, read_constant, read_signed, range_rule, read_range, value_turn, read_values, read_size, array_head, array_constant, simple_constant, constant_value, read_declaration, constants_turn, read_constants}
use Rattle.grammar.proofs.Theorems.Ends.{Gives, bind}
use Rattle.read_links.proofs.Theorems.Steps.{advanced, written, gave, refused, refused_last, regroup, given_as, choose, at_position, at_token, at_state, at_entry, over, wrote, wrote_both, wrote_last, noted_it, named_it, by_found, expected, opened, Turned, repeated}
use Rattle.read_links.proofs.Theorems.Runs.{word_put, both_2, both_3, tokens, head_at, Text, Signable, Sound, Run, stay, join, go_on, write_first, write_plain}
use Rattle.read_links.proofs.Theorems.Naming.{token_value, of_kind, head_is, name_it, still_noted, note_it, found_name}

-- ---- tests

-- a token of one of three kinds
pub of_kinds : {input : Input} {text : List ℕ} {s : State} → Sound input text s → (i a b c : ℕ) → 0 < a → 0 < b → 0 < c → (eqb (token_of input s i).kind a || eqb (token_of input s i).kind b || eqb (token_of input s i).kind c) ≡ true → i < tokens input
of_kinds {input} {text} {s} x i a b c la lb lc q = by (or_either (eqb (token_of input s i).kind a || eqb (token_of input s i).kind b) (eqb (token_of input s i).kind c) q)
  where
    by₂ : (eqb (token_of input s i).kind a ≡ true) ⊎ (eqb (token_of input s i).kind b ≡ true) → i < tokens input
    by₂ (inl h) = of_kind x i a la h
    by₂ (inr h) = of_kind x i b lb h

    by : ((eqb (token_of input s i).kind a || eqb (token_of input s i).kind b) ≡ true) ⊎ (eqb (token_of input s i).kind c ≡ true) → i < tokens input
    by (inl h) = by₂ (or_either _ _ h)
    by (inr h) = of_kind x i c lc h

-- a token that is a name, `cell` or `time`
pub is_name_inside : {input : Input} {text : List ℕ} {s : State} → Sound input text s → (i : ℕ) → is_name (token_of input s i) ≡ true → i < tokens input
unfolding is_name
is_name_inside x i q = of_kinds x i kind.name kind.cell kind.time (omega arith) (omega arith) (omega arith) q

-- a literal is a number without sign
literal_signable : (w : ℕ) → w < 2147483648 → Signable (decode_of w)
literal_signable w l = rw (lt-ltb w 2147483648 l) (omega arith)

negative_signable : (z : ℤ) → Signable z → Signable (neg_ℤ z)
negative_signable (pos zero) l = omega arith
negative_signable (pos (suc n)) l = l
negative_signable (negsuc n) l = l

-- the word of such a number stands for it
signable_range : (z : ℤ) → Signable z → in_range z ≡ true
signable_range (pos n) l = le-leb n 2147483647 l
signable_range (negsuc n) l = simp (le-leb n 2147483647 (omega arith))

pub signable_decoded : (z : ℤ) → Signable z → decode_of (encode_of z) ≡ z
signable_decoded z l = decode_encode z (signable_range z l)

-- the value with the other sign is the negative
opposite_is : (z : ℤ) → Signable z → opposite_of z ≡ neg_ℤ z
opposite_is z l = signable_decoded (neg_ℤ z) (negative_signable z l)

opposite_signable : (z : ℤ) → Signable z → Signable (opposite_of z)
opposite_signable z l = subst Signable (sym (opposite_is z l)) (negative_signable z l)

encoded_signable : (z : ℤ) → Signable z → Signable (decode_of (encode_of z))
encoded_signable z l = subst Signable (sym (signable_decoded z l)) l

-- ---- some tokens with no declaration among them

pub record Piece (input : Input) (text : List ℕ) (s t : State) : Type 0 where
  pub run : Run input text s t
  pub far : s.at < t.at
  pub same : t.count ≡ s.count

module _ {input : Input} {text : List ℕ} where
  pub one_token : {s : State} → Sound input text s → s.at < tokens input → Piece input text s (advanced s)
  one_token x l = record { run = go_on x l; far = omega arith; same = refl }

  pub join_pieces : {s t u : State} → Piece input text s t → Piece input text t u → Piece input text s u
  join_pieces a b = record { run = join a.run b.run; far = omega (arith, a.far, b.far); same = b.same ∙ a.same }

  -- a token of it is written
  pub write_piece : {s t : State} → Sound input text s → Piece input text s t → (i w v : ℕ) → s.at ≤ i → i < t.at → 2 ≤ w → w < 4 → Piece input text s (written t i w v)
  write_piece x p i w v a b c d = record { run = write_plain x p.run p.same i w v a b c d; far = p.far; same = p.same }

-- ---- names in use

-- the state behind a name in use
abbrev pub used : State → ℕ → State
used s slot = written (written (advanced s) s.at 2 (entry_at s.names slot).kind) s.at 3 (entry_at s.names slot).word

pub used_it : {A : Type 0} {input : Input} {s : State} {Q : A → State → Type 0} (slot : ℕ) (h : Entry → Reader A) → Gives input (h (entry_at s.names slot)) (used s slot) Q → Gives input (use_name slot >>= h) s Q
unfolding use_name entry_in position put advance ◌>>=◌ return
used_it slot h x = record { is = x.is }

pub use_piece : {input : Input} {text : List ℕ} {s : State} → Sound input text s → s.at < tokens input → (slot : ℕ) → Piece input text s (used s slot)
use_piece {s = s} x l slot =
    write_piece x (write_piece x (one_token x l) s.at 2 (entry_at s.names slot).kind (le_refl _) (omega arith) (omega arith) (omega arith)) s.at 3 (entry_at s.names slot).word (le_refl _) (omega arith) (omega arith)
    (omega arith)

-- ---- constants and ranges

module _ {input : Input} {text : List ℕ} (T : Text input text) where
  -- a number is read, which is a literal with at most one sign: a token, and a sign before it
  abbrev pub Constant : State → ℤ → State → Type 0
  Constant s z t = Piece input text s t × Signable z × (t.at ≡ s.at + 1)

  abbrev pub Signed : State → ℤ → State → Type 0
  Signed s z t = Piece input text s t × Signable z × (t.at ≡ (if is_sign (token_of input s s.at) then s.at + 2 else s.at + 1))

  pub constant_gives : {s : State} → Sound input text s → Gives input read_constant s (Constant s)
  unfolding read_constant named_constant
  constant_gives {s} x =
      at_token _
      (choose _ literal
      (λ q₁.
      choose _ (λ q. by_found _ false (λ slot f. at_entry slot _ (choose _ (λ c. constant (is_name_inside x s.at q) slot (found_name f).listed c) (λ _. refused 8))) (refused 8)) (λ _. refused 7)))
    where
      literal : eqb (token_of input s s.at).kind kind.literal ≡ true → Gives input (advance >> return (decode_of (token_of input s s.at).value)) s (Constant s)
      literal q =
          let l = of_kind x s.at kind.literal (omega arith) q in
          let e : (token_of input s s.at).value ≡ word_at text s.at 2 = token_value x s.at l ∙ x.ahead (4 * s.at + 2) (omega arith) in
          over (gave _ (one_token x l, literal_signable (token_of input s s.at).value (omega (arith, T.values s.at)), refl))

      constant : s.at < tokens input → (slot : ℕ) → slot < s.count → eqb (entry_at s.names slot).kind name_kind.constant ≡ true → Gives input (use_name slot >> return (decode_of (entry_at s.names slot).word)) s (Constant s)
      constant l slot m c = used_it slot _ (gave _ (use_piece x l slot, (x.entries slot m).small (eqb-true _ _ c), refl))

  pub signed_gives : {s : State} → Sound input text s → Gives input read_signed s (Signed s)
  unfolding read_signed is_sign
  signed_gives {s} x =
      at_token _
      (choose _
      (λ q.
      let p = one_token x (of_kind x s.at operation.minus (omega arith) q) in
      regroup _ _ _ (over (bind (constant_gives p.run.sound) (λ z t h. gave (opposite_of z) (join_pieces p h.0, opposite_signable z h.1, rw (q, or_true (eqb (token_of input s s.at).kind operation.plus)) (omega (arith, h.2)))))))
      (λ q.
      choose _
      (λ q₁.
      let p = one_token x (of_kind x s.at operation.plus (omega arith) q₁) in
      over (given_as (constant_gives p.run.sound) (λ z t h. (join_pieces p h.0, h.1, rw q₁ (omega (arith, h.2))))))
      (λ q₁. given_as (constant_gives x) (λ z t h. (h.0, h.1, rw (q₁, q) h.2)))))

  -- a constant with at most one sign, with the negative whatever its size
  pub exact_signed : Reader ℤ
  exact_signed =
      next_token >>= λ t.
      if is_kind t operation.minus then (advance >> read_constant ▷ neg_ℤ)
      else if is_kind t operation.plus then advance >> read_constant
      else read_constant

  -- no sign takes a constant out of range: in every state that reading can be in, the constant behind a minus has a negative
  pub signs_in_range : {s : State} → Sound input text s → read_signed input s ≡ exact_signed input s
  unfolding read_signed exact_signed next_token advance ◌>>=◌ return
  signs_in_range {s} x = by (is_kind (token_of input s s.at) operation.minus) refl
    where
      rest : Reader ℤ
      rest = if is_kind (token_of input s s.at) operation.plus then advance >> read_constant else read_constant

      behind : is_kind (token_of input s s.at) operation.minus ≡ true → (r : Result (ℤ × State)) → read_constant input (advanced s) ≡ r → and_then r (λ z t. ok (opposite_of z, t)) ≡ and_then r (λ z t. ok (neg_ℤ z, t))
      behind q (ok r) e =
          let l = of_kind x s.at operation.minus (omega arith) q in
          let h = (constant_gives (one_token x l).run.sound).is r.0 r.1 e in
          ap (λ (z : ℤ). ok (z, r.1)) (opposite_is r.0 h.1)
      behind q (fail n p) e = refl

      by : (b : Bool) → is_kind (token_of input s s.at) operation.minus ≡ b → (if b then (advance >> read_constant ▷ opposite_of) else rest) input s ≡ (if b then (advance >> read_constant ▷ neg_ℤ) else rest) input s
      by true q = behind q (read_constant input (advanced s)) refl
      by false q = refl

  -- a range that breaks no rule has at most so many values
  rule_few : (most : ℕ) (low high : ℤ) → range_rule most low high ≡ 0 → span_of low high ≤ most
  unfolding range_rule
  rule_few most low high e = by (eqb (span_of low high) 0) refl (leb (span_of low high) most) refl e
    where
      by : (a : Bool) → eqb (span_of low high) 0 ≡ a → (b : Bool) → leb (span_of low high) most ≡ b → ◌≡◌ {A = ℕ} (if a then 41 else if b then 0 else 42) 0 → span_of low high ≤ most
      by true p b q e = absurd (omega arith)
      by false p true q e = leb-true (span_of low high) most q
      by false p false q e = absurd (omega arith)

  -- a range is read, whose bounds are literals with at most one sign
  pub record Ranged (most : ℕ) (s : State) (r : Range) (t : State) : Type 0 where
    pub piece : Piece input text s t
    pub low_in : Signable r.low
    pub high_in : Signable r.high
    pub few : span_of r.low r.high ≤ most

  pub range_gives : (most : ℕ) {s : State} → Sound input text s → Gives input (read_range most) s (Ranged most s)
  unfolding read_range
  range_gives most {s} x =
      bind (signed_gives x)
      (λ low t h.
      expected delimiter.dots 7
      (λ q.
      let p = join_pieces h.0 (one_token h.0.run.sound (of_kind h.0.run.sound t.at delimiter.dots (omega arith) q)) in
      bind (signed_gives p.run.sound)
      (λ high u k.
      choose (eqb (range_rule most low high) 0)
      (λ c. gave (range low high) (record { piece = join_pieces p k.0; low_in = h.1; high_in = k.1; few = rule_few most low high (eqb-true _ _ c) }))
      (λ _. refused_last (range_rule most low high)))))

  -- ---- constant declarations

  -- the values of an array constant's list, whose first stands at the position of s₀: k of them are read
  record Listing (s₀ : State) (k : ℕ) (s : State) : Type 0 where
    pub run : Run input text s₀ s
    pub same : s.count ≡ s₀.count
    pub long : s₀.at + k + k ≤ s.at

  record Listed (size : ℕ) (s₀ : State) (s : State) : Type 0 where
    pub run : Run input text s₀ s
    pub same : s.count ≡ s₀.count
    pub far : s₀.at < s.at
    pub long : s.noted.number ≡ 0 → s₀.at + size ≤ s.at

  values_gives : (size : ℕ) {s₀ : State} → Sound input text s₀ → Gives input (read_values size s₀.at) s₀ (λ _ t. Listed size s₀ t)
  unfolding read_values value_turn
  values_gives size {s₀} x = repeated (value_turn size s₀.at) turn turns 0 s₀ (record { run = stay x; same = refl; long = omega arith })
    where
      turn : (k : ℕ) (s : State) → Listing s₀ k s → Gives input (value_turn size s₀.at k) s (Turned (Listing s₀) (λ _ _ _ t. Listed size s₀ t) k s)
      turn k s h =
          bind (signed_gives h.run.sound)
          (λ z t p.
          let r : Run input text s₀ (written t (s₀.at + k) 3 (encode_of z)) = write_plain x (join h.run p.0.run) (p.0.same ∙ h.same) (s₀.at + k) 3 (encode_of z) (omega arith) (omega (arith, h.long, p.0.far)) (omega arith) (omega arith) in
          wrote _ _ _
          (at_token _
          (choose _
          (λ q.
          choose (leb size (k + 1)) (λ _. refused 45)
          (λ c. over (gave (again (k + 1)) (record { run = join r (go_on r.sound (of_kind r.sound t.at delimiter.comma (omega arith) q)); same = p.0.same ∙ h.same; long = omega (arith, h.long, p.0.far) }, λ _ u y. y))))
          (λ _.
          choose (leb size (k + 1))
          (λ c. gave (done unit) (record { run = r; same = p.0.same ∙ h.same; far = omega (arith, h.long, p.0.far); long = λ _. omega (arith, h.long, p.0.far, leb-true size (k + 1) c) }))
          (λ _. noted_it 45 (λ place. gave (done unit) (record { run = note_it r 45 place (omega arith); same = p.0.same ∙ h.same; far = omega (arith, h.long, p.0.far); long = λ z. absurd (still_noted t.noted 45 place (omega arith) z) })))))))

  size_gives : {s : State} → Sound input text s → Gives input read_size s (λ z t. Piece input text s t)
  unfolding read_size
  size_gives x = bind (constant_gives x) (λ z t h. choose (within (pos 1) (pos 1024) z) (λ _. gave z h.0) (λ _. refused_last 44))

  -- over a token of a kind, behind a piece
  pub past_token : {s t : State} → Piece input text s t → (k : ℕ) → 0 < k → eqb (token_of input t t.at).kind k ≡ true → Piece input text s (advanced t)
  past_token {s} {t} p k l q = join_pieces p (one_token p.run.sound (of_kind p.run.sound t.at k l q))

  head_gives : (free : Bool) {s : State} → Sound input text s → s.at < tokens input → Gives input (array_head free) s (λ z t. Piece input text s t)
  unfolding array_head
  head_gives free {s} x l =
      opened free
      (λ _.
      let p = one_token x l in
      expected delimiter.unbracket 7
      (λ q₁.
      let p₁ = past_token p delimiter.unbracket (omega arith) q₁ in
      expected keyword.for 7 (λ q₂. let p₂ = past_token p₁ keyword.for (omega arith) q₂ in given_as (size_gives p₂.run.sound) (λ z t h. join_pieces p₂ h))))

  -- a declaration: from its `const` on, which stands at s₀, and its name at the position behind
  module _ {s₀ : State} (x₀ : Sound input text s₀) (i : ℕ) (i-is : i ≡ s₀.at + 1) (i-in : i < tokens input) (a_name : head_at text i ≡ kind.name) (few : s₀.count < 256) where
    array_gives : (free : Bool) {s : State} → Piece input text s₀ s → i < s.at → s.at < tokens input → Gives input (array_constant free i) s (λ _ t. Run input text s₀ t × (s₀.at < t.at))
    unfolding array_constant
    array_gives free {s} p₀ i-far l =
        bind (head_gives free p₀.run.sound l)
        (λ z s₁ p₁.
        expected delimiter.assign 7
        (λ q.
        let p₂ = past_token (join_pieces p₀ p₁) delimiter.assign (omega arith) q in
        at_position _
        (bind (values_gives (encode_of z) p₂.run.sound)
        (λ _ s₂ v.
        let r₂ : Run input text s₀ s₂ = join p₂.run v.run in
        let c₂ : s₂.count ≡ s₀.count = v.same ∙ p₂.same in
        let r₃ : Run input text s₀ (written s₂ i 2 (encode_of z)) = write_plain x₀ r₂ c₂ i 2 (encode_of z) (omega arith) (omega (arith, v.far, p₁.far)) (omega arith) (omega arith) in
        let r₄ : Run input text s₀ (written (written s₂ i 2 (encode_of z)) i 3 (s₁.at + 1)) = write_plain x₀ r₃ c₂ i 3 (s₁.at + 1) (omega arith) (omega (arith, v.far, p₁.far)) (omega arith) (omega arith) in
        wrote_both _ _ _
        (named_it i name_kind.array i _
        (gave unit (
          name_it r₄ i name_kind.array i i-in a_name (omega arith) (omega arith) (omega arith) (λ q. absurd (omega arith))
              (λ _.
              let l₄ : 4 * i + 3 < length s₂.words = omega (arith, v.run.sound.size, T.few) in
              let w₂ = both_2 s₂.words i (encode_of z) (s₁.at + 1) l₄ in
              let w₃ = both_3 s₂.words i (encode_of z) (s₁.at + 1) l₄ in
              (omega arith, omega (arith, v.far, p₁.far), omega (arith, p₀.far, p₁.far), λ c. omega (arith, v.long c)))
              (λ q. absurd (omega arith)) (λ q. absurd (omega arith)),
          omega (arith, v.far, p₁.far, p₀.far),
        )))))))

    simple_gives : {s : State} → Piece input text s₀ s → s.at < tokens input → Gives input (simple_constant i) s (λ _ t. Run input text s₀ t × (s₀.at < t.at))
    unfolding simple_constant
    simple_gives {s} p l =
        over
        (let p₁ = join_pieces p (one_token p.run.sound l) in
        bind (signed_gives p₁.run.sound)
        (λ z t h.
        let p₂ = join_pieces p₁ h.0 in
        named_it i name_kind.constant (encode_of z) _
        (gave unit (name_it p₂.run i name_kind.constant (encode_of z) i-in a_name (omega (arith, p₂.same)) (omega arith) (omega arith) (λ _. encoded_signable z h.1) (λ q. absurd (omega arith)) (λ q. absurd (omega arith)) (λ q. absurd (omega arith)), p₂.far))))

    value_gives : (free : Bool) {s : State} → Piece input text s₀ s → i < s.at → Gives input (constant_value free i) s (λ _ t. Run input text s₀ t × (s₀.at < t.at))
    unfolding constant_value
    value_gives free {s} p far =
        at_token _
        (choose _ (λ q. simple_gives p (of_kind p.run.sound s.at delimiter.assign (omega arith) q))
        (λ _. choose _ (λ q. array_gives free p far (of_kind p.run.sound s.at delimiter.bracket (omega arith) q)) (λ _. refused 7)))

  -- over a name that is declared: its position, and that the list has room
  pub record Fresh (full : ℕ) (s : State) (i : ℕ) (t : State) : Type 0 where
    pub not_full : full ≡ 0
    pub here : i ≡ s.at
    pub inside : i < tokens input
    pub a_name : head_at text i ≡ kind.name
    pub few : s.count < 256
    pub piece : Piece input text s t
    pub next : t ≡ advanced s

  pub fresh_gives : (fields : Bool) (full : ℕ) {s : State} → Sound input text s → Gives input (fresh fields full) s (Fresh full s)
  unfolding fresh
  fresh_gives fields full {s} x =
      at_token _
      (at_state _
      (choose (not (is_name (token_of input s s.at))) (λ _. refused 7)
      (λ _.
      choose (not (is_kind (token_of input s s.at) kind.name)) (λ _. refused 9)
      (λ q.
      by_found _ fields (λ _ _. refused 9)
      (choose (not (eqb full 0)) (λ _. refused full)
      (λ z.
      choose (leb most_names s.count) (λ _. refused 15)
      (λ c. let k = not-false (is_kind (token_of input s s.at) kind.name) q in let l = of_kind x s.at kind.name (omega arith) k in over (gave s.at (record { not_full = eqb-true full 0 (not-false (eqb full 0) z); here = refl; inside = l; a_name = head_is x s.at kind.name (omega arith) k; few = leb-false most_names s.count c; piece = one_token x l; next = refl })))))))))

  pub fresh_it : {A : Type 0} {Q : A → State → Type 0} (fields : Bool) (full : ℕ) (h : ℕ → Reader A) {s : State} → Sound input text s → (full ≡ 0 → s.at < tokens input → head_at text s.at ≡ kind.name → s.count < 256 → Gives input (h s.at) (advanced s) Q)
      → Gives input (fresh fields full >>= h) s Q
  fresh_it {A} {Q} fields full h {s} x k =
      bind (fresh_gives fields full x)
      (λ i t f.
      subst₂ (λ (j : ℕ) (u : State). Gives input (h j) u Q) (sym f.here) (sym f.next)
      (k f.not_full (subst (λ (j : ℕ). j < tokens input) f.here f.inside) (subst (λ (j : ℕ). head_at text j ≡ kind.name) f.here f.a_name) f.few))

  -- a declaration, with the position past it at its `const`
  pub record Declares (s t : State) : Type 0 where
    pub run : Run input text s t
    pub far : s.at < t.at
    pub past : word_at t.words s.at 3 ≡ t.at

  pub declaration_gives : (free : Bool) {s : State} → Sound input text s → s.at < tokens input → Gives input (read_declaration free) s (λ _ t. Declares s t)
  unfolding read_declaration
  declaration_gives free {s} x l =
      at_position _
      (over
      (let p = one_token x l in
      bind (fresh_gives false 0 p.run.sound)
      (λ i t f.
      bind (value_gives x i f.here f.inside f.a_name f.few free (join_pieces p f.piece) (omega (arith, f.here, f.piece.far)))
      (λ _ u h.
      at_position _
      (wrote_last s.at 3 u.at
      (record {
        run = write_first x h.0 3 u.at h.1 (omega arith) (omega arith);
        far = h.1;
        past = word_put u.words s.at 3 u.at (omega (arith, h.0.sound.size, h.1, h.0.sound.within, T.few));
      }))))))

  -- the constants before the cell declaration
  pub constants_gives : {s : State} → Sound input text s → Gives input read_constants s (λ _ t. Run input text s t)
  unfolding read_constants constants_turn
  constants_gives {s = s₀} x = repeated constants_turn turn turns unit s₀ (stay x)
    where
      turn : (y : Unit {0}) (s : State) → Run input text s₀ s → Gives input (constants_turn y) s (Turned (λ _ t. Run input text s₀ t) (λ _ _ _ t. Run input text s₀ t) y s)
      turn y s r =
          at_token _
          (choose _
          (λ q. bind (declaration_gives true r.sound (of_kind r.sound s.at keyword.const (omega arith) q)) (λ _ t h. gave (again unit) (join r h.run, λ _ u z. z)))
          (λ _. gave (done unit) r))
